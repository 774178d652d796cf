-- The sums of a table's columns and rows as they are written.
use Rattle.std.proofs.Common.{◌≡◌, ℕ, ◌+◌, ◌*◌, ◌<◌, ◌≤◌, ◌^◌, List, All, length, get_or, set, pos, ◌-ℤ◌, unsigned_abs}
use Rattle.std.proofs.Common.{◌⊎◌, inl, inr, ap, ◌∙◌, arith}
use Rattle.std.proofs.lemmas.Bool.{cases_lt}
use Rattle.std.proofs.lemmas.Grind.{get_or-set_at}
use Rattle.std.proofs.lemmas.Int.{ints}
use Rattle.std.proofs.lemmas.List.{get_or-set_other}
use Rattle.sx_demand.specs.declared.table.Entry.{Entry}
use Rattle.sx_demand.specs.Table.{into_in, net_in, no_entry, out_in, value_in, volume_in}
use Rattle.sx_demand.proofs.RangeSums.{sum_at_most}

-- one more element of a list is written
pub one_more : {X : Type 0} (f : ℕ → X) (xs : List X) (n : ℕ) (x : X) → n < length xs → x ≡ f n
    → ((k : ℕ) (d : X) → k < n → get_or xs k d ≡ f k)
    → (k : ℕ) (d : X) → k < n + 1 → get_or (set xs n x) k d ≡ f k
one_more {X} f xs n x inside is before k d less = by_cases (cases_lt k n) where
  by_cases : (k < n) ⊎ (n ≤ k) → get_or (set xs n x) k d ≡ f k
  by_cases (inl lt) = get_or-set_other xs n k x d (λ e. absurd (omega (arith, e, lt))) ∙ before k d lt
  by_cases (inr le) =
      let same : k ≡ n = omega arith in
      get_or-set_at xs n k x d same inside ∙ is ∙ ap f (omega arith)

-- those after it stay
pub rest_stays : {X : Type 0} (f : ℕ → X) (xs : List X) (n m : ℕ) (x : X)
    → ((k : ℕ) (d : X) → n ≤ k → k < m → get_or xs k d ≡ f k)
    → (k : ℕ) (d : X) → n + 1 ≤ k → k < m → get_or (set xs n x) k d ≡ f k
rest_stays f xs n m x before k d le lt =
    get_or-set_other xs n k x d (λ e. absurd (omega (arith, e, le))) ∙ before k d (omega arith) lt

-- a difference is no more than the greater
pub apart : (a b most : ℕ) → a ≤ most → b ≤ most → unsigned_abs (pos a -ℤ pos b) ≤ most
apart a b most a_le b_le = omega (arith, ints)

module _ (entries : List Entry) (n : ℕ) (full : length entries ≡ 32 * n) (few : n ≤ 32)
    (in_range : All (λ (entry : Entry). entry.value ≤ 2 ^ 102) entries) where
  pub entry_at_most : (sell buy : ℕ) → sell < n → buy < n → value_in entries (sell * 32 + buy) ≤ 2 ^ 102
  entry_at_most sell buy sell_lt buy_lt = in_range (sell * 32 + buy) no_entry (omega arith)

  pub into_at_most : (rows asset : ℕ) → rows ≤ n → asset < n → into_in entries rows asset ≤ rows * 2 ^ 102
  into_at_most rows asset le lt = sum_at_most (λ sell. value_in entries (sell * 32 + asset)) rows (2 ^ 102)
      (λ sell sell_lt. entry_at_most sell asset (omega arith) lt)

  pub out_at_most : (columns asset : ℕ) → columns ≤ n → asset < n → out_in entries columns asset ≤ columns * 2 ^ 102
  out_at_most columns asset le lt = sum_at_most (λ buy. value_in entries (asset * 32 + buy)) columns (2 ^ 102)
      (λ buy buy_lt. entry_at_most asset buy lt (omega arith))

  pub net_at_most : (asset : ℕ) → asset < n → unsigned_abs (net_in entries n asset) ≤ 2 ^ 107
  net_at_most asset lt =
      let into : into_in entries n asset ≤ 2 ^ 107 = omega (arith, into_at_most n asset (omega arith) lt) in
      let out : out_in entries n asset ≤ 2 ^ 107 = omega (arith, out_at_most n asset (omega arith) lt) in
      apart (into_in entries n asset) (out_in entries n asset) (2 ^ 107) into out

  pub volume_at_most : (asset : ℕ) → asset < n → volume_in entries n asset ≤ 2 ^ 108
  volume_at_most asset lt =
      omega (arith, into_at_most n asset (omega arith) lt, out_at_most n asset (omega arith) lt)
