-- What the buckets of an index say of the ids.
use Rattle.std.proofs.Common.{◌≡◌, ◌≢◌, ℕ, zero, suc, ◌+◌, ◌-◌, ◌*◌, ◌/◌, ◌^◌, ◌<◌, ◌≤◌, List, Result, Err, length}
use Rattle.std.proofs.Common.{take, drop, get_or, Some, inl, inr, sym, ap, subst, min, ◌∙◌, arith}
use Rattle.std.specs.Prelude.{slice_get, Contains}
use Rattle.std.specs.Ordering.{nat_cmp}
use Rattle.std.specs.List.Sorted.{IsStrictlyIncreasing, IsSearchInRange, IsBinarySearchResult}
use Rattle.std.specs.Int.Count.{count_leading_zeros}
use Rattle.std.proofs.lemmas.Bool.{cases_lt}
use Rattle.std.proofs.lemmas.List.{get_or_default, get_or-take, get_or-drop, length-take, length-drop}
use Rattle.std.proofs.lemmas.List.Elements.{Contains-get_or}
use Rattle.std.proofs.lemmas.Option.{get_or_from_slice_get}
use Rattle.std.proofs.lemmas.Nat.{leading_top, shr_below}
use Rattle.std.proofs.Math.Nat.{pow-suc, zero-div}
use Rattle.std.proofs.Math.Pow.{shr_mono, pow_mono}
use Rattle.sx_ledger.specs.Buckets.{IsBegin, AreBegins, AreBuckets}
use Rattle.sx_ledger.proofs.SearchNumbers.{rises_far, searched}

-- a later id is of no earlier bucket
pub buckets_rise : (xs : List ℕ) → IsStrictlyIncreasing xs → (shift i j : ℕ) → i ≤ j → j < length xs
    → get_or xs i 0 / 2 ^ shift ≤ get_or xs j 0 / 2 ^ shift
buckets_rise xs up shift i j le lt =
    let same : i + (j - i) ≡ j = omega arith in
    let far : get_or xs i 0 ≤ get_or xs (i + (j - i)) 0 = rises_far xs up i (j - i) (omega arith) in
    shr_mono shift (rw same at far)

-- a bucket ends no earlier than it begins
pub begins_rise : (xs : List ℕ) (shift b p q : ℕ) → IsBegin xs shift b p → IsBegin xs shift (b + 1) q → p ≤ q
begins_rise xs shift b p q first second =
    elim (cases_lt q p) [
      | inl lt ↦ let low = first.earlier q lt in
          let high = second.later q (omega arith) (omega (arith, first.within)) in absurd (omega arith)
      | inr le ↦ le
    ]

-- an id beyond the last bucket is not there
pub past_last : (xs : List ℕ) (shift : ℕ) (begins : List ℕ) → AreBuckets xs shift begins → (x : ℕ)
    → length begins - 1 ≤ x / 2 ^ shift → Contains xs x → ⊥
past_last xs shift begins buckets x far (k, lt, here) =
    let is : get_or xs k 0 ≡ x = get_or_default xs k 0 x lt ∙ here in
    let covered : get_or xs k 0 / 2 ^ shift + 1 < length begins = buckets.covered k lt in
    omega (arith, far, rw is at covered)

-- what a read of the places gives
pub begin_at : (xs : List ℕ) (shift : ℕ) (begins : List ℕ) → AreBegins xs shift begins → (b p d : ℕ)
    → b < length begins → p ≡ get_or begins b d → IsBegin xs shift b p
begin_at xs shift begins are b p d lt is =
    subst (IsBegin xs shift b) (sym (is ∙ get_or_default begins b d 0 lt)) (are b lt)

-- the last of rising numbers is the greatest
pub last_greatest : (xs : List ℕ) → IsStrictlyIncreasing xs → (x : ℕ) → slice_get xs (length xs - 1) ≡ Some x
    → (k : ℕ) → k < length xs → get_or xs k 0 ≤ x
last_greatest xs up x is k lt =
    let same : k + (length xs - 1 - k) ≡ length xs - 1 = omega arith in
    let far : get_or xs k 0 ≤ get_or xs (k + (length xs - 1 - k)) 0 =
    rises_far xs up k (length xs - 1 - k) (omega arith) in
    let last : get_or xs (length xs - 1) 0 ≡ x = get_or_from_slice_get xs (length xs - 1) x 0 is in
    rw (← last) (rw same at far)

-- of the greatest id less than twice the count is left
pub few_left : (greatest count : ℕ) → greatest < 2 ^ 64 → 1 ≤ count → count < 2 ^ 64
    → greatest / 2 ^ (64 - count_leading_zeros 64 greatest - (64 - count_leading_zeros 64 count)) < 2 * count
few_left zero count fits some count_fits =
    let shift = 64 - count_leading_zeros 64 zero - (64 - count_leading_zeros 64 count) in
    rw (zero-div (2 ^ shift)) (omega arith)
few_left (suc n) count fits some count_fits =
    let g = leading_top 64 (suc n) (omega arith) fits in
    let c = leading_top 64 count (omega arith) count_fits in
    let s = g.0 - c.0 in
    let is : 64 - count_leading_zeros 64 (suc n) - (64 - count_leading_zeros 64 count) ≡ s = omega (arith, g.1, c.1) in
    let wide : 2 ^ suc g.0 ≤ 2 ^ (suc c.0 + s) = pow_mono (omega arith) in
    let below : suc n / 2 ^ s < 2 ^ suc c.0 = shr_below (suc n) (suc c.0) s (omega (arith, g.3)) in
    rw is (omega (arith, c.2, pow-suc 2 c.0))

-- the part of rising numbers between two places rises
between_rises : (xs : List ℕ) → IsStrictlyIncreasing xs → (p q : ℕ) → q ≤ length xs
    → IsStrictlyIncreasing (take (q - p) (drop p xs))
between_rises xs up p q le k lt =
    let long = length-take (q - p) (drop p xs) in
    let left = length-drop p xs in
    let this : get_or (take (q - p) (drop p xs)) k 0 ≡ get_or xs (p + k) 0 =
    get_or-take (q - p) (drop p xs) k 0 (omega arith) ∙ get_or-drop p xs k 0 in
    let next : get_or (take (q - p) (drop p xs)) (k + 1) 0 ≡ get_or xs (p + (k + 1)) 0 =
    get_or-take (q - p) (drop p xs) (k + 1) 0 (omega arith) ∙ get_or-drop p xs (k + 1) 0 in
    let same : p + (k + 1) ≡ p + k + 1 = omega arith in
    rw (this, next) (rw same (up (p + k) (omega arith)))

-- where a binary search between two places finds nothing, the number is not there
pub absent_between : (xs : List ℕ) → IsStrictlyIncreasing xs → (x p q : ℕ) → q ≤ length xs → (r : Result ℕ ℕ)
    → IsSearchInRange r (length (take (q - p) (drop p xs)))
    → IsBinarySearchResult (λ y. nat_cmp y x) (take (q - p) (drop p xs)) r
    → (at : ℕ) → r ≡ Err at → (k : ℕ) → p ≤ k → k < q → get_or xs k 0 ≢ x
absent_between xs up x p q le r in_range result at is k from before here =
    let part = take (q - p) (drop p xs) in
    let both = searched part (between_rises xs up p q le) x r in_range result in
    let long : length part ≡ min (q - p) (length (drop p xs)) = length-take (q - p) (drop p xs) in
    let left = length-drop p xs in
    let within : k - p < length part = omega arith in
    let same : p + (k - p) ≡ k = omega arith in
    let there : get_or part (k - p) 0 ≡ x =
    get_or-take (q - p) (drop p xs) (k - p) 0 (omega arith) ∙ get_or-drop p xs (k - p) 0
    ∙ ap (λ (i : ℕ). get_or xs i 0) same ∙ here in
    (rw is at both).1 (subst (Contains part) there (Contains-get_or part (k - p) 0 within))
