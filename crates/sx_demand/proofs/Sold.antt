-- What the sums of a table's columns and rows are.
use Rattle.std.proofs.Common.{◌≡◌, ℕ, ◌+◌, ◌*◌, ◌<◌, ◌≤◌, ◌++◌, List, length, map, take, pos, ◌-ℤ◌, ◌∙◌, arith}
use Rattle.std.specs.List.{range_with_len}
use Rattle.std.proofs.Math.Seq.{take-append_seam}
use Rattle.std.proofs.lemmas.List.FromFn.{fill_by_all, get_or-map-range_with_len, length-map-range_with_len}
use Rattle.std.proofs.lemmas.Nat.{div-mul-add, mod-mul-add}
use Rattle.sx_curve.specs.declared.quote.Quote.{Quote}
use Rattle.sx_curve.specs.Demand.{net_of, sold_value, value_into, value_out, volume_of}
use Rattle.sx_demand.specs.Excess.{nets_of, volumes_of}
use Rattle.sx_demand.specs.declared.table.Entry.{Entry}
use Rattle.sx_demand.specs.Table.{IsTable, into_in, net_in, no_entry, out_in, value_in, volume_in}
use Rattle.sx_demand.proofs.RangeSums.{sum_same}

-- what is written over the first elements of a list, as many as are taken
pub written : {X : Type 0} (n : ℕ) (xs ys : List X) → n ≡ length xs → take n (xs ++ ys) ≡ xs
written n xs ys same = rw same (take-append_seam xs ys)

-- two lists of the values of functions that are the same
pub map_same : {X : Type 0} (f g : ℕ → X) (n : ℕ) (d : X) → ((k : ℕ) → k < n → f k ≡ g k)
    → map f (range_with_len 0 n) ≡ map g (range_with_len 0 n)
map_same f g n d same =
    fill_by_all g (map f (range_with_len 0 n)) n d (length-map-range_with_len f 0 n)
    (λ k lt. get_or-map-range_with_len f 0 n k k d lt (omega arith) ∙ same k lt)

module _ (quotes : List Quote) (prices : List ℕ) (j : ℕ) (entries : List Entry)
    (table : IsTable quotes prices j entries) (few : length prices ≤ 32) where
  entry_is : (sell buy : ℕ) → sell < length prices → buy < length prices
      → value_in entries (sell * 32 + buy) ≡ sold_value quotes prices j sell buy
  entry_is sell buy sell_lt buy_lt =
      let asset : buy < 32 = omega arith in
      let row = div-mul-add sell 32 buy asset in
      let column = mod-mul-add sell 32 buy asset in
      (table (sell * 32 + buy) no_entry (omega arith)).sold (omega arith)
      ∙ (λ i. sold_value quotes prices j (row i) (column i))

  into_is : (asset : ℕ) → asset < length prices
      → into_in entries (length prices) asset ≡ value_into quotes prices j asset
  unfolding value_into
  into_is asset lt = sum_same (λ sell. value_in entries (sell * 32 + asset))
      (λ sell. sold_value quotes prices j sell asset) (length prices) (λ sell sell_lt. entry_is sell asset sell_lt lt)

  out_is : (asset : ℕ) → asset < length prices → out_in entries (length prices) asset ≡ value_out quotes prices j asset
  unfolding value_out
  out_is asset lt = sum_same (λ buy. value_in entries (asset * 32 + buy))
      (λ buy. sold_value quotes prices j asset buy) (length prices) (λ buy buy_lt. entry_is asset buy lt buy_lt)

  pub nets_are : map (net_in entries (length prices)) (range_with_len 0 (length prices)) ≡ nets_of quotes prices j
  nets_are = map_same (net_in entries (length prices)) (net_of quotes prices j) (length prices) (pos 0)
      (λ asset lt i. pos (into_is asset lt i) -ℤ pos (out_is asset lt i))

  pub volumes_are : map (volume_in entries (length prices)) (range_with_len 0 (length prices))
      ≡ volumes_of quotes prices j
  volumes_are = map_same (volume_in entries (length prices)) (volume_of quotes prices j) (length prices) 0
      (λ asset lt i. into_is asset lt i + out_is asset lt i)
