-- What the search keeps, and what it mends.
use Rattle.std.proofs.Common.{◌≡◌, ℕ, zero, suc, ◌+◌, ◌-◌, ◌<◌, ◌≤◌, max, false, cond, not, ◌&&◌, ◌==◌, List, map}
use Rattle.std.proofs.Common.{length, get_or, All, sum_by, ℤ, pos, ◌-ℤ◌, nat_lt, nat_le, unsigned_abs, int_lt, refl}
use Rattle.std.proofs.Common.{sym, ap, subst, ◌∙◌, arith}
use Rattle.std.specs.List.{range_with_len}
use Rattle.std.specs.List.Sorted.{IsPermutation}
use Rattle.std.proofs.lemmas.Bool.{and_left, cond-false, cond_both, eq-eqb, ltb-true, not_from_true}
use Rattle.std.proofs.lemmas.List.FromFn.{get_or-map-range_with_len, length-map-range_with_len}
use Rattle.sx_price.specs.Limits.{IsPrice}
use Rattle.sx_curve.specs.declared.quote.Quote.{Quote}
use Rattle.sx_curve.specs.Demand.{assets_of, imbalance, net_of, price_of, value_into, value_out, volume_of}
use Rattle.sx_curve.specs.Laws.{BalancedStays, NoRoundsStay, SearchKeepsLength, SearchKeepsRange, SearchMends}
use Rattle.sx_curve.specs.Laws.{SearchPermuted}
use Rattle.sx_curve.specs.Search.{Held, after_trial, cut_to_range, first_held, goes_on, held_after, moved_price}
use Rattle.sx_curve.specs.Search.{price_change, trial_prices}
use Rattle.sx_curve.proofs.PairValues.{sold_permuted}

-- ---- what each trial keeps

-- a fact of the prices that are held, which a trial keeps, holds at the end
kept : (quotes : List Quote) (j : ℕ) (P : List ℕ → Type 0)
    → ((held : Held) → P held.prices → P (after_trial quotes j held).prices) → (trials : ℕ) (held : Held)
    → P held.prices
    → P (held_after quotes j trials held).prices
unfolding held_after
kept quotes j P step zero held start = start
kept quotes j P step (suc trials) held start =
    cond_both (goes_on quotes j held) (held_after quotes j trials (after_trial quotes j held)) held
    (λ (end : Held). P end.prices)
    (λ on. kept quotes j P step trials (after_trial quotes j held) (step held start)) (λ off. start)

-- what is held after a trial is the trial where it has less imbalance, and what was held else
either : (quotes : List Quote) (j : ℕ) (P : List ℕ → Type 0) (held : Held)
    → (imbalance quotes (trial_prices quotes j held) j < imbalance quotes held.prices j
    → P (trial_prices quotes j held))
    → P held.prices
    → P (after_trial quotes j held).prices
unfolding after_trial
either quotes j P held tried start =
    let trial = trial_prices quotes j held in
    cond_both (nat_lt (imbalance quotes trial j) (imbalance quotes held.prices j))
    (record { prices = trial; exponent = max 1 (held.exponent - 1) })
    (record { prices = held.prices; exponent = held.exponent + 1 })
    (λ (end : Held). P end.prices)
    (λ less. tried (ltb-true _ _ less)) (λ no. start)

-- ---- the number of prices

trial_length : (quotes : List Quote) (j : ℕ) (held : Held) → length (trial_prices quotes j held) ≡ length held.prices
unfolding trial_prices
trial_length quotes j held = length-map-range_with_len _ 0 (length held.prices)

pub search_keeps_length : SearchKeepsLength
search_keeps_length first quotes prices j rounds =
    let same = λ (end : List ℕ). length end ≡ length prices in
    kept quotes j same
    (λ held start. either quotes j same held (λ less. trial_length quotes j held ∙ start) start) rounds
    (first_held first prices) refl

-- ---- their range

cut_is_price : (price : ℕ) → IsPrice (cut_to_range price)
cut_is_price price = (omega arith, omega arith)

moved_is_price : (k price : ℕ) (net : ℤ) (volume : ℕ) → IsPrice price → IsPrice (moved_price k price net volume)
moved_is_price k price net volume in_range =
    let change = price_change k price (unsigned_abs net) volume in
    let target = cond (int_lt (pos 0) net) (price + change) (price - change) in
    cond_both (volume == 0) price (cut_to_range target) IsPrice (λ none. in_range) (λ some. cut_is_price target)

trial_in_range : (quotes : List Quote) (j : ℕ) (held : Held) → All IsPrice held.prices
    → All IsPrice (trial_prices quotes j held)
unfolding trial_prices
trial_in_range quotes j held in_range k d lt =
    let move = λ (asset : ℕ). moved_price held.exponent (price_of held.prices asset) (net_of quotes held.prices j asset)
    (volume_of quotes held.prices j asset) in
    let below : k < length held.prices = omega (arith, length-map-range_with_len move 0 (length held.prices)) in
    let is : get_or (map move (range_with_len 0 (length held.prices))) k d ≡ move k =
    get_or-map-range_with_len move 0 (length held.prices) k k d below (omega arith) in
    subst IsPrice (sym is)
    (moved_is_price held.exponent (price_of held.prices k) (net_of quotes held.prices j k)
    (volume_of quotes held.prices j k) (in_range k 0 below))

pub search_keeps_range : SearchKeepsRange
search_keeps_range first quotes prices j rounds in_range =
    kept quotes j (All IsPrice)
    (λ held start. either quotes j (All IsPrice) held (λ less. trial_in_range quotes j held start) start) rounds
    (first_held first prices) in_range

-- ---- the imbalance

pub search_mends : SearchMends
search_mends first quotes prices j rounds =
    let less = λ (end : List ℕ). imbalance quotes end j ≤ imbalance quotes prices j in
    kept quotes j less (λ held start. either quotes j less held (λ falls. omega arith) start) rounds
    (first_held first prices) (omega arith)

pub no_rounds_stay : NoRoundsStay
unfolding held_after
no_rounds_stay first quotes prices j = refl

pub balanced_stays : BalancedStays
unfolding held_after
balanced_stays first quotes prices j zero balanced = refl
balanced_stays first quotes prices j (suc rounds) balanced =
    let start = first_held first prices in
    let off : goes_on quotes j start ≡ false = and_left _ _ (not_from_true _ (eq-eqb _ 0 balanced)) in
    ap (λ (end : Held). end.prices)
    (cond-false (goes_on quotes j start) (held_after quotes j rounds (after_trial quotes j start)) start off)

-- ---- the order of the quotes

module _ (xs ys : List Quote) (h : IsPermutation xs ys) where
  into_permuted : (prices : List ℕ) (j asset : ℕ) → value_into ys prices j asset ≡ value_into xs prices j asset
  unfolding value_into
  into_permuted prices j asset =
      λ i. sum_by (λ sell. sold_permuted xs ys prices j sell asset h i) (assets_of prices)

  out_permuted : (prices : List ℕ) (j asset : ℕ) → value_out ys prices j asset ≡ value_out xs prices j asset
  unfolding value_out
  out_permuted prices j asset =
      λ i. sum_by (λ buy. sold_permuted xs ys prices j asset buy h i) (assets_of prices)

  net_permuted : (prices : List ℕ) (j asset : ℕ) → net_of ys prices j asset ≡ net_of xs prices j asset
  net_permuted prices j asset = λ i. pos (into_permuted prices j asset i) -ℤ pos (out_permuted prices j asset i)

  volume_permuted : (prices : List ℕ) (j asset : ℕ) → volume_of ys prices j asset ≡ volume_of xs prices j asset
  volume_permuted prices j asset = λ i. into_permuted prices j asset i + out_permuted prices j asset i

  imbalance_permuted : (prices : List ℕ) (j : ℕ) → imbalance ys prices j ≡ imbalance xs prices j
  unfolding imbalance
  imbalance_permuted prices j =
      λ i. sum_by (λ asset. unsigned_abs (net_permuted prices j asset i)) (assets_of prices)

  trial_permuted : (j : ℕ) (held : Held) → trial_prices ys j held ≡ trial_prices xs j held
  unfolding trial_prices
  trial_permuted j held =
      λ i. map
      (λ asset. moved_price held.exponent (price_of held.prices asset) (net_permuted held.prices j asset i)
      (volume_permuted held.prices j asset i))
      (assets_of held.prices)

  after_permuted : (j : ℕ) (held : Held) → after_trial ys j held ≡ after_trial xs j held
  unfolding after_trial
  after_permuted j held =
      let trial = trial_permuted j held in
      let here = imbalance_permuted held.prices j in
      let there : imbalance ys (trial_prices ys j held) j ≡ imbalance xs (trial_prices xs j held) j =
      imbalance_permuted (trial_prices ys j held) j ∙ ap (λ (prices : List ℕ). imbalance xs prices j) trial in
      λ i. cond (nat_lt (there i) (here i)) (record { prices = trial i; exponent = max 1 (held.exponent - 1) })
      (record { prices = held.prices; exponent = held.exponent + 1 })

  held_permuted : (j trials : ℕ) (held : Held) → held_after ys j trials held ≡ held_after xs j trials held
  unfolding held_after
  held_permuted j zero held = refl
  held_permuted j (suc trials) held =
      let here = imbalance_permuted held.prices j in
      let rest : held_after ys j trials (after_trial ys j held) ≡ held_after xs j trials (after_trial xs j held) =
      held_permuted j trials (after_trial ys j held) ∙ ap (held_after xs j trials) (after_permuted j held) in
      λ i. cond (not (here i == 0) && nat_le held.exponent 40) (rest i) held

pub search_permuted : SearchPermuted
search_permuted first xs ys prices j rounds h =
    ap (λ (end : Held). end.prices) (held_permuted xs ys h j rounds (first_held first prices))
