-- Quotes that a sort leaves are in order, and so are their pairs. Limits in order part at a quotient.
use Rattle.std.proofs.Common.{◌≡◌, ℕ, zero, suc, ◌+◌, ◌-◌, ◌<◌, ◌≤◌, false, List, [], ◌∷◌, ◌++◌, length}
use Rattle.std.proofs.Common.{get_or, take, All, inl, inr, refl, sym, subst, arith}
use Rattle.std.specs.List.Sorted.{IsNonDecreasingBy, IsPartitionedBy, IsSorted}
use Rattle.std.specs.declared.cmp.Ordering.{Ordering}
use Rattle.std.specs.declared.cmp.Ordering.TheVariants.{Less, Equal}
use Rattle.std.specs.Ordering.{is_lt, nat_cmp, ordering_then}
use Rattle.std.proofs.lemmas.Bool.{cases_lt, cases_order, eq-eqb, le-leb, le-ltb, leb-true, lt-ltb}
use Rattle.std.proofs.lemmas.List.{get_or-take, get_or_append_left, get_or_push, length-take-le, length_push}
use Rattle.std.proofs.Math.Nat.{mul-le-mul_right}
use Rattle.sx_curve.specs.contracts.quote.QuoteOrd.TheImpl as derived
use Rattle.sx_curve.specs.declared.points.Point.{Point}
use Rattle.sx_curve.specs.declared.quote.Quote.{Quote}
use Rattle.sx_curve.specs.Curves.{AreInOrder, IsUpTo, is_point_below, place_of_quote}

-- ---- two quotes

up_to_itself : (quote : Quote) → IsUpTo quote quote
up_to_itself quote = record { sell = omega arith; buy = λ e. omega arith; limit = λ e f. omega arith }

up_to_both : (a b c : Quote) → IsUpTo a b → IsUpTo b c → IsUpTo a c
up_to_both a b c first second =
    let sell : a.sell ≡ c.sell → (a.sell ≡ b.sell) × (b.sell ≡ c.sell) =
    λ e. (omega (arith, first.sell, second.sell), omega (arith, first.sell, second.sell)) in
    let buy : a.sell ≡ c.sell → a.buy ≡ c.buy → (a.buy ≡ b.buy) × (b.buy ≡ c.buy) =
    λ e f.
    let up = first.buy (sell e).0 in
    let up' = second.buy (sell e).1 in
    (omega arith, omega arith) in
    record {
      sell = omega (arith, first.sell, second.sell);
      buy = λ e. omega (arith, first.buy (sell e).0, second.buy (sell e).1);
      limit = λ e f. omega (arith, first.limit (sell e).0 (buy e f).0, second.limit (sell e).1 (buy e f).1);
    }

-- what the first of two compared numbers says of an order by both
then_step : (x y : ℕ) (rest : Ordering) → is_lt (ordering_then (nat_cmp x y) rest) ≡ false
    → (y ≤ x) × (x ≡ y → is_lt rest ≡ false)
then_step x y rest not_less =
    elim (cases_order x y) [
      | inl same ↦
          let level : nat_cmp x y ≡ Equal = rw (le-ltb x y (omega arith), eq-eqb x y same) refl in
          (omega arith, λ e. rw level at not_less)
      | inr apart ↦ elim apart [
        | inl less ↦
            let down : nat_cmp x y ≡ Less = rw (lt-ltb x y less) refl in
            let never : is_lt Less ≡ false = rw down at not_less in
            absurd cc
        | inr more ↦ (omega arith, λ e. absurd (omega arith))
      ]
    ]

up_to_from : (one next : Quote) → is_lt (derived.ghosts.cmp next one) ≡ false → IsUpTo one next
up_to_from one next not_less =
    let sell = then_step next.sell one.sell _ not_less in
    record {
      sell = sell.0;
      buy = λ e. (then_step next.buy one.buy _ (sell.1 (sym e))).0;
      limit = λ e f.
          let buy = then_step next.buy one.buy _ (sell.1 (sym e)) in
          (then_step next.limit one.limit _ (buy.1 (sym f))).0;
    }

-- ---- lists of quotes

-- none of the first quotes, so many, stands before one that comes earlier
abbrev pub RiseWithin : List Quote → ℕ → Type 0
RiseWithin quotes count =
    (k : ℕ) (d : Quote) → k + 1 < count → IsUpTo (get_or quotes k d) (get_or quotes (k + 1) d)

rises : (quotes : List Quote) → RiseWithin quotes (length quotes) → (d : Quote) (i n : ℕ) → i + n < length quotes
    → IsUpTo (get_or quotes i d) (get_or quotes (i + n) d)
rises quotes rise d i zero lt = let same : i + 0 ≡ i = omega arith in rw same (up_to_itself (get_or quotes i d))
rises quotes rise d i (suc n) lt =
    let next : i + suc n ≡ i + n + 1 = omega arith in
    rw next
    (up_to_both (get_or quotes i d) (get_or quotes (i + n) d) (get_or quotes (i + n + 1) d)
    (rises quotes rise d i n (omega arith))
    (rise (i + n) d (omega arith)))

pub in_order_from_rise : (quotes : List Quote) → RiseWithin quotes (length quotes) → AreInOrder quotes
in_order_from_rise quotes rise i j d le lt =
    let end : i + (j - i) ≡ j = omega arith in
    let up = rises quotes rise d i (j - i) (omega arith) in
    subst (λ (k : ℕ). IsUpTo (get_or quotes i d) (get_or quotes k d)) end up

pub in_order_from_sort : (quotes : List Quote) → IsSorted derived.ghosts.cmp quotes → AreInOrder quotes
in_order_from_sort quotes sorted =
    in_order_from_rise quotes
    (λ k d lt. up_to_from (get_or quotes k d) (get_or quotes (k + 1) d) (sorted k d (omega arith) (omega arith)))

pub in_order_front : (quotes : List Quote) (count : ℕ) → count ≤ length quotes → AreInOrder quotes
    → AreInOrder (take count quotes)
in_order_front quotes count within in_order i j d le lt =
    let long = length-take-le count quotes within in
    rw (get_or-take count quotes i d (omega arith), get_or-take count quotes j d (omega arith))
    (in_order i j d le (omega arith))

pub places_rise : (quotes : List Quote) → All (λ quote. quote.buy < 32) quotes → AreInOrder quotes
    → IsNonDecreasingBy place_of_quote quotes
places_rise quotes buys in_order i j d le lt =
    let up = in_order i j d le lt in
    let small = buys i d (omega arith) in
    elim (cases_order (get_or quotes i d).sell (get_or quotes j d).sell) [
      | inl same ↦ omega (arith, up.buy same)
      | inr apart ↦ omega (arith, up.sell)
    ]

-- ---- a quote behind others

-- a quote of a later pair may stand after one
pub up_to_later : (one next : Quote) → next.buy < 32 → place_of_quote one < place_of_quote next → IsUpTo one next
up_to_later one next small later = record {
  sell = omega arith;
  buy = λ e. omega arith;
  limit = λ e f. absurd (omega arith);
}

pub in_order_push : (quotes : List Quote) (next : Quote) → AreInOrder quotes
    → ((d : Quote) → 0 < length quotes → IsUpTo (get_or quotes (length quotes - 1) d) next)
    → AreInOrder (quotes ++ next ∷ [])
in_order_push quotes next in_order up =
    in_order_from_rise (quotes ++ next ∷ [])
    (λ k d lt.
    let long = length_push quotes next in
    elim (cases_lt (k + 1) (length quotes)) [
      | inl inside ↦ rw (
        get_or_append_left quotes (next ∷ []) d k (omega arith),
        get_or_append_left quotes (next ∷ []) d (k + 1) inside,
      )
          (in_order k (k + 1) d (omega arith) inside)
      | inr last ↦
          let place : length quotes - 1 ≡ k = omega arith in
          rw (get_or_append_left quotes (next ∷ []) d k (omega arith), get_or_push quotes next d (k + 1) (omega arith))
          (subst (λ (i : ℕ). IsUpTo (get_or quotes i d) next) place (up d (omega arith)))
    ])

pub last_up : (quotes : List Quote) (next : Quote) → AreInOrder (quotes ++ next ∷ []) → (d : Quote)
    → 0 < length quotes
    → IsUpTo (get_or quotes (length quotes - 1) d) next
last_up quotes next in_order d some =
    let long = length_push quotes next in
    let up = in_order (length quotes - 1) (length quotes) d (omega arith) (omega arith) in
    rw (
      get_or_append_left quotes (next ∷ []) d (length quotes - 1) (omega arith),
      get_or_push quotes next d (length quotes) (omega arith),
    ) at up

pub limits_part : (pair : List Point) (num den : ℕ) → IsNonDecreasingBy (λ point. point.limit) pair
    → IsPartitionedBy (is_point_below num den) pair
limits_part pair num den rise i j d le lt below =
    let less = mul-le-mul_right den (rise i j d le lt) in
    le-leb _ _ (omega (arith, leb-true _ _ below))
