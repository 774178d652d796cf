-- The offers of a pair trade one after the other, so that at most one trades in part.
use Rattle.std.proofs.Common.{◌≡◌, ℕ, zero, suc, ◌+◌, ◌-◌, ◌*◌, ◌<◌, ◌≤◌, min, Bool, true, eqb, ◌&&◌, List, [], ◌∷◌}
use Rattle.std.proofs.Common.{◌++◌, length, get_or, refl, sym, ap, ap₂, subst, ◌∙◌, inl, inr, arith}
use Rattle.std.specs.Prelude.{Contains}
use Rattle.std.specs.List.{filter}
use Rattle.std.proofs.Math.Nat.{min-eq_left, min-eq_right, mul-le-mul_left}
use Rattle.std.proofs.lemmas.Bool.{and_from, cases_Bool, cases_lt, cases_order, eq-eqb}
use Rattle.std.proofs.lemmas.List.Elements.{All-contains}
use Rattle.std.proofs.lemmas.List.Sums.{sum_by-cons}
use Rattle.sx_block.specs.Effects.{IsInPart, IsTradable}
use Rattle.sx_block.specs.EffectLaws.{OneTradesInPart}
use Rattle.sx_block.proofs.FillLaws.{price_above, up_is}
use Rattle.sx_ledger.proofs.OfferOrder.{Rising, in_front, rising_is, rising_kept}
use Rattle.sx_ledger.specs.declared.offer.Offer.{Offer}
use Rattle.sx_ledger.specs.declared.parts.Parts.{Parts}
use Rattle.sx_ledger.specs.Bounds.{amounts, pair_of, price_of}
use Rattle.sx_ledger.specs.Fills.{ahead_of, gives, value_of}
use Rattle.sx_ledger.specs.Ledger.{IsLedger, IsOffer, assets_of}
use Rattle.sx_ledger.specs.Order.{offer_before}

-- where one element of a list stands, and what is before and after it
record Stands (xs : List Offer) (x : Offer) : Type 0 where
  front : List Offer
  back : List Offer
  is : xs ≡ front ++ x ∷ back

stands_later : (y : Offer) (ys : List Offer) (x : Offer) → Stands ys x → Stands (y ∷ ys) x
stands_later y ys x at =
    record { front = y ∷ at.front; back = at.back; is = ap (λ (zs : List Offer). y ∷ zs) at.is }

-- an element that a test keeps stands in what it keeps
kept_stands : (p : Offer → Bool) (xs : List Offer) (x : Offer) (k : ℕ) → k < length xs → get_or xs k x ≡ x
    → p x ≡ true → Stands (filter p xs) x
kept_stands p [] x k lt at keeps = absurd (omega arith)
kept_stands p (y ∷ ys) x zero lt at keeps =
    let kept : p y ≡ true = ap p at ∙ keeps in
    rw kept (record { front = []; back = filter p ys; is = ap (λ (z : Offer). z ∷ filter p ys) at })
kept_stands p (y ∷ ys) x (suc k) lt at keeps =
    let rest = kept_stands p ys x k (omega arith) at keeps in
    elim (cases_Bool (p y)) [
      | inl kept ↦ rw kept (stands_later y (filter p ys) x rest)
      | inr gone ↦ rw gone rest
    ]

-- ---- two places in one list

-- the one that stands at a shorter front is part of the longer one
longer : (front back front' back' : List Offer) (x y : Offer) → front ++ x ∷ back ≡ front' ++ y ∷ back'
    → length front < length front' → amounts front + x.amount ≤ amounts front'
longer [] back [] back' x y same lt = absurd (omega arith)
longer [] back (z ∷ zs) back' x y same lt =
    let first : x ≡ z = cc in
    let amount : x.amount ≡ z.amount = ap (λ (o : Offer). o.amount) first in
    omega (arith, sum_by-cons (λ (o : Offer). o.amount) z zs)
longer (w ∷ ws) back [] back' x y same lt = absurd (omega arith)
longer (w ∷ ws) back (z ∷ zs) back' x y same lt =
    let first : w ≡ z = cc in
    let amount : w.amount ≡ z.amount = ap (λ (o : Offer). o.amount) first in
    let others : ws ++ x ∷ back ≡ zs ++ y ∷ back' = cc in
    omega (
      arith,
      longer ws back zs back' x y others (omega arith),
      sum_by-cons (λ (o : Offer). o.amount) w ws,
      sum_by-cons (λ (o : Offer). o.amount) z zs,
    )

-- and at fronts of one length stands the same
same_there : (front back front' back' : List Offer) (x y : Offer) → front ++ x ∷ back ≡ front' ++ y ∷ back'
    → length front ≡ length front' → x ≡ y
same_there [] back [] back' x y same e = cc
same_there [] back (z ∷ zs) back' x y same e = absurd (omega arith)
same_there (w ∷ ws) back [] back' x y same e = absurd (omega arith)
same_there (w ∷ ws) back (z ∷ zs) back' x y same e =
    let others : ws ++ x ∷ back ≡ zs ++ y ∷ back' = cc in
    same_there ws back zs back' x y others (omega arith)

-- ---- values

-- where what is left over `ahead` does not fill the amount, nothing is left over all of it
nothing_left : (y price ahead amount later : ℕ) → min (y - price * ahead) (price * amount) < price * amount
    → ahead + amount ≤ later → y - price * later ≡ 0
nothing_left y price ahead amount later part le =
    elim (cases_lt (y - price * ahead) (price * amount)) [
      | inl less ↦
          let more : price * (ahead + amount) ≤ price * later = mul-le-mul_left price le in
          let both : price * (ahead + amount) ≡ price * ahead + price * amount = omega arith in
          omega arith
      | inr all ↦ absurd (let whole = min-eq_right {m = y - price * ahead} all in omega arith)
    ]

module _ (parts : Parts) (prices : List ℕ) (flow : ℕ → ℕ → ℕ) (is : IsLedger parts)
    (fits : IsTradable parts prices flow) where
  abbrev offers : List Offer
  offers = parts.offers

  -- an offer among those of its pair
  stands_in_pair : (o : Offer) → Contains offers o → Stands (pair_of o.sell o.buy offers) o
  stands_in_pair o has =
      kept_stands (λ x. eqb x.sell o.sell && eqb x.buy o.buy) offers o has.0 has.1 has.2
      (and_from _ _ (eq-eqb o.sell o.sell refl) (eq-eqb o.buy o.buy refl))

  ahead_is : (o : Offer) (at : Stands (pair_of o.sell o.buy offers) o) → ahead_of offers o ≡ amounts at.front
  ahead_is o at =
      let rising = subst Rising at.is
      (rising_kept (λ x. eqb x.sell o.sell && eqb x.buy o.buy) offers (rising_is offers is.by_key)) in
      ap (λ (xs : List Offer). amounts (filter (λ x. offer_before x o) xs)) at.is
      ∙ ap amounts (in_front at.front at.back o rising)

  above : (o : Offer) → Contains offers o → 0 < price_of prices o.sell
  above o has =
      price_above parts prices flow is fits o.sell
      (All-contains (IsOffer (assets_of parts) parts.accounts) offers o is.offers has).sell

  -- the value of an offer that trades in part is less than that of its amount
  part_value : (o : Offer) → Contains offers o → IsInPart prices flow offers o
      → value_of prices flow offers o < price_of prices o.sell * o.amount
  part_value o has part =
      let price = price_of prices o.sell in
      let up = (up_is (value_of prices flow offers o) price (above o has)).0 in
      let next : gives prices flow offers o + 1 ≤ o.amount = omega (arith, part.not_all) in
      let most : price * (gives prices flow offers o + 1) ≤ price * o.amount = mul-le-mul_left price next in
      omega (arith, above o has)

  -- an offer that trades has a value
  some_value : (o : Offer) → Contains offers o → 0 < gives prices flow offers o
      → value_of prices flow offers o ≡ 0 → ⊥
  some_value o has some none =
      let price = price_of prices o.sell in
      let up = (up_is (value_of prices flow offers o) price (above o has)).1 in
      let least : price * 1 ≤ price * gives prices flow offers o = mul-le-mul_left price some in
      omega arith

  -- of two offers of a pair the earlier one does not trade in part where the later one trades
  not_both : (o p : Offer) (at : Stands (pair_of o.sell o.buy offers) o)
      (at' : Stands (pair_of p.sell p.buy offers) p)
      → Contains offers o → Contains offers p → o.sell ≡ p.sell → o.buy ≡ p.buy
      → IsInPart prices flow offers o → 0 < gives prices flow offers p → length at.front < length at'.front → ⊥
  not_both o p at at' has has' sell buy part some lt =
      let price = price_of prices o.sell in
      let y = flow o.sell o.buy in
      let pair : pair_of o.sell o.buy offers ≡ pair_of p.sell p.buy offers =
      ap₂ (λ (s b : ℕ). pair_of s b offers) sell buy in
      let le : amounts at.front + o.amount ≤ amounts at'.front =
      longer at.front at.back at'.front at'.back o p (sym at.is ∙ pair ∙ at'.is) lt in
      let later : ahead_of offers o + o.amount ≤ ahead_of offers p =
      omega (arith, ahead_is o at, ahead_is p at') in
      let none : y - price * ahead_of offers p ≡ 0 =
      nothing_left y price (ahead_of offers o) o.amount (ahead_of offers p) (part_value o has part) later in
      let there : flow p.sell p.buy - price_of prices p.sell * ahead_of offers p ≡ 0 =
      ap₂ (λ (s b : ℕ). flow s b - price_of prices s * ahead_of offers p) (sym sell) (sym buy) ∙ none in
      some_value p has' some
      (ap (λ (z : ℕ). min z (price_of prices p.sell * p.amount)) there ∙ min-eq_left (omega arith))

pub one_trades_in_part : OneTradesInPart
one_trades_in_part parts prices flow one other is fits has has' sell buy part part' =
    let at = stands_in_pair parts prices flow is fits one has in
    let at' = stands_in_pair parts prices flow is fits other has' in
    let pair : pair_of one.sell one.buy parts.offers ≡ pair_of other.sell other.buy parts.offers =
    ap₂ (λ (s b : ℕ). pair_of s b parts.offers) sell buy in
    elim (cases_order (length at.front) (length at'.front)) [
      | inl same ↦ same_there at.front at.back at'.front at'.back one other (sym at.is ∙ pair ∙ at'.is) same
      | inr (inl lt) ↦ absurd (not_both parts prices flow is fits one other at at' has has' sell buy part
          part'.some lt)
      | inr (inr gt) ↦ absurd (not_both parts prices flow is fits other one at' at has' has (sym sell) (sym buy)
          part' part.some gt)
    ]
