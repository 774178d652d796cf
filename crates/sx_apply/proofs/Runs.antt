-- The fills of all pairs, pair by pair.
use Rattle.std.proofs.Common.{◌≡◌, ℕ, ◌+◌, true, false, eqb, List, [], ◌∷◌, ◌++◌, length, Some, refl, sym, ap, ap₂}
use Rattle.std.proofs.Common.{subst, ◌∙◌, append_assoc, inl, inr, arith}
use Rattle.std.specs.Prelude.{slice_get}
use Rattle.std.specs.List.{AllByRecursion}
use Rattle.std.proofs.lemmas.Bool.{cases_Bool, and_parts, eqb-true}
use Rattle.std.proofs.lemmas.Option.{none-some, same_Some}
use Rattle.std.proofs.lemmas.List.{length-append}
use Rattle.std.proofs.lemmas.List.Elements.{filter-append}
use Rattle.sx_apply.proofs.Pairs.{none_kept, of_itself, of_pair}
use Rattle.sx_fill.specs.AllFills.{fill_of}
use Rattle.sx_fill.specs.PairFills.{pair_fill, trading}
use Rattle.sx_fill.proofs.PairValues.{theirs}
use Rattle.sx_fill.proofs.Trading.{trading-append, trading-same}
use Rattle.sx_block.proofs.PairFills.{in_pair}
use Rattle.sx_ledger.specs.declared.fill.Fill.{Fill}
use Rattle.sx_ledger.specs.declared.offer.Offer.{Offer}
use Rattle.sx_ledger.specs.Bounds.{pair_of, price_of}
use Rattle.sx_ledger.specs.Fills.{Flow}

-- the fills of those offers that are not left, where each pair of those that are left is whole
pub record Done (f : ℕ → Offer → Fill) (offers left : List Offer) (fills : List Fill) : Type 0 where
  pub front : List Offer
  pub whole : front ++ left ≡ offers
  pub are : fills ≡ trading f 0 front
  pub same : AllByRecursion (λ o. pair_of o.sell o.buy left ≡ pair_of o.sell o.buy offers) left

all_same : (offers os : List Offer) → AllByRecursion (λ o. pair_of o.sell o.buy offers ≡ pair_of o.sell o.buy offers) os
all_same offers [] = tt
all_same offers (o ∷ os) = (refl, all_same offers os)

pub none_done : (f : ℕ → Offer → Fill) (offers : List Offer) (fills : List Fill) → fills ≡ [] →
    Done f offers offers fills
none_done f offers fills e = record { front = []; whole = refl; are = e; same = all_same offers offers }

module _ (sell buy : ℕ) where
  -- offers of one pair have none of another
  none_of : (own : List Offer) (o : Offer) → of_pair sell buy o ≡ false →
      AllByRecursion (λ x. of_pair sell buy x ≡ true) own
      → AllByRecursion (λ x. of_pair o.sell o.buy x ≡ false) own
  none_of [] o other mine = tt
  none_of (x ∷ own) o other mine = (
    elim (cases_Bool (of_pair o.sell o.buy x)) [
      | inl same ↦
          let p = and_parts (eqb x.sell o.sell) (eqb x.buy o.buy) same in
          let q = and_parts (eqb x.sell sell) (eqb x.buy buy) mine.0 in
          let s : o.sell ≡ sell = sym (eqb-true x.sell o.sell p.0) ∙ eqb-true x.sell sell q.0 in
          let b : o.buy ≡ buy = sym (eqb-true x.buy o.buy p.1) ∙ eqb-true x.buy buy q.1 in
          let again = of_itself sell buy o s b in absurd cc
      | inr none ↦ none
    ],
    none_of own o other mine.1,
  )

  others_same : (offers own others os : List Offer) → AllByRecursion (λ x. of_pair sell buy x ≡ true) own
      → AllByRecursion (λ o. of_pair sell buy o ≡ false) os
      → AllByRecursion (λ o. pair_of o.sell o.buy (own ++ others) ≡ pair_of o.sell o.buy offers) os
      → AllByRecursion (λ o. pair_of o.sell o.buy others ≡ pair_of o.sell o.buy offers) os
  others_same offers own others [] mine apart same = tt
  others_same offers own others (o ∷ os) mine apart same =
      let gone : pair_of o.sell o.buy own ≡ [] = none_kept o.sell o.buy own (none_of own o apart.0 mine) in
      let here : pair_of o.sell o.buy (own ++ others) ≡ pair_of o.sell o.buy others =
      filter-append (of_pair o.sell o.buy) own others ∙
      ap (λ (xs : List Offer). xs ++ pair_of o.sell o.buy others) gone in
      (sym here ∙ same.0, others_same offers own others os mine apart.1 same.1)

  theirs_all : (prices : List ℕ) (flow : Flow) (offers os : List Offer) →
      AllByRecursion (λ x. of_pair sell buy x ≡ true) os
      → AllByRecursion (λ x. (p : ℕ) →
      pair_fill (price_of prices sell) (price_of prices buy) (flow sell buy) (pair_of sell buy offers) p x ≡
      fill_of prices flow offers p x) os
  theirs_all prices flow offers [] mine = tt
  theirs_all prices flow offers (x ∷ os) mine =
      (λ p. theirs prices flow offers sell buy p x mine.0, theirs_all prices flow offers os mine.1)

all_back : (P : Offer → Type 0) (front back : List Offer) → AllByRecursion P (front ++ back) → AllByRecursion P back
all_back P [] back all = all
all_back P (x ∷ front) back all = all_back P front back all.1

-- what holds of all offers holds of the first of those that are left
pub first_is : (P : Offer → Type 0) (front left offers : List Offer) (first : Offer) → front ++ left ≡ offers
    → slice_get left 0 ≡ Some first → AllByRecursion P offers → P first
first_is P front [] offers first e there all = absurd (none-some first there)
first_is P front (o ∷ left) offers first e there all =
    subst P (same_Some o first there) (all_back P front (o ∷ left) (subst (AllByRecursion P) (sym e) all)).0

-- one more pair
module _ (prices : List ℕ) (flow : Flow) (offers left own others : List Offer) (first : Offer)
    (fills : List Fill) (done : Done (fill_of prices flow offers) offers left fills)
    (there : slice_get left 0 ≡ Some first)
    (own_is : own ≡ pair_of first.sell first.buy left) (all : own ++ others ≡ left)
    (apart : AllByRecursion (λ o. of_pair first.sell first.buy o ≡ false) others) where
  abbrev f : ℕ → Offer → Fill
  f = fill_of prices flow offers

  mine : AllByRecursion (λ x. of_pair first.sell first.buy x ≡ true) own
  mine =
      subst (AllByRecursion (λ x. of_pair first.sell first.buy x ≡ true)) (sym own_is)
      (in_pair first.sell first.buy left)

  pub first_same : (os : List Offer) → slice_get os 0 ≡ Some first
      → AllByRecursion (λ o. pair_of o.sell o.buy left ≡ pair_of o.sell o.buy offers) os
      → pair_of first.sell first.buy left ≡ pair_of first.sell first.buy offers
  first_same [] e same = absurd (none-some first e)
  first_same (o ∷ os) e same =
      subst (λ (x : Offer). pair_of x.sell x.buy left ≡ pair_of x.sell x.buy offers) (same_Some o first e) same.0

  own_whole : own ≡ pair_of first.sell first.buy offers
  own_whole = own_is ∙ first_same left there done.same

  pub place_is : length offers ≡ length done.front + length left
  place_is = ap length (sym done.whole) ∙ length-append done.front left

  pub pair_done : (place sell buy y : ℕ) (new : List Fill) → place ≡ length done.front
      → sell ≡ price_of prices first.sell → buy ≡ price_of prices first.buy → y ≡ flow first.sell first.buy
      → new ≡ fills ++ trading (pair_fill sell buy y own) place own → Done f offers others new
  pair_done place sell buy y new at sold bought value is =
      let whole : (done.front ++ own) ++ others ≡ offers =
      append_assoc done.front own others ∙ ap (λ (xs : List Offer). done.front ++ xs) all ∙ done.whole in
      let one : trading (pair_fill sell buy y own) place own ≡ trading f (length done.front) own =
      ap (λ (p : ℕ). trading (pair_fill sell buy y own) p own) at
      ∙ ap (λ (p : ℕ). trading (pair_fill p buy y own) (length done.front) own) sold
      ∙ ap₂ (λ (p v : ℕ). trading (pair_fill (price_of prices first.sell) p v own) (length done.front) own) bought value
      ∙ ap (λ (xs : List Offer). trading
      (pair_fill (price_of prices first.sell) (price_of prices first.buy) (flow first.sell first.buy) xs)
      (length done.front) own) own_whole
      ∙ trading-same _ f (length done.front) own (theirs_all first.sell first.buy prices flow offers own mine) in
      let made : new ≡ trading f 0 (done.front ++ own) =
      is ∙ ap₂ ◌++◌ done.are one ∙ sym
      (trading-append f 0 done.front own ∙
      ap (λ (p : ℕ). trading f 0 done.front ++ trading f p own)
      (let e : 0 + length done.front ≡ length done.front = omega arith in e)) in
      let back : AllByRecursion (λ o. pair_of o.sell o.buy (own ++ others) ≡ pair_of o.sell o.buy offers) others =
      all_back (λ o. pair_of o.sell o.buy (own ++ others) ≡ pair_of o.sell o.buy offers) own others
      (subst (λ (xs : List Offer). AllByRecursion (λ o. pair_of o.sell o.buy xs ≡ pair_of o.sell o.buy offers) xs)
      (sym all) done.same) in
      record {
        front = done.front ++ own;
        whole = whole;
        are = made;
        same = others_same first.sell first.buy offers own others others mine apart back;
      }
