-- What holds of accounts that are credited holds of each half of them.
use Rattle.std.proofs.Common.{◌≡◌, ℕ, ◌+◌, ◌^◌, ◌<◌, List, ◌++◌, get_or, length, ap, subst, arith}
use Rattle.std.specs.Prelude.{All}
use Rattle.std.specs.List.Sorted.{IsStrictlyIncreasing}
use Rattle.std.proofs.lemmas.List.{get_or-append-add, get_or_append_left, length-append, map-append}
use Rattle.sx_apply.specs.FillSums.{proceeds_by}
use Rattle.sx_apply.specs.Paying.{CanPay}
use Rattle.sx_ledger.specs.declared.account.Account.{Account}
use Rattle.sx_ledger.specs.declared.fill.Fill.{Fill}
use Rattle.sx_ledger.specs.declared.offer.Offer.{Offer}
use Rattle.sx_ledger.specs.Ledger.{balance_at, ids}

front_all : {X : Type 0} (P : X → Type 0) (xs ys : List X) → All P (xs ++ ys) → All P xs
front_all P xs ys all k d lt =
    subst P (get_or_append_left xs ys d k lt) (all k d (omega (arith, length-append xs ys)))

back_all : {X : Type 0} (P : X → Type 0) (xs ys : List X) → All P (xs ++ ys) → All P ys
back_all P xs ys all k d lt =
    subst P (get_or-append-add xs ys k d) (all (length xs + k) d (omega (arith, length-append xs ys)))

front_rises : (xs ys : List ℕ) → IsStrictlyIncreasing (xs ++ ys) → IsStrictlyIncreasing xs
front_rises xs ys up k lt =
    let one = get_or_append_left xs ys 0 k (omega arith) in
    let next = get_or_append_left xs ys 0 (k + 1) lt in
    let rises = up k (omega (arith, length-append xs ys)) in
    omega arith

back_rises : (xs ys : List ℕ) → IsStrictlyIncreasing (xs ++ ys) → IsStrictlyIncreasing ys
back_rises xs ys up k lt =
    let one = get_or-append-add xs ys k 0 in
    let next = get_or-append-add xs ys (k + 1) 0 in
    let rises = up (length xs + k) (omega (arith, length-append xs ys)) in
    let at : (length xs + k) + 1 ≡ length xs + (k + 1) = omega arith in
    omega (arith, ap (λ (n : ℕ). get_or (xs ++ ys) n 0) at)

module _ (offers : List Offer) (fills : List Fill) (front back : List Account)
    (can : CanPay offers fills (front ++ back)) where
  abbrev Buys : Offer → Account → Type 0
  Buys offer account = offer.buy < length account.balances

  abbrev Fits : Account → Type 0
  Fits account = (asset : ℕ) → asset < length account.balances
      → balance_at asset account + proceeds_by offers fills account.id.0 asset < 2 ^ 64

  by_id : IsStrictlyIncreasing (ids front ++ ids back)
  by_id = subst IsStrictlyIncreasing (map-append (λ (account : Account). account.id.0) front back) can.by_id

  pub can_pay_front : CanPay offers fills front
  can_pay_front = record {
    by_id = front_rises (ids front) (ids back) by_id;
    few = omega (arith, can.few, length-append front back);
    places = can.places;
    assets = λ k d lt. front_all (Buys (get_or offers k d)) front back (can.assets k d lt);
    fits = front_all Fits front back can.fits;
  }

  pub can_pay_back : CanPay offers fills back
  can_pay_back = record {
    by_id = back_rises (ids front) (ids back) by_id;
    few = omega (arith, can.few, length-append front back);
    places = can.places;
    assets = λ k d lt. back_all (Buys (get_or offers k d)) front back (can.assets k d lt);
    fits = back_all Fits front back can.fits;
  }
