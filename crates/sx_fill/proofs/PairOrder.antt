-- What an offer trades, from what those in front of it have.
use Rattle.std.proofs.Common.{◌≡◌, ℕ, suc, ◌+◌, ◌-◌, ◌*◌, ◌^◌, ◌<◌, ◌≤◌, min, true, List, [], ◌∷◌, ◌++◌, length, take}
use Rattle.std.proofs.Common.{drop, get_or, None, refl, sym, ap, subst, ◌∙◌, append_assoc, arith}
use Rattle.std.specs.List.{AllByRecursion, filter}
use Rattle.std.proofs.Math.Nat.{mul-le-mul, mul-le-mul_left, min-eq_left}
use Rattle.std.proofs.Math.Seq.{drop-cons}
use Rattle.std.proofs.lemmas.Bool.{lt-ltb}
use Rattle.std.proofs.lemmas.List.{append-nil, length-take-le, take-append-drop, take_more}
use Rattle.std.proofs.lemmas.List.Sums.{sum_by_push}
use Rattle.sx_fill.specs.PairFills.{pair_fill, pair_value, trading}
use Rattle.sx_fill.proofs.Trading.{kept, trading-append, trading-none}
use Rattle.sx_bytes.specs.Grammar.{in_order}
use Rattle.sx_ledger.specs.declared.fill.Fill.{Fill}
use Rattle.sx_ledger.specs.declared.offer.Offer.{Offer}
use Rattle.sx_ledger.specs.Bounds.{amounts}
use Rattle.sx_ledger.specs.Ledger.{keys}
use Rattle.sx_ledger.specs.Order.{key_before, offer_before}
use Rattle.sx_ledger.proofs.OfferOrder.{Rising, in_front, rising_is}
use Rattle.sx_price.specs.Rounding.{rounded_down, rounded_up}

module _ (sell buy y : ℕ) (whole : List Offer) (rising : Rising whole) where
  pub pair_value_is : (front back : List Offer) (offer : Offer) → whole ≡ front ++ offer ∷ back
      → pair_value sell y whole offer ≡ min (y - sell * amounts front) (sell * offer.amount)
  pair_value_is front back offer e =
      let ahead : filter (λ other. offer_before other offer) whole ≡ front =
      ap (filter (λ other. offer_before other offer)) e ∙ in_front front back offer (subst Rising e rising) in
      ap (λ (xs : List Offer). min (y - sell * amounts xs) (sell * offer.amount)) ahead

  -- where those in front have all that is traded, nothing is left
  spent : (front back : List Offer) → whole ≡ front ++ back → y ≤ sell * amounts front
      → AllByRecursion (λ x. (p : ℕ) → (pair_fill sell buy y whole p x).value ≡ 0) back
  spent front [] e all = tt
  spent front (x ∷ back) e all =
      let none : y - sell * amounts front ≡ 0 = omega arith in
      let here : pair_value sell y whole x ≡ 0 =
      pair_value_is front back x e ∙ ap (λ (z : ℕ). min z (sell * x.amount)) none ∙ min-eq_left (omega arith) in
      let more : amounts (front ++ x ∷ []) ≡ amounts front + x.amount = sum_by_push (λ o. o.amount) front x in
      let least : sell * amounts front ≤ sell * amounts (front ++ x ∷ []) = mul-le-mul_left sell (omega arith) in
      ((λ p. here), spent (front ++ x ∷ []) back (e ∙ sym (append_assoc front (x ∷ []) back)) (omega arith))

  pub none_left : (front back : List Offer) (place : ℕ) → whole ≡ front ++ back → y - sell * amounts front ≡ 0
      → trading (pair_fill sell buy y whole) place back ≡ []
  none_left front back place e none =
      trading-none (pair_fill sell buy y whole) place back (spent front back e (omega arith))

-- offers in order trade one by one
module _ (sell buy y first : ℕ) (whole : List Offer) (ordered : in_order key_before None (keys whole) ≡ true) where
  abbrev filled : List Offer → List Fill
  filled xs = trading (pair_fill sell buy y whole) first xs

  abbrev left_after : ℕ → ℕ
  left_after k = y - sell * amounts (take k whole)

  parts_at : (k : ℕ) (x : Offer) → k < length whole → x ≡ get_or whole k x
      → whole ≡ take k whole ++ x ∷ drop (suc k) whole
  parts_at k x lt is =
      sym (take-append-drop k whole) ∙ ap (λ (xs : List Offer). take k whole ++ xs) (drop-cons whole k x lt)
      ∙ ap (λ (z : Offer). take k whole ++ z ∷ drop (suc k) whole) (sym is)

  more_taken : (k : ℕ) (x : Offer) → k < length whole → x ≡ get_or whole k x →
      take (k + 1) whole ≡ take k whole ++ x ∷ []
  more_taken k x lt is = take_more whole k x lt ∙ ap (λ (z : Offer). take k whole ++ z ∷ []) (sym is)

  pub more_filled : (k left value up down : ℕ) (x : Offer) → k < length whole → x ≡ get_or whole k x
      → left ≡ left_after k → 0 < value → value ≡ min left (sell * x.amount) → up ≡ rounded_up value sell
      → down ≡ rounded_down value buy
      → filled (take k whole) ++ record { place = first + k; value = value; gives = up; gets = down } ∷ []
      ≡ filled (take (k + 1) whole)
  more_filled k left value up down x lt at is some value_is gives gets =
      let worth : pair_value sell y whole x ≡ value =
      pair_value_is sell buy y whole (rising_is whole ordered) (take k whole) (drop (suc k) whole) x
      (parts_at k x lt at)
      ∙ ap (λ (z : ℕ). min z (sell * x.amount)) (sym is) ∙ sym value_is in
      let of : ℕ → Fill =
      λ v. record { place = first + k; value = v; gives = rounded_up v sell; gets = rounded_down v buy } in
      let fill : Fill = record { place = first + k; value = value; gives = up; gets = down } in
      let made : fill ≡ of value =
      ap (λ (n : ℕ). record { place = first + k; value = value; gives = n; gets = down }) gives
      ∙ ap (λ (n : ℕ). record { place = first + k; value = value; gives = rounded_up value sell; gets = n }) gets in
      let same : fill ≡ pair_fill sell buy y whole (first + k) x = made ∙ ap of (sym worth) in
      let place : first + length (take k whole) ≡ first + k =
      ap (λ (n : ℕ). first + n) (length-take-le k whole (omega arith)) in
      let one : trading (pair_fill sell buy y whole) (first + k) (x ∷ []) ≡ fill ∷ [] =
      ap (λ (f : Fill). kept f []) (sym same) ∙ rw (lt-ltb 0 value some) refl in
      sym (ap filled (more_taken k x lt at) ∙ trading-append (pair_fill sell buy y whole) first (take k whole) (x ∷ [])
      ∙ ap (λ (p : ℕ). filled (take k whole) ++ trading (pair_fill sell buy y whole) p (x ∷ [])) place
      ∙ ap (λ (fs : List Fill). filled (take k whole) ++ fs) one)

  pub less_left : (k left : ℕ) (x : Offer) → k < length whole → x ≡ get_or whole k x → left ≡ left_after k
      → left - min left (sell * x.amount) ≡ left_after (k + 1)
  less_left k left x lt at is =
      let more : amounts (take (k + 1) whole) ≡ amounts (take k whole) + x.amount =
      ap amounts (more_taken k x lt at) ∙ sum_by_push (λ o. o.amount) (take k whole) x in
      rw more (omega arith)

  pub all_filled : (k left : ℕ) → left ≡ left_after k → left ≡ 0 → filled (take k whole) ≡ filled whole
  all_filled k left is none =
      let rest : trading (pair_fill sell buy y whole) (first + length (take k whole)) (drop k whole) ≡ [] =
      none_left sell buy y whole (rising_is whole ordered) (take k whole) (drop k whole)
      (first + length (take k whole)) (sym (take-append-drop k whole)) (sym is ∙ none) in
      sym (ap filled (sym (take-append-drop k whole)) ∙
      trading-append (pair_fill sell buy y whole) first (take k whole) (drop k whole)
      ∙ ap (λ (fs : List Fill). filled (take k whole) ++ fs) rest ∙ append-nil (filled (take k whole)))

-- what trades where something is left is worth something
pub some_value : (left price amount value : ℕ) → 2 ^ 8 ≤ price → 1 ≤ amount → 0 < left →
    value ≡ min left (price * amount)
    → 0 < value
some_value left price amount value high some more is =
    let e : 2 ^ 8 * 1 ≤ price * amount = mul-le-mul high some in omega arith
