-- Offers trade in the order of their limits: one that trades may trade, and one that must trade trades in full.
use Rattle.std.proofs.Common.{◌≡◌, ℕ, zero, suc, ◌+◌, ◌-◌, ◌*◌, ◌^◌, ◌<◌, ◌≤◌, min, Bool, true, false, eqb, ◌&&◌}
use Rattle.std.proofs.Common.{List, [], ◌∷◌, ◌++◌, length, get_or, refl, sym, ap, subst, ◌∙◌, inl, inr, arith}
use Rattle.std.specs.List.{AllByRecursion, filter}
use Rattle.std.specs.declared.cmp.Ordering.TheVariants.{Equal, Greater}
use Rattle.std.specs.Ordering.{is_lt, nat_cmp}
use Rattle.std.specs.Cmp.{nat_cmp_is}
use Rattle.std.specs.Cmp.Lexicographic.{slice_cmp}
use Rattle.std.proofs.Math.Nat.{le_of_mul-le-mul_left, min-eq_left, min-eq_right, mul-le-mul_left, mul-le-mul_right}
use Rattle.std.proofs.lemmas.Bool.{cases_Bool, cases_lt, and_from, and_parts, eq-eqb, eqb-true, leb-true, le-leb}
use Rattle.std.proofs.lemmas.List.Elements.{filter-append}
use Rattle.std.proofs.lemmas.List.Sums.{sum_by-append, sum_by-cons}
use Rattle.sx_block.specs.Effects.{IsTradable}
use Rattle.sx_block.specs.EffectLaws.{MustTradeInFull, TradesOnlyWithinLimit}
use Rattle.sx_block.proofs.FillLaws.{gives_has, price_above, up_is}
use Rattle.sx_block.proofs.ListSums.{filter-le}
use Rattle.sx_block.proofs.PairFills.{in_pair}
use Rattle.sx_ledger.proofs.OfferOrder.{Precedes, Rising, before_all, in_front, keeps_all, rising_back, rising_is}
use Rattle.sx_ledger.proofs.OfferOrder.{rising_kept}
use Rattle.sx_ledger.specs.declared.offer.Offer.{Offer}
use Rattle.sx_ledger.specs.declared.parts.Parts.{Parts}
use Rattle.sx_ledger.specs.Bounds.{amounts, high_of, low_of, may_trade_at, must_trade_at, pair_of, price_of}
use Rattle.sx_ledger.specs.Fills.{ahead_of, gives, value_of}
use Rattle.sx_ledger.specs.Ledger.{IsLedger, IsOffer}
use Rattle.sx_ledger.specs.Order.{key_of, offer_before}

-- ---- an offer among those of its pair

-- what stands before an element that a filter keeps, and after it
split_kept : (p : Offer → Bool) (xs : List Offer) (x : Offer) (k : ℕ) → k < length xs → get_or xs k x ≡ x → p x ≡ true
    → (front : List Offer) × (back : List Offer) × (filter p xs ≡ front ++ x ∷ back)
split_kept p [] x k lt at keeps = absurd (omega arith)
split_kept p (y ∷ ys) x zero lt at keeps =
    let kept : p y ≡ true = ap p at ∙ keeps in
    let first : filter p (y ∷ ys) ≡ y ∷ filter p ys = rw kept refl in
    ([], filter p ys, first ∙ ap (λ (z : Offer). z ∷ filter p ys) at)
split_kept p (y ∷ ys) x (suc k) lt at keeps =
    let rest = split_kept p ys x k (omega arith) at keeps in
    elim (cases_Bool (p y)) [
      | inl kept ↦ let first : filter p (y ∷ ys) ≡ y ∷ filter p ys = rw kept refl in
          (y ∷ rest.0, rest.1, first ∙ ap (λ (zs : List Offer). y ∷ zs) rest.2)
      | inr gone ↦ let none : filter p (y ∷ ys) ≡ filter p ys = rw gone refl in (rest.0, rest.1, none ∙ rest.2)
    ]

all_front : (P : Offer → Type 0) (front back : List Offer) → AllByRecursion P (front ++ back) → AllByRecursion P front
all_front P [] back all = tt
all_front P (x ∷ front) back all = (all.0, all_front P front back all.1)

all_back : (P : Offer → Type 0) (front back : List Offer) → AllByRecursion P (front ++ back) → AllByRecursion P back
all_back P [] back all = all
all_back P (x ∷ front) back all = all_back P front back all.1

-- ---- the order of limits

same_is : (x : ℕ) → nat_cmp x x ≡ Equal
same_is x = sym (nat_cmp_is x x Equal refl)

more_is : (x y : ℕ) → y < x → nat_cmp x y ≡ Greater
more_is x y lt = sym (nat_cmp_is x y Greater lt)

-- of two keys of one pair, that of the lower limit comes first
not_before : (sell buy limit limit' : ℕ) (xs ys : List ℕ) → limit' < limit
    → is_lt (slice_cmp nat_cmp (sell ∷ buy ∷ limit ∷ xs) (sell ∷ buy ∷ limit' ∷ ys)) ≡ false
not_before sell buy limit limit' xs ys lt = rw (same_is sell, same_is buy, more_is limit limit' lt) refl

limit_rises : (x o : Offer) → x.sell ≡ o.sell → x.buy ≡ o.buy → offer_before x o ≡ true → x.limit ≤ o.limit
limit_rises x o sell buy before =
    elim (cases_lt o.limit x.limit) [
      | inl less ↦
          let after : offer_before x o ≡ false =
          rw (sell, buy) (not_before o.sell o.buy x.limit o.limit (x.account.0 ∷ x.seq ∷ [])
          (o.account.0 ∷ o.seq ∷ []) less) in
          absurd cc
      | inr more ↦ more
    ]

-- ---- what a test keeps of those of higher limits, and of lower ones

keeps_none : (p : Offer → Bool) (xs : List Offer) → AllByRecursion (λ x. p x ≡ false) xs → filter p xs ≡ []
keeps_none p [] all = refl
keeps_none p (x ∷ xs) all = rw all.0 (keeps_none p xs all.1)

module _ (parts : Parts) (prices : List ℕ) (flow : ℕ → ℕ → ℕ) (is : IsLedger parts)
    (fits : IsTradable parts prices flow)
    (o : Offer) (k : ℕ) (lt : k < length parts.offers) (at : get_or parts.offers k o ≡ o) where
  abbrev all_offers : List Offer
  all_offers = parts.offers

  abbrev of_pair : Offer → Bool
  of_pair x = eqb x.sell o.sell && eqb x.buy o.buy

  abbrev price_sold : ℕ
  price_sold = price_of prices o.sell

  abbrev pair_offers : List Offer
  pair_offers = pair_of o.sell o.buy all_offers

  offer_is : IsOffer (length parts.prices) parts.accounts o
  offer_is = subst (IsOffer (length parts.prices) parts.accounts) at (is.offers k o lt)

  split : (front : List Offer) × (back : List Offer) × (pair_offers ≡ front ++ o ∷ back)
  split = split_kept of_pair all_offers o k lt at (and_from _ _ (eq-eqb o.sell o.sell refl) (eq-eqb o.buy o.buy refl))

  rising : Rising (split.0 ++ o ∷ split.1)
  rising = subst Rising split.2 (rising_kept of_pair all_offers (rising_is all_offers is.by_key))

  ahead : ahead_of all_offers o ≡ amounts split.0
  ahead =
      ap (λ (xs : List Offer). amounts (filter (λ other. offer_before other o) xs)) split.2
      ∙ ap amounts (in_front split.0 split.1 o rising)

  of_one_pair : AllByRecursion (λ x. of_pair x ≡ true) (split.0 ++ o ∷ split.1)
  of_one_pair = subst (AllByRecursion (λ x. of_pair x ≡ true)) split.2 (in_pair o.sell o.buy all_offers)

  -- an offer of the pair, of no greater limit
  abbrev IsLower : Offer → Type 0
  IsLower x = (x.sell ≡ o.sell) × (x.buy ≡ o.buy) × (x.limit ≤ o.limit)

  -- an offer of the pair, of no lower limit
  abbrev IsHigher : Offer → Type 0
  IsHigher x = (x.sell ≡ o.sell) × (x.buy ≡ o.buy) × (o.limit ≤ x.limit)

  lower : (xs : List Offer) → AllByRecursion (λ x. of_pair x ≡ true) xs
      → AllByRecursion (λ x. offer_before x o ≡ true) xs → AllByRecursion IsLower xs
  lower [] pair before = tt
  lower (x ∷ xs) pair before =
      let p = and_parts (eqb x.sell o.sell) (eqb x.buy o.buy) pair.0 in
      let sell = eqb-true x.sell o.sell p.0 in
      let buy = eqb-true x.buy o.buy p.1 in
      ((sell, buy, limit_rises x o sell buy before.0), lower xs pair.1 before.1)

  higher : (xs : List Offer) → AllByRecursion (λ x. of_pair x ≡ true) xs → Precedes (key_of o) xs
      → AllByRecursion IsHigher xs
  higher [] pair after = tt
  higher (x ∷ xs) pair after =
      let p = and_parts (eqb x.sell o.sell) (eqb x.buy o.buy) pair.0 in
      let sell = eqb-true x.sell o.sell p.0 in
      let buy = eqb-true x.buy o.buy p.1 in
      ((sell, buy, limit_rises o x (sym sell) (sym buy) after.0), higher xs pair.1 after.1)

  front_lower : AllByRecursion IsLower split.0
  front_lower =
      lower split.0 (all_front (λ x. of_pair x ≡ true) split.0 (o ∷ split.1) of_one_pair)
      (before_all split.0 split.1 o rising)

  back_higher : AllByRecursion IsHigher split.1
  back_higher =
      higher split.1 (all_back (λ x. of_pair x ≡ true) split.0 (o ∷ split.1) of_one_pair).1
      (rising_back split.0 (o ∷ split.1) rising).0

  within : flow o.sell o.buy ≤ high_of prices all_offers o.sell o.buy
  within = fits.within o.sell o.buy offer_is.sell offer_is.buy (λ e. offer_is.differ (sym e))

  -- ---- who may not trade does not

  too_high : (xs : List Offer) → may_trade_at prices o ≡ false → AllByRecursion IsHigher xs
      → AllByRecursion (λ x. may_trade_at prices x ≡ false) xs
  too_high [] none all = tt
  too_high (x ∷ xs) none all = (
    elim (cases_Bool (may_trade_at prices x)) [
      | inl may ↦
          let pb = price_of prices o.buy in
          let step : o.limit * pb ≤ x.limit * pb = mul-le-mul_right pb all.0.2 in
          let reach : x.limit * pb ≤ price_sold * 2 ^ 24 =
          rw (all.0.0, all.0.1) at (leb-true (x.limit * price_of prices x.buy) (price_of prices x.sell * 2 ^ 24) may) in
          let may_too : may_trade_at prices o ≡ true = le-leb (o.limit * pb) (price_sold * 2 ^ 24) (omega arith) in
          absurd cc
      | inr not ↦ not
    ],
    too_high xs none all.1,
  )

  no_value : may_trade_at prices o ≡ false → value_of prices flow all_offers o ≡ 0
  no_value none =
      let nothing : filter (may_trade_at prices) (o ∷ split.1) ≡ [] =
      keeps_none (may_trade_at prices) (o ∷ split.1) (none, too_high split.1 none back_higher) in
      let kept : filter (may_trade_at prices) pair_offers ≡ filter (may_trade_at prices) split.0 ++ filter
      (may_trade_at prices) (o ∷ split.1) =
      ap (filter (may_trade_at prices)) split.2 ∙ filter-append (may_trade_at prices) split.0 (o ∷ split.1) in
      let sum : amounts (filter (may_trade_at prices) pair_offers) ≡ amounts (filter (may_trade_at prices) split.0) =
      ap amounts (kept ∙ ap (λ (xs : List Offer). filter (may_trade_at prices) split.0 ++ xs) nothing)
      ∙ sum_by-append (λ (x : Offer). x.amount) (filter (may_trade_at prices) split.0) []
      ∙ (let e : amounts (filter (may_trade_at prices) split.0) + 0 ≡ amounts
      (filter (may_trade_at prices) split.0) = omega arith in e) in
      let some : amounts (filter (may_trade_at prices) pair_offers) ≤ ahead_of all_offers o =
      omega (arith, filter-le (λ (x : Offer). x.amount) (may_trade_at prices) split.0, ahead, sum) in
      let most : high_of prices all_offers o.sell o.buy ≤ price_sold * ahead_of all_offers o =
      mul-le-mul_left price_sold some in
      let left : flow o.sell o.buy - price_sold * ahead_of all_offers o ≡ 0 = omega (arith, within) in
      ap (λ (z : ℕ). min z (price_sold * o.amount)) left ∙ min-eq_left (omega arith)

  pub trades_within_limit : 0 < value_of prices flow all_offers o → may_trade_at prices o ≡ true
  trades_within_limit some =
      elim (cases_Bool (may_trade_at prices o)) [ inl may ↦ may | inr not ↦ absurd (omega (arith, no_value not)) ]

  -- ---- who must trade does so in full

  module _ (j : ℕ) (must : must_trade_at prices j o ≡ true)
      (least : low_of prices j false all_offers o.sell o.buy ≤ flow o.sell o.buy) where
    low_enough : (xs : List Offer) → AllByRecursion IsLower xs
        → AllByRecursion (λ x. must_trade_at prices j x ≡ true) xs
    low_enough [] all = tt
    low_enough (x ∷ xs) all =
        let pb = price_of prices o.buy in
        let step : x.limit * pb ≤ o.limit * pb = mul-le-mul_right pb all.0.2 in
        let scaled : x.limit * pb * 2 ^ j ≤ o.limit * pb * 2 ^ j = mul-le-mul_right (2 ^ j) step in
        let reach : o.limit * pb * 2 ^ j ≤ price_sold * 2 ^ 24 * (2 ^ j - 1) = leb-true _ _ must in
        let here : must_trade_at prices j x ≡ true =
        rw (all.0.0, all.0.1) (le-leb (x.limit * pb * 2 ^ j) (price_sold * 2 ^ 24 * (2 ^ j - 1)) (omega arith)) in
        (here, low_enough xs all.1)

    pub trades_in_full : gives prices flow all_offers o ≡ o.amount
    trades_in_full =
        let above : 0 < price_sold = price_above parts prices flow is fits o.sell offer_is.sell in
        let test = must_trade_at prices j in
        let all : filter test split.0 ≡ split.0 = keeps_all test split.0 (low_enough split.0 front_lower) in
        let own : filter test (o ∷ split.1) ≡ o ∷ filter test split.1 = rw must refl in
        let kept : filter test pair_offers ≡ split.0 ++ o ∷ filter test split.1 =
        ap (filter test) split.2 ∙ filter-append test split.0 (o ∷ split.1)
        ∙ ap (λ (xs : List Offer). xs ++ filter test (o ∷ split.1)) all
        ∙ ap (λ (xs : List Offer). split.0 ++ xs) own in
        let sum : amounts (filter test pair_offers) ≡ amounts split.0 + amounts (o ∷ filter test split.1) =
        ap amounts kept ∙ sum_by-append (λ (x : Offer). x.amount) split.0 (o ∷ filter test split.1) in
        let some : ahead_of all_offers o + o.amount ≤ amounts (filter test pair_offers) =
        omega (arith, ahead, sum, sum_by-cons (λ (x : Offer). x.amount) o (filter test split.1)) in
        let reach : price_sold * (ahead_of all_offers o + o.amount) ≤ low_of prices j false all_offers o.sell o.buy =
        mul-le-mul_left price_sold some in
        let parted : price_sold * (ahead_of all_offers o + o.amount) ≡ price_sold * ahead_of all_offers o +
        price_sold * o.amount =
        omega arith in
        let value : value_of prices flow all_offers o ≡ price_sold * o.amount = min-eq_right (omega (arith, least)) in
        let up : value_of prices flow all_offers o ≤ price_sold * gives prices flow all_offers o =
        (up_is (value_of prices flow all_offers o) price_sold above).0 in
        let most = gives_has prices flow all_offers o above in
        let least_given : o.amount ≤ gives prices flow all_offers o =
        le_of_mul-le-mul_left {k = price_sold}
        (let e : price_sold * o.amount ≤ price_sold * gives prices flow all_offers o = omega arith in e) above in
        omega arith

pub only_within_limit : TradesOnlyWithinLimit
only_within_limit parts prices flow offer is fits within some =
    leb-true _ _ (trades_within_limit parts prices flow is fits offer within.0 within.1 within.2 some)

pub must_in_full : MustTradeInFull
must_in_full parts prices flow j offer is fits least within must =
    let o = offer_is parts prices flow is fits offer within.0 within.1 within.2 in
    trades_in_full parts prices flow is fits offer within.0 within.1 within.2 j (le-leb _ _ must)
    (least offer.sell offer.buy o.sell o.buy (λ e. o.differ (sym e)))
