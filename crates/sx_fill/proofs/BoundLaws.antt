-- Tables of what offers are worth: one offer more, and what makes them bounds.
use Rattle.std.proofs.Common.{◌≡◌, ◌≢◌, ℕ, suc, ◌+◌, ◌*◌, ◌/◌, ◌%◌, ◌^◌, ◌<◌, ◌≤◌, Bool, false, List, [], ◌∷◌, ◌++◌}
use Rattle.std.proofs.Common.{length, get_or, take, drop, sum_by, inl, inr, refl, sym, ap, ap₂, subst, ◌∙◌}
use Rattle.std.proofs.Common.{length-append, add-one, arith}
use Rattle.std.specs.Prelude.{All, ◌==◌, ◌&&◌, if◌then◌else◌, slice_index}
use Rattle.std.specs.List.{filter}
use Rattle.std.proofs.lemmas.Bool.{and_parts, cases_Bool, cases_eq, cases_lt, eq-eqb, eqb-true}
use Rattle.std.proofs.lemmas.List.{get_or_default}
use Rattle.std.proofs.lemmas.List.Elements.{All-head, All-tail, filter-append}
use Rattle.std.proofs.lemmas.List.Sums.{sum_by-append, sum_by-cons}
use Rattle.std.proofs.Math.Nat.{div-lt_iff_lt-mul, mul-add, mul-le-mul_right}
use Rattle.std.proofs.Math.Seq.{drop-length, take-append_seam, take-suc}
use Rattle.sx_fill.specs.Bounds.{AreOffers, AreValues, HasBounds, IsOfPair}
use Rattle.sx_dual.specs.Tables.{AreBounds, BoundsTable, IsAssetCount, IsTable, entry_at}
use Rattle.sx_ledger.specs.declared.offer.Offer.{Offer}
use Rattle.sx_ledger.specs.Bounds.{amounts, high_of as high_at, low_of as low_at, may_trade_at, must_trade_at}
use Rattle.sx_ledger.specs.Bounds.{pair_of, price_of}
use Rattle.sx_ledger.specs.declared.parts.Parts.{Parts}
use Rattle.sx_ledger.specs.Ledger.{IsLedger, assets_of, offered}
use Rattle.sx_ledger.proofs.MustWithinMay.{low_within_high}
use Rattle.sx_price.specs.Limits.{IsPrice}

-- ---- amounts of a pair

is_pair : ℕ → ℕ → Offer → Bool
is_pair sell buy offer = (offer.sell == sell) && (offer.buy == buy)

-- the offers of a pair have no more than all offers have of what it sells
amounts_le : (test : Offer → Bool) (sell buy : ℕ) (offers : List Offer)
    → amounts (filter test (pair_of sell buy offers)) ≤ sum_by (offered sell) offers
amounts_le test sell buy [] = omega arith
amounts_le test sell buy (offer ∷ offers) =
    let rest = amounts_le test sell buy offers in
    let all = sum_by-cons (offered sell) offer offers in
    elim (cases_Bool ((offer.sell == sell) && (offer.buy == buy))) [
      | inl pair ↦
          let sold = (and_parts (offer.sell == sell) (offer.buy == buy) pair).0 in
          let here : offered sell offer ≡ offer.amount = rw sold refl in
          elim (cases_Bool (test offer)) [
            | inl keeps ↦ rw (pair, keeps)
                (omega (
                  arith,
                  sum_by-cons (λ (offer : Offer). offer.amount) offer
                      (filter test (pair_of sell buy offers)),
                ))
            | inr drops ↦ rw (pair, drops) (omega arith)
          ]
      | inr other ↦ rw other (omega arith)
    ]

-- nothing is sold for itself
none_for_itself : (n asset : ℕ) (offers : List Offer) → All (IsOfPair n) offers → pair_of asset asset offers ≡ []
none_for_itself n asset [] pairs = refl
none_for_itself n asset (offer ∷ offers) pairs =
    let rest = none_for_itself n asset offers (All-tail (IsOfPair n) offer offers pairs) in
    let first = All-head (IsOfPair n) offer offers pairs in
    elim (cases_Bool ((offer.sell == asset) && (offer.buy == asset))) [
      | inl pair ↦ absurd (
          let both = and_parts (offer.sell == asset) (offer.buy == asset) pair in
          first.differ (eqb-true offer.buy asset both.1 ∙ sym (eqb-true offer.sell asset both.0))
          )
      | inr other ↦ rw other rest
    ]

-- ---- places of pairs

row_is : (n sell buy sell' buy' : ℕ) → buy < n → buy' < n → sell * n + buy ≡ sell' * n + buy' → sell ≤ sell'
row_is n sell buy sell' buy' b b' same =
    elim (cases_lt sell' sell) [
      | inl above ↦
          let more : (suc sell') * n ≤ sell * n = mul-le-mul_right n above in
          absurd (omega arith)
      | inr le ↦ le
    ]

one_place : (n sell buy sell' buy' : ℕ) → buy < n → buy' < n → sell * n + buy ≡ sell' * n + buy'
    → (sell ≡ sell') × (buy ≡ buy')
one_place n sell buy sell' buy' b b' same =
    let one = row_is n sell buy sell' buy' b b' same in
    let other = row_is n sell' buy' sell buy b' b (sym same) in
    let rows : sell ≡ sell' = omega arith in
    let products : sell * n ≡ sell' * n = ap (λ (x : ℕ). x * n) rows in
    (rows, omega arith)

-- ---- one offer more

module _ (n : ℕ) (prices : List ℕ) (test : Offer → Bool) (before : List Offer) (old new : List ℕ) (offer : Offer)
    (pair : IsOfPair n offer) (values : AreValues n prices test before old) (full : length new ≡ length old)
    (small : (place : ℕ) → slice_index new place ≤ slice_index old place + 2 ^ 102)
    (here : entry_at n new offer.sell offer.buy ≡ entry_at n old offer.sell offer.buy
    + (if test offer then price_of prices offer.sell * offer.amount else 0))
    (elsewhere : (place : ℕ) → place ≢ offer.sell * n + offer.buy → slice_index new place ≡ slice_index old place) where
  abbrev worth : ℕ → ℕ → List Offer → ℕ
  worth sell buy offers = price_of prices sell * amounts (filter test (pair_of sell buy offers))

  -- what an offer adds to the amounts of its own pair, and of another
  split : (sell buy : ℕ) → amounts (filter test (pair_of sell buy (before ++ (offer ∷ []))))
      ≡ amounts (filter test (pair_of sell buy before)) + amounts (filter test (pair_of sell buy (offer ∷ [])))
  split sell buy =
      ap (λ (xs : List Offer). amounts (filter test xs))
      (filter-append (λ offer. (offer.sell == sell) && (offer.buy == buy)) before (offer ∷ []))
      ∙ ap amounts (filter-append test (pair_of sell buy before) (pair_of sell buy (offer ∷ [])))
      ∙ sum_by-append (λ (offer : Offer). offer.amount) (filter test (pair_of sell buy before))
      (filter test (pair_of sell buy (offer ∷ [])))

  own : amounts (filter test (pair_of offer.sell offer.buy (offer ∷ []))) ≡ (if test offer then offer.amount else 0)
  own =
      rw (eq-eqb offer.sell offer.sell refl, eq-eqb offer.buy offer.buy refl)
      (elim (cases_Bool (test offer)) [ inl keeps ↦ rw keeps (omega arith) | inr drops ↦ rw drops refl ])

  added : price_of prices offer.sell * (if test offer then offer.amount else 0)
      ≡ (if test offer then price_of prices offer.sell * offer.amount else 0)
  added = elim (cases_Bool (test offer)) [ inl keeps ↦ rw keeps refl | inr drops ↦ rw drops (omega arith) ]

  own_value : entry_at n new offer.sell offer.buy ≡ worth offer.sell offer.buy (before ++ (offer ∷ []))
  own_value =
      let was = values.values offer.sell offer.buy pair.sell pair.buy in
      let sum : worth offer.sell offer.buy (before ++ (offer ∷ [])) ≡ price_of prices offer.sell
      * (amounts (filter test (pair_of offer.sell offer.buy before)) + (if test offer then offer.amount else 0)) =
      ap (λ (x : ℕ). price_of prices offer.sell * x)
      (split offer.sell offer.buy ∙ ap (λ (x : ℕ). amounts (filter test (pair_of offer.sell offer.buy before)) + x)
      own) in
      let parts = mul-add (price_of prices offer.sell) (amounts (filter test (pair_of offer.sell offer.buy before)))
      (if test offer then offer.amount else 0) in
      here ∙ omega (arith, was, sum, parts, added)

  other_none : (sell buy : ℕ) → ((sell ≡ offer.sell) × (buy ≡ offer.buy) → ⊥) → pair_of sell buy (offer ∷ []) ≡ []
  other_none sell buy other =
      elim (cases_Bool ((offer.sell == sell) && (offer.buy == buy))) [
        | inl same ↦ absurd (
            let both = and_parts (offer.sell == sell) (offer.buy == buy) same in
            other (sym (eqb-true offer.sell sell both.0), sym (eqb-true offer.buy buy both.1))
            )
        | inr differs ↦ rw differs refl
      ]

  other_value : (sell buy : ℕ) → sell < n → buy < n → ((sell ≡ offer.sell) × (buy ≡ offer.buy) → ⊥)
      → entry_at n new sell buy ≡ worth sell buy (before ++ (offer ∷ []))
  other_value sell buy s b other =
      let apart : sell * n + buy ≢ offer.sell * n + offer.buy =
      λ e. other (one_place n sell buy offer.sell offer.buy b pair.buy e) in
      let none : amounts (filter test (pair_of sell buy (offer ∷ []))) ≡ 0 =
      ap (λ (xs : List Offer). amounts (filter test xs)) (other_none sell buy other) in
      let sum : amounts (filter test (pair_of sell buy (before ++ (offer ∷ [])))) ≡ amounts
      (filter test (pair_of sell buy before)) =
      omega (arith, split sell buy, none) in
      elsewhere (sell * n + buy) apart ∙ values.values sell buy s b ∙ ap (λ (x : ℕ). price_of prices sell * x) (sym sum)

  pub values_more : AreValues n prices test (before ++ (offer ∷ [])) new
  values_more = record {
    full = full ∙ values.full;
    small = λ place.
        omega (arith, small place, values.small place, length-append before (offer ∷ []));
    values = λ sell buy s b.
        elim (cases_eq sell offer.sell) [
          | inl sells ↦ elim (cases_eq buy offer.buy) [
            | inl buys ↦ rw (sells, buys) own_value
            | inr other ↦ other_value sell buy s b (λ both. other both.1)
          ]
          | inr other ↦ other_value sell buy s b (λ both. other both.0)
        ];
  }

-- the same once the offer stands at its place of a list, and another test told the same of it
pub values_step : (n : ℕ) (prices : List ℕ) (test : Offer → Bool) (counts : Bool) (offers : List Offer) (i : ℕ)
    (offer : Offer) (old new : List ℕ) → AreOffers n offers → i < length offers → offer ≡ get_or offers i offer
    → counts ≡ test offer → AreValues n prices test (take i offers) old → length new ≡ length old
    → ((place : ℕ) → slice_index new place ≤ slice_index old place + 2 ^ 102)
    → entry_at n new offer.sell offer.buy ≡ entry_at n old offer.sell offer.buy
    + (if counts then price_of prices offer.sell * offer.amount else 0)
    → ((place : ℕ) → place ≢ offer.sell * n + offer.buy → slice_index new place ≡ slice_index old place)
    → AreValues n prices test (take (i + 1) offers) new
values_step n prices test counts offers i offer old new are lt is told values full small here elsewhere =
    let pair : IsOfPair n offer = subst (IsOfPair n) (sym is) (are.pairs i offer lt) in
    let more : take (i + 1) offers ≡ take i offers ++ (offer ∷ []) =
    ap (λ (k : ℕ). take k offers) (add-one i) ∙ take-suc offers i offer lt
    ∙ ap (λ (x : Offer). take i offers ++ (x ∷ [])) (sym is) in
    let counted : entry_at n new offer.sell offer.buy ≡ entry_at n old offer.sell offer.buy
    + (if test offer then price_of prices offer.sell * offer.amount else 0) =
    subst (λ (b : Bool). entry_at n new offer.sell offer.buy ≡ entry_at n old offer.sell
    offer.buy + (if b then price_of prices offer.sell * offer.amount else 0)) told here in
    subst (λ (xs : List Offer). AreValues n prices test xs new) (sym more)
    (values_more n prices test (take i offers) old new offer pair values full small counted elsewhere)

-- a vector whose elements were changed as a slice
pub put_back : (xs ys : List ℕ) (len : ℕ) → len ≡ length ys → length xs ≡ length ys → take len
    (xs ++ drop (length xs) ys) ≡ xs
put_back xs ys len whole same =
    let none : drop (length xs) ys ≡ [] = ap (λ (k : ℕ). drop k ys) same ∙ drop-length ys in
    let at : len ≡ length xs = omega arith in
    ap₂ take at (ap (λ (zs : List ℕ). xs ++ zs) none) ∙ take-append_seam xs []

-- ---- bounds

module _ (n : ℕ) (prices : List ℕ) (offers : List Offer) (count : IsAssetCount n) (one_each : length prices ≡ n)
    (in_range : All IsPrice prices) (are : AreOffers n offers) where
  table : (test : Offer → Bool) (entries : List ℕ) → AreValues n prices test offers entries → IsTable n entries
  table test entries values = record {
    full = values.full;
    in_range = λ k d lt.
        let some = count.some in
        let s = k / n in
        let b = k % n in
        let full = values.full in
        let whole : s * n + b ≡ k = omega arith in
        let b_lt : b < n = omega arith in
        let s_lt : s < n = (div-lt_iff_lt-mul some).1 (omega arith) in
        let is = values.values s b s_lt b_lt in
        let price = in_range s 0 (omega arith) in
        let all = amounts (filter test (pair_of s b offers)) in
        let few : all ≤ 2 ^ 62 = omega (arith, amounts_le test s b offers, are.in_range s s_lt) in
        let by_price : price_of prices s * all ≤ 2 ^ 40 * all = mul-le-mul_right all price.1 in
        let read : get_or entries k d ≡ entry_at n entries s b =
        get_or_default entries k d 0 lt ∙ ap (slice_index entries) (sym whole) in
        omega (arith, read, is, by_price, few);
    diagonal = λ asset lt.
        values.values asset asset lt lt
        ∙ ap (λ (xs : List Offer). price_of prices asset * amounts (filter test xs))
        (none_for_itself n asset offers are.pairs)
        ∙ omega arith;
  }

  pub are_bounds : (j : ℕ) (low high : List ℕ) → AreValues n prices (must_trade_at prices j) offers low
      → AreValues n prices (may_trade_at prices) offers high
      → AreBounds (record { assets = n; low = low; high = high })
  are_bounds j low high lows highs = record {
    assets = count;
    low = table (must_trade_at prices j) low lows;
    high = table (may_trade_at prices) high highs;
    ordered = λ sell buy s b.
        omega (
          arith,
          lows.values sell buy s b,
          highs.values sell buy s b,
          low_within_high prices j false offers
              sell buy,
        );
  }

pub bounds_as : (n n' : ℕ) (low low' high high' : List ℕ) → n' ≡ n → low' ≡ low → high' ≡ high
    → AreBounds (record { assets = n; low = low; high = high }) → AreBounds
    (record { assets = n'; low = low'; high = high' })
bounds_as n n' low low' high high' counts lows highs are =
    subst (λ (n : ℕ). AreBounds (record { assets = n; low = low'; high = high' })) (sym counts)
    (subst (λ (low : List ℕ). AreBounds (record { assets = n; low = low; high = high' })) (sym lows)
    (subst (λ (high : List ℕ). AreBounds (record { assets = n; low = low; high = high })) (sym highs) are))

pub has_bounds : (n : ℕ) (prices : List ℕ) (j : ℕ) (offers : List Offer) (low high : List ℕ) (bounds : BoundsTable)
    → bounds.assets ≡ n → bounds.low ≡ low → bounds.high ≡ high
    → AreValues n prices (must_trade_at prices j) offers low → AreValues n prices (may_trade_at prices) offers high
    → HasBounds n (low_at prices j false offers) (high_at prices offers) bounds
has_bounds n prices j offers low high bounds counts lows highs musts mays = record {
  same_assets = counts;
  is_low = λ sell buy s b differ.
      ap₂ (λ (n : ℕ) (xs : List ℕ). entry_at n xs sell buy) counts lows ∙ musts.values sell buy s b;
  is_high = λ sell buy s b differ.
      ap₂ (λ (n : ℕ) (xs : List ℕ). entry_at n xs sell buy) counts highs ∙ mays.values sell buy s b;
}

-- the offers of a ledger
pub ledger_offers : (parts : Parts) → IsLedger parts → AreOffers (assets_of parts) parts.offers
ledger_offers parts is = record {
  few = is.few_offers;
  pairs = λ k d lt.
      let offer = is.offers k d lt in
      record { sell = offer.sell; buy = offer.buy; differ = offer.differ };
  in_range = λ asset lt. let total = is.totals asset lt in omega arith;
}
