-- Tables of what quotes must and may trade, which are the bounds of all offers with these quotes.
use Rattle.std.proofs.Common.{◌≡◌, ℕ, ◌+◌, ◌*◌, ◌<◌, ◌≤◌, Bool, false, List, [], ◌∷◌, ◌==◌, ◌&&◌, inl, inr, refl, sym}
use Rattle.std.proofs.Common.{ap, ap₂, ◌∙◌, arith}
use Rattle.std.specs.Prelude.{All}
use Rattle.std.specs.List.{filter}
use Rattle.std.specs.List.Sorted.{IsPermutation}
use Rattle.std.proofs.lemmas.Bool.{and_parts, cases_Bool, eqb-true}
use Rattle.std.proofs.lemmas.List.Elements.{All-head, All-tail}
use Rattle.std.proofs.lemmas.List.Sums.{sum_by-cons}
use Rattle.std.proofs.lemmas.Nat.{div-mul-add, mod-mul-add}
use Rattle.std.proofs.Math.Nat.{mul-le-mul_left, mul-le-mul_right}
use Rattle.sx_fill.specs.Bounds.{HasBounds}
use Rattle.sx_clear.specs.Bounding.{AreValues, may_value, must_value}
use Rattle.sx_multi.specs.Quotes.{quote_of, quotes_of}
use Rattle.sx_curve.specs.declared.quote.Quote.{Quote}
use Rattle.sx_curve.specs.Curves.{AreQuotes, IsAmong}
use Rattle.sx_curve.specs.Demand.{may_at, must_at}
use Rattle.sx_curve.specs.Quotes.{amounts, pair_of}
use Rattle.sx_curve.proofs.ListSums.{sum_by-twice-permuted}
use Rattle.sx_curve.proofs.PairValues.{must_and_mid}
use Rattle.sx_dual.specs.Tables.{AreBounds, BoundsTable, IsTable, entry_at}
use Rattle.sx_ledger.specs.declared.offer.Offer.{Offer}
use Rattle.sx_ledger.specs.Bounds.{amounts as amounts_offered, high_of, low_of, may_trade_at, must_trade_at}
use Rattle.sx_ledger.specs.Bounds.{pair_of as offers_of_pair, price_of}
use Rattle.sx_price.specs.Limits.{may_trade, must_trade}

-- ---- tables

-- nothing is quoted of an asset for itself
none_for_itself : (n asset : ℕ) (quotes : List Quote) → All (IsAmong n) quotes → pair_of asset asset quotes ≡ []
none_for_itself n asset [] among = refl
none_for_itself n asset (quote ∷ quotes) among =
    let rest = none_for_itself n asset quotes (All-tail (IsAmong n) quote quotes among) in
    let first = All-head (IsAmong n) quote quotes among in
    elim (cases_Bool ((quote.sell == asset) && (quote.buy == asset))) [
      | inl pair ↦ absurd (
          let both = and_parts (quote.sell == asset) (quote.buy == asset) pair in
          first.different (eqb-true quote.sell asset both.0 ∙ sym (eqb-true quote.buy asset both.1))
          )
      | inr other ↦ rw other rest
    ]

-- the entry of a pair is its value
entry_is : (n : ℕ) (value : ℕ → ℕ → ℕ) (entries : List ℕ) → AreValues n value entries
    → (sell buy : ℕ) → sell < n → buy < n → entry_at n entries sell buy ≡ value sell buy
entry_is n value entries are sell buy s b =
    let rows = mul-le-mul_right n s in
    (are.each (sell * n + buy) 0 (omega (arith, rows, b))).of_pair
    ∙ ap₂ value (div-mul-add sell n buy b) (mod-mul-add sell n buy b)

module _ (n j : ℕ) (quotes : List Quote) (prices low high : List ℕ) (are : AreQuotes n quotes)
    (lows : AreValues n (must_value quotes prices j) low) (highs : AreValues n (may_value quotes prices) high) where
  must_le_may : (sell buy : ℕ) → must_value quotes prices j sell buy ≤ may_value quotes prices sell buy
  must_le_may sell buy =
      let all = must_and_mid (pair_of sell buy quotes) (price_of prices sell) (price_of prices buy) j in
      mul-le-mul_left (price_of prices sell) (omega (arith, all))

  table : (value : ℕ → ℕ → ℕ) (entries : List ℕ) → AreValues n value entries
      → ((asset : ℕ) → value asset asset ≡ 0) → IsTable n entries
  table value entries values diagonal = record {
    full = values.full;
    in_range = λ k d lt. (values.each k d (omega (arith, lt, values.full))).in_range;
    diagonal = λ asset lt. entry_is n value entries values asset asset lt lt ∙ diagonal asset;
  }

  -- what passes a test of the quotes of an asset for itself is worth nothing
  worthless : (asset price : ℕ) (test : Quote → Bool) → price * amounts (filter test (pair_of asset asset quotes)) ≡ 0
  worthless asset price test =
      ap (λ (qs : List Quote). price * amounts (filter test qs)) (none_for_itself n asset quotes are.among)
      ∙ omega arith

  pub are_bounds : AreBounds (record { assets = n; low = low; high = high })
  are_bounds = record {
    assets = record { some = are.some; few = are.few };
    low = table (must_value quotes prices j) low lows
        (λ asset. worthless asset (price_of prices asset) (must_at (price_of prices asset) (price_of prices asset) j));
    high = table (may_value quotes prices) high highs
        (λ asset. worthless asset (price_of prices asset) (may_at (price_of prices asset) (price_of prices asset)));
    ordered = λ sell buy s b.
        omega (
          arith,
          entry_is n (must_value quotes prices j) low lows sell buy s b,
          entry_is n (may_value quotes prices) high highs sell buy s b,
          must_le_may sell buy,
        );
  }

-- ---- offers with these quotes

-- a pair has as much in quotes that pass a test as in offers that pass one alike
same_amounts : (sell buy : ℕ) (of_quote : Quote → Bool) (of_offer : Offer → Bool)
    → ((offer : Offer) → offer.sell ≡ sell → offer.buy ≡ buy → of_quote (quote_of offer) ≡ of_offer offer)
    → (offers : List Offer) → amounts (filter of_quote (pair_of sell buy (quotes_of offers)))
    ≡ amounts_offered (filter of_offer (offers_of_pair sell buy offers))
same_amounts sell buy of_quote of_offer alike [] = refl
same_amounts sell buy of_quote of_offer alike (offer ∷ offers) =
    let rest = same_amounts sell buy of_quote of_offer alike offers in
    elim (cases_Bool ((offer.sell == sell) && (offer.buy == buy))) [
      | inl pair ↦
          let both = and_parts (offer.sell == sell) (offer.buy == buy) pair in
          let same = alike offer (eqb-true offer.sell sell both.0) (eqb-true offer.buy buy both.1) in
          elim (cases_Bool (of_offer offer)) [
            | inl keeps ↦ rw (pair, same, keeps)
                (omega (
                  arith,
                  rest,
                  sum_by-cons (λ (quote : Quote). quote.amount) (quote_of offer)
                      (filter of_quote (pair_of sell buy (quotes_of offers))),
                  sum_by-cons (λ (offer : Offer). offer.amount) offer
                      (filter of_offer (offers_of_pair sell buy offers)),
                ))
            | inr drops ↦ rw (pair, same, drops) rest
          ]
      | inr other ↦ rw other rest
    ]

module _ (prices : List ℕ) (j : ℕ) (offers : List Offer) (quotes : List Quote)
    (permuted : IsPermutation (quotes_of offers) quotes) where
  -- the order of the quotes is of no account
  worth_is : (sell buy : ℕ) (of_quote : Quote → Bool) (of_offer : Offer → Bool)
      → ((offer : Offer) → offer.sell ≡ sell → offer.buy ≡ buy → of_quote (quote_of offer) ≡ of_offer offer)
      → price_of prices sell * amounts (filter of_quote (pair_of sell buy quotes))
      ≡ price_of prices sell * amounts_offered (filter of_offer (offers_of_pair sell buy offers))
  worth_is sell buy of_quote of_offer alike =
      ap (λ n. price_of prices sell * n)
      (sum_by-twice-permuted (λ (quote : Quote). quote.amount) of_quote
      (λ (quote : Quote). (quote.sell == sell) && (quote.buy == buy)) (quotes_of offers) quotes permuted
      ∙ same_amounts sell buy of_quote of_offer alike offers)

  must_is : (sell buy : ℕ) → must_value quotes prices j sell buy ≡ low_of prices j false offers sell buy
  must_is sell buy =
      worth_is sell buy (must_at (price_of prices sell) (price_of prices buy) j) (must_trade_at prices j)
      (λ offer s b.
      ap₂ (λ (x y : ℕ). must_trade (price_of prices x) (price_of prices y) offer.limit j) (sym s) (sym b))

  may_is : (sell buy : ℕ) → may_value quotes prices sell buy ≡ high_of prices offers sell buy
  may_is sell buy =
      worth_is sell buy (may_at (price_of prices sell) (price_of prices buy)) (may_trade_at prices)
      (λ offer s b.
      ap₂ (λ (x y : ℕ). may_trade (price_of prices x) (price_of prices y) offer.limit) (sym s) (sym b))

  pub have_bounds : (n : ℕ) (low high : List ℕ) (bounds : BoundsTable)
      → AreValues n (must_value quotes prices j) low → AreValues n (may_value quotes prices) high
      → bounds.assets ≡ n → bounds.low ≡ low → bounds.high ≡ high
      → HasBounds n (low_of prices j false offers) (high_of prices offers) bounds
  have_bounds n low high bounds lows highs counts low_is high_is = record {
    same_assets = counts;
    is_low = λ sell buy s b differ.
        ap₂ (λ (n : ℕ) (xs : List ℕ). entry_at n xs sell buy) counts low_is
        ∙ entry_is n (must_value quotes prices j) low lows sell buy s b ∙ must_is sell buy;
    is_high = λ sell buy s b differ.
        ap₂ (λ (n : ℕ) (xs : List ℕ). entry_at n xs sell buy) counts high_is
        ∙ entry_is n (may_value quotes prices) high highs sell buy s b ∙ may_is sell buy;
  }
