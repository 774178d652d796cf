-- The quotes of a pair up to a limit stand together, so that the last of their points tells their sums; and how
-- great those are.
use Rattle.std.proofs.Common.{◌≡◌, ℕ, ◌+◌, ◌-◌, ◌*◌, ◌^◌, ◌<◌, ◌≤◌, Bool, true, false, cond, ◌&&◌, ◌==◌}
use Rattle.std.proofs.Common.{nat_le, List, length, get_or, take, sum_by, All, inl, inr, refl, sym, ap, ◌∙◌, arith}
use Rattle.std.specs.List.{AllWithin, slice_range}
use Rattle.std.specs.List.Sorted.{IsNonDecreasingBy, IsPermutation}
use Rattle.std.proofs.lemmas.Bool.{and_from, and_parts, cases_lt, eq-eqb, eqb-true, false_from_ne_true}
use Rattle.std.proofs.lemmas.Bool.{ne_eqb}
use Rattle.std.proofs.lemmas.List.Edits.{get_or-between, length-between}
use Rattle.std.proofs.lemmas.List.Elements.{All-filter}
use Rattle.std.proofs.lemmas.List.Sorted.{All-permutation}
use Rattle.std.proofs.lemmas.List.Sums.{sum_by-le-sum_by}
use Rattle.std.proofs.Math.Nat.{mul-le-mul_left}
use Rattle.sx_curve.specs.declared.points.Point.{Point}
use Rattle.sx_curve.specs.declared.quote.Quote.{Quote}
use Rattle.sx_curve.specs.declared.sums.Sums.{Sums}
use Rattle.sx_curve.specs.Curves.{AreInOrder, ArePoints, AreQuotes, AreSumsAt, DoPairsFit, HasLimit, IsAmong}
use Rattle.sx_curve.specs.Curves.{IsPairRange, IsPoint, ReachesTo, is_point_below, place_of_pair, place_of_quote}
use Rattle.sx_curve.specs.Listed.{no_point}
use Rattle.sx_curve.specs.Quotes.{amounts, is_below, pair_of, quotes_below, sellers_of, weighted_amounts}
use Rattle.sx_curve.proofs.ListSums.{masked, sum_by-bounded, sum_by-filter, sum_by-filter-permuted}
use Rattle.sx_curve.proofs.ListSums.{sum_by-filter_twice, sum_by-zero}
use Rattle.sx_curve.proofs.Segments.{front}

abbrev pub is_of : ℕ → ℕ → Quote → Bool
is_of sell buy quote = (quote.sell == sell) && (quote.buy == buy)

pub no_quote : Quote
no_quote = record { sell = 0; buy = 0; limit = 0; amount = 0 }

-- ---- which quotes are of a pair

pub same_place : (sell buy sell' buy' : ℕ) → buy < 32 → buy' < 32 → place_of_pair sell buy ≡ place_of_pair sell' buy'
    → (sell ≡ sell') × (buy ≡ buy')
same_place sell buy sell' buy' small small' same = (omega arith, omega arith)

of_pair : (sell buy : ℕ) (quote : Quote) → buy < 32 → quote.buy < 32 → place_of_quote quote ≡ place_of_pair sell buy
    → is_of sell buy quote ≡ true
of_pair sell buy quote small small' same =
    let parts = same_place quote.sell quote.buy sell buy small' small same in
    and_from _ _ (eq-eqb quote.sell sell parts.0) (eq-eqb quote.buy buy parts.1)

pub of_other : (sell buy : ℕ) (quote : Quote) → (place_of_quote quote ≡ place_of_pair sell buy → ⊥)
    → is_of sell buy quote ≡ false
of_other sell buy quote apart =
    false_from_ne_true (is_of sell buy quote)
    (λ e.
    let parts = and_parts (quote.sell == sell) (quote.buy == buy) e in
    let sells = eqb-true quote.sell sell parts.0 in
    let buys = eqb-true quote.buy buy parts.1 in
    apart (omega arith))

pub masked_no : (p : Quote → Bool) (f : Quote → ℕ) (quote : Quote) → p quote ≡ false → masked p f quote ≡ 0
masked_no p f quote fails = rw fails refl

pub masked_yes : (p : Quote → Bool) (f : Quote → ℕ) (quote : Quote) → p quote ≡ true → masked p f quote ≡ f quote
masked_yes p f quote passes = rw passes refl

-- ---- the stretch

module _ (assets : ℕ) (quotes : List Quote) (points : List Point) (market : AreQuotes assets quotes)
    (in_order : AreInOrder quotes) (kept : ArePoints quotes points (length quotes)) (sell buy begin end : ℕ)
    (range : IsPairRange quotes sell buy begin end) where
  pub ends_follow : begin ≤ end
  ends_follow =
      elim (cases_lt end begin) [
        | inl less ↦
            let starts = range.begins.within in
            let low = range.begins.before end no_quote (omega arith) less in
            let high = range.ends.after end no_quote (omega arith) (omega arith) in
            absurd (omega arith)
        | inr order ↦ order
      ]

  small : (k : ℕ) (d : Quote) → k < length quotes → (get_or quotes k d).buy < 32
  small k d lt = let here = market.among k d lt in omega (arith, here.buy, market.few)

  inside : (k : ℕ) (d : Quote) → begin ≤ k → k < end → is_of sell buy (get_or quotes k d) ≡ true
  inside k d low high =
      let last = range.ends.within in
      let lt : k < length quotes = omega arith in
      let up = range.begins.after k d low lt in
      let down = range.ends.before k d (omega arith) high in
      of_pair sell buy (get_or quotes k d) range.asset (small k d lt) (omega arith)

  sells : (k : ℕ) (d : Quote) → begin ≤ k → k < end → (get_or quotes k d).sell ≡ sell
  sells k d low high = eqb-true _ _ (and_parts _ _ (inside k d low high)).0

  buys : (k : ℕ) (d : Quote) → begin ≤ k → k < end → (get_or quotes k d).buy ≡ buy
  buys k d low high = eqb-true _ _ (and_parts _ _ (inside k d low high)).1

  pub point_limits_rise : IsNonDecreasingBy (λ point. point.limit) (slice_range points begin end)
  point_limits_rise i j d le lt =
      let last = range.ends.within in
      let order = ends_follow in
      let full = kept.full in
      let long = length-between points begin end (omega arith) in
      let at_i = get_or-between points begin end i d (omega arith) in
      let at_j = get_or-between points begin end j d (omega arith) in
      let up = in_order (begin + i) (begin + j) no_quote (omega arith) (omega arith) in
      let sell_i = sells (begin + i) no_quote (omega arith) (omega arith) in
      let sell_j = sells (begin + j) no_quote (omega arith) (omega arith) in
      let buy_i = buys (begin + i) no_quote (omega arith) (omega arith) in
      let buy_j = buys (begin + j) no_quote (omega arith) (omega arith) in
      let point_i = kept.each (begin + i) d no_quote (omega arith) in
      let point_j = kept.each (begin + j) d no_quote (omega arith) in
      rw (at_i, at_j)
      (omega (arith, up.limit (sell_i ∙ sym sell_j) (buy_i ∙ sym buy_j), point_i.limit, point_j.limit))

  module _ (num den count : ℕ) (reaches : ReachesTo (slice_range points begin end) num den count) where
    count_fits : begin + count ≤ end
    count_fits =
        let order = ends_follow in
        let last = range.ends.within in
        let full = kept.full in
        omega (arith, reaches.within, length-between points begin end (omega arith))

    -- a point of the pair tells whether its quote is below
    told : (k : ℕ) (d : Quote) → begin ≤ k → k < end
        → is_point_below num den (get_or (slice_range points begin end) (k - begin) no_point)
        ≡ is_below num den (get_or quotes k d)
    told k d low high =
        let last = range.ends.within in
        let full = kept.full in
        let at = get_or-between points begin end (k - begin) no_point (omega arith) in
        let place : begin + (k - begin) ≡ k = omega arith in
        let point = kept.each k no_point d (omega arith) in
        ap (is_point_below num den) at
        ∙ ap (λ (n : ℕ). is_point_below num den (get_or points n no_point)) place
        ∙ ap (λ (limit : ℕ). nat_le (limit * den) num) point.limit

    module _ (f : Quote → ℕ) where
      -- what a quote counts where it is of the pair, and where it is below too
      abbrev in_pair : Quote → ℕ
      in_pair = masked (is_of sell buy) f

      abbrev counted : Quote → ℕ
      counted = masked (is_of sell buy) (masked (is_below num den) f)

      first_nothing : AllWithin (λ x. (in_pair x ≡ 0) × (counted x ≡ 0)) quotes 0 begin
      first_nothing k d low high =
          let down = range.begins.before k d low high in
          let other = of_other sell buy (get_or quotes k d) (λ e. omega arith) in (
            masked_no (is_of sell buy) f (get_or quotes k d) other,
            masked_no (is_of sell buy) (masked (is_below num den) f) (get_or quotes k d) other,
          )

      first_same : AllWithin (λ x. counted x ≡ in_pair x) quotes 0 (begin + count)
      first_same k d low high =
          let fits = count_fits in
          let quote = get_or quotes k d in
          elim (cases_lt k begin) [
            | inl early ↦ let none = first_nothing k d low early in none.1 ∙ sym none.0
            | inr here ↦
                let of_it = inside k d here (omega arith) in
                let below = reaches.below (k - begin) no_point (omega arith) (omega arith) in
                masked_yes (is_of sell buy) (masked (is_below num den) f) quote of_it
                ∙ masked_yes (is_below num den) f quote (sym (told k d here (omega arith)) ∙ below)
                ∙ sym (masked_yes (is_of sell buy) f quote of_it)
          ]

      rest_nothing : AllWithin (λ x. counted x ≡ 0) quotes (begin + count) (length quotes)
      rest_nothing k d low high =
          let order = ends_follow in
          let last = range.ends.within in
          let full = kept.full in
          let long = length-between points begin end (omega arith) in
          let quote = get_or quotes k d in
          elim (cases_lt k end) [
            | inl here ↦
                let above = reaches.above (k - begin) no_point (omega arith) (omega arith) in
                masked_yes (is_of sell buy) (masked (is_below num den) f) quote (inside k d (omega arith) here)
                ∙ masked_no (is_below num den) f quote (sym (told k d (omega arith) here) ∙ above)
            | inr past ↦
                let up = range.ends.after k d past high in
                masked_no (is_of sell buy) (masked (is_below num den) f) quote
                (of_other sell buy quote (λ e. omega arith))
          ]

      -- the quotes below are those of the pair in the front
      front_is : sum_by f (quotes_below sell buy num den quotes)
          ≡ sum_by f (pair_of sell buy (take (begin + count) quotes))
      front_is =
          let fits = count_fits in
          let last = range.ends.within in
          sum_by-filter_twice f (is_below num den) (is_of sell buy) quotes
          ∙ front in_pair counted quotes no_quote (begin + count) (omega arith) first_same rest_nothing
          ∙ sym (sum_by-filter f (is_of sell buy) (take (begin + count) quotes))

      none_below : count ≡ 0 → 0 ≡ sum_by f (quotes_below sell buy num den quotes)
      none_below none =
          sym
          (sum_by-filter_twice f (is_below num den) (is_of sell buy) quotes
          ∙ sum_by-zero counted quotes
          (λ k d lt.
          elim (cases_lt k begin) [
            | inl early ↦ (first_nothing k d (omega arith) early).1
            | inr late ↦ rest_nothing k d (omega arith) lt
          ]))

      answer : (sum : ℕ) → (count ≡ 0 → sum ≡ 0)
          → (0 < count → sum ≡ sum_by f (pair_of sell buy (take (begin + count) quotes)))
          → sum ≡ sum_by f (quotes_below sell buy num den quotes)
      answer sum none some =
          elim (cases_lt 0 count) [
            | inl more ↦ some more ∙ sym front_is
            | inr no_more ↦
                let zero_count : count ≡ 0 = omega arith in
                none zero_count ∙ none_below zero_count
          ]

    -- the last point that is reached is of the last quote that is
    last_point : (0 < count)
        → IsPoint quotes (begin + (count - 1)) (get_or quotes (begin + (count - 1)) no_quote)
        (get_or (slice_range points begin end) (count - 1) no_point)
    last_point some =
        let fits = count_fits in
        let last = range.ends.within in
        let full = kept.full in
        let at = get_or-between points begin end (count - 1) no_point (omega arith) in
        rw at (kept.each (begin + (count - 1)) no_point no_quote (omega arith))

    last_is : (total : List Quote → ℕ) → 0 < count
        → total
        (pair_of (get_or quotes (begin + (count - 1)) no_quote).sell (get_or quotes (begin + (count - 1)) no_quote).buy
        (take (begin + (count - 1) + 1) quotes))
        ≡ total (pair_of sell buy (take (begin + count) quotes))
    last_is total some =
        let fits = count_fits in
        let sell_is = sells (begin + (count - 1)) no_quote (omega arith) (omega arith) in
        let buy_is = buys (begin + (count - 1)) no_quote (omega arith) (omega arith) in
        let end_is : begin + (count - 1) + 1 ≡ begin + count = omega arith in
        λ i. total (pair_of (sell_is i) (buy_is i) (take (end_is i) quotes))

    last_amount : (0 < count)
        → (get_or (slice_range points begin end) (count - 1) no_point).amount
        ≡ amounts (pair_of sell buy (take (begin + count) quotes))
    last_amount some = (last_point some).amount ∙ last_is amounts some

    last_weighted : (0 < count)
        → (get_or (slice_range points begin end) (count - 1) no_point).weighted
        ≡ weighted_amounts (pair_of sell buy (take (begin + count) quotes))
    last_weighted some = (last_point some).weighted ∙ last_is weighted_amounts some

-- ---- how great the sums are

-- of no asset is more than 2^62 for sale, of those that are not there nothing
for_sale_fits : (assets : ℕ) (quotes : List Quote) → AreQuotes assets quotes → (asset : ℕ)
    → amounts (sellers_of asset quotes) ≤ 2 ^ 62
for_sale_fits assets quotes market asset =
    elim (cases_lt asset assets) [
      | inl there ↦ market.for_sale asset there
      | inr past ↦
          let units = λ (quote : Quote). quote.amount in
          let sells = λ (quote : Quote). quote.sell == asset in
          let none = sum_by-zero (masked sells units) quotes
          (λ k d lt.
          let here = market.among k d lt in
          masked_no sells units (get_or quotes k d) (ne_eqb _ asset (λ e. omega (arith, here.sell)))) in
          omega (arith, sum_by-filter units sells quotes)
    ]

cond_le : (pair test sells : Bool) (n : ℕ) → (pair ≡ true → sells ≡ true)
    → cond pair (cond test n 0) 0 ≤ cond sells n 0
cond_le true test true n known = elim test as (λ t. cond t n 0 ≤ n) [ true ↦ omega arith | false ↦ omega arith ]
cond_le true test false n known = let never : false ≡ true = known refl in absurd cc
cond_le false test sells n known = omega arith

pub below_fits : (assets : ℕ) (quotes : List Quote) → AreQuotes assets quotes → (sell buy num den : ℕ)
    → amounts (quotes_below sell buy num den quotes) ≤ 2 ^ 62
below_fits assets quotes market sell buy num den =
    let units = λ (quote : Quote). quote.amount in
    let sells = λ (quote : Quote). quote.sell == sell in
    let less = sum_by-le-sum_by (masked (is_of sell buy) (masked (is_below num den) units)) (masked sells units) quotes
    (λ quote. cond_le (is_of sell buy quote) (is_below num den quote) (sells quote) quote.amount
    (λ e. (and_parts _ _ e).0)) in
    omega (
      arith,
      sum_by-filter_twice units (is_below num den) (is_of sell buy) quotes,
      sum_by-filter units sells quotes,
      for_sale_fits assets quotes market sell,
    )

weight_of : (amount limit : ℕ) → limit < 2 ^ 56 → 1 * (amount * limit) ≤ 2 ^ 56 * amount + 0 * amount
weight_of amount limit below = let most : limit ≤ 2 ^ 56 = omega arith in omega (arith, mul-le-mul_left amount most)

pub weight_fits : (quotes : List Quote) → All HasLimit quotes → weighted_amounts quotes ≤ 2 ^ 56 * amounts quotes
weight_fits quotes limits =
    let units = λ (quote : Quote). quote.amount in
    let bounded = sum_by-bounded (λ (quote : Quote). quote.amount * quote.limit) units units 1 (2 ^ 56) 0 quotes
    (λ k d lt. weight_of _ _ (limits k d lt)) in
    omega arith

pub below_weight_fits : (quotes : List Quote) → All HasLimit quotes → (sell buy num den : ℕ)
    → weighted_amounts (quotes_below sell buy num den quotes) ≤ 2 ^ 56 * amounts (quotes_below sell buy num den quotes)
below_weight_fits quotes limits sell buy num den =
    weight_fits (quotes_below sell buy num den quotes)
    (All-filter (is_below num den) HasLimit (pair_of sell buy quotes)
    (All-filter (is_of sell buy) HasLimit quotes limits))

pub pairs_fit : (assets : ℕ) (quotes : List Quote) → AreQuotes assets quotes → DoPairsFit quotes
pairs_fit assets quotes market sell buy =
    let units = λ (quote : Quote). quote.amount in
    let sells = λ (quote : Quote). quote.sell == sell in
    let less = sum_by-le-sum_by (masked (is_of sell buy) units) (masked sells units) quotes
    (λ quote. cond_le (is_of sell buy quote) true (sells quote) quote.amount (λ e. (and_parts _ _ e).0)) in
    omega (
      arith,
      sum_by-filter units (is_of sell buy) quotes,
      sum_by-filter units sells quotes,
      for_sale_fits assets quotes market sell,
    )

pub permuted_market : (assets : ℕ) (quotes sorted : List Quote) → IsPermutation quotes sorted → AreQuotes assets quotes
    → AreQuotes assets sorted
permuted_market assets quotes sorted h market = record {
  some = market.some;
  few = market.few;
  among = All-permutation (IsAmong assets) quotes sorted h market.among;
  for_sale = λ asset lt. omega (
    arith,
    market.for_sale asset lt,
    sum_by-filter-permuted (λ (quote : Quote). quote.amount) (λ (quote : Quote). quote.sell == asset) quotes sorted h,
  );
}

-- ---- the answer

-- these are the sums of the quotes of a pair up to a limit, and how great they are
pub record AreSumsBelow (quotes : List Quote) (sell buy num den : ℕ) (sums : Sums) : Type 0 where
  pub amount : sums.amount ≡ amounts (quotes_below sell buy num den quotes)
  pub weighted : sums.weighted ≡ weighted_amounts (quotes_below sell buy num den quotes)
  pub amount_range : sums.amount ≤ 2 ^ 62
  pub weighted_range : sums.weighted ≤ 2 ^ 56 * sums.amount

pub sums_below : (assets : ℕ) (quotes : List Quote) (points : List Point) (market : AreQuotes assets quotes)
    (in_order : AreInOrder quotes) (kept : ArePoints quotes points (length quotes)) → All HasLimit quotes
    → (sell buy begin end num den count : ℕ) (range : IsPairRange quotes sell buy begin end)
    → ReachesTo (slice_range points begin end) num den count → (sums : Sums)
    → AreSumsAt (slice_range points begin end) count sums
    → AreSumsBelow quotes sell buy num den sums
sums_below assets quotes points market in_order kept limits sell buy begin end num den count range reaches sums at =
    let amount = answer assets quotes points market in_order kept sell buy begin end range num den count reaches
    (λ quote. quote.amount) sums.amount at.none_amount
    (λ some. at.amount no_point some ∙ last_amount assets quotes points market in_order kept sell buy begin end range
    num den count reaches some) in
    let weighted = answer assets quotes points market in_order kept sell buy begin end range num den count reaches
    (λ quote. quote.amount * quote.limit) sums.weighted at.none_weighted
    (λ some. at.weighted no_point some ∙ last_weighted assets quotes points market in_order kept sell buy begin end
    range num den count reaches some) in
    record {
      amount = amount;
      weighted = weighted;
      amount_range = omega (arith, amount, below_fits assets quotes market sell buy num den);
      weighted_range = omega (arith, amount, weighted, below_weight_fits quotes limits sell buy num den);
    }
