-- Points of quotes in order tell the quotes, with where each pair begins.
use Rattle.std.proofs.Common.{◌≡◌, ℕ, zero, suc, ◌+◌, ◌-◌, ◌/◌, ◌%◌, ◌<◌, ◌≤◌, true, false, nat_le, nat_lt}
use Rattle.std.proofs.Common.{List, [], ◌∷◌, length, get_or, take, All, inl, inr, refl, sym, ap, ◌∙◌, arith}
use Rattle.std.specs.List.Sorted.{IsNonDecreasingBy}
use Rattle.std.proofs.lemmas.Bool.{cases_lt, le-leb, lt-leb, le-ltb, lt-ltb}
use Rattle.std.proofs.lemmas.List.{ext_get_or, get_or_default}
use Rattle.std.proofs.lemmas.List.FromFn.{get_or-map-range_with_len, length-map-range_with_len}
use Rattle.std.proofs.lemmas.Nat.{div-mul-add, mod-mul-add}
use Rattle.sx_curve.specs.declared.points.Point.{Point}
use Rattle.sx_curve.specs.declared.quote.Quote.{Quote}
use Rattle.sx_curve.specs.Curves.{ArePoints, BeginsAt, place_of_quote}
use Rattle.sx_curve.specs.Listed.{amount_before, begun_at, no_point, pair_at, quote_at, quotes_of}
use Rattle.sx_curve.specs.Quotes.{amounts, pair_of}
use Rattle.sx_curve.proofs.BelowSums.{same_place}
use Rattle.sx_curve.proofs.PointSums.{none_among, sum_more}

-- where the first pairs, so many, have begun at an index and the others have not
leading : (k count : ℕ) (begins : List ℕ) → count ≤ length begins
    → ((place : ℕ) → place < count → get_or begins place 0 ≤ k)
    → ((place : ℕ) → count ≤ place → place < length begins → k < get_or begins place 0)
    → begun_at k begins ≡ count
leading k zero [] le low high = refl
leading k (suc count) [] le low high = absurd (omega arith)
leading k zero (begin ∷ begins) le low high =
    let later : nat_le begin k ≡ false = lt-leb begin k (high 0 (omega arith) (omega arith)) in rw later refl
leading k (suc count) (begin ∷ begins) le low high =
    let here : nat_le begin k ≡ true = le-leb begin k (low 0 (omega arith)) in
    rw here
    (ap suc
    (leading k count begins (omega arith) (λ place lt. low (suc place) (omega arith))
    (λ place from lt. high (suc place) (omega arith) (omega arith))))

module _ (quotes : List Quote) (points : List Point) (begins : List ℕ) (buys : All (λ quote. quote.buy < 32) quotes)
    (rise : IsNonDecreasingBy place_of_quote quotes) (kept : ArePoints quotes points (length quotes))
    (pairs : (place : ℕ) → place < length begins → BeginsAt quotes place (get_or begins place 0))
    (begun : All (λ quote. place_of_quote quote < length begins) quotes) where
  module _ (k : ℕ) (d : Quote) (lt : k < length quotes) where
    abbrev quote : Quote
    quote = get_or quotes k d

    abbrev place : ℕ
    place = place_of_quote quote

    begun_before : (p : ℕ) → p ≤ place → get_or begins p 0 ≤ k
    begun_before p le =
        let few = begun k d lt in
        elim (cases_lt k (get_or begins p 0)) [
          | inl less ↦ let early = (pairs p (omega arith)).before k d (omega arith) less in absurd (omega arith)
          | inr order ↦ order
        ]

    begun_after : (p : ℕ) → place < p → p < length begins → k < get_or begins p 0
    begun_after p later inside =
        elim (cases_lt k (get_or begins p 0)) [
          | inl less ↦ less
          | inr order ↦ let late = (pairs p inside).after k d order lt in absurd (omega arith)
        ]

    pair_is : pair_at k begins ≡ place
    pair_is =
        let few = begun k d lt in
        omega (
          arith,
          leading k (place + 1) begins (omega arith) (λ p low. begun_before p (omega arith))
              (λ p high inside. begun_after p (omega arith) inside),
        )

    -- the quote before one that does not begin its pair is of the same pair
    same_pair : get_or begins place 0 < k
        → (quote.sell ≡ (get_or quotes (k - 1) d).sell) × (quote.buy ≡ (get_or quotes (k - 1) d).buy)
    same_pair inside =
        let few = begun k d lt in
        let late = (pairs place few).after (k - 1) d (omega arith) (omega arith) in
        let up = rise (k - 1) k d (omega arith) (omega arith) in
        same_place quote.sell quote.buy (get_or quotes (k - 1) d).sell (get_or quotes (k - 1) d).buy
        (buys k d lt) (buys (k - 1) d (omega arith)) (omega arith)

    before_is : amount_before points (get_or begins place 0) k ≡ amounts (pair_of quote.sell quote.buy (take k quotes))
    before_is =
        let few = begun k d lt in
        elim (cases_lt (get_or begins place 0) k) [
          | inl inside ↦
              let yes : nat_lt (get_or begins place 0) k ≡ true = lt-ltb (get_or begins place 0) k inside in
              let same = same_pair inside in
              let point = kept.each (k - 1) no_point d (omega arith) in
              let end : k - 1 + 1 ≡ k = omega arith in
              rw yes
              (point.amount
              ∙ (λ i. amounts (pair_of (sym same.0 i) (sym same.1 i) (take (end i) quotes))))
          | inr first ↦
              let no : nat_lt (get_or begins place 0) k ≡ false = le-ltb (get_or begins place 0) k first in
              rw no
              (elim (cases_lt 0 k) [
                | inl some ↦
                    let last = get_or quotes (k - 1) d in
                    let is : last ≡ get_or quotes (k - 1) last =
                    get_or_default quotes (k - 1) d last (omega arith) in
                    let early = (pairs place few).before (k - 1) d (omega arith) (omega arith) in
                    none_among quotes k quote.sell quote.buy some (omega arith) last is rise early
                    (λ (q : Quote). q.amount)
                | inr none ↦ let start : k ≡ 0 = omega arith in rw start refl
              ])
        ]

    amount_is : (quote_at points begins k).amount ≡ quote.amount
    amount_is =
        let point = kept.each k no_point d lt in
        let is : quote ≡ get_or quotes k quote = get_or_default quotes k d quote lt in
        omega (
          arith,
          point.amount,
          ap (λ (p : ℕ). amount_before points (get_or begins p 0) k) pair_is,
          before_is,
          sum_more quotes k quote lt is (λ (q : Quote). q.amount),
        )

    quote_is : quote_at points begins k ≡ quote
    quote_is =
        let small = buys k d lt in
        let sell = ap (λ (p : ℕ). p / 32) pair_is ∙ div-mul-add quote.sell 32 quote.buy small in
        let buy = ap (λ (p : ℕ). p % 32) pair_is ∙ mod-mul-add quote.sell 32 quote.buy small in
        let limit = (kept.each k no_point d lt).limit in
        let amount = amount_is in
        λ i. record { sell = sell i; buy = buy i; limit = limit i; amount = amount i }

  pub quotes_are : quotes_of points begins ≡ quotes
  quotes_are =
      let full = kept.full in
      let long = length-map-range_with_len (quote_at points begins) 0 (length points) in
      let d = quote_at points begins 0 in
      ext_get_or d (quotes_of points begins) quotes (omega arith)
      (λ k lt.
      get_or-map-range_with_len (quote_at points begins) 0 (length points) k k d (omega arith) (omega arith)
      ∙ quote_is k d (omega arith))
