-- The points of quotes, and one point more.
use Rattle.std.proofs.Common.{◌≡◌, ℕ, ◌+◌, ◌-◌, ◌*◌, ◌^◌, ◌<◌, ◌≤◌, List, [], ◌∷◌, ◌++◌, length, get_or, take, true}
use Rattle.std.proofs.Common.{sum_by, inl, inr, refl, sym, ap, ◌∙◌, arith}
use Rattle.std.specs.List.Sorted.{IsNonDecreasingBy}
use Rattle.std.proofs.lemmas.Bool.{and_from, cases_lt, eq-eqb}
use Rattle.std.proofs.lemmas.List.{get_or-take, get_or_append_left, get_or_push, get_or_read, length-take-le}
use Rattle.std.proofs.lemmas.List.{length_push, take-append-le, take_all}
use Rattle.std.proofs.lemmas.List.Sums.{sum_by-take-le, sum_by_more}
use Rattle.sx_curve.specs.declared.points.Point.{Point}
use Rattle.sx_curve.specs.declared.quote.Quote.{Quote}
use Rattle.sx_curve.specs.Curves.{ArePoints, DoPairsFit, IsPoint, place_of_pair, place_of_quote}
use Rattle.sx_curve.specs.Quotes.{amounts, pair_of, weighted_amounts}
use Rattle.sx_curve.proofs.BelowSums.{is_of, masked_no, masked_yes, of_other}
use Rattle.sx_curve.proofs.ListSums.{masked, sum_by-filter, sum_by-zero}

-- where the last of the first quotes is of an earlier pair, so are all others
module _ (quotes : List Quote) (count sell buy : ℕ) (some : 0 < count) (within : count ≤ length quotes) (last : Quote)
    (is : last ≡ get_or quotes (count - 1) last) (rise : IsNonDecreasingBy place_of_quote quotes)
    (earlier : place_of_quote last < place_of_pair sell buy) where
  pub none_among : (f : Quote → ℕ) → 0 ≡ sum_by f (pair_of sell buy (take count quotes))
  none_among f =
      sym
      (sum_by-filter f (is_of sell buy) (take count quotes)
      ∙ sum_by-zero (masked (is_of sell buy) f) (take count quotes)
      (λ k d lt.
      let first : k < count = omega (arith, lt, length-take-le count quotes within) in
      let up = rise k (count - 1) d (omega arith) (omega arith) in
      let read : last ≡ get_or quotes (count - 1) d = get_or_read quotes (count - 1) last (omega arith) is d in
      let place : place_of_quote last ≡ place_of_quote (get_or quotes (count - 1) d) = ap place_of_quote read in
      let at = get_or-take count quotes k d first in
      rw at
      (masked_no (is_of sell buy) f (get_or quotes k d) (of_other sell buy (get_or quotes k d) (λ e. omega arith)))))

-- what the quotes of a pair have in all grows by what the next one of it has
module _ (quotes : List Quote) (count : ℕ) (quote : Quote) (lt : count < length quotes)
    (is : quote ≡ get_or quotes count quote) where
  pub sum_more : (f : Quote → ℕ)
      → sum_by f (pair_of quote.sell quote.buy (take (count + 1) quotes))
      ≡ sum_by f (pair_of quote.sell quote.buy (take count quotes)) + f quote
  sum_more f =
      let test = is_of quote.sell quote.buy in
      let its : test quote ≡ true =
      and_from _ _ (eq-eqb quote.sell quote.sell refl) (eq-eqb quote.buy quote.buy refl) in
      let here : masked test f (get_or quotes count quote) ≡ f quote =
      ap (masked test f) (sym is) ∙ masked_yes test f quote its in
      omega (
        arith,
        sum_by-filter f test (take (count + 1) quotes),
        sum_by-filter f test (take count quotes),
        sum_by_more (masked test f) quotes count quote lt,
      )

-- the quotes of its pair before a quote, and it, are no more than what a pair may have
pub fits_more : (quotes : List Quote) (count : ℕ) (quote : Quote) → count < length quotes
    → quote ≡ get_or quotes count quote → DoPairsFit quotes
    → amounts (pair_of quote.sell quote.buy (take count quotes)) + quote.amount ≤ 2 ^ 62
fits_more quotes count quote lt is fit =
    let units = λ (q : Quote). q.amount in
    let test = is_of quote.sell quote.buy in
    omega (
      arith,
      sum_more quotes count quote lt is units,
      sum_by-filter units test (take (count + 1) quotes),
      sum_by-filter units test quotes,
      sum_by-take-le (masked test units) quotes (count + 1),
      fit quote.sell quote.buy,
    )

-- ---- one quote more

module _ (quotes : List Quote) (next : Quote) where
  abbrev more : List Quote
  more = quotes ++ next ∷ []

  front : (n : ℕ) → n ≤ length quotes → take n more ≡ take n quotes
  front n le = take-append-le n quotes (next ∷ []) le

  all : take (length quotes) more ≡ quotes
  all = front (length quotes) (omega arith) ∙ take_all (length quotes) quotes (omega arith)

  -- what the quotes of its pair have in all, and it
  pub push_sum : (f : Quote → ℕ)
      → sum_by f (pair_of next.sell next.buy (take (length quotes + 1) more))
      ≡ sum_by f (pair_of next.sell next.buy quotes) + f next
  push_sum f =
      let long = length_push quotes next in
      let is = sym (get_or_push quotes next next (length quotes) refl) in
      let sum = sum_more more (length quotes) next (omega arith) is f in
      rw all at sum

  module _ (points : List Point) (kept : ArePoints quotes points (length quotes)) where
    old_point : (k : ℕ) (d : Point) (e : Quote) → k < length quotes
        → IsPoint more k (get_or more k e) (get_or points k d)
    old_point k d e lt =
        let here = kept.each k d e lt in
        let quote = get_or quotes k e in
        let same = sym (front (k + 1) (omega arith)) in
        rw (get_or_append_left quotes (next ∷ []) e k lt)
        (record {
          limit = here.limit;
          amount = here.amount ∙ ap (λ (qs : List Quote). amounts (pair_of quote.sell quote.buy qs)) same;
          weighted = here.weighted ∙ ap (λ (qs : List Quote). weighted_amounts (pair_of quote.sell quote.buy qs)) same;
        })

    pub points_more : (point : Point) → point.limit ≡ next.limit
        → point.amount ≡ amounts (pair_of next.sell next.buy quotes) + next.amount
        → point.weighted ≡ weighted_amounts (pair_of next.sell next.buy quotes) + next.amount * next.limit
        → ArePoints more (points ++ point ∷ []) (length more)
    points_more point limit amount weighted =
        let full = kept.full in
        let long = length_push quotes next in record {
          full = omega (arith, length_push points point);
          each = λ k d e lt.
              elim (cases_lt k (length quotes)) [
                | inl old ↦ rw (get_or_append_left points (point ∷ []) d k (omega arith)) (old_point k d e old)
                | inr new ↦
                    let here : k ≡ length quotes = omega arith in
                    rw (
                      here,
                      get_or_push points point d (length quotes) (omega arith),
                      get_or_push quotes next e (length quotes) refl,
                    )
                    (record {
                      limit = limit;
                      amount = amount ∙ sym (push_sum (λ quote. quote.amount));
                      weighted = weighted ∙ sym (push_sum (λ quote. quote.amount * quote.limit));
                    })
              ];
        }
