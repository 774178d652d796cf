-- Points of quotes in order, as they are built: what they tell, and what one quote more changes.
use Rattle.std.proofs.Common.{◌≡◌, ℕ, ◌+◌, ◌-◌, ◌*◌, ◌<◌, ◌≤◌, Bool, true, false, List, [], ◌∷◌, ◌++◌, length, get_or}
use Rattle.std.proofs.Common.{take, sum_by, All, inl, inr, refl, sym, ap, subst, ◌∙◌, arith}
use Rattle.std.specs.List.Sorted.{IsNonDecreasingBy}
use Rattle.std.proofs.lemmas.Bool.{cases_Bool, cases_lt, cases_order}
use Rattle.std.proofs.lemmas.List.{get_or-take, get_or_append_left, get_or_default, get_or_push, get_or_read}
use Rattle.std.proofs.lemmas.List.{length-take-le, length_push, take_all, take_more}
use Rattle.std.proofs.lemmas.List.Elements.{All-push}
use Rattle.sx_curve.specs.declared.points.Point.{Point}
use Rattle.sx_curve.specs.declared.quote.Quote.{Quote}
use Rattle.sx_curve.specs.Curves.{AreCurves, AreInOrder, AreQuotes, BeginsAt, HasLimit, place_of_quote}
use Rattle.sx_curve.specs.Listed.{AreBuilt, no_point, quotes_of}
use Rattle.sx_curve.specs.Quotes.{amounts, pair_of, weighted_amounts}
use Rattle.sx_curve.proofs.BelowSums.{no_quote, same_place}
use Rattle.sx_curve.proofs.InOrder.{in_order_front, in_order_push, last_up, places_rise, up_to_later}
use Rattle.sx_curve.proofs.Listing.{quotes_are}
use Rattle.sx_curve.proofs.PointSums.{none_among, points_more}

pub built_none : (begins : List ℕ) → length begins ≡ 1025 → AreBuilt [] [] begins 0
built_none begins full = record {
  limits = λ k d lt. absurd (omega arith);
  buys = λ k d lt. absurd (omega arith);
  in_order = λ i j d le lt. absurd (omega arith);
  of_quotes = record { full = refl; each = λ k d e lt. absurd (omega arith) };
  full = full;
  few = omega arith;
  pairs = λ place lt. absurd (omega arith);
  none = λ e. refl;
  last = λ d lt. absurd (omega arith);
}

module _ (quotes : List Quote) (points : List Point) (begins : List ℕ) (begun : ℕ)
    (built : AreBuilt quotes points begins begun) where
  rise : IsNonDecreasingBy place_of_quote quotes
  rise = places_rise quotes built.buys built.in_order

  all_begun : All (λ quote. place_of_quote quote < begun) quotes
  all_begun k d lt =
      let up = rise k (length quotes - 1) d (omega arith) (omega arith) in
      omega (arith, built.last d (omega arith))

  -- they tell the quotes
  pub built_are : quotes_of points (take begun begins) ≡ quotes
  built_are =
      let few = built.few in
      let full = built.full in
      let long = length-take-le begun begins (omega arith) in
      quotes_are quotes points (take begun begins) built.buys rise built.of_quotes
      (λ place lt.
      let inside : place < begun = omega arith in
      subst (BeginsAt quotes place) (sym (get_or-take begun begins place 0 inside)) (built.pairs place inside))
      (λ k d lt. let here = all_begun k d lt in omega arith)

  -- a pair that has not begun, and those after it, begin behind all quotes
  begins_last : (place : ℕ) → begun ≤ place → BeginsAt quotes place (length quotes)
  begins_last place later = record {
    within = omega arith;
    before = λ k d low high. let here = all_begun k d high in omega arith;
    after = λ k d low high. absurd (omega arith);
  }

  -- ---- all of them, with where all pairs begin

  module _ (assets : ℕ) (market : AreQuotes assets quotes) (ends : List ℕ) (full : length ends ≡ 1025)
      (set : (place : ℕ) → begun ≤ place → place < 1025 → get_or ends place 0 ≡ length points)
      (others : (place : ℕ) → place < begun → get_or ends place 0 ≡ get_or begins place 0) where
    ends_at : (place : ℕ) → place < 1025 → BeginsAt quotes place (get_or ends place 0)
    ends_at place lt =
        let long = built.of_quotes.full in
        elim (cases_lt place begun) [
          | inl old ↦ subst (BeginsAt quotes place) (sym (others place old)) (built.pairs place old)
          | inr new ↦ subst (BeginsAt quotes place) (sym (set place new lt ∙ long)) (begins_last place new)
        ]

    pub whole_are : quotes_of points ends ≡ quotes
    whole_are =
        let few = built.few in
        quotes_are quotes points ends built.buys rise built.of_quotes (λ place lt. ends_at place (omega arith))
        (λ k d lt. let here = all_begun k d lt in omega arith)

    pub whole : AreCurves assets (quotes_of points ends) points ends
    whole = rw whole_are
        (record {
          market = market;
          limits = built.limits;
          in_order = built.in_order;
          of_quotes = built.of_quotes;
          pairs = record { full = full; each = ends_at };
        })

  -- ---- one quote more

  module _ (next : Quote) (small : next.buy < 32) where
    abbrev place : ℕ
    place = place_of_quote next

    abbrev more : List Quote
    more = quotes ++ next ∷ []

    -- of a pair that has not begun
    module _ (later : begun ≤ place) where
      pub new_sum : (f : Quote → ℕ) → 0 ≡ sum_by f (pair_of next.sell next.buy quotes)
      new_sum f =
          let all = take_all (length quotes) quotes (omega arith) in
          elim (cases_lt 0 (length quotes)) [
            | inl some ↦
                let last = get_or quotes (length quotes - 1) no_quote in
                let is = get_or_default quotes (length quotes - 1) no_quote last (omega arith) in
                let end = built.last no_quote some in
                none_among quotes (length quotes) next.sell next.buy some (omega arith) last is rise (omega arith) f
                ∙ ap (λ (qs : List Quote). sum_by f (pair_of next.sell next.buy qs)) all
            | inr none ↦
                let empty : take 0 quotes ≡ quotes = take_all 0 quotes (omega arith) in
                ap (λ (qs : List Quote). sum_by f (pair_of next.sell next.buy qs)) empty
          ]

      pub new_stands : AreInOrder more
      new_stands =
          in_order_push quotes next built.in_order
          (λ d some.
          let end = built.last d some in
          up_to_later (get_or quotes (length quotes - 1) d) next small (omega arith))

    -- of the pair of the last one
    module _ (same : begun ≡ place + 1) where
      some_there : 0 < length quotes
      some_there = elim (cases_lt 0 (length quotes)) [
        | inl some ↦ some
        | inr none ↦ let empty = built.none (omega arith) in absurd (omega arith)
      ]

      -- what a read of the last point gives
      pub last_read : (k : ℕ) (point : Point) → k ≡ length points → point ≡ get_or points (k - 1) point
          → point ≡ get_or points (length points - 1) no_point
      last_read k point is read =
          let some = some_there in
          let full = built.of_quotes.full in
          let place : k - 1 ≡ length points - 1 = omega arith in
          get_or_read points (length points - 1) point (omega arith)
          (read ∙ ap (λ (i : ℕ). get_or points i point) place) no_point

      last_pair : (d : Quote) → ((get_or quotes (length quotes - 1) d).sell ≡ next.sell)
          × ((get_or quotes (length quotes - 1) d).buy ≡ next.buy)
      last_pair d =
          let some = some_there in
          let end = built.last d some in
          let last = get_or quotes (length quotes - 1) d in
          same_place last.sell last.buy next.sell next.buy (built.buys (length quotes - 1) d (omega arith)) small
          (omega arith)

      last_sum : (total : List Quote → ℕ)
          → total (pair_of (get_or quotes (length quotes - 1) no_quote).sell
          (get_or quotes (length quotes - 1) no_quote).buy (take (length quotes - 1 + 1) quotes))
          ≡ total (pair_of next.sell next.buy quotes)
      last_sum total =
          let some = some_there in
          let pair = last_pair no_quote in
          let all = take_all (length quotes - 1 + 1) quotes (omega arith) in
          λ i. total (pair_of (pair.0 i) (pair.1 i) (all i))

      pub last_amount : (get_or points (length points - 1) no_point).amount
          ≡ amounts (pair_of next.sell next.buy quotes)
      last_amount =
          let some = some_there in
          let place : length points - 1 ≡ length quotes - 1 = omega (arith, built.of_quotes.full) in
          rw place
          ((built.of_quotes.each (length quotes - 1) no_point no_quote (omega arith)).amount ∙ last_sum amounts)

      pub last_weighted : (get_or points (length points - 1) no_point).weighted
          ≡ weighted_amounts (pair_of next.sell next.buy quotes)
      last_weighted =
          let some = some_there in
          let place : length points - 1 ≡ length quotes - 1 = omega (arith, built.of_quotes.full) in
          rw place
          ((built.of_quotes.each (length quotes - 1) no_point no_quote (omega arith)).weighted
          ∙ last_sum weighted_amounts)

      last_limit : (d : Quote)
          → (get_or points (length points - 1) no_point).limit ≡ (get_or quotes (length quotes - 1) d).limit
      last_limit d =
          let some = some_there in
          let place : length points - 1 ≡ length quotes - 1 = omega (arith, built.of_quotes.full) in
          rw place (built.of_quotes.each (length quotes - 1) no_point d (omega arith)).limit

      pub same_stands : (get_or points (length points - 1) no_point).limit ≤ next.limit → AreInOrder more
      same_stands order =
          in_order_push quotes next built.in_order
          (λ d some.
          let pair = last_pair d in
          record {
            sell = omega (arith, pair.0);
            buy = λ e. omega (arith, pair.1);
            limit = λ e f. omega (arith, order, last_limit d);
          })

      pub same_late : next.limit < (get_or points (length points - 1) no_point).limit → AreInOrder more → ⊥
      same_late less in_order =
          let pair = last_pair no_quote in
          let up = last_up quotes next in_order no_quote some_there in
          omega (arith, less, last_limit no_quote, up.limit pair.0 pair.1)

    -- of a pair before that of the last one
    pub earlier_late : place + 1 < begun → AreInOrder more → ⊥
    earlier_late earlier in_order =
        elim (cases_lt 0 (length quotes)) [
          | inl some ↦
              let last = get_or quotes (length quotes - 1) no_quote in
              let end = built.last no_quote some in
              let up = last_up quotes next in_order no_quote some in
              let inside = built.buys (length quotes - 1) no_quote (omega arith) in
              elim (cases_order last.sell next.sell) [
                | inl sells ↦ omega (arith, up.buy sells)
                | inr apart ↦ omega (arith, up.sell)
              ]
          | inr none ↦ let empty = built.none (omega arith) in omega arith
        ]

    -- a quote that stands behind all others is not of a pair before that of the last one
    pub last_begun : AreInOrder more → place < begun → begun ≡ place + 1
    last_begun in_order lt =
        elim (cases_lt (place + 1) begun) [
          | inl earlier ↦ absurd (earlier_late earlier in_order)
          | inr order ↦ omega arith
        ]

    -- where a pair begins, that of the next quote or one before it
    begins_more : (p begin : ℕ) → p ≤ place → BeginsAt quotes p begin → BeginsAt more p begin
    begins_more p begin early at =
        let long = length_push quotes next in
        let within = at.within in
        record {
          within = omega arith;
          before = λ k d low high.
              rw (get_or_append_left quotes (next ∷ []) d k (omega arith)) (at.before k d low high);
          after = λ k d low high.
              elim (cases_lt k (length quotes)) [
                | inl old ↦ rw (get_or_append_left quotes (next ∷ []) d k old) (at.after k d low old)
                | inr new ↦ rw (get_or_push quotes next d k (omega arith)) early
              ];
        }

    module _ (limit : HasLimit next) (stands : AreInOrder more) (point : Point) (is : point.limit ≡ next.limit)
        (amount : point.amount ≡ amounts (pair_of next.sell next.buy quotes) + next.amount)
        (weighted : point.weighted ≡ weighted_amounts (pair_of next.sell next.buy quotes) + next.amount * next.limit)
      where
        module _ (after : List Point) (pushed : after ≡ points ++ point ∷ []) where
          module _ (ends : List ℕ) (end : ℕ) (full : length ends ≡ 1025) (is_end : end ≡ place + 1) (few : end ≤ 1024)
              (pairs : (p : ℕ) → p < end → BeginsAt more p (get_or ends p 0)) where
            built_more : AreBuilt more after ends end
            built_more =
                let long = length_push quotes next in
                record {
                  limits = All-push HasLimit quotes next built.limits limit;
                  buys = All-push (λ quote. quote.buy < 32) quotes next built.buys small;
                  in_order = stands;
                  of_quotes = rw pushed (points_more quotes next points built.of_quotes point is amount weighted);
                  full = full;
                  few = few;
                  pairs = pairs;
                  none = λ e. absurd (omega arith);
                  last = λ d some.
                      let last : length more - 1 ≡ length quotes = omega arith in
                      rw (last, get_or_push quotes next d (length quotes) refl) is_end;
                }

          -- of the pair of the last one: it begins where it did
          pub same_built : begun ≡ place + 1 → AreBuilt more after begins begun
          same_built same =
              built_more begins begun built.full same built.few
              (λ p lt. begins_more p (get_or begins p 0) (omega arith) (built.pairs p lt))

          -- of a pair that has not begun: it begins here, and so do those before it that have not
          pub new_built : (ends : List ℕ) (end : ℕ) → begun ≤ place → length ends ≡ 1025 → end ≡ place + 1 → end ≤ 1024
              → ((p : ℕ) → begun ≤ p → p < end → get_or ends p 0 ≡ length points)
              → ((p : ℕ) → p < begun → get_or ends p 0 ≡ get_or begins p 0)
              → AreBuilt more after ends end
          new_built ends end later full is_end few set others =
              let long = built.of_quotes.full in
              built_more ends end full is_end few
              (λ p lt.
              elim (cases_lt p begun) [
                | inl old ↦ begins_more p (get_or ends p 0) (omega arith)
                    (subst (BeginsAt quotes p) (sym (others p old)) (built.pairs p old))
                | inr new ↦ begins_more p (get_or ends p 0) (omega arith)
                    (subst (BeginsAt quotes p) (sym (set p new lt ∙ long)) (begins_last p new))
              ])

-- ---- quotes in order that are taken in one after another

-- whether a quote was taken in behind the first ones
pub taken_more : (quotes : List Quote) (count : ℕ) (quote : Quote) (after : List Quote) (taken : Bool)
    → count < length quotes → quote ≡ get_or quotes count quote
    → (taken ≡ true → after ≡ take count quotes ++ quote ∷ [])
    → (taken ≡ false → AreInOrder (take count quotes ++ quote ∷ []) → ⊥) → AreInOrder quotes
    → after ≡ take (count + 1) quotes
taken_more quotes count quote after taken lt is held late in_order =
    let more : take (count + 1) quotes ≡ take count quotes ++ quote ∷ [] =
    take_more quotes count quote lt ∙ ap (λ (q : Quote). take count quotes ++ q ∷ []) (sym is) in
    elim (cases_Bool taken) [
      | inl true_is ↦ held true_is ∙ sym more
      | inr false_is ↦
          absurd (late false_is (subst AreInOrder more (in_order_front quotes (count + 1) (omega arith) in_order)))
    ]
