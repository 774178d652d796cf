-- What holds at a level, after a push and after a rise.
use Rattle.std.proofs.Common.{◌≡◌, ◌≢◌, ℕ, zero, suc, ◌+◌, ◌-◌, ◌*◌, ◌<◌, ◌≤◌, Bool, true, false, List}
use Rattle.std.proofs.Common.{pos, ◌<ℤ◌, refl, ap, ◌∙◌, inl, inr, arith}
use Rattle.std.specs.Prelude.{◌==◌, if◌then◌else◌, slice_index, min}
use Rattle.std.proofs.lemmas.Bool.{cases_eq, eq-eqb, ne_eqb}
use Rattle.std.proofs.lemmas.Int.{ints}
use Rattle.sx_dual.specs.Cuts.{is_in}
use Rattle.sx_dual.specs.Fit.{gain_of}
use Rattle.sx_dual.specs.Sums.{between, sum_below}
use Rattle.sx_dual.specs.Tables.{BoundsTable, low_of, high_of, potential_of}
use Rattle.sx_dual.proofs.SumLaws.{sum_below-same, sum_below-le}
use Rattle.sx_net.specs.declared.arc.Arc.{Arc}
use Rattle.sx_net.specs.Arcs.{is_allowed}
use Rattle.sx_level.specs.Borders.{LeavesAtMost}
use Rattle.sx_level.specs.Following.{Follows}
use Rattle.sx_level.specs.Levels.{IsLevel, IsHeld, AreHeld}
use Rattle.sx_level.specs.Shape.{pair_place, source_place, sink_place, surplus_of, shortage_of, total_surplus, traded}
use Rattle.sx_level.specs.Shape.{AreAllowed, AreMatched, IsShaped, SameButAllowed}
use Rattle.sx_level.proofs.Sums.{sum_le, sum_below-lt}

-- ---- gains

pub above_0 : (p : ℕ → ℕ) (s b : ℕ) → p b < p s + 1 → pos 0 <ℤ gain_of p s b
above_0 p s b lt = omega (arith, ints)

pub below_0 : (p : ℕ → ℕ) (s b : ℕ) → p s + 1 < p b → gain_of p s b <ℤ pos 0
below_0 p s b lt = omega (arith, ints)

pub from_above_0 : (p : ℕ → ℕ) (s b : ℕ) → pos 0 <ℤ gain_of p s b → p b < p s + 1
from_above_0 p s b lt = omega (arith, ints)

pub from_below_0 : (p : ℕ → ℕ) (s b : ℕ) → gain_of p s b <ℤ pos 0 → p s + 1 < p b
from_below_0 p s b lt = omega (arith, ints)

-- ---- other arcs are allowed

module _ (bounds : BoundsTable) (old new : List Arc) (same : SameButAllowed old new) where
  traded_same : (s b : ℕ) → traded bounds new s b ≡ traded bounds old s b
  traded_same s b = ap (λ x. low_of bounds s b + x) (same.lefts (2 * pair_place bounds.assets s b))

  between_same : (s b : ℕ) → between (traded bounds new) s b ≡ between (traded bounds old) s b
  between_same s b = ap (λ x. if s == b then 0 else x) (traded_same s b)

  pub matched_same : AreMatched bounds old → AreMatched bounds new
  matched_same matched a lt =
      let n = bounds.assets in
      let buys = sum_below-same n (λ s. between (traded bounds new) s a) (λ s. between (traded bounds old) s a)
      (λ s s_lt. between_same s a) in
      let sells = sum_below-same n (λ b. between (traded bounds new) a b) (λ b. between (traded bounds old) a b)
      (λ b b_lt. between_same a b) in
      omega (
        arith,
        matched a lt,
        buys,
        sells,
        same.lefts (2 * source_place n a),
        same.lefts (2 * sink_place n a),
      )

  pub total_same : total_surplus bounds.assets new ≡ total_surplus bounds.assets old
  total_same =
      sum_below-same bounds.assets (λ a. surplus_of bounds.assets new a) (λ a. surplus_of bounds.assets old a)
      (λ a lt. same.lefts (2 * source_place bounds.assets a))

  pub level_same : (heights : List ℕ) (level most : ℕ) → IsShaped bounds new → IsLevel bounds old heights level most →
      IsLevel bounds new heights level most
  level_same heights level most shaped was = record {
    shaped = shaped;
    matched = matched_same was.matched;
    tight = λ s b s_lt b_lt other.
        let at = was.tight s b s_lt b_lt other in
        record {
          gaining = λ gains. traded_same s b ∙ at.gaining gains;
          losing = λ loses. traded_same s b ∙ at.losing loses;
        };
    surplus = λ a lt some. was.surplus a lt (omega (arith, some, same.lefts (2 * source_place bounds.assets a)));
    shortage = λ a lt some. was.shortage a lt (omega (arith, some, same.lefts (2 * sink_place bounds.assets a)));
    under = was.under;
    in_all = omega (arith, total_same, was.in_all);
  }

-- ---- after pushes

-- a pair that gains or loses is not allowed
not_level : (x y : ℕ) → x ≢ y → (x == y) ≡ false
not_level x y other = ne_eqb x y other

pub pushed_level : (bounds : BoundsTable) (old new : List Arc) (heights : List ℕ) (level most : ℕ) →
    AreAllowed bounds old heights → Follows bounds old new → IsLevel bounds old heights level most →
    IsLevel bounds new heights level most
pushed_level bounds old new heights level most allowed follows was =
    let n = bounds.assets in
    let h = potential_of heights in
    let kept : (s b : ℕ) → s < n → b < n → h b ≢ h s + 1 → traded bounds new s b ≡ traded bounds old s b =
    λ s b s_lt b_lt apart.
    let forbidden = allowed s b s_lt b_lt ∙ not_level (h b) (h s + 1) apart in
    ap (λ x. low_of bounds s b + x) (follows.kept s b s_lt b_lt forbidden) in
    record {
      shaped = follows.shaped;
      matched = follows.matched;
      tight = λ s b s_lt b_lt other.
          let at = was.tight s b s_lt b_lt other in
          record {
            gaining = λ gains.
                let more = from_above_0 h s b gains in
                kept s b s_lt b_lt (λ same. absurd (omega arith)) ∙ at.gaining gains;
            losing = λ loses.
                let less = from_below_0 h s b loses in
                kept s b s_lt b_lt (λ same. absurd (omega arith)) ∙ at.losing loses;
          };
      surplus = λ a lt some. was.surplus a lt (omega (arith, some, follows.surplus a lt));
      shortage = λ a lt some. was.shortage a lt (omega (arith, some, follows.shortage a lt));
      under = was.under;
      in_all =
          let less = sum_below-le n (λ a. surplus_of n new a) (λ a. surplus_of n old a) follows.surplus in
          omega (arith, less, was.in_all);
    }

-- ---- after a rise

module _ (bounds : BoundsTable) (arcs : List Arc) (before after : List ℕ) (level most set : ℕ)
    (was : IsLevel bounds arcs before level most) (allowed : AreAllowed bounds arcs before)
    (closed : LeavesAtMost bounds.assets arcs set 0)
    (raised : (a : ℕ) → a < bounds.assets →
    slice_index after a ≡ (if is_in set a then 1 else 0) + slice_index before a) where
  -- the assets with a surplus are in the set, and those with a shortage are not
  outside_even : (a : ℕ) → a < bounds.assets → (c : Bool) → is_in set a ≡ c →
      (if c then shortage_of bounds.assets arcs a else surplus_of bounds.assets arcs a) ≤ 0 →
      (0 < surplus_of bounds.assets arcs a → slice_index after a ≡ level + 1)
      × (0 < shortage_of bounds.assets arcs a → slice_index after a ≡ 0)
      × (slice_index after a ≤ level + 1)
  outside_even a lt true inside none = (
    λ some. (let up = rw inside at (raised a lt) in omega (arith, up, was.surplus a lt some)),
    λ some. absurd (omega arith),
    (let up = rw inside at (raised a lt) in omega (arith, up, was.under a lt)),
  )
  outside_even a lt false outside none = (
    λ some. absurd (omega arith),
    λ some. (let up = rw outside at (raised a lt) in omega (arith, up, was.shortage a lt some)),
    (let up = rw outside at (raised a lt) in omega (arith, up, was.under a lt)),
  )

  at_asset : (a : ℕ) → a < bounds.assets →
      (0 < surplus_of bounds.assets arcs a → slice_index after a ≡ level + 1)
      × (0 < shortage_of bounds.assets arcs a → slice_index after a ≡ 0)
      × (slice_index after a ≤ level + 1)
  at_asset a lt = outside_even a lt (is_in set a) refl (closed.at a lt)

  -- a pair that gained nothing trades all that it may where it goes out of the set, and what it must where it goes in
  full_out : (s b : ℕ) → s < bounds.assets → b < bounds.assets → slice_index before b ≡ slice_index before s + 1 →
      is_in set s ≡ true → is_in set b ≡ false → traded bounds arcs s b ≡ high_of bounds s b
  full_out s b s_lt b_lt level_pair inside outside =
      let on : is_allowed arcs (2 * pair_place bounds.assets s b) ≡ true =
      allowed s b s_lt b_lt ∙ eq-eqb (slice_index before b) (slice_index before s + 1) level_pair in
      let none = rw (on, inside, outside) at (closed.between s b s_lt b_lt) in
      let pair = was.shaped.pairs s b s_lt b_lt in
      omega (arith, pair.room, none)

  least_in : (s b : ℕ) → s < bounds.assets → b < bounds.assets → slice_index before b ≡ slice_index before s + 1 →
      is_in set s ≡ false → is_in set b ≡ true → traded bounds arcs s b ≡ low_of bounds s b
  least_in s b s_lt b_lt level_pair outside inside =
      let on : is_allowed arcs (2 * pair_place bounds.assets s b) ≡ true =
      allowed s b s_lt b_lt ∙ eq-eqb (slice_index before b) (slice_index before s + 1) level_pair in
      let none = rw (on, outside, inside) at (closed.between s b s_lt b_lt) in
      omega (arith, none)

  pub gaining_pair : (s b : ℕ) → s < bounds.assets → b < bounds.assets → s ≢ b → (c d : Bool) → is_in set s ≡ c →
      is_in set b ≡ d → slice_index after b < slice_index after s + 1 → traded bounds arcs s b ≡ high_of bounds s b
  gaining_pair s b s_lt b_lt other true true one two gains =
      let up : slice_index after s ≡ 1 + slice_index before s = rw one at (raised s s_lt) in
      let its : slice_index after b ≡ 1 + slice_index before b = rw two at (raised b b_lt) in
      (was.tight s b s_lt b_lt other).gaining (above_0 (potential_of before) s b (omega arith))
  gaining_pair s b s_lt b_lt other false false one two gains =
      let up : slice_index after s ≡ 0 + slice_index before s = rw one at (raised s s_lt) in
      let its : slice_index after b ≡ 0 + slice_index before b = rw two at (raised b b_lt) in
      (was.tight s b s_lt b_lt other).gaining (above_0 (potential_of before) s b (omega arith))
  gaining_pair s b s_lt b_lt other false true one two gains =
      let up : slice_index after s ≡ 0 + slice_index before s = rw one at (raised s s_lt) in
      let its : slice_index after b ≡ 1 + slice_index before b = rw two at (raised b b_lt) in
      (was.tight s b s_lt b_lt other).gaining (above_0 (potential_of before) s b (omega arith))
  gaining_pair s b s_lt b_lt other true false one two gains =
      let up : slice_index after s ≡ 1 + slice_index before s = rw one at (raised s s_lt) in
      let its : slice_index after b ≡ 0 + slice_index before b = rw two at (raised b b_lt) in
      elim (cases_eq (slice_index before b) (slice_index before s + 1)) [
        | inl same ↦ full_out s b s_lt b_lt same one two
        | inr apart ↦
            (was.tight s b s_lt b_lt other).gaining (above_0 (potential_of before) s b (omega arith))
      ]

  pub losing_pair : (s b : ℕ) → s < bounds.assets → b < bounds.assets → s ≢ b → (c d : Bool) → is_in set s ≡ c →
      is_in set b ≡ d → slice_index after s + 1 < slice_index after b → traded bounds arcs s b ≡ low_of bounds s b
  losing_pair s b s_lt b_lt other true true one two loses =
      let up : slice_index after s ≡ 1 + slice_index before s = rw one at (raised s s_lt) in
      let its : slice_index after b ≡ 1 + slice_index before b = rw two at (raised b b_lt) in
      (was.tight s b s_lt b_lt other).losing (below_0 (potential_of before) s b (omega arith))
  losing_pair s b s_lt b_lt other false false one two loses =
      let up : slice_index after s ≡ 0 + slice_index before s = rw one at (raised s s_lt) in
      let its : slice_index after b ≡ 0 + slice_index before b = rw two at (raised b b_lt) in
      (was.tight s b s_lt b_lt other).losing (below_0 (potential_of before) s b (omega arith))
  losing_pair s b s_lt b_lt other true false one two loses =
      let up : slice_index after s ≡ 1 + slice_index before s = rw one at (raised s s_lt) in
      let its : slice_index after b ≡ 0 + slice_index before b = rw two at (raised b b_lt) in
      (was.tight s b s_lt b_lt other).losing (below_0 (potential_of before) s b (omega arith))
  losing_pair s b s_lt b_lt other false true one two loses =
      let up : slice_index after s ≡ 0 + slice_index before s = rw one at (raised s s_lt) in
      let its : slice_index after b ≡ 1 + slice_index before b = rw two at (raised b b_lt) in
      elim (cases_eq (slice_index before b) (slice_index before s + 1)) [
        | inl same ↦ least_in s b s_lt b_lt same one two
        | inr apart ↦
            (was.tight s b s_lt b_lt other).losing (below_0 (potential_of before) s b (omega arith))
      ]

  pub raised_level : IsLevel bounds arcs after (level + 1) most
  raised_level = record {
    shaped = was.shaped;
    matched = was.matched;
    tight = λ s b s_lt b_lt other. record {
      gaining = λ gains.
          gaining_pair s b s_lt b_lt other (is_in set s) (is_in set b) refl refl
          (from_above_0 (potential_of after) s b gains);
      losing = λ loses.
          losing_pair s b s_lt b_lt other (is_in set s) (is_in set b) refl refl
          (from_below_0 (potential_of after) s b loses);
    };
    surplus = λ a lt. (at_asset a lt).0;
    shortage = λ a lt. (at_asset a lt).1;
    under = λ a lt. (at_asset a lt).2;
    in_all = was.in_all;
  }

-- ---- how many levels there are

levels_below : (n m : ℕ) (heights : List ℕ) → ((at : ℕ) → at < m → IsHeld n heights at) →
    m ≤ sum_below n (λ a. min 1 (m - slice_index heights a))
levels_below n zero heights held = omega arith
levels_below n (suc m) heights held =
    let before = levels_below n m heights (λ at lt. held at (omega arith)) in
    let top = held m (omega arith) in
    let more = sum_below-lt n (λ a. min 1 (m - slice_index heights a)) (λ a. min 1 (suc m - slice_index heights a))
    (λ a lt. omega arith) top.asset top.within (omega (arith, top.height)) in
    omega (arith, before, more)

-- an asset stands at each level up to this one, so there are more assets than that
pub few_levels : (n level : ℕ) (heights : List ℕ) → AreHeld n heights level → level + 1 ≤ n
few_levels n level heights held =
    let some = levels_below n (level + 1) heights (λ at lt. held at (omega arith)) in
    let all = sum_le n 1 (λ a. min 1 (level + 1 - slice_index heights a)) (λ a lt. omega arith) in
    omega (arith, some, all)
