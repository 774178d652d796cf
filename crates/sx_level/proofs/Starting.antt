-- What holds at level 0, where each pair trades its upper bound.
use Rattle.std.proofs.Common.{◌≡◌, ℕ, ◌*◌, ◌<◌, ◌≤◌, List}
use Rattle.std.proofs.Common.{inl, inr, arith}
use Rattle.std.specs.Prelude.{slice_index}
use Rattle.std.proofs.lemmas.Bool.{cases_eq}
use Rattle.sx_dual.specs.Sums.{between}
use Rattle.sx_dual.specs.Tables.{BoundsTable, high_of, potential_of}
use Rattle.sx_dual.proofs.SumLaws.{between-other, between-self}
use Rattle.sx_net.specs.declared.arc.Arc.{Arc}
use Rattle.sx_level.specs.Building.{first_surplus}
use Rattle.sx_level.specs.Levels.{IsLevel}
use Rattle.sx_level.specs.Shape.{surplus_of, traded, AreMatched, IsShaped}
use Rattle.sx_level.proofs.Heights.{from_below_0}
use Rattle.sx_level.proofs.Sums.{sum_le}

pub first_level : (bounds : BoundsTable) (arcs : List Arc) (heights : List ℕ) (most : ℕ) → IsShaped bounds arcs →
    AreMatched bounds arcs →
    ((s b : ℕ) → s < bounds.assets → b < bounds.assets → traded bounds arcs s b ≡ high_of bounds s b) →
    ((a : ℕ) → a < bounds.assets → surplus_of bounds.assets arcs a ≡ first_surplus bounds a) →
    ((s b : ℕ) → s < bounds.assets → b < bounds.assets → high_of bounds s b ≤ most) →
    ((a : ℕ) → a < bounds.assets → slice_index heights a ≡ 0) → IsLevel bounds arcs heights 0 most
first_level bounds arcs heights most shaped matched full surplus highs zeros =
    let n = bounds.assets in
    record {
      shaped = shaped;
      matched = matched;
      tight = λ s b s_lt b_lt other. record {
        gaining = λ gains. full s b s_lt b_lt;
        losing = λ loses.
            let less = from_below_0 (potential_of heights) s b loses in
            absurd (omega (arith, less, zeros s s_lt, zeros b b_lt));
      };
      surplus = λ a lt some. zeros a lt;
      shortage = λ a lt some. zeros a lt;
      under = λ a lt. omega (arith, zeros a lt);
      in_all =
          sum_le n (n * most) (λ a. surplus_of n arcs a) (λ a lt.
          let buys = sum_le n most (λ s. between (high_of bounds) s a) (λ s s_lt.
          elim (cases_eq s a) [
            | inl same ↦ omega (arith, between-self (high_of bounds) s a same)
            | inr other ↦ omega (arith, between-other (high_of bounds) s a other, highs s a s_lt lt)
          ]) in
          omega (arith, surplus a lt, buys));
    }
