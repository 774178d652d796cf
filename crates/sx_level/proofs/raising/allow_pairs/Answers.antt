use Rattle.std.proofs.Common.{◌+◌, ◌*◌, sym, refl, ◌∙◌, below_more, arith}
use Rattle.std.proofs.lemmas.Nat.{mul-add-lt}
use Rattle.sx_level.specs.Shape.{pair_place}
use Rattle.sx_level.proofs.Allowing.{same_itself, same_on, still_shaped}
use Rattle.sx_level.proofs.Filling.{place_of}
use Rattle.sx_level.proofs.raising.allow_pairs.Goals as goal

pub loop-place-init : goal.loop-place-init
loop-place-init c = record {
  nodes = refl;
  kept = same_itself c.args.net.now.arcs;
  forth = λ k lt. absurd (omega arith);
  back = λ k lt. absurd (omega arith);
  others = λ a le. refl;
}

pub loop-place-preserved : goal.loop-place-preserved
loop-place-preserved c =
    let inv = c.loop-place.invariant in
    let step = rw c.assets-assets.ensures.assets at c.allow_pair.ensures in
    record {
      nodes = step.nodes ∙ inv.nodes;
      kept = same_on c.args.net.now.arcs c.loop-place.net.arcs c.allow_pair.new.net.arcs inv.kept step.kept;
      forth =
          below_more _ _
          (λ k lt. step.others (2 * k) (λ same. absurd (omega arith)) (λ same. absurd (omega arith)) ∙ inv.forth k lt)
          step.forth;
      back =
          below_more _ _
          (λ k lt. step.others (2 * k + 1) (λ same. absurd (omega arith)) (λ same. absurd (omega arith))
          ∙ inv.back k lt)
          step.back;
      others = λ a le.
          step.others a (λ same. absurd (omega arith)) (λ same. absurd (omega arith)) ∙ inv.others a (omega arith);
    }

pub returns-clause-shaped : goal.returns-clause-shaped
returns-clause-shaped c =
    let n = c.args.bounds.now.assets in
    let inv = c.loop-place.invariant in
    let most = rw c.assets-assets.ensures.assets at c.loop-place-test.false in
    still_shaped c.args.bounds.now c.args.net.now.arcs c.loop-place.net.arcs inv.kept c.requires.shaped
    (λ s b s_lt b_lt.
    let below = mul-add-lt s n b n s_lt b_lt in
    inv.back (pair_place n s b) (omega (arith, below, most))
    ∙ sym (inv.forth (pair_place n s b) (omega (arith, below, most))))
    (λ a le.
    let last = rw c.assets-assets.ensures.assets at c.loop-place.auto.place-end in
    inv.others a (omega (arith, le, last)))

pub returns-clause-allowed : goal.returns-clause-allowed
returns-clause-allowed c = λ s b s_lt b_lt.
    let n = c.args.bounds.now.assets in
    let most = rw c.assets-assets.ensures.assets at c.loop-place-test.false in
    let below = mul-add-lt s n b n s_lt b_lt in
    let at = place_of n s b b_lt in
    let is = c.loop-place.invariant.forth (pair_place n s b) (omega (arith, below, most)) in
    rw (at.0, at.1) at is
