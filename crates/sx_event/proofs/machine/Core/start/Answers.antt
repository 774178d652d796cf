use Rattle.std.proofs.Common.{◌≡◌, [], ◌∷◌, ◌++◌, ap, ◌∙◌, arith}
use Rattle.sx_event.specs.View.{opened}
use Rattle.sx_event.proofs.Runs.{begun_keeps}
use Rattle.sx_event.proofs.machine.Core.start.Goals as goal

pub invariant_of-result : goal.invariant_of-result
invariant_of-result c =
    let views : c.open.new.self.views ≡ opened 0 c.args.count ∷ [] =
    c.open.ensures.views ∙ ap (λ vs. vs ++ opened 0 c.args.count ∷ [])
    (c.reserve.ensures.views ∙ c.new-views.ensures) in
    record {
      rule = rw (
        c.in_ok-from_slice.ensures.items,
        c.in_ok-from_slice-2.ensures.items,
        c.in_ok-from_slice-3.ensures.items,
        c.in_ok-from_slice-4.ensures.items,
        views,
      )
          (begun_keeps c.args.purses.now c.args.bits.now c.args.count);
      room = omega (arith, c.open.ensures.room, c.in_ok-reserve.ensures.ok);
    }
