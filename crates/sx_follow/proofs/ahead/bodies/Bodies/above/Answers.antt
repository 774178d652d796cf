use Rattle.sx_follow.proofs.BodyDigests.{made}
use Rattle.sx_follow.proofs.ahead.bodies.Bodies.above.Goals as goal

pub returns : goal.returns
returns g c = made c.args.height c.args.blocks.now c.in_ok-digests_by.field-0.items c.in_ok-digests_by.ensures
