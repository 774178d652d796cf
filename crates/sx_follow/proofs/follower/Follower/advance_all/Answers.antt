use Rattle.std.proofs.Common.{Bool, Ok, ap}
use Rattle.sx_follow.proofs.Followers.{whole_chain}
use Rattle.sx_follow.proofs.follower.Follower.advance_all.Goals as goal

pub returns-clause-whole : goal.returns-clause-whole
returns-clause-whole c =
    whole_chain c.go_on_alone.new.self c.go_on_alone.ensures.follows
    (c.in_ok-go_on_alone.ensures.stays (ap (λ (b : Bool). Ok b) c.if-branch.false))
