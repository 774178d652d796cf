use Rattle.std.proofs.Common.{Bool, Ok, ap}
use Rattle.sx_follow.proofs.Followers.{whole_chain}
use Rattle.sx_follow.proofs.follower.Follower.par_advance_all.Goals as goal

pub returns-clause-whole : goal.returns-clause-whole
returns-clause-whole g c =
    whole_chain c.go_on.new.self c.go_on.ensures.follows
    (c.in_ok-go_on.ensures.stays (ap (λ (b : Bool). Ok b) c.if-branch.false))
