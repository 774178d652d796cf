use Rattle.sx_follow.proofs.Followers.{goes_on}
use Rattle.sx_follow.proofs.follower.Follower.take.Goals as goal

pub take_in_turn-requires-clause-leads : goal.take_in_turn-requires-clause-leads
take_in_turn-requires-clause-leads c =
    let f = c.args.self.now in
    let left = c.args.left in
    let next = c.requires.next in
    record {
      digest = (goes_on f.opening f.blocks f.steps f.head left c.requires.follows next).0;
      follows = λ opening steps follows. (goes_on opening f.blocks steps f.head left follows next).1;
    }
