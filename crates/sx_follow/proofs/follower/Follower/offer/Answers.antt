use Rattle.std.proofs.Common.{◌≡◌, ◌<◌, ◌∷◌, List, [], length, take, sym, ap, subst, ◌∙◌, arith, rules}
use Rattle.std.specs.Vec.{vec_len}
use Rattle.std.proofs.lemmas.List.{take_at}
use Rattle.sx_block.specs.declared.header.Block.{Block}
use Rattle.sx_follow.specs.Follower.{Followed, IsFollower, most_blocks}
use Rattle.sx_follow.specs.Waiting.{AreWaiting}
use Rattle.sx_follow.proofs.Entering.{one_more}
use Rattle.sx_follow.proofs.Followers.{offered}
use Rattle.sx_follow.proofs.follower.Follower.offer.Goals as goal

pub invariant_of-self-in-Ok : goal.invariant_of-self-in-Ok
invariant_of-self-in-Ok c =
    let f = c.self.inside in
    let same : length c.args.self.now.blocks ≡ length f.blocks.items =
    sym (ap (λ (s : Followed). length s.blocks) c.self.view_is) in
    let few : length f.blocks.items < most_blocks = omega (arith, same, c.requires.few) in
    let long : vec_len f.blocks ≡ length f.blocks.items = search rules in
    let both =
    subst
    (λ (all : List Block). AreWaiting all c.enter.new.self × IsFollower (record {
      opening = f.opening;
      blocks = all;
      steps = f.steps;
      head = f.head;
    }))
    (sym c.in_ok-push.ensures.items) (
      one_more f.blocks.items c.args.block f.waiting c.enter.new.self c.len-place.result c.self.invariant.1
          (c.len-place.ensures ∙ long) c.in-Ok.ensures.entered,
      offered c.check_laws.ensures.judged c.check_laws.ensures.valid_is_not_refused
          c.block_effect_laws.ensures.ledger f.opening f.blocks.items f.steps f.head c.args.block c.self.invariant.2
          few c.requires.form,
    ) in
    (c.self.invariant.0, both.0, both.1)

pub invariant_of-self-in-Err : goal.invariant_of-self-in-Err
invariant_of-self-in-Err c =
    let f = c.self.inside in
    let long : vec_len f.blocks ≡ length f.blocks.items = search rules in
    let as_before : c.truncate.new.self.items ≡ f.blocks.items =
    c.truncate.ensures.items
    ∙ ap (λ (xs : List Block). take c.len-place.result xs) c.in_ok-push.ensures.items
    ∙ take_at f.blocks.items (c.args.block ∷ []) c.len-place.result (sym long ∙ sym c.len-place.ensures) in
    let both =
    subst
    (λ (all : List Block). AreWaiting all c.enter.new.self × IsFollower (record {
      opening = f.opening;
      blocks = all;
      steps = f.steps;
      head = f.head;
    }))
    (sym as_before)
    (λ height. c.in-Err.ensures.kept height ∙ c.self.invariant.1 height, c.self.invariant.2) in
    (c.self.invariant.0, both.0, both.1)
