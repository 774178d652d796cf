use Rattle.std.proofs.Common.{◌++◌, ◌∷◌, [], ◌+◌, List, ap, sym, subst, ◌∙◌}
use Rattle.sx_event.specs.View.{opened}
use Rattle.sx_shard.specs.Models.{IsOf, Seated, Shown}
use Rattle.sx_gather.specs.Start.{Starts}
use Rattle.sx_gather.proofs.Loops.{starts_more}
use Rattle.sx_gather.proofs.gather.start_shards.Goals as goal

pub loop-k-preserved : goal.loop-k-preserved
loop-k-preserved c =
    let setting = c.args.setting.now in
    let k = c.loop-k.k in
    let shards = c.loop-k.shards.items in
    let shard = c.in_ok-shard.shard in
    let seat = c.of.result in
    let one = c.in_ok-shard.ensures in
    subst (λ (xs : List Shown). Starts setting (k + 1) xs c.push-in-loop-k.new.self.items)
    (sym c.in_ok-push.ensures.items)
    (subst (λ (xs : List Seated). Starts setting (k + 1) (shards ++ shard ∷ []) xs)
    (sym c.in_ok-push-2.ensures.items)
    (starts_more setting k shards c.loop-k.seats.items shard seat c.loop-k.invariant
    (one.purses ∙ c.opening_purses.ensures) (one.bits ∙ c.opening_bits.ensures) (one.count ∙ c.requires)
    (subst (IsOf shard) (sym c.of.ensures) one.seat)
    (ap (λ (s : Seated). s.view) c.of.ensures ∙ one.view ∙ ap (opened 0) c.requires)))
