use Rattle.std.proofs.Common.{◌+◌, List, sym, subst, arith}
use Rattle.sx_shard.specs.Models.{Seated}
use Rattle.sx_gather.proofs.Loops.{Splits, splits_more}
use Rattle.sx_gather.proofs.gather.Gather.split_seats.Goals as goal

pub loop-k-preserved : goal.loop-k-preserved
loop-k-preserved c =
    let shards = c.args.self.now.shards in
    let one = c.split_seat-seat in
    record {
      splits =
          subst (λ (new : List Seated). Splits shards c.args.seats.now one.new.seats new c.args.at (c.loop-k.k + 1))
          (sym c.push_reserved.ensures.items)
          (splits_more shards c.args.seats.now c.loop-k.seats one.new.seats c.loop-k.new_seats.items c.args.at
          c.loop-k.k one.result c.loop-k.invariant.splits one.ensures.seats one.ensures.left one.ensures.others
          one.ensures.of one.ensures.right);
      room =
          omega (
            arith,
            c.loop-k.invariant.room,
            c.loop-k.invariant.splits.seats.one_each,
            one.ensures.seats.one_each,
            c.push_reserved.ensures.capacity,
          );
    }
