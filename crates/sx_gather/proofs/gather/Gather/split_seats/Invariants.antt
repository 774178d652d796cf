use Rattle.std.proofs.Common.{◌≤◌, length}
use Rattle.std.specs.Prelude.{vec_capacity}
use Rattle.sx_gather.proofs.Loops.{Splits}
use Rattle.sx_gather.proofs.gather.Gather.split_seats.Given as goal

abbrev pub invariant-loop-k : goal.invariant-loop-k
invariant-loop-k l = record {
  splits : Splits l.self.shards l.fn.seats l.seats l.new_seats.items l.at l.k;
  room : length l.seats ≤ vec_capacity l.new_seats;
}
