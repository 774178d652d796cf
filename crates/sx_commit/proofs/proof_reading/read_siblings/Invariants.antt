use Rattle.std.proofs.Common.{◌≡◌, ◌-◌}
use Rattle.sx_block.specs.Decoding.{digest_at}
use Rattle.sx_bytes.specs.Grammar.{many_at}
use Rattle.sx_bytes.proofs.ListReading.{with_front}
use Rattle.sx_commit.specs.Commitments.{levels}
use Rattle.sx_commit.proofs.proof_reading.read_siblings.Given as goal

abbrev pub invariant-loop : goal.invariant-loop
invariant-loop l =
    with_front l.siblings.items (many_at digest_at (levels - l.counter) l.from) ≡ many_at digest_at levels l.fn.from
