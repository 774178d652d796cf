use Rattle.std.proofs.Common.{◌≡◌, take}
use Rattle.std.specs.List.{flat_map}
use Rattle.sx_run.proofs.PartLists.{all}
use Rattle.sx_run.proofs.candidates_writing.encoded.Given as goal
use Rattle.sx_tx.specs.Transactions.{tx_bytes}

abbrev pub invariant-loop-part : goal.invariant-loop-part
invariant-loop-part l = l.told ≡ flat_map tx_bytes (all (take l.part-index l.parts))
