use Rattle.sx_bytes.proofs.Written.{written_then}
use Rattle.sx_commit.specs.Encoding.{fields_bytes}
use Rattle.sx_commit.proofs.proof_writing.put_proof.Goals as goal

pub returns-clause-ok : goal.returns-clause-ok
returns-clause-ok c =
    written_then c.put_fields.result c.args.to.now c.args.root.now c.raw.new.self (fields_bytes c.args.proof.now)
    c.put_fields.new.to (rw c.bytes.ensures at c.in_ok-raw.ensures.ok) c.put_fields.ensures.ok
