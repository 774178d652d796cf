use Rattle.std.proofs.Common.{◌+◌, length, refl, arith}
use Rattle.std.proofs.lemmas.Slice.{take-put_mid}
use Rattle.sx_commit.proofs.leaf.put_bytes.Goals as goal

pub returns-clause-bytes : goal.returns-clause-bytes
returns-clause-bytes c =
    let bytes = c.args.bytes.now in
    rw c.copy_from_slice.ensures.after
    (take-put_mid c.args.place _ c.args.text.now bytes (c.args.place + length bytes) refl (omega (arith, c.requires)))
