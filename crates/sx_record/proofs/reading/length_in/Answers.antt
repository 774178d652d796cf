use Rattle.std.proofs.Common.{sym, ap, ◌∙◌, arith}
use Rattle.byteorder.specs.Endian.{big_bytes}
use Rattle.sx_bytes.proofs.Field.{big_bytes-big_number}
use Rattle.sx_record.proofs.reading.length_in.Goals as goal

pub returns-clause-encoded : goal.returns-clause-encoded
returns-clause-encoded c = sym (ap (big_bytes 4) c.read_u32.ensures
    ∙ big_bytes-big_number 4 c.args.field.now (λ i. omega (arith, c.type_inv.field i)) c.requires)
