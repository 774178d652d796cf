use Rattle.sx_bytes.proofs.Field.{big_bytes-big_number, big_number-big_bytes}
use Rattle.sx_bytes.proofs.laws.field_laws.Goals as goal

pub returns-clause-encoding : goal.returns-clause-encoding
returns-clause-encoding c = big_bytes-big_number

pub returns-clause-decoding : goal.returns-clause-decoding
returns-clause-decoding c = big_number-big_bytes
