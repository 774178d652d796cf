use Rattle.sx_record.proofs.Encoding.{decodes_only_records, decodes_every_record, are_records_prefix_free}
use Rattle.sx_record.proofs.Encoding.{ends_only_at_end}
use Rattle.sx_record.proofs.laws.record_laws.Goals as goal

pub returns-clause-encoding : goal.returns-clause-encoding
returns-clause-encoding c = decodes_only_records

pub returns-clause-decoding : goal.returns-clause-decoding
returns-clause-decoding c = decodes_every_record

pub returns-clause-prefix : goal.returns-clause-prefix
returns-clause-prefix c = are_records_prefix_free

pub returns-clause-end : goal.returns-clause-end
returns-clause-end c = ends_only_at_end
