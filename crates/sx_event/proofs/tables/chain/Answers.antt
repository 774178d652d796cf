use Rattle.std.proofs.Common.{◌∙◌, get_or, refl, arith}
use Rattle.std.proofs.Math.Seq.{map-set_same}
use Rattle.sx_event.specs.declared.tables.Noted.{Noted}
use Rattle.sx_event.specs.Buckets.{no_note, entry_of}
use Rattle.sx_event.proofs.Bucketing.{set_chained}
use Rattle.sx_event.proofs.tables.chain.Goals as goal

pub chain-preserved : goal.chain-preserved
chain-preserved c =
    let note : Noted = record {
      table = (get_or c.chain.log c.chain.place no_note).table;
      purse = (get_or c.chain.log c.chain.place no_note).purse;
      value = (get_or c.chain.log c.chain.place no_note).value;
      before = get_or c.chain.heads c.bucket_of-bucket.result 0;
    } in (
      map-set_same entry_of c.chain.log c.chain.place note no_note refl ∙ c.chain.invariant.0,
      set_chained c.chain.heads c.chain.log c.chain.place c.bucket_of-bucket.result note c.chain.invariant.1
          (omega arith) c.bucket_of-bucket.ensures.bucket c.bucket_of-bucket.ensures.within refl,
    )
