use Rattle.std.proofs.Common.{◌≡◌, ◌+◌, ◌<◌, length, ap, ◌∙◌, arith}
use Rattle.std.proofs.lemmas.List.{get_or_read}
use Rattle.sx_event.specs.declared.tables.Noted.{Noted}
use Rattle.sx_event.specs.Buckets.{bucket_of}
use Rattle.sx_event.proofs.Bucketing.{push_kept}
use Rattle.sx_event.proofs.tables.Tables.put.Goals as goal

pub invariant_of-self : goal.invariant_of-self
invariant_of-self c =
    let heads = c.self.inside.heads.items in
    let log = c.self.inside.log.items in
    let bucket = c.bucket_of-bucket.result in
    let note : Noted = record {
      table = c.args.table;
      purse = c.args.purse;
      value = c.args.value;
      before = c.index-before.result.now;
    } in
    let count : c.len.result ≡ length heads = omega arith in
    let end : c.len-2.result ≡ length log + 1 = omega arith in
    let in' : bucket < length heads = omega (arith, c.bucket_of-bucket.ensures.within) in
    let its : bucket ≡ bucket_of (length heads) c.args.purse =
    c.bucket_of-bucket.ensures.bucket ∙ ap (λ n. bucket_of n c.args.purse) count in
    rw (c.push_reserved.ensures.items, end) (push_kept heads log note bucket c.self.invariant its in'
    (get_or_read heads bucket note.before in' c.index-before.ensures 0))
