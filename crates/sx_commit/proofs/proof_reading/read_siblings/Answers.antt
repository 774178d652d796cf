use Rattle.std.proofs.lemmas.Result.{err_from_is_err_and}
use Rattle.sx_block.specs.Decoding.{digest_at}
use Rattle.sx_bytes.specs.declared.fault.ReadError.TheVariants as read_error
use Rattle.sx_bytes.specs.Grammar.{many_at}
use Rattle.sx_bytes.proofs.ListReading.{goes_on, ends, is_done}
use Rattle.sx_commit.specs.Commitments.{levels}
use Rattle.sx_commit.proofs.proof_reading.read_siblings.Goals as goal

pub returns-in_err-read_digest : goal.returns-in_err-read_digest
returns-in_err-read_digest c =
    let p = err_from_is_err_and c.from_residual-in_err-read_digest.result
    c.from_residual-in_err-read_digest.ensures.1 in
    rw (p.1, p.2) (ends digest_at (read_error.Form c.in_err-read_digest.field-0.0) c.loop.siblings.items levels
    c.loop.counter c.loop.from (many_at digest_at levels c.args.from.now) c.loop-test.true
    c.in_err-read_digest.ensures c.loop.invariant)

pub loop-preserved : goal.loop-preserved
loop-preserved c =
    rw c.in_ok-push.ensures.items
    (goes_on digest_at c.loop.siblings.items levels c.loop.counter c.loop.from c.in_ok-read_digest.field-0
    c.read_digest.new.from (many_at digest_at levels c.args.from.now) c.loop-test.true
    c.in_ok-read_digest.ensures c.loop.invariant)

pub returns : goal.returns
returns c =
    is_done digest_at c.loop.siblings.items levels c.loop.counter c.loop.from
    (many_at digest_at levels c.args.from.now) c.loop-test.false c.loop.invariant
