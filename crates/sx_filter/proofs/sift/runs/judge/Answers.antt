use Rattle.std.proofs.Common.{◌≡◌, ℕ, Some, length, refl, sym, ap, ◌∙◌, arith}
use Rattle.std.specs.Prelude.{slice_get}
use Rattle.std.specs.List.{slice_range}
use Rattle.std.proofs.lemmas.Option.{slice_get_read}
use Rattle.sx_filter.specs.Alone.{is_fit}
use Rattle.sx_filter.specs.Kept.{covers}
use Rattle.sx_filter.proofs.RunSums.{first_begins, next_begins, one_account, run_covers, verdicts_more}
use Rattle.sx_filter.proofs.sift.runs.judge.Goals as goal
use Rattle.sx_ledger.specs.Ledger.{assets_of}
use Rattle.sx_tx.specs.declared.tx.Tx.{Tx}

pub loop-start-init : goal.loop-start-init
loop-start-init c = record {
  within = omega arith;
  begins = first_begins c.args.txs.now;
  one_each = c.requires.one_each;
  told = λ k d lt. absurd (omega (arith, lt));
}

pub loop-start-preserved : goal.loop-start-preserved
loop-start-preserved c =
    let parts = c.args.ledger.now in
    let txs = c.args.txs.now in
    let start = c.loop-start.start in
    let end = c.end_of_run-end.result in
    let ends = c.end_of_run-end.ensures in
    let first = c.index-txs-start.result in
    let inv = c.loop-start.invariant in
    let sorted = c.requires.ready.sorted in
    let at : slice_get txs start ≡ Some first =
    slice_get_read txs (length txs) start first refl c.loop-start-test.true c.index-txs-start.is in
    record {
      within = ends.within;
      begins = next_begins txs sorted start end ends;
      one_each = c.judge_run.ensures.one_each;
      told = verdicts_more (is_fit parts txs) txs c.loop-start.verdicts c.judge_run.new.verdicts start end
          c.judge_run.ensures.others
          (λ k d le lt. c.judge_run.ensures.told parts k d le lt (λ x there.
          c.is_covered-is.ensures.covers
          ∙ ap (λ (t : Tx). covers parts (slice_range txs start end) t.account.0 (assets_of parts))
          (sym c.index-txs-start.is)
          ∙ run_covers txs sorted start end ends parts c.requires.ready.passes inv.begins first at (assets_of parts)
          ∙ ap (λ (a : ℕ). covers parts txs a (assets_of parts))
          (sym (one_account txs sorted start end ends first at k x there le lt))))
          inv.told;
    }

pub returns-clause-verdicts : goal.returns-clause-verdicts
returns-clause-verdicts c = λ k d lt.
    c.loop-start.invariant.told k d (omega (arith, lt, c.loop-start-test.false, c.loop-start.invariant.one_each))
