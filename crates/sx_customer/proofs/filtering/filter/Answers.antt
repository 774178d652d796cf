use Rattle.std.proofs.Common.{ℕ, List, refl, subst}
use Rattle.sx_customer.proofs.Answered.{emptied}
use Rattle.sx_customer.proofs.Others.{filtered, kept}
use Rattle.sx_customer.proofs.Written.{wrote}
use Rattle.sx_meaning.specs.Answers.{asked}
use Rattle.sx_meaning.specs.Outputs.{MayWrite}
use Rattle.sx_words.specs.declared.command.Command.TheVariants.{Filter}
use Rattle.sx_customer.proofs.filtering.filter.Goals as goal

pub returns-clause-filtered : goal.returns-clause-filtered
returns-clause-filtered g c = λ workers asks done.
    let w = wrote (asked c.args.words.now) (Filter workers) asks c.args.source.now.left c.run.new.source.left
    c.args.sink.now.written c.run.new.sink.written c.run.result c.run.ensures.answer done in
    (w.text, w.appended, filtered workers _ w.text _ w.may)

pub returns-clause-kept : goal.returns-clause-kept
returns-clause-kept g c = λ workers asks done.
    let w = wrote (asked c.args.words.now) (Filter workers) asks c.args.source.now.left c.run.new.source.left
    c.args.sink.now.written c.run.new.sink.written c.run.result c.run.ensures.answer done in
    (w.text, w.appended, kept c.input_laws.ensures.filtered workers _ w.text _ w.may)

pub returns-clause-alike : goal.returns-clause-alike
returns-clause-alike g c = λ workers others asks done.
    let w = wrote (asked c.args.words.now) (Filter workers) asks c.args.source.now.left c.run.new.source.left
    c.args.sink.now.written c.run.new.sink.written c.run.result c.run.ensures.answer done in
    let ended = emptied (asked c.args.words.now) (Filter workers)
    c.args.source.now.left c.run.new.source.left asks refl (c.run.ensures.read done) in (
      w.text,
      w.appended,
      subst (λ (left : List ℕ). MayWrite (Filter others) c.args.source.now.left w.text left) ended
          (c.run.ensures.any_filter_workers workers others _ w.text _ w.may),
    )
