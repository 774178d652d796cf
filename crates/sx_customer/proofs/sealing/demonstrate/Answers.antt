use Rattle.std.proofs.Common.{ℕ, List, ap, refl, subst}
use Rattle.sx_customer.proofs.Seals.{demonstrated}
use Rattle.sx_customer.proofs.Written.{wrote}
use Rattle.sx_meaning.specs.Answers.{asked}
use Rattle.sx_base.specs.Memory.{SourceState}
use Rattle.sx_meaning.specs.Outputs.{MayWrite}
use Rattle.sx_words.specs.declared.command.Command.TheVariants.{Demo}
use Rattle.sx_customer.proofs.sealing.demonstrate.Goals as goal

pub returns-clause-demonstrated : goal.returns-clause-demonstrated
returns-clause-demonstrated g c = λ number workers asks done.
    let w = wrote (asked c.args.words.now) (Demo number workers) asks c.args.source.now.left c.run.new.source.left
    c.args.sink.now.written c.run.new.sink.written c.run.result c.run.ensures.answer done in
    (w.text, w.appended, demonstrated c.run.ensures.demos number workers _ w.text _ w.may)

pub returns-clause-alike : goal.returns-clause-alike
returns-clause-alike g c = λ number workers others asks done.
    let w = wrote (asked c.args.words.now) (Demo number workers) asks c.args.source.now.left c.run.new.source.left
    c.args.sink.now.written c.run.new.sink.written c.run.result c.run.ensures.answer done in
    let unread = c.run.ensures.unread (rw asks refl) in (
      w.text,
      w.appended,
      subst (λ (left : List ℕ). MayWrite (Demo number others) c.args.source.now.left w.text left)
          (ap (λ (s : SourceState). s.left) unread)
          (c.run.ensures.any_demo_workers number workers others _ w.text _ w.may),
    )

pub returns-clause-unread : goal.returns-clause-unread
returns-clause-unread g c = λ number workers asks. c.run.ensures.unread (rw asks refl)
