use Rattle.std.proofs.Common.{ℕ, List, Some, refl, subst}
use Rattle.sx_customer.proofs.Answered.{emptied, refused_is}
use Rattle.sx_customer.proofs.Seals.{gathered, seal_refused, sealed}
use Rattle.sx_customer.proofs.Written.{wrote}
use Rattle.sx_meaning.specs.Answers.{asked}
use Rattle.sx_meaning.specs.Outputs.{MayWrite}
use Rattle.sx_words.specs.declared.command.Command.TheVariants.{Seal}
use Rattle.sx_customer.proofs.sealing.seal.Goals as goal

pub returns-clause-sealed : goal.returns-clause-sealed
returns-clause-sealed g c = λ workers shards mu rounds searches asks done.
    let w = wrote (asked c.args.words.now) (Seal workers shards mu rounds searches) asks
    c.args.source.now.left c.run.new.source.left c.args.sink.now.written c.run.new.sink.written
    c.run.result c.run.ensures.answer done in
    (w.text, w.appended, sealed c.run.ensures.seals workers shards mu rounds searches _ w.text _ w.may)

pub returns-clause-gathered : goal.returns-clause-gathered
returns-clause-gathered g c = λ workers shards mu rounds searches asks done.
    let w = wrote (asked c.args.words.now) (Seal workers shards mu rounds searches) asks
    c.args.source.now.left c.run.new.source.left c.args.sink.now.written c.run.new.sink.written
    c.run.result c.run.ensures.answer done in
    (w.text, w.appended, gathered c.run.ensures.checked_settles workers shards mu rounds searches _ w.text _ w.may)

pub returns-clause-alike : goal.returns-clause-alike
returns-clause-alike g c = λ workers shards mu rounds searches others more asks done.
    let w = wrote (asked c.args.words.now) (Seal workers shards mu rounds searches) asks
    c.args.source.now.left c.run.new.source.left c.args.sink.now.written c.run.new.sink.written
    c.run.result c.run.ensures.answer done in
    let ended = emptied (asked c.args.words.now) (Seal workers shards mu rounds searches)
    c.args.source.now.left c.run.new.source.left asks refl (c.run.ensures.read done) in (
      w.text,
      w.appended,
      subst (λ (left : List ℕ). MayWrite (Seal others more mu rounds searches)
          c.args.source.now.left w.text left) ended
          (c.run.ensures.any_workers workers others shards more mu rounds searches _ w.text _ w.may),
    )

pub returns-clause-whole : goal.returns-clause-whole
returns-clause-whole g c = λ workers shards mu rounds searches asks done.
    emptied (asked c.args.words.now) (Seal workers shards mu rounds searches)
    c.args.source.now.left c.run.new.source.left asks refl (c.run.ensures.read done)

pub returns-clause-refused : goal.returns-clause-refused
returns-clause-refused g c = λ workers shards mu rounds searches number why asks is.
    let f = refused_is (asked c.args.words.now) (Seal workers shards mu rounds searches) asks
    (Some c.args.source.now.left) (Some c.run.new.source.left) (Some c.args.sink.now.written)
    (Some c.run.new.sink.written) c.run.result c.run.ensures.answer c.args.source.now.left number why refl is in (
      seal_refused workers shards mu rounds searches c.args.source.now.left f.0 number why f.1,
      c.run.ensures.silent (rw is refl),
    )
