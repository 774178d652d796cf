use Rattle.sx_customer.proofs.Others.{good, proved}
use Rattle.sx_customer.proofs.Written.{wrote}
use Rattle.sx_meaning.specs.Answers.{asked}
use Rattle.sx_words.specs.declared.command.Command.TheVariants.{Prove}
use Rattle.sx_customer.proofs.proving.prove.Goals as goal

pub returns-clause-proved : goal.returns-clause-proved
returns-clause-proved g c = λ id asks done.
    let w = wrote (asked c.args.words.now) (Prove id) asks c.args.source.now.left c.run.new.source.left
    c.args.sink.now.written c.run.new.sink.written c.run.result c.run.ensures.answer done in
    (w.text, w.appended, proved id _ w.text _ w.may)

pub returns-clause-good : goal.returns-clause-good
returns-clause-good g c = λ id asks done.
    let w = wrote (asked c.args.words.now) (Prove id) asks c.args.source.now.left c.run.new.source.left
    c.args.sink.now.written c.run.new.sink.written c.run.result c.run.ensures.answer done in
    (w.text, w.appended, good c.run.ensures.proves id _ w.text _ w.may)
