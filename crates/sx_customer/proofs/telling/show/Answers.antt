use Rattle.sx_customer.proofs.Told.{shown}
use Rattle.sx_customer.proofs.Written.{wrote}
use Rattle.sx_customer.proofs.telling.show.Goals as goal
use Rattle.sx_meaning.specs.Answers.{asked}
use Rattle.sx_words.specs.declared.command.Command.TheVariants.{Show}

pub returns : goal.returns
returns g c = λ asks done.
    let w = wrote (asked c.args.words.now) Show asks c.args.source.now.left c.run.new.source.left
    c.args.sink.now.written c.run.new.sink.written c.run.result c.run.ensures.answer done in
    (w.text, w.appended, shown _ w.text _ w.may)
