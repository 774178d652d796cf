use Rattle.sx_customer.proofs.Others.{verified}
use Rattle.sx_customer.proofs.Written.{wrote}
use Rattle.sx_meaning.specs.Answers.{asked}
use Rattle.sx_words.specs.declared.command.Command.TheVariants.{Verify}
use Rattle.sx_customer.proofs.proving.verify.Goals as goal

pub returns : goal.returns
returns g c = λ asks done.
    let w = wrote (asked c.args.words.now) (Verify) asks c.args.source.now.left c.run.new.source.left
    c.args.sink.now.written c.run.new.sink.written c.run.result c.run.ensures.answer done in
    (w.text, w.appended, verified _ w.text _ w.may)
