use Rattle.std.proofs.Common.{Some, refl}
use Rattle.sx_customer.proofs.Answered.{refused_is}
use Rattle.sx_customer.proofs.Others.{check_refused, checked}
use Rattle.sx_customer.proofs.Written.{wrote}
use Rattle.sx_meaning.specs.Answers.{asked}
use Rattle.sx_words.specs.declared.command.Command.TheVariants.{Check}
use Rattle.sx_customer.proofs.replaying.check.Goals as goal

pub returns-clause-checked : goal.returns-clause-checked
returns-clause-checked g c = λ asks done.
    let w = wrote (asked c.args.words.now) (Check) asks c.args.source.now.left c.run.new.source.left
    c.args.sink.now.written c.run.new.sink.written c.run.result c.run.ensures.answer done in
    (w.text, w.appended, checked c.run.ensures.checked_settles _ w.text _ w.may)

pub returns-clause-refused : goal.returns-clause-refused
returns-clause-refused g c = λ number why asks is.
    let f = refused_is (asked c.args.words.now) Check asks (Some c.args.source.now.left)
    (Some c.run.new.source.left) (Some c.args.sink.now.written) (Some c.run.new.sink.written) c.run.result
    c.run.ensures.answer c.args.source.now.left number why refl is in
    (check_refused c.args.source.now.left f.0 number why f.1, c.run.ensures.silent (rw is refl))
