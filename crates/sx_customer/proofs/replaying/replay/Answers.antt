use Rattle.std.proofs.Common.{ℕ, List, Some, refl, subst}
use Rattle.sx_customer.proofs.Answered.{emptied, refused_is}
use Rattle.sx_customer.proofs.Others.{replay_refused, replayed}
use Rattle.sx_customer.proofs.Written.{wrote}
use Rattle.sx_meaning.specs.Answers.{asked}
use Rattle.sx_meaning.specs.Outputs.{MayWrite}
use Rattle.sx_words.specs.declared.command.Command.TheVariants.{Replay}
use Rattle.sx_customer.proofs.replaying.replay.Goals as goal

pub returns-clause-replayed : goal.returns-clause-replayed
returns-clause-replayed g c = λ workers asks done.
    let w = wrote (asked c.args.words.now) (Replay workers) asks c.args.source.now.left c.run.new.source.left
    c.args.sink.now.written c.run.new.sink.written c.run.result c.run.ensures.answer done in
    let ended = emptied (asked c.args.words.now) (Replay workers)
    c.args.source.now.left c.run.new.source.left asks refl (c.run.ensures.read done) in (
      w.text,
      w.appended,
      replayed c.run.ensures.replayed_settle c.run.ensures.follows c.chain_laws.ensures.replays
          c.chain_laws.ensures.conserves workers _ w.text
          (subst (λ (left : List ℕ). MayWrite (Replay workers) c.args.source.now.left w.text left) ended w.may),
    )

pub returns-clause-refused : goal.returns-clause-refused
returns-clause-refused g c = λ workers number why asks is.
    let f = refused_is (asked c.args.words.now) (Replay workers) asks (Some c.args.source.now.left)
    (Some c.run.new.source.left) (Some c.args.sink.now.written) (Some c.run.new.sink.written) c.run.result
    c.run.ensures.answer c.args.source.now.left number why refl is in
    (replay_refused workers c.args.source.now.left f.0 number why f.1, c.run.ensures.silent (rw is refl))
