use Rattle.std.specs.Prelude.{codes}
use Rattle.sx_words.proofs.CommandLaws.{named_by, named_by_none}
use Rattle.sx_words.proofs.WorkersLaws.{takes_check, takes_follow, takes_interleave, takes_migrate, takes_show}
use Rattle.sx_words.proofs.WorkersLaws.{takes_verify}
use Rattle.sx_words.proofs.parsing.command.Goals as goal

pub returns-in-seal : goal.returns-in-seal
returns-in-seal c = rw (named_by c.args.name.now (codes "seal") _ c.in-seal.is) c.seal.ensures

pub returns-in-replay : goal.returns-in-replay
returns-in-replay c = rw (named_by c.args.name.now (codes "replay") _ c.in-replay.is) c.replay.ensures

pub returns-in-check : goal.returns-in-check
returns-in-check c = rw (named_by c.args.name.now (codes "check") _ c.in-check.is) c.alone.ensures

pub returns-in-show : goal.returns-in-show
returns-in-show c = rw (named_by c.args.name.now (codes "show") _ c.in-show.is) c.alone-in-show.ensures

pub returns-in-interleave : goal.returns-in-interleave
returns-in-interleave c =
    rw (named_by c.args.name.now (codes "interleave") _ c.in-interleave.is) c.alone-in-interleave.ensures

pub returns-in-migrate : goal.returns-in-migrate
returns-in-migrate c = rw (named_by c.args.name.now (codes "migrate") _ c.in-migrate.is) c.alone-in-migrate.ensures

pub returns-in-filter : goal.returns-in-filter
returns-in-filter c = rw (named_by c.args.name.now (codes "filter") _ c.in-filter.is) c.filter.ensures

pub returns-in-prove : goal.returns-in-prove
returns-in-prove c = rw (named_by c.args.name.now (codes "prove") _ c.in-prove.is) c.prove.ensures

pub returns-in-verify : goal.returns-in-verify
returns-in-verify c = rw (named_by c.args.name.now (codes "verify") _ c.in-verify.is) c.alone-in-verify.ensures

pub returns-in-follow : goal.returns-in-follow
returns-in-follow c = rw (named_by c.args.name.now (codes "follow") _ c.in-follow.is) c.alone-in-follow.ensures

pub returns-in-demo : goal.returns-in-demo
returns-in-demo c = rw (named_by c.args.name.now (codes "demo") _ c.in-demo.is) c.demo.ensures

pub returns-in_default : goal.returns-in_default
returns-in_default c =
    named_by_none c.args.name.now _ c.in_default.not-seal c.in_default.not-replay c.in_default.not-check
    c.in_default.not-show c.in_default.not-interleave c.in_default.not-migrate c.in_default.not-filter
    c.in_default.not-prove c.in_default.not-verify c.in_default.not-follow c.in_default.not-demo

pub alone-requires-clause-taken : goal.alone-requires-clause-taken
alone-requires-clause-taken c = takes_check

pub alone-requires-in-show-clause-taken : goal.alone-requires-in-show-clause-taken
alone-requires-in-show-clause-taken c = takes_show

pub alone-requires-in-interleave-clause-taken : goal.alone-requires-in-interleave-clause-taken
alone-requires-in-interleave-clause-taken c = takes_interleave

pub alone-requires-in-migrate-clause-taken : goal.alone-requires-in-migrate-clause-taken
alone-requires-in-migrate-clause-taken c = takes_migrate

pub alone-requires-in-verify-clause-taken : goal.alone-requires-in-verify-clause-taken
alone-requires-in-verify-clause-taken c = takes_verify

pub alone-requires-in-follow-clause-taken : goal.alone-requires-in-follow-clause-taken
alone-requires-in-follow-clause-taken c = takes_follow
