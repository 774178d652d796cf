use Rattle.std.proofs.Common.{Some, ap, arith, sym, ◌∙◌}
use Rattle.sx_commit.proofs.Folding.{true_is_good}
use Rattle.sx_commit.proofs.Ranges.{proof_is}
use Rattle.sx_commit.proofs.committing.prove.Goals as goal

pub returns-clause-good : goal.returns-clause-good
returns-clause-good g c =
    true_is_good c.args.ledger.now
    record {
      version = c.version-version.result;
      place = c.args.place;
      account = c.in_ok-account.account;
      siblings = c.in_ok-siblings.siblings;
    }
    (omega (arith, c.requires.place, c.account.ensures.kept.few_accounts))
    c.version-version.ensures.version
    (c.account.ensures.account ∙ ap Some (sym c.in_ok-account.ensures))
    c.in_ok-siblings.ensures

pub returns-clause-ranges : goal.returns-clause-ranges
returns-clause-ranges g c =
    proof_is c.args.ledger.now
    record {
      version = c.version-version.result;
      place = c.args.place;
      account = c.in_ok-account.account;
      siblings = c.in_ok-siblings.siblings;
    }
    c.account.ensures.kept c.requires.place c.version-version.ensures.version
    (c.account.ensures.account ∙ ap Some (sym c.in_ok-account.ensures))
    c.in_ok-siblings.ensures
