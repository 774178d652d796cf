use Rattle.std.proofs.Common.{◌≡◌, ℕ, ◌+◌, ◌<◌, length, Some, arith}
use Rattle.std.specs.Prelude.{slice_get}
use Rattle.sx_tally.specs.Postings.{AreWithin, units_in}
use Rattle.sx_tally.proofs.PostedUnits.{both_ok, credits_more, debits_more}
use Rattle.sx_tally.proofs.entries.hold.Goals as goal
use Rattle.sx_ledger.specs.Effects.{credit, posted}
use Rattle.sx_ledger.specs.Ledger.{assets_of, ids}

pub returns : goal.returns
returns c =
    let parts = c.args.ledger.now in
    let tx = c.args.tx.now in
    let old = c.args.pending.now.credits.items in
    let new = c.hold_credit.new.credits.items in
    both_ok c.hold_credit.result
    (λ (within : AreWithin (length parts.accounts) (assets_of parts) old
    → AreWithin (length parts.accounts) (assets_of parts) new)
    (held : (p account x : ℕ) → slice_get (ids parts.accounts) p ≡ Some account → x < assets_of parts →
    units_in new p x ≡ units_in old p x + posted (credit parts.offers tx) account x) before postings was.
    record {
      debits_within = c.in_ok-hold_debit.ensures.within was.debits_within;
      credits_within = within was.credits_within;
      debits = λ p account x there lt.
          omega (
            arith,
            c.in_ok-hold_debit.ensures.debits p account x there lt,
            was.debits p account x there lt,
            debits_more before tx account x,
          );
      credits = λ p account x there lt.
          omega (
            arith,
            held p account x there lt,
            was.credits p account x there lt,
            credits_more parts.offers before tx account x,
          );
    }) c.hold_credit.ensures.within c.hold_credit.ensures.credits
