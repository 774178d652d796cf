use Rattle.std.proofs.Common.{◌≡◌, ◌≤◌, List, Ok, length, sym, subst, rules}
use Rattle.sx_filter.proofs.Few.{kept_is_few}
use Rattle.sx_filter.proofs.KeptLaws.{kept_is_admissible}
use Rattle.sx_filter.proofs.filtering.filter_list.Goals as goal
use Rattle.sx_outcome.specs.Room.{room_for}
use Rattle.sx_ledger.specs.Body.{IsAdmissible}
use Rattle.sx_tx.specs.declared.tx.Tx.{Tx}

pub returns-clause-kept : goal.returns-clause-kept
returns-clause-kept g c = search rules

pub returns-clause-admissible : goal.returns-clause-admissible
returns-clause-admissible g c =
    let parts = c.args.ledger in
    let space : room_for parts c.args.candidates ≡ Ok tt = search rules in
    subst (IsAdmissible parts) (sym (returns-clause-kept g c)) (kept_is_admissible parts c.args.candidates space)

pub returns-clause-few : goal.returns-clause-few
returns-clause-few g c =
    subst (λ (txs : List Tx). length txs ≤ length c.args.candidates) (sym (returns-clause-kept g c))
    (kept_is_few c.args.ledger c.args.candidates)
