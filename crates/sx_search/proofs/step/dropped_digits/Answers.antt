use Rattle.std.proofs.Common.{ℕ, ◌+◌, ◌^◌, ◌<◌, ◌≤◌, sym, subst, arith}
use Rattle.sx_search.proofs.Steps.{dropped_least, dropped_most}
use Rattle.sx_search.proofs.step.dropped_digits.Goals as goal

pub returns-clause-most : goal.returns-clause-most
returns-clause-most c =
    subst (λ (d : ℕ). c.args.volume < 2 ^ (64 + d)) (sym c.saturating_sub.ensures)
    (dropped_most c.args.volume (omega arith))

pub returns-clause-least : goal.returns-clause-least
returns-clause-least c = λ some.
    subst (λ (d : ℕ). 2 ^ d ≤ c.args.volume) (sym c.saturating_sub.ensures)
    (dropped_least c.args.volume (omega arith) some)
