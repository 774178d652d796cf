use Rattle.std.proofs.Common.{ℕ, ◌≡◌, ◌+◌, ◌<◌, ◌≤◌, length}
use lib.ListN.{get_or}
use Rattle.std.specs.Fork.{ChangesAt}
use Rattle.sx_fork.proofs.each.in_turn.Given as goal

-- Places from k on are as they were, and those before it as the calls left them.
abbrev pub invariant-loop-k : goal.invariant-loop-k
invariant-loop-k g l =
    (length l.part ≡ length l.initial.part)
    × ((j : ℕ) (d : g.row.T.Denot) → l.k ≤ j → get_or l.part j d ≡ get_or l.initial.part j d)
    × ((j : ℕ) (d : g.row.T.Denot) → j < l.k
    → ChangesAt g.F.Fn l.f (l.base + j) (get_or l.initial.part j d) (get_or l.part j d))
