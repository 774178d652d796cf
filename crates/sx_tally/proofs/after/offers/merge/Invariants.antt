use Rattle.std.proofs.Common.{◌≡◌, ◌++◌, Bool, not, drop}
use Rattle.std.specs.List.{filter}
use Rattle.sx_tally.specs.Merging.{merged}
use Rattle.sx_tally.specs.Changes.{AreFlags}
use Rattle.sx_tally.proofs.after.offers.merge.Given as goal
use Rattle.sx_ledger.specs.declared.offer.Offer.{Offer}

abbrev pub invariant-loop-place : goal.invariant-loop-place
invariant-loop-place l =
    (test : Offer → Bool) → AreFlags test l.offers l.flags
    → l.all.items ++ merged (filter (λ offer. not (test offer)) (drop l.place l.offers)) l.left
    ≡ merged (filter (λ offer. not (test offer)) l.offers) l.made
