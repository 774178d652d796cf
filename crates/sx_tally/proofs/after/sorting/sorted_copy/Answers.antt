use Rattle.std.proofs.Common.{rules}
use Rattle.std.proofs.lemmas.List.Sorted.{All-permutation, answers_always}
use Rattle.sx_tally.specs.SortNumbers.{IsInRange, sort_numbers}
use Rattle.sx_tally.proofs.SortNumbers.{sorted_by_key}
use Rattle.sx_tally.proofs.after.sorting.sorted_copy.Goals as goal

pub returns-clause-sorted : goal.returns-clause-sorted
returns-clause-sorted c =
    sorted_by_key c.sort_unstable_by_key.new.self.items
    (All-permutation IsInRange _ _ c.sort_unstable_by_key.ensures.permutation (search rules))
    (c.sort_unstable_by_key.ensures.sorted sort_numbers (answers_always _ _ _ (λ f a r g called. search rules)))
