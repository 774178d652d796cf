use Rattle.std.proofs.Common.{◌≡◌, length, sym, ◌∙◌, arith}
use Rattle.std.proofs.lemmas.List.{nil_from_length}
use Rattle.std.proofs.lemmas.List.Sorted.{length_permutation}
use Rattle.sx_filter.proofs.sift.seen.Seen.is_empty.Goals as goal

pub returns : goal.returns
returns g c = λ keys is empty.
    let sorted = c.args.self.now.keys in
    let none : length sorted.items ≡ 0 = grind (arith, sym c.is_empty.ensures ∙ empty, sorted.ok) in
    nil_from_length keys (omega (arith, none, length_permutation keys sorted.items is.moves))
