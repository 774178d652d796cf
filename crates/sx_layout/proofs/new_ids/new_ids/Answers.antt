use Rattle.std.proofs.Common.{◌≡◌, ℕ, List, length, sym, ap, ◌∙◌, arith, ◌==◌, subst}
use Rattle.std.specs.List.{dedup}
use Rattle.std.specs.List.Sorted.{IsStrictlyIncreasing}
use Rattle.std.proofs.lemmas.List.Filters.{dedup_is}
use Rattle.std.proofs.lemmas.List.Sorted.{list_any-IsPermutation}
use Rattle.std.proofs.lemmas.Map.Keys.{IsStrictlyIncreasing-dedup}
use Rattle.sx_ledger.specs.Body.{created, created_by}
use Rattle.sx_layout.specs.NewIds.{each_once}
use Rattle.sx_outcome.proofs.Counts.{length-filter_map}
use Rattle.sx_layout.proofs.RisingNumbers.{one_list, rising_from, rising_each_once, has_dedup, has_each_once, has}
use Rattle.sx_layout.proofs.new_ids.new_ids.Goals as goal

pub returns-clause-rise : goal.returns-clause-rise
returns-clause-rise c =
    subst (λ (xs : List ℕ). IsStrictlyIncreasing xs)
    (sym (dedup_is (λ a b. a == b) c.sort_unstable.new.self.items c.dedup.new.self.items c.dedup.ensures.filtered))
    (IsStrictlyIncreasing-dedup c.sort_unstable.new.self.items c.sort_unstable.ensures.sorted)

pub returns-clause-ids : goal.returns-clause-ids
returns-clause-ids c =
    let listed = created c.args.candidates.now in
    let sorted = c.sort_unstable.new.self.items in
    let kept = c.dedup.new.self.items in
    let same : kept ≡ dedup (λ a b. a == b) sorted =
    dedup_is (λ a b. a == b) sorted kept c.dedup.ensures.filtered in
    one_list kept (each_once listed) (rising_from kept (returns-clause-rise c)) (rising_each_once listed)
    (λ z. ap (has z) same ∙ has_dedup z sorted
    ∙ sym (list_any-IsPermutation (λ other. other == z) c.in_ok-ids.ids.items sorted
    c.sort_unstable.ensures.permutation)
    ∙ ap (has z) c.in_ok-ids.ensures ∙ sym (has_each_once z listed))

pub returns-clause-few : goal.returns-clause-few
returns-clause-few c =
    omega (
      arith,
      c.dedup.ensures.bound,
      c.sort_unstable.ensures.len,
      ap length c.in_ok-ids.ensures,
      length-filter_map (λ tx. created_by tx.kind) c.args.candidates.now,
    )
