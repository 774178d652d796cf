use Rattle.std.proofs.Common.{◌≡◌, ◌+◌, ◌<◌, ◌≤◌, Some, false, true, length, refl, sym, ap, subst, ◌∙◌, arith, rules}
use Rattle.std.specs.Prelude.{slice_get}
use Rattle.std.specs.List.Sorted.{IsPartitionPoint, IsSorted}
use Rattle.std.specs.Ordering.{is_eq, is_lt}
use Rattle.std.proofs.lemmas.List.Sorted.{IsPartitionPoint-from_clause}
use Rattle.std.proofs.lemmas.Option.{slice_get_read}
use Rattle.sx_filter.proofs.Ranks.{after, at_end, moved_twice, parted}
use Rattle.sx_filter.proofs.sift.seen.Seen.is_again.Goals as goal

pub returns-then-first-saturating_sub : goal.returns-then-first-saturating_sub
returns-then-first-saturating_sub g c = λ keys is.
    let cmp = g.K.Ord.cmp in
    let total = g.met.K.Ord.total in
    let key = c.args.key in
    let sorted = c.args.self.now.keys.items in
    let list = c.deref.result.now in
    let same : list ≡ sorted = c.deref.ensures.value in
    let first = c.partition_point-first.result in
    let point = subst (λ xs. IsPartitionPoint (λ k. is_lt (cmp k key) ≡ true) (λ k. is_lt (cmp k key) ≡ false) xs first)
    same
    (IsPartitionPoint-from_clause (λ k. is_lt (cmp k key)) list first c.partition_point-first.ensures.partitioned
    (parted cmp total key list (subst (IsSorted cmp) (sym same) is.sorted)) (λ a r q k. search rules)) in
    let end : length sorted ≤ first + 1 =
    omega (
      arith,
      c.if-first-saturating_sub.true,
      c.saturating_sub.ensures,
      c.len.ensures,
      c.deref.ensures.len,
      ap length same,
    ) in
    sym (at_end cmp total key sorted is.sorted first point end)
    ∙ moved_twice cmp total key sorted is.sorted keys is.moves

pub returns : goal.returns
returns g c = λ keys is.
    let cmp = g.K.Ord.cmp in
    let total = g.met.K.Ord.total in
    let key = c.args.key in
    let sorted = c.args.self.now.keys.items in
    let list = c.deref.result.now in
    let same : list ≡ sorted = c.deref.ensures.value in
    let first = c.partition_point-first.result in
    let point = subst (λ xs. IsPartitionPoint (λ k. is_lt (cmp k key) ≡ true) (λ k. is_lt (cmp k key) ≡ false) xs first)
    same
    (IsPartitionPoint-from_clause (λ k. is_lt (cmp k key)) list first c.partition_point-first.ensures.partitioned
    (parted cmp total key list (subst (IsSorted cmp) (sym same) is.sorted)) (λ a r q k. search rules)) in
    let inside : first + 1 < length sorted =
    omega (
      arith,
      c.if-first-saturating_sub.false,
      c.saturating_sub.ensures,
      c.len.ensures,
      c.deref.ensures.len,
      ap length same,
    ) in
    let next = c.index.result.now in
    let stands : slice_get sorted (first + 1) ≡ Some next =
    slice_get_read sorted (length sorted) (first + 1) next refl inside c.index.ensures in
    c.is_eq.ensures ∙ ap is_eq c.cmp.ensures
    ∙ sym (after cmp total key sorted is.sorted first point next stands)
    ∙ moved_twice cmp total key sorted is.sorted keys is.moves
