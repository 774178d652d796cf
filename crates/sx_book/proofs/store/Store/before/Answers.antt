use Rattle.std.proofs.Common.{◌≡◌, ◌<◌, ℕ, length, sym, ap, subst, ◌∙◌, arith}
use Rattle.std.specs.BTreeMap.{IsOrdered}
use Rattle.std.specs.BTreeMap.Range.{IsRangeOf}
use Rattle.std.specs.declared.ops.Bound.TheVariants.{Excluded, Unbounded}
use Rattle.std.proofs.lemmas.Grind.{common_steps}
use Rattle.sx_book.specs.Store.{Gap, list_of}
use Rattle.sx_book.proofs.Gaps.{gap_after, gap_empty, gap_other}
use Rattle.sx_book.proofs.Keys.{cmp_same}
use Rattle.sx_book.proofs.store.Store.before.Goals as goal
use Rattle.sx_book.proofs.store.Store.before.Goals.{else-eq-via-then-eq+else-eq-2, else-eq-via-else-eq}
use Rattle.sx_ledger.specs.declared.key.Key.{Key}

within : (n : ℕ) (key : Key) → n ≡ 1024 → key.sell < 32 → key.buy < 32 → list_of key.sell key.buy < n
within n key count sell buy = omega arith

pub returns-in_err-last : goal.returns-in_err-last
returns-in_err-last c =
    let range = subst (λ R. IsRangeOf R Unbounded (Excluded c.args.key.now) c.args.self.now.nodes c.range.result)
    cmp_same
    (c.range.ensures.in_range tt) in
    let ordered = subst (λ R. IsOrdered R c.args.self.now.nodes) cmp_same c.range.ensures.ordered in
    subst (Gap c.args.self.now.lists.lists c.args.key.now) (sym c.from_residual.ensures)
    (gap_empty c.args.self.now c.requires.sound c.args.key.now c.requires.absent ordered c.range.result range
    (within _ c.args.key.now c.requires.sound.count c.requires.sell c.requires.buy) c.requires.buy
    c.in_err-last.ensures.steps.0)

pub returns-then-eq-2 : goal.returns-then-eq-2
returns-then-eq-2 c =
    let range = subst (λ R. IsRangeOf R Unbounded (Excluded c.args.key.now) c.args.self.now.nodes c.range.result)
    cmp_same
    (c.range.ensures.in_range tt) in
    let ordered = subst (λ R. IsOrdered R c.args.self.now.nodes) cmp_same c.range.ensures.ordered in
    gap_after c.args.self.now c.requires.sound c.args.key.now c.requires.absent ordered c.range.result range
    (c.in_ok-last.last.now, c.in_ok-last.node.now) c.next_back.new.self c.in_ok-last.ensures.steps
    (grind (arith, common_steps)) (grind (arith, common_steps))

pub returns-else-eq : goal.returns-else-eq
returns-else-eq c =
    let range = subst (λ R. IsRangeOf R Unbounded (Excluded c.args.key.now) c.args.self.now.nodes c.range.result)
    cmp_same
    (c.range.ensures.in_range tt) in
    let ordered = subst (λ R. IsOrdered R c.args.self.now.nodes) cmp_same c.range.ensures.ordered in
    gap_other c.args.self.now c.requires.sound c.args.key.now c.requires.absent ordered c.range.result range
    (c.in_ok-last.last.now, c.in_ok-last.node.now) c.next_back.new.self c.in_ok-last.ensures.steps
    (within _ c.args.key.now c.requires.sound.count c.requires.sell c.requires.buy) c.requires.buy
    (λ same. elim c.else-eq.branch [
      | else-eq-via-then-eq+else-eq-2 w ↦ grind (arith, common_steps)
      | else-eq-via-else-eq w ↦ grind (arith, common_steps)
    ])
