use Rattle.std.proofs.Common.{◌≡◌, ℕ, ◌≤◌, inl, inr, sym, subst, arith}
use Rattle.std.specs.Prelude.{slice_index}
use Rattle.std.proofs.lemmas.Bool.{cases_lt, ltb-false}
use Rattle.sx_tally.specs.Overdraft.{may_spend}
use Rattle.sx_tally.specs.Postings.{credit_at, debit_at}
use Rattle.sx_tally.proofs.overdraft.overdrawn_asset.Goals as goal

pub loop-asset-preserved : goal.loop-asset-preserved
loop-asset-preserved c = λ asset lt. elim (cases_lt asset c.loop-asset.asset) [
  | inl before ↦ c.loop-asset.invariant asset before
  | inr here ↦
      let same : c.loop-asset.asset ≡ asset = omega arith in
      let v = c.args.version in
      let b = c.args.balances.now in
      let t = c.args.postings.now in
      let p = c.args.place in
      let i = c.loop-asset.asset in
      let covered : debit_at t p i ≤ may_spend v (slice_index b i) (credit_at t p i) =
      rw (← c.debited-debits.ensures, ← c.credited-credits.ensures) (ltb-false _ _ (sym c.if-is_over.ensures)) in
      subst (λ (j : ℕ). debit_at t p j ≤ may_spend v (slice_index b j) (credit_at t p j)) same covered
]
