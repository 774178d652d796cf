use Rattle.std.proofs.Common.{◌≡◌, ◌<◌, inl, inr, length, subst, ◌∙◌, ℕ, Some, arith}
use Rattle.std.specs.Prelude.{slice_get}
use Rattle.std.proofs.lemmas.Bool.{cases_lt}
use Rattle.std.proofs.lemmas.Grind.{get_or-set_at}
use Rattle.std.proofs.lemmas.List.{get_or-set_other, length-set}
use Rattle.sx_filter.specs.Alone.{is_covered}
use Rattle.sx_filter.specs.Verdicts.{IsVerdict}
use Rattle.sx_filter.proofs.sift.runs.judge_run.Goals as goal

pub loop-place-preserved : goal.loop-place-preserved
loop-place-preserved c =
    let txs = c.args.txs.now in
    let place = c.loop-place.place in
    let old = c.loop-place.verdicts in
    let is = c.fits.result in
    let inv = c.loop-place.invariant in
    let inside : place < length old = omega (arith, c.loop-place-test.true, inv.one_each, c.requires.within) in
    record {
      one_each = length-set old place is ∙ inv.one_each;
      others = λ k d lt.
          get_or-set_other old place k is d (λ e. absurd (omega (arith, e, lt, c.loop-place.auto)))
          ∙ inv.others k d lt;
      told = λ parts k d le lt covered x at.
          elim (cases_lt k place) [
            | inl less ↦
                get_or-set_other old place k is d (λ e. absurd (omega (arith, e, less)))
                ∙ inv.told parts k d le less covered x at
            | inr most ↦
                let same : k ≡ place = omega (arith, lt, most) in
                get_or-set_at old place k is d same inside
                ∙ c.fits.ensures parts
                (subst (λ (j : ℕ). IsVerdict (is_covered parts txs) txs j c.args.covered) same covered) x
                (subst (λ (j : ℕ). slice_get txs j ≡ Some x) same at)
          ];
    }
