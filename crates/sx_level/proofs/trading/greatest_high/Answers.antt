use Rattle.std.proofs.Common.{◌≡◌, ◌+◌, ◌*◌, ◌/◌, ◌%◌, ◌<◌, inl, inr, ap, sym, ◌∙◌, arith}
use Rattle.std.proofs.lemmas.Bool.{cases_eq}
use Rattle.std.proofs.lemmas.Nat.{mul-add-lt}
use Rattle.sx_dual.specs.Tables.{high_of}
use Rattle.sx_level.proofs.Filling.{place_of, row_in}
use Rattle.sx_level.proofs.trading.greatest_high.Goals as goal

pub loop-place-preserved : goal.loop-place-preserved
loop-place-preserved c =
    let bounds = c.args.bounds.now in
    let n = bounds.assets in
    let place = c.loop-place.place in
    let inv = c.loop-place.invariant in
    let lt = rw c.assets-assets.ensures.assets at c.loop-place-test.true in
    let some = c.assets-assets.ensures.bounds.assets.some in
    let value = rw (c.asset_of.ensures, c.asset_of-in-loop-place.ensures, c.assets-assets.ensures.assets)
    at c.high-high.ensures.value in
    record {
      most = λ s b b_lt below.
          elim (cases_eq (s * n + b) place) [
            | inl same ↦
                let at = place_of n s b b_lt in
                let row : place / n ≡ s = sym (ap (λ p. p / n) same) ∙ at.0 in
                let column : place % n ≡ b = sym (ap (λ p. p % n) same) ∙ at.1 in
                let here : c.high-high.result ≡ high_of bounds s b = rw (row, column) at value in
                omega (arith, here, c.max-most.ensures)
            | inr other ↦ omega (arith, inv.most s b b_lt (omega arith), c.max-most.ensures)
          ];
      least = λ m all.
          let column : place % n < n = omega arith in
          omega (
            arith,
            value,
            all (place / n) (place % n) (row_in n place lt) column,
            inv.least m all,
            c.max-most.ensures,
          );
    }

pub returns-clause-most : goal.returns-clause-most
returns-clause-most c = λ s b s_lt b_lt.
    let n = c.args.bounds.now.assets in
    let below = mul-add-lt s n b n s_lt b_lt in
    let most = rw c.assets-assets.ensures.assets at c.loop-place-test.false in
    c.loop-place.invariant.most s b b_lt (omega (arith, below, most))
