use Rattle.std.proofs.Common.{◌≡◌, ℕ, ◌+◌, ◌<◌, ◌≤◌, get_or, length, refl, sym, ap, ◌∙◌, arith, subst, [], ◌∷◌, ◌++◌}
use Rattle.std.specs.Prelude.{IfSome, slice_set}
use Rattle.sx_filter.specs.Runs.{AreSums}
use Rattle.sx_filter.proofs.DebitSums.{comes_over, more_sums, none_covers, none_sums, stays_covered}
use Rattle.sx_filter.proofs.KeptLaws.{covers_each}
use Rattle.sx_filter.proofs.sift.runs.add.Goals as goal
use Rattle.sx_ledger.specs.Body.{holding_of}
use Rattle.sx_ledger.specs.Effects.{debits}
use Rattle.sx_ledger.specs.Ledger.{assets_of}

pub returns-in_default-clause-sums : goal.returns-in_default-clause-sums
returns-in_default-clause-sums c = λ parts before is.
    none_sums parts before c.args.tx.now c.args.tx.now.account.0 c.args.sums.now c.in_default.ensures.none is

pub returns-in_default-clause-covers : goal.returns-in_default-clause-covers
returns-in_default-clause-covers c = λ parts before held is covered.
    sym (none_covers parts before c.args.tx.now c.args.tx.now.account.0 (assets_of parts) c.in_default.ensures.none
    ∙ covered)

pub returns-then-left-portion-clause-covers : goal.returns-then-left-portion-clause-covers
returns-then-left-portion-clause-covers c = λ parts before held is covered.
    let tx = c.args.tx.now in
    let sums = c.args.sums.now in
    let asset = c.in-Some.portion.asset in
    let units = c.in-Some.portion.units in
    let lt : asset < length sums =
    subst (λ o. IfSome o (λ posting. posting.asset < length sums)) c.in-Some.ensures.some c.requires.asset in
    let at : c.from-asset.result ≡ asset = c.from-asset.ensures ∙ c.get.ensures.value in
    let small : asset < assets_of parts = omega (arith, lt, is.one_each) in
    let sum = ap (λ (k : ℕ). get_or sums k 0) at in
    let held_is = ap (λ (k : ℕ). get_or c.args.balances.now k 0) at in
    let short : holding_of parts.accounts tx.account.0 asset < debits before tx.account.0 asset + units =
    omega (
      arith,
      c.if-left-portion.true,
      c.saturating_sub-left.ensures,
      c.held.ensures,
      sum,
      held_is,
      held asset small,
      is.are asset small,
    ) in
    sym (comes_over parts before tx tx.account.0 asset units c.in-Some.ensures.some small covered short)

pub returns-clause-sums : goal.returns-clause-sums
returns-clause-sums c = λ parts before is.
    let tx = c.args.tx.now in
    let sums = c.args.sums.now in
    let asset = c.in-Some.portion.asset in
    let units = c.in-Some.portion.units in
    let lt : asset < length sums =
    subst (λ o. IfSome o (λ posting. posting.asset < length sums)) c.in-Some.ensures.some c.requires.asset in
    let at : c.from-asset.result ≡ asset = c.from-asset.ensures ∙ c.get.ensures.value in
    subst (λ (k : ℕ). AreSums parts (before ++ tx ∷ []) tx.account.0 (slice_set sums k (get_or sums k 0 + units)))
    (sym at)
    (more_sums parts before tx tx.account.0 asset units c.in-Some.ensures.some sums (get_or sums asset 0 + units) lt
    refl is)

pub returns-clause-covers : goal.returns-clause-covers
returns-clause-covers c = λ parts before held is covered.
    let tx = c.args.tx.now in
    let sums = c.args.sums.now in
    let asset = c.in-Some.portion.asset in
    let units = c.in-Some.portion.units in
    let lt : asset < length sums =
    subst (λ o. IfSome o (λ posting. posting.asset < length sums)) c.in-Some.ensures.some c.requires.asset in
    let at : c.from-asset.result ≡ asset = c.from-asset.ensures ∙ c.get.ensures.value in
    let small : asset < assets_of parts = omega (arith, lt, is.one_each) in
    let sum = ap (λ (k : ℕ). get_or sums k 0) at in
    let held_is = ap (λ (k : ℕ). get_or c.args.balances.now k 0) at in
    let enough : debits before tx.account.0 asset + units ≤ holding_of parts.accounts tx.account.0 asset =
    omega (
      arith,
      c.if-left-portion.false,
      c.saturating_sub-left.ensures,
      c.held.ensures,
      sum,
      held_is,
      held asset small,
      is.are asset small,
      covers_each parts before tx.account.0 (assets_of parts) covered asset small,
    ) in
    sym (stays_covered parts before tx tx.account.0 asset units c.in-Some.ensures.some small covered enough)
