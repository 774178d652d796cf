use Rattle.std.proofs.Common.{◌≡◌, ℕ, ◌+◌, ◌<◌, sym, ap, ◌∙◌}
use Rattle.std.specs.Prelude.{slice_index}
use Rattle.std.proofs.lemmas.Result.{IfOk-weaker}
use Rattle.sx_apply.proofs.Trades.{gets_its_value, gives_its_value, in_full, within_limits}
use Rattle.sx_block.specs.Effects.{circulating}
use Rattle.sx_block.specs.Validity.{ledger_after}
use Rattle.sx_ledger.specs.declared.parts.Parts.{Parts}
use Rattle.sx_ledger.specs.Body.{body_after}
use Rattle.sx_ledger.specs.Ledger.{assets_of}
use Rattle.sx_spread.proofs.ApplicableBlocks.{clears, held_falls, middle_is, rounding_rises}
use Rattle.sx_spread.proofs.spreading.apply_spread.Goals as goal

pub returns-clause-within_limits : goal.returns-clause-within_limits
returns-clause-within_limits g c =
    let parts = c.args.ledger in
    let block = c.args.block.now in
    let keeps = c.apply_in_parts.ensures.kept in
    within_limits (body_after parts block.txs) block.header (middle_is parts block keeps c.requires.applicable)
    (clears parts block keeps c.requires.applicable)

pub returns-clause-in_full : goal.returns-clause-in_full
returns-clause-in_full g c =
    let parts = c.args.ledger in
    let block = c.args.block.now in
    let keeps = c.apply_in_parts.ensures.kept in
    in_full (body_after parts block.txs) block.header (middle_is parts block keeps c.requires.applicable)
    (clears parts block keeps c.requires.applicable)

pub returns-clause-gives : goal.returns-clause-gives
returns-clause-gives g c =
    let parts = c.args.ledger in
    let block = c.args.block.now in
    let keeps = c.apply_in_parts.ensures.kept in
    gives_its_value (body_after parts block.txs) block.header (middle_is parts block keeps c.requires.applicable)
    (clears parts block keeps c.requires.applicable)

pub returns-clause-gets : goal.returns-clause-gets
returns-clause-gets g c =
    let parts = c.args.ledger in
    let block = c.args.block.now in
    let keeps = c.apply_in_parts.ensures.kept in
    gets_its_value (body_after parts block.txs) block.header (middle_is parts block keeps c.requires.applicable)
    (clears parts block keeps c.requires.applicable)

pub returns-clause-conserves : goal.returns-clause-conserves
returns-clause-conserves g c =
    let parts = c.args.ledger in
    let block = c.args.block.now in
    IfOk-weaker c.apply_in_parts.result (λ (left : Parts). left ≡ ledger_after parts block)
    (λ (left : Parts). (asset : ℕ) → asset < assets_of parts →
    circulating parts asset ≡ circulating left asset + slice_index block.header.rounding asset)
    (λ left e asset lt. held_falls parts block c.apply_in_parts.ensures.kept c.requires.applicable asset lt
    ∙ ap (λ (p : Parts). circulating p asset + slice_index block.header.rounding asset) (sym e))
    c.apply_in_parts.ensures.after

pub returns-clause-keeps_rounding : goal.returns-clause-keeps_rounding
returns-clause-keeps_rounding g c =
    let parts = c.args.ledger in
    let block = c.args.block.now in
    IfOk-weaker c.apply_in_parts.result (λ (left : Parts). left ≡ ledger_after parts block)
    (λ (left : Parts). (asset : ℕ) → asset < assets_of parts →
    slice_index left.rounding asset ≡ slice_index parts.rounding asset + slice_index block.header.rounding asset)
    (λ left e asset lt. ap (λ (p : Parts). slice_index p.rounding asset) e
    ∙ rounding_rises parts block c.apply_in_parts.ensures.kept c.requires.applicable asset lt)
    c.apply_in_parts.ensures.after
