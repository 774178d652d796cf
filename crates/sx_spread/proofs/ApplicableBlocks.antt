-- What follows of a block that can be applied.
use Rattle.std.proofs.Common.{◌≡◌, ℕ, ◌+◌, ◌<◌, ◌∙◌, arith}
use Rattle.std.specs.Prelude.{slice_index}
use Rattle.sx_apply.specs.Trading.{Clears}
use Rattle.sx_block.specs.declared.header.Block.{Block}
use Rattle.sx_block.specs.Effects.{circulating}
use Rattle.sx_block.specs.Rule as rule
use Rattle.sx_block.specs.Validity.{IsApplicable, flow_of_block, ledger_after}
use Rattle.sx_block.proofs.Rules.{applicable_fits, applicable_is_body, applicable_is_tradable}
use Rattle.sx_block.proofs.TradeTotals.{trade_conserves, trade_keeps_rounding}
use Rattle.sx_ledger.specs.declared.parts.Parts.{Parts}
use Rattle.sx_ledger.specs.Body.{IsAdmissibleIn, body_after}
use Rattle.sx_ledger.specs.Ledger.{IsLedger, assets_of, total_of}
use Rattle.sx_ledger.proofs.BodyConserves.{body_conserves}
use Rattle.sx_ledger.proofs.BodyKeepsLedger.{body_keeps_ledger}

module _ (parts : Parts) (block : Block) (keeps : IsLedger parts) (applicable : IsApplicable parts block) where
  abbrev middle : Parts
  middle = body_after parts block.txs

  admissible : IsAdmissibleIn 2 parts block.txs
  admissible = applicable_is_body parts block applicable

  pub middle_is : IsLedger middle
  middle_is = body_keeps_ledger 2 parts block.txs keeps applicable.form.each admissible

  pub clears : Clears middle block.header
  clears = record {
    prices = applicable.form.header.prices;
    same_assets = applicable.rules rule.Assets (omega arith) (λ e. absurd cc);
    flow_assets = applicable.form.header.same_assets ∙ applicable.rules rule.Assets (omega arith) (λ e. absurd cc);
    fits = applicable_fits parts block applicable;
    rounded = (applicable_is_tradable parts block applicable).1;
  }

  conserved : (asset : ℕ) → asset < assets_of parts → total_of (ledger_after parts block) asset ≡ total_of parts asset
  conserved asset lt =
      trade_conserves middle block.header.prices (flow_of_block block) block.header.rounding asset middle_is
      (applicable_is_tradable parts block applicable).0 (applicable_is_tradable parts block applicable).1 lt
      ∙ body_conserves 2 parts block.txs asset keeps admissible lt

  pub rounding_rises : (asset : ℕ) → asset < assets_of parts
      → slice_index (ledger_after parts block).rounding asset
      ≡ slice_index parts.rounding asset + slice_index block.header.rounding asset
  rounding_rises asset lt =
      trade_keeps_rounding middle block.header.prices (flow_of_block block) block.header.rounding asset middle_is
      (applicable_is_tradable parts block applicable).1 lt

  pub held_falls : (asset : ℕ) → asset < assets_of parts
      → circulating parts asset
      ≡ circulating (ledger_after parts block) asset + slice_index block.header.rounding asset
  held_falls asset lt = omega (arith, conserved asset lt, rounding_rises asset lt)
