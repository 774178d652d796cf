-- The effects of a block on a ledger.
use Rattle.std.specs.Prelude.{◌≡◌, List}
use Rattle.sx_apply.specs.declared.effects.Effects.{Effects}
use Rattle.sx_block.specs.declared.header.Block.{Block}
use Rattle.sx_block.specs.Validity.{flow_of_block, offers_of}
use Rattle.sx_tally.specs.declared.after.offers.OfferChange.{OfferChange}
use Rattle.sx_tally.specs.declared.tally.Tally.{Tally}
use Rattle.sx_tally.specs.OfferChanges.{changed_by}
use Rattle.sx_tally.specs.Tally.{IsTally}
use Rattle.sx_fill.specs.AllFills.{all_fills}
use Rattle.sx_ledger.specs.declared.parts.Parts.{Parts}
use Rattle.sx_ledger.specs.Body.{IsAdmissibleIn, offers_after}
use Rattle.sx_tx.specs.declared.tx.Tx.{Tx}

-- this is what each body that has this tally changes the offers to
abbrev pub IsChangeTo : Parts → Tally → OfferChange → Type 0
IsChangeTo parts tally change =
    (txs : List Tx) → IsAdmissibleIn 2 parts txs → IsTally parts txs tally
    → changed_by change parts.offers ≡ offers_after parts txs

-- what the block's transactions do, what they change the offers to, and the fills of the offers after them at the
-- block's prices and for its flow
pub record AreEffects (parts : Parts) (block : Block) (effects : Effects) : Type 0 where
  pub tally : IsTally parts block.txs effects.tally
  pub offers : IsChangeTo parts effects.tally effects.offers
  pub fills : effects.fills ≡ all_fills block.header.prices (flow_of_block block) (offers_of parts block)
