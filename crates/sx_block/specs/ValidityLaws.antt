-- Laws of the rules of a valid block, for all ledgers and blocks.
use Rattle.sx_block.specs.declared.header.Block.{Block}
use Rattle.sx_block.specs.Block.{IsBlock, most_version}
use Rattle.sx_block.specs.Effects.{IsRounded, IsTradable}
use Rattle.sx_block.specs.Rule as rule
use Rattle.sx_block.specs.Validity.{Holds, HoldsBefore, IsApplicable, IsSound, IsValid, flow_of_block, high_in, low_in}
use Rattle.sx_dual.specs.Fit.{Fits}
use Rattle.sx_dual.specs.Tables.{potential_of}
use Rattle.sx_ledger.specs.declared.parts.Parts.{Parts}
use Rattle.sx_ledger.specs.Body.{IsAdmissibleIn, body_after}
use Rattle.sx_ledger.specs.Ledger.{assets_of}

-- the flow and the potentials fit the bounds of the offers after the transactions
abbrev pub BlockFits : Parts → Block → Type 0
BlockFits parts block =
    Fits (assets_of parts) (low_in parts block) (high_in parts block) (flow_of_block block)
    (potential_of block.header.potentials)

-- ---- from the rules

-- the transactions of a sound block are a body by the rule of its version
abbrev pub SoundIsAdmissible : Type 0
SoundIsAdmissible =
    (parts : Parts) (block : Block) → IsSound parts block → IsAdmissibleIn block.header.version parts block.txs

-- and so by the rule of version 2, whatever its version
abbrev pub SoundIsBody : Type 0
SoundIsBody = (parts : Parts) (block : Block) → IsSound parts block → IsAdmissibleIn most_version parts block.txs

-- its flow and its potentials fit
abbrev pub SoundFits : Type 0
SoundFits = (parts : Parts) (block : Block) → IsSound parts block → BlockFits parts block

-- what it trades can be traded after its transactions, and what it says of rounding is so
abbrev pub SoundIsTradable : Type 0
SoundIsTradable =
    (parts : Parts) (block : Block) → IsSound parts block →
    IsTradable (body_after parts block.txs) block.header.prices (flow_of_block block)
    × IsRounded (body_after parts block.txs) block.header.prices (flow_of_block block) block.header.rounding

-- ---- to the rules

-- a block is sound where its header is for the ledger, its transactions are a body, its flow and its potentials fit,
-- its cut is one, and its rounding is right
abbrev pub FittingIsSound : Type 0
FittingIsSound =
    (parts : Parts) (block : Block) → IsBlock block → HoldsBefore rule.Passes parts block →
    IsAdmissibleIn block.header.version parts block.txs → BlockFits parts block →
    Holds rule.Cut parts block → Holds rule.Rounded parts block → IsSound parts block

-- a sound block is valid where it names the ledger that it leaves
abbrev pub SoundIsValid : Type 0
SoundIsValid = (parts : Parts) (block : Block) → IsSound parts block → Holds rule.After parts block
    → IsValid parts block

-- and a valid block is sound
abbrev pub ValidIsSound : Type 0
ValidIsSound = (parts : Parts) (block : Block) → IsValid parts block → IsSound parts block

-- ---- the digest of the ledger before

-- a sound block can be applied
abbrev pub SoundIsApplicable : Type 0
SoundIsApplicable = (parts : Parts) (block : Block) → IsSound parts block → IsApplicable parts block

-- and a block that can be applied is sound where it names the ledger
abbrev pub ApplicableIsSound : Type 0
ApplicableIsSound =
    (parts : Parts) (block : Block) → IsApplicable parts block → Holds rule.Parent parts block → IsSound parts block
