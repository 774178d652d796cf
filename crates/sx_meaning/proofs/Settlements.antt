-- Each block of a chain settles.
use Rattle.std.proofs.Common.{List, [], ◌∷◌}
use Rattle.sx_block.specs.declared.header.Block.{Block}
use Rattle.sx_block.specs.Rule as rule
use Rattle.sx_block.specs.Validity.{ledger_after}
use Rattle.sx_block.specs.Chain.{AreValid}
use Rattle.sx_block.specs.EffectLaws.{BlockDropsTheImpossible, BlockGetsItsValue, BlockGivesItsValue, BlockHeldFalls}
use Rattle.sx_block.specs.EffectLaws.{BlockKeepsLedger, BlockKeepsRounding, BlockTradesInFull, BlockTradesMost}
use Rattle.sx_block.specs.EffectLaws.{BlockTradesWithinLimits, OneInPart}
use Rattle.sx_ledger.specs.declared.parts.Parts.{Parts}
use Rattle.sx_ledger.specs.Ledger.{IsLedger}
use Rattle.sx_meaning.specs.Replays.{blocks_of}
use Rattle.sx_meaning.specs.Settling.{EachBlock, ReplaysSettle, Settles, ValidSettles}
use Rattle.sx_meaning.proofs.Chains.{replays_chains}

module _ (keeps : BlockKeepsLedger) (within : BlockTradesWithinLimits) (in_full : BlockTradesInFull)
    (impossible : BlockDropsTheImpossible) (most : BlockTradesMost) (gives : BlockGivesItsValue)
    (gets : BlockGetsItsValue) (one : OneInPart) (falls : BlockHeldFalls) (rises : BlockKeepsRounding) where
  pub valid_settles : ValidSettles
  valid_settles parts block is valid = record {
    covered = valid.rules rule.Covered;
    ledger = keeps parts block is valid;
    within_limits = λ offer there trades. within parts block offer is valid there trades;
    in_full = λ none offer there must. in_full parts block offer is valid none there must;
    cut = λ cut dropped. impossible parts block cut valid dropped;
    greatest = most parts block valid;
    gives = λ offer there. gives parts block offer is valid there;
    gets = λ offer there. gets parts block offer is valid there;
    one_in_part = λ a b there here sold bought x y. one parts block a b is valid there here sold bought x y;
    falls = λ asset there. falls parts block asset is valid there;
    rises = λ asset there. rises parts block asset is valid there;
  }

  each_settles : (parts : Parts) (blocks : List Block) → IsLedger parts → AreValid parts blocks →
      EachBlock Settles parts blocks
  each_settles parts [] is valid = tt
  each_settles parts (next ∷ others) is valid = (
    valid_settles parts next is valid.0,
    each_settles (ledger_after parts next) others (keeps parts next is valid.0) valid.1,
  )

  pub replays_settle : ReplaysSettle
  replays_settle workers parts items each =
      let chain = replays_chains workers parts items each in
      each_settles parts (blocks_of items) chain.ledger chain.valid
