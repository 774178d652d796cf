-- Chains of valid blocks.
use Rattle.std.proofs.Common.{◌≡◌, ℕ, ◌+◌, ◌<◌, ◌≤◌, false, List, [], ◌∷◌, ◌++◌, length, refl, subst, ◌∙◌, arith}
use Rattle.std.specs.Prelude.{nat_le, ◌&&◌, ◌==◌}
use Rattle.sx_block.specs.declared.header.Block.{Block}
use Rattle.sx_block.specs.Rule as rule
use Rattle.sx_block.specs.Validity.{IsValid, ledger_after}
use Rattle.sx_block.specs.Chain.{AreValid, ledger_after_all}
use Rattle.sx_block.specs.EffectLaws.{BlockConserves, BlockKeepsLedger}
use Rattle.sx_ledger.specs.declared.parts.Parts.{Parts}
use Rattle.sx_ledger.specs.Ledger.{assets_of}
use Rattle.sx_meaning.specs.Findings.{MayComeAll}
use Rattle.sx_meaning.specs.Items.{Item, block, candidates, outcomes, proof, script, state}
use Rattle.sx_meaning.specs.Laws.{ChainConserves, ChainKeepsLedger, ReplaysChains}
use Rattle.sx_meaning.specs.Replays.{blocks_of, most_blocks}
use Rattle.sx_meaning.proofs.Blocks.{blocks_along, ledger_along}
use Rattle.sx_record.specs.Tags.{block_tag}
use Rattle.sx_words.specs.declared.command.Command.TheVariants.{Replay}

-- how many blocks had come is at most the number that there may be, and one more is fewer than that
pub room_for_block : (blocks : ℕ) → (nat_le most_blocks blocks && (block_tag == block_tag)) ≡ false
    → blocks < most_blocks
room_for_block blocks e = grind (arith)

-- the items of a replay after these, where its ledger stands so and so many blocks have come
module _ (workers : ℕ) (parts : Parts) where
  valid_along : (before items : List Item) → MayComeAll (Replay workers) (state parts ∷ before) items
      → AreValid (ledger_after_all parts (blocks_of before)) (blocks_of items)
  valid_along before [] each = tt
  valid_along before (state held ∷ items) each =
      subst (λ (l : Parts). AreValid l (blocks_of items)) (ledger_along parts before (state held))
      (valid_along (before ++ state held ∷ []) items each.1)
  valid_along before (candidates txs ∷ items) each =
      subst (λ (l : Parts). AreValid l (blocks_of items)) (ledger_along parts before (candidates txs))
      (valid_along (before ++ candidates txs ∷ []) items each.1)
  valid_along before (block said ∷ items) each = (
    each.0.goes_on,
    subst (λ (l : Parts). AreValid l (blocks_of items)) (ledger_along parts before (block said))
        (valid_along (before ++ block said ∷ []) items each.1),
  )
  valid_along before (outcomes told ∷ items) each =
      subst (λ (l : Parts). AreValid l (blocks_of items)) (ledger_along parts before (outcomes told))
      (valid_along (before ++ outcomes told ∷ []) items each.1)
  valid_along before (script turns ∷ items) each =
      subst (λ (l : Parts). AreValid l (blocks_of items)) (ledger_along parts before (script turns))
      (valid_along (before ++ script turns ∷ []) items each.1)
  valid_along before (proof claim ∷ items) each =
      subst (λ (l : Parts). AreValid l (blocks_of items)) (ledger_along parts before (proof claim))
      (valid_along (before ++ proof claim ∷ []) items each.1)

  few_along : (before items : List Item) → length (blocks_of before) ≤ most_blocks
      → MayComeAll (Replay workers) (state parts ∷ before) items
      → length (blocks_of before) + length (blocks_of items) ≤ most_blocks
  few_along before [] few each = omega arith
  few_along before (state held ∷ items) few each =
      let count = blocks_along before (state held) in
      omega (arith, count, few_along (before ++ state held ∷ []) items (omega (arith, count)) each.1)
  few_along before (candidates txs ∷ items) few each =
      let count = blocks_along before (candidates txs) in
      omega (arith, count, few_along (before ++ candidates txs ∷ []) items (omega (arith, count)) each.1)
  few_along before (block said ∷ items) few each =
      let count = blocks_along before (block said) in
      let here = room_for_block (length (blocks_of before)) each.0.listed.1 in
      omega (arith, count, few_along (before ++ block said ∷ []) items (omega (arith, count, here)) each.1)
  few_along before (outcomes told ∷ items) few each =
      let count = blocks_along before (outcomes told) in
      omega (arith, count, few_along (before ++ outcomes told ∷ []) items (omega (arith, count)) each.1)
  few_along before (script turns ∷ items) few each =
      let count = blocks_along before (script turns) in
      omega (arith, count, few_along (before ++ script turns ∷ []) items (omega (arith, count)) each.1)
  few_along before (proof claim ∷ items) few each =
      let count = blocks_along before (proof claim) in
      omega (arith, count, few_along (before ++ proof claim ∷ []) items (omega (arith, count)) each.1)

pub replays_chains : ReplaysChains
replays_chains workers parts items each = record {
  ledger = each.0.form;
  valid = valid_along workers parts [] items each.1;
  few = omega (arith, few_along workers parts [] items (omega arith) each.1);
}

module _ (keeps : BlockKeepsLedger) where
  pub chain_keeps_ledger : ChainKeepsLedger
  chain_keeps_ledger parts [] is valid = is
  chain_keeps_ledger parts (next ∷ others) is valid =
      chain_keeps_ledger (ledger_after parts next) others (keeps parts next is valid.0) valid.1

  -- a valid block leaves as many assets as there were
  same_assets : (parts : Parts) (next : Block) → IsValid parts next →
      assets_of (ledger_after parts next) ≡ assets_of parts
  same_assets parts next valid = valid.rules rule.Assets

  pub chain_conserves : BlockConserves → ChainConserves
  chain_conserves conserves parts [] asset is valid there = refl
  chain_conserves conserves parts (next ∷ others) asset is valid there =
      let same = same_assets parts next valid.0 in
      chain_conserves conserves (ledger_after parts next) others asset (keeps parts next is valid.0) valid.1
      (omega (arith, same))
      ∙ conserves parts next asset is valid.0 there
