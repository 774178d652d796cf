-- A block has one first reason at most, and a valid one none.
use Rattle.std.proofs.Common.{ℕ, ◌+◌, ◌<◌, Option, inl, inr, refl, sym, ap, subst, ◌∙◌, arith}
use Rattle.std.proofs.lemmas.Bool.{cases_order}
use Rattle.sx_block.specs.declared.header.Block.{Block}
use Rattle.sx_block.specs.Rule.{rank}
use Rattle.sx_block.specs.Rule as rule
use Rattle.sx_block.specs.Validity.{CutHolds, Holds, high_in, undropped_low_in}
use Rattle.sx_ledger.proofs.FirstRefusals.{none_refused}
use Rattle.sx_block.specs.declared.invalid.Invalid.{Invalid}
use Rattle.sx_block.specs.declared.invalid.Invalid.TheVariants.{Ended, WrongHeight, WrongParent, WrongBody}
use Rattle.sx_block.specs.declared.invalid.Invalid.TheVariants.{WrongAssets, Tx, TwoCancels, TwoNames, Crowded}
use Rattle.sx_block.specs.declared.invalid.Invalid.TheVariants.{Overdrawn, Overspent, Outside, Unbalanced, Slack, NoCut}
use Rattle.sx_block.specs.declared.invalid.Invalid.TheVariants.{Rounding, WrongAfter}
use Rattle.sx_block.specs.RefusalLaws.{OneReason, ValidIsNotRefused, WrongAfterRefuses, WrongParentRefuses}
use Rattle.sx_block.specs.Refusals.{Breaks, IsCrowded, Refuses, rule_of}
use Rattle.sx_ledger.proofs.RepeatLaws.{cancels_refuted, creates_refuted}
use Rattle.sx_block.proofs.SameReason.{same_rule}
use Rattle.sx_dual.specs.declared.cut.Cut.{Cut}
use Rattle.sx_block.proofs.Rules.{up_to_parent}
use Rattle.sx_ledger.specs.declared.parts.Parts.{Parts}
use Rattle.sx_ledger.specs.Ledger.{assets_of}

crowded_refutes : (parts : Parts) (block : Block) (have more limit : ℕ) → IsCrowded parts block.txs have more limit
    → Holds rule.Room parts block → ⊥
crowded_refutes parts block have more limit crowded room =
    elim crowded [
      | inl above ↦ omega (arith, above.is_there, above.is_coming, above.is_most, above.above, room.0)
      | inr both ↦ omega (arith, both.1.is_there, both.1.is_coming, both.1.is_most, both.1.above, room.1)
    ]

-- a rule that is broken does not hold
broken : (parts : Parts) (block : Block) (why : Invalid) → Breaks parts block why → Holds (rule_of why) parts block → ⊥
broken parts block Ended r k = omega (arith, r, k)
broken parts block (WrongHeight have said) r k = r.2 (r.1 ∙ k ∙ ap (λ (h : ℕ). h + 1) (sym r.0))
broken parts block (WrongParent said real) r k = r.2 (r.0 ∙ k ∙ sym r.1)
broken parts block (WrongBody said real) r k = r.2 (r.0 ∙ k ∙ sym r.1)
broken parts block (WrongAssets have said) r k = r.2 (r.1 ∙ k ∙ sym r.0)
broken parts block (Tx index why) r k = none_refused parts block.txs index why k r
broken parts block (TwoCancels index) r k = cancels_refuted block.txs index k r.repeats
broken parts block (TwoNames index) r k = creates_refuted block.txs index k r.repeats
broken parts block (Crowded have more limit) r k = crowded_refutes parts block have more limit r k
broken parts block (Overdrawn account asset opening debits) r k =
    omega (arith, r.1.taken, r.1.over, k account.0 asset)
broken parts block (Overspent account asset opening credits debits) r k =
    omega (arith, r.1.taken, r.1.over, k account.0 asset)
broken parts block (Outside sell buy low high y) r k =
    let first = r.0 in first.fails (k sell buy first.sell_below first.buy_below first.different)
broken parts block (Unbalanced asset out into) r k = let first = r.1 in first.fails (k asset first.below)
broken parts block (Slack sell buy gain y) r k =
    let first = r.1 in first.fails (k sell buy first.sell_below first.buy_below first.different)
broken parts block (NoCut cut) r k =
    r.1 (subst (λ (dropped : Option Cut). CutHolds (assets_of parts) (undropped_low_in parts block)
    (high_in parts block) dropped) r.0 k)
broken parts block (Rounding asset said real) r k =
    let right = k asset r.there in r.differ (r.is_said ∙ omega (arith, right, r.is_real))
broken parts block (WrongAfter said real) r k = r.2 (r.0 ∙ k ∙ sym r.1)

-- ---- two reasons

apart : (parts : Parts) (block : Block) (one other : Invalid) → Refuses parts block one → Refuses parts block other
    → rank (rule_of one) < rank (rule_of other) → ⊥
apart parts block one other r s lt = broken parts block one r.breaks (s.before (rule_of one) lt)

pub valid_is_not_refused : ValidIsNotRefused
valid_is_not_refused parts block why valid r = broken parts block why r.breaks (valid.rules (rule_of why))

pub one_reason : OneReason
one_reason parts block one other r s =
    elim (cases_order (rank (rule_of one)) (rank (rule_of other))) [
      | inl same ↦ same_rule parts block one other r.breaks s.breaks same
      | inr (inl lt) ↦ absurd (apart parts block one other r s lt)
      | inr (inr gt) ↦ absurd (apart parts block other one s r gt)
    ]

-- ---- the reasons on the two digests of ledgers

pub wrong_after_refuses : WrongAfterRefuses
wrong_after_refuses parts block after why sound is wrong =
    subst (Refuses parts block) (sym wrong.is)
    (record { before = sound.rules; breaks = (refl, is, wrong.differ) })

pub wrong_parent_refuses : WrongParentRefuses
wrong_parent_refuses parts block parent why applicable is wrong =
    subst (Refuses parts block) (sym wrong.is)
    (record {
      before = up_to_parent parts block rule.After (omega arith) applicable.rules;
      breaks = (refl, is, wrong.differ);
    })
