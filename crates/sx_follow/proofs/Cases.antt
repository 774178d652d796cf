-- The definitions of chains and followers, at lists of few blocks.
use Rattle.std.proofs.Common.{◌≡◌, ◌≢◌, ℕ, zero, suc, ◌+◌, List, [], ◌∷◌, refl, sym, ap, ◌∙◌, arith}
use Rattle.sx_block.specs.declared.header.Block.{Block}
use Rattle.sx_block.specs.Validity.{IsValid, ledger_after}
use Rattle.sx_block.specs.Chain.{AreValid, IsNext, ledger_after_all}
use Rattle.sx_follow.specs.Follower.{Advances, Followed}
use Rattle.sx_block.specs.ChainLaws.{IsPart, OneOfEachParent}
use Rattle.sx_block.proofs.Chains.{one_next}
use Rattle.sx_ledger.specs.declared.parts.Parts.{Parts}

-- ---- blocks that are valid in turn

module _ (parts : Parts) (one other : Block) where
  after_two : ledger_after_all parts (one ∷ other ∷ []) ≡ ledger_after (ledger_after parts one) other
  after_two = refl

  none_are_valid : AreValid parts []
  none_are_valid = tt

  two_are_valid : IsValid parts one → IsValid (ledger_after parts one) other → AreValid parts (one ∷ other ∷ [])
  two_are_valid first second = (first, (second, tt))

-- ---- lists with the same blocks

module _ (one other : Block) where
  -- another order, and a repeat
  in_any_order : IsPart (one ∷ other ∷ []) (other ∷ one ∷ other ∷ [])
  in_any_order block (zero, lt, is) = (1, omega arith, is)
  in_any_order block (suc zero, lt, is) = (0, omega arith, is)
  in_any_order block (suc (suc k), lt, is) = absurd (omega (arith, lt))

  -- blocks of different parents
  of_each_parent : one.header.parent ≢ other.header.parent → OneOfEachParent (one ∷ other ∷ [])
  of_each_parent differ a b (zero, la, ia) (zero, lb, ib) same = sym ia ∙ ib
  of_each_parent differ a b (zero, la, ia) (suc zero, lb, ib) same =
      absurd (differ (ap (λ (x : Block). x.header.parent) ia ∙ same
      ∙ sym (ap (λ (x : Block). x.header.parent) ib)))
  of_each_parent differ a b (suc zero, la, ia) (zero, lb, ib) same =
      absurd (differ (ap (λ (x : Block). x.header.parent) ib ∙ sym same
      ∙ sym (ap (λ (x : Block). x.header.parent) ia)))
  of_each_parent differ a b (suc zero, la, ia) (suc zero, lb, ib) same = sym ia ∙ ib
  of_each_parent differ a b (suc (suc k), la, ia) there same = absurd (omega (arith, la))
  of_each_parent differ a b (zero, la, ia) (suc (suc k), lb, ib) same = absurd (omega (arith, lb))
  of_each_parent differ a b (suc zero, la, ia) (suc (suc k), lb, ib) same = absurd (omega (arith, lb))

-- ---- one step

-- the block that was applied is the next one
next_was_applied : (old new : Followed) → Advances old new → (block : Block) → IsNext old.head old.blocks block
    → new ≡ record old { steps = old.steps + 1; head = ledger_after old.head block }
next_was_applied old new on block next =
    on.becomes
    ∙ ap (λ (b : Block). record old { steps = old.steps + 1; head = ledger_after old.head b })
    (one_next old.head old.blocks on.block block on.next next)
