-- Blocks that are chosen by the digests that they name, where they are valid.
use Rattle.std.proofs.Common.{◌≡◌, ℕ, ◌+◌, List, get_or, sym, subst}
use Rattle.sx_follow.specs.Chosen.{IsChosen}
use Rattle.sx_follow.proofs.Chosen.{chosen_block}
use Rattle.sx_block.specs.declared.header.Block.{Block}
use Rattle.sx_block.specs.Rule as rule
use Rattle.sx_block.specs.Validity.{IsValid, digest_of_ledger}
use Rattle.sx_block.specs.Chain.{IsNext}
use Rattle.sx_follow.specs.declared.leaving.Leaving.{Leaving}
use Rattle.sx_follow.specs.Follower.{NextLeaves}
use Rattle.sx_follow.specs.Leaves.{Leaves}
use Rattle.sx_ledger.specs.declared.parts.Parts.{Parts}

-- a chosen block is next, where it is valid
pub chosen_next : (parts : Parts) (blocks : List Block) (place : ℕ)
    (chosen : IsChosen (parts.height + 1) (digest_of_ledger parts) blocks place) → IsValid parts chosen.block
    → IsNext parts blocks chosen.block
chosen_next parts blocks place chosen valid = record {
  place = place;
  within = chosen.within;
  there = chosen.there;
  valid = valid;
  earlier = λ k d less is. chosen.earlier k d less (is.rules rule.NextHeight) (is.rules rule.Parent);
}

-- what it leaves is what the next block leaves
pub chosen_leaves : (parts : Parts) (blocks : List Block) (place : ℕ) (block : Block) (left : Leaving)
    → IsChosen (parts.height + 1) (digest_of_ledger parts) blocks place → block ≡ get_or blocks place block
    → Leaves parts block left → NextLeaves parts blocks left
chosen_leaves parts blocks place block left chosen there leaves =
    let same = chosen_block (parts.height + 1) (digest_of_ledger parts) blocks place chosen block there in
    record {
      block = block;
      next = subst (λ (b : Block). IsNext parts blocks b) same
          (chosen_next parts blocks place chosen (subst (λ (b : Block). IsValid parts b) (sym same) leaves.valid));
      ledger = leaves.ledger;
      digest = leaves.digest;
    }
