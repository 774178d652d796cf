-- Blocks that are applied ahead, one after the other.
use Rattle.std.proofs.Common.{◌≡◌, ℕ, suc, ◌+◌, ◌<◌, ◌∙◌, List, [], ◌∷◌, ◌++◌, length, get_or, drop, refl, sym}
use Rattle.std.proofs.Common.{ap, subst, arith, drop-cons}
use Rattle.sx_block.specs.declared.header.Block.{Block}
use Rattle.sx_block.specs.Validity.{IsApplicable, ledger_after}
use Rattle.sx_follow.specs.Ahead.{AreAhead, IsAhead}
use Rattle.sx_follow.specs.Chosen.{AreChosen}
use Rattle.sx_follow.specs.declared.ahead.batch.Claim.{Claim}
use Rattle.sx_follow.proofs.Chosen.{chosen_block}
use Rattle.sx_ledger.specs.declared.parts.Parts.{Parts}
use Rattle.sx_state.specs.Encoding.{state_bytes}

-- one more
pub ahead_push : (parts : Parts) (named : List ℕ) (blocks : List Block) (claims : List Claim) (ledger : Parts)
    (digest : List ℕ) (claim : Claim) (after : Parts) → AreAhead parts named blocks claims ledger digest
    → IsAhead ledger digest blocks claim after
    → AreAhead parts named blocks (claims ++ claim ∷ []) after claim.digest
ahead_push parts named blocks [] ledger digest claim after are one = (
  after,
  subst (λ (l : Parts). IsAhead l named blocks claim after) are.0
      (subst (λ (name : List ℕ). IsAhead ledger name blocks claim after) are.1 one),
  (refl, refl),
)
ahead_push parts named blocks (first ∷ claims) ledger digest claim after are one =
    (are.0, are.1, ahead_push are.0 first.digest blocks claims ledger digest claim after are.2 one)

-- ---- applied as they are chosen

-- those that are applied lead to a ledger, and those that are left are chosen from there on
pub record IsUpTo (parts : Parts) (named : List ℕ) (blocks : List Block) (claims : List Claim) (ledger : Parts)
    (digest left : List ℕ) : Type 0 where
  pub ahead : AreAhead parts named blocks claims ledger digest
  pub chosen : AreChosen (ledger.height + 1) digest blocks left

module _ (parts : Parts) (named : List ℕ) (blocks : List Block) (claims : List Claim) (ledger : Parts) (digest : List ℕ)
  where
    -- the block at the next place is applied
    pub applied_next : (places : List ℕ) (index : ℕ) (block : Block) (claim : Claim) (after : Parts)
        → index < length places → IsUpTo parts named blocks claims ledger digest (drop index places)
        → block ≡ get_or blocks (get_or places index 0) block → IsApplicable ledger block
        → after ≡ ledger_after ledger block → claim.state ≡ state_bytes after → claim.digest ≡ block.header.after
        → IsUpTo parts named blocks (claims ++ claim ∷ []) after block.header.after (drop (index + 1) places)
    applied_next places index block claim after within up there applicable is state says =
        let chosen : AreChosen (ledger.height + 1) digest blocks (get_or places index 0 ∷ drop (suc index) places) =
        subst (AreChosen (ledger.height + 1) digest blocks) (drop-cons places index 0 within) up.chosen in
        let same : chosen.0.block ≡ block =
        chosen_block (ledger.height + 1) digest blocks (get_or places index 0) chosen.0 block there in
        let one : IsAhead ledger digest blocks claim after = record {
          place = get_or places index 0;
          chosen = chosen.0;
          applicable = subst (IsApplicable ledger) (sym same) applicable;
          ledger = is ∙ ap (λ (b : Block). ledger_after ledger b) (sym same);
          state = state;
          digest = says ∙ ap (λ (b : Block). b.header.after) (sym same);
        } in
        let height : ledger.height + 1 ≡ after.height = sym (ap (λ (l : Parts). l.height) is) in
        let name : chosen.0.block.header.after ≡ block.header.after = ap (λ (b : Block). b.header.after) same in
        let further : suc index ≡ index + 1 = omega arith in
        record {
          ahead = subst (AreAhead parts named blocks (claims ++ claim ∷ []) after) says
              (ahead_push parts named blocks claims ledger digest claim after up.ahead one);
          chosen =
              subst (λ (k : ℕ). AreChosen (after.height + 1) block.header.after blocks (drop k places)) further
              (subst (λ (n : ℕ). AreChosen (n + 1) block.header.after blocks (drop (suc index) places)) height
              (subst (λ (n : List ℕ). AreChosen (ledger.height + 1 + 1) n blocks (drop (suc index) places)) name
              chosen.1));
        }
