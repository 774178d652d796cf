-- Blocks that are chosen by the digests that they name, applied in turn up to a place.
use Rattle.std.proofs.Common.{◌≡◌, ℕ, zero, suc, ◌+◌, ◌<◌, ◌≤◌, ◌∙◌, List, [], ◌∷◌, length, get_or, take, drop, sym, ap, subst}
use Rattle.std.proofs.Common.{arith, drop-cons}
use Rattle.sx_block.specs.declared.header.Block.{Block}
use Rattle.sx_block.specs.Rule as rule
use Rattle.sx_block.specs.Validity.{IsValid, digest_of_ledger, ledger_after}
use Rattle.sx_block.specs.Chain.{IsNext}
use Rattle.sx_follow.specs.Follower.{IsFollower}
use Rattle.sx_follow.specs.InTurn.{LeadsTo}
use Rattle.sx_follow.proofs.ChosenNext.{chosen_next}
use Rattle.sx_follow.proofs.Followers.{advanced}
use Rattle.sx_ledger.specs.declared.parts.Parts.{Parts}
use Rattle.sx_follow.specs.declared.leaving.Leaving.{Leaving}
use Rattle.sx_follow.specs.Leaves.{Leaves}
use Rattle.sx_follow.specs.Chosen.{AreChosen, IsChosen}
use Rattle.sx_follow.proofs.Chosen.{chosen_block}

-- what is left after so many of the chosen blocks, and those that are left are chosen from there on
pub record IsUpTo (head : Parts) (blocks : List Block) (count : ℕ) (left : Leaving) (rest : List ℕ) : Type 0 where
  pub leads : LeadsTo head blocks count left
  pub chosen : AreChosen (left.ledger.height + 1) left.digest blocks rest

-- a copy of the head, before the first block
pub before_first : (head : Parts) (blocks : List Block) (places digest : List ℕ) (left : Leaving)
    → left.ledger ≡ head → left.digest ≡ digest → digest ≡ digest_of_ledger head
    → AreChosen (head.height + 1) digest blocks places → IsUpTo head blocks 0 left places
before_first head blocks places digest left ledger same is chosen = record {
  leads = record {
    digest = same ∙ is ∙ ap (λ (l : Parts). digest_of_ledger l) (sym ledger);
    follows = λ opening steps follows.
        let count : steps ≡ steps + 0 = omega arith in
        subst
        (λ (l : Parts). IsFollower (record { opening = opening; blocks = blocks; steps = steps + 0; head = l }))
        (sym ledger)
        (subst
        (λ (n : ℕ). IsFollower (record { opening = opening; blocks = blocks; steps = n; head = head }))
        count follows);
  };
  chosen =
      subst (λ (l : Parts). AreChosen (l.height + 1) left.digest blocks places) (sym ledger)
      (subst (λ (n : List ℕ). AreChosen (head.height + 1) n blocks places) (sym same) chosen);
}

-- the block at the next place is applied
module _ (head : Parts) (blocks : List Block) (places : List ℕ) (index : ℕ) (before next : Leaving) (block : Block)
    (within : index < length places) (up : IsUpTo head blocks index before (drop index places))
    (there : block ≡ get_or blocks (get_or places index 0) block) where
  first_left : AreChosen (before.ledger.height + 1) before.digest blocks (get_or places index 0 ∷ drop (suc index) places)
  first_left =
      subst (AreChosen (before.ledger.height + 1) before.digest blocks) (drop-cons places index 0 within) up.chosen

  pub place_within : get_or places index 0 < length blocks
  place_within = first_left.0.within

  named : IsChosen (before.ledger.height + 1) (digest_of_ledger before.ledger) blocks (get_or places index 0)
  named =
      subst (λ (n : List ℕ). IsChosen (before.ledger.height + 1) n blocks (get_or places index 0)) up.leads.digest
      first_left.0

  -- (the same block, whatever digest it is said to name)
  same_block : first_left.0.block ≡ block
  same_block =
      chosen_block (before.ledger.height + 1) before.digest blocks (get_or places index 0) first_left.0 block there

  is_next : IsValid before.ledger block → IsNext before.ledger blocks block
  is_next valid =
      let same : named.block ≡ block =
      chosen_block (before.ledger.height + 1) (digest_of_ledger before.ledger) blocks (get_or places index 0) named block
      there in
      subst (λ (b : Block). IsNext before.ledger blocks b) same
      (chosen_next before.ledger blocks (get_or places index 0) named
      (subst (λ (b : Block). IsValid before.ledger b) (sym same) valid))

  pub one_more : Leaves before.ledger block next → IsUpTo head blocks (index + 1) next (drop (index + 1) places)
  one_more leaves =
      let digest : next.digest ≡ digest_of_ledger next.ledger =
      leaves.digest ∙ ap (λ (l : Parts). digest_of_ledger l) (sym leaves.ledger) in
      let height : before.ledger.height + 1 ≡ next.ledger.height =
      sym (ap (λ (l : Parts). l.height) leaves.ledger) in
      let name : first_left.0.block.header.after ≡ next.digest =
      ap (λ (b : Block). b.header.after) same_block ∙ leaves.valid.rules rule.After ∙ sym leaves.digest in
      let further : suc index ≡ index + 1 = omega arith in
      record {
        leads = record {
          digest = digest;
          follows = λ opening steps follows.
              let count : steps + index + 1 ≡ steps + (index + 1) = omega arith in
              subst
              (λ (l : Parts). IsFollower (record {
                opening = opening;
                blocks = blocks;
                steps = steps + (index + 1);
                head = l;
              }))
              (sym leaves.ledger)
              (subst
              (λ (n : ℕ). IsFollower (record {
                opening = opening;
                blocks = blocks;
                steps = n;
                head = ledger_after before.ledger block;
              }))
              count
              (advanced opening blocks (steps + index) before.ledger block (up.leads.follows opening steps follows)
              (is_next leaves.valid)));
        };
        chosen =
            subst (λ (k : ℕ). AreChosen (next.ledger.height + 1) next.digest blocks (drop k places)) further
            (subst (λ (n : ℕ). AreChosen (n + 1) next.digest blocks (drop (suc index) places)) height
            (subst (λ (n : List ℕ). AreChosen (before.ledger.height + 1 + 1) n blocks (drop (suc index) places)) name
            first_left.1));
      }

-- the first of the chosen ones are chosen
pub chosen_first : (height : ℕ) (name : List ℕ) (blocks : List Block) (places : List ℕ) (count : ℕ)
    → AreChosen height name blocks places → AreChosen height name blocks (take count places)
chosen_first height name blocks places zero are = tt
chosen_first height name blocks [] (suc count) are = tt
chosen_first height name blocks (place ∷ places) (suc count) are =
    (are.0, chosen_first (height + 1) are.0.block.header.after blocks places count are.1)

-- a follower that was led to what is left
pub led : (opening head : Parts) (blocks : List Block) (steps count : ℕ) (left : Leaving)
    → IsFollower (record { opening = opening; blocks = blocks; steps = steps; head = head })
    → LeadsTo head blocks count left → steps + count ≤ 1000000
led opening head blocks steps count left follows leads =
    let on = leads.follows opening steps follows in
    let few = on.few in
    let few_steps = on.few_steps in
    omega arith
