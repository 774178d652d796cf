-- What a follower keeps: as it starts, with one more block, and after one more step.
use Rattle.std.proofs.Common.{◌≡◌, ℕ, suc, ◌+◌, ◌<◌, ◌≤◌, List, [], ◌∷◌, ◌++◌, length, take, refl, sym, ap, subst}
use Rattle.std.proofs.Common.{◌∙◌, arith, length-append}
use Rattle.std.specs.List.{All}
use Rattle.std.proofs.lemmas.List.{append-nil, take-append-le}
use Rattle.std.proofs.lemmas.List.Elements.{All-append, All-cons, All-nil}
use Rattle.sx_block.specs.declared.header.Block.{Block}
use Rattle.sx_block.specs.Block.{IsBlock}
use Rattle.sx_block.specs.Validity.{IsValid, digest_of_ledger, ledger_after}
use Rattle.sx_block.specs.RefusalLaws.{EveryBlockIsJudged, ValidIsNotRefused}
use Rattle.sx_block.specs.Chain.{IsChain, IsNext, NoneIsValid, ledger_after_all}
use Rattle.sx_block.specs.EffectLaws.{BlockKeepsLedger}
use Rattle.sx_follow.specs.declared.leaving.Leaving.{Leaving}
use Rattle.sx_follow.specs.Follower.{Followed, HasWholeChain, IsFollower, NextLeaves, most_blocks}
use Rattle.sx_block.specs.ChainLaws.{IsPrefix, OneOfEachParent}
use Rattle.sx_follow.specs.FollowerLaws.{FollowersAgree, FollowersReplay}
use Rattle.sx_block.proofs.Chains.{chain_grows, one_chain, part_goes_as_far}
use Rattle.sx_block.proofs.Existence.{every_list_has_chain, valid_are_chain}
use Rattle.sx_follow.proofs.Steps.{at_end, chain_few, steps_on}
use Rattle.sx_ledger.specs.declared.parts.Parts.{Parts}
use Rattle.sx_ledger.specs.Ledger.{IsLedger}

-- ---- what it keeps

-- with no block
pub started : (ledger : Parts) → IsLedger ledger
    → IsFollower (record { opening = ledger; blocks = []; steps = 0; head = ledger })
started ledger is = record {
  ledger = is;
  form = All-nil IsBlock;
  few = omega arith;
  chain = [];
  is_chain = All-nil (λ block. ¬ IsValid ledger block);
  within = omega arith;
  few_steps = omega arith;
  is_head = refl;
}

module _ (judged : EveryBlockIsJudged) (not_both : ValidIsNotRefused) (keeps : BlockKeepsLedger) where
  -- with one more block
  pub offered : (opening : Parts) (blocks : List Block) (steps : ℕ) (head : Parts) (block : Block)
      → IsFollower (record { opening = opening; blocks = blocks; steps = steps; head = head })
      → length blocks < most_blocks → IsBlock block
      → IsFollower (record { opening = opening; blocks = blocks ++ block ∷ []; steps = steps; head = head })
  offered opening blocks steps head block is few form =
      let all : All IsBlock (blocks ++ block ∷ []) =
      All-append IsBlock blocks (block ∷ []) is.form (All-cons IsBlock block [] form (All-nil IsBlock)) in
      let more = every_list_has_chain judged not_both keeps opening (blocks ++ block ∷ []) is.ledger all in
      let grows : IsPrefix is.chain more.chain =
      chain_grows opening blocks (block ∷ []) is.chain more.chain is.is_chain more.is in
      let longer : length is.chain + length grows.0 ≡ length more.chain =
      sym (length-append is.chain grows.0) ∙ ap (λ (xs : List Block). length xs) grows.1 in
      let within = is.within in
      let count = length-append blocks (block ∷ []) in
      let few_steps = is.few_steps in
      record {
        ledger = is.ledger;
        form = all;
        few = omega (arith, count);
        chain = more.chain;
        is_chain = more.is;
        within = omega arith;
        few_steps = omega (arith, count);
        is_head = is.is_head
            ∙ ap (λ (xs : List Block). ledger_after_all opening xs)
            (sym (take-append-le steps is.chain grows.0 within)
            ∙ ap (λ (xs : List Block). take steps xs) grows.1);
      }

-- after one more step
module _ (opening : Parts) (blocks : List Block) (steps : ℕ) (head : Parts) (block : Block) where
  pub advanced : IsFollower (record { opening = opening; blocks = blocks; steps = steps; head = head })
      → IsNext head blocks block
      → IsFollower (record { opening = opening; blocks = blocks; steps = steps + 1; head = ledger_after head block })
  advanced is next =
      let on = steps_on blocks opening is.chain steps block is.is_chain is.within
      (subst (λ (parts : Parts). IsNext parts blocks block) is.is_head next) in
      let within = on.within in
      let few = chain_few opening blocks is.chain is.is_chain in
      let one_more : suc steps ≡ steps + 1 = omega arith in
      record {
        ledger = is.ledger;
        form = is.form;
        few = is.few;
        chain = is.chain;
        is_chain = is.is_chain;
        within = omega arith;
        few_steps = omega arith;
        is_head = ap (λ (parts : Parts). ledger_after parts block) is.is_head ∙ sym on.head
            ∙ ap (λ (n : ℕ). ledger_after_all opening (take n is.chain)) one_more;
      }

module _ (opening : Parts) (blocks : List Block) (steps : ℕ) (head : Parts) (left : Leaving) where
  -- after what the next block leaves became the head
  pub goes_on : IsFollower (record { opening = opening; blocks = blocks; steps = steps; head = head })
      → NextLeaves head blocks left
      → (left.digest ≡ digest_of_ledger left.ledger)
      × IsFollower (record { opening = opening; blocks = blocks; steps = steps + 1; head = left.ledger })
  goes_on is leaves = (
    leaves.digest ∙ ap (λ (l : Parts). digest_of_ledger l) (sym leaves.ledger),
    subst
        (λ (l : Parts). IsFollower (record { opening = opening; blocks = blocks; steps = steps + 1; head = l }))
        (sym leaves.ledger)
        (advanced opening blocks steps head leaves.block is leaves.next),
  )

-- ---- its end

-- a follower that cannot advance has the ledger after its chain
ended : (seen : Followed) (is : IsFollower seen) → NoneIsValid seen.head seen.blocks
    → seen.head ≡ ledger_after_all seen.opening is.chain
ended seen is none =
    is.is_head
    ∙ ap (λ (xs : List Block). ledger_after_all seen.opening xs)
    (at_end seen.blocks seen.opening is.chain seen.steps is.is_chain is.within
    (subst (λ (parts : Parts). NoneIsValid parts seen.blocks) is.is_head none))

pub whole_chain : (seen : Followed) → IsFollower seen → NoneIsValid seen.head seen.blocks → HasWholeChain seen
whole_chain seen is none = record { chain = is.chain; is = is.is_chain; is_head = ended seen is none }

-- two lists that begin with each other are the same
nothing_behind : (one rest : List Block) → length rest ≤ 0 → one ++ rest ≡ one
nothing_behind one [] le = append-nil one
nothing_behind one (block ∷ rest) le = absurd (omega arith)

same_lists : (one other : List Block) → IsPrefix one other → IsPrefix other one → one ≡ other
same_lists one other there back =
    let longer : length one + length there.0 ≡ length other =
    sym (length-append one there.0) ∙ ap (λ (xs : List Block). length xs) there.1 in
    let shorter : length other + length back.0 ≡ length one =
    sym (length-append other back.0) ∙ ap (λ (xs : List Block). length xs) back.1 in
    sym (nothing_behind one there.0 (omega arith)) ∙ there.1

pub followers_agree : FollowersAgree
followers_agree one other is is' same part back once none none' =
    let is_other : IsChain one.opening other.blocks is'.chain =
    subst (λ (parts : Parts). IsChain parts other.blocks is'.chain) (sym same) is'.is_chain in
    let once' : OneOfEachParent other.blocks =
    λ a b in_a in_b parents. once a b (back a in_a) (back b in_b) parents in
    let chains : is.chain ≡ is'.chain =
    same_lists is.chain is'.chain
    (part_goes_as_far one.opening one.blocks other.blocks is.chain is'.chain once' part is.is_chain is_other)
    (part_goes_as_far one.opening other.blocks one.blocks is'.chain is.chain once back is_other is.is_chain) in
    ended one is none ∙ ap (λ (xs : List Block). ledger_after_all one.opening xs) chains
    ∙ ap (λ (parts : Parts). ledger_after_all parts is'.chain) same
    ∙ sym (ended other is' none')

pub followers_replay : FollowersReplay
followers_replay seen is valid none =
    ended seen is none
    ∙ ap (λ (xs : List Block). ledger_after_all seen.opening xs)
    (one_chain seen.opening seen.blocks is.chain seen.blocks is.is_chain
    (valid_are_chain seen.opening seen.blocks valid))
