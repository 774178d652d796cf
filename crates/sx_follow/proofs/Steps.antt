-- The steps of a follower along its chain.
use Rattle.std.proofs.Common.{◌≡◌, ℕ, zero, suc, ◌+◌, ◌<◌, ◌≤◌, List, [], ◌∷◌, length, take, get_or, cond}
use Rattle.std.proofs.Common.{inl, inr, refl, ap, ◌∙◌, arith}
use Rattle.std.specs.Prelude.{nat_lt}
use Rattle.std.proofs.lemmas.Bool.{cases_lt, cond-false, cond-true, lt-ltb, le-ltb}
use Rattle.sx_block.specs.declared.header.Block.{Block}
use Rattle.sx_block.specs.Rule as rule
use Rattle.sx_block.specs.Validity.{ledger_after}
use Rattle.sx_block.specs.Chain.{IsChain, IsNext, NoneIsValid, ledger_after_all}
use Rattle.sx_block.proofs.Chains.{not_none, one_next}
use Rattle.sx_ledger.specs.declared.parts.Parts.{Parts}

-- ---- the ledger after some blocks of a chain

-- the next block after some of a chain is the next of the chain
pub record StepsOn (parts : Parts) (chain : List Block) (steps : ℕ) (block : Block) : Type 0 where
  pub within : suc steps ≤ length chain
  pub head : ledger_after_all parts (take (suc steps) chain)
      ≡ ledger_after (ledger_after_all parts (take steps chain)) block

module _ (blocks : List Block) where
  pub steps_on : (parts : Parts) (chain : List Block) (steps : ℕ) (block : Block) → IsChain parts blocks chain
      → steps ≤ length chain → IsNext (ledger_after_all parts (take steps chain)) blocks block
      → StepsOn parts chain steps block
  steps_on parts [] zero block is le next = absurd (not_none parts blocks block next is)
  steps_on parts [] (suc steps) block is le next = absurd (omega arith)
  steps_on parts (first ∷ others) zero block is le next = record {
    within = omega arith;
    head = ap (λ (b : Block). ledger_after parts b) (one_next parts blocks first block is.0 next);
  }
  steps_on parts (first ∷ others) (suc steps) block is le next =
      let on = steps_on (ledger_after parts first) others steps block is.1 (omega arith) next in
      let within = on.within in
      record { within = omega arith; head = on.head }

  -- where no block is valid after some of a chain, these are all of it
  pub at_end : (parts : Parts) (chain : List Block) (steps : ℕ) → IsChain parts blocks chain → steps ≤ length chain
      → NoneIsValid (ledger_after_all parts (take steps chain)) blocks → take steps chain ≡ chain
  at_end parts [] zero is le none = refl
  at_end parts [] (suc steps) is le none = absurd (omega arith)
  at_end parts (first ∷ others) zero is le none = absurd (not_none parts blocks first is.0 none)
  at_end parts (first ∷ others) (suc steps) is le none =
      ap (λ (xs : List Block). first ∷ xs) (at_end (ledger_after parts first) others steps is.1 (omega arith) none)

-- ---- a chain has no more blocks than the list

-- how many blocks are above a height
abbrev is_above : ℕ → Block → ℕ
is_above height block = cond (nat_lt height block.header.height) 1 0

abbrev above : ℕ → List Block → ℕ
above height [] = 0
above height (block ∷ blocks) = is_above height block + above height blocks

module _ (height : ℕ) (block : Block) where
  counts : height < block.header.height → is_above height block ≡ 1
  counts less = cond-true (nat_lt height block.header.height) 1 0 (lt-ltb height block.header.height less)

  counts_not : block.header.height ≤ height → is_above height block ≡ 0
  counts_not most = cond-false (nat_lt height block.header.height) 1 0 (le-ltb height block.header.height most)

  once : is_above height block ≤ 1
  once =
      elim (cases_lt height block.header.height) [
        | inl less ↦ let is = counts less in omega (arith, is)
        | inr most ↦ let is = counts_not most in omega (arith, is)
      ]

falls_once : (height : ℕ) (block : Block) → is_above (height + 1) block ≤ is_above height block
falls_once height block =
    elim (cases_lt (height + 1) block.header.height) [
      | inl less ↦
          let one = counts (height + 1) block less in
          let other = counts height block (omega arith) in
          omega (arith, one, other)
      | inr most ↦ let one = counts_not (height + 1) block most in omega (arith, one)
    ]

above_few : (height : ℕ) (blocks : List Block) → above height blocks ≤ length blocks
above_few height [] = omega arith
above_few height (block ∷ blocks) = omega (arith, once height block, above_few height blocks)

above_falls : (height : ℕ) (blocks : List Block) → above (height + 1) blocks ≤ above height blocks
above_falls height [] = omega arith
above_falls height (block ∷ blocks) = omega (arith, falls_once height block, above_falls height blocks)

above_loses : (height : ℕ) (blocks : List Block) (place : ℕ) (d : Block) → place < length blocks
    → (get_or blocks place d).header.height ≡ height + 1 → above (height + 1) blocks + 1 ≤ above height blocks
above_loses height [] place d lt at = absurd (omega arith)
above_loses height (block ∷ blocks) zero d lt at =
    let one = counts_not (height + 1) block (omega arith) in
    let other = counts height block (omega arith) in
    omega (arith, one, other, above_falls height blocks)
above_loses height (block ∷ blocks) (suc place) d lt at =
    let rest = above_loses height blocks place d (omega arith) at in
    omega (arith, falls_once height block, rest)

chain_above : (parts : Parts) (blocks chain : List Block) → IsChain parts blocks chain
    → length chain ≤ above parts.height blocks
chain_above parts blocks [] is = omega arith
chain_above parts blocks (next ∷ others) is =
    let rest = chain_above (ledger_after parts next) blocks others is.1 in
    let height : (get_or blocks is.0.place next).header.height ≡ parts.height + 1 =
    ap (λ (b : Block). b.header.height) is.0.there ∙ is.0.valid.rules rule.NextHeight in
    let loses = above_loses parts.height blocks is.0.place next is.0.within height in
    omega (arith, rest, loses)

pub chain_few : (parts : Parts) (blocks chain : List Block) → IsChain parts blocks chain → length chain ≤ length blocks
chain_few parts blocks chain is = omega (arith, chain_above parts blocks chain is, above_few parts.height blocks)
