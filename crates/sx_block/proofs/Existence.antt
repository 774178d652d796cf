-- Each list of blocks has a chain, and where each block is valid in turn it is the list.
use Rattle.std.proofs.Common.{◌≡◌, ℕ, zero, suc, ◌+◌, ◌-◌, ◌<◌, ◌≤◌, List, [], ◌∷◌, ◌++◌, get_or, inl, inr}
use Rattle.std.proofs.Common.{subst, arith, append_assoc}
use Rattle.std.specs.Prelude.{◌⊎◌}
use Rattle.std.specs.List.{All}
use Rattle.std.proofs.lemmas.List.Elements.{All-append, All-cons, All-nil, All-tail}
use Rattle.sx_block.specs.declared.header.Block.{Block}
use Rattle.sx_block.specs.Block.{IsBlock}
use Rattle.sx_block.specs.Rule as rule
use Rattle.sx_block.specs.Validity.{IsValid, ledger_after}
use Rattle.sx_block.specs.RefusalLaws.{EveryBlockIsJudged, ValidIsNotRefused}
use Rattle.sx_block.specs.Chain.{AreValid, IsChain, IsNext, NoneIsValid}
use Rattle.sx_block.specs.ChainLaws.{EveryListHasChain, SomeChain, ValidAreChain}
use Rattle.sx_block.proofs.Chains.{first_next, next_after, next_behind}
use Rattle.sx_block.specs.EffectLaws.{BlockKeepsLedger}
use Rattle.sx_ledger.specs.declared.parts.Parts.{Parts}
use Rattle.sx_ledger.specs.Ledger.{IsLedger, most_height}

pub record SomeNext (parts : Parts) (blocks : List Block) : Type 0 where
  pub block : Block
  pub next : IsNext parts blocks block

module _ (judged : EveryBlockIsJudged) (not_both : ValidIsNotRefused) where
  -- either no block of the list is valid, or some one is next
  pub next_or_none : (parts : Parts) (blocks : List Block) → IsLedger parts → All IsBlock blocks
      → NoneIsValid parts blocks ⊎ SomeNext parts blocks
  next_or_none parts [] is form = inl (All-nil (λ block. ¬ IsValid parts block))
  next_or_none parts (block ∷ blocks) is form =
      elim (judged parts block is (form 0 block (omega arith))) [
        | inl valid ↦ inr (record { block = block; next = first_next parts block blocks valid })
        | inr refused ↦
            let not : ¬ IsValid parts block = λ valid. not_both parts block refused.why valid refused.refuses in
            elim (next_or_none parts blocks is (All-tail IsBlock block blocks form)) [
              | inl none ↦ inl (All-cons (λ b. ¬ IsValid parts b) block blocks not none)
              | inr some ↦
                  inr (record { block = some.block; next = next_behind parts blocks block not some.block some.next })
            ]
      ]

  -- a chain that takes so many blocks at most
  some_chain : BlockKeepsLedger → (fuel : ℕ) (parts : Parts) (blocks : List Block) → most_height ≤ parts.height + fuel
      → IsLedger parts → All IsBlock blocks → SomeChain parts blocks
  some_chain keeps zero parts blocks high is form =
      record {
        chain = [];
        is = λ k d lt valid.
            let below : parts.height < most_height = valid.rules rule.BelowLast in
            absurd (omega arith);
      }
  some_chain keeps (suc fuel) parts blocks high is form =
      elim (next_or_none parts blocks is form) [
        | inl none ↦ record { chain = []; is = none }
        | inr some ↦
            let rest : SomeChain (ledger_after parts some.block) blocks =
            some_chain keeps fuel (ledger_after parts some.block) blocks (omega arith)
            (keeps parts some.block is some.next.valid) form in
            record { chain = some.block ∷ rest.chain; is = (some.next, rest.is) }
      ]

  pub every_list_has_chain : BlockKeepsLedger → EveryListHasChain
  every_list_has_chain keeps parts blocks is form =
      some_chain keeps (most_height - parts.height) parts blocks (omega arith) is form

-- ---- blocks that are valid in turn

-- blocks of no greater height than the ledger are not valid for it
abbrev IsLow : ℕ → Block → Type 0
IsLow low block = block.header.height ≤ low

low_none : (parts : Parts) (blocks : List Block) → All (IsLow parts.height) blocks → NoneIsValid parts blocks
low_none parts blocks low k d lt valid =
    let at : (get_or blocks k d).header.height ≤ parts.height = low k d lt in
    let next : (get_or blocks k d).header.height ≡ parts.height + 1 = valid.rules rule.NextHeight in
    absurd (omega arith)

-- the blocks that come are the chain of them and of those before them, which are low
are_chain : (parts : Parts) (before blocks : List Block) → All (IsLow parts.height) before → AreValid parts blocks
    → IsChain parts (before ++ blocks) blocks
are_chain parts before [] low valid =
    low_none parts (before ++ []) (All-append (IsLow parts.height) before [] low (All-nil (IsLow parts.height)))
are_chain parts before (next ∷ others) low valid = (
  next_after parts next before (next ∷ others) (low_none parts before low)
      (first_next parts next others valid.0),
  let height : next.header.height ≡ parts.height + 1 = valid.0.rules rule.NextHeight in
      let same : (before ++ next ∷ []) ++ others ≡ before ++ (next ∷ others) = append_assoc before (next ∷ []) others in
      subst (λ (all : List Block). IsChain (ledger_after parts next) all others) same
      (are_chain (ledger_after parts next) (before ++ next ∷ []) others
      (All-append (IsLow (parts.height + 1)) before (next ∷ [])
      (λ k d lt. let at : (get_or before k d).header.height ≤ parts.height = low k d lt in omega arith)
      (All-cons (IsLow (parts.height + 1)) next [] (omega arith) (All-nil (IsLow (parts.height + 1))))) valid.1),
)

pub valid_are_chain : ValidAreChain
valid_are_chain parts blocks valid = are_chain parts [] blocks (All-nil (IsLow parts.height)) valid
