-- The blocks of a replay, and one item more.
use Rattle.std.proofs.Common.{◌≡◌, ℕ, ◌+◌, List, [], ◌∷◌, ◌++◌, length, false, Bool, refl, ◌∙◌, arith}
use Rattle.std.proofs.lemmas.List.Sums.{fold-append}
use Rattle.sx_block.specs.Validity.{ledger_after}
use Rattle.sx_block.specs.Chain.{ledger_after_all}
use Rattle.sx_ledger.specs.declared.parts.Parts.{Parts}
use Rattle.sx_meaning.specs.Items.{Item, block, candidates, outcomes, proof, script, state}
use Rattle.sx_meaning.specs.NextItem.{blocks_then, ledger_then}
use Rattle.sx_meaning.specs.Replays.{blocks_of, ends_with_block, is_block}

pub ledger_along : (parts : Parts) (items : List Item) (item : Item)
    → ledger_after_all parts (blocks_of (items ++ item ∷ [])) ≡ ledger_then
    (ledger_after_all parts (blocks_of items)) item
ledger_along parts [] (state held) = refl
ledger_along parts [] (candidates txs) = refl
ledger_along parts [] (block said) = refl
ledger_along parts [] (outcomes told) = refl
ledger_along parts [] (script turns) = refl
ledger_along parts [] (proof claim) = refl
ledger_along parts (state held ∷ items) item = ledger_along parts items item
ledger_along parts (candidates txs ∷ items) item = ledger_along parts items item
ledger_along parts (block said ∷ items) item = ledger_along (ledger_after parts said) items item
ledger_along parts (outcomes told ∷ items) item = ledger_along parts items item
ledger_along parts (script turns ∷ items) item = ledger_along parts items item
ledger_along parts (proof claim ∷ items) item = ledger_along parts items item

count_along : (items : List Item) (item : Item)
    → length (blocks_of (items ++ item ∷ [])) ≡ length (blocks_of items) + length (blocks_of (item ∷ []))
count_along [] item = omega arith
count_along (state held ∷ items) item = count_along items item
count_along (candidates txs ∷ items) item = count_along items item
count_along (block said ∷ items) item = omega (arith, count_along items item)
count_along (outcomes told ∷ items) item = count_along items item
count_along (script turns ∷ items) item = count_along items item
count_along (proof claim ∷ items) item = count_along items item

count_of : (blocks : ℕ) (item : Item) → blocks + length (blocks_of (item ∷ [])) ≡ blocks_then blocks item
count_of blocks (state held) = omega arith
count_of blocks (candidates txs) = omega arith
count_of blocks (block said) = omega arith
count_of blocks (outcomes told) = omega arith
count_of blocks (script turns) = omega arith
count_of blocks (proof claim) = omega arith

pub blocks_along : (items : List Item) (item : Item)
    → length (blocks_of (items ++ item ∷ [])) ≡ blocks_then (length (blocks_of items)) item
blocks_along items item = count_along items item ∙ count_of (length (blocks_of items)) item

pub after_along : (items : List Item) (item : Item) → ends_with_block (items ++ item ∷ []) ≡ is_block item
after_along items item = fold-append (λ (_ : Bool) (i : Item). is_block i) false items (item ∷ [])
