-- Digests of the transactions of blocks.
use Rattle.std.proofs.Common.{◌≡◌, ℕ, ◌<◌, ◌∙◌, List, Option, None, Some, length, map, get_or, sym, ap}
use Rattle.std.proofs.lemmas.List.{get_or-map}
use Rattle.std.proofs.lemmas.Option.{cond_some}
use Rattle.std.specs.Prelude.{nat_lt}
use Rattle.sx_block.specs.declared.header.Block.{Block}
use Rattle.sx_follow.specs.Bodies.{IsBodyIfThere, body_above, body_of}

-- one that is made is that of its block
module _ (height : ℕ) (blocks : List Block) (place : ℕ) (lt : place < length blocks) where
  one_made : (body : Option (List ℕ)) → body ≡ get_or (map (body_above height) blocks) place None
      → IsBodyIfThere blocks place body
  one_made None e = tt
  one_made (Some digest) e = λ d.
      let block = get_or blocks place d in
      sym (cond_some (nat_lt height block.header.height) (body_of block) digest
      (sym (e ∙ get_or-map (body_above height) blocks place d None lt))).1

-- and so is each
pub made : (height : ℕ) (blocks : List Block) (bodies : List (Option (List ℕ)))
    → bodies ≡ map (body_above height) blocks → (place : ℕ) → place < length blocks
    → IsBodyIfThere blocks place (get_or bodies place None)
made height blocks bodies are = λ place lt.
    one_made height blocks place lt (get_or bodies place None)
    (ap (λ (all : List (Option (List ℕ))). get_or all place None) are)
