-- What is entered of one more block.
use Rattle.std.proofs.Common.{◌≡◌, ℕ, ◌+◌, List, [], ◌∷◌, ◌++◌, length, cond, eqb, sym, ap, ◌∙◌, arith}
use Rattle.sx_block.specs.declared.header.Block.{Block}
use Rattle.sx_follow.specs.declared.waiting.Waiting.{Waiting}
use Rattle.sx_follow.specs.Waiting.{AreWaiting, places_at, places_of}
use Rattle.sx_follow.proofs.Places.{places_push}

-- the place of one more block is entered at its height
pub one_more : (blocks : List Block) (block : Block) (old new : Waiting) (place : ℕ) → AreWaiting blocks old
    → place ≡ length blocks
    → ((other : ℕ) → places_at new other ≡ places_at old other ++ cond (eqb block.header.height other) (place ∷ []) [])
    → AreWaiting (blocks ++ block ∷ []) new
one_more blocks block old new place are is entered height =
    let at : place ≡ 0 + length blocks = omega arith in
    entered height
    ∙ ap (λ (xs : List ℕ). xs ++ cond (eqb block.header.height height) (place ∷ []) []) (are height)
    ∙ ap (λ (n : ℕ). places_of height blocks ++ cond (eqb block.header.height height) (n ∷ []) []) at
    ∙ sym (places_push height 0 blocks block)
