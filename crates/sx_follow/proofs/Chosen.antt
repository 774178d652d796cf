-- Blocks that are chosen by the digests that they name.
use Rattle.std.proofs.Common.{◌≡◌, ◌≢◌, ℕ, ◌+◌, ◌<◌, ◌∙◌, List, [], ◌∷◌, ◌++◌, length, get_or, sym, subst, arith}
use Rattle.std.proofs.Common.{append_assoc}
use Rattle.std.specs.List.{All}
use Rattle.std.proofs.lemmas.List.{get_or_default}
use Rattle.std.proofs.lemmas.List.Elements.{All-cons, All-nil}
use Rattle.sx_block.specs.declared.header.Block.{Block}
use Rattle.sx_follow.specs.Chosen.{AreChosen, IsChosen}
use Rattle.sx_follow.specs.Waiting.{places_of}
use Rattle.sx_follow.proofs.HeightPlaces.{height_stands, places_within, stands_before}

-- the blocks at the first so many places name other digests
abbrev pub NameOthers : List ℕ → List Block → List ℕ → ℕ → Type 0
NameOthers named blocks places number =
    (i : ℕ) (d : Block) → i < number → (get_or blocks (get_or places i 0) d).header.parent ≢ named

-- the first of a height that names the digest is chosen
module _ (height : ℕ) (blocks : List Block) (places : List ℕ) (are : places ≡ places_of height blocks) where
  pub first_chosen : (named : List ℕ) (i : ℕ) (block : Block) → i < length places → NameOthers named blocks places i
      → get_or blocks (get_or places i 0) block ≡ block → block.header.parent ≡ named
      → IsChosen height named blocks (get_or places i 0)
  first_chosen named i block within others there parent =
      let below = places_within height blocks places are i within in
      record {
        block = block;
        within = below;
        there = there;
        parent = parent;
        earlier = λ k d less at same.
            let lt : k < length blocks = omega arith in
            let stands = height_stands height blocks places are k d lt at in
            others stands.at d (stands_before height blocks places are i k within less stands)
            (subst (λ (n : ℕ). (get_or blocks n d).header.parent ≡ named) (sym stands.there) same);
      }

-- it is the block at its place
pub chosen_block : (height : ℕ) (named : List ℕ) (blocks : List Block) (place : ℕ)
    (chosen : IsChosen height named blocks place) (block : Block) → block ≡ get_or blocks place block
    → chosen.block ≡ block
chosen_block height named blocks place chosen block there =
    sym chosen.there ∙ get_or_default blocks place chosen.block block chosen.within ∙ sym there

-- the chosen blocks have places among all
pub chosen_within : (height : ℕ) (named : List ℕ) (blocks : List Block) (places : List ℕ)
    → AreChosen height named blocks places → All (λ place. place < length blocks) places
chosen_within height named blocks [] are = All-nil (λ place. place < length blocks)
chosen_within height named blocks (place ∷ places) are =
    All-cons (λ p. p < length blocks) place places are.0.within
    (chosen_within (height + 1) are.0.block.header.after blocks places are.1)

-- what goes on from a digest at a height goes on from the first one, behind the places so far
abbrev pub GoesOn : ℕ → List ℕ → List Block → List ℕ → ℕ → List ℕ → Type 0
GoesOn height named blocks places height' named' =
    (rest : List ℕ) → AreChosen height' named' blocks rest → AreChosen height named blocks (places ++ rest)

-- one place more
pub chosen_more : (height : ℕ) (named : List ℕ) (blocks : List Block) (places : List ℕ) (height' : ℕ) (named' : List ℕ)
    (place : ℕ) (chosen : IsChosen height' named' blocks place) → GoesOn height named blocks places height' named'
    → GoesOn height named blocks (places ++ place ∷ []) (height' + 1) chosen.block.header.after
chosen_more height named blocks places height' named' place chosen on = λ rest are.
    subst (λ (all : List ℕ). AreChosen height named blocks all) (sym (append_assoc places (place ∷ []) rest))
    (on (place ∷ rest) (chosen, are))
