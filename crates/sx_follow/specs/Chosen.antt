-- Blocks that go on from a digest, by the digests that they name.
use Rattle.std.specs.Prelude.{◌≡◌, ◌≢◌, ℕ, ◌+◌, ◌<◌, List, [], ◌∷◌, length, slice_index_or}
use Rattle.sx_block.specs.declared.header.Block.{Block}

-- the block at this place is the first of its height that names this digest as that of the ledger before it
pub record IsChosen (height : ℕ) (named : List ℕ) (blocks : List Block) (place : ℕ) : Type 0 where
  pub block : Block
  pub within : place < length blocks
  pub there : slice_index_or blocks place block ≡ block
  pub parent : block.header.parent ≡ named
  pub earlier : (k : ℕ) (d : Block) → k < place → (slice_index_or blocks k d).header.height ≡ height
      → (slice_index_or blocks k d).header.parent ≢ named

-- the first block of this height that names the digest, then the first of the next height that names the digest that
-- this one names as that of the ledger after it, and so on
abbrev pub AreChosen : ℕ → List ℕ → List Block → List ℕ → Type 0
AreChosen height named blocks [] = Unit {0}
AreChosen height named blocks (place ∷ places) =
    (chosen : IsChosen height named blocks place) × AreChosen (height + 1) chosen.block.header.after blocks places
