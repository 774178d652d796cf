-- Digests of the transactions of blocks.
use Rattle.std.specs.Prelude.{◌≡◌, ℕ, List, Option, None, Some, nat_lt, if◌then◌else◌, length, ◌<◌, slice_index_or}
use Rattle.sha2.specs.Sha256.{sha256}
use Rattle.sx_block.specs.declared.header.Block.{Block}
use Rattle.sx_follow.specs.declared.ahead.bodies.Bodies.{Bodies}
use Rattle.sx_tx.specs.Transactions.{list_bytes}

-- the digest of the transactions of a block
abbrev pub body_of : Block → List ℕ
body_of block = sha256 (list_bytes block.txs)

-- the same, where the block is above this height
abbrev pub body_above : ℕ → Block → Option (List ℕ)
body_above height block = if nat_lt height block.header.height then Some (body_of block) else None

-- this is the digest of the transactions of the block at a place
abbrev pub IsBodyAt : List Block → ℕ → List ℕ → Type 0
IsBodyAt blocks place digest = (d : Block) → digest ≡ body_of (slice_index_or blocks place d)

-- a digest that is there is that of the transactions of the block at its place
abbrev pub IsBodyIfThere : List Block → ℕ → Option (List ℕ) → Type 0
IsBodyIfThere blocks place None = Unit {0}
IsBodyIfThere blocks place (Some digest) = IsBodyAt blocks place digest

-- and so is each
abbrev pub AreBodies : List Block → Bodies → Type 0
AreBodies blocks bodies =
    (place : ℕ) → place < length blocks → IsBodyIfThere blocks place (slice_index_or bodies.digests.items place None)
