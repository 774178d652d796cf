-- The first valid block of the next height is the next block.
use Rattle.std.proofs.Common.{◌≡◌, ℕ, ◌+◌, ◌<◌, List, length, get_or, sym, subst, arith}
use Rattle.sx_block.specs.declared.header.Block.{Block}
use Rattle.sx_block.specs.Rule as rule
use Rattle.sx_block.specs.Validity.{IsValid}
use Rattle.sx_block.specs.Chain.{IsNext, NoneIsValid}
use Rattle.sx_follow.specs.Waiting.{places_of}
use Rattle.sx_follow.proofs.HeightPlaces.{height_stands, places_within, stands_before}
use Rattle.sx_follow.proofs.Places.{StandsIn}
use Rattle.sx_ledger.specs.declared.parts.Parts.{Parts}

-- the blocks at the first so many places are not valid
abbrev pub AreRefused : Parts → List Block → List ℕ → ℕ → Type 0
AreRefused parts blocks places number =
    (i : ℕ) (d : Block) → i < number → ¬ IsValid parts (get_or blocks (get_or places i 0) d)

-- the places of the blocks of the next height
module _ (parts : Parts) (blocks : List Block) (places : List ℕ) (are : places ≡ places_of (parts.height + 1) blocks)
  where
    -- a valid block has one of them
    valid_stands : (k : ℕ) (d : Block) → k < length blocks → IsValid parts (get_or blocks k d) → StandsIn places k
    valid_stands k d lt valid = height_stands (parts.height + 1) blocks places are k d lt (valid.rules rule.NextHeight)

    -- where the blocks at so many places are refused, none is valid whose place is among these
    stands_refused : (number k : ℕ) (d : Block) → AreRefused parts blocks places number → (stands : StandsIn places k)
        → stands.at < number → ¬ IsValid parts (get_or blocks k d)
    stands_refused number k d refused stands lt valid =
        refused stands.at d lt (subst (λ (n : ℕ). IsValid parts (get_or blocks n d)) (sym stands.there) valid)

    -- where all are refused, none is valid
    pub none_valid : AreRefused parts blocks places (length places) → NoneIsValid parts blocks
    none_valid refused k d lt valid =
        let stands = valid_stands k d lt valid in
        stands_refused (length places) k d refused stands stands.within valid

    -- a valid block, where those at the places before its own are refused, is the next
    pub first_valid : (i : ℕ) (block : Block) → i < length places → AreRefused parts blocks places i
        → get_or blocks (get_or places i 0) block ≡ block → IsValid parts block → IsNext parts blocks block
    first_valid i block within refused there valid =
        let below = places_within (parts.height + 1) blocks places are i within in
        record {
          place = get_or places i 0;
          within = below;
          there = there;
          valid = valid;
          earlier = λ k d less is.
              let lt : k < length blocks = omega arith in
              let stands = valid_stands k d lt is in
              stands_refused i k d refused stands
              (stands_before (parts.height + 1) blocks places are i k within less stands) is;
        }
