-- The places of the blocks of one height, as they are kept.
use Rattle.std.proofs.Common.{◌≡◌, ℕ, ◌+◌, ◌<◌, List, length, get_or, inl, inr, sym, ap, subst, arith}
use Rattle.std.proofs.lemmas.Bool.{cases_lt}
use Rattle.sx_block.specs.declared.header.Block.{Block}
use Rattle.sx_follow.specs.Waiting.{places_from, places_of}
use Rattle.sx_follow.proofs.Places.{AreRising, StandsIn, are_rising, place_stands}

module _ (height : ℕ) (blocks : List Block) (places : List ℕ) (are : places ≡ places_of height blocks) where
  -- they rise, up to the number of blocks
  rise : AreRising places 0 (length blocks)
  rise =
      let same : 0 + length blocks ≡ length blocks = omega arith in
      subst (λ (xs : List ℕ). AreRising xs 0 (length blocks)) (sym are)
      (subst (λ (n : ℕ). AreRising (places_from 0 height blocks) 0 n) same (are_rising height 0 blocks))

  -- each is the place of a block
  pub places_within : (i : ℕ) → i < length places → get_or places i 0 < length blocks
  places_within i lt = rise.below i lt

  -- a block of the height has one of them
  pub height_stands : (k : ℕ) (d : Block) → k < length blocks → (get_or blocks k d).header.height ≡ height
      → StandsIn places k
  height_stands k d lt at =
      let same : 0 + k ≡ k = omega arith in
      subst (λ (xs : List ℕ). StandsIn xs k) (sym are)
      (subst (λ (n : ℕ). StandsIn (places_from 0 height blocks) n) same (place_stands height 0 blocks k d lt at))

  -- a place before one of them stands before it
  pub stands_before : (i k : ℕ) → i < length places → k < get_or places i 0 → (stands : StandsIn places k)
      → stands.at < i
  stands_before i k within less stands =
      let there = stands.there in
      elim (cases_lt stands.at i) [
        | inl lt ↦ lt
        | inr most ↦
            elim (cases_lt i stands.at) [
              | inl lt ↦ let later = rise.rising i stands.at lt stands.within in absurd (omega arith)
              | inr least ↦
                  let same : stands.at ≡ i = omega arith in
                  let at : get_or places stands.at 0 ≡ get_or places i 0 = ap (λ (n : ℕ). get_or places n 0) same in
                  absurd (omega arith)
            ]
      ]
