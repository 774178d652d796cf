-- The places of the blocks of a height.
use Rattle.std.proofs.Common.{◌≡◌, ℕ, zero, suc, ◌+◌, ◌<◌, ◌≤◌, Bool, List, [], ◌∷◌, ◌++◌, length, get_or, cond, eqb}
use Rattle.std.proofs.Common.{inl, inr, sym, ap, subst, ◌∙◌, arith, append_assoc}
use Rattle.std.proofs.lemmas.Bool.{cases_eq, eq-eqb, ne_eqb}
use Rattle.std.proofs.lemmas.List.{append-nil}
use Rattle.sx_block.specs.declared.header.Block.{Block}
use Rattle.sx_follow.specs.Waiting.{places_from}

-- the place of one block, where it is of this height
abbrev one_place : ℕ → ℕ → Block → List ℕ
one_place height place block = cond (eqb block.header.height height) (place ∷ []) []

-- ---- lists of places

-- these stand in rising order, from `place` on and below `end`
pub record AreRising (places : List ℕ) (place end : ℕ) : Type 0 where
  pub from : (i : ℕ) → i < length places → place ≤ get_or places i 0
  pub below : (i : ℕ) → i < length places → get_or places i 0 < end
  pub rising : (i j : ℕ) → i < j → j < length places → get_or places i 0 < get_or places j 0

rising_cons : (places : List ℕ) (place end : ℕ) → place < end → AreRising places (suc place) end
    → AreRising (place ∷ places) place end
rising_cons places place end lt are = record {
  from = from;
  below = below;
  rising = rising;
}
  where
    from : (i : ℕ) → i < length (place ∷ places) → place ≤ get_or (place ∷ places) i 0
    from zero within = omega arith
    from (suc i) within = let later = are.from i (omega arith) in omega arith

    below : (i : ℕ) → i < length (place ∷ places) → get_or (place ∷ places) i 0 < end
    below zero within = lt
    below (suc i) within = are.below i (omega arith)

    rising : (i j : ℕ) → i < j → j < length (place ∷ places)
        → get_or (place ∷ places) i 0 < get_or (place ∷ places) j 0
    rising i zero less within = absurd (omega arith)
    rising zero (suc j) less within = let later = are.from j (omega arith) in omega arith
    rising (suc i) (suc j) less within = are.rising i j (omega arith) (omega arith)

rising_later : (places : List ℕ) (place end : ℕ) → AreRising places (suc place) end → AreRising places place end
rising_later places place end are = record {
  from = λ i within. let later = are.from i within in omega arith;
  below = are.below;
  rising = are.rising;
}

-- where a number stands in a list
pub record StandsIn (places : List ℕ) (place : ℕ) : Type 0 where
  pub at : ℕ
  pub within : at < length places
  pub there : get_or places at 0 ≡ place

stands_later : (places : List ℕ) (first place : ℕ) → StandsIn places place → StandsIn (first ∷ places) place
stands_later places first place stands = record {
  at = suc stands.at;
  within = let within = stands.within in omega arith;
  there = stands.there;
}

-- ---- the places of the blocks of a height

module _ (height : ℕ) where
  -- one more block has the place behind all others
  pub places_push : (place : ℕ) (blocks : List Block) (block : Block)
      → places_from place height (blocks ++ block ∷ [])
      ≡ places_from place height blocks ++ one_place height (place + length blocks) block
  places_push place [] block =
      append-nil (one_place height place block)
      ∙ ap (λ (n : ℕ). one_place height n block) (omega arith)
  places_push place (first ∷ blocks) block =
      let rest = places_push (suc place) blocks block in
      let same : suc place + length blocks ≡ place + length (first ∷ blocks) = omega arith in
      ap (λ (xs : List ℕ). one_place height place first ++ xs)
      (rest ∙ ap (λ (n : ℕ). places_from (suc place) height blocks ++ one_place height n block) same)
      ∙ sym (append_assoc (one_place height place first) (places_from (suc place) height blocks)
      (one_place height (place + length (first ∷ blocks)) block))

  -- ---- the first block

  -- where it is of this height, its place comes first
  first_place : (place : ℕ) (block : Block) (blocks : List Block) → block.header.height ≡ height
      → places_from place height (block ∷ blocks) ≡ place ∷ places_from (suc place) height blocks
  first_place place block blocks at =
      ap (λ (test : Bool). cond test (place ∷ []) [] ++ places_from (suc place) height blocks)
      (eq-eqb block.header.height height at)

  -- where it is not, the places are those of the others
  no_place : (place : ℕ) (block : Block) (blocks : List Block) → (block.header.height ≡ height → ⊥)
      → places_from place height (block ∷ blocks) ≡ places_from (suc place) height blocks
  no_place place block blocks apart =
      ap (λ (test : Bool). cond test (place ∷ []) [] ++ places_from (suc place) height blocks)
      (ne_eqb block.header.height height apart)

  -- ---- all of them

  -- they rise, up to the number of blocks
  pub are_rising : (place : ℕ) (blocks : List Block)
      → AreRising (places_from place height blocks) place (place + length blocks)
  are_rising place [] = record {
    from = λ i within. absurd (omega arith);
    below = λ i within. absurd (omega arith);
    rising = λ i j less within. absurd (omega arith);
  }
  are_rising place (block ∷ blocks) =
      let end : suc place + length blocks ≡ place + length (block ∷ blocks) = omega arith in
      let rest : AreRising (places_from (suc place) height blocks) (suc place) (place + length (block ∷ blocks)) =
      subst (λ (n : ℕ). AreRising (places_from (suc place) height blocks) (suc place) n) end
      (are_rising (suc place) blocks) in
      elim (cases_eq block.header.height height) [
        | inl at ↦
            subst (λ (xs : List ℕ). AreRising xs place (place + length (block ∷ blocks)))
            (sym (first_place place block blocks at))
            (rising_cons (places_from (suc place) height blocks) place (place + length (block ∷ blocks))
            (omega arith) rest)
        | inr apart ↦
            subst (λ (xs : List ℕ). AreRising xs place (place + length (block ∷ blocks)))
            (sym (no_place place block blocks apart))
            (rising_later (places_from (suc place) height blocks) place (place + length (block ∷ blocks)) rest)
      ]

  -- each block of the height has one of them
  pub place_stands : (place : ℕ) (blocks : List Block) (k : ℕ) (d : Block) → k < length blocks
      → (get_or blocks k d).header.height ≡ height → StandsIn (places_from place height blocks) (place + k)
  place_stands place [] k d lt at = absurd (omega arith)
  place_stands place (block ∷ blocks) zero d lt at =
      subst (λ (xs : List ℕ). StandsIn xs (place + zero)) (sym (first_place place block blocks at))
      (record { at = 0; within = omega arith; there = omega arith })
  place_stands place (block ∷ blocks) (suc k) d lt at =
      let same : suc place + k ≡ place + suc k = omega arith in
      let rest : StandsIn (places_from (suc place) height blocks) (place + suc k) =
      subst (λ (n : ℕ). StandsIn (places_from (suc place) height blocks) n) same
      (place_stands (suc place) blocks k d (omega arith) at) in
      elim (cases_eq block.header.height height) [
        | inl is ↦
            subst (λ (xs : List ℕ). StandsIn xs (place + suc k)) (sym (first_place place block blocks is))
            (stands_later (places_from (suc place) height blocks) place (place + suc k) rest)
        | inr apart ↦
            subst (λ (xs : List ℕ). StandsIn xs (place + suc k)) (sym (no_place place block blocks apart)) rest
      ]
