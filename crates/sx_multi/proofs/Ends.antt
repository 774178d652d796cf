-- What the choice of the best keeps, as it goes through the slots.
use Rattle.std.proofs.Common.{◌≡◌, ℕ, suc, ◌+◌, ◌<◌, ◌≤◌, List, ◌∷◌, ◌++◌, get_or, Option, Some, None, Result, Ok}
use Rattle.std.proofs.Common.{option_to_list, inl, inr, refl, sym, ap, subst, ◌∙◌, arith}
use Rattle.std.proofs.lemmas.Bool.{cases_lt}
use Rattle.std.specs.Prelude.{IsSome}
use Rattle.sx_bytes.specs.declared.memory.NoMemory.{NoMemory}
use Rattle.sx_curve.specs.declared.quote.Quote.{Quote}
use Rattle.sx_curve.specs.Demand.{imbalance}
use Rattle.sx_search.specs.declared.searching.Found.{Found}
use Rattle.sx_multi.specs.Posted.{end_of, first_least, off_of, posted}
use Rattle.sx_multi.specs.Slots.{AreFound, EndsAt, IsFound}
use Rattle.sx_multi.proofs.Best.{stays, taken}
use Rattle.sx_multi.proofs.PostedLaws.{one_is_usual}

abbrev pub Slot : Type 0
Slot = Option (Result Found NoMemory)

-- what stood first
pub first_slot : (items rest : List Slot) (next : Option Slot) (slot : Slot) → items ≡ option_to_list next ++ rest
    → next ≡ Some slot → items ≡ slot ∷ rest
first_slot items rest next slot is some = is ∙ ap (λ (o : Option Slot). option_to_list o ++ rest) some

module _ (quotes : List Quote) (start : List ℕ) (j rounds : ℕ) where
  pub has_ended : (i : ℕ) (slot : Slot) → IsFound quotes start j rounds i slot → IsSome slot
  has_ended i None found = absurd found
  has_ended i (Some end) found = refl

  pub ended_at : (i : ℕ) (slot : Slot) (found : Found) → IsFound quotes start j rounds i slot → slot ≡ Some (Ok found)
      → EndsAt quotes j (end_of quotes start j rounds i) found
  ended_at i slot found is same = subst (λ (s : Slot). IsFound quotes start j rounds i s) same is

  -- of slots from number i on, the first is that of i, and the others are those from the next on
  first_found : (i : ℕ) (slot : Slot) (slots : List Slot) → AreFound quotes start j rounds i (slot ∷ slots)
      → IsFound quotes start j rounds i slot
  first_found i slot slots are =
      let same : i + 0 ≡ i = omega arith in
      subst (λ (n : ℕ). IsFound quotes start j rounds n slot) same (are 0 slot (omega arith))

  rest_found : (i next : ℕ) (slot : Slot) (slots : List Slot) → next ≡ suc i
      → AreFound quotes start j rounds i (slot ∷ slots)
      → AreFound quotes start j rounds next slots
  rest_found i next slot slots is are k d lt =
      let same : i + suc k ≡ next + k = omega arith in
      subst (λ (n : ℕ). IsFound quotes start j rounds n (get_or slots k d)) same (are (suc k) d (omega arith))

  pub head_found : (i : ℕ) (items : List Slot) (slot : Slot) (slots : List Slot) → items ≡ slot ∷ slots
      → AreFound quotes start j rounds i items
      → IsFound quotes start j rounds i slot
  head_found i items slot slots is are =
      first_found i slot slots (subst (λ (s : List Slot). AreFound quotes start j rounds i s) is are)

  pub tail_found : (i next : ℕ) (items : List Slot) (slot : Slot) (slots : List Slot) → next ≡ suc i
      → items ≡ slot ∷ slots
      → AreFound quotes start j rounds i items
      → AreFound quotes start j rounds next slots
  tail_found i next items slot slots more is are =
      rest_found i next slot slots more (subst (λ (s : List Slot). AreFound quotes start j rounds i s) is are)

  -- the first end is that of the first search
  pub first_is_best : (n : ℕ) (found : Found) → n ≡ 1 → EndsAt quotes j (end_of quotes start j rounds 0) found
      → EndsAt quotes j (posted quotes start j rounds n) found
  first_is_best n found is at =
      subst (λ (m : ℕ). EndsAt quotes j (posted quotes start j rounds m) found) (sym is)
      (at.0 ∙ sym (one_is_usual quotes start j rounds), at.1)

  -- the prices that are posted of one search more
  one_taken : (n next : ℕ) → next ≡ suc n
      → off_of quotes start j rounds n < imbalance quotes (posted quotes start j rounds n) j
      → end_of quotes start j rounds n ≡ posted quotes start j rounds next
  one_taken n next is less =
      ap (end_of quotes start j rounds)
      (sym (taken (off_of quotes start j rounds) n less) ∙ ap (first_least (off_of quotes start j rounds)) (sym is))

  none_taken : (n next : ℕ) → next ≡ suc n
      → imbalance quotes (posted quotes start j rounds n) j ≤ off_of quotes start j rounds n
      → posted quotes start j rounds n ≡ posted quotes start j rounds next
  none_taken n next is more =
      ap (end_of quotes start j rounds)
      (sym (stays (off_of quotes start j rounds) n more) ∙ ap (first_least (off_of quotes start j rounds)) (sym is))

  -- what leaves less of the best so far and the next end is the best of one search more
  pub nearer_is_best : (n next : ℕ) (best found nearer : Found) → next ≡ suc n
      → EndsAt quotes j (posted quotes start j rounds n) best
      → EndsAt quotes j (end_of quotes start j rounds n) found
      → (found.off < best.off → nearer ≡ found)
      → (best.off ≤ found.off → nearer ≡ best)
      → EndsAt quotes j (posted quotes start j rounds next) nearer
  nearer_is_best n next best found nearer is held tried takes keeps =
      let at = λ (prices : List ℕ). imbalance quotes prices j in
      let off_held : best.off ≡ imbalance quotes (posted quotes start j rounds n) j = held.1 ∙ ap at held.0 in
      let off_tried : found.off ≡ off_of quotes start j rounds n = tried.1 ∙ ap at tried.0 in
      let Best = λ (end : Found). EndsAt quotes j (posted quotes start j rounds next) end in
      elim (cases_lt found.off best.off) [
        | inl less ↦
            let falls : off_of quotes start j rounds n < imbalance quotes (posted quotes start j rounds n) j =
            omega (arith, off_held, off_tried, less) in
            subst Best (sym (takes less)) (tried.0 ∙ one_taken n next is falls, tried.1)
        | inr more ↦
            let stay : imbalance quotes (posted quotes start j rounds n) j ≤ off_of quotes start j rounds n =
            omega (arith, off_held, off_tried, more) in
            subst Best (sym (keeps more)) (held.0 ∙ none_taken n next is stay, held.1)
      ]
