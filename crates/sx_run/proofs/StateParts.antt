-- The parts of a state, one after the other.
use Rattle.std.proofs.Common.{◌≡◌, ℕ, suc, ◌+◌, ◌*◌, ◌<◌, ◌≤◌, List, [], ◌∷◌, ◌++◌, Ok, Result, length, get_or, take, drop, map}
use Rattle.std.proofs.Common.{refl, sym, ap, ap₂, ◌∙◌, arith}
use Rattle.std.specs.Fork.{slice_chunk}
use Rattle.std.specs.Int.{div_ceil}
use Rattle.std.specs.List.{flat_map}
use Rattle.std.specs.Prelude.{IfOk}
use Rattle.std.proofs.lemmas.Grind.{div_ceil_times, flat_map-append}
use Rattle.std.proofs.lemmas.List.{drop-drop, get_or-map, length-drop, length-map, take-append-drop}
use Rattle.std.proofs.lemmas.Result.{IfOk-at_ok}
use Rattle.sx_ledger.specs.declared.parts.Parts.{Parts}
use Rattle.sx_state.specs.Encoding.{account_bytes, offer_bytes}
use Rattle.sx_run.specs.declared.state_writing.Part.{Part}
use Rattle.sx_run.specs.StateParts.{IsPart}

module _ {P X Y : Type 0} (told : P → List Y) (write : X → List Y) (size : ℕ) where
  -- the chunks of a list, encoded one by one, are the encoding of the list
  in_chunks : (xs : List X) (parts : List P) → length xs ≤ length parts * size
      → ((i : ℕ) (d : P) → i < length parts → told (get_or parts i d) ≡ flat_map write (slice_chunk xs size i))
      → flat_map told parts ≡ flat_map write xs
  in_chunks [] [] within each = refl
  in_chunks (x ∷ xs) [] within each = absurd (omega (arith, within))
  in_chunks xs (part ∷ parts) within each =
      let none : 0 * size ≡ 0 = omega arith in
      let more : (i : ℕ) → suc i * size ≡ size + i * size = λ i. omega arith in
      let first : told part ≡ flat_map write (take size xs) =
      each 0 part (omega arith) ∙ ap (λ (n : ℕ). flat_map write (take size (drop n xs))) none in
      let rest : flat_map told parts ≡ flat_map write (drop size xs) =
      in_chunks (drop size xs) parts (omega (arith, within, length-drop size xs, more (length parts)))
      (λ i d lt. each (suc i) d (omega (arith, lt)) ∙ ap (λ (ys : List X). flat_map write (take size ys))
      (ap (λ (n : ℕ). drop n xs) (more i) ∙ sym (drop-drop (i * size) size xs))) in
      ap₂ (λ (a b : List Y). a ++ b) first rest ∙ sym (flat_map-append write (take size xs) (drop size xs))
      ∙ ap (flat_map write) (take-append-drop size xs)

-- so many parts, of a size that is rounded up, have room for all entries
room : (n count : ℕ) → 1 ≤ count → n ≤ count * div_ceil n count
room n count some =
    let swapped : (m : ℕ) → count * m ≡ m * count = λ m. omega arith in
    omega (arith, (div_ceil_times n count some).0, swapped (div_ceil n count))

module _ {E : Type 0} (ledger : Parts) (count : ℕ) (results : List (Result Part E)) (parts : List Part)
    (some : 1 ≤ count) (are : results ≡ map Ok parts) (long : length results ≡ count)
    (each : (i : ℕ) (d : Result Part E) → i < count → IfOk (get_or results i d) (IsPart ledger count i)) where
  same : length parts ≡ count
  same = sym (length-map parts Ok) ∙ sym (ap length are) ∙ long

  each_is : (i : ℕ) (d : Part) → i < length parts → IsPart ledger count i (get_or parts i d)
  each_is i d lt =
      let at : get_or results i (Ok d) ≡ Ok (get_or parts i d) =
      ap (λ rs. get_or rs i (Ok d)) are ∙ get_or-map Ok parts i d (Ok d) lt in
      IfOk-at_ok (IsPart ledger count i) at (each i (Ok d) (omega (arith, lt, same)))

  fits : (n : ℕ) → n ≤ length parts * div_ceil n count
  fits n = rw same (room n count some)

  pub accounts_told : flat_map (λ (part : Part). part.accounts) parts
      ≡ flat_map (account_bytes ledger.version) ledger.accounts
  accounts_told =
      in_chunks (λ (part : Part). part.accounts) (account_bytes ledger.version) (div_ceil (length ledger.accounts) count)
      ledger.accounts parts (fits (length ledger.accounts)) (λ i d lt. (each_is i d lt).accounts)

  pub offers_told : flat_map (λ (part : Part). part.offers) parts ≡ flat_map offer_bytes ledger.offers
  offers_told =
      in_chunks (λ (part : Part). part.offers) offer_bytes (div_ceil (length ledger.offers) count) ledger.offers parts
      (fits (length ledger.offers)) (λ i d lt. (each_is i d lt).offers)
