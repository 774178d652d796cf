-- Why a level is made right.
use Rattle.std.proofs.Common.{◌≡◌, ℕ, ◌+◌, ◌*◌, ◌<◌, ◌≤◌, List, ◌++◌, Option, length, take, drop, get_or, inl, inr}
use Rattle.std.proofs.Common.{refl, sym, ◌%◌, ◌/◌, ap, ◌∙◌, arith, add-one, zero, suc, ◌-◌, ◌^◌}
use Rattle.std.proofs.Math.Nat.{add-mul, div-le_self, mul_assoc, pow-le-pow_right, pow-succ'}
use Rattle.std.proofs.lemmas.Bool.{cases_eq, cases_lt, eq-eqb, ne_eqb}
use Rattle.std.proofs.lemmas.List.{get_or_past, take_at}
use Rattle.std.proofs.lemmas.Option.{slice_get_past, slice_get_read}
use Rattle.sha2.specs.Sha256.{sha256}
use Rattle.sx_commit.specs.declared.level.Level.{Level}
use Rattle.sx_commit.specs.Commitments.{bytes_of, digest_at, empty_bytes, leaf_bytes, node_bytes, place_beside}
use Rattle.sx_commit.specs.Levels.{AreLowest, IsAbove, IsLevel, lowest, nothing_at}
use Rattle.sx_ledger.specs.declared.account.Account.{Account}
use Rattle.sx_ledger.specs.declared.parts.Parts.{Parts}

-- the digest of what stands at a place
pub leaf_there : (parts : Parts) (place : ℕ) (account : Account) → place < length parts.accounts
    → account ≡ get_or parts.accounts place account
    → sha256 (leaf_bytes parts.version account) ≡ digest_at parts 0 place
unfolding digest_at
leaf_there parts place account within is =
    ap (λ (found : Option Account). sha256 (bytes_of parts.version found))
    (sym (slice_get_read parts.accounts (length parts.accounts) place account refl within is))

pub leaf_past : (parts : Parts) (place : ℕ) → length parts.accounts ≤ place
    → sha256 empty_bytes ≡ digest_at parts 0 place
unfolding digest_at
leaf_past parts place past =
    ap (λ (found : Option Account). sha256 (bytes_of parts.version found))
    (sym (slice_get_past parts.accounts place past))

-- the digest over two places of the level below
pub node_there : (parts : Parts) (level place : ℕ) → 1 ≤ level
    → sha256 (node_bytes (digest_at parts (level - 1) (2 * place)) (digest_at parts (level - 1) (2 * place + 1)))
    ≡ digest_at parts level place
unfolding digest_at
node_there parts zero place some = absurd (omega arith)
node_there parts (suc level) place some =
    ap (λ (n : ℕ). sha256 (node_bytes (digest_at parts n (2 * place)) (digest_at parts n (2 * place + 1))))
    (omega arith)

-- one level below there may be twice as many places
pub room_below : (level : ℕ) → 1 ≤ level → level < 64 → 2 ^ (63 - (level - 1)) ≡ 2 * 2 ^ (63 - level)
room_below level some few = ap (λ (n : ℕ). 2 ^ n) (omega arith) ∙ pow-succ' 2 (63 - level)

-- the places of a low level
pub room_low : (level : ℕ) → level ≤ 6 → 2 ^ 57 ≤ 2 ^ (63 - level)
room_low level few =
    let pos : 0 < 2 = omega arith in
    let more : 57 ≤ 63 - level = omega arith in
    pow-le-pow_right pos more

pub way_below : (place k : ℕ) → place / 2 ^ k ≤ place
way_below place k = div-le_self place (2 ^ k)

pub beside_near : (place : ℕ) → place_beside place ≤ place + 1
beside_near place =
    elim (cases_eq (place % 2) 0) [
      | inl even ↦ rw (eq-eqb (place % 2) 0 even) (omega arith)
      | inr odd ↦ rw (ne_eqb (place % 2) 0 odd) (omega arith)
    ]

-- over places without an account
pub nothing_one_up : (level : ℕ) (empty : List ℕ) → empty ≡ nothing_at level
    → sha256 (node_bytes empty empty) ≡ nothing_at (level + 1)
unfolding nothing_at
nothing_one_up level empty is = rw (is, add-one level) refl

pub nothing_first : sha256 empty_bytes ≡ nothing_at 0
unfolding nothing_at
nothing_first = refl

pub nothing_past : (parts : Parts) (k place : ℕ) → length parts.accounts ≤ place * 2 ^ k
    → nothing_at k ≡ digest_at parts k place
unfolding nothing_at digest_at
nothing_past parts zero place past = leaf_past parts place (omega (arith, past))
nothing_past parts (suc k) place past =
    let twice : place * 2 ^ suc k ≡ 2 * place * 2 ^ k =
    ap (λ (n : ℕ). place * n) (pow-succ' 2 k) ∙ sym (mul_assoc place 2 (2 ^ k))
    ∙ ap (λ (n : ℕ). n * 2 ^ k) (omega arith) in
    let left : length parts.accounts ≤ 2 * place * 2 ^ k = omega (arith, past, twice) in
    let right : length parts.accounts ≤ (2 * place + 1) * 2 ^ k = omega (arith, left, add-mul (2 * place) 1 (2 ^ k)) in
    λ i. sha256 (node_bytes (nothing_past parts k (2 * place) left i) (nothing_past parts k (2 * place + 1) right i))

-- the first digests of the lowest level, and that of places without an account, are the lowest level
pub lowest_is : (parts : Parts) (digests : List (List ℕ)) (empty : List ℕ)
    → length parts.accounts ≤ 128 * length digests
    → AreLowest parts digests
    → empty ≡ nothing_at lowest
    → (place : ℕ) → get_or digests place empty ≡ digest_at parts lowest place
lowest_is parts digests empty enough are none place =
    elim (cases_lt place (length digests)) [
      | inl within ↦ are place empty within
      | inr after ↦
          get_or_past digests place empty after ∙ none
          ∙ nothing_past parts lowest place (omega (arith, enough, after))
    ]

-- the digest over two places, of a list of digests and the one at all places after them
abbrev pub node_in : List (List ℕ) → List ℕ → ℕ → List ℕ
node_in digests empty place =
    sha256 (node_bytes (get_or digests (2 * place) empty) (get_or digests (2 * place + 1) empty))

pub above_is : (below : List (List ℕ)) (nothing : List ℕ) (digests : List (List ℕ)) (empty : List ℕ)
    → length below ≤ 2 * length digests
    → ((place : ℕ) (d : List ℕ) → place < length digests → get_or digests place d ≡ node_in below nothing place)
    → empty ≡ sha256 (node_bytes nothing nothing)
    → (place : ℕ) → get_or digests place empty ≡ node_in below nothing place
above_is below nothing digests empty enough are none place =
    elim (cases_lt place (length digests)) [
      | inl within ↦ are place empty within
      | inr after ↦
          let left : get_or below (2 * place) nothing ≡ nothing = get_or_past below (2 * place) nothing (omega arith) in
          let right : get_or below (2 * place + 1) nothing ≡ nothing =
          get_or_past below (2 * place + 1) nothing (omega arith) in
          get_or_past digests place empty after
          ∙ none ∙ (λ i. sha256 (node_bytes (sym left i) (sym right i)))
    ]

-- one level up
pub one_up : (parts : Parts) (k : ℕ) (below level : Level) → IsLevel parts k below → IsAbove below level
    → IsLevel parts (k + 1) level
unfolding digest_at
one_up parts k below level is above place =
    above place ∙ (λ i. sha256 (node_bytes (is (2 * place) i) (is (2 * place + 1) i)))
    ∙ ap (λ (n : ℕ). digest_at parts n place) (sym (add-one k))

-- ---- a list whose elements are all written anew, as its memory has it

pub written_is : {X : Type 0} (n : ℕ) (new old : List X) → length new ≡ n
    → take n (new ++ drop (length new) old) ≡ new
written_is n new old as_many = take_at new (drop (length new) old) n as_many
