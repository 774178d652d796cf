-- What SHA-256 answers is a digest.
use Rattle.std.proofs.Common.{ℕ, zero, suc, ◌-◌, ◌^◌, ◌/◌, List, ◌++◌, length, inl, inr, refl, sym, subst, arith}
use Rattle.std.specs.Int.{to_be_bytes, w32}
use Rattle.std.specs.Prelude.{slice_index}
use Rattle.std.specs.List.{All}
use Rattle.std.proofs.lemmas.Bool.{cases_lt}
use Rattle.std.proofs.lemmas.List.{get_or_append_left, get_or-append_right}
use Rattle.sha2.specs.Sha256.{digest_bytes, sha256}
use Rattle.sha2.proofs.Facts256.{length-sha256}
use Rattle.sx_block.specs.Digest.{IsDigest}
use Rattle.sx_bytes.specs.Field.{AreBytes}
use Rattle.sx_bytes.proofs.Field.{AreBytes-big_bytes}
use Rattle.sx_commit.specs.Commitments.{digest_at, levels, place_beside, sibling_at, siblings_of}
use Rattle.sx_commit.proofs.Listing.{listed_at, listed_length}
use Rattle.sx_ledger.specs.declared.parts.Parts.{Parts}

bytes_append : (xs ys : List ℕ) → AreBytes xs → AreBytes ys → AreBytes (xs ++ ys)
bytes_append xs ys are are' i =
    elim (cases_lt i (length xs)) [
      | inl front ↦ rw (get_or_append_left xs ys 0 i front) (are i)
      | inr back ↦ rw (get_or-append_right xs ys (length xs) i 0 refl back) (are' (i - length xs))
    ]

digest_bytes_are : (h : List ℕ) (n : ℕ) → AreBytes (digest_bytes h n)
unfolding digest_bytes
digest_bytes_are h zero i = omega arith
digest_bytes_are h (suc n) i =
    bytes_append (digest_bytes h n) (to_be_bytes w32 (slice_index h n)) (digest_bytes_are h n)
    (AreBytes-big_bytes 4 (slice_index h n)) i

is_digest : (message : List ℕ) → IsDigest (sha256 message)
unfolding sha256
is_digest message = record { whole = length-sha256 message; bytes = digest_bytes_are _ 8 }

pub digest_is : (parts : Parts) (k place : ℕ) → IsDigest (digest_at parts k place)
unfolding digest_at
digest_is parts zero place = is_digest _
digest_is parts (suc k) place = is_digest _

pub siblings_are : (parts : Parts) (place : ℕ) → All IsDigest (siblings_of parts place)
siblings_are parts place k d lt =
    subst IsDigest
    (sym (listed_at (sibling_at parts place) levels k d (omega (arith, lt, listed_length (sibling_at parts place) levels))))
    (digest_is parts k (place_beside (place / 2 ^ k)))
