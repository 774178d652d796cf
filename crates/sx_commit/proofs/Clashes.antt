-- Why two ways that end at one root have a collision.
use Rattle.std.proofs.Common.{◌≡◌, ◌≢◌, ℕ, zero, suc, ◌%◌, ◌/◌, ◌^◌, ◌<◌, Bool, true, false, cond, nat_eq, List, ◌++◌, length}
use Rattle.std.proofs.Common.{take, drop, get_or, inl, inr, sym, ap, ◌∙◌, subst, arith}
use Rattle.std.specs.Prelude.{slice_get}
use Rattle.std.specs.List.{All}
use Rattle.std.proofs.Math.Seq.{drop-append_seam, take-append_seam}
use Rattle.std.proofs.lemmas.Option.{slice_get_cases}
use Rattle.sha2.specs.Sha256.{sha256}
use Rattle.sha2.proofs.Facts256.{length-sha256}
use Rattle.sx_block.specs.Digest.{IsDigest}
use Rattle.sx_block.specs.declared.proof.Proof.{Proof}
use Rattle.sx_commit.specs.Clashes.{AreWhole, IsSaid}
use Rattle.sx_commit.specs.Commitments.{bytes_of, digest_at, folded, joined, joined_bytes, leaf_bytes, levels}
use Rattle.sx_commit.specs.Commitments.{most_places, node_bytes, place_beside, root_of, sibling_at, siblings_of}
use Rattle.sx_commit.proofs.Folding.{root_reached}
use Rattle.sx_commit.proofs.Listing.{listed_at, listed_length}
use Rattle.sx_ledger.specs.declared.parts.Parts.{Parts}

-- the first bytes of two lists, and those after them
front : (n : ℕ) (xs ys : List ℕ) → length xs ≡ n → take n (xs ++ ys) ≡ xs
front n xs ys is = subst (λ (k : ℕ). take k (xs ++ ys) ≡ xs) is (take-append_seam xs ys)

back : (n : ℕ) (xs ys : List ℕ) → length xs ≡ n → drop n (xs ++ ys) ≡ ys
back n xs ys is = subst (λ (k : ℕ). drop k (xs ++ ys) ≡ ys) is (drop-append_seam xs ys)

-- digests under one node are those of its bytes
module _ (a s b t : List ℕ) (a_whole : length a ≡ 32) (s_whole : length s ≡ 32) (b_whole : length b ≡ 32)
    (t_whole : length t ≡ 32) where
  same_in : (even : Bool) → cond even (node_bytes a s) (node_bytes s a) ≡ cond even (node_bytes b t) (node_bytes t b)
      → a ≡ b
  same_in true is =
      sym (front 32 a s a_whole) ∙ ap (λ (l : List ℕ). take 32 (drop 1 l)) is ∙ front 32 b t b_whole
  same_in false is =
      sym (back 32 s a s_whole) ∙ ap (λ (l : List ℕ). drop 32 (drop 1 l)) is ∙ back 32 t b t_whole

  pub bytes_differ : (place : ℕ) → a ≢ b → joined_bytes place a s ≢ joined_bytes place b t
  bytes_differ place differ is = differ (same_in (nat_eq (place % 2) 0) is)

-- ---- siblings

pub read_whole : (siblings : List (List ℕ)) (k : ℕ) (sibling : List ℕ) → AreWhole siblings
    → sibling ≡ get_or siblings k sibling → k < length siblings → length sibling ≡ 32
read_whole siblings k sibling are is lt = ap length is ∙ are k sibling lt

pub digests_whole : (siblings : List (List ℕ)) → All IsDigest siblings → AreWhole siblings
digests_whole siblings are k d lt = (are k d lt).whole

digest_whole : (parts : Parts) (k place : ℕ) → length (digest_at parts k place) ≡ 32
unfolding digest_at
digest_whole parts zero place = length-sha256 _
digest_whole parts (suc k) place = length-sha256 _

pub siblings_whole : (parts : Parts) (place : ℕ) (siblings : List (List ℕ)) → siblings ≡ siblings_of parts place
    → AreWhole siblings
siblings_whole parts place siblings is =
    subst AreWhole (sym is)
    (λ k d lt. ap length (listed_at (sibling_at parts place) levels k d
    (omega (arith, lt, listed_length (sibling_at parts place) levels)))
    ∙ digest_whole parts k (place_beside (place / 2 ^ k)))

pub joined_whole : (place : ℕ) (digest sibling next : List ℕ) → next ≡ joined place digest sibling → length next ≡ 32
joined_whole place digest sibling next is = ap length is ∙ length-sha256 (joined_bytes place digest sibling)

pub text_whole : (text digest : List ℕ) → digest ≡ sha256 text → length digest ≡ 32
text_whole text digest is = ap length is ∙ length-sha256 text

pub siblings_length : (parts : Parts) (place : ℕ) (siblings : List (List ℕ)) → siblings ≡ siblings_of parts place
    → length siblings ≡ levels
siblings_length parts place siblings is = ap length is ∙ listed_length (sibling_at parts place) levels

-- ---- leaves

-- where the bytes are the same, there is an account
pub is_said : (parts : Parts) (proof : Proof)
    → bytes_of parts.version (slice_get parts.accounts proof.place) ≡ leaf_bytes proof.version proof.account
    → IsSaid parts proof
is_said parts proof is =
    let cases = slice_get_cases parts.accounts proof.place in
    elim cases.1 [
      | inl there ↦ (there.1, is)
      | inr past ↦
          let first : 2 ≡ 0 =
          ap (λ (l : List ℕ). get_or l 0 0) (sym (ap (bytes_of parts.version) past.1) ∙ is) in
          absurd (omega (arith, first))
    ]

pub one_root : (parts : Parts) (proof : Proof) (text own : List ℕ) (siblings : List (List ℕ)) (said : List ℕ)
    → proof.place < most_places
    → text ≡ bytes_of parts.version (slice_get parts.accounts proof.place)
    → own ≡ sha256 text
    → siblings ≡ siblings_of parts proof.place
    → said ≡ sha256 (leaf_bytes proof.version proof.account)
    → folded proof.place proof.siblings (sha256 (leaf_bytes proof.version proof.account)) levels ≡ root_of parts
    → folded proof.place siblings own levels ≡ folded proof.place proof.siblings said levels
unfolding digest_at
one_root parts proof text own siblings said lt text_is own_is siblings_are said_is good =
    (λ i. folded proof.place (siblings_are i) ((own_is ∙ ap sha256 text_is) i) levels)
    ∙ root_reached parts proof.place lt
    ∙ sym good
    ∙ ap (λ (leaf : List ℕ). folded proof.place proof.siblings leaf levels) (sym said_is)
