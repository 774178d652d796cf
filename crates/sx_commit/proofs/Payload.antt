-- A whole payload: what is read is encoded so, and what is encoded so is read.
use Rattle.std.proofs.Common.{◌≡◌, ℕ, cond, eqb, List, [], ◌++◌, length, Result, Ok, Err, refl, sym, ap, subst, ◌∙◌}
use Rattle.std.proofs.Common.{arith}
use Rattle.std.specs.Prelude.{IfOk}
use Rattle.std.proofs.lemmas.Bool.{eqb-true, eq-eqb}
use Rattle.std.proofs.lemmas.List.{append-nil, nil_from_length}
use Rattle.sx_bytes.specs.declared.fault.Form.TheVariants as form
use Rattle.sx_bytes.specs.declared.fault.FormFault.{FormFault}
use Rattle.sx_bytes.specs.declared.fault.ReadError.{ReadError}
use Rattle.sx_bytes.specs.Field.{AreBytes}
use Rattle.sx_bytes.specs.Cursor.{Cursor, rest, left}
use Rattle.sx_bytes.specs.Grammar.{Gives}
use Rattle.sx_bytes.specs.Laws.{IsInjective, IsPrefixFree}
use Rattle.sx_bytes.proofs.Grammar.{bind_ok, guard_ok, length-rest}
use Rattle.sx_bytes.proofs.Parts.{is_injective, is_prefix_free}
use Rattle.sx_commit.specs.Claim.{Claim, IsClaim}
use Rattle.sx_commit.specs.Decoding.{claim_at, proof_at}
use Rattle.sx_commit.specs.Encoding.{claim_bytes}
use Rattle.sx_commit.proofs.ProofLaws.{claim_takes, claim_again}

pub proofs_of_one_encoding : IsInjective claim_bytes IsClaim
proofs_of_one_encoding = is_injective claim_at claim_bytes IsClaim claim_again

pub proofs_no_prefix : IsPrefixFree claim_bytes IsClaim
proofs_no_prefix = is_prefix_free claim_at claim_bytes IsClaim claim_again

abbrev start : List ℕ → Cursor
start bytes = record { bytes = bytes; place = 0 }

abbrev at_end : Claim × Cursor → Result Claim FormFault
at_end claim = cond (eqb (left claim.1) 0) (Ok claim.0) (Err (record { at = claim.1.place; fault = form.Rest }))

proof_takes : (bytes : List ℕ) (x : Claim) → AreBytes bytes → proof_at bytes ≡ Ok x
    → IsClaim x × (bytes ≡ claim_bytes x)
unfolding proof_at
proof_takes bytes x are e =
    let a = bind_ok (claim_at (start bytes)) at_end x e in
    let t = claim_takes (start bytes) a.0.1 a.0.0 are a.1 in
    let g = guard_ok (eqb (left a.0.1) 0) a.0.0 x (record { at = a.0.1.place; fault = form.Rest }) a.2 in
    let ended : left a.0.1 ≡ 0 = eqb-true (left a.0.1) 0 g.0 in
    let none : rest a.0.1 ≡ [] = nil_from_length (rest a.0.1) (length-rest a.0.1 ∙ ended) in
    let text : bytes ≡ claim_bytes a.0.0 =
    t.0.parts ∙ ap (λ (r : List ℕ). claim_bytes a.0.0 ++ r) none ∙ append-nil (claim_bytes a.0.0) in
    subst (λ (y : Claim). IsClaim y × (bytes ≡ claim_bytes y)) g.1 (t.1, text)

proof_again : (x : Claim) → IsClaim x → proof_at (claim_bytes x) ≡ Ok x
unfolding proof_at
proof_again x is =
    let a = claim_again (start (claim_bytes x)) x [] is (omega arith) (sym (append-nil (claim_bytes x))) in
    let ended : left a.next ≡ 0 = sym (length-rest a.next) ∙ ap length a.rest_is in
    rw a.is (rw (eq-eqb (left a.next) 0 ended) refl)

-- ---- what the reader answers

pub found_in : (bytes : List ℕ) (r : Result Claim ReadError) → AreBytes bytes
    → Gives (λ claim. claim) r (proof_at bytes) → IfOk r (λ claim. IsClaim claim × (bytes ≡ claim_bytes claim))
found_in bytes (Ok claim) are e = proof_takes bytes claim are e
found_in bytes (Err error) are e = tt

pub only_in : (bytes : List ℕ) (r : Result Claim ReadError) (x : Claim) → Gives (λ claim. claim) r (proof_at bytes)
    → IsClaim x → bytes ≡ claim_bytes x → Gives (λ claim. claim) r (Ok x)
only_in bytes r x given is e =
    subst (λ (read : Result Claim FormFault). Gives (λ claim. claim) r read) (ap proof_at e ∙ proof_again x is) given
