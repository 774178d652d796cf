-- What is written of an account is nothing, or the record of a good proof of it.
use Rattle.std.proofs.Common.{◌≡◌, ℕ, zero, suc, ◌+◌, ◌<◌, Bool, true, false, List, [], ◌∷◌, ◌++◌, length, Option}
use Rattle.std.proofs.Common.{None, Some, slice_get, inl, inr, refl, sym, ap, subst, ◌∙◌, arith}
use Rattle.std.proofs.lemmas.List.{append-nil}
use Rattle.std.proofs.lemmas.Option.{slice_get_cases}
use Rattle.std.specs.Prelude.{◌==◌, ◌⊎◌, if◌then◌else◌}
use Rattle.sx_commit.specs.Claim.{Claim, IsClaim}
use Rattle.sx_commit.specs.Commitments.{IsGood, most_places, root_of}
use Rattle.sx_commit.specs.Laws.{TrueIsClaim, TrueIsGood}
use Rattle.sx_ledger.specs.declared.account.Account.{Account}
use Rattle.sx_ledger.specs.declared.parts.Parts.{Parts}
use Rattle.sx_ledger.specs.Ledger.{IsLedger}
use Rattle.sx_meaning.specs.Findings.{FindsAtEnd, MayComeAll, no_fault}
use Rattle.sx_meaning.specs.Items.{Item, item_record, proof, state}
use Rattle.sx_meaning.specs.Outputs.{MayWrite, Writes}
use Rattle.sx_meaning.specs.ProofLaws.{ProvedIsGood, ProvesAccount}
use Rattle.sx_meaning.specs.Proving.{account_from, proof_in, proved, shown_account}
use Rattle.sx_meaning.proofs.ItemLists.{needed_listed}
use Rattle.sx_record.specs.Tags.{proof_tag}
use Rattle.sx_text.specs.Verdict.{proof_text}
use Rattle.sx_words.specs.declared.command.Command.TheVariants.{Prove, Verify}

-- ---- the account of an id

-- it stands so many places behind the first one
pub record IsFound (id first : ℕ) (accounts : List Account) (place : ℕ) (account : Account) : Type 0 where
  pub steps : ℕ
  pub place_is : place ≡ first + steps
  pub there : slice_get accounts steps ≡ Some account
  pub is_id : account.id.0 ≡ id

same_place : (one other : ℕ × Account) → Some one ≡ Some other → one ≡ other
same_place one other e = cc

found_here : (id first : ℕ) (head : Account) (others : List Account) (place : ℕ) (account : Account)
    → (head.id.0 == id) ≡ true → ◌≡◌ {A = Option (ℕ × Account)} (Some (first, head)) (Some (place, account))
    → IsFound id first (head ∷ others) place account
found_here id first head others place account is e =
    let same = same_place (first, head) (place, account) e in
    let is_place = ap (λ (p : ℕ × Account). p.0) same in
    let is_account = ap (λ (p : ℕ × Account). p.1) same in
    record {
      steps = 0;
      place_is = omega (arith, is_place);
      there = ap (λ (a : Account). Some a) is_account;
      is_id = ap (λ (a : Account). a.id.0) (sym is_account) ∙ grind (arith, is);
    }

pub account_found : (id first : ℕ) (accounts : List Account) (place : ℕ) (account : Account)
    → account_from id first accounts ≡ Some (place, account) → IsFound id first accounts place account
account_found id first [] place account e = absurd cc
account_found id first (head ∷ others) place account e =
    elim (head.id.0 == id) as (λ (b : Bool). (head.id.0 == id) ≡ b
    → ◌≡◌ {A = Option (ℕ × Account)} (if b then Some (first, head) else account_from id (first + 1) others)
    (Some (place, account))
    → IsFound id first (head ∷ others) place account) [
      | true ↦ λ is here. found_here id first head others place account is here
      | false ↦ λ is here.
          let found = account_found id (first + 1) others place account here in
          record {
            steps = suc found.steps;
            place_is = omega (arith, found.place_is);
            there = found.there;
            is_id = found.is_id;
          }
    ] refl e

-- ---- the record of a proof is verified

verified : (claim : Claim) → IsClaim claim → IsGood claim.0 claim.1
    → MayWrite Verify (item_record (proof claim)) (proof_text claim.0 claim.1 true) []
verified claim is good = record {
  found = record {
    items = proof claim ∷ [];
    rest = [];
    each = (record { listed = needed_listed proof_tag; form = is; goes_on = tt }, tt);
    read = sym (append-nil (item_record (proof claim) ++ []) ∙ append-nil (item_record (proof claim)));
    finds = record {
      done = (refl, refl);
      may = refl;
      concludes = record { claim = claim; are = refl; finds = refl };
    };
  };
  writes = record { good = true; tells = (λ _. good, λ _. refl); written = refl };
}

module _ (true_is_good : TrueIsGood) (true_is_claim : TrueIsClaim) where
  proves : (id : ℕ) (parts : Parts) (place : ℕ) (account : Account) (text : List ℕ) → IsLedger parts
      → account_from id 0 parts.accounts ≡ Some (place, account)
      → text ≡ item_record (proof (root_of parts, proof_in parts place account)) → ProvesAccount id text
  proves id parts place account text is from written =
      let found = account_found id 0 parts.accounts place account from in
      let same : place ≡ found.steps = omega (arith, found.place_is) in
      let there : slice_get parts.accounts place ≡ Some account = ap (slice_get parts.accounts) same ∙ found.there in
      let within : place < length parts.accounts = (elim (slice_get_cases parts.accounts place).1 [
        | inl at ↦ at.1
        | inr none ↦ absurd (let both = sym none.1 ∙ there in cc)
      ]) in
      let few : place < most_places = omega (arith, within, is.few_accounts) in
      let shown = proof_in parts place account in
      let claim : Claim = (root_of parts, shown) in
      record {
        claim = claim;
        is_id = found.is_id;
        written = written;
        good = subst (λ (t : List ℕ). MayWrite Verify t (proof_text claim.0 claim.1 true) []) (sym written)
            (verified claim (true_is_claim parts shown is few refl there refl)
            (true_is_good parts shown few refl there refl));
      }

  of_place : (id : ℕ) (parts : Parts) (text : List ℕ) → IsLedger parts → (from : Option (ℕ × Account))
      → account_from id 0 parts.accounts ≡ from → text ≡ shown_account parts from
      → (text ≡ []) ⊎ ProvesAccount id text
  of_place id parts text is None from written = inl written
  of_place id parts text is (Some at) from written = inr (proves id parts at.0 at.1 text is from written)

  pub proved_is_good : ProvedIsGood
  proved_is_good id bytes text left x =
      let found = x.found in
      let end : FindsAtEnd (Prove id) found.items found.rest no_fault left = found.finds in
      let c = end.concludes in
      let wrote = subst (λ (l : List Item). Writes (Prove id) l text) c.are x.writes in
      let each = subst (λ (l : List Item). MayComeAll (Prove id) [] l) c.are found.each in
      of_place id c.parts text each.0.form (account_from id 0 c.parts.accounts) refl wrote
