-- Why a proof of what stands at its place is good.
use Rattle.std.proofs.Common.{◌≡◌, ℕ, zero, suc, ◌+◌, ◌-◌, ◌*◌, ◌/◌, ◌%◌, ◌^◌, ◌<◌, ◌≤◌, List, [], length, get_or}
use Rattle.std.proofs.Common.{Some, inl}
use Rattle.std.proofs.Common.{inr, refl, sym, ap, ◌∙◌, arith, add-one, nat_eq, true, false}
use Rattle.std.specs.Prelude.{slice_get}
use Rattle.std.proofs.lemmas.Bool.{cases_eq, eq-eqb, ne_eqb}
use Rattle.std.proofs.lemmas.List.{get_or_read}
use Rattle.std.proofs.lemmas.Nat.{shr-shr}
use Rattle.sha2.specs.Sha256.{sha256}
use Rattle.sx_commit.specs.Commitments.{digest_at, folded, joined, leaf_bytes, levels}
use Rattle.sx_commit.specs.Commitments.{most_places, node_bytes, place_beside, root_of, sibling_at, siblings_of}
use Rattle.sx_commit.specs.Laws.{GoodForOne, TrueIsGood}
use Rattle.sx_commit.proofs.Listing.{listed_at}
use Rattle.sx_ledger.specs.declared.account.Account.{Account}
use Rattle.sx_ledger.specs.declared.parts.Parts.{Parts}

-- halved once more
pub halved : (place k : ℕ) → place / 2 ^ k / 2 ≡ place / 2 ^ suc k
halved place k = shr-shr place k 1 ∙ ap (λ (n : ℕ). place / 2 ^ n) (add-one k)

module _ (parts : Parts) where
  -- a digest of the tree and the one beside it lead to the digest over them
  pub joined_is : (k place : ℕ) → joined place (digest_at parts k place) (digest_at parts k (place_beside place))
      ≡ digest_at parts (suc k) (place / 2)
  unfolding digest_at
  joined_is k place =
      elim (cases_eq (place % 2) 0) [
        | inl even ↦
            let is : nat_eq (place % 2) 0 ≡ true = eq-eqb (place % 2) 0 even in
            let left : place ≡ 2 * (place / 2) = omega arith in
            let right : place + 1 ≡ 2 * (place / 2) + 1 = omega arith in
            rw is (λ i. sha256 (node_bytes (digest_at parts k (left i)) (digest_at parts k (right i))))
        | inr odd ↦
            let is : nat_eq (place % 2) 0 ≡ false = ne_eqb (place % 2) 0 odd in
            let left : place - 1 ≡ 2 * (place / 2) = omega arith in
            let right : place ≡ 2 * (place / 2) + 1 = omega arith in
            rw is (λ i. sha256 (node_bytes (digest_at parts k (left i)) (digest_at parts k (right i))))
      ]

  pub leads_up : (place k : ℕ) → k ≤ levels
      → folded place (siblings_of parts place) (digest_at parts 0 place) k ≡ digest_at parts k (place / 2 ^ k)
  unfolding folded
  leads_up place zero le = ap (digest_at parts 0) (omega arith)
  leads_up place (suc k) le =
      let so_far : folded place (siblings_of parts place) (digest_at parts 0 place) k
      ≡ digest_at parts k (place / 2 ^ k) = leads_up place k (omega arith) in
      let sibling : get_or (siblings_of parts place) k [] ≡ sibling_at parts place k =
      listed_at (sibling_at parts place) levels k [] (omega arith) in
      (λ i. joined (place / 2 ^ k) (so_far i) (sibling i))
      ∙ joined_is k (place / 2 ^ k)
      ∙ ap (digest_at parts (suc k)) (halved place k)

  leaf_is : (place version : ℕ) (account : Account) → version ≡ parts.version
      → slice_get parts.accounts place ≡ Some account → sha256 (leaf_bytes version account) ≡ digest_at parts 0 place
  unfolding digest_at
  leaf_is place version account same there = rw (same, there) refl

  pub root_reached : (place : ℕ) → place < most_places
      → folded place (siblings_of parts place) (digest_at parts 0 place) levels ≡ root_of parts
  root_reached place lt =
      leads_up place levels (omega arith) ∙ ap (digest_at parts levels) (omega arith)

pub true_is_good : TrueIsGood
true_is_good parts proof lt version there siblings =
    let leaf = leaf_is parts proof.place proof.version proof.account version there in
    (λ i. folded proof.place (siblings i) (leaf i) levels)
    ∙ root_reached parts proof.place lt

pub good_for_one : GoodForOne
good_for_one proof one other first second = sym first ∙ second

-- one level more
pub folded_more : (place : ℕ) (siblings : List (List ℕ)) (leaf : List ℕ) (k : ℕ) (digest sibling next : List ℕ)
    → k < length siblings → digest ≡ folded place siblings leaf k → sibling ≡ get_or siblings k sibling
    → next ≡ joined (place / 2 ^ k) digest sibling → next ≡ folded place siblings leaf (k + 1)
unfolding folded
folded_more place siblings leaf k digest sibling next lt so_far is step =
    rw add-one
    (step ∙ (λ i. joined (place / 2 ^ k) (so_far i) (get_or_read siblings k sibling lt is [] i)))

pub folded_none : (place : ℕ) (siblings : List (List ℕ)) (leaf : List ℕ) → leaf ≡ folded place siblings leaf 0
unfolding folded
folded_none place siblings leaf = refl
