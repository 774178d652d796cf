-- Where the debit of a candidate is that the ledger does not refuse.
use Rattle.std.proofs.Common.{◌≡◌, ℕ, ◌<◌, Bool, true, false, Some, inl, inr, refl, subst}
use Rattle.std.specs.Prelude.{nat_le, ◌||◌}
use Rattle.std.proofs.lemmas.Bool.{cases_lt, le-leb}
use Rattle.std.proofs.lemmas.Option.{same_Some}
use Rattle.sx_layout.proofs.AskedThings.{Asks}
use Rattle.sx_ledger.specs.declared.parts.Parts.{Parts}
use Rattle.sx_ledger.specs.Effects.{Posting, debit, debit_of}
use Rattle.sx_ledger.specs.Ledger.{assets_of}
use Rattle.sx_ledger.specs.Static.{names_beyond}
use Rattle.sx_tx.specs.declared.kind.Kind.{Kind}
use Rattle.sx_tx.specs.declared.kind.Kind.TheVariants as kind
use Rattle.sx_tx.specs.declared.tx.Tx.{Tx}

-- a debit is at its own account, in an asset that there is
pub record Where (parts : Parts) (account : ℕ) (posting : Posting) : Type 0 where
  pub owner : posting.account ≡ account
  pub small : posting.asset < assets_of parts

below : (n m : ℕ) → nat_le n m ≡ false → m < n
below n m fails = elim (cases_lt m n) [
  | inl lt ↦ lt
  | inr le ↦ let all : nat_le n m ≡ true = le-leb n m le in absurd cc
]

first_false : (b c : Bool) → (b || c) ≡ false → b ≡ false
first_false true c e = absurd cc
first_false false c e = refl

at_by : (parts : Parts) (account : ℕ) (of : Kind) (posting : Posting) → names_beyond (assets_of parts) of ≡ false
    → debit_of account of ≡ Some posting → Where parts account posting
at_by parts account (kind.Pay asset to amount) posting known e =
    subst (Where parts account) (same_Some (record { account = account; asset = asset; units = amount }) posting e)
    (record { owner = refl; small = below (assets_of parts) asset known })
at_by parts account (kind.Create id) posting known e = absurd cc
at_by parts account (kind.Offer sell buy limit amount) posting known e =
    subst (Where parts account) (same_Some (record { account = account; asset = sell; units = amount }) posting e)
    (record {
      owner = refl;
      small = below (assets_of parts) sell
          (first_false (nat_le (assets_of parts) sell) (nat_le (assets_of parts) buy) known);
    })
at_by parts account (kind.Cancel sell buy limit seq) posting known e = absurd cc

pub debit_at : (parts : Parts) (tx : Tx) (posting : Posting) → Asks parts tx → debit tx ≡ Some posting
    → Where parts tx.account.0 posting
debit_at parts tx posting is e = at_by parts tx.account.0 tx.kind posting is.assets e
