-- What transactions cancel and create.
use Rattle.std.specs.Prelude.{◌≡◌, ℕ, Bool, List, Some, slice_get, nat_eq}
use Rattle.std.specs.BTreeSet.{contains}
use Rattle.std.specs.List.{list_any}
use Rattle.std.specs.Ordering.{nat_cmp}
use Rattle.sx_ledger.specs.declared.offer.Offer.{Offer}
use Rattle.sx_ledger.specs.declared.parts.Parts.{Parts}
use Rattle.sx_ledger.specs.Body.{cancelled, created}
use Rattle.sx_ledger.specs.Order.{key_of, same_key}
use Rattle.sx_tally.specs.declared.cancellations.Cancellations.{Cancellations}
use Rattle.sx_tally.specs.declared.creations.Creations.{Creations}
use Rattle.sx_ledger.specs.Repeats.{IsRepeat, cancels, creates}
use Rattle.sx_tx.specs.declared.tx.Tx.{Tx}

-- for each offer whether the test holds of it, at its place
abbrev pub AreFlags : (Offer → Bool) → List Offer → List Bool → Type 0
AreFlags test offers flags =
    (place : ℕ) (offer : Offer) → slice_get offers place ≡ Some offer → slice_get flags place ≡ Some (test offer)

-- for each offer of a ledger whether it is cancelled, and the first transaction that cancels one again
pub record HasCancelled (parts : Parts) (txs : List Tx) (cancellations : Cancellations) : Type 0 where
  pub flags : AreFlags (λ offer. list_any (same_key (key_of offer)) (cancelled txs)) parts.offers
      cancellations.flags.items
  pub again : IsRepeat cancels txs cancellations.again

-- the ids that are created, as a list and as a set, and the first transaction that creates one again
pub record HasCreated (txs : List Tx) (creations : Creations) : Type 0 where
  pub ids : creations.ids.items ≡ created txs
  pub set : (id : ℕ) → contains nat_cmp creations.set id ≡ list_any (nat_eq id) (created txs)
  pub again : IsRepeat creates txs creations.again
