-- What transactions take from accounts and give to them: plain sums over a list.
use Rattle.std.specs.Prelude.{ℕ, ◌+◌, List, [], ◌∷◌, Option, Some, None, ◌==◌, ◌&&◌, if◌then◌else◌}
use Rattle.sx_ledger.specs.declared.key.Key.{Key}
use Rattle.sx_ledger.specs.declared.offer.Offer.{Offer}
use Rattle.sx_ledger.specs.Order.{key_of, same_key}
use Rattle.sx_tx.specs.declared.kind.Kind.{Kind}
use Rattle.sx_tx.specs.declared.kind.Kind.TheVariants as kind
use Rattle.sx_tx.specs.declared.tx.Tx.{Tx}

-- units of an asset at an account
pub record Posting : Type 0 where
  pub account : ℕ
  pub asset : ℕ
  pub units : ℕ

-- the amount of the offer of this key, 0 where there is none
abbrev pub amount_of : List Offer → Key → ℕ
amount_of [] key = 0
amount_of (offer ∷ offers) key = if same_key (key_of offer) key then offer.amount else amount_of offers key

-- a payment is debited to its account, and so is what is put on offer
abbrev pub debit_of : ℕ → Kind → Option Posting
debit_of account (kind.Pay asset to amount) = Some (record { account = account; asset = asset; units = amount })
debit_of account (kind.Create id) = None
debit_of account (kind.Offer sell buy limit amount) =
    Some (record { account = account; asset = sell; units = amount })
debit_of account (kind.Cancel sell buy limit seq) = None

abbrev pub debit : Tx → Option Posting
debit tx = debit_of tx.account.0 tx.kind

-- a payment is credited to the payee, and a cancelled offer, of the offers at the opening, to its account
abbrev pub credit_of : List Offer → ℕ → Kind → Option Posting
credit_of offers account (kind.Pay asset to amount) = Some (record { account = to.0; asset = asset; units = amount })
credit_of offers account (kind.Create id) = None
credit_of offers account (kind.Offer sell buy limit amount) = None
credit_of offers account (kind.Cancel sell buy limit seq) =
    let key : Key = record { sell = sell; buy = buy; limit = limit; account = record { 0 = account }; seq = seq } in
    Some (record { account = account; asset = sell; units = amount_of offers key })

abbrev pub credit : List Offer → Tx → Option Posting
credit offers tx = credit_of offers tx.account.0 tx.kind

-- the units that are posted of an asset at an account
abbrev pub posted : Option Posting → ℕ → ℕ → ℕ
posted None account asset = 0
posted (Some posting) account asset =
    if (posting.account == account) && (posting.asset == asset) then posting.units else 0

abbrev pub debits : List Tx → ℕ → ℕ → ℕ
debits [] account asset = 0
debits (tx ∷ txs) account asset = posted (debit tx) account asset + debits txs account asset

abbrev pub credits : List Offer → List Tx → ℕ → ℕ → ℕ
credits offers [] account asset = 0
credits offers (tx ∷ txs) account asset = posted (credit offers tx) account asset + credits offers txs account asset
