-- What a ledger says of one transaction, whatever stands beside it in a block.
use Rattle.std.specs.Prelude.{ℕ, ◌+◌, ◌*◌, ◌^◌, Bool, false, not, List, [], ◌∷◌, Result, Ok, Err, nat_lt, nat_le}
use Rattle.std.specs.Prelude.{◌==◌, ◌||◌, if◌then◌else◌}
use Rattle.std.specs.List.{list_any}
use Rattle.sx_ledger.specs.declared.account.Account.{Account}
use Rattle.sx_ledger.specs.declared.key.Key.{Key}
use Rattle.sx_ledger.specs.declared.offer.Offer.{Offer}
use Rattle.sx_ledger.specs.declared.parts.Parts.{Parts}
use Rattle.sx_ledger.specs.declared.statics.Static.{Static}
use Rattle.sx_ledger.specs.declared.statics.Static.TheVariants.{UnknownAccount, SeqBehind, SeqBeyond, UnknownAsset}
use Rattle.sx_ledger.specs.declared.statics.Static.TheVariants.{SamePair, UnknownPayee, AccountExists, NoSuchOffer}
use Rattle.sx_ledger.specs.declared.statics.Static.TheVariants.{Dust, SeqUsed}
use Rattle.sx_ledger.specs.Ledger.{assets_of}
use Rattle.sx_ledger.specs.Order.{key_of, same_key}
use Rattle.sx_tx.specs.declared.kind.Kind.{Kind}
use Rattle.sx_tx.specs.declared.kind.Kind.TheVariants as kind
use Rattle.sx_tx.specs.declared.tx.Tx.{Tx}
use Rattle.sx_tx.specs.declared.window.Window.{Window}
use Rattle.sx_tx.specs.Window.{is_marked, open_numbers}

abbrev pub number_of_static : Static → ℕ
number_of_static UnknownAccount = 1
number_of_static SeqBehind = 2
number_of_static SeqBeyond = 3
number_of_static UnknownAsset = 4
number_of_static SamePair = 5
number_of_static UnknownPayee = 6
number_of_static AccountExists = 7
number_of_static NoSuchOffer = 8
number_of_static Dust = 9
number_of_static SeqUsed = 10

-- an account of this id is there
abbrev pub has_account : List Account → ℕ → Bool
has_account accounts id = list_any (λ account. account.id.0 == id) accounts

-- the window of the account, which is that of a new account where it is not there
abbrev pub window_of : List Account → ℕ → Window
window_of [] id = record { last = 0; used = 0 }
window_of (account ∷ accounts) id = if account.id.0 == id then account.window else window_of accounts id

-- an offer of this key is there
abbrev pub has_offer : List Offer → Key → Bool
has_offer offers key = list_any (λ offer. same_key (key_of offer) key) offers

-- it names an asset that is not among `assets` assets
abbrev pub names_beyond : ℕ → Kind → Bool
names_beyond assets (kind.Pay asset to amount) = nat_le assets asset
names_beyond assets (kind.Create id) = false
names_beyond assets (kind.Offer sell buy limit amount) = nat_le assets sell || nat_le assets buy
names_beyond assets (kind.Cancel sell buy limit seq) = nat_le assets sell || nat_le assets buy

-- an offer or a cancellation of one asset for itself
abbrev pub is_same_pair : Kind → Bool
is_same_pair (kind.Pay asset to amount) = false
is_same_pair (kind.Create id) = false
is_same_pair (kind.Offer sell buy limit amount) = sell == buy
is_same_pair (kind.Cancel sell buy limit seq) = sell == buy

-- a payment to an account that is not there
abbrev pub pays_unknown : List Account → Kind → Bool
pays_unknown accounts (kind.Pay asset to amount) = not (has_account accounts to.0)
pays_unknown accounts (kind.Create id) = false
pays_unknown accounts (kind.Offer sell buy limit amount) = false
pays_unknown accounts (kind.Cancel sell buy limit seq) = false

-- a creation of an account that is there
abbrev pub creates_known : List Account → Kind → Bool
creates_known accounts (kind.Pay asset to amount) = false
creates_known accounts (kind.Create id) = has_account accounts id.0
creates_known accounts (kind.Offer sell buy limit amount) = false
creates_known accounts (kind.Cancel sell buy limit seq) = false

-- a cancellation, by this account, of an offer that is not there
abbrev pub cancels_unknown : List Offer → ℕ → Kind → Bool
cancels_unknown offers account (kind.Pay asset to amount) = false
cancels_unknown offers account (kind.Create id) = false
cancels_unknown offers account (kind.Offer sell buy limit amount) = false
cancels_unknown offers account (kind.Cancel sell buy limit seq) =
    not (has_offer offers (record {
      sell = sell;
      buy = buy;
      limit = limit;
      account = record { 0 = account };
      seq = seq;
    }))

-- an offer that buys less than one unit at its limit
abbrev pub is_dust : Kind → Bool
is_dust (kind.Pay asset to amount) = false
is_dust (kind.Create id) = false
is_dust (kind.Offer sell buy limit amount) = nat_lt (amount * limit) (2 ^ 24)
is_dust (kind.Cancel sell buy limit seq) = false

-- each reason with whether it holds, in the order in which they count
abbrev pub static_list : Parts → Tx → List (Bool × Static)
static_list parts tx =
    (not (has_account parts.accounts tx.account.0), UnknownAccount)
    ∷ (nat_le tx.seq (window_of parts.accounts tx.account.0).last, SeqBehind)
    ∷ (nat_lt ((window_of parts.accounts tx.account.0).last + open_numbers) tx.seq, SeqBeyond)
    ∷ (is_marked (window_of parts.accounts tx.account.0) tx.seq, SeqUsed)
    ∷ (names_beyond (assets_of parts) tx.kind, UnknownAsset)
    ∷ (is_same_pair tx.kind, SamePair)
    ∷ (pays_unknown parts.accounts tx.kind, UnknownPayee)
    ∷ (creates_known parts.accounts tx.kind, AccountExists)
    ∷ (cancels_unknown parts.offers tx.account.0 tx.kind, NoSuchOffer)
    ∷ (is_dust tx.kind, Dust)
    ∷ []

-- the first reason that holds
abbrev pub first_holding : List (Bool × Static) → Result (Unit {0}) Static
first_holding [] = Ok tt
first_holding (reason ∷ reasons) = if reason.0 then Err reason.1 else first_holding reasons

-- the first reason why the ledger refuses the transaction
abbrev pub static_of : Parts → Tx → Result (Unit {0}) Static
static_of parts tx = first_holding (static_list parts tx)
