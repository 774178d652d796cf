-- Laws of what transactions do to accounts and offers, for all lists of them.
use Rattle.std.specs.Prelude.{◌≡◌, ℕ, ◌+◌, ◌<◌, ◌≤◌, max, Bool, false, List, [], ◌∷◌, ◌++◌, All, ◌==◌, ◌||◌}
use Rattle.std.specs.Prelude.{if◌then◌else◌}
use Rattle.std.specs.List.{filter}
use Rattle.std.specs.List.Sorted.{IsPermutation}
use Rattle.sx_ledger.specs.declared.account.Account.{Account}
use Rattle.sx_ledger.specs.declared.offer.Offer.{Offer}
use Rattle.sx_ledger.specs.declared.parts.Parts.{Parts}
use Rattle.sx_ledger.specs.Body.{IsAdmissible, IsAdmissibleIn, account_after, body_after, used_numbers, uses}
use Rattle.sx_ledger.specs.Bounds.{amounts, high_of, low_of, may_trade_at, must_trade_at}
use Rattle.sx_ledger.specs.Effects.{credits, debits}
use Rattle.sx_ledger.specs.Ledger.{IsLedger, assets_of, total_of}
use Rattle.sx_tx.specs.declared.kind.Kind.{Kind}
use Rattle.sx_tx.specs.declared.kind.Kind.TheVariants as kind
use Rattle.sx_tx.specs.declared.tx.Tx.{Tx}
use Rattle.sx_tx.specs.declared.window.Window.{Window}
use Rattle.sx_tx.specs.Transactions.{IsTx}
use Rattle.sx_tx.specs.Window.{IsWindow, Next, is_used, open_numbers}

-- ---- debits and credits

-- the debits of two lists together are those of both
abbrev pub DebitsAppend : Type 0
DebitsAppend = (xs ys : List Tx) (account asset : ℕ)
    → debits (xs ++ ys) account asset ≡ debits xs account asset + debits ys account asset

-- and so are the credits
abbrev pub CreditsAppend : Type 0
CreditsAppend =
    (offers : List Offer) (xs ys : List Tx) (account asset : ℕ) →
    credits offers (xs ++ ys) account asset ≡ credits offers xs account asset + credits offers ys account asset

-- in another order the debits are the same
abbrev pub DebitsPermuted : Type 0
DebitsPermuted = (xs ys : List Tx) (account asset : ℕ) → IsPermutation xs ys
    → debits ys account asset ≡ debits xs account asset

-- and so are the credits
abbrev pub CreditsPermuted : Type 0
CreditsPermuted =
    (offers : List Offer) (xs ys : List Tx) (account asset : ℕ) → IsPermutation xs ys →
    credits offers ys account asset ≡ credits offers xs account asset

-- ---- bounds

-- the offers that must trade have at most what those have that may trade
abbrev pub MustWithinMay : Type 0
MustWithinMay =
    (prices : List ℕ) (j : ℕ) (offers : List Offer) →
    amounts (filter (must_trade_at prices j) offers) ≤ amounts (filter (may_trade_at prices) offers)

-- the least value of a pair is at most the greatest
abbrev pub LowWithinHigh : Type 0
LowWithinHigh =
    (prices : List ℕ) (j : ℕ) (dropped : Bool) (offers : List Offer) (sell buy : ℕ) →
    low_of prices j dropped offers sell buy ≤ high_of prices offers sell buy

-- ---- accounts

-- a payment to this account
abbrev pub pays : ℕ → Kind → Bool
pays account (kind.Pay asset to amount) = to.0 == account
pays account (kind.Create id) = false
pays account (kind.Offer sell buy limit amount) = false
pays account (kind.Cancel sell buy limit seq) = false

-- the transaction is the account's own, or pays it
abbrev pub names : ℕ → Tx → Bool
names account tx = (tx.account.0 == account) || pays account tx.kind

-- an account that no transaction names does not change
abbrev pub UnnamedStays : Type 0
UnnamedStays =
    (parts : Parts) (txs : List Tx) (account : Account) → IsWindow parts.version account.window →
    All (λ tx. names account.id.0 tx ≡ false) txs →
    account_after parts txs account ≡ account

-- the greatest sequence number that an account uses, 0 where it uses none
abbrev pub greatest_number : List Tx → ℕ → ℕ
greatest_number [] account = 0
greatest_number (tx ∷ txs) account = max (if tx.account.0 == account then tx.seq else 0) (greatest_number txs account)

-- each sequence number that the account uses is among the 64 above the last one
abbrev pub InWindow : List Tx → ℕ → ℕ → Type 0
InWindow txs account last = All (λ tx. tx.account.0 ≡ account → (last < tx.seq) × (tx.seq ≤ last + open_numbers)) txs

-- the last sequence number of a window is afterwards the greatest one that was used, or the old one where none was
abbrev pub LastIsGreatest : Type 0
LastIsGreatest =
    (txs : List Tx) (account : ℕ) (window : Window) → window.used ≡ 0 → InWindow txs account window.last →
    Next 1 window (used_numbers txs account window.last)
    ≡ record {
      last = (if greatest_number txs account == 0 then window.last else greatest_number txs account);
      used = 0;
    }

-- in version 2 a number is used afterwards exactly where it was used before or a transaction uses it
abbrev pub UsedByWindowOrBody : Type 0
UsedByWindowOrBody =
    (txs : List Tx) (account : ℕ) (window : Window) (seq : ℕ) → IsWindow 2 window → InWindow txs account window.last →
    is_used (Next 2 window (used_numbers txs account window.last)) seq ≡ (is_used window seq || uses txs account seq)

-- ---- the rules of the two versions

-- what version 1 admits every version admits
abbrev pub LaterAdmitsMore : Type 0
LaterAdmitsMore =
    (version : ℕ) (parts : Parts) (txs : List Tx) → IsAdmissible parts txs → IsAdmissibleIn version parts txs

-- ---- the whole body

-- the ledger after the body of a block is a ledger, where each number of the transactions is in its range
abbrev pub BodyKeepsLedger : Type 0
BodyKeepsLedger =
    (version : ℕ) (parts : Parts) (txs : List Tx) → IsLedger parts → All IsTx txs → IsAdmissibleIn version parts txs
    → IsLedger (body_after parts txs)

-- the body of a block makes and loses nothing of any asset
abbrev pub BodyConserves : Type 0
BodyConserves =
    (version : ℕ) (parts : Parts) (txs : List Tx) (asset : ℕ) → IsLedger parts → IsAdmissibleIn version parts txs →
    asset < assets_of parts →
    total_of (body_after parts txs) asset ≡ total_of parts asset
