-- Accounts that are decoded in parts, and of which it is tested then whether each part stands after the one before it.
use Rattle.std.specs.Prelude.{◌≡◌, ℕ, ◌-◌, ◌<◌, List, length, None, Some, Ok, slice_get}
use Rattle.sx_ledger.specs.declared.account.Account.{Account}
use Rattle.sx_state.specs.Decoding.{accounts_at}

-- so many accounts at a place of the bytes, in order, and where they end
abbrev pub AreAccountsAt : List ℕ → ℕ → ℕ → ℕ → ℕ → List Account → ℕ → Type 0
AreAccountsAt bytes version assets place count accounts end =
    accounts_at version assets count None (record { bytes = bytes; place = place })
    ≡ Ok (accounts, record { bytes = bytes; place = end })

-- the last id in front is below the first one behind
abbrev pub IsBelow : List Account → List Account → Type 0
IsBelow front back = (last first : Account) → slice_get front (length front - 1) ≡ Some last
    → slice_get back 0 ≡ Some first → last.id.0 < first.id.0
