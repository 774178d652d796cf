-- The one encoding of a state as bytes.
use Rattle.std.specs.Prelude.{ℕ, List, [], ◌++◌, length, ◌==◌, if◌then◌else◌}
use Rattle.std.specs.List.{flat_map}
use Rattle.byteorder.specs.Endian.{big_bytes}
use Rattle.sx_ledger.specs.declared.account.Account.{Account}
use Rattle.sx_ledger.specs.declared.offer.Offer.{Offer}
use Rattle.sx_ledger.specs.declared.parts.Parts.{Parts}
use Rattle.sx_tx.specs.declared.window.Window.{Window}

-- the map of used sequence numbers, which version 1 does not have
abbrev pub map_bytes : ℕ → ℕ → List ℕ
map_bytes version map = if version == 1 then [] else big_bytes 8 map

abbrev pub window_bytes : ℕ → Window → List ℕ
window_bytes version window = big_bytes 8 window.last ++ map_bytes version window.used

abbrev pub account_bytes : ℕ → Account → List ℕ
account_bytes version account =
    big_bytes 8 account.id.0 ++ (window_bytes version account.window ++ flat_map (big_bytes 8) account.balances)

abbrev pub offer_bytes : Offer → List ℕ
offer_bytes offer =
    big_bytes 1 offer.sell ++ (big_bytes 1 offer.buy ++ (big_bytes 8 offer.limit
    ++ (big_bytes 8 offer.account.0 ++ (big_bytes 8 offer.seq ++ big_bytes 8 offer.amount))))

-- what a state has before its accounts, their number included
abbrev pub opening_bytes : Parts → List ℕ
opening_bytes parts =
    big_bytes 1 parts.version ++ (big_bytes 8 parts.height ++ (big_bytes 1 (length parts.prices)
    ++ (flat_map (big_bytes 8) parts.prices ++ (flat_map (big_bytes 8) parts.rounding
    ++ big_bytes 4 (length parts.accounts)))))

-- the payload of a state's record
abbrev pub state_bytes : Parts → List ℕ
state_bytes parts =
    big_bytes 1 parts.version ++ (big_bytes 8 parts.height ++ (big_bytes 1 (length parts.prices)
    ++ (flat_map (big_bytes 8) parts.prices ++ (flat_map (big_bytes 8) parts.rounding
    ++ (big_bytes 4 (length parts.accounts) ++ (flat_map (account_bytes parts.version) parts.accounts
    ++ (big_bytes 4 (length parts.offers) ++ flat_map offer_bytes parts.offers)))))))
