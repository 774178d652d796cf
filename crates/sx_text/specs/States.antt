-- The text of a state.
use Rattle.std.specs.Prelude.{ℕ, List, [], ◌++◌, codes, length, slice_index, ◌==◌, if◌then◌else◌}
use Rattle.std.specs.Fmt.{decimal}
use Rattle.std.specs.List.{flat_map}
use Rattle.sx_ledger.specs.declared.account.Account.{Account}
use Rattle.sx_ledger.specs.declared.offer.Offer.{Offer}
use Rattle.sx_ledger.specs.declared.parts.Parts.{Parts}
use Rattle.sx_text.specs.Pieces.{indexed, line, spaced}

abbrev pub state_line : Parts → List ℕ
state_line parts =
    codes "state version " ++ (decimal parts.version ++ (codes " height " ++ (decimal parts.height
    ++ (codes " assets " ++ line (decimal (length parts.prices))))))

-- the price of an asset, and what rounding keeps of it
abbrev pub asset_line : List ℕ → ℕ → ℕ → List ℕ
asset_line rounding asset price =
    codes "asset " ++ (decimal asset ++ (codes " price " ++ (decimal price
    ++ (codes " rounding " ++ line (decimal (slice_index rounding asset))))))

-- the map of used sequence numbers, which version 1 does not have
abbrev pub used_text : ℕ → ℕ → List ℕ
used_text version used = if version == 1 then [] else codes " used " ++ decimal used

abbrev pub account_line : ℕ → Account → List ℕ
account_line version account =
    codes "account " ++ (decimal account.id.0 ++ (codes " last " ++ (decimal account.window.last
    ++ (used_text version account.window.used ++ (codes " balances" ++ line (spaced account.balances))))))

abbrev pub offer_line : Offer → List ℕ
offer_line offer =
    codes "offer " ++ (decimal offer.sell ++ (codes " " ++ (decimal offer.buy ++ (codes " limit " ++ (decimal offer.limit
    ++ (codes " account " ++ (decimal offer.account.0 ++ (codes " seq " ++ (decimal offer.seq
    ++ (codes " amount " ++ line (decimal offer.amount)))))))))))

abbrev pub state_text : Parts → List ℕ
state_text parts =
    state_line parts ++ (indexed (asset_line parts.rounding) parts.prices
    ++ (flat_map (account_line parts.version) parts.accounts ++ flat_map offer_line parts.offers))
