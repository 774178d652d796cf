-- The test of a candidate against all that pass, itself among them.
use Rattle.std.specs.Prelude.{Bool, not, List, nat_le, ◌&&◌}
use Rattle.std.specs.List.{count_by}
use Rattle.sx_filter.specs.Kept.{covers, same_id, same_number, same_offer}
use Rattle.sx_ledger.specs.declared.parts.Parts.{Parts}
use Rattle.sx_ledger.specs.Ledger.{assets_of}
use Rattle.sx_tx.specs.declared.tx.Tx.{Tx}

-- the test holds at two places or more
abbrev pub is_twice : {X : Type 0} → (X → Bool) → List X → Bool
is_twice test xs = nat_le 2 (count_by test xs)

-- no second candidate of a part has its number or cancels its offer, and its account holds as much as those of the part
-- debit
abbrev pub is_fit : Parts → List Tx → Tx → Bool
is_fit parts part tx =
    not (is_twice (same_number tx) part)
    && (not (is_twice (same_offer tx) part)
    && covers parts part tx.account.0 (assets_of parts))

-- none of all others creates its account
abbrev pub is_new : List Tx → Tx → Bool
is_new passed tx = not (is_twice (same_id tx) passed)

-- no other has its number, cancels its offer or creates its account, and its account holds as much as all debit
abbrev pub is_alone : Parts → List Tx → Tx → Bool
is_alone parts passed tx =
    not (is_twice (same_number tx) passed)
    && (not (is_twice (same_offer tx) passed)
    && (not (is_twice (same_id tx) passed)
    && covers parts passed tx.account.0 (assets_of parts)))

-- whether its account holds as much as all candidates debit
abbrev pub is_covered : Parts → List Tx → Tx → Bool
is_covered parts passed tx = covers parts passed tx.account.0 (assets_of parts)
