-- Which candidates a filter keeps: those that pass the ledger's test and that no other candidate stands in the way of.
use Rattle.std.specs.Prelude.{ℕ, zero, suc, Bool, true, false, not, List, [], ◌∷◌, ◌++◌, Option, Some, None, is_ok}
use Rattle.std.specs.Prelude.{nat_eq, nat_le, ◌==◌, ◌&&◌, if◌then◌else◌}
use Rattle.std.specs.List.{filter, list_any}
use Rattle.sx_outcome.specs.Gathering.{in_tx_order}
use Rattle.sx_ledger.specs.declared.parts.Parts.{Parts}
use Rattle.sx_ledger.specs.Body.{cancelled_by, created_by, holding_of}
use Rattle.sx_ledger.specs.Effects.{debits}
use Rattle.sx_ledger.specs.Ledger.{assets_of}
use Rattle.sx_ledger.specs.Order.{same_key}
use Rattle.sx_ledger.specs.Static.{static_of}
use Rattle.sx_tx.specs.declared.tx.Tx.{Tx}

-- ---- the test of each candidate by itself

-- the ledger does not refuse the candidate, whatever stands beside it
abbrev pub passes : Parts → Tx → Bool
passes parts tx = is_ok (static_of parts tx)

abbrev pub passing : Parts → List Tx → List Tx
passing parts txs = filter (passes parts) txs

-- ---- what two candidates exclude each other by

-- both are there, and the test holds of the two
abbrev pub both : {K : Type 0} → (K → K → Bool) → Option K → Option K → Bool
both same None other = false
both same (Some one) None = false
both same (Some one) (Some other) = same one other

abbrev pub same_number : Tx → Tx → Bool
same_number one other = (one.account.0 == other.account.0) && (one.seq == other.seq)

-- both cancel one offer
abbrev pub same_offer : Tx → Tx → Bool
same_offer one other = both same_key (cancelled_by one one.kind) (cancelled_by other other.kind)

-- both create one account
abbrev pub same_id : Tx → Tx → Bool
same_id one other = both nat_eq (created_by one.kind) (created_by other.kind)

-- of each asset below a number, the debits of an account are at most what it holds
abbrev pub covers : Parts → List Tx → ℕ → ℕ → Bool
covers parts txs account zero = true
covers parts txs account (suc asset) =
    covers parts txs account asset
    && nat_le (debits txs account asset) (holding_of parts.accounts account asset)

-- ---- what is kept

-- A candidate out of `all`, where the others stand at other places. It passes; none of the others that pass has its
-- account and number, cancels its offer or creates its account; and of each asset, its account holds as much as all
-- that pass debit to the account.
abbrev pub is_kept : Parts → List Tx → List Tx → Tx → Bool
is_kept parts all others tx =
    passes parts tx
    && (not (list_any (same_number tx) (passing parts others))
    && (not (list_any (same_offer tx) (passing parts others))
    && (not (list_any (same_id tx) (passing parts others))
    && covers parts (passing parts all) tx.account.0 (assets_of parts))))

-- what is kept of the candidates behind those that stand before them
abbrev pub kept_behind : Parts → List Tx → List Tx → List Tx → List Tx
kept_behind parts all before [] = []
kept_behind parts all before (tx ∷ txs) =
    if is_kept parts all (before ++ txs) tx then tx ∷ kept_behind parts all (before ++ tx ∷ []) txs
    else kept_behind parts all (before ++ tx ∷ []) txs

-- what is kept of candidates, sorted by account and then by number
abbrev pub kept_of : Parts → List Tx → List Tx
kept_of parts candidates = in_tx_order (kept_behind parts candidates [] candidates)
