-- Laws of transactions' lengths and of windows, for all values.
use Rattle.std.specs.Prelude.{◌≡◌, ℕ, suc, ◌+◌, ◌-◌, ◌^◌, ◌<◌, ◌≤◌, List, length, IsTrue, nat_lt, ◌==◌, ◌&&◌, ◌||◌}
use Rattle.std.specs.Int.{bit_at, IsBitSet}
use Rattle.sx_base.specs.Ranges.{most_seq}
use Rattle.sx_tx.specs.declared.kind.Kind.{Kind}
use Rattle.sx_tx.specs.declared.kind.Kind.TheVariants as kind
use Rattle.sx_tx.specs.declared.tx.Tx.{Tx}
use Rattle.sx_tx.specs.declared.window.Window.{Window}
use Rattle.sx_tx.specs.Transactions.{most_transactions, least_tx_bytes, most_list_bytes, tx_bytes, list_bytes}
use Rattle.sx_tx.specs.Window.{open_numbers, bit_length, is_used, IsWindow, Next}

-- how many bytes a transaction of this kind takes
abbrev pub length_of : Kind → ℕ
length_of (kind.Pay asset to amount) = 34
length_of (kind.Create id) = 25
length_of (kind.Offer sell buy limit amount) = 35
length_of (kind.Cancel sell buy limit seq) = 35

abbrev pub KindIsLength : Type 0
KindIsLength = (tx : Tx) → length (tx_bytes tx) ≡ length_of tx.kind

abbrev pub NoneIsShorter : Type 0
NoneIsShorter = (tx : Tx) → least_tx_bytes ≤ length (tx_bytes tx)

-- the encoding of a list of transactions fits the payload of a record, which may have 64 MiB
abbrev pub EveryListFits : Type 0
EveryListFits = (txs : List Tx) → length txs ≤ most_transactions → length (list_bytes txs) ≤ most_list_bytes

-- where bit i is the highest of the map, the sequence number that it stands for is the last one afterwards
abbrev pub HighestIsLast : Type 0
HighestIsLast =
    (window : Window) (map i : ℕ) → i < open_numbers → IsBitSet map i →
    ((k : ℕ) → i < k → k < open_numbers → ¬ IsBitSet map k) →
    Next 1 window map ≡ record { last = window.last + 1 + i; used = 0 }

-- where no sequence number was used, the window does not change
abbrev pub NoneUsedNoChange : Type 0
NoneUsedNoChange = (version : ℕ) (window : Window) → IsWindow version window → Next version window 0 ≡ window

-- in version 2 a number is used afterwards exactly where it was used before or its bit in the map is set
abbrev pub NextUsesBoth : Type 0
NextUsesBoth =
    (window : Window) (map seq : ℕ) → IsWindow 2 window → map < 2 ^ open_numbers →
    is_used (Next 2 window map) seq
    ≡ (is_used window seq || (nat_lt window.last seq && (bit_at map (seq - suc window.last) == 1)))

-- in each version what was used stays used
abbrev pub UsedStaysUsed : Type 0
UsedStaysUsed =
    (version : ℕ) (window : Window) (map seq : ℕ) → IsWindow version window → map < 2 ^ open_numbers →
    IsTrue (is_used window seq) → IsTrue (is_used (Next version window map) seq)

-- the window stays one of its version where no number of the map is above the greatest sequence number
abbrev pub NextIsWindow : Type 0
NextIsWindow =
    (version : ℕ) (window : Window) (map : ℕ) → IsWindow version window → map < 2 ^ open_numbers →
    window.last + bit_length open_numbers map ≤ most_seq → IsWindow version (Next version window map)
