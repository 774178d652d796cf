-- The window of an account's sequence numbers, and what is left of it after a block.
use Rattle.std.specs.Prelude.{ℕ, zero, suc, ◌+◌, ◌-◌, ◌/◌, ◌%◌, ◌^◌, ◌<◌, ◌≤◌, Bool, IsTrue, nat_le, ◌==◌, ◌&&◌, ◌||◌}
use Rattle.std.specs.Prelude.{if◌then◌else◌}
use Rattle.std.specs.Int.{bit_at}
use Rattle.std.specs.Int.Bits.{bit_or}
use Rattle.sx_base.specs.Ranges.{most_seq}
use Rattle.sx_tx.specs.declared.window.Window.{Window}
use Rattle.sx_tx.specs.declared.window.WindowFault.{WindowFault}
use Rattle.sx_tx.specs.declared.window.WindowFault.TheVariants as fault

-- how many sequence numbers are open after the last one, which is the width of a window's map
abbrev pub open_numbers : ℕ
open_numbers = 64

-- the number of a fault
abbrev pub number_of : WindowFault → ℕ
number_of fault.Behind = 1
number_of fault.Beyond = 2
number_of fault.Used = 3

-- the bit of a sequence number above the last one is set in the map: bit i stands for `last + 1 + i`
abbrev pub is_marked : Window → ℕ → Bool
is_marked window seq = bit_at window.used (seq - suc window.last) == 1

-- the account used this sequence number: it is at most the last one, or it is marked
abbrev pub is_used : Window → ℕ → Bool
is_used window seq = nat_le seq window.last || is_marked window seq

-- one more than the place of the map's highest bit below place n, or 0 where none is set there
unfoldable pub bit_length : ℕ → ℕ → ℕ
bit_length zero map = 0
bit_length (suc n) map = if bit_at map n == 1 then suc n else bit_length n map

-- The map fits a ledger of this version with this last number. In version 1 no number above the last one is marked.
-- In version 2 the one after it is not, and the greatest that is marked is a sequence number.
abbrev pub is_map : ℕ → ℕ → ℕ → Bool
is_map version last map =
    if version == 1 then map == 0
    else (bit_at map 0 == 0) && nat_le (last + bit_length open_numbers map) most_seq

-- a window of a ledger of this version
pub record IsWindow (version : ℕ) (window : Window) : Type 0 where
  pub last : window.last ≤ most_seq
  pub fits : window.used < 2 ^ open_numbers
  pub map : IsTrue (is_map version window.last window.used)

-- how many of the lowest n bits of a map are set before the first one that is not
unfoldable pub low_run : ℕ → ℕ → ℕ
low_run zero map = 0
low_run (suc n) map = if map % 2 == 1 then suc (low_run n (map / 2)) else 0

-- The numbers of the map are used as well, and gaps stay open: the last number is the greatest one up to which
-- all are used, and the map has those above it.
abbrev pub next_gapped : Window → ℕ → Window
next_gapped window map =
    let used = bit_or window.used map in
    let run = low_run open_numbers used in
    record { last = window.last + run; used = used / 2 ^ run }

-- The last number is the greatest one of the map, and the numbers that were skipped are lost.
abbrev pub next_gapless : Window → ℕ → Window
next_gapless window map =
    if map == 0 then window else record { last = window.last + bit_length open_numbers map; used = 0 }

-- The window after a block for a ledger of this version in which the sequence numbers of the map were used, bit i
-- being the number `last + 1 + i`.
abbrev pub Next : ℕ → Window → ℕ → Window
Next version window map = if version == 1 then next_gapless window map else next_gapped window map
