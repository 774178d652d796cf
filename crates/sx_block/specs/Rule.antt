-- The rules that make a block valid for a ledger, by name.
use Rattle.std.specs.Prelude.{ℕ}

pub data Rule : Type 0 where
  BelowLast : Rule
  NextHeight : Rule
  Parent : Rule
  Body : Rule
  Assets : Rule
  Passes : Rule
  CancelsOnce : Rule
  CreatesOnce : Rule
  Room : Rule
  Covered : Rule
  Within : Rule
  Balanced : Rule
  Tight : Rule
  Cut : Rule
  Rounded : Rule
  After : Rule

-- their order, in which a checker looks for the first that is broken
abbrev pub rank : Rule → ℕ
rank BelowLast = 1
rank NextHeight = 2
rank Parent = 3
rank Body = 4
rank Assets = 5
rank Passes = 6
rank CancelsOnce = 7
rank CreatesOnce = 8
rank Room = 9
rank Covered = 10
rank Within = 11
rank Balanced = 12
rank Tight = 13
rank Cut = 14
rank Rounded = 15
rank After = 16
