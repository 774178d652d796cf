-- The first of some fills, if it is that of the offer at a place.
use Rattle.std.specs.Prelude.{ℕ, List, [], ◌∷◌, ◌==◌, if◌then◌else◌}
use Rattle.sx_ledger.specs.declared.fill.Fill.{Fill}

-- what it gives, 0 where it is not
abbrev pub next_gives : ℕ → List Fill → ℕ
next_gives place [] = 0
next_gives place (fill ∷ fills) = if fill.place == place then fill.gives else 0

-- the fills after it
abbrev pub after_next : ℕ → List Fill → List Fill
after_next place [] = []
after_next place (fill ∷ fills) = if fill.place == place then fills else (fill ∷ fills)
