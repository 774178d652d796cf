use Rattle.std.proofs.Common.{◌≡◌, ℕ, ◌+◌, ◌<◌, get_or, length, take}
use Rattle.sx_apply.specs.FillSums.{given_by, got_by}
use Rattle.sx_apply.proofs.rounding.add_fills.Given as goal

abbrev pub invariant-loop-fill : goal.invariant-loop-fill
invariant-loop-fill l = record {
  given : (asset : ℕ) → asset < length l.initial.given
      → get_or l.given asset 0 ≡ get_or l.initial.given asset 0 + given_by l.offers (take l.fill-index l.fills) asset;
  got : (asset : ℕ) → asset < length l.initial.got
      → get_or l.got asset 0 ≡ get_or l.initial.got asset 0 + got_by l.offers (take l.fill-index l.fills) asset;
}
