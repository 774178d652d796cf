use Rattle.std.proofs.Common.{◌≡◌, ◌<◌, ℕ, get_or, pos}
use Rattle.std.specs.Prelude.{slice_index, slice_index_or}
use Rattle.sx_curve.specs.Demand.{price_of}
use Rattle.sx_curve.specs.Search.{moved_price}
use Rattle.sx_search.proofs.trial.write_trial.Given as goal

abbrev pub invariant-loop-asset : goal.invariant-loop-asset
invariant-loop-asset l =
    (k : ℕ) → k < l.asset → (d : ℕ) → get_or l.trial k d
    ≡ moved_price l.exponent (price_of l.prices k) (slice_index_or l.nets k (pos 0)) (slice_index l.volumes k)
