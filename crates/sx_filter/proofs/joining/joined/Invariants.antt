use Rattle.std.proofs.Common.{◌≡◌}
use Rattle.std.specs.List.{flat_map}
use Rattle.sx_filter.specs.declared.sift.sifting.Sifted.{Sifted}
use Rattle.sx_filter.proofs.joining.joined.Given as goal

abbrev pub invariant-loop-one : goal.invariant-loop-one
invariant-loop-one l = record {
  fit : l.fit.items ≡ flat_map (λ (one : Sifted). one.fit.items) l.yielded;
  ids : l.ids.items ≡ flat_map (λ (one : Sifted). one.ids) l.yielded;
}
