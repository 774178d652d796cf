use Rattle.std.proofs.Common.{◌≡◌}
use Rattle.std.specs.List.{flat_map}
use Rattle.sx_run.specs.declared.state_writing.Part.{Part}
use Rattle.sx_run.proofs.state_writing.split.Given as goal

abbrev pub invariant-loop-part : goal.invariant-loop-part
invariant-loop-part l = record {
  accounts : flat_map (λ bytes. bytes) l.accounts.items ≡ flat_map (λ (part : Part). part.accounts) l.yielded;
  offers : flat_map (λ bytes. bytes) l.offers.items ≡ flat_map (λ (part : Part). part.offers) l.yielded;
}
