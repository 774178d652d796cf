use Rattle.std.proofs.Common.{◌≡◌, ◌<◌, ℕ, List, length, get_or, eqb, ap, subst, refl, arith}
use Rattle.std.specs.Prelude.{slice_get, IfSome}
use Rattle.std.proofs.lemmas.Option.{get_or_from_slice_get, slice_get_read}
use Rattle.sx_outcome.specs.declared.outcome.Outcome.{Outcome}
use Rattle.sx_outcome.specs.contracts.packed_outcomes.PackedOutcomes.{the_view}
use Rattle.sx_outcome.specs.Gathering.{is_accepted}
use Rattle.sx_outcome.proofs.PackedLaws.{accepts_at, length_outcomes}
use Rattle.sx_outcome.proofs.packed_outcomes.PackedOutcomes.is_accepted.Goals as goal

pub index-requires : goal.index-requires
index-requires c =
    let packed = c.self.inside in
    omega (
      arith,
      c.requires,
      packed.kinds.ok,
      length_outcomes packed.kinds.items packed.overdrafts.items,
      ap (λ (list : List Outcome). length list) c.self.view_is,
    )

pub returns : goal.returns
returns c =
    let packed = c.self.inside in
    let place = c.args.place in
    let kinds = packed.kinds.items in
    let inside : place < length kinds =
    omega (
      arith,
      c.requires,
      length_outcomes kinds packed.overdrafts.items,
      ap (λ (list : List Outcome). length list) c.self.view_is,
    ) in
    let kind : get_or kinds place 0 ≡ c.index.result.now =
    get_or_from_slice_get kinds place c.index.result.now 0
    (slice_get_read kinds (length kinds) place c.index.result.now refl inside c.index.ensures) in
    subst (λ (list : List Outcome).
    IfSome (slice_get list place) (λ said. eqb c.index.result.now 0 ≡ is_accepted said)) c.self.view_is
    (subst (λ (k : ℕ).
    IfSome (slice_get (the_view packed) place) (λ said. eqb k 0 ≡ is_accepted said)) kind
    (accepts_at kinds packed.overdrafts.items place inside))
