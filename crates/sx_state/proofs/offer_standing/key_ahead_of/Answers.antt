use Rattle.std.proofs.Common.{◌≡◌, ◌≤◌, ◌-◌, ℕ, None, Some, length, subst, sym, refl, arith}
use Rattle.std.specs.Prelude.{slice_get}
use Rattle.std.proofs.lemmas.Option.{slice_get_read}
use Rattle.sx_state.specs.SoundOffers.{key_ahead}
use Rattle.sx_state.proofs.SoundOffers.{key_at, key_first}
use Rattle.sx_state.proofs.offer_standing.key_ahead_of.Goals as goal

pub returns-then-place-eq0 : goal.returns-then-place-eq0
returns-then-place-eq0 c =
    let first : 0 ≡ c.args.place = omega (arith, c.if-place-eq0.true) in
    subst (λ (place : ℕ). None ≡ key_ahead None c.args.offers.now place) first
    (sym (key_first None c.args.offers.now))

pub returns : goal.returns
returns c =
    let offers = c.args.offers.now in
    let place = c.args.place in
    let offer = c.index-offers-place.result in
    let some : 1 ≤ place = omega (arith, c.if-place-eq0.false) in
    let at : slice_get offers (place - 1) ≡ Some offer =
    slice_get_read offers (length offers) (place - 1) offer refl (omega (arith, c.requires)) c.index-offers-place.is in
    rw c.key.ensures (key_at offers None place offer some at)
