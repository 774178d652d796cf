use Rattle.std.proofs.Common.{ℕ, ◌<◌, ◌≤◌, List, Ok, length, take, sym, ap, ◌∙◌, arith}
use Rattle.std.proofs.lemmas.List.{length-set, take_all, take_more_set}
use Rattle.sx_bytes.specs.Grammar.{many_at}
use Rattle.sx_bytes.proofs.ListReading.{goes_on, is_done}
use Rattle.sx_ledger.specs.declared.offer.Offer.{Offer}
use Rattle.sx_state.specs.Decoding.{offer_at}
use Rattle.sx_state.proofs.offer_decoding.fill.Goals as goal

pub loop-slot-preserved : goal.loop-slot-preserved
loop-slot-preserved c =
    let n = length c.args.offers.now in
    let entry = offer_at c.args.assets in
    let slot = c.loop-slot.slot in
    let offer = c.in_ok-offers.field-0 in
    let inv = c.loop-slot.invariant in
    let lt : slot < n = omega (arith, c.loop-slot-test.true) in
    let within : slot < length c.loop-slot.offers = omega (arith, lt, inv.one_each) in
    record {
      one_each = length-set c.loop-slot.offers slot offer ∙ inv.one_each;
      same = c.in_ok-offers.ensures.same ∙ inv.same;
      all = rw (take_more_set c.loop-slot.offers slot offer within) (goes_on entry (take slot c.loop-slot.offers) n slot
          c.loop-slot.from offer c.offer.new.from
          (many_at entry n (record { bytes = c.args.payload.now; place = c.args.place })) lt
          c.in_ok-offers.ensures.exact inv.all);
    }

pub returns : goal.returns
returns c =
    let n = length c.args.offers.now in
    let entry = offer_at c.args.assets in
    let offers = c.loop-slot.offers in
    let from = c.loop-slot.from in
    let payload = c.args.payload.now in
    let inv = c.loop-slot.invariant in
    let past : n ≤ c.loop-slot.slot = omega (arith, c.loop-slot-test.false) in
    is_done entry (take c.loop-slot.slot offers) n c.loop-slot.slot from
    (many_at entry n (record { bytes = payload; place = c.args.place })) past inv.all
    ∙ ap (λ (xs : List Offer). Ok (xs, from)) (take_all c.loop-slot.slot offers (omega (arith, past, inv.one_each)))
    ∙ ap (λ (bytes : List ℕ). Ok (offers, record { bytes = bytes; place = from.place })) inv.same
    ∙ ap (λ (place : ℕ). Ok (offers, record { bytes = payload; place = place })) (sym c.place.ensures.place)
