use Rattle.std.proofs.Common.{◌≡◌, ℕ, ◌+◌, get_or, subst, sym, ap, ◌∙◌, inl, inr, arith}
use Rattle.std.proofs.lemmas.Bool.{cases_lt}
use Rattle.std.proofs.lemmas.List.{get_or_default}
use Rattle.sx_block.specs.declared.header.Block.{Block}
use Rattle.sx_block.specs.Block.{IsBlock}
use Rattle.sx_block.specs.Validity.{IsValid}
use Rattle.sx_follow.specs.Leaves.{Leaves}
use Rattle.sx_follow.proofs.HeightPlaces.{places_within}
use Rattle.sx_follow.proofs.NextBlock.{first_valid, none_valid}
use Rattle.sx_follow.proofs.finding.find.Goals as goal

pub bounds-blocks-place : goal.bounds-blocks-place
bounds-blocks-place g c =
    places_within (c.args.head.now.height + 1) c.args.blocks.now c.args.places.now c.requires.places c.loop-place.place-index
    c.loop-place-test.true

pub step-requires-clause-form : goal.step-requires-clause-form
step-requires-clause-form g c =
    let block = c.index-blocks-place.result in
    let within =
    places_within (c.args.head.now.height + 1) c.args.blocks.now c.args.places.now c.requires.places c.loop-place.place-index
    c.loop-place-test.true in
    subst IsBlock (sym c.index-blocks-place.is)
    (c.requires.form (get_or c.args.places.now c.loop-place.place-index 0) block within)

pub returns-in-Some-clause-found : goal.returns-in-Some-clause-found
returns-in-Some-clause-found g c =
    let head = c.args.head.now in
    let block = c.index-blocks-place.result in
    let leaves : Leaves head block c.in-Some.left = rw c.in-Some.is at c.in_ok-left.ensures.valid in
    record {
      block = block;
      next = first_valid head c.args.blocks.now c.args.places.now c.requires.places c.loop-place.place-index block
          c.loop-place-test.true c.loop-place.invariant (sym c.index-blocks-place.is) leaves.valid;
      ledger = leaves.ledger;
      digest = leaves.digest;
    }

pub loop-place-preserved : goal.loop-place-preserved
loop-place-preserved g c = λ i d lt valid.
    let head = c.args.head.now in
    let blocks = c.args.blocks.now in
    let places = c.args.places.now in
    let index = c.loop-place.place-index in
    let block = c.index-blocks-place.result in
    elim (cases_lt i index) [
      | inl less ↦ c.loop-place.invariant i d less valid
      | inr most ↦
          let same : i ≡ index = omega arith in
          let within = places_within (head.height + 1) blocks places c.requires.places index c.loop-place-test.true in
          let here : get_or blocks (get_or places i 0) d ≡ block =
          ap (λ (n : ℕ). get_or blocks (get_or places n 0) d) same
          ∙ get_or_default blocks (get_or places index 0) d block within
          ∙ sym c.index-blocks-place.is in
          let refused : ¬ IsValid head block = rw c.in_default.is at c.in_ok-left.ensures.refused in
          refused (subst (λ (b : Block). IsValid head b) here valid)
    ]

pub returns-clause-none : goal.returns-clause-none
returns-clause-none g c =
    none_valid c.args.head.now c.args.blocks.now c.args.places.now c.requires.places
    (λ i d lt. c.loop-place.invariant i d (omega arith))
