use Rattle.std.proofs.Common.{◌≡◌, ◌≢◌, ℕ, get_or, inl, inr, rules, subst, sym, ap, ◌∙◌, arith}
use Rattle.std.proofs.lemmas.Bool.{cases_lt}
use Rattle.std.proofs.lemmas.Grind.{common_steps}
use Rattle.std.proofs.lemmas.List.{get_or_default}
use Rattle.sx_block.specs.declared.header.Block.{Block}
use Rattle.sx_follow.proofs.Chosen.{first_chosen}
use Rattle.sx_follow.proofs.HeightPlaces.{places_within}
use Rattle.sx_follow.proofs.choosing.first_named.Goals as goal

pub bounds-blocks-place : goal.bounds-blocks-place
bounds-blocks-place c =
    places_within c.args.height c.args.blocks.now c.at-place-items.result.now
    (c.at-place-items.ensures ∙ c.requires c.args.height) c.loop-place.place-index c.loop-place-test.true

pub returns-then-eq : goal.returns-then-eq
returns-then-eq c =
    let same : c.index-blocks-place.result.header.parent ≡ c.args.digest.now =
    first_of (search rules, grind (arith, common_steps)) in
    first_chosen c.args.height c.args.blocks.now c.at-place-items.result.now
    (c.at-place-items.ensures ∙ c.requires c.args.height) c.args.digest.now c.loop-place.place-index
    c.index-blocks-place.result c.loop-place-test.true c.loop-place.invariant (sym c.index-blocks-place.is) same

pub loop-place-preserved : goal.loop-place-preserved
loop-place-preserved c = λ i d lt names.
    let blocks = c.args.blocks.now in
    let places = c.at-place-items.result.now in
    let index = c.loop-place.place-index in
    let block = c.index-blocks-place.result in
    elim (cases_lt i index) [
      | inl less ↦ c.loop-place.invariant i d less names
      | inr most ↦
          let same : i ≡ index = omega arith in
          let within =
          places_within c.args.height blocks places (c.at-place-items.ensures ∙ c.requires c.args.height) index
          c.loop-place-test.true in
          let here : get_or blocks (get_or places i 0) d ≡ block =
          ap (λ (n : ℕ). get_or blocks (get_or places n 0) d) same
          ∙ get_or_default blocks (get_or places index 0) d block within
          ∙ sym c.index-blocks-place.is in
          let differ : block.header.parent ≢ c.args.digest.now =
          first_of (search rules, grind (arith, common_steps)) in
          differ (subst (λ (b : Block). b.header.parent ≡ c.args.digest.now) here names)
    ]
