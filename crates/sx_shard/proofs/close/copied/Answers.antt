use Rattle.std.proofs.Common.{◌≡◌, ◌+◌, ◌<◌, ◌++◌, ◌∷◌, [], take, drop, length, get_or, sym, ap, ◌∙◌, arith}
use Rattle.std.specs.Mem.Slots.{slots_items, slots_counts}
use Rattle.std.proofs.lemmas.List.{take_more, get_or-drop, length-drop}
use Rattle.sx_shard.proofs.Places.{is_at}
use Rattle.sx_shard.proofs.close.copied.Goals as goal

pub loop-place-preserved : goal.loop-place-preserved
loop-place-preserved c =
    let words = slots_items c.args.closed.now.words in
    let from = c.args.from in
    let place = c.loop-place.place in
    let at : get_or (drop from words) place 0 ≡ c.word.result =
    get_or-drop from words place 0 ∙ is_at words (from + place) c.word.result 0 c.word.ensures in
    let lt : place < length (drop from words) =
    omega (arith, length-drop from words, (slots_counts c.args.closed.now.words).0) in (
      c.push_reserved.ensures.items ∙ ap (λ l. l ++ c.word.result ∷ []) c.loop-place.invariant.0
          ∙ sym (take_more (drop from words) place 0 lt ∙ ap (λ x. take place (drop from words) ++ x ∷ []) at),
      c.push_reserved.ensures.len ∙ ap (λ n. n + 1) c.loop-place.invariant.1,
      c.push_reserved.ensures.capacity ∙ c.loop-place.invariant.2,
    )
