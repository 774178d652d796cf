use Rattle.std.proofs.Common.{◌≡◌, ℕ, ◌+◌, [], ◌∷◌, ◌++◌, get_or, sym, subst, arith}
use Rattle.std.proofs.lemmas.List.{append-nil, get_or_default}
use Rattle.sx_block.specs.declared.header.Block.{Block}
use Rattle.sx_follow.specs.Chosen.{AreChosen, IsChosen}
use Rattle.sx_follow.proofs.Chosen.{GoesOn, chosen_block, chosen_more}
use Rattle.sx_follow.proofs.choosing.choose.Goals as goal

pub loop-above-preserved : goal.loop-above-preserved
loop-above-preserved c =
    let blocks = c.args.blocks.now in
    let place = c.in-Some.place in
    let height = c.args.height + c.loop-above.above in
    let block = c.index-blocks-place.result in
    let chosen : IsChosen height c.loop-above.named blocks place = rw c.in-Some.is at c.first_named.ensures in
    let same : chosen.block ≡ get_or blocks place block =
    chosen_block height c.loop-above.named blocks place chosen (get_or blocks place block)
    (sym (get_or_default blocks place (get_or blocks place block) block chosen.within)) in
    let higher : height + 1 ≡ c.args.height + (c.loop-above.above + 1) = omega arith in
    let more : GoesOn c.args.height c.args.digest.now blocks (c.loop-above.places.items ++ place ∷ [])
    (c.args.height + (c.loop-above.above + 1)) (get_or blocks place block).header.after =
    subst (λ (n : ℕ). GoesOn c.args.height c.args.digest.now blocks (c.loop-above.places.items ++ place ∷ []) n
    (get_or blocks place block).header.after) higher
    (subst (λ (b : Block). GoesOn c.args.height c.args.digest.now blocks (c.loop-above.places.items ++ place ∷ [])
    (height + 1) b.header.after) same
    (chosen_more c.args.height c.args.digest.now blocks c.loop-above.places.items height c.loop-above.named place chosen
    c.loop-above.invariant)) in
    rw c.in_ok-push.ensures.items more

pub returns : goal.returns
returns c =
    subst (AreChosen c.args.height c.args.digest.now c.args.blocks.now) (append-nil c.loop-above.places.items)
    (c.loop-above.invariant [] tt)
