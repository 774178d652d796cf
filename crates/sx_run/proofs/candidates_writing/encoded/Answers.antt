use Rattle.std.proofs.Common.{ap, sym, ◌++◌, ◌∙◌, take}
use Rattle.std.specs.List.{flat_map}
use Rattle.std.proofs.lemmas.Grind.{flat_map-append}
use Rattle.sx_run.proofs.PartLists.{all, one_more}
use Rattle.sx_run.proofs.candidates_writing.encoded.Goals as goal
use Rattle.sx_tx.specs.Transactions.{tx_bytes}

pub loop-part-preserved : goal.loop-part-preserved
loop-part-preserved c =
    let before = all (take c.loop-part.part-index c.args.parts.now) in
    c.in_ok-put_all.ensures
    ∙ (λ i. c.loop-part.invariant i ++ flat_map tx_bytes (c.items.ensures i))
    ∙ sym (flat_map-append tx_bytes before c.part-item.result)
    ∙ ap (flat_map tx_bytes) (sym (one_more c.args.parts.now c.loop-part.part-index c.part-item.result
    c.loop-part-test.true c.part-item.is))
