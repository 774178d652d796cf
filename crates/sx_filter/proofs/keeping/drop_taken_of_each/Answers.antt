use Rattle.std.proofs.Common.{◌≡◌, ap, sym, ◌∙◌}
use Rattle.std.specs.List.{filter}
use Rattle.sx_filter.specs.Alone.{is_new}
use Rattle.sx_filter.specs.Sifted.{TxVec}
use Rattle.sx_filter.proofs.KeptParts.{new_of_each}
use Rattle.sx_filter.proofs.keeping.drop_taken_of_each.Goals as goal

pub returns : goal.returns
returns g c = λ passed are.
    new_of_each passed c.args.lists.now c.for_each_mut.new.list c.for_each_mut.auto.list (λ k d lt.
    let change = (c.for_each_mut.ensures k d lt).1 in
    let made : change.after_call.now.items ≡ filter (is_new passed) change.argument.now.items =
    change.call passed are in
    ap (λ (list : TxVec). list.items) (sym change.left) ∙ made
    ∙ ap (λ (list : TxVec). filter (is_new passed) list.items) change.argument_is)
