use Rattle.std.proofs.Common.{◌≡◌, ℕ, List, nat_cmp, subst, ap, ◌∙◌, arith}
use Rattle.std.proofs.lemmas.List.{with_items_is}
use Rattle.std.proofs.lemmas.Result.{IfOk-weaker}
use Rattle.std.specs.List.{filter}
use Rattle.sx_filter.specs.Alone.{is_new}
use Rattle.sx_filter.specs.Kept.{kept_of}
use Rattle.sx_filter.specs.Named.{AreIds, IsSeen}
use Rattle.sx_filter.specs.Sifted.{TxVec, in_lists}
use Rattle.sx_filter.proofs.KeptParts.{new_kept, sifted_joined}
use Rattle.sx_filter.proofs.keeping.kept_in_parts.Goals as goal
use Rattle.sx_tx.specs.declared.tx.Tx.{Tx}

pub returns : goal.returns
returns g c = λ parts candidates is.
    let sifted = c.in_ok-fit.field-0 in
    let whole = sifted_joined parts candidates c.args.all.items is sifted c.in_ok-fit.ensures in
    let created : AreIds whole.part c.of.result =
    subst (λ (keys : List ℕ). IsSeen nat_cmp keys c.of.result) (c.into_items.ensures ∙ whole.are.ids) c.of.ensures in
    let left = c.drop_taken_where_any.new.lists in
    let same = with_items_is sifted.fit left (omega (arith, c.drop_taken_where_any.auto.lists, c.deref_mut.ensures.len)) in
    let kept : in_lists left ≡ kept_of parts candidates =
    c.drop_taken_where_any.ensures whole.part created
    ∙ ap (λ (lists : List TxVec). filter (is_new whole.part) (in_lists lists)) c.deref_mut.ensures.value
    ∙ new_kept parts candidates sifted whole in
    IfOk-weaker c.parts_of_lists.result _ (λ (txs : List Tx). txs ≡ kept_of parts candidates)
    (λ txs e. e ∙ ap in_lists same ∙ kept) c.parts_of_lists.ensures
