use Rattle.std.proofs.Common.{◌≡◌, length, map, ap, ◌∙◌, rules}
use Rattle.sx_apply.specs.FillSums.{paid_by}
use Rattle.sx_apply.proofs.WrittenBack.{written_back}
use Rattle.sx_apply.proofs.proceeds.with_proceeds.Goals as goal

pub returns : goal.returns
returns c =
    let v = c.into_items-entries.result in
    let had : length v.items ≡ v.len = search rules in
    let as_many : length c.pay_sellers.new.accounts ≡ v.len = search rules in
    c.of.ensures ∙ written_back v.len c.pay_sellers.new.accounts v.items as_many had ∙ c.in_ok-pay_sellers.ensures.paid
    ∙ ap (map (paid_by c.args.offers.now c.args.fills.now)) (c.deref_mut.ensures.value ∙ c.into_items-entries.ensures)
