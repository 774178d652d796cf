use Rattle.std.proofs.Common.{◌≡◌, ◌≤◌, length, map, ap, ◌∙◌, arith}
use Rattle.std.specs.List.{range_with_len}
use Rattle.sx_demand.specs.Excess.{Excess}
use Rattle.sx_demand.specs.Table.{net_in, volume_in}
use Rattle.sx_demand.proofs.Sold.{nets_are, volumes_are, written}
use Rattle.sx_demand.proofs.demand.Demand.update.Goals as goal

pub returns-clause-net : goal.returns-clause-net
returns-clause-net g c =
    let assets = ap (λ (excess : Excess). length excess.net) c.self.view_is in
    let entries : c.deref.result.now ≡ c.fill.new.entries =
    c.deref.ensures.value ∙ written _ c.fill.new.entries _ (omega arith) in
    let count : length c.deref_mut-3.result.now ≡ length c.args.prices.now =
    omega (arith, ap length c.deref_mut-3.ensures.value) in
    let few : length c.args.prices.now ≤ 32 = omega (arith, ap length c.deref_mut-3.ensures.value) in
    written _ c.write_excess.new.nets _ (omega arith) ∙ c.write_excess.ensures.nets
    ∙ (λ i. map (net_in (entries i) (count i)) (range_with_len 0 (count i)))
    ∙ nets_are c.args.curves.now.quotes c.args.prices.now c.args.mu c.fill.new.entries c.fill.ensures few

pub returns-clause-volume : goal.returns-clause-volume
returns-clause-volume g c =
    let assets = ap (λ (excess : Excess). length excess.net) c.self.view_is in
    let entries : c.deref.result.now ≡ c.fill.new.entries =
    c.deref.ensures.value ∙ written _ c.fill.new.entries _ (omega arith) in
    let count : length c.deref_mut-3.result.now ≡ length c.args.prices.now =
    omega (arith, ap length c.deref_mut-3.ensures.value) in
    let same : length c.deref_mut-4.result.now ≡ length c.deref_mut-3.result.now =
    omega (arith, ap length c.deref_mut-3.ensures.value, ap length c.deref_mut-4.ensures.value) in
    let few : length c.args.prices.now ≤ 32 = omega (arith, ap length c.deref_mut-3.ensures.value) in
    written _ c.write_excess.new.volumes _ (omega arith) ∙ c.write_excess.ensures.volumes
    ∙ (λ i. map (volume_in (entries i) (count i)) (range_with_len 0 (count i)))
    ∙ volumes_are c.args.curves.now.quotes c.args.prices.now c.args.mu c.fill.new.entries c.fill.ensures few
