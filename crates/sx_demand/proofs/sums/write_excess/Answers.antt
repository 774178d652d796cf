use Rattle.std.proofs.Common.{◌≡◌, ◌<◌, ◌+◌, ◌*◌, length, get_or, pos, ◌-ℤ◌, ap, ◌∙◌, arith, rules}
use Rattle.std.specs.Int.{w128}
use mir.Val.{SFits, of_z, to_z}
use Rattle.std.proofs.lemmas.Int.{to_z-of_z}
use Rattle.std.proofs.lemmas.List.FromFn.{fill_by_all}
use Rattle.sx_demand.specs.Table.{into_in, net_in, out_in, volume_in}
use Rattle.sx_demand.proofs.Columns.{into_at_most, net_at_most, one_more, out_at_most, rest_stays, volume_at_most}
use Rattle.sx_demand.proofs.sums.write_excess.Goals as goal

pub difference-requires : goal.difference-requires
difference-requires c =
    let entries = c.args.entries.now in
    let n = length c.args.nets.now in
    let asset = c.loop-asset.asset in
    let inside : asset < n = omega arith in
    let full : length entries ≡ 32 * n = c.requires.full in
    let into = c.write_sums.ensures.columns asset 0 (omega arith) in
    let out = c.loop-asset.invariant.left asset 0 (omega arith) inside in
    record {
      into = omega (
        arith,
        into,
        into_at_most entries n full c.requires.few c.requires.in_range
            (length c.args.columns.now) asset
            (omega arith) inside,
      );
      out = omega (
        arith,
        out,
        out_at_most entries n full c.requires.few c.requires.in_range n asset (omega arith)
            inside,
      );
    }

pub overflow_add-volumes : goal.overflow_add-volumes
overflow_add-volumes c =
    let entries = c.args.entries.now in
    let n = length c.args.nets.now in
    let asset = c.loop-asset.asset in
    let inside : asset < n = omega arith in
    let full : length entries ≡ 32 * n = c.requires.full in
    let into = c.write_sums.ensures.columns asset 0 (omega arith) in
    let out = c.loop-asset.invariant.left asset 0 (omega arith) inside in
    omega (
      arith,
      into,
      out,
      into_at_most entries n full c.requires.few c.requires.in_range (length c.args.columns.now) asset
          (omega arith) inside,
      out_at_most entries n full c.requires.few c.requires.in_range n asset (omega arith) inside,
    )

pub loop-asset-init : goal.loop-asset-init
loop-asset-init c =
    let size : length c.args.columns.now ≡ length c.args.nets.now = c.requires.columns in
    record {
      nets = λ k d lt. absurd (omega arith);
      volumes = λ k d lt. absurd (omega arith);
      left = λ k d le lt. c.write_sums.ensures.rows k d (omega arith)
          ∙ ap (λ m. out_in c.args.entries.now m k) size;
    }

pub loop-asset-preserved : goal.loop-asset-preserved
loop-asset-preserved c =
    let entries = c.args.entries.now in
    let n = length c.args.nets.now in
    let asset = c.loop-asset.asset in
    let inside : asset < n = omega arith in
    let nets = c.loop-asset.nets in
    let volumes = c.loop-asset.volumes in
    let size : length c.args.columns.now ≡ n = c.requires.columns in
    let into : get_or c.write_sums.new.columns asset 0 ≡ into_in entries n asset =
    c.write_sums.ensures.columns asset 0 (omega arith) ∙ ap (λ m. into_in entries m asset) size in
    let out : get_or volumes asset 0 ≡ out_in entries n asset =
    c.loop-asset.invariant.left asset 0 (omega arith) inside in
    let fits : SFits w128 c.difference.result = search rules in
    let kept = to_z-of_z w128 c.difference.result fits in
    record {
      nets = one_more (net_in entries n) nets asset (to_z w128 (of_z w128 c.difference.result)) (omega arith)
          (kept ∙ c.difference.ensures ∙ (λ i. pos (into i) -ℤ pos (out i))) c.loop-asset.invariant.nets;
      volumes = one_more (volume_in entries n) volumes asset
          (get_or c.write_sums.new.columns asset 0 + get_or volumes asset 0) (omega arith)
          (λ i. into i + out i) c.loop-asset.invariant.volumes;
      left = rest_stays (out_in entries n) volumes asset n
          (get_or c.write_sums.new.columns asset 0 + get_or volumes asset 0) c.loop-asset.invariant.left;
    }

pub returns-clause-nets : goal.returns-clause-nets
returns-clause-nets c =
    let n = length c.args.nets.now in
    fill_by_all (net_in c.args.entries.now n) c.loop-asset.nets n (pos 0) c.loop-asset.auto.nets
    (λ k lt. c.loop-asset.invariant.nets k (pos 0) (omega arith))

pub returns-clause-volumes : goal.returns-clause-volumes
returns-clause-volumes c =
    let n = length c.args.nets.now in
    let size : length c.loop-asset.volumes ≡ n = omega arith in
    fill_by_all (volume_in c.args.entries.now n) c.loop-asset.volumes n 0 size
    (λ k lt. c.loop-asset.invariant.volumes k 0 (omega arith))

pub returns-clause-nets_range : goal.returns-clause-nets_range
returns-clause-nets_range c = λ k d lt.
    let n = length c.args.nets.now in
    let full : length c.args.entries.now ≡ 32 * n = c.requires.full in
    let inside : k < n = omega arith in
    rw (c.loop-asset.invariant.nets k d (omega arith))
    (net_at_most c.args.entries.now n full c.requires.few c.requires.in_range k inside)

pub returns-clause-volumes_range : goal.returns-clause-volumes_range
returns-clause-volumes_range c = λ k d lt.
    let n = length c.args.nets.now in
    let full : length c.args.entries.now ≡ 32 * n = c.requires.full in
    let inside : k < n = omega arith in
    rw (c.loop-asset.invariant.volumes k d (omega arith))
    (volume_at_most c.args.entries.now n full c.requires.few c.requires.in_range k inside)
