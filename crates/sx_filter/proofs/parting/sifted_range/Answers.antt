use Rattle.std.proofs.Common.{◌≡◌, ◌<◌, List, arith, get_or, length, subst}
use Rattle.std.specs.Prelude.{vec_len}
use Rattle.std.proofs.lemmas.Result.{IfOk-weaker}
use Rattle.sx_filter.specs.Bands.{band_among}
use Rattle.sx_filter.specs.ByRange.{pieces}
use Rattle.sx_filter.specs.Classes.{AreClasses}
use Rattle.sx_filter.specs.Joined.{AreSiftedParts, IsJoined}
use Rattle.sx_filter.specs.Sifted.{IsSifted}
use Rattle.sx_filter.proofs.BandLaws.{bands_are}
use Rattle.sx_filter.proofs.KeptParts.{sifted_joined}
use Rattle.sx_filter.proofs.Picking.{element}
use Rattle.sx_filter.proofs.parting.sifted_range.Goals as goal
use Rattle.sx_tx.specs.declared.tx.Tx.{Tx}

pub returns : goal.returns
returns c =
    let parts = c.args.ledger.now in
    let chosen = pieces c.args.range c.args.parts.now in
    let bands = c.bands_of-bands.result in
    let lists = c.in_ok-lists.lists in
    let all = c.in_ok-each_sifted.field-0 in
    let many : bands.count ≡ length all.items =
    omega (arith, c.in_ok-lists.ensures.one_each, c.in_ok-each_sifted.ensures.one_each, lists.ok, all.ok) in
    let are : AreSiftedParts parts chosen all.items = record {
      class_of = band_among bands;
      are = record {
        classes = subst (AreClasses (band_among bands)) many (bands_are bands c.bands_of-bands.ensures);
        each = λ k d lt.
            let within : k < vec_len lists = omega (arith, lt, many, c.in_ok-lists.ensures.one_each) in
            let list = (element lists.items k (omega (arith, lt, many, c.in_ok-lists.ensures.one_each, lists.ok))).0 in
            subst (λ (txs : List Tx). IsSifted parts txs (get_or all.items k d))
            (c.in_ok-lists.ensures.each k list (omega (arith, lt, many)))
            (c.in_ok-each_sifted.ensures.each k list d within);
      };
    } in
    IfOk-weaker c.joined.result (IsJoined all.items) (IsSifted parts chosen)
    (λ sifted joined. sifted_joined parts chosen all.items are sifted joined) c.joined.ensures
