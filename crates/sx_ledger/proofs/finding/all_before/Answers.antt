use Rattle.std.proofs.Common.{◌≡◌, ◌<◌, Some, length, refl, arith}
use Rattle.std.specs.Prelude.{slice_get}
use Rattle.std.proofs.lemmas.Bool.Decides.{nat_tests}
use Rattle.std.proofs.lemmas.Option.{slice_get_read}
use Rattle.sx_ledger.proofs.KeysBetween.{look_before}
use Rattle.sx_ledger.proofs.finding.all_before.Goals as goal

pub returns-in-Some : goal.returns-in-Some
returns-in-Some c =
    let offers = c.args.offers.now in
    let looked = c.in-Some.ensures.lookup in
    let within : c.args.begin < length offers = grind (arith, nat_tests) in
    let at : slice_get offers c.args.begin ≡ Some c.in-Some.offer.now =
    slice_get_read offers (length offers) c.args.begin c.in-Some.offer.now refl within looked.1 in
    look_before offers c.requires c.args.key.now c.args.begin c.in-Some.offer.now c.key.result c.is_before.result at
    c.key.ensures c.is_before.ensures
