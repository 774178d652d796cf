use Rattle.std.proofs.Common.{◌≡◌, refl, length, arith}
use Rattle.sx_net.proofs.Listing.{AreListed-enter}
use Rattle.sx_net.proofs.leaving.enter.Goals as goal

pub returns-clause-listed : goal.returns-clause-listed
returns-clause-listed c =
    let count : c.len-number.result ≡ length c.args.arcs.now.items = omega arith in
    let front = c.push_after-link.ensures.front refl in
    let apart = rw (front, count) at c.push_after-link.ensures.disjoint in
    rw (front, c.push_reserved.ensures.items, c.push_reserved-2.ensures.items, count)
    (AreListed-enter _ _ _ c.requires.listed c.args.arc c.requires.tail c.list_number.result c.push_after-link.result
    c.list_number.ensures apart)
