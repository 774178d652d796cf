use Rattle.std.proofs.Common.{◌≡◌, ◌<◌, ap, get_or, length, arith, rules}
use Rattle.sx_filter.proofs.Joined.{no_longer}
use Rattle.sx_filter.proofs.parts.by_range.part_by_range.Goals as goal

pub by_range-requires : goal.by_range-requires
by_range-requires c =
    let parts = c.args.parts.now in
    let within : c.args.place < length parts = search rules in
    let is : c.in-Some.part.now ≡ get_or parts c.args.place c.in-Some.part.now = search rules in
    omega (
      arith,
      no_longer parts c.args.place c.in-Some.part.now within is,
      ap length c.items.ensures,
      c.requires,
    )
