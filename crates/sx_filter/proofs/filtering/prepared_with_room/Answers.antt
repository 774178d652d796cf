use Rattle.std.proofs.Common.{arith}
use Rattle.sx_filter.proofs.AdditionLaws.{few_accounts, few_offers}
use Rattle.sx_filter.proofs.filtering.prepared_with_room.Goals as goal

pub room_for_additions-requires-clause-accounts : goal.room_for_additions-requires-clause-accounts
room_for_additions-requires-clause-accounts g c =
    omega (
      arith,
      few_accounts c.args.candidates c.in-Ok.prepared.more c.in-Ok.ensures.more,
      c.requires.few,
    )

pub room_for_additions-requires-clause-offers : goal.room_for_additions-requires-clause-offers
room_for_additions-requires-clause-offers g c =
    omega (
      arith,
      few_offers c.args.candidates c.in-Ok.prepared.more c.in-Ok.ensures.more,
      c.requires.few,
    )
