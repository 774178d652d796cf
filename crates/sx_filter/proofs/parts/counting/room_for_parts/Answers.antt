use Rattle.std.proofs.Common.{length, ap, arith}
use Rattle.sx_filter.proofs.AdditionLaws.{few_accounts, few_offers}
use Rattle.sx_filter.proofs.Joined.{all}
use Rattle.sx_filter.proofs.parts.counting.room_for_parts.Goals as goal

pub room_for_additions-requires-clause-accounts : goal.room_for_additions-requires-clause-accounts
room_for_additions-requires-clause-accounts c =
    omega (
      arith,
      few_accounts (all c.parts.result.now) c.added_in_turn.result c.added_in_turn.ensures,
      ap length c.parts.ensures,
      c.requires.few,
    )

pub room_for_additions-requires-clause-offers : goal.room_for_additions-requires-clause-offers
room_for_additions-requires-clause-offers c =
    omega (
      arith,
      few_offers (all c.parts.result.now) c.added_in_turn.result c.added_in_turn.ensures,
      ap length c.parts.ensures,
      c.requires.few,
    )
