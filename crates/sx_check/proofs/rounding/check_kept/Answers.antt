use Rattle.std.proofs.Common.{◌≡◌, ◌<◌, length, ap, arith}
use Rattle.sx_check.proofs.OfferLaws.{misrounded, one_rounding}
use Rattle.sx_check.proofs.rounding.check_kept.Goals as goal
use Rattle.sx_ledger.specs.Ledger.{assets_of}

pub first_difference-requires : goal.first_difference-requires
first_difference-requires c =
    omega (
      arith,
      ap length c.items-said.ensures,
      one_rounding c.args.ledger.now c.args.block.now c.requires.form (λ r lt. c.requires.cut r (omega arith)),
      c.requires.one_each,
    )

pub returns-in-Some-clause-refused : goal.returns-in-Some-clause-refused
returns-in-Some-clause-refused c =
    let parts = c.args.ledger.now in
    let block = c.args.block.now in
    let place = c.in-Some.place in
    let found = c.in-Some.ensures in
    let at : c.unwrap.result ≡ place = rw c.unwrap.ensures at c.new.ensures.value in
    let lt : place < assets_of parts =
    omega (
      arith,
      found.within,
      ap length c.items-said.ensures,
      one_rounding parts block c.requires.form (λ r lt. c.requires.cut r (omega arith)),
    ) in
    record {
      before = c.requires.cut;
      breaks = misrounded parts block c.items-said.result.now c.args.kept.now c.unwrap.result place at
          c.items-said.ensures lt c.requires.kept found.differ found.earlier;
      early = λ said real e. absurd cc;
      other = λ said real e. absurd cc;
    }

pub bounds-kept-place : goal.bounds-kept-place
bounds-kept-place c =
    omega (
      arith,
      c.in-Some.ensures.within,
      ap length c.items-said.ensures,
      one_rounding c.args.ledger.now c.args.block.now c.requires.form (λ r lt. c.requires.cut r (omega arith)),
      c.requires.one_each,
    )
