use Rattle.std.proofs.Common.{rules}
use Rattle.sx_filter.specs.Part.{IsPart}
use Rattle.sx_filter.proofs.PartOrder.{part_pass, part_sorted}
use Rattle.sx_filter.proofs.sift.sifting.sift.Goals as goal

pub fit-requires-clause-ready : goal.fit-requires-clause-ready
fit-requires-clause-ready c =
    let parts = c.args.ledger.now in
    let candidates = c.args.candidates.items in
    let part = c.drop_refused.new.txs.items in
    let is : IsPart parts candidates part = search rules in
    record { passes = part_pass parts candidates part is; sorted = part_sorted parts candidates part is }
