use Rattle.sx_ledger.proofs.BucketLaws.{few_left}
use Rattle.sx_ledger.proofs.index.shift_of.Goals as goal

pub returns-clause-few : goal.returns-clause-few
returns-clause-few c =
    rw c.saturating_sub.ensures
    (few_left c.args.greatest c.args.count c.ranges.greatest.fits c.requires.some c.ranges.count.fits)
