use Rattle.sx_ledger.proofs.BucketLaws.{absent_between}
use Rattle.sx_ledger.proofs.index.find_between.Goals as goal

pub returns-in-Err-clause-absent : goal.returns-in-Err-clause-absent
returns-in-Err-clause-absent c =
    absent_between c.args.entries.now c.requires.by_id c.args.id c.args.begin c.args.end c.requires.within
    c.binary_search.result c.binary_search.ensures.bound c.binary_search.ensures.position c.in-Err.field-0 c.in-Err.is
