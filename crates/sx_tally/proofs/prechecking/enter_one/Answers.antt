use Rattle.std.proofs.Common.{length, refl}
use Rattle.std.proofs.lemmas.Option.{slice_get_read}
use Rattle.sx_tally.proofs.prechecking.enter_one.Goals as goal

pub returns-in-Err-clause-refused : goal.returns-in-Err-clause-refused
returns-in-Err-clause-refused c =
    let txs = c.args.txs.now in
    let tx = c.index-txs-at.result in
    record {
      tx = tx;
      there = slice_get_read txs (length txs) c.args.at tx refl c.requires.at c.index-txs-at.is;
      refused = c.in-Err.ensures.refused;
      before = c.requires.tally.passes;
    }
