use Rattle.std.proofs.Common.{◌-◌, ◌∙◌, sym, arith}
use Rattle.std.proofs.lemmas.Bool.{le-ltb}
use Rattle.sx_tx.proofs.UsedNumbers.{beyond_unused}
use Rattle.sx_tx.proofs.window.Window.has_used.Goals as goal

pub returns-else-place-lt-OPEN : goal.returns-else-place-lt-OPEN
returns-else-place-lt-OPEN c =
    le-ltb (c.get-seq.result - c.args.self.now.last - 1) 64 (omega arith)
    ∙ sym (beyond_unused c.args.self.now c.args.seq (omega arith) (omega (arith, c.get-seq.ensures.value)))
