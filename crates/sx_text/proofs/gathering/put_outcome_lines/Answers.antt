use Rattle.std.proofs.Common.{get_or, refl}
use Rattle.std.specs.Prelude.{string_bytes}
use Rattle.sx_outcome.specs.declared.outcome.Outcome.TheVariants.{Accepted}
use Rattle.sx_text.specs.Gathering.{outcome_line}
use Rattle.sx_text.proofs.Indexed.{indexed-taken}
use Rattle.sx_text.proofs.gathering.put_outcome_lines.Goals as goal

pub loop-index-preserved : goal.loop-index-preserved
loop-index-preserved c =
    let outcomes = c.args.outcomes.now in
    let index = c.loop-index.index in
    indexed-taken outcome_line outcomes index (get_or outcomes index Accepted) Accepted (string_bytes c.args.to.now)
    (string_bytes c.loop-index.to) (string_bytes c.put_outcome_line.new.to) c.loop-index-test.true refl
    c.loop-index.invariant c.in_ok-put_outcome_line.ensures
