use Rattle.std.proofs.Common.{ap}
use Rattle.sx_meaning.specs.Answers.{asked}
use Rattle.sx_run.specs.Running.{as_bytes}
use Rattle.sx_run.proofs.Answering.{answers, completes, fits}
use Rattle.sx_run.proofs.Answering.{for_command, steady_then, unread_then, was_read}
use Rattle.sx_run.proofs.Answering.{was_read_fault}
use Rattle.sx_run.proofs.running.run.Goals as goal

-- ---- the command was run

pub returns-in-Ok-clause-usage : goal.returns-in-Ok-clause-usage
returns-in-Ok-clause-usage g c =
    fits (asked c.args.words.now) c.in-Ok.command (as_bytes c.output_of-found.result) _ _ c.conclude.result
    c.in-Ok.ensures.ok c.conclude.ensures.told

pub returns-in-Ok-clause-unread : goal.returns-in-Ok-clause-unread
returns-in-Ok-clause-unread g c =
    unread_then (asked c.args.words.now) c.in-Ok.command _ c.in-Ok.ensures.ok c.output_of-found.ensures.unread

pub returns-in-Ok-clause-answer : goal.returns-in-Ok-clause-answer
returns-in-Ok-clause-answer g c =
    let found = c.output_of-found in
    for_command (asked c.args.words.now) c.in-Ok.command _ c.in-Ok.ensures.ok
    (answers c.in-Ok.command _ _ _ _ (as_bytes found.result) c.conclude.result found.ensures.found
    c.conclude.ensures.told)

pub returns-in-Ok-clause-read : goal.returns-in-Ok-clause-read
returns-in-Ok-clause-read g c = λ done.
    let found = c.output_of-found in
    for_command (asked c.args.words.now) c.in-Ok.command _ c.in-Ok.ensures.ok
    (was_read c.in-Ok.command _ _ _ _ (as_bytes found.result) c.conclude.result
    (λ blind. ap g.S.Source.left (found.ensures.unread blind)) found.ensures.found c.conclude.ensures.told done)

pub returns-in-Ok-clause-read_fault : goal.returns-in-Ok-clause-read_fault
returns-in-Ok-clause-read_fault g c = λ is.
    let found = c.output_of-found in
    found.ensures.read_fault
    (was_read_fault (as_bytes found.result) _ _ c.conclude.result c.conclude.ensures.told is)

pub returns-in-Ok-clause-steady_source : goal.returns-in-Ok-clause-steady_source
returns-in-Ok-clause-steady_source g c =
    let found = c.output_of-found in
    steady_then (as_bytes found.result) _ _ c.conclude.result _ c.conclude.ensures.told found.ensures.steady

pub returns-in-Ok-clause-complete : goal.returns-in-Ok-clause-complete
returns-in-Ok-clause-complete g c = λ calm still.
    let found = c.output_of-found in
    for_command (asked c.args.words.now) c.in-Ok.command _ c.in-Ok.ensures.ok
    (completes c.input_laws.ensures.one c.in-Ok.command _ _ _ _ c.conclude.result
    (answers c.in-Ok.command _ _ _ _ (as_bytes found.result) c.conclude.result found.ensures.found
    c.conclude.ensures.told)
    (λ e. calm (found.ensures.read_fault
    (was_read_fault (as_bytes found.result) _ _ c.conclude.result c.conclude.ensures.told e)))
    (λ e. still (c.conclude.ensures.write_fault e)))
