use Rattle.sx_customer.proofs.Answered.{completes, cut_off, done_is, done_untold, malformed_is, refused_untold, silent}
use Rattle.sx_customer.proofs.Answered.{steady_read}
use Rattle.sx_customer.proofs.Answered.{steady_write, unasked, untouched, unwritten_unasked, usage, whole}
use Rattle.sx_meaning.specs.Answers.{asked}
use Rattle.sx_customer.proofs.asking.ask.Goals as goal

pub returns-clause-usage : goal.returns-clause-usage
returns-clause-usage g c = usage (asked c.args.words.now) c.run.result c.run.ensures.usage

pub returns-clause-no_command : goal.returns-clause-no_command
returns-clause-no_command g c = λ none. (
  c.run.ensures.unread (untouched (asked c.args.words.now) none),
  c.run.ensures.silent (unwritten_unasked (asked c.args.words.now) c.run.result none c.run.ensures.usage),
  unasked (asked c.args.words.now) c.run.result none c.run.ensures.usage,
)

pub returns-clause-unwritten : goal.returns-clause-unwritten
returns-clause-unwritten g c = λ done fails. c.run.ensures.silent (silent c.run.result done fails)

pub returns-clause-cut_off : goal.returns-clause-cut_off
returns-clause-cut_off g c = λ command input old new asks read had has is.
    cut_off (asked c.args.words.now) command asks _ _ _ _ c.run.result c.run.ensures.answer
    input old new read had has is

pub returns-clause-steady_source : goal.returns-clause-steady_source
returns-clause-steady_source g c = steady_read c.run.result _ c.run.ensures.steady_source

pub returns-clause-steady_sink : goal.returns-clause-steady_sink
returns-clause-steady_sink g c = steady_write c.run.result _ c.run.ensures.steady_sink

pub returns-clause-malformed : goal.returns-clause-malformed
returns-clause-malformed g c = λ command input fault asks read is.
    malformed_is (asked c.args.words.now) command asks _ _ _ _ c.run.result c.run.ensures.answer input fault read is

pub returns-clause-refused_untold : goal.returns-clause-refused_untold
returns-clause-refused_untold g c = λ command number why asks untold is.
    refused_untold (asked c.args.words.now) command asks _ _ _ _ c.run.result c.run.ensures.answer number why untold is

pub returns-clause-complete : goal.returns-clause-complete
returns-clause-complete g c = λ command input asks read calm still.
    completes (asked c.args.words.now) command _ input c.run.result asks read (c.run.ensures.complete calm still)

pub returns-clause-done : goal.returns-clause-done
returns-clause-done g c = λ command input old new asks read had has is.
    done_is (asked c.args.words.now) command asks _ _ _ _ c.run.result c.run.ensures.answer
    input old new read had has is

pub returns-clause-done_untold : goal.returns-clause-done_untold
returns-clause-done_untold g c = λ command old new asks untold had has is.
    done_untold (asked c.args.words.now) command asks _ _ _ _ c.run.result c.run.ensures.answer
    old new untold had has is

pub returns-clause-whole : goal.returns-clause-whole
returns-clause-whole g c = λ command input asks takes told done.
    whole (asked c.args.words.now) command input _ _ asks takes told (c.run.ensures.read done)
