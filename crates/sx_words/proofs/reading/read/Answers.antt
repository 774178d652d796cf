use Rattle.std.proofs.Common.{◌∙◌, ap}
use Rattle.clap.specs.Words.{App, is_simple, subcommand_of, takes}
use Rattle.sx_words.specs.Reading.{spelled_out}
use Rattle.sx_words.proofs.ProgramLaws.{is_simple_program, or_no_memory}
use Rattle.sx_words.proofs.reading.read.Goals as goal

pub returns-in_err-try_get_matches_from : goal.returns-in_err-try_get_matches_from
returns-in_err-try_get_matches_from c =
    let words = spelled_out c.args.words.now in
    or_no_memory _ _ _ c.from_residual-in_err-try_get_matches_from.ensures.1
    (c.in_err-try_get_matches_from.ensures.passes
    (ap (λ (a : App). takes a words) c.in_ok-program.ensures ∙ c.requires))

pub returns : goal.returns
returns c =
    let words = spelled_out c.args.words.now in
    (c.in_ok-try_get_matches_from.ensures.matches (ap is_simple c.in_ok-program.ensures ∙ is_simple_program)).1
    ∙ ap (λ (a : App). subcommand_of a words) c.in_ok-program.ensures
