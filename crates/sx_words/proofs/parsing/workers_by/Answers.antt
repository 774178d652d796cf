use Rattle.std.proofs.Common.{◌≡◌, ◌∙◌, ap, ◌++◌}
use Rattle.clap.specs.Words.{takes, subcommand_of}
use Rattle.sx_words.specs.Program.{program}
use Rattle.sx_words.specs.Reading.{option_words, spelled_out, text_of}
use Rattle.sx_words.specs.declared.setting.Setting.TheVariants.{Workers}
use Rattle.sx_words.proofs.WorkersLaws.{takes_workers, workers_answers, workers_read, workers_words}
use Rattle.sx_words.proofs.parsing.workers_by.Goals as goal

pub read-requires : goal.read-requires
read-requires c =
    let name = c.args.name.now in
    let given = text_of c.args.workers in
    let words : spelled_out c.deref.result.now ≡ workers_words name given = ap spelled_out c.deref.ensures.value
    ∙ c.in_ok-add.ensures ∙ ap (λ l. l ++ option_words Workers given) c.in_ok-words.ensures in
    ap (takes program) words ∙ takes_workers name given c.requires.name c.requires.workers

pub option_of-requires-clause-read : goal.option_of-requires-clause-read
option_of-requires-clause-read c =
    let name = c.args.name.now in
    let given = text_of c.args.workers in
    let words : spelled_out c.deref.result.now ≡ workers_words name given = ap spelled_out c.deref.ensures.value
    ∙ c.in_ok-add.ensures ∙ ap (λ l. l ++ option_words Workers given) c.in_ok-words.ensures in
    let met = c.in_ok-matches.ensures ∙ ap (subcommand_of program) words in
    (c.requires.workers.0, workers_read name given c.requires.name c.requires.workers c.in_ok-matches.matches met)

pub returns : goal.returns
returns c =
    let name = c.args.name.now in
    let given = text_of c.args.workers in
    let words : spelled_out c.deref.result.now ≡ workers_words name given = ap spelled_out c.deref.ensures.value
    ∙ c.in_ok-add.ensures ∙ ap (λ l. l ++ option_words Workers given) c.in_ok-words.ensures in
    let met = c.in_ok-matches.ensures ∙ ap (subcommand_of program) words in
    workers_answers given c.requires.workers c.option_of.result (c.option_of.ensures c.requires.workers.0
    (workers_read name given c.requires.name c.requires.workers c.in_ok-matches.matches met))
