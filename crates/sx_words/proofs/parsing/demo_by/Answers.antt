use Rattle.std.proofs.Common.{◌≡◌, ◌∙◌, ap, [], ◌∷◌, ◌++◌}
use Rattle.std.proofs.lemmas.List.{map-append}
use Rattle.clap.specs.Words.{takes, subcommand_of}
use Rattle.sx_words.specs.Program.{program}
use Rattle.sx_words.specs.Reading.{option_words, spelled_out, text_of}
use Rattle.sx_words.specs.declared.setting.Setting.TheVariants.{Workers}
use Rattle.sx_words.proofs.DemoLaws.{demo_answers, demo_numbers, demo_words, takes_demo}
use Rattle.sx_words.proofs.TakenNumbers.{is_found, same_number}
use Rattle.sx_words.proofs.parsing.demo_by.Goals as goal

pub read-requires : goal.read-requires
read-requires c =
    let number = c.args.number.now in
    let given = text_of c.args.workers in
    let words : spelled_out c.deref.result.now ≡ demo_words number given = ap spelled_out c.deref.ensures.value
    ∙ c.in_ok-add.ensures ∙ ap (λ l. l ++ option_words Workers given)
    (ap spelled_out c.in_ok-push.ensures.items ∙ map-append _ _ (c.args.number ∷ [])
    ∙ ap (λ l. l ++ number ∷ []) c.in_ok-words.ensures) in
    ap (takes program) words ∙ takes_demo number given c.requires.number c.requires.workers

pub unwrap-requires : goal.unwrap-requires
unwrap-requires c =
    let number = c.args.number.now in
    let given = text_of c.args.workers in
    let words : spelled_out c.deref.result.now ≡ demo_words number given = ap spelled_out c.deref.ensures.value
    ∙ c.in_ok-add.ensures ∙ ap (λ l. l ++ option_words Workers given)
    (ap spelled_out c.in_ok-push.ensures.items ∙ map-append _ _ (c.args.number ∷ [])
    ∙ ap (λ l. l ++ number ∷ []) c.in_ok-words.ensures) in
    let met = c.in_ok-matches.ensures ∙ ap (subcommand_of program) words in
    let has = demo_numbers number given c.requires.number c.requires.workers c.in_ok-matches.matches met in
    is_found c.number_of.result c.requires.number.0 (c.number_of.ensures c.requires.number.0 has.0)

pub option_of-requires-clause-read : goal.option_of-requires-clause-read
option_of-requires-clause-read c =
    let number = c.args.number.now in
    let given = text_of c.args.workers in
    let words : spelled_out c.deref.result.now ≡ demo_words number given = ap spelled_out c.deref.ensures.value
    ∙ c.in_ok-add.ensures ∙ ap (λ l. l ++ option_words Workers given)
    (ap spelled_out c.in_ok-push.ensures.items ∙ map-append _ _ (c.args.number ∷ [])
    ∙ ap (λ l. l ++ number ∷ []) c.in_ok-words.ensures) in
    let met = c.in_ok-matches.ensures ∙ ap (subcommand_of program) words in
    let has = demo_numbers number given c.requires.number c.requires.workers c.in_ok-matches.matches met in
    (c.requires.workers.0, has.1)

pub returns : goal.returns
returns c =
    let number = c.args.number.now in
    let given = text_of c.args.workers in
    let words : spelled_out c.deref.result.now ≡ demo_words number given = ap spelled_out c.deref.ensures.value
    ∙ c.in_ok-add.ensures ∙ ap (λ l. l ++ option_words Workers given)
    (ap spelled_out c.in_ok-push.ensures.items ∙ map-append _ _ (c.args.number ∷ [])
    ∙ ap (λ l. l ++ number ∷ []) c.in_ok-words.ensures) in
    let met = c.in_ok-matches.ensures ∙ ap (subcommand_of program) words in
    let has = demo_numbers number given c.requires.number c.requires.workers c.in_ok-matches.matches met in
    let seed = same_number c.number_of.result c.unwrap.result c.requires.number.0 c.unwrap.ensures
    (c.number_of.ensures c.requires.number.0 has.0) in
    demo_answers number given c.requires.number c.requires.workers c.unwrap.result c.option_of.result seed
    (c.option_of.ensures c.requires.workers.0 has.1)
