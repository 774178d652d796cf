use Rattle.std.proofs.Common.{◌≡◌, ◌∙◌, ap, [], ◌∷◌, ◌++◌}
use Rattle.std.proofs.lemmas.List.{map-append}
use Rattle.clap.specs.Words.{takes, subcommand_of}
use Rattle.sx_words.specs.Program.{program}
use Rattle.sx_words.specs.Reading.{spelled_out}
use Rattle.sx_words.proofs.ProveLaws.{prove_answers, prove_numbers, prove_words, takes_prove}
use Rattle.sx_words.proofs.TakenNumbers.{is_found, same_number}
use Rattle.sx_words.proofs.parsing.prove_by.Goals as goal

pub read-requires : goal.read-requires
read-requires c =
    let id = c.args.id.now in
    let words : spelled_out c.deref.result.now ≡ prove_words id = ap spelled_out c.deref.ensures.value
    ∙ ap spelled_out c.in_ok-push.ensures.items ∙ map-append _ _ (c.args.id ∷ [])
    ∙ ap (λ l. l ++ id ∷ []) c.in_ok-words.ensures in
    ap (takes program) words ∙ takes_prove id c.requires

pub unwrap-requires : goal.unwrap-requires
unwrap-requires c =
    let id = c.args.id.now in
    let words : spelled_out c.deref.result.now ≡ prove_words id = ap spelled_out c.deref.ensures.value
    ∙ ap spelled_out c.in_ok-push.ensures.items ∙ map-append _ _ (c.args.id ∷ [])
    ∙ ap (λ l. l ++ id ∷ []) c.in_ok-words.ensures in
    let met = c.in_ok-matches.ensures ∙ ap (subcommand_of program) words in
    let has = prove_numbers id c.requires c.in_ok-matches.matches met in
    is_found c.number_of.result c.requires.0 (c.number_of.ensures c.requires.0 has)

pub returns : goal.returns
returns c =
    let id = c.args.id.now in
    let words : spelled_out c.deref.result.now ≡ prove_words id = ap spelled_out c.deref.ensures.value
    ∙ ap spelled_out c.in_ok-push.ensures.items ∙ map-append _ _ (c.args.id ∷ [])
    ∙ ap (λ l. l ++ id ∷ []) c.in_ok-words.ensures in
    let met = c.in_ok-matches.ensures ∙ ap (subcommand_of program) words in
    let has = prove_numbers id c.requires c.in_ok-matches.matches met in
    let same = same_number c.number_of.result c.unwrap.result c.requires.0 c.unwrap.ensures
    (c.number_of.ensures c.requires.0 has) in
    prove_answers id c.requires c.unwrap.result same
