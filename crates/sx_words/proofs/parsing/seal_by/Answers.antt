use Rattle.std.proofs.Common.{◌≡◌, ◌∙◌, ap, arith, ◌++◌}
use Rattle.clap.specs.Words.{takes, subcommand_of}
use Rattle.sx_words.specs.Program.{program}
use Rattle.sx_words.specs.Reading.{option_words, spelled_out, text_of}
use Rattle.sx_words.specs.declared.setting.Setting.TheVariants.{Workers, Shards, Mu, Rounds, Searches}
use Rattle.sx_words.proofs.SealLaws.{seal_answers, seal_options, seal_words, takes_seal}
use Rattle.sx_words.proofs.parsing.seal_by.Goals as goal

pub read-requires : goal.read-requires
read-requires c =
    let w = text_of c.args.workers in
    let s = text_of c.args.shards in
    let m = text_of c.args.mu in
    let r = text_of c.args.rounds in
    let n = text_of c.args.searches in
    let words : spelled_out c.deref.result.now ≡ seal_words w s m r n = ap spelled_out c.deref.ensures.value
    ∙ c.in_ok-add-5.ensures ∙ ap (λ l. l ++ option_words Searches n) (c.in_ok-add-4.ensures
    ∙ ap (λ l. l ++ option_words Rounds r) (c.in_ok-add-3.ensures ∙ ap (λ l. l ++ option_words Mu m)
    (c.in_ok-add-2.ensures ∙ ap (λ l. l ++ option_words Shards s) (c.in_ok-add.ensures
    ∙ ap (λ l. l ++ option_words Workers w) c.in_ok-words.ensures)))) in
    ap (takes program) words
    ∙ takes_seal w s m r n c.requires.workers c.requires.shards c.requires.mu c.requires.rounds c.requires.searches

pub option_of-requires-clause-read : goal.option_of-requires-clause-read
option_of-requires-clause-read c =
    let w = text_of c.args.workers in
    let s = text_of c.args.shards in
    let m = text_of c.args.mu in
    let r = text_of c.args.rounds in
    let n = text_of c.args.searches in
    let words : spelled_out c.deref.result.now ≡ seal_words w s m r n = ap spelled_out c.deref.ensures.value
    ∙ c.in_ok-add-5.ensures ∙ ap (λ l. l ++ option_words Searches n) (c.in_ok-add-4.ensures
    ∙ ap (λ l. l ++ option_words Rounds r) (c.in_ok-add-3.ensures ∙ ap (λ l. l ++ option_words Mu m)
    (c.in_ok-add-2.ensures ∙ ap (λ l. l ++ option_words Shards s) (c.in_ok-add.ensures
    ∙ ap (λ l. l ++ option_words Workers w) c.in_ok-words.ensures)))) in
    let met = c.in_ok-matches.ensures ∙ ap (subcommand_of program) words in
    let has = seal_options w s m r n c.requires.workers c.requires.shards c.requires.mu c.requires.rounds
    c.requires.searches c.in_ok-matches.matches met in
    (c.requires.workers.0, has.0)

pub option_of-requires-2-clause-read : goal.option_of-requires-2-clause-read
option_of-requires-2-clause-read c =
    let w = text_of c.args.workers in
    let s = text_of c.args.shards in
    let m = text_of c.args.mu in
    let r = text_of c.args.rounds in
    let n = text_of c.args.searches in
    let words : spelled_out c.deref.result.now ≡ seal_words w s m r n = ap spelled_out c.deref.ensures.value
    ∙ c.in_ok-add-5.ensures ∙ ap (λ l. l ++ option_words Searches n) (c.in_ok-add-4.ensures
    ∙ ap (λ l. l ++ option_words Rounds r) (c.in_ok-add-3.ensures ∙ ap (λ l. l ++ option_words Mu m)
    (c.in_ok-add-2.ensures ∙ ap (λ l. l ++ option_words Shards s) (c.in_ok-add.ensures
    ∙ ap (λ l. l ++ option_words Workers w) c.in_ok-words.ensures)))) in
    let met = c.in_ok-matches.ensures ∙ ap (subcommand_of program) words in
    let has = seal_options w s m r n c.requires.workers c.requires.shards c.requires.mu c.requires.rounds
    c.requires.searches c.in_ok-matches.matches met in
    (c.requires.shards.0, has.1)

pub option_of-requires-3-clause-read : goal.option_of-requires-3-clause-read
option_of-requires-3-clause-read c =
    let w = text_of c.args.workers in
    let s = text_of c.args.shards in
    let m = text_of c.args.mu in
    let r = text_of c.args.rounds in
    let n = text_of c.args.searches in
    let words : spelled_out c.deref.result.now ≡ seal_words w s m r n = ap spelled_out c.deref.ensures.value
    ∙ c.in_ok-add-5.ensures ∙ ap (λ l. l ++ option_words Searches n) (c.in_ok-add-4.ensures
    ∙ ap (λ l. l ++ option_words Rounds r) (c.in_ok-add-3.ensures ∙ ap (λ l. l ++ option_words Mu m)
    (c.in_ok-add-2.ensures ∙ ap (λ l. l ++ option_words Shards s) (c.in_ok-add.ensures
    ∙ ap (λ l. l ++ option_words Workers w) c.in_ok-words.ensures)))) in
    let met = c.in_ok-matches.ensures ∙ ap (subcommand_of program) words in
    let has = seal_options w s m r n c.requires.workers c.requires.shards c.requires.mu c.requires.rounds
    c.requires.searches c.in_ok-matches.matches met in
    (c.requires.mu.0, has.2)

pub option_of-requires-4-clause-read : goal.option_of-requires-4-clause-read
option_of-requires-4-clause-read c =
    let w = text_of c.args.workers in
    let s = text_of c.args.shards in
    let m = text_of c.args.mu in
    let r = text_of c.args.rounds in
    let n = text_of c.args.searches in
    let words : spelled_out c.deref.result.now ≡ seal_words w s m r n = ap spelled_out c.deref.ensures.value
    ∙ c.in_ok-add-5.ensures ∙ ap (λ l. l ++ option_words Searches n) (c.in_ok-add-4.ensures
    ∙ ap (λ l. l ++ option_words Rounds r) (c.in_ok-add-3.ensures ∙ ap (λ l. l ++ option_words Mu m)
    (c.in_ok-add-2.ensures ∙ ap (λ l. l ++ option_words Shards s) (c.in_ok-add.ensures
    ∙ ap (λ l. l ++ option_words Workers w) c.in_ok-words.ensures)))) in
    let met = c.in_ok-matches.ensures ∙ ap (subcommand_of program) words in
    let has = seal_options w s m r n c.requires.workers c.requires.shards c.requires.mu c.requires.rounds
    c.requires.searches c.in_ok-matches.matches met in
    (c.requires.rounds.0, has.3)

pub option_of-requires-5-clause-read : goal.option_of-requires-5-clause-read
option_of-requires-5-clause-read c =
    let w = text_of c.args.workers in
    let s = text_of c.args.shards in
    let m = text_of c.args.mu in
    let r = text_of c.args.rounds in
    let n = text_of c.args.searches in
    let words : spelled_out c.deref.result.now ≡ seal_words w s m r n = ap spelled_out c.deref.ensures.value
    ∙ c.in_ok-add-5.ensures ∙ ap (λ l. l ++ option_words Searches n) (c.in_ok-add-4.ensures
    ∙ ap (λ l. l ++ option_words Rounds r) (c.in_ok-add-3.ensures ∙ ap (λ l. l ++ option_words Mu m)
    (c.in_ok-add-2.ensures ∙ ap (λ l. l ++ option_words Shards s) (c.in_ok-add.ensures
    ∙ ap (λ l. l ++ option_words Workers w) c.in_ok-words.ensures)))) in
    let met = c.in_ok-matches.ensures ∙ ap (subcommand_of program) words in
    let has = seal_options w s m r n c.requires.workers c.requires.shards c.requires.mu c.requires.rounds
    c.requires.searches c.in_ok-matches.matches met in
    (c.requires.searches.0, has.4)

pub overflow_cast-result : goal.overflow_cast-result
overflow_cast-result c =
    let w = text_of c.args.workers in
    let s = text_of c.args.shards in
    let m = text_of c.args.mu in
    let r = text_of c.args.rounds in
    let n = text_of c.args.searches in
    let words : spelled_out c.deref.result.now ≡ seal_words w s m r n = ap spelled_out c.deref.ensures.value
    ∙ c.in_ok-add-5.ensures ∙ ap (λ l. l ++ option_words Searches n) (c.in_ok-add-4.ensures
    ∙ ap (λ l. l ++ option_words Rounds r) (c.in_ok-add-3.ensures ∙ ap (λ l. l ++ option_words Mu m)
    (c.in_ok-add-2.ensures ∙ ap (λ l. l ++ option_words Shards s) (c.in_ok-add.ensures
    ∙ ap (λ l. l ++ option_words Workers w) c.in_ok-words.ensures)))) in
    let met = c.in_ok-matches.ensures ∙ ap (subcommand_of program) words in
    let has = seal_options w s m r n c.requires.workers c.requires.shards c.requires.mu c.requires.rounds
    c.requires.searches c.in_ok-matches.matches met in
    omega (arith, c.option_of-3.ensures c.requires.mu.0 has.2, has.2.0.1)

pub returns : goal.returns
returns c =
    let w = text_of c.args.workers in
    let s = text_of c.args.shards in
    let m = text_of c.args.mu in
    let r = text_of c.args.rounds in
    let n = text_of c.args.searches in
    let words : spelled_out c.deref.result.now ≡ seal_words w s m r n = ap spelled_out c.deref.ensures.value
    ∙ c.in_ok-add-5.ensures ∙ ap (λ l. l ++ option_words Searches n) (c.in_ok-add-4.ensures
    ∙ ap (λ l. l ++ option_words Rounds r) (c.in_ok-add-3.ensures ∙ ap (λ l. l ++ option_words Mu m)
    (c.in_ok-add-2.ensures ∙ ap (λ l. l ++ option_words Shards s) (c.in_ok-add.ensures
    ∙ ap (λ l. l ++ option_words Workers w) c.in_ok-words.ensures)))) in
    let met = c.in_ok-matches.ensures ∙ ap (subcommand_of program) words in
    let has = seal_options w s m r n c.requires.workers c.requires.shards c.requires.mu c.requires.rounds
    c.requires.searches c.in_ok-matches.matches met in
    seal_answers w s m r n c.requires.workers c.requires.shards c.requires.mu c.requires.rounds c.requires.searches
    c.option_of.result c.option_of-2.result c.option_of-3.result c.option_of-4.result c.option_of-5.result
    (c.option_of.ensures c.requires.workers.0 has.0) (c.option_of-2.ensures c.requires.shards.0 has.1)
    (c.option_of-3.ensures c.requires.mu.0 has.2) (c.option_of-4.ensures c.requires.rounds.0 has.3)
    (c.option_of-5.ensures c.requires.searches.0 has.4)
