use Rattle.std.proofs.Common.{◌∙◌, ap, sym}
use Rattle.std.specs.Prelude.{option_and_then}
use Rattle.std.specs.Str.Parse.{ParsesUnsigned, ExplainsUnsignedError, HasUnsignedDigitsIfOk}
use Rattle.clap.specs.Words.{found_of, one_of}
use Rattle.clap.proofs.WalkLemmas.{one_text-rows}
use Rattle.sx_words.proofs.TakenNumbers.{reads_number, text_rows}
use Rattle.sx_words.proofs.reading.number_of.Goals as goal

pub returns : goal.returns
returns c = λ number has.
    let id = c.args.id.now in
    let met = found_of c.in_ok-met.met.now in
    let text = one_text-rows met id ∙ ap (option_and_then (one_of id)) c.in_ok-met.ensures.rows
    ∙ sym (text_rows id _) ∙ has.5 in
    reads_number
    (λ bs r. ParsesUnsigned 64 10 bs r × ExplainsUnsignedError 10 bs r × HasUnsignedDigitsIfOk bs r)
    has.0 has.1 number has.2 c.get_one.result (λ u x g. g.0) has.3 has.4
    (c.get_one.ensures.value has.2 text)
