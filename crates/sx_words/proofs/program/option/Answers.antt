use Rattle.std.proofs.Common.{◌≡◌, ◌∙◌, ap, ap₂, [], ◌∷◌, Option, Some}
use Rattle.clap.specs.Words.{Rule, rule_of}
use Rattle.clap.specs.declared.builder.arg.Arg.{Arg}
use Rattle.clap.specs.declared.builder.value_parser.ValueParser.{ValueParser}
use Rattle.clap.specs.declared.builder.value_parser.ValueParser.TheVariants as parser
use Rattle.sx_words.specs.Settings.{least_of, most_of}
use Rattle.sx_words.proofs.program.option.Goals as goal

pub returns-clause-rule : goal.returns-clause-rule
returns-clause-rule c =
    let id = Some c.args.id.now in
    let default = c.args.default.now ∷ [] in
    let range = Some (parser.Unsigned (least_of c.args.setting) (most_of c.args.setting)) in
    let given = c.value_parser.ensures.given in
    let is_range : c.value_parser.result.value_parser ≡ range = given.1 ∙ ap Some given.2
    ∙ ap₂ (λ least most. Some (parser.Unsigned least most)) c.least.ensures c.most.ensures in
    ap rule_of c.default_value.ensures
    ∙ ap (λ (a : Arg). record (rule_of a) { defaults = default }) c.value_parser.ensures.others
    ∙ ap (λ (p : Option ValueParser). record (rule_of c.long.result) { parser = p; defaults = default }) is_range
    ∙ ap (λ (a : Arg). record (rule_of a) { parser = range; defaults = default }) c.long.ensures
    ∙ ap (λ (r : Rule). record r { long = id; parser = range; defaults = default }) c.new.ensures.rule
