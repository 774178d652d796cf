use Rattle.std.specs.Prelude.{option_map}
use Rattle.sx_words.specs.Reading.{choice_in, choices_in}
use Rattle.std.proofs.Common.{◌≡◌, Some, None, ◌∙◌, ap, sym, arith, rules}
use Rattle.sx_words.proofs.OptionLaws.{two_left, one_left, name_left, onto, onto_none, and_choice, and_name, items_of}
use Rattle.sx_words.proofs.options.read_options.Goals as goal
use Rattle.sx_words.proofs.options.read_options.Goals.{in-Some+in_ok-ok_or-in-Some+in_ok-push-in-Some}
use Rattle.sx_words.proofs.options.read_options.Goals.{}
use Rattle.sx_words.proofs.options.read_options.Goals.{}
use Rattle.sx_words.proofs.options.read_options.Goals.{in-None+in-Some-parted+in_ok-ok_or-in-Some-parted+in_ok-push-in-Some-parted}
use Rattle.sx_words.proofs.options.read_options.Goals.{in-None+in-None-parted}

pub returns-in_err-ok_or-in-Some-clause-usage : goal.returns-in_err-ok_or-in-Some-clause-usage
returns-in_err-ok_or-in-Some-clause-usage c = λ usage.
    let none : c.chosen.result ≡ None = search rules in
    let left = two_left c.args.settings.now c.loop-word.name c.in-Some.before c.args.words.now c.loop-word.word-index
    c.word-item.result c.as_str.result.now c.in-Some.is c.loop-word.invariant.plain (omega arith) c.word-item.is
    c.as_str.ensures.value in
    c.loop-word.invariant.read ∙ ap (onto (choices_in c.loop-word.given.items)) left ∙
    onto_none (choices_in c.loop-word.given.items) _ _ (sym c.chosen.ensures.value ∙ ap (option_map choice_in) none)

pub returns-in_err-ok_or-in-Some-parted-clause-usage :
    goal.returns-in_err-ok_or-in-Some-parted-clause-usage
returns-in_err-ok_or-in-Some-parted-clause-usage c = λ usage.
    let none : c.chosen-in-Some-parted.result ≡ None = search rules in
    let left = one_left c.args.settings.now c.loop-word.name c.args.words.now c.loop-word.word-index
    c.word-item.result c.as_str-in-None.result.now _ c.in-None.is (omega arith) c.word-item.is
    c.as_str-in-None.ensures.value
    (rw c.in-Some-parted.is at c.parted.ensures.parts) in
    c.loop-word.invariant.read ∙ ap (onto (choices_in c.loop-word.given.items)) left ∙
    onto_none (choices_in c.loop-word.given.items) _ _
    (sym c.chosen-in-Some-parted.ensures.value ∙ ap (option_map choice_in) none)

pub loop-word-preserved : goal.loop-word-preserved
loop-word-preserved c =
    elim c.match-name.branch [
      | in-Some+in_ok-ok_or-in-Some+in_ok-push-in-Some w ↦
          let left = two_left c.args.settings.now c.loop-word.name w.in-Some.before c.args.words.now
          c.loop-word.word-index
          c.word-item.result w.as_str.result.now w.in-Some.is c.loop-word.invariant.plain (omega arith)
          c.word-item.is w.as_str.ensures.value in
          let some : w.chosen.result ≡ Some w.in_ok-ok_or-in-Some.field-0 = search rules in
          and_choice _ _ _ _ _ _ _ _ w.chosen.result _ c.loop-word.invariant left w.chosen.ensures.value some
          w.chosen.ensures.range
          (ap items_of w.given-is ∙ w.in_ok-push-in-Some.ensures.items) w.name-is
      | in-None+in-Some-parted+in_ok-ok_or-in-Some-parted+in_ok-push-in-Some-parted w ↦
          let left = one_left c.args.settings.now c.loop-word.name c.args.words.now c.loop-word.word-index
          c.word-item.result w.as_str-in-None.result.now _ w.in-None.is (omega arith) c.word-item.is
          w.as_str-in-None.ensures.value
          (rw w.in-Some-parted.is at w.parted.ensures.parts) in
          let some : w.chosen-in-Some-parted.result ≡ Some w.in_ok-ok_or-in-Some-parted.field-0 = search rules in
          and_choice _ _ _ _ _ _ _ _ w.chosen-in-Some-parted.result _ c.loop-word.invariant left
          w.chosen-in-Some-parted.ensures.value some w.chosen-in-Some-parted.ensures.range
          (ap items_of w.given-is ∙ w.in_ok-push-in-Some-parted.ensures.items) (w.name-is ∙ w.in-None.is)
      | in-None+in-None-parted w ↦
          let left = name_left c.args.settings.now c.loop-word.name c.args.words.now c.loop-word.word-index
          c.word-item.result w.as_str-in-None-parted.result w.in-None.is (omega arith) c.word-item.is
          w.as_str-in-None-parted.ensures.value in
          let plain = rw w.in-None-parted.is at w.parted.ensures.whole in
          and_name _ _ _ _ _ _ _ _ c.loop-word.invariant left
          (rw (w.as_str-in-None-parted.ensures.value, ← w.as_str-in-None.ensures.value) plain)
          (ap items_of w.given-is) w.name-is
    ]
