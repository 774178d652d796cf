use Rattle.std.proofs.Common.{◌∙◌, refl, sym, arith}
use Rattle.sx_words.specs.Settings.{default_of}
use Rattle.sx_words.proofs.OptionLaws.{found_one, found_other, same_is}
use Rattle.sx_words.proofs.options.word_for.Goals as goal
use Rattle.sx_words.proofs.options.word_for.Goals.{then-eq+else-is_some, else-eq}

pub loop-one-init : goal.loop-one-init
loop-one-init c = record { numbers = refl; range = (default_of c.args.setting, refl) }

pub loop-one-preserved : goal.loop-one-preserved
loop-one-preserved c =
    let same = sym (same_is _ _) ∙ sym c.eq.ensures in
    elim c.if-eq.branch [
      | then-eq+else-is_some w ↦
          found_one c.args.setting c.args.given.now c.loop-one.one-index _ c.loop-one.word c.if-eq.word (omega arith)
          (c.requires c.loop-one.one-index _ (omega arith)) (same ∙ w.if-eq.true)
          (sym w.is_some.ensures ∙ w.if-is_some.false) w.word-is c.loop-one.invariant
      | else-eq w ↦
          found_other c.args.setting c.args.given.now c.loop-one.one-index _ c.loop-one.word c.if-eq.word (omega arith)
          (same ∙ w.if-eq.false) w.word-is c.loop-one.invariant
    ]
