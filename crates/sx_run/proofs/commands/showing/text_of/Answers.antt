use Rattle.std.proofs.Common.{Option, refl, sym, subst}
use Rattle.sx_meaning.specs.Outputs.{IsShown}
use Rattle.sx_run.proofs.Shown.{showable, shown_again}
use Rattle.sx_run.proofs.commands.showing.text_of.Goals as goal
use Rattle.sx_text.specs.declared.shown.Shown.{Shown}

pub par_show-requires-clause-form : goal.par_show-requires-clause-form
par_show-requires-clause-form g c _ _ = showable c.args.shown.now c.requires

pub returns-clause-concludes : goal.returns-clause-concludes
returns-clause-concludes g c = (
  record { item = _; are = refl; finds = refl },
  subst (λ (held : Option Shown). IsShown held c.in_ok-par_show.field-0) (sym (shown_again c.args.shown.now))
      c.in_ok-par_show.ensures,
)
