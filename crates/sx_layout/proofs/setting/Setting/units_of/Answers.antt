use Rattle.std.proofs.Common.{◌≡◌, ap, subst, ◌∙◌}
use Rattle.sx_layout.specs.declared.asked.Wanted.TheVariants as wanted
use Rattle.sx_layout.specs.declared.spot.Spot.{Spot}
use Rattle.sx_layout.specs.Plan.{purse_spot}
use Rattle.sx_layout.specs.Setting.{IsSetting, Setting}
use Rattle.sx_layout.proofs.TxPlaces.{account_stands}
use Rattle.sx_layout.proofs.setting.Setting.units_of.Goals as goal

pub returns-clause-wanted : goal.returns-clause-wanted
returns-clause-wanted c =
    let s = c.args.self.now in
    let is = subst IsSetting c.self.view_is c.self.invariant.0 in
    let at : c.purse_of.result ≡ purse_spot s.plan c.args.account c.args.asset =
    c.purse_of.ensures ∙ ap (λ (x : Setting). purse_spot x.plan c.args.account c.args.asset) c.self.view_is in
    rw (
      account_stands s.parts is.laid_out.ledger c.args.account c.args.id.0 c.requires.place,
      c.get.ensures.value,
    ) (ap (λ (spot : Spot). wanted.Units spot c.args.need) at)
