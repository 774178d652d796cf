use Rattle.std.proofs.Common.{ℕ, ap, sym, subst, ◌∙◌}
use Rattle.sx_layout.specs.Asked.{bit_wanted}
use Rattle.sx_layout.specs.Plan.{offer_spot}
use Rattle.sx_layout.specs.Setting.{IsSetting, Setting}
use Rattle.sx_layout.proofs.TxPlaces.{offer_stands}
use Rattle.sx_layout.proofs.setting.Setting.offer_of.Goals as goal

pub returns-clause-wanted : goal.returns-clause-wanted
returns-clause-wanted c =
    let s = c.args.self.now in
    let is = subst IsSetting c.self.view_is c.self.invariant.0 in
    let at = rw c.in-Offer.is at c.requires in
    let told = c.offer_of-bit.ensures ∙ ap (λ (x : Setting). offer_spot x.plan c.in-Offer.place) c.self.view_is in
    ap bit_wanted told
    ∙ ap (λ (p : ℕ). bit_wanted (offer_spot s.plan p))
    (sym (offer_stands s.parts is.laid_out.ledger c.in-Offer.place c.args.key.now at))
