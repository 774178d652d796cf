use Rattle.std.proofs.Common.{◌≡◌, Bool, false, not, refl, ap, sym, subst, ◌∙◌, Some, slice_get, arith}
use Rattle.std.specs.Prelude.{IsTrue}
use Rattle.sx_layout.specs.Setting.{IsSetting, Setting}
use Rattle.sx_layout.proofs.AskedThings.{asks}
use Rattle.sx_layout.proofs.TxPlaces.{window_stands}
use Rattle.sx_layout.proofs.setting.Setting.bit_of.Goals as goal
use Rattle.sx_tx.specs.declared.window.Window.{Window}
use Rattle.sx_tx.specs.Window.{is_marked}

pub returns : goal.returns
returns c =
    let is = subst IsSetting c.self.view_is c.self.invariant.0 in
    let at : slice_get c.args.self.now.parts.accounts c.args.account ≡ Some c.account.result.now =
    ap (λ (s : Setting). slice_get s.parts.accounts c.args.account) (sym c.self.view_is) ∙ c.account.ensures.account in
    let last = ap (λ (w : Window). w.last) (window_stands c.args.self.now.parts is.laid_out.ledger c.args.account
    c.args.tx.now.account.0 c.account.result.now c.requires.place at) in
    omega (arith, last, c.in-Ok.ensures.place)

pub unreachable-requires : goal.unreachable-requires
unreachable-requires c =
    let is = subst IsSetting c.self.view_is c.self.invariant.0 in
    let at : slice_get c.args.self.now.parts.accounts c.args.account ≡ Some c.account.result.now =
    ap (λ (s : Setting). slice_get s.parts.accounts c.args.account) (sym c.self.view_is) ∙ c.account.ensures.account in
    let stands = window_stands c.args.self.now.parts is.laid_out.ledger c.args.account c.args.tx.now.account.0
    c.account.result.now c.requires.place at in
    let last = ap (λ (w : Window). w.last) stands in
    let asked = asks c.args.self.now.parts c.args.tx.now c.requires.passes in
    let above = asked.above in
    let within = asked.within in
    let unmarked = subst (λ (w : Window). is_marked w c.args.tx.now.seq ≡ false) stands asked.unmarked in
    let no_error = c.in-Err.ensures.inside.1 (
      omega (arith, last, above),
      omega (arith, last, within),
      subst (λ (b : Bool). IsTrue (not b)) (sym unmarked) refl,
    ) in
    absurd cc
