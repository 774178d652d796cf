use Rattle.std.proofs.Common.{◌≡◌, ◌+◌, ◌-◌, true, false, is_some, ap, sym, ◌∙◌, arith}
use Rattle.sx_event.specs.Tables.{value_in}
use Rattle.sx_event.specs.Chains.{Chained}
use Rattle.sx_event.proofs.Chaining.{seek_found, look_ends, look_goes}
use Rattle.sx_event.proofs.lows.Lows.get.Goals as goal

pub returns-then-is_some : goal.returns-then-is_some
returns-then-is_some c =
    let now = c.args.self.now in
    let is : c.get-value.result ≡ value_in now.entries c.look.table c.args.purse =
    c.get-value.ensures ∙ ap (λ (l : Chained). value_in l.entries c.look.table c.args.purse) c.self.view_is in
    let some : is_some (value_in now.entries c.look.table c.args.purse) ≡ true =
    cc (c.is_some.ensures, c.if-is_some.true, is) in
    is ∙ seek_found (c.len-end.result - c.look.counter) now.entries now.links c.look.table c.args.purse
    (omega arith) some ∙ c.look.invariant

pub returns-in-None : goal.returns-in-None
returns-in-None c =
    let now = c.args.self.now in
    let is : c.get-value.result ≡ value_in now.entries c.look.table c.args.purse =
    c.get-value.ensures ∙ ap (λ (l : Chained). value_in l.entries c.look.table c.args.purse) c.self.view_is in
    let none : is_some (value_in now.entries c.look.table c.args.purse) ≡ false =
    cc (c.is_some.ensures, c.if-is_some.false, is) in
    look_ends (c.len-end.result - c.look.counter) now.entries now.links c.look.table c.args.purse (omega arith) none
    (sym c.in-None.ensures) ∙ c.look.invariant

pub look-preserved : goal.look-preserved
look-preserved c =
    let now = c.args.self.now in
    let is : c.get-value.result ≡ value_in now.entries c.look.table c.args.purse =
    c.get-value.ensures ∙ ap (λ (l : Chained). value_in l.entries c.look.table c.args.purse) c.self.view_is in
    let none : is_some (value_in now.entries c.look.table c.args.purse) ≡ false =
    cc (c.is_some.ensures, c.if-is_some.false, is) in
    look_goes (c.len-end.result - c.look.counter) (c.len-end.result - (c.look.counter + 1)) now.entries now.links
    c.look.table c.in-Some.older c.args.purse (omega arith) none (sym c.in-Some.ensures) ∙ c.look.invariant
