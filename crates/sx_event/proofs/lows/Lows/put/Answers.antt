use Rattle.std.proofs.Common.{◌≡◌, sym, ap, subst}
use Rattle.sx_event.specs.declared.lows.Link.{Link}
use Rattle.sx_event.specs.Chains.{newest_of, Chained, IsOpen}
use Rattle.sx_event.proofs.Chaining.{IsPut, link_read, put_linked, put_seen}
use Rattle.sx_event.proofs.lows.Lows.put.Goals as goal

pub invariant_of-self : goal.invariant_of-self
invariant_of-self c =
    let links = c.self.inside.links.items in
    let here : IsOpen _ c.args.view =
    subst (λ (l : Chained). IsOpen l c.args.view) (sym c.self.view_is) c.requires.open in
    let top : c.index.result.now.newest ≡ newest_of links c.args.view =
    ap (λ (l : Link). l.newest) (link_read links c.args.view c.index.result.now here.known c.index.ensures) in
    let put : IsPut c.self.inside.tables.entries c.put.new.self.entries (newest_of links c.args.view) c.args.purse
    c.args.value = rw (← top) c.put.ensures.values in
    put_linked c.self.inside.tables.entries c.put.new.self.entries links _ _ c.args.view c.args.purse c.args.value
    put here c.self.invariant

pub returns-clause-seen : goal.returns-clause-seen
returns-clause-seen c = λ other of open'.
    let links = c.self.inside.links.items in
    let here : IsOpen _ c.args.view =
    subst (λ (l : Chained). IsOpen l c.args.view) (sym c.self.view_is) c.requires.open in
    let there : IsOpen _ other = subst (λ (l : Chained). IsOpen l other) (sym c.self.view_is) open' in
    let top : c.index.result.now.newest ≡ newest_of links c.args.view =
    ap (λ (l : Link). l.newest) (link_read links c.args.view c.index.result.now here.known c.index.ensures) in
    let put : IsPut c.self.inside.tables.entries c.put.new.self.entries (newest_of links c.args.view) c.args.purse
    c.args.value = rw (← top) c.put.ensures.values in
    rw (← c.self.view_is) (put_seen c.self.inside.tables.entries c.put.new.self.entries links _ 0 c.args.view
    c.args.purse c.args.value other of put here there c.self.invariant)
