use Rattle.std.proofs.Common.{◌≡◌, get_or, sym, subst}
use Rattle.sx_event.specs.Chains.{no_link, Chained, IsOpen}
use Rattle.sx_event.proofs.Chaining.{link_read}
use Rattle.sx_event.proofs.Linking.{join_linked, join_seen}
use Rattle.sx_event.proofs.lows.Lows.join.Goals as goal

pub invariant_of-self : goal.invariant_of-self
invariant_of-self c =
    let links = c.self.inside.links.items in
    let here : IsOpen _ c.args.view =
    subst (λ (l : Chained). IsOpen l c.args.view) (sym c.self.view_is) c.requires.open in
    let there : IsOpen _ c.args.other =
    subst (λ (l : Chained). IsOpen l c.args.other) (sym c.self.view_is) c.requires.other_open in
    let kept : c.index-kept.result.now ≡ get_or links c.args.view no_link =
    link_read links c.args.view c.index-kept.result.now here.known c.index-kept.ensures in
    let taken : c.index.result.now ≡ get_or links c.args.other no_link =
    link_read links c.args.other c.index.result.now there.known c.index.ensures in
    rw (kept, taken) (join_linked c.self.inside.tables.entries links _ _ c.args.view c.args.other c.requires.apart
    here there c.self.invariant)

pub returns-clause-seen : goal.returns-clause-seen
returns-clause-seen c = λ third purse other open'.
    let links = c.self.inside.links.items in
    let here : IsOpen _ c.args.view =
    subst (λ (l : Chained). IsOpen l c.args.view) (sym c.self.view_is) c.requires.open in
    let there : IsOpen _ c.args.other =
    subst (λ (l : Chained). IsOpen l c.args.other) (sym c.self.view_is) c.requires.other_open in
    let third' : IsOpen _ third = subst (λ (l : Chained). IsOpen l third) (sym c.self.view_is) open' in
    let kept : c.index-kept.result.now ≡ get_or links c.args.view no_link =
    link_read links c.args.view c.index-kept.result.now here.known c.index-kept.ensures in
    let taken : c.index.result.now ≡ get_or links c.args.other no_link =
    link_read links c.args.other c.index.result.now there.known c.index.ensures in
    rw (← c.self.view_is, kept, taken)
    (join_seen c.self.inside.tables.entries links _ 0 c.args.view c.args.other c.requires.apart here there third
    purse other third' c.self.invariant)
