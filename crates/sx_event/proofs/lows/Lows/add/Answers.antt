use Rattle.std.proofs.Common.{◌≡◌, ◌++◌, ◌∷◌, [], length, sym, ap, subst, ◌∙◌, arith}
use Rattle.sx_event.specs.Chains.{Chained, IsOpen}
use Rattle.sx_event.proofs.Linking.{fresh, add_linked, add_seen, add_fresh}
use Rattle.sx_event.proofs.lows.Lows.add.Goals as goal

pub invariant_of-self : goal.invariant_of-self
invariant_of-self c =
    let links = c.self.inside.links.items in
    let name : c.len-newest.result ≡ length links = omega arith in
    let made : c.push_reserved.new.self.items ≡ links ++ fresh (length links) ∷ [] = c.push_reserved.ensures.items ∙
    ap (λ n. links ++ fresh n ∷ []) name in
    rw made (add_linked c.self.inside.tables.entries links _ _ c.self.invariant)

pub returns-clause-seen : goal.returns-clause-seen
returns-clause-seen c = λ view purse open'.
    let links = c.self.inside.links.items in
    let name : c.len-newest.result ≡ length links = omega arith in
    let made : c.push_reserved.new.self.items ≡ links ++ fresh (length links) ∷ [] = c.push_reserved.ensures.items ∙
    ap (λ n. links ++ fresh n ∷ []) name in
    let there : IsOpen _ view = subst (λ (l : Chained). IsOpen l view) (sym c.self.view_is) open' in
    rw (← c.self.view_is, made) (add_seen c.self.inside.tables.entries links _ 0 view purse there c.self.invariant)

pub returns-clause-unseen : goal.returns-clause-unseen
returns-clause-unseen c = λ purse.
    let links = c.self.inside.links.items in
    let name : c.len-newest.result ≡ length links = omega arith in
    let made : c.push_reserved.new.self.items ≡ links ++ fresh (length links) ∷ [] = c.push_reserved.ensures.items ∙
    ap (λ n. links ++ fresh n ∷ []) name in
    rw (← c.self.view_is, made) (add_fresh c.self.inside.tables.entries links _ 0 purse c.self.invariant)
