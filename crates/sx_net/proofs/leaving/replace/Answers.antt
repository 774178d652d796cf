use Rattle.std.proofs.Common.{◌≡◌, refl, sym, ap, ◌∙◌, arith}
use Rattle.std.specs.Option.{option_map}
use Rattle.sx_net.proofs.Listing.{AreListed-stays, AreListed-moves}
use Rattle.sx_net.proofs.leaving.replace.Goals as goal

pub returns-then-moves-clause-listed : goal.returns-then-moves-clause-listed
returns-then-moves-clause-listed c =
    let at = c.requires.listed.all c.args.number c.requires.number
    (λ last. absurd (omega (arith, c.requires.number))) in
    let taken = c.unlink.ensures.taken _ at.place (ap (option_map (λ x. x.0)) at.here) in
    let front = rw taken at (c.push_after.ensures.front refl) in
    let out = rw taken at c.unlink.ensures.disjoint in
    let apart = rw front at c.push_after.ensures.disjoint in
    rw front
    (AreListed-moves _ c.args.number c.requires.number c.args.arc c.requires.tail _ _ c.requires.listed at.place at.here
    out c.list_number-list.result c.push_after.result c.list_number-list.ensures apart)

pub returns-else-moves-clause-listed : goal.returns-else-moves-clause-listed
returns-else-moves-clause-listed c =
    let same : c.list_number-list.result ≡ c.list_number.result = omega arith in
    let old = c.list_number.ensures in
    let is = rw c.look_up-before.ensures at old in
    AreListed-stays _ c.args.number c.requires.number c.args.arc c.requires.tail _ _ c.requires.listed
    (sym c.list_number-list.ensures ∙ same ∙ is)
