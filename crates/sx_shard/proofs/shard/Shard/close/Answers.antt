use Rattle.std.proofs.Common.{◌≡◌, ◌-◌, length, take, refl, sym, ◌∙◌, subst, arith}
use Rattle.sx_shard.specs.Words.{purses_in, bits_in}
use Rattle.sx_shard.specs.Models.{Shown, Seated}
use Rattle.sx_shard.specs.Close.{Ends}
use Rattle.sx_shard.proofs.Ending.{ended, take_all}
use Rattle.sx_shard.proofs.shard.Shard.close.Goals as goal

pub returns : goal.returns
returns c =
    let final = c.close_with-closed.ensures.values.2 in
    let kept = final.1.0 in
    let opening = c.self.inside.table.shared.key in
    let bits = bits_in opening.purses final.0.words in
    let count = c.word_count.result - 1 - c.self.inside.purses in
    let all : count ≡ length bits =
    omega (arith, c.word_count.ensures, c.self.invariant.1, c.self.invariant.2, kept.rule.bits.as_many) in
    subst (λ (z : Shown × Seated). Ends z.0 z.1.view c.of.result c.of-2.result)
    (λ i. (c.self.view_is i, c.seat.view_is i))
    (ended _ opening final.0 c.seat.inside.seat.id c.seat.inside.seat.me.0 _ _ refl refl refl kept final.1.1
    c.seat.invariant.0
    (subst (λ (seated : Seated). seated.view.from ≡ 0) (sym c.seat.view_is) c.requires.from)
    (subst (λ (z : Shown × Seated). z.1.view.end ≡ z.0.count) (λ i. (sym c.self.view_is i, sym c.seat.view_is i))
    c.requires.end)
    (c.of.ensures ∙ c.copied-purses.ensures ∙ (λ i. purses_in (c.self.invariant.0 i) (sym final.2 i)))
    (c.of-2.ensures ∙ c.copied-bits.ensures ∙ (λ i. take count (bits_in (c.self.invariant.0 i) (sym final.2 i)))
    ∙ take_all count bits all))
