use Rattle.std.proofs.Common.{◌≡◌, refl, sym, subst}
use Rattle.sx_shard.specs.Words.{purses_in, bits_in}
use Rattle.sx_shard.specs.Models.{Shown, Seated}
use Rattle.sx_shard.specs.Close.{HasEnded}
use Rattle.sx_shard.proofs.Ending.{ended}
use Rattle.sx_shard.proofs.shard.Shard.finish.Goals as goal

pub returns : goal.returns
returns c =
    let final = c.close_with-closed.ensures.values.2 in
    let opening = c.self.inside.table.shared.key in
    let purses = purses_in opening.purses final.0.words in
    let bits = bits_in opening.purses final.0.words in
    subst (λ (z : Shown × Seated). HasEnded z.0 z.1.view) (λ i. (c.self.view_is i, c.seat.view_is i)) (record {
      purses = purses;
      bits = bits;
      ends =
          ended _ opening final.0 c.seat.inside.seat.id c.seat.inside.seat.me.0 purses bits refl refl refl final.1.0
          final.1.1 c.seat.invariant.0
          (subst (λ (seated : Seated). seated.view.from ≡ 0) (sym c.seat.view_is) c.requires.from)
          (subst (λ (z : Shown × Seated). z.1.view.end ≡ z.0.count) (λ i. (sym c.self.view_is i, sym c.seat.view_is i))
          c.requires.end) refl refl;
    })
