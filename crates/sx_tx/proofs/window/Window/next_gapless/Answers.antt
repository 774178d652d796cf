use Rattle.std.proofs.Common.{ℕ, ◌+◌, arith, ap}
use Rattle.std.proofs.lemmas.Bool.{ne_eqb}
use Rattle.sx_tx.proofs.WindowLaws.{highest_of}
use Rattle.sx_tx.proofs.window.Window.next_gapless.Goals as goal

pub overflow_add-result : goal.overflow_add-result
overflow_add-result c =
    let top = highest_of c.args.map c.if-map-eq0.false c.ranges.map.fits in
    omega (arith, c.requires.in_range top.0 top.1 top.2, c.bit_length.ensures.length, top.4)

pub returns : goal.returns
returns c =
    rw (ne_eqb c.args.map 0 c.if-map-eq0.false)
    (ap (λ (n : ℕ). record { last = c.args.self.now.last + n; used = 0 }) c.bit_length.ensures.length)
