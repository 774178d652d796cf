use Rattle.std.proofs.Common.{◌≡◌, ◌<◌, ◌≤◌, length, take, get_or, ap, arith}
use Rattle.std.proofs.lemmas.List.{take_all}
use Rattle.std.proofs.lemmas.List.Elements.{All-more}
use Rattle.sx_net.specs.Arcs.{left_of}
use Rattle.sx_feas.proofs.pushing.bottleneck.Goals as goal

pub loop-arc-preserved : goal.loop-arc-preserved
loop-arc-preserved c =
    let arcs = c.args.net.now.arcs in
    let path = c.args.net.now.path in
    let same = c.path-arc-items.ensures in
    let within : c.loop-arc.arc-index < length path = omega (arith, ap (λ xs. length xs) same) in
    let read : c.left.result ≡ left_of arcs (get_or path c.loop-arc.arc-index 0) = cc (c.left.ensures.left, same) in
    let some = c.requires.some c.loop-arc.arc-index 0 within in
    record {
      enough = All-more (λ a. c.min-least.result ≤ left_of arcs a) path c.loop-arc.arc-index 0 within
          (λ k d lt. omega (arith, c.loop-arc.invariant.enough k d lt, c.min-least.ensures))
          (omega (arith, read, c.min-least.ensures));
      some = omega (arith, read, some, c.min-least.ensures);
      most = λ m fits all.
          omega (
            arith,
            read,
            all c.loop-arc.arc-index 0 within,
            c.loop-arc.invariant.most m fits all,
            c.min-least.ensures,
          );
    }

pub returns-clause-enough : goal.returns-clause-enough
returns-clause-enough c =
    let path = c.args.net.now.path in
    let all : take c.loop-arc.arc-index path ≡ path =
    take_all c.loop-arc.arc-index path (omega (arith, ap (λ xs. length xs) c.path-arc-items.ensures)) in
    rw all at c.loop-arc.invariant.enough
