use Rattle.std.proofs.lemmas.List.Elements.{All-push}
use Rattle.sx_bench.specs.Quotes.{IsSmall}
use Rattle.sx_bench.proofs.quotes.draw_quotes.Goals as goal

pub loop-preserved : goal.loop-preserved
loop-preserved c =
    rw c.in_ok-push.ensures.items (All-push (IsSmall c.args.assets) c.loop.quotes.items c.in_ok-next.next
    c.loop.invariant c.in_ok-next.ensures.small)
