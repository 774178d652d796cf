use Rattle.std.proofs.Common.{◌≡◌, ◌+◌, ◌*◌, set, ap, ◌∙◌, arith}
use Rattle.std.specs.Prelude.{replicate}
use Rattle.sx_block.specs.Trades.{place_of}
use Rattle.sx_block.proofs.Listing.{entries_start, entries_more, place_within}
use Rattle.sx_block.proofs.trade.entries_of.Goals as goal

pub loop-left-init : goal.loop-left-init
loop-left-init c =
    let n_is = c.from-n.ensures in
    let zeros : c.in_ok-entries.entries.items ≡ replicate (c.from-n.result * c.from-n.result) 0 =
    c.in_ok-entries.ensures.items_if_clones_equal (λ y e. e) in (
      omega arith,
      entries_start c.args.assets c.args.trades.now c.in_ok-entries.entries.items
          (zeros ∙ ap (λ n. replicate (n * n) 0) n_is),
    )

pub index_mut-requires : goal.index_mut-requires
index_mut-requires c =
    let t = c.index-trades-left.result in
    let place : c.from.result * c.from-n.result + c.from-in-loop-left.result ≡ place_of c.args.assets t = cc in
    let within = place_within c.args.assets c.loop-left.left c.args.trades.now t c.loop-left.entries.items
    c.loop-left-test.true c.loop-left.invariant.0 c.index-trades-left.is c.requires.trades
    c.loop-left.invariant.1 in
    omega (arith, c.loop-left.entries.ok.0)

pub loop-left-preserved : goal.loop-left-preserved
loop-left-preserved c =
    let t = c.index-trades-left.result in
    let place : c.from.result * c.from-n.result + c.from-in-loop-left.result ≡ place_of c.args.assets t = cc in
    let more = entries_more c.args.assets c.loop-left.left c.args.trades.now t c.loop-left.entries.items
    c.loop-left-test.true c.loop-left.invariant.0 c.index-trades-left.is c.requires.trades
    c.loop-left.invariant.1 in
    (omega arith, ap (λ p. set c.loop-left.entries.items p t.value) place ∙ more)
