use Rattle.std.proofs.Common.{rules, ◌/◌, ◌^◌, arith}
use Rattle.sx_commit.proofs.Clashes.{bytes_differ, joined_whole, read_whole}
use Rattle.sx_commit.proofs.Folding.{folded_more, folded_none}
use Rattle.sx_commit.proofs.clashing.climb.Goals as goal

pub loop-k-init : goal.loop-k-init
loop-k-init c = (
  folded_none c.args.place c.args.own_siblings.now c.args.own_leaf.now,
  folded_none c.args.place c.args.said_siblings.now c.args.said_leaf.now,
  c.requires.differ,
  c.requires.own_leaf,
  c.requires.said_leaf,
)

pub meeting-requires-clause-differ : goal.meeting-requires-clause-differ
meeting-requires-clause-differ c =
    bytes_differ c.loop-k.own c.index-own_siblings-k-then-eq.result c.loop-k.said
    c.index-said_siblings-k-then-eq.result c.loop-k.invariant.3
    (read_whole c.args.own_siblings.now c.loop-k.k c.index-own_siblings-k-then-eq.result c.requires.own_digests
    c.index-own_siblings-k-then-eq.is (omega (arith, c.requires.own_whole, c.loop-k.auto)))
    c.loop-k.invariant.4
    (read_whole c.args.said_siblings.now c.loop-k.k c.index-said_siblings-k-then-eq.result c.requires.said_digests
    c.index-said_siblings-k-then-eq.is (omega (arith, c.requires.said_whole, c.loop-k.auto)))
    (c.args.place / 2 ^ c.loop-k.k) c.loop-k.invariant.2

pub loop-k-preserved : goal.loop-k-preserved
loop-k-preserved c = (
  folded_more c.args.place c.args.own_siblings.now c.args.own_leaf.now c.loop-k.k c.loop-k.own _ _
      (omega (arith, c.requires.own_whole, c.loop-k.auto)) c.loop-k.invariant.0 c.index-own_siblings-k.is
      c.join-own_above.ensures,
  folded_more c.args.place c.args.said_siblings.now c.args.said_leaf.now c.loop-k.k c.loop-k.said _ _
      (omega (arith, c.requires.said_whole, c.loop-k.auto)) c.loop-k.invariant.1 c.index-said_siblings-k.is
      c.join-said_above.ensures,
  search rules,
  joined_whole (c.args.place / 2 ^ c.loop-k.k) c.loop-k.own c.index-own_siblings-k.result c.join-own_above.result
      c.join-own_above.ensures,
  joined_whole (c.args.place / 2 ^ c.loop-k.k) c.loop-k.said c.index-said_siblings-k.result
      c.join-said_above.result c.join-said_above.ensures,
)
