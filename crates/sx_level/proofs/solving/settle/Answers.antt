use Rattle.std.proofs.Common.{◌*◌, ◌∙◌, arith}
use Rattle.sx_level.specs.Shape.{pair_place}
use Rattle.sx_level.proofs.Heights.{matched_same, total_same, level_same, pushed_level}
use Rattle.sx_level.proofs.solving.settle.Goals as goal

pub maximize-requires-clause-matched : goal.maximize-requires-clause-matched
maximize-requires-clause-matched g c =
    matched_same c.args.bounds.now c.args.net.now.arcs c.allow_pairs.new.net.arcs c.allow_pairs.ensures.kept
    c.requires.matched

pub maximize-requires-clause-in_all : goal.maximize-requires-clause-in_all
maximize-requires-clause-in_all g c =
    omega (
      arith,
      total_same c.args.bounds.now c.args.net.now.arcs c.allow_pairs.new.net.arcs c.allow_pairs.ensures.kept,
      c.requires.in_all,
    )

pub returns-clause-level : goal.returns-clause-level
returns-clause-level g c = λ level was.
    let bounds = c.args.bounds.now in
    let middle = c.allow_pairs.new.net.arcs in
    pushed_level bounds middle c.maximize.new.net.arcs c.args.heights.now level c.args.most
    c.allow_pairs.ensures.allowed c.maximize.ensures.follows
    (level_same bounds c.args.net.now.arcs middle c.allow_pairs.ensures.kept c.args.heights.now level c.args.most
    c.allow_pairs.ensures.shaped was)

pub returns-clause-allowed : goal.returns-clause-allowed
returns-clause-allowed g c = λ s b s_lt b_lt.
    c.maximize.ensures.follows.allowed (2 * pair_place c.args.bounds.now.assets s b)
    ∙ c.allow_pairs.ensures.allowed s b s_lt b_lt
