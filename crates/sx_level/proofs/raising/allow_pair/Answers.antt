use Rattle.std.proofs.Common.{ap}
use Rattle.sx_level.proofs.Allowing.{both_same, both_forth, both_back, both_others}
use Rattle.sx_level.proofs.raising.allow_pair.Goals as goal

pub returns-clause-kept : goal.returns-clause-kept
returns-clause-kept c =
    both_same c.args.net.now.arcs c.allow.new.self.arcs c.allow-2.new.self.arcs c.args.place _ _ c.requires.few
    (ap (λ net. net.arcs) c.allow.ensures) (ap (λ net. net.arcs) c.allow-2.ensures)

pub returns-clause-forth : goal.returns-clause-forth
returns-clause-forth c =
    both_forth c.args.net.now.arcs c.allow.new.self.arcs c.allow-2.new.self.arcs c.args.place _ _ c.requires.few
    (ap (λ net. net.arcs) c.allow.ensures) (ap (λ net. net.arcs) c.allow-2.ensures)

pub returns-clause-back : goal.returns-clause-back
returns-clause-back c =
    both_back c.args.net.now.arcs c.allow.new.self.arcs c.allow-2.new.self.arcs c.args.place _ _ c.requires.few
    (ap (λ net. net.arcs) c.allow.ensures) (ap (λ net. net.arcs) c.allow-2.ensures)

pub returns-clause-others : goal.returns-clause-others
returns-clause-others c =
    both_others c.args.net.now.arcs c.allow.new.self.arcs c.allow-2.new.self.arcs c.args.place _ _
    (ap (λ net. net.arcs) c.allow.ensures) (ap (λ net. net.arcs) c.allow-2.ensures)
