use Rattle.std.proofs.Common.{rules, ap, ◌∙◌}
use Rattle.sx_net.proofs.Found.{reached_only, reached_all, missed, found, found_path, found_passable}
use Rattle.sx_net.proofs.Leading.{some_arc}
use Rattle.sx_net.proofs.Simple.{IsPath-pushable}
use Rattle.sx_net.proofs.Sounding.{IsSound-path}
use Rattle.sx_net.proofs.net.Net.search.Goals as goal

pub invariant_of-self : goal.invariant_of-self
invariant_of-self g c =
    let simple = found_path _ _ c.as_slice-arcs.ensures.value _ _ _ c.grow.ensures.linked c.grow.ensures.root
    c.grow.ensures.apart c.trace.new.path.items _ _ c.trace.ensures.path c.in-Some.ensures.some.1 in
    let kept = IsSound-path _ _ _ _ _ _ _ _ _ c.self.invariant c.trace.new.path.items _
    (IsPath-pushable _ c.self.invariant.sound.reverses _ _ _ simple)
    (c.trace.ensures.room ∙ c.clear.ensures.capacity) in
    rw c.grow.ensures.nodes kept

pub returns-in-Some-clause-exact : goal.returns-in-Some-clause-exact
returns-in-Some-clause-exact g c =
    let same = c.as_slice-arcs.ensures.value ∙ ap (λ net. net.arcs) c.self.view_is in (
      λ _. found _ _ same _ _ _ c.grow.ensures.linked c.grow.ensures.root c.grow.ensures.apart _ _ _
          c.trace.ensures.path c.in-Some.ensures.some.1,
      λ _. search rules,
    )

pub returns-in-Some-clause-path : goal.returns-in-Some-clause-path
returns-in-Some-clause-path g c =
    let same = c.as_slice-arcs.ensures.value ∙ ap (λ net. net.arcs) c.self.view_is in
    found_path _ _ same _ _ _ c.grow.ensures.linked c.grow.ensures.root c.grow.ensures.apart _ _ _
    c.trace.ensures.path c.in-Some.ensures.some.1

pub returns-in-Some-clause-passable : goal.returns-in-Some-clause-passable
returns-in-Some-clause-passable g c =
    let same = c.as_slice-arcs.ensures.value ∙ ap (λ net. net.arcs) c.self.view_is in
    found_passable _ _ same _ _ _ c.grow.ensures.linked c.grow.ensures.root _ _ c.trace.ensures.path

pub returns-in-Some-clause-reached : goal.returns-in-Some-clause-reached
returns-in-Some-clause-reached g c =
    let same = c.as_slice-arcs.ensures.value ∙ ap (λ net. net.arcs) c.self.view_is in
    reached_only _ _ same _ _ _ c.grow.ensures.linked c.grow.ensures.root

pub returns-in-None-clause-exact : goal.returns-in-None-clause-exact
returns-in-None-clause-exact g c =
    let same = c.as_slice-arcs.ensures.value ∙ ap (λ net. net.arcs) c.self.view_is in (
      λ yes. absurd (search rules),
      λ reach. absurd (missed _ _ same _ _ _ c.grow.ensures.linked c.grow.ensures.root c.in-None.ensures.closed _
          c.in-None.ensures.none reach),
    )

pub returns-in-None-clause-reached : goal.returns-in-None-clause-reached
returns-in-None-clause-reached g c =
    let same = c.as_slice-arcs.ensures.value ∙ ap (λ net. net.arcs) c.self.view_is in
    reached_only _ _ same _ _ _ c.grow.ensures.linked c.grow.ensures.root

pub returns-in-None-clause-all : goal.returns-in-None-clause-all
returns-in-None-clause-all g c =
    let same = c.as_slice-arcs.ensures.value ∙ ap (λ net. net.arcs) c.self.view_is in
    reached_all _ _ same _ _ _ c.grow.ensures.linked c.grow.ensures.root c.in-None.ensures.closed

pub returns-in-Some-clause-kept : goal.returns-in-Some-clause-kept
returns-in-Some-clause-kept g c =
    some_arc _ _ _ _ (found_path _ _ c.as_slice-arcs.ensures.value _ _ _ c.grow.ensures.linked c.grow.ensures.root
    c.grow.ensures.apart _ _ _ c.trace.ensures.path c.in-Some.ensures.some.1).leads c.requires.apart
