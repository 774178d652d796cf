-- What a search found: a path, or all nodes that open arcs lead to.
use Rattle.std.proofs.Common.{◌≡◌, ℕ, ◌<◌, Bool, List, length, map, Option, Some, None, sym, ap, subst, ◌∙◌, arith}
use Rattle.std.proofs.Common.{rules}
use Rattle.std.specs.Prelude.{IsTrue, is_some, IfSome, IfNone, ◌↔◌}
use Rattle.std.specs.List.{All, Contains}
use Rattle.std.proofs.lemmas.List.{get_or-map, length-map}
use Rattle.sx_net.specs.declared.arc.Arc.{Arc}
use Rattle.sx_net.specs.declared.tree.Visit.{Visit}
use Rattle.sx_net.specs.Arcs.{tail_of, head_of, IsOpen}
use Rattle.sx_net.specs.Paths.{IsPath, Reaches}
use Rattle.sx_net.specs.Visits.{no_visit, node_at, IsVisited, AreApart}
use Rattle.sx_net.specs.Trees.{IsTree, LeadsBack, IsClosed}
use Rattle.sx_net.proofs.Leading.{carried}
use Rattle.sx_net.proofs.Tracing.{path_from, passable_from, visited_reached}

abbrev nodes_of : List Visit → List ℕ
nodes_of visits = map (λ visit. visit.node) visits

contained : (visits : List Visit) (v : ℕ) → IsVisited visits v → Contains (nodes_of visits) v
contained visits v at = (
  at.place,
  omega (arith, at.within, length-map visits (λ visit. visit.node)),
  get_or-map (λ visit. visit.node) visits at.place no_visit v at.within ∙ at.is,
)

visited : (visits : List Visit) (v : ℕ) → Contains (nodes_of visits) v → IsVisited visits v
visited visits v at =
    let within : at.0 < length visits = omega (arith, at.1, length-map visits (λ visit. visit.node)) in
    record {
      place = at.0;
      within = within;
      is = sym (get_or-map (λ visit. visit.node) visits at.0 no_visit v within) ∙ at.2;
    }

-- the place of a node tells whether it was reached
pub told : (visits : List Visit) (node : ℕ) (place : Option ℕ) (b : Bool) → b ≡ is_some place →
    IfSome place (λ p. (p < length visits) × (node_at visits p ≡ node)) → IfNone place (¬ IsVisited visits node) →
    IsTrue b ↔ Contains (nodes_of visits) node
told visits node (Some p) b is here gone =
    (λ _. contained visits node (record { place = p; within = here.0; is = here.1 }), λ _. rw is (search rules))
told visits node None b is here gone =
    (λ yes. absurd (let no = rw is at yes in search rules), λ at. absurd (gone (visited visits node at)))

module _ (seen arcs : List Arc) (same : seen ≡ arcs) (least tail : ℕ) (visits : List Visit)
    (linked : IsTree seen least visits) (root : node_at visits 0 ≡ tail) where
  pub reached_only : (v : ℕ) → Contains (nodes_of visits) v → Reaches arcs least tail v
  reached_only v at = rw (← same, ← root) (visited_reached seen least visits linked v (visited visits v at))

  pub found_passable : (path : List ℕ) (place : ℕ) → LeadsBack visits 0 path place → All (IsOpen arcs least) path
  found_passable path place back = rw (← same) (passable_from seen least visits linked path place back)

  pub found_path : AreApart visits → (path : List ℕ) (place head : ℕ) → LeadsBack visits 0 path place →
      node_at visits place ≡ head → IsPath arcs tail path head
  found_path apart path place head back is =
      rw (← same, ← root, ← is) (path_from seen least visits linked apart path place back)

  pub found : AreApart visits → (path : List ℕ) (place head : ℕ) → LeadsBack visits 0 path place →
      node_at visits place ≡ head → Reaches arcs least tail head
  found apart path place head back is = record {
    path = path;
    leads = (found_path apart path place head back is).leads;
    passable = found_passable path place back;
  }

  all_visited : IsClosed seen least visits → (v : ℕ) → Reaches arcs least tail v → IsVisited visits v
  all_visited closed v reach =
      carried arcs least (IsVisited visits)
      (λ a passable at.
      subst (λ xs. IsVisited visits (head_of xs a)) same
      (closed at.place at.within a (rw same passable) (ap (λ xs. tail_of xs a) same ∙ sym at.is)))
      tail reach.path v reach.leads reach.passable (record { place = 0; within = linked.some; is = root })

  pub reached_all : IsClosed seen least visits → (v : ℕ) → Reaches arcs least tail v → Contains (nodes_of visits) v
  reached_all closed v reach = contained visits v (all_visited closed v reach)

  pub missed : IsClosed seen least visits → (head : ℕ) → ¬ IsVisited visits head → ¬ Reaches arcs least tail head
  missed closed head gone reach = gone (all_visited closed head reach)
