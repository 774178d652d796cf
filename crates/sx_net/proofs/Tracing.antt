-- The path by which the visits of a search lead to one of them.
use Rattle.std.proofs.Common.{◌≡◌, ℕ, zero, suc, ◌<◌, ◌≤◌, ◌⊎◌, List, [], ◌∷◌, ◌++◌, length, map, slice_index, refl}
use Rattle.std.proofs.Common.{sym, ap}
use Rattle.std.proofs.Common.{◌∙◌, inl, inr, arith, subst}
use Rattle.std.specs.List.{All}
use Rattle.sx_net.specs.declared.arc.Arc.{Arc}
use Rattle.sx_net.specs.declared.tree.Visit.{Visit}
use Rattle.sx_net.specs.Arcs.{tail_of, head_of, IsOpen}
use Rattle.sx_net.specs.Paths.{Leads, nodes_on, AreDistinct, IsPath, Reaches}
use Rattle.sx_net.specs.Visits.{node_at, arc_to, from_at, IsVisited, AreApart}
use Rattle.sx_net.specs.Trees.{IsTree, LeadsBack}
use Rattle.sx_net.proofs.Leading.{All-cons}

-- the node was visited at this place or a later one
record IsLater (visits : List Visit) (from node : ℕ) : Type 0 where
  place : ℕ
  after : from ≤ place
  within : place < length visits
  is : node_at visits place ≡ node

LeadsBack-push : (visits : List Visit) (p : ℕ) (path : List ℕ) (q next : ℕ) → LeadsBack visits p path q → 0 < next →
    next < length visits → from_at visits next ≡ q → LeadsBack visits p (path ++ arc_to visits next ∷ []) next
LeadsBack-push visits p [] q next back after within from = (next, after, within, refl, from ∙ sym back, refl)
LeadsBack-push visits p (a ∷ path) q next back after within from =
    (back.0, back.1, back.2, back.3, back.4, LeadsBack-push visits back.0 path q next back.5 after within from)

module _ (arcs : List Arc) (least : ℕ) (visits : List Visit) (tree : IsTree arcs least visits) where
  back_to : (most p : ℕ) → p ≤ most → p < length visits → (p ≡ 0) ⊎ (0 < p) → (path : List ℕ) ×
      LeadsBack visits 0 path p
  back_to most p few within (inl first) = ([], sym first)
  back_to zero p few within (inr later) = absurd (omega arith)
  back_to (suc most) p few within (inr later) =
      let link = tree.linked p later within in
      let cases : (from_at visits p ≡ 0) ⊎ (0 < from_at visits p) = grind arith in
      let rest = back_to most (from_at visits p) (omega (arith, link.earlier)) (omega (arith, link.earlier)) cases in
      (rest.0 ++ arc_to visits p ∷ [], LeadsBack-push visits 0 rest.0 (from_at visits p) p rest.1 later within refl)

  leads : (p : ℕ) (path : List ℕ) (q : ℕ) → LeadsBack visits p path q →
      Leads arcs (node_at visits p) path (node_at visits q)
  leads p [] q back = ap (λ r. node_at visits r) back
  leads p (a ∷ path) q back =
      let link = tree.linked back.0 back.1 back.2 in (
        subst (λ b. b < length arcs) back.3 link.is_open.within,
        subst (λ b. tail_of arcs b ≡ node_at visits p) back.3 (link.tail ∙ ap (λ r. node_at visits r) back.4),
        subst (λ v. Leads arcs v path (node_at visits q)) (sym link.head ∙ ap (λ b. head_of arcs b) back.3)
            (leads back.0 path q back.5),
      )

  passable : (p : ℕ) (path : List ℕ) (q : ℕ) → LeadsBack visits p path q → All (IsOpen arcs least) path
  passable p [] q back = λ k d within. absurd (omega arith)
  passable p (a ∷ path) q back =
      All-cons (IsOpen arcs least) a path
      (subst (λ b. IsOpen arcs least b) back.3 (tree.linked back.0 back.1 back.2).is_open)
      (passable back.0 path q back.5)

  -- the nodes after the first are those from the next visit on
  nodes_after : (p a : ℕ) (path : List ℕ) (q : ℕ) (back : LeadsBack visits p (a ∷ path) q) →
      nodes_on arcs (node_at visits back.0) path ≡ map (head_of arcs) (a ∷ path)
  nodes_after p a path q back =
      ap (λ v. v ∷ map (head_of arcs) path)
      (sym (tree.linked back.0 back.1 back.2).head ∙ ap (λ b. head_of arcs b) back.3)

  later : (p : ℕ) (path : List ℕ) (q : ℕ) → p < length visits → LeadsBack visits p path q → (k : ℕ) →
      k < length (nodes_on arcs (node_at visits p) path) →
      IsLater visits p (slice_index (nodes_on arcs (node_at visits p) path) k)
  later p path q within back zero in_path = record { place = p; after = omega arith; within = within; is = refl }
  later p [] q within back (suc k) in_path = absurd (omega arith)
  later p (a ∷ path) q within back (suc k) in_path =
      let same = nodes_after p a path q back in
      let at = later back.0 path q back.2 back.5 k (omega arith) in
      record {
        place = at.place;
        after = omega (arith, at.after, (tree.linked back.0 back.1 back.2).earlier, back.4);
        within = at.within;
        is = at.is ∙ ap (λ xs. slice_index xs k) same;
      }

  module _ (apart : AreApart visits) where
    distinct : (p : ℕ) (path : List ℕ) (q : ℕ) → p < length visits → LeadsBack visits p path q →
        AreDistinct (nodes_on arcs (node_at visits p) path)
    distinct p path q within back i zero before in_path same = absurd (omega arith)
    distinct p [] q within back i (suc j) before in_path same = absurd (omega arith)
    distinct p (a ∷ path) q within back zero (suc j) before in_path same =
        let next = nodes_after p a path q back in
        let at = later back.0 path q back.2 back.5 j (omega arith) in
        let again = apart p at.place within at.within (same ∙ sym (at.is ∙ ap (λ xs. slice_index xs j) next)) in
        absurd (omega (arith, again, at.after, (tree.linked back.0 back.1 back.2).earlier, back.4))
    distinct p (a ∷ path) q within back (suc i) (suc j) before in_path same =
        let next = nodes_after p a path q back in
        distinct back.0 path q back.2 back.5 i j (omega arith) (omega arith)
        (ap (λ xs. slice_index xs i) next ∙ same ∙ sym (ap (λ xs. slice_index xs j) next))

    pub path_from : (path : List ℕ) (q : ℕ) → LeadsBack visits 0 path q →
        IsPath arcs (node_at visits 0) path (node_at visits q)
    path_from path q back = record { leads = leads 0 path q back; distinct = distinct 0 path q tree.some back }

  pub passable_from : (path : List ℕ) (q : ℕ) → LeadsBack visits 0 path q → All (IsOpen arcs least) path
  passable_from path q back = passable 0 path q back

  -- open arcs lead to each node that was visited
  pub visited_reached : (v : ℕ) → IsVisited visits v → Reaches arcs least (node_at visits 0) v
  visited_reached v at =
      let cases : (at.place ≡ 0) ⊎ (0 < at.place) = grind arith in
      let back = back_to at.place at.place (omega arith) at.within cases in
      record {
        path = back.0;
        leads = subst (λ w. Leads arcs (node_at visits 0) back.0 w) at.is (leads 0 back.0 at.place back.1);
        passable = passable 0 back.0 at.place back.1;
      }
