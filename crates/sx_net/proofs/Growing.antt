-- More visits: what stays true of the earlier ones.
use Rattle.std.proofs.Common.{◌≡◌, ℕ, ◌<◌, ◌≤◌, List, [], ◌∷◌, ◌++◌, length, refl, sym, ap, ◌∙◌, arith}
use Rattle.std.proofs.Common.{length-append, append_assoc}
use Rattle.std.proofs.lemmas.List.{append-nil, get_or_push, get_or_append_left, length_push}
use Rattle.sx_net.specs.declared.arc.Arc.{Arc}
use Rattle.sx_net.specs.declared.tree.Visit.{Visit}
use Rattle.sx_net.specs.Visits.{no_visit, visit_at, node_at, IsVisited}
use Rattle.sx_net.specs.Trees.{Extends, IsExplored}

pub Extends-same : (xs ys : List Visit) → ys ≡ xs → Extends xs ys
Extends-same xs ys same = record { more = []; is = same ∙ sym (append-nil xs) }

pub Extends-push : (xs : List Visit) (visit : Visit) → Extends xs (xs ++ visit ∷ [])
Extends-push xs visit = record { more = visit ∷ []; is = refl }

pub Extends-then : (xs ys zs : List Visit) → Extends xs ys → Extends ys zs → Extends xs zs
Extends-then xs ys zs first second =
    record {
      more = first.more ++ second.more;
      is = second.is ∙ ap (λ us. us ++ second.more) first.is ∙ append_assoc xs first.more second.more;
    }

-- a visit stays at its place
visit_stays : (xs more : List Visit) (p : ℕ) → p < length xs → visit_at (xs ++ more) p ≡ visit_at xs p
visit_stays xs more p within = get_or_append_left xs more no_visit p within

pub visit_same : (xs ys : List Visit) → Extends xs ys → (p : ℕ) → p < length xs → visit_at ys p ≡ visit_at xs p
visit_same xs ys more p within = rw more.is (visit_stays xs more.more p within)

pub length_more : (xs ys : List Visit) → Extends xs ys → length xs ≤ length ys
length_more xs ys more = rw more.is (omega (arith, length-append xs more.more))

pub IsVisited-more : (xs ys : List Visit) → Extends xs ys → (v : ℕ) → IsVisited xs v → IsVisited ys v
IsVisited-more xs ys more v at =
    record {
      place = at.place;
      within = omega (arith, at.within, length_more xs ys more);
      is = ap (λ x. x.node) (visit_same xs ys more at.place at.within) ∙ at.is;
    }

module _ (arcs : List Arc) (least : ℕ) where
  pub IsExplored-more : (xs ys : List Visit) → Extends xs ys → (p : ℕ) → p < length xs → IsExplored arcs least xs p
      → IsExplored arcs least ys p
  IsExplored-more xs ys more p within explored a passable tail =
      IsVisited-more xs ys more _ (explored a passable (tail ∙ ap (λ x. x.node) (visit_same xs ys more p within)))

pub IsVisited-last : (xs : List Visit) (visit : Visit) → IsVisited (xs ++ visit ∷ []) visit.node
IsVisited-last xs visit = record {
  place = length xs;
  within = omega (arith, length_push xs visit);
  is = ap (λ x. x.node) (get_or_push xs visit no_visit (length xs) refl);
}

-- the node of the first visits, after more of them
pub node_same : (xs ys : List Visit) → Extends xs ys → (p : ℕ) → p < length xs → node_at ys p ≡ node_at xs p
node_same xs ys more p within = ap (λ x. x.node) (visit_same xs ys more p within)
