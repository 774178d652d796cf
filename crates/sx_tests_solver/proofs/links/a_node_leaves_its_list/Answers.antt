use Rattle.std.proofs.Common.{◌≡◌, ℕ, List, [], ◌∷◌, max, refl, ap, ◌∙◌, lit<}
use Rattle.sx_links.specs.Lists.{Lists, StandsAt, without_node}
use Rattle.sx_tests_solver.proofs.links.a_node_leaves_its_list.Goals as goal

abbrev with_spare : Lists ℕ → ℕ → Lists ℕ
with_spare s n = record s { spare = n }

-- what is left of the lists without q
left : (s t : Lists ℕ) (p q r : ℕ) →
    s ≡ record { lists = ((p, 112) ∷ (q, 113) ∷ (r, 114) ∷ []) ∷ [] ∷ []; spare = 0 } →
    ((l i : ℕ) → StandsAt s.lists l i q → t ≡ without_node s l i) →
    t ≡ record { lists = ((p, 112) ∷ (r, 114) ∷ []) ∷ [] ∷ []; spare = 1 }
left s t p q r is taken = taken 0 1 (rw is refl) ∙ ap (λ u. without_node u 0 1) is

-- two empty lists, with room for three nodes
reserved : (s t : Lists ℕ) → s ≡ record { lists = [] ∷ [] ∷ []; spare = 0 } →
    t ≡ record s { spare = max s.spare 3 } → t ≡ record { lists = [] ∷ [] ∷ []; spare = 3 }
reserved s t is more = more ∙ ap (λ u. with_spare u (max u.spare 3)) is

pub reserve-requires : goal.reserve-requires
reserve-requires g c = rw c.in_ok-links.ensures (lit< tt)

pub push_three-p-requires : goal.push_three-p-requires
push_three-p-requires g c = reserved _ _ c.in_ok-links.ensures c.in_ok-reserve.ensures.ok

pub unlink-requires : goal.unlink-requires
unlink-requires g c = (0, 1, rw c.push_three-p.ensures refl)

pub values-requires : goal.values-requires
values-requires g c = rw (left _ _ _ _ _ c.push_three-p.ensures c.unlink.ensures.taken) (lit< tt)

pub values-requires-2 : goal.values-requires-2
values-requires-2 g c = rw (left _ _ _ _ _ c.push_three-p.ensures c.unlink.ensures.taken) (lit< tt)
