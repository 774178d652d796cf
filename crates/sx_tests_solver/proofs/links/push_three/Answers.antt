use Rattle.std.proofs.Common.{◌≡◌, ℕ, ◌+◌, List, [], ◌∷◌, Some, refl, ap, ◌∙◌, lit<, arith}
use Rattle.sx_links.specs.Lists.{Lists, StandsAt, StandsIn, with_node}
use Rattle.sx_tests_solver.proofs.links.push_three.Goals as goal

-- p alone, and p and r
one : (p : ℕ) → Lists ℕ
one p = record { lists = ((p, 112) ∷ []) ∷ [] ∷ []; spare = 2 }

two : (p r : ℕ) → Lists ℕ
two p r = record { lists = ((p, 112) ∷ (r, 114) ∷ []) ∷ [] ∷ []; spare = 1 }

pushed : (s t : Lists ℕ) (p r : ℕ) → s ≡ one p →
    ((n i : ℕ) → ◌≡◌ (Some p) (Some n) → StandsAt s.lists 0 i n → t ≡ with_node s 0 (i + 1) (r, 114)) → t ≡ two p r
unfolding one two
pushed s t p r is behind = behind p 0 refl (rw is refl) ∙ ap (λ u. with_node u 0 1 (r, 114)) is

first : (s t : Lists ℕ) (p : ℕ) → s ≡ record { lists = [] ∷ [] ∷ []; spare = 3 } → t ≡ with_node s 0 0 (p, 112) →
    t ≡ one p
unfolding one
first s t p start front = front ∙ ap (λ u. with_node u 0 0 (p, 112)) start

pub push_after-q-requires-clause-room : goal.push_after-q-requires-clause-room
unfolding two
push_after-q-requires-clause-room c =
    rw (pushed _ _ _ _ (first _ _ _ c.requires (c.push_after-p.ensures.front refl))
    c.push_after-r.ensures.after_node) (lit< tt)

pub push_after-q-requires-clause-list_in : goal.push_after-q-requires-clause-list_in
unfolding two
push_after-q-requires-clause-list_in c =
    rw (pushed _ _ _ _ (first _ _ _ c.requires (c.push_after-p.ensures.front refl))
    c.push_after-r.ensures.after_node) (omega arith)

pub push_after-q-requires-clause-after_in : goal.push_after-q-requires-clause-after_in
unfolding two
push_after-q-requires-clause-after_in c n e = (
  0,
  rw (pushed _ _ _ _ (first _ _ _ c.requires (c.push_after-p.ensures.front refl))
      c.push_after-r.ensures.after_node) e,
)

pub returns : goal.returns
unfolding two
returns c =
    let is = pushed _ _ _ _ (first _ _ _ c.requires (c.push_after-p.ensures.front refl))
    c.push_after-r.ensures.after_node in
    c.push_after-q.ensures.after_node c.push_after-p.result 0 refl (rw is refl) ∙
    ap (λ u. with_node u 0 1 (c.push_after-q.result, 113)) is
