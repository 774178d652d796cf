-- Where open arcs lead.
use Rattle.std.proofs.Common.{◌≡◌, ◌≢◌, ℕ, zero, suc, ◌<◌, List, [], ◌∷◌, ◌++◌, length, refl, sym, subst, ◌∙◌, arith}
use Rattle.std.specs.List.{All}
use Rattle.std.proofs.lemmas.List.Elements.{All-push}
use Rattle.sx_net.specs.declared.arc.Arc.{Arc}
use Rattle.sx_net.specs.Arcs.{tail_of, head_of, IsOpen}
use Rattle.sx_net.specs.Paths.{Leads, Reaches}

pub All-cons : {X : Type 0} (P : X → Type 0) (x : X) (xs : List X) → P x → All P xs → All P (x ∷ xs)
All-cons P x xs here all zero d within = here
All-cons P x xs here all (suc k) d within = all k d (omega arith)

module _ (arcs : List Arc) where
  Leads-push : (tail v : ℕ) (path : List ℕ) (a : ℕ) → Leads arcs tail path v → a < length arcs → tail_of arcs a ≡ v →
      Leads arcs tail (path ++ a ∷ []) (head_of arcs a)
  Leads-push tail v [] a leads within from = (within, from ∙ sym leads, refl)
  Leads-push tail v (b ∷ path) a leads within from =
      (leads.0, leads.1, Leads-push (head_of arcs b) v path a leads.2 within from)

  module _ (least : ℕ) where
    pub reaches_next : (tail v a : ℕ) → Reaches arcs least tail v → IsOpen arcs least a → tail_of arcs a ≡ v →
        Reaches arcs least tail (head_of arcs a)
    reaches_next tail v a reach passable from = record {
      path = reach.path ++ a ∷ [];
      leads = Leads-push tail v reach.path a reach.leads passable.within from;
      passable = All-push (IsOpen arcs least) reach.path a reach.passable passable;
    }

    -- what holds of one node, and of the head of each open arc whose tail it holds of
    pub carried : (P : ℕ → Type 0) → ((a : ℕ) → IsOpen arcs least a → P (tail_of arcs a) → P (head_of arcs a)) →
        (tail : ℕ) (path : List ℕ) (head : ℕ) → Leads arcs tail path head → All (IsOpen arcs least) path → P tail →
        P head
    carried P step tail [] head leads all here = subst P leads here
    carried P step tail (a ∷ path) head leads all here =
        carried P step (head_of arcs a) path head leads.2 (λ k d within. all (suc k) d (omega arith))
        (step a (all zero a (omega arith)) (subst P (sym leads.1) here))

-- a path between two different nodes has an arc
pub some_arc : (arcs : List Arc) (tail : ℕ) (path : List ℕ) (head : ℕ) → Leads arcs tail path head → tail ≢ head →
    path ≢ []
some_arc arcs tail [] head leads apart none = apart leads
some_arc arcs tail (a ∷ path) head leads apart none = absurd cc
