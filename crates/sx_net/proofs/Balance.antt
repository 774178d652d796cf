-- What a push changes of the sums over the arcs that leave each node.
use Rattle.std.proofs.Common.{◌≡◌, ◌≢◌, ℕ, ◌+◌, ◌<◌, Bool, true, false, List, [], ◌∷◌, ◌++◌, length, set, refl, sym}
use Rattle.std.proofs.Common.{ap, ◌∙◌, arith}
use Rattle.std.specs.Prelude.{◌==◌, if◌then◌else◌}
use Rattle.std.proofs.Common.{length-set}
use Rattle.std.proofs.lemmas.List.{get_or-set_other}
use Rattle.std.proofs.lemmas.List.Sums.{sum_by-set}
use Rattle.sx_net.specs.declared.arc.Arc.{Arc}
use Rattle.sx_net.specs.Arcs.{no_arc, arc_at, tail_of, head_of, left_of}
use Rattle.sx_net.specs.Network.{left_from, only_at, MovesRoom}
use Rattle.sx_net.specs.Paths.{Leads}

abbrev weight : ℕ → Arc → ℕ
weight node arc = if arc.tail == node then arc.left else 0

chosen_sum : (b : Bool) (x y z : ℕ) → x + y ≡ z → (if b then x else 0) + (if b then y else 0) ≡ (if b then z else 0)
chosen_sum true x y z is = is
chosen_sum false x y z is = refl

weight_sum : (node amount : ℕ) (less more : Arc) → less.tail ≡ more.tail → less.left + amount ≡ more.left →
    weight node less + only_at more.tail amount node ≡ weight node more
weight_sum node amount less more same is =
    ap (λ t. (if t == node then less.left else 0) + only_at more.tail amount node) same
    ∙ chosen_sum (more.tail == node) less.left amount more.left is

pub shift_moves : (arcs : List Arc) (a back amount : ℕ) (x y : Arc) → a < length arcs → back < length arcs → back ≢ a →
    x.tail ≡ tail_of arcs a → x.left + amount ≡ left_of arcs a → y.tail ≡ tail_of (set arcs a x) back →
    y.left ≡ left_of (set arcs a x) back + amount → tail_of arcs back ≡ head_of arcs a →
    MovesRoom arcs (set (set arcs a x) back y) (tail_of arcs a) (head_of arcs a) amount
shift_moves arcs a back amount x y within back_in apart x_tail x_left y_tail y_left turned = record {
  at = λ node.
      let first = sum_by-set (weight node) arcs a x no_arc within in
      let second = sum_by-set (weight node) (set arcs a x) back y no_arc (omega (arith, length-set arcs a x)) in
      let taken = weight_sum node amount x (arc_at arcs a) x_tail x_left in
      let given = weight_sum node amount (arc_at (set arcs a x) back) y (sym y_tail) (sym y_left) in
      let at_head = ap (λ t. only_at t amount node)
      (y_tail ∙ ap (λ z. z.tail) (get_or-set_other arcs a back x no_arc apart) ∙ turned) in
      omega (arith, first, second, taken, given, at_head);
}

pub Leads-last : (arcs : List Arc) (tail : ℕ) (path : List ℕ) (a head : ℕ) → Leads arcs tail (path ++ a ∷ []) head →
    Leads arcs tail path (tail_of arcs a) × (head_of arcs a ≡ head)
Leads-last arcs tail [] a head leads = (sym leads.1, leads.2)
Leads-last arcs tail (b ∷ path) a head leads =
    let rest = Leads-last arcs (head_of arcs b) path a head leads.2 in
    ((leads.0, leads.1, rest.0), rest.1)

pub moves_none : (arcs : List Arc) (amount tail head : ℕ) → Leads arcs tail [] head →
    MovesRoom arcs arcs tail head amount
moves_none arcs amount tail head same =
    record { at = λ node. ap (λ t. left_from arcs node + only_at t amount node) same }

pub moves_more : (old mid new : List Arc) (path : List ℕ) (a amount : ℕ) →
    ((tail head : ℕ) → Leads old tail path head → MovesRoom old mid tail head amount) →
    MovesRoom mid new (tail_of mid a) (head_of mid a) amount → tail_of mid a ≡ tail_of old a →
    head_of mid a ≡ head_of old a → (tail head : ℕ) → Leads old tail (path ++ a ∷ []) head →
    MovesRoom old new tail head amount
moves_more old mid new path a amount before now tails heads tail head leads = record {
  at = λ node.
      let parts = Leads-last old tail path a head leads in
      let first = (before tail (tail_of old a) parts.0).at node in
      let second = now.at node in
      let from = ap (λ t. only_at t amount node) tails in
      let to = ap (λ t. only_at t amount node) (heads ∙ parts.1) in
      omega (arith, first, second, from, to);
}
