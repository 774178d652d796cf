-- A path without a repeated node can be pushed along.
use Rattle.std.proofs.Common.{◌≡◌, ◌≢◌, ℕ, zero, suc, ◌<◌, List, [], ◌∷◌, length, take, slice_index, refl, sym, ap}
use Rattle.std.proofs.Common.{◌∙◌, arith}
use Rattle.std.specs.List.{All}
use Rattle.std.proofs.lemmas.List.{get_or_default, get_or-take, length-map, length-take}
use Rattle.sx_net.specs.declared.arc.Arc.{Arc}
use Rattle.sx_net.specs.Arcs.{tail_of, head_of, reverse_of}
use Rattle.sx_net.specs.Paths.{Leads, nodes_on, IsPath}
use Rattle.sx_net.specs.Sound.{HasReverse, IsPushable}

-- an arc of a path leads from the node at its place to the next one
record IsStep (arcs : List Arc) (tail : ℕ) (path : List ℕ) (k : ℕ) : Type 0 where
  within : slice_index path k < length arcs
  from : tail_of arcs (slice_index path k) ≡ slice_index (nodes_on arcs tail path) k
  to : head_of arcs (slice_index path k) ≡ slice_index (nodes_on arcs tail path) (suc k)

step_at : (arcs : List Arc) (tail : ℕ) (path : List ℕ) (head : ℕ) → Leads arcs tail path head → (k : ℕ) →
    k < length path → IsStep arcs tail path k
step_at arcs tail [] head leads k in_path = absurd (omega arith)
step_at arcs tail (a ∷ path) head leads zero in_path = record { within = leads.0; from = leads.1; to = refl }
step_at arcs tail (a ∷ path) head leads (suc k) in_path =
    let at = step_at arcs (head_of arcs a) path head leads.2 k (omega arith) in
    record { within = at.within; from = at.from; to = at.to }

pub IsPath-pushable : (arcs : List Arc) → ((a : ℕ) → a < length arcs → HasReverse arcs a) → (tail : ℕ) (path : List ℕ)
    (head : ℕ) → IsPath arcs tail path head → IsPushable (length arcs) path
IsPath-pushable arcs reverses tail path head simple =
    let at = step_at arcs tail path head simple.leads in
    record {
      within = λ k d in_path. rw (get_or_default path k d 0 in_path) (at k in_path).within;
      apart = λ i j before in_path same.
          simple.distinct (suc i) (suc j) (omega arith) (omega (arith, length-map path (head_of arcs)))
          (sym (at i (omega arith)).to ∙ ap (head_of arcs) same ∙ (at j in_path).to);
      no_return = λ i j before in_path same.
          simple.distinct i (suc j) (omega arith) (omega (arith, length-map path (head_of arcs)))
          (sym (at i (omega arith)).from ∙ ap (tail_of arcs) same
          ∙ (reverses (slice_index path j) (at j in_path).within).tail ∙ (at j in_path).to);
    }

pub IsPushable-none : (count : ℕ) → IsPushable count []
IsPushable-none count = record {
  within = λ k d in_path. absurd (omega arith);
  apart = λ i j before in_path same. absurd (omega arith);
  no_return = λ i j before in_path same. absurd (omega arith);
}

pub IsPushable-more : (count more : ℕ) (path : List ℕ) → count < more → IsPushable count path → IsPushable more path
IsPushable-more count more path grows was = record {
  within = λ k d in_path. omega (arith, was.within k d in_path);
  apart = was.apart;
  no_return = was.no_return;
}

-- the first arcs of a path are neither the next one nor its reverse
pub first_apart : (count : ℕ) (path : List ℕ) → IsPushable count path → (i : ℕ) → i < length path →
    All (λ b. (b ≢ slice_index path i) × (b ≢ reverse_of (slice_index path i))) (take i path)
first_apart count path pushable i in_path k d in_first =
    let before : k < i = omega (arith, length-take i path) in
    let within : k < length path = omega (arith, length-take i path) in
    rw (get_or-take i path k d before, get_or_default path k d 0 within)
    (pushable.apart k i before in_path, pushable.no_return k i before in_path)
