-- Arcs that are allowed or forbidden.
use Rattle.std.proofs.Common.{◌≡◌, ◌≢◌, ℕ, ◌+◌, ◌*◌, ◌<◌, ◌≤◌, Bool, List, length}
use Rattle.std.proofs.Common.{refl, sym, ap, ◌∙◌, inl, inr, arith}
use Rattle.std.proofs.lemmas.Bool.{cases_eq}
use Rattle.std.proofs.lemmas.List.{get_or-set_same, get_or-set_other, length-set}
use Rattle.sx_dual.specs.Tables.{BoundsTable}
use Rattle.sx_net.specs.declared.arc.Arc.{Arc}
use Rattle.sx_net.specs.Arcs.{no_arc, arc_at, is_allowed}
use Rattle.sx_net.specs.Network.{with_allowed}
use Rattle.sx_level.specs.Shape.{pair_place, source_place, sink_place, Joins, IsOneWay, IsShaped, SameButAllowed}

module _ (arcs : List Arc) (k : ℕ) (on : Bool) where
  pub allowed_here : k < length arcs → arc_at (with_allowed arcs k on) k ≡ record (arc_at arcs k) { allowed = on }
  allowed_here within = get_or-set_same arcs k (record (arc_at arcs k) { allowed = on }) no_arc within

  pub allowed_there : (a : ℕ) → a ≢ k → arc_at (with_allowed arcs k on) a ≡ arc_at arcs a
  allowed_there a other = get_or-set_other arcs k a (record (arc_at arcs k) { allowed = on }) no_arc other

  pub allowed_count : length (with_allowed arcs k on) ≡ length arcs
  allowed_count = length-set arcs k (record (arc_at arcs k) { allowed = on })

  part_same : {X : Type 0} (part : Arc → X) → ((arc : Arc) → part (record arc { allowed = on }) ≡ part arc) →
      k < length arcs → (a : ℕ) → part (arc_at (with_allowed arcs k on) a) ≡ part (arc_at arcs a)
  part_same part apart within a =
      elim (cases_eq a k) [
        | inl same ↦
            ap (λ x. part (arc_at (with_allowed arcs k on) x)) same
            ∙ ap part (allowed_here within) ∙ apart (arc_at arcs k) ∙ ap (λ x. part (arc_at arcs x)) (sym same)
        | inr other ↦ ap part (allowed_there a other)
      ]

  pub same_but : k < length arcs → SameButAllowed arcs (with_allowed arcs k on)
  same_but within = record {
    count = allowed_count;
    tails = part_same (λ arc. arc.tail) (λ arc. refl) within;
    heads = part_same (λ arc. arc.head) (λ arc. refl) within;
    lefts = part_same (λ arc. arc.left) (λ arc. refl) within;
  }

pub same_itself : (arcs : List Arc) → SameButAllowed arcs arcs
same_itself arcs = record { count = refl; tails = λ a. refl; heads = λ a. refl; lefts = λ a. refl }

pub same_on : (one two three : List Arc) → SameButAllowed one two → SameButAllowed two three → SameButAllowed one three
same_on one two three first next = record {
  count = next.count ∙ first.count;
  tails = λ a. next.tails a ∙ first.tails a;
  heads = λ a. next.heads a ∙ first.heads a;
  lefts = λ a. next.lefts a ∙ first.lefts a;
}

-- where the arcs of each pair are allowed alike, and those of the source and the sink are as before
pub still_shaped : (bounds : BoundsTable) (old new : List Arc) → SameButAllowed old new → IsShaped bounds old →
    ((s b : ℕ) → s < bounds.assets → b < bounds.assets →
    is_allowed new (2 * pair_place bounds.assets s b + 1) ≡ is_allowed new (2 * pair_place bounds.assets s b)) →
    ((a : ℕ) → 2 * (bounds.assets * bounds.assets) ≤ a → is_allowed new a ≡ is_allowed old a) → IsShaped bounds new
still_shaped bounds old new same shaped both others =
    let n = bounds.assets in
    let joins : (k from to : ℕ) → Joins old k from to → Joins new k from to = λ k from to was. record {
      tail = same.tails (2 * k) ∙ was.tail;
      head = same.heads (2 * k) ∙ was.head;
      back_tail = same.tails (2 * k + 1) ∙ was.back_tail;
      back_head = same.heads (2 * k + 1) ∙ was.back_head;
    } in
    let one_way : (k from to : ℕ) → n * n ≤ k → IsOneWay old k from to → IsOneWay new k from to =
    λ k from to le was. record {
      joins = joins k from to was.joins;
      forth = others (2 * k) (omega arith) ∙ was.forth;
      back = others (2 * k + 1) (omega arith) ∙ was.back;
    } in
    record {
      count = same.count ∙ shaped.count;
      pairs = λ s b s_lt b_lt.
          let k = pair_place n s b in
          let was = shaped.pairs s b s_lt b_lt in
          record {
            joins = joins k b s was.joins;
            both = both s b s_lt b_lt;
            room = omega (arith, same.lefts (2 * k), same.lefts (2 * k + 1), was.room);
          };
      sources = λ a lt. one_way (source_place n a) n a (omega arith) (shaped.sources a lt);
      sinks = λ a lt. one_way (sink_place n a) a (n + 1) (omega arith) (shaped.sinks a lt);
    }

-- ---- an arc and its reverse

module _ (old middle new : List Arc) (k : ℕ) (on also : Bool) (within : 2 * k + 1 < length old)
    (first : middle ≡ with_allowed old (2 * k) on) (next : new ≡ with_allowed middle (2 * k + 1) also) where
  middle_count : length middle ≡ length old
  middle_count = ap (λ xs. length xs) first ∙ allowed_count old (2 * k) on

  pub both_same : SameButAllowed old new
  both_same =
      let one : SameButAllowed old middle = rw first (same_but old (2 * k) on (omega arith)) in
      let two : SameButAllowed middle new = rw next (same_but middle (2 * k + 1) also (omega (arith, middle_count))) in
      same_on old middle new one two

  pub both_forth : is_allowed new (2 * k) ≡ on
  both_forth =
      ap (λ xs. is_allowed xs (2 * k)) next
      ∙ ap (λ x. x.allowed) (allowed_there middle (2 * k + 1) also (2 * k) (λ same. absurd (omega arith)))
      ∙ ap (λ xs. is_allowed xs (2 * k)) first
      ∙ ap (λ x. x.allowed) (allowed_here old (2 * k) on (omega arith))

  pub both_back : is_allowed new (2 * k + 1) ≡ also
  both_back =
      ap (λ xs. is_allowed xs (2 * k + 1)) next
      ∙ ap (λ x. x.allowed) (allowed_here middle (2 * k + 1) also (omega (arith, middle_count)))

module _ (old middle new : List Arc) (k : ℕ) (on also : Bool)
    (first : middle ≡ with_allowed old (2 * k) on) (next : new ≡ with_allowed middle (2 * k + 1) also) where
  pub both_others : (a : ℕ) → a ≢ 2 * k → a ≢ 2 * k + 1 → is_allowed new a ≡ is_allowed old a
  both_others a apart beside =
      ap (λ xs. is_allowed xs a) next
      ∙ ap (λ x. x.allowed) (allowed_there middle (2 * k + 1) also a beside)
      ∙ ap (λ xs. is_allowed xs a) first
      ∙ ap (λ x. x.allowed) (allowed_there old (2 * k) on a apart)
