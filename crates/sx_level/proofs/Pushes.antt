-- What a push along a path of allowed arcs from the source to the sink changes.
use Rattle.std.proofs.Common.{◌≡◌, ◌≢◌, ℕ, ◌+◌, ◌-◌, ◌*◌, ◌%◌, ◌<◌, ◌≤◌, false, List, get_or}
use Rattle.std.proofs.Common.{refl, sym, ap, ◌∙◌, inl, inr, arith}
use Rattle.std.specs.List.{All}
use Rattle.std.proofs.lemmas.Bool.{cases_eq, cases_lt, eq-eqb, ne_eqb, both_ways}
use Rattle.std.proofs.lemmas.Nat.{mul-add-lt}
use Rattle.sx_dual.specs.Tables.{AreBounds, BoundsTable}
use Rattle.sx_net.specs.declared.arc.Arc.{Arc}
use Rattle.sx_net.specs.Arcs.{left_of, is_allowed, reverse_of, IsOpen}
use Rattle.sx_net.specs.Network.{Pushes, MovesRoom}
use Rattle.sx_level.specs.Shape.{pair_place, source_place, sink_place, total_surplus, Joins, IsPairArc, IsOneWay}
use Rattle.sx_level.specs.Shape.{IsShaped, AreMatched}
use Rattle.sx_level.specs.Following.{Follows}
use Rattle.sx_level.proofs.Balance.{even_reverse, still_matched, less_surplus}

-- the arc whose reverse has this number
from_even : (b k : ℕ) → reverse_of b ≡ 2 * k → b ≡ 2 * k + 1
from_even b k is =
    elim (cases_eq (b % 2) 0) [
      | inl even ↦
          let forth : reverse_of b ≡ b + 1 = rw (eq-eqb (b % 2) 0 even) refl in
          absurd (omega (arith, forth))
      | inr odd ↦
          let back : reverse_of b ≡ b - 1 = rw (ne_eqb (b % 2) 0 odd) refl in
          omega (arith, back)
    ]

from_odd : (b k : ℕ) → reverse_of b ≡ 2 * k + 1 → b ≡ 2 * k
from_odd b k is =
    elim (cases_eq (b % 2) 0) [
      | inl even ↦
          let forth : reverse_of b ≡ b + 1 = rw (eq-eqb (b % 2) 0 even) refl in
          omega (arith, forth)
      | inr odd ↦
          let back : reverse_of b ≡ b - 1 = rw (ne_eqb (b % 2) 0 odd) refl in
          absurd (omega (arith, back))
    ]

module _ (old new : List Arc) (path : List ℕ) (amount least : ℕ) (pushed : Pushes old new path amount)
    (passable : All (IsOpen old least) path) where
  -- an allowed arc is not a forbidden one
  other_arc : (b a : ℕ) → IsOpen old least b → is_allowed old a ≡ false → b ≢ a
  other_arc b a opened forbidden same =
      both_ways (is_allowed old a) forbidden (ap (λ x. is_allowed old x) (sym same) ∙ opened.allowed)

  -- where an arc and its reverse are forbidden, nothing changes
  still_left : (k : ℕ) → is_allowed old (2 * k) ≡ false → is_allowed old (2 * k + 1) ≡ false →
      left_of new (2 * k) ≡ left_of old (2 * k)
  still_left k forth back =
      pushed.others (2 * k) (λ i d lt.
      let b = get_or path i d in (
        other_arc b (2 * k) (passable i d lt) forth,
        λ same. other_arc b (2 * k + 1) (passable i d lt) back (from_even b k same),
      ))

  -- where the reverse of an arc is forbidden, the arc gets no more
  no_more : (k : ℕ) → is_allowed old (2 * k + 1) ≡ false → left_of new (2 * k) ≤ left_of old (2 * k)
  no_more k back =
      elim (cases_lt (left_of old (2 * k)) (left_of new (2 * k))) [
        | inl more ↦
            let same = pushed.others (2 * k) (λ i d lt.
            let b = get_or path i d in (
              λ is.
                  let low : left_of new b + amount ≡ left_of old b = pushed.lowered i d lt in
                  let there : left_of new (2 * k) + amount ≡ left_of old (2 * k) = rw is at low in
                  absurd (omega (arith, there, more)),
              λ is. other_arc b (2 * k + 1) (passable i d lt) back (from_even b k is),
            )) in
            omega (arith, same)
        | inr less ↦ less
      ]

  still_joins : (k tail head : ℕ) → Joins old k tail head → Joins new k tail head
  still_joins k tail head was = record {
    tail = pushed.tails (2 * k) ∙ was.tail;
    head = pushed.heads (2 * k) ∙ was.head;
    back_tail = pushed.tails (2 * k + 1) ∙ was.back_tail;
    back_head = pushed.heads (2 * k + 1) ∙ was.back_head;
  }

  still_one_way : (k tail head : ℕ) → IsOneWay old k tail head → IsOneWay new k tail head
  still_one_way k tail head was = record {
    joins = still_joins k tail head was.joins;
    forth = pushed.allowed (2 * k) ∙ was.forth;
    back = pushed.allowed (2 * k + 1) ∙ was.back;
  }

  module _ (bounds : BoundsTable) (shaped : IsShaped bounds old) where
    still_pair : (s b : ℕ) → s < bounds.assets → b < bounds.assets → IsPairArc bounds new s b
    still_pair s b s_lt b_lt =
        let k = pair_place bounds.assets s b in
        let was = shaped.pairs s b s_lt b_lt in
        let below = mul-add-lt s bounds.assets b bounds.assets s_lt b_lt in
        let rooms = rw (even_reverse k) at (pushed.rooms (2 * k) (omega (arith, below, shaped.count))) in
        record {
          joins = still_joins k b s was.joins;
          both = pushed.allowed (2 * k + 1) ∙ was.both ∙ sym (pushed.allowed (2 * k));
          room = omega (arith, rooms, was.room);
        }

    pub still_shaped : IsShaped bounds new
    still_shaped = record {
      count = pushed.count ∙ shaped.count;
      pairs = still_pair;
      sources = λ a lt. still_one_way (source_place bounds.assets a) bounds.assets a (shaped.sources a lt);
      sinks = λ a lt. still_one_way (sink_place bounds.assets a) a (bounds.assets + 1) (shaped.sinks a lt);
    }

    module _ (are : AreBounds bounds) (matched : AreMatched bounds old)
        (moved : MovesRoom old new bounds.assets (bounds.assets + 1) amount) where
      pub push_follows : Follows bounds old new
      push_follows = record {
        shaped = still_shaped;
        matched = still_matched bounds are old new shaped still_shaped amount moved pushed.rooms matched;
        allowed = pushed.allowed;
        kept = λ s b s_lt b_lt forbidden.
            still_left (pair_place bounds.assets s b) forbidden ((shaped.pairs s b s_lt b_lt).both ∙ forbidden);
        surplus = λ a lt. no_more (source_place bounds.assets a) (shaped.sources a lt).back;
        shortage = λ a lt. no_more (sink_place bounds.assets a) (shaped.sinks a lt).back;
      }

      pub push_takes : total_surplus bounds.assets new + amount ≡ total_surplus bounds.assets old
      push_takes = less_surplus bounds are old new shaped still_shaped amount moved

pub follows_itself : (bounds : BoundsTable) (arcs : List Arc) → IsShaped bounds arcs → AreMatched bounds arcs →
    Follows bounds arcs arcs
follows_itself bounds arcs shaped matched = record {
  shaped = shaped;
  matched = matched;
  allowed = λ a. refl;
  kept = λ s b s_lt b_lt forbidden. refl;
  surplus = λ a lt. omega arith;
  shortage = λ a lt. omega arith;
}

pub follows_on : (bounds : BoundsTable) (one two three : List Arc) → Follows bounds one two → Follows bounds two three →
    Follows bounds one three
follows_on bounds one two three first next = record {
  shaped = next.shaped;
  matched = next.matched;
  allowed = λ a. next.allowed a ∙ first.allowed a;
  kept = λ s b s_lt b_lt forbidden.
      next.kept s b s_lt b_lt (first.allowed (2 * pair_place bounds.assets s b) ∙ forbidden)
      ∙ first.kept s b s_lt b_lt forbidden;
  surplus = λ a lt. omega (arith, next.surplus a lt, first.surplus a lt);
  shortage = λ a lt. omega (arith, next.shortage a lt, first.shortage a lt);
}
