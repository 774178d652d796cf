use Rattle.std.proofs.Common.{◌≡◌, ℕ, ◌+◌, ◌-◌, ◌<◌, ◌++◌, ◌∷◌, [], List, Option, Some, length, refl, ap, sym, subst, ◌∙◌, arith}
use Rattle.std.specs.Option.{option_to_list}
use Rattle.std.proofs.lemmas.List.{length-append}
use Rattle.sx_gather.specs.Passes.{Gathering, Passing}
use Rattle.sx_script.specs.Actors.{part_begin}
use Rattle.sx_script.proofs.Openings.{begin_first}
use Rattle.sx_workers.specs.Passing.{AreHeld, IsDone}
use Rattle.sx_workers.proofs.Stacks.{held_is, held_some, taken}
use Rattle.sx_workers.proofs.gathering.join_all.Goals as goal

-- a pass that has decided all of its part ends where the next part begins
ends_at : (gather : Gathering) (n k next : ℕ) (pass : Passing) → IsDone gather n k pass → next ≡ k + 1
    → pass.next ≡ part_begin (length gather.candidates) n next
ends_at gather n k next pass done is =
    done.1 ∙ done.0.end ∙ ap (λ (m : ℕ). part_begin (length gather.candidates) n m) (sym is)

pub loop-slot-init : goal.loop-slot-init
loop-slot-init c =
    let gather = c.args.gather.now in
    let n = c.args.n in
    let left = c.pop.new.self.items in
    let pass = c.unwrap-whole.result in
    let is : c.args.slots.items ≡ left ++ c.unwrap.result ∷ [] =
    c.pop.ensures.items ∙ ap (λ (o : Option (Option Passing)). left ++ option_to_list o) c.unwrap.ensures in
    let top = taken (IsDone gather n) n c.args.slots.items left c.unwrap.result c.requires.done is in
    let many : length left + 1 ≡ n =
    omega (
      arith,
      ap (λ (list : List (Option Passing)). length list) is,
      length-append left (c.unwrap.result ∷ []),
      c.args.slots.ok,
      c.requires.one_each,
    ) in
    let first : n - 1 - length left ≡ 0 = omega (arith, many) in
    let done : IsDone gather n 0 pass =
    subst (λ (k : ℕ). IsDone gather n k pass) first
    (held_is (IsDone gather n (n - 1 - length left)) c.unwrap.result pass top.top c.unwrap-whole.ensures) in (
      done.0.of,
      done.0.from ∙ begin_first (length gather.candidates) n c.requires.some,
      ends_at gather n 0 (n - length left) pass done (omega (arith, many)),
      sym done.1,
      done.0.first refl,
      omega (arith, many),
      top.others,
    )

-- the next pass, and what follows of its place
record IsNext (gather : Gathering) (n : ℕ) (left : List (Option Passing)) (slot : Option Passing) (pass : Passing) : Type 0
  where
    done : IsDone gather n (n - 1 - length left) pass
    others : AreHeld (IsDone gather n) n left
    below : length left + 1 < n

next_is : (gather : Gathering) (n : ℕ) (slots left : List (Option Passing)) (slot : Option Passing) (pass : Passing)
    → AreHeld (IsDone gather n) n slots → length slots < n → slots ≡ left ++ slot ∷ [] → slot ≡ Some pass
    → IsNext gather n left slot pass
next_is gather n slots left slot pass held few is some =
    let top = taken (IsDone gather n) n slots left slot held is in
    record {
      done = held_is (IsDone gather n (n - 1 - length left)) slot pass top.top some;
      others = top.others;
      below =
          omega (arith, few, ap (λ (list : List (Option Passing)). length list) is, length-append left (slot ∷ []));
    }

pub unwrap-requires-in-Some : goal.unwrap-requires-in-Some
unwrap-requires-in-Some c =
    let n = c.args.n in
    let left = c.pop-in-loop-slot.new.self.items in
    let top =
    taken (IsDone c.args.gather.now n) n c.loop-slot.slots.items left c.in-Some.slot c.loop-slot.invariant.6
    c.in-Some.ensures.items in
    held_some (IsDone c.args.gather.now n (n - 1 - length left)) c.in-Some.slot top.top

pub join-requires-clause-other_of : goal.join-requires-clause-other_of
join-requires-clause-other_of c =
    let next =
    next_is c.args.gather.now c.args.n c.loop-slot.slots.items c.pop-in-loop-slot.new.self.items c.in-Some.slot
    c.unwrap-in-Some.result c.loop-slot.invariant.6 c.loop-slot.invariant.5 c.in-Some.ensures.items
    c.unwrap-in-Some.ensures in
    next.done.0.of

-- it begins where the passes before it end
begins_at : (gather : Gathering) (n : ℕ) (slots left : List (Option Passing)) (slot : Option Passing) (pass : Passing)
    → IsNext gather n left slot pass → slots ≡ left ++ slot ∷ []
    → pass.from ≡ part_begin (length gather.candidates) n (n - length slots)
begins_at gather n slots left slot pass next is =
    let same : n - 1 - length left ≡ n - length slots =
    omega (arith, next.below, ap (λ (list : List (Option Passing)). length list) is, length-append left (slot ∷ [])) in
    next.done.0.from ∙ ap (λ (m : ℕ). part_begin (length gather.candidates) n m) same

pub join-requires-clause-meets : goal.join-requires-clause-meets
join-requires-clause-meets c =
    let n = c.args.n in
    let gather = c.args.gather.now in
    let left = c.pop-in-loop-slot.new.self.items in
    let slots = c.loop-slot.slots.items in
    let other = c.unwrap-in-Some.result in
    let next =
    next_is gather n slots left c.in-Some.slot other c.loop-slot.invariant.6 c.loop-slot.invariant.5
    c.in-Some.ensures.items c.unwrap-in-Some.ensures in
    begins_at gather n slots left c.in-Some.slot other next c.in-Some.ensures.items ∙ sym c.loop-slot.invariant.2
    ∙ sym c.loop-slot.invariant.3

pub join-requires-clause-room : goal.join-requires-clause-room
join-requires-clause-room c =
    let other = c.unwrap-in-Some.result in
    let next =
    next_is c.args.gather.now c.args.n c.loop-slot.slots.items c.pop-in-loop-slot.new.self.items c.in-Some.slot
    other c.loop-slot.invariant.6 c.loop-slot.invariant.5 c.in-Some.ensures.items c.unwrap-in-Some.ensures in
    omega (
      arith,
      next.done.0.of.one_each,
      next.done.0.of.goes_on,
      next.done.0.of.ends,
      c.loop-slot.invariant.3,
      c.loop-slot.invariant.4,
      join-requires-clause-meets c,
    )

pub loop-slot-preserved : goal.loop-slot-preserved
loop-slot-preserved c =
    let n = c.args.n in
    let gather = c.args.gather.now in
    let left = c.pop-in-loop-slot.new.self.items in
    let slots = c.loop-slot.slots.items in
    let other = c.unwrap-in-Some.result in
    let join = c.join.ensures in
    let next =
    next_is gather n slots left c.in-Some.slot other c.loop-slot.invariant.6 c.loop-slot.invariant.5
    c.in-Some.ensures.items c.unwrap-in-Some.ensures in
    let meets = begins_at gather n slots left c.in-Some.slot other next c.in-Some.ensures.items in
    let k = n - 1 - length left in
    let after : n - length left ≡ k + 1 = omega (arith, next.below) in (
      join.of,
      join.range.0 ∙ c.loop-slot.invariant.1,
      join.range.1 ∙ ends_at gather n k (n - length left) other next.done after,
      join.range.2 ∙ sym next.done.1 ∙ sym join.range.1,
      omega (arith, meets, join.spare, join.range.1, next.done.0.of.one_each, c.loop-slot.invariant.2, c.loop-slot.invariant.4),
      omega (arith, next.below),
      next.others,
    )
