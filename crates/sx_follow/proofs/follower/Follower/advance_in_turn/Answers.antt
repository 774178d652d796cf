use Rattle.std.proofs.Common.{◌≡◌, ◌+◌, ◌<◌, ◌∙◌, ℕ, List, length, sym, subst, take}
use Rattle.sx_block.specs.Validity.{digest_of_ledger}
use Rattle.sx_follow.specs.Follower.{Followed}
use Rattle.sx_follow.proofs.InTurn.{chosen_first}
use Rattle.sx_follow.proofs.follower.Follower.advance_in_turn.Goals as goal
use Rattle.sx_follow.specs.Chosen.{AreChosen}

pub try_in_turn-requires-in-Some : goal.try_in_turn-requires-in-Some
try_in_turn-requires-in-Some c =
    let f = c.self.inside in
    let places = c.in_ok-places.places.items in
    let count = c.in-Some.count in
    let chosen : AreChosen (f.head.height + 1) (digest_of_ledger f.head) f.blocks.items places =
    rw (c.height-height.ensures.height, c.self.invariant.0, c.deref.ensures.value) at c.in_ok-places.ensures in
    let refused : (count < length c.deref-2.result.now) × (c.try_in_turn.new.self ≡ c.args.self.now) =
    rw c.in-Some.is at c.in_ok-try_in_turn.ensures.refused in
    let first =
    subst
    (λ (s : Followed). AreChosen (s.head.height + 1) (digest_of_ledger s.head) s.blocks (take count places))
    (c.self.view_is ∙ sym refused.1)
    (chosen_first (f.head.height + 1) (digest_of_ledger f.head) f.blocks.items places count chosen) in
    let now = c.try_in_turn.new.self in
    record {
      chosen = subst
          (λ (ps : List ℕ). AreChosen (now.head.height + 1) (digest_of_ledger now.head) now.blocks (take count ps))
          (sym c.deref-in-Some.ensures.value) first;
    }
