use Rattle.std.proofs.Common.{sym}
use Rattle.sx_outcome.proofs.PackedLaws.{left_after_overdraft, left_after_plain, overdraft_taken, plain_taken}
use Rattle.sx_outcome.proofs.packed_outcomes.unpacked.Goals as goal
use Rattle.sx_outcome.proofs.packed_outcomes.unpacked.Goals.{then-kind-eq-OVERDRAFT+in_ok-push, else-kind-eq-OVERDRAFT+in_ok-push-2}

pub loop-kind-preserved : goal.loop-kind-preserved
loop-kind-preserved c =
    let left = c.loop-kind.invariant.left in
    let found = c.loop-kind.invariant.found in
    let there = c.loop-kind-test.true in
    elim c.if-kind-eq-OVERDRAFT.branch [
      | then-kind-eq-OVERDRAFT+in_ok-push w ↦
          let over = w.if-kind-eq-OVERDRAFT.true in
          record {
            left = rw w.next-is (left_after_overdraft left there over);
            found = rw (w.list-is, w.in_ok-push.ensures.items, found) (sym (overdraft_taken left there over));
          }
      | else-kind-eq-OVERDRAFT+in_ok-push-2 w ↦
          let plain = w.if-kind-eq-OVERDRAFT.false in
          record {
            left = rw w.next-is (left_after_plain left there plain);
            found =
                rw (w.list-is, w.in_ok-push-2.ensures.items, found, w.plain.ensures) (sym (plain_taken left there plain));
          }
    ]
