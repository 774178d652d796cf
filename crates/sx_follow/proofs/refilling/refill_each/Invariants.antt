use Rattle.std.proofs.Common.{◌≡◌, length, take}
use Rattle.sx_follow.proofs.refilling.refill_each.Given as goal

abbrev pub invariant-loop-place : goal.invariant-loop-place
invariant-loop-place l = record {
  as_many : length l.spare ≡ length l.accounts;
  same : take l.place l.spare ≡ take l.place l.accounts;
}
