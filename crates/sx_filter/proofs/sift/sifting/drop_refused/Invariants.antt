use Rattle.std.proofs.Common.{◌≡◌, ◌≤◌}
use Rattle.std.specs.Prelude.{vec_len}
use Rattle.std.proofs.lemmas.List.Filters.{FiltersInPlace}
use Rattle.sx_filter.specs.Kept.{passes}
use Rattle.sx_filter.proofs.sift.sifting.drop_refused.Given as goal

abbrev pub invariant-loop-place : goal.invariant-loop-place
invariant-loop-place l = record {
  behind : l.kept ≤ l.place;
  long : vec_len l.txs ≡ vec_len l.fn.txs;
  chosen : FiltersInPlace (passes l.ledger) l.fn.txs.items l.txs.items l.kept l.place;
}
