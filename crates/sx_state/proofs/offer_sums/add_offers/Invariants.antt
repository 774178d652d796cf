use Rattle.std.proofs.Common.{◌≡◌, ℕ, ◌+◌, ◌*◌, ◌^◌, ◌<◌, ◌≤◌, length, take}
use Rattle.std.specs.Prelude.{sum_by, slice_index, All}
use Rattle.sx_ledger.specs.Ledger.{offered}
use Rattle.sx_state.proofs.offer_sums.add_offers.Given as goal

abbrev pub invariant-loop-offer : goal.invariant-loop-offer
invariant-loop-offer l = record {
  sums : (k : ℕ) → k < length l.fn.sums
      → slice_index l.sums k ≡ slice_index l.fn.sums k + sum_by (offered k) (take l.offer-index l.offers);
  small : All (λ sum. sum ≤ l.offer-index * 2 ^ 62) l.sums;
}
