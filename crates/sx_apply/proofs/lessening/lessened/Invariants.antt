use Rattle.std.proofs.Common.{◌≡◌, ℕ, ◌≤◌, List, drop, length, take}
use Rattle.std.specs.Prelude.{All, IfSome, slice_get}
use Rattle.sx_apply.proofs.OffersLeft.{left_over}
use Rattle.sx_apply.proofs.lessening.lessened.Given as goal
use Rattle.sx_fill.specs.AllFills.{all_fills, fill_of}
use Rattle.sx_fill.specs.PairFills.{trading}
use Rattle.sx_ledger.specs.Fills.{Flow}

abbrev pub invariant-loop-place : goal.invariant-loop-place
invariant-loop-place l = record {
  behind : l.kept ≤ l.place;
  long : length l.offers.items ≡ length l.fn.offers.items;
  rest : drop l.place l.offers.items ≡ drop l.place l.fn.offers.items;
  gives : All (λ fill. IfSome (slice_get l.fn.offers.items fill.place) (λ offer. fill.gives ≤ offer.amount)) l.left;
  traded : (prices : List ℕ) (flow : Flow) → l.fn.fills ≡ all_fills prices flow l.fn.offers.items
      → (take l.kept l.offers.items ≡ left_over prices flow l.fn.offers.items (take l.place l.fn.offers.items))
      × (l.left ≡ trading (fill_of prices flow l.fn.offers.items) l.place (drop l.place l.fn.offers.items));
}
