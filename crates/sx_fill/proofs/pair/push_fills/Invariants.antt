use Rattle.std.proofs.Common.{◌≡◌, ◌-◌, ◌*◌, ◌++◌, take}
use Rattle.sx_fill.specs.PairFills.{pair_fill, trading}
use Rattle.sx_fill.proofs.pair.push_fills.Given as goal
use Rattle.sx_ledger.specs.Bounds.{amounts}

abbrev pub invariant-loop-place : goal.invariant-loop-place
invariant-loop-place l = record {
  fills : l.fills.items
      ≡ l.initial.fills.items ++ trading (pair_fill l.sell l.buy l.y l.offers) l.first (take l.place l.offers);
  left : l.left ≡ l.y - l.sell * amounts (take l.place l.offers);
}
