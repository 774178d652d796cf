-- What has changed when an amount has been moved from the first place of a cycle to another one.
use Rattle.std.proofs.Common.{◌≡◌, ◌≢◌, ℕ, ◌+◌, ◌*◌, ◌<◌, ◌≤◌, List, refl, ap, arith}
use Rattle.std.proofs.Math.Nat.{mul-le-mul_left}
use Rattle.sx_circ.specs.declared.walk.Cycle.{Cycle}
use Rattle.sx_circ.specs.Residual.{HasMoved, KeepsBalances, KeepsBounds, only_at}
use Rattle.sx_circ.specs.Walks.{CanMoveAt, IsGaining, asset_at, height_at}
use Rattle.sx_circ.proofs.Moving.{moved_balance, moved_room, moved_value}
use Rattle.sx_dual.specs.Circulation.{bought, sold, traded_value}
use Rattle.sx_dual.specs.Tables.{BoundsTable, entry_at, high_of, low_of}

pub record IsRound (bounds : BoundsTable) (old new : List ℕ) (cycle : Cycle) (amount place : ℕ) : Type 0 where
  pub keeps : KeepsBounds bounds new
  pub rooms : (k : ℕ) → place ≤ k → k < cycle.walk.last →
      CanMoveAt (low_of bounds) (high_of bounds) (entry_at bounds.assets new) amount cycle.walk k
  pub balance : (asset : ℕ) → asset < bounds.assets →
      sold bounds.assets (entry_at bounds.assets new) asset + bought bounds.assets (entry_at bounds.assets old) asset
      + only_at (asset_at cycle.walk place) amount asset
      ≡ sold bounds.assets (entry_at bounds.assets old) asset
      + bought bounds.assets (entry_at bounds.assets new) asset
      + only_at (asset_at cycle.walk cycle.first) amount asset
  pub value :
      traded_value bounds.assets (entry_at bounds.assets new) + amount * height_at cycle.walk cycle.first
      ≡ traded_value bounds.assets (entry_at bounds.assets old) + amount * height_at cycle.walk place

pub round_begins : (bounds : BoundsTable) (values : List ℕ) (cycle : Cycle) (amount : ℕ) → KeepsBounds bounds values
    → ((k : ℕ) → cycle.first ≤ k → k < cycle.walk.last →
    CanMoveAt (low_of bounds) (high_of bounds) (entry_at bounds.assets values) amount cycle.walk k)
    → IsRound bounds values values cycle amount cycle.first
round_begins bounds values cycle amount keeps rooms =
    record { keeps = keeps; rooms = rooms; balance = λ asset lt. refl; value = refl }

pub round_goes_on : (bounds : BoundsTable) (old mid new : List ℕ) (cycle : Cycle) (amount place : ℕ)
    → IsGaining bounds.assets (low_of bounds) (high_of bounds) (entry_at bounds.assets old) cycle
    → IsRound bounds old mid cycle amount place → cycle.first ≤ place → place < cycle.walk.last
    → KeepsBounds bounds new
    → HasMoved bounds.assets (entry_at bounds.assets mid) (entry_at bounds.assets new) amount
    (asset_at cycle.walk place) (asset_at cycle.walk (place + 1)) (height_at cycle.walk place)
    (height_at cycle.walk (place + 1))
    → IsRound bounds old new cycle amount (place + 1)
round_goes_on bounds old mid new cycle amount place gaining round after before keeps moved =
    let n = bounds.assets in
    let y = entry_at n mid in
    let z = entry_at n new in
    let walk = cycle.walk in
    let within = gaining.way.within in
    let tail = asset_at walk place in
    let head = asset_at walk (place + 1) in
    let tail_lt : tail < n = within.assets place (omega arith) in
    let head_lt : head < n = within.assets (place + 1) (omega arith) in
    let apart : tail ≢ head = within.apart place before in
    record {
      keeps = keeps;
      rooms = λ k place_lt k_lt.
          moved_room n y z amount tail head (height_at walk place) (height_at walk (place + 1)) tail_lt head_lt apart
          (low_of bounds) (high_of bounds) (asset_at walk k) (asset_at walk (k + 1)) (within.assets k (omega arith))
          (within.assets (k + 1) (omega arith))
          (λ same. gaining.distinct place k (omega arith) k_lt (omega arith)) moved amount (height_at walk k)
          (height_at walk (k + 1)) (round.rooms k (omega arith) k_lt);
      balance = λ asset lt.
          omega (
            arith,
            round.balance asset lt,
            moved_balance n y z amount tail head (height_at walk place) (height_at walk (place + 1)) tail_lt head_lt
                apart moved asset lt,
          );
      value = omega (
        arith,
        round.value,
        moved_value n y z amount tail head (height_at walk place) (height_at walk (place + 1)) tail_lt head_lt apart
            moved,
      );
    }

pub round_balances : (bounds : BoundsTable) (old new : List ℕ) (cycle : Cycle) (amount : ℕ)
    → IsGaining bounds.assets (low_of bounds) (high_of bounds) (entry_at bounds.assets old) cycle
    → IsRound bounds old new cycle amount cycle.walk.last
    → KeepsBalances bounds.assets (entry_at bounds.assets old) (entry_at bounds.assets new)
round_balances bounds old new cycle amount gaining round asset lt =
    let closed = ap (λ there. only_at there amount asset) gaining.closed in
    omega (arith, round.balance asset lt, closed)

pub round_gains : (bounds : BoundsTable) (old new : List ℕ) (cycle : Cycle) (amount : ℕ)
    → IsGaining bounds.assets (low_of bounds) (high_of bounds) (entry_at bounds.assets old) cycle → 0 < amount
    → IsRound bounds old new cycle amount cycle.walk.last
    → traded_value bounds.assets (entry_at bounds.assets old) < traded_value bounds.assets (entry_at bounds.assets new)
round_gains bounds old new cycle amount gaining some round =
    let low = height_at cycle.walk cycle.first in
    let high = height_at cycle.walk cycle.walk.last in
    let le : low + 1 ≤ high = omega (arith, gaining.gains) in
    let more : amount * (low + 1) ≤ amount * high = mul-le-mul_left amount le in
    let step : amount * (low + 1) ≡ amount * low + amount = omega arith in
    omega (arith, round.value)
