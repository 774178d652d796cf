-- What a step changes that moves an amount.
use Rattle.std.proofs.Common.{◌≡◌, ◌≢◌, ℕ, ◌+◌, ◌*◌, ◌<◌, ◌≤◌, inl, inr, arith}
use Rattle.sx_circ.specs.Residual.{CanMove, HasMoved, only_at}
use Rattle.sx_circ.proofs.RaisedSums.{bought_raised, entry_rises, sold_raised, value_raised}
use Rattle.sx_dual.specs.Circulation.{bought, sold, traded_value}

-- a lesser amount can be moved too
pub can_move_less : (low high y : ℕ → ℕ → ℕ) (more less tail head from to : ℕ) → less ≤ more
    → CanMove low high y more tail head from to
    → CanMove low high y less tail head from to
can_move_less low high y more less tail head from to le (inl (up, room)) = inl (up, omega arith)
can_move_less low high y more less tail head from to le (inr (down, room)) = inr (down, omega arith)

module _ (n : ℕ) (y z : ℕ → ℕ → ℕ) (amount tail head from to : ℕ) (tail_lt : tail < n) (head_lt : head < n)
    (apart : tail ≢ head) where
  -- what is sold beyond what is bought grows at the tail and falls at the head
  pub moved_balance : HasMoved n y z amount tail head from to → (asset : ℕ) → asset < n →
      sold n z asset + bought n y asset + only_at head amount asset
      ≡ sold n y asset + bought n z asset + only_at tail amount asset
  moved_balance (inl (up, raises)) asset lt =
      let sells : sold n z asset ≡ sold n y asset + only_at tail amount asset =
      sold_raised n y z tail head amount tail_lt head_lt apart raises asset lt in
      let buys : bought n z asset ≡ bought n y asset + only_at head amount asset =
      bought_raised n y z tail head amount tail_lt head_lt apart raises asset lt in
      omega arith
  moved_balance (inr (down, raises)) asset lt =
      let turned : head ≢ tail = omega arith in
      let sells : sold n y asset ≡ sold n z asset + only_at head amount asset =
      sold_raised n z y head tail amount head_lt tail_lt turned raises asset lt in
      let buys : bought n y asset ≡ bought n z asset + only_at tail amount asset =
      bought_raised n z y head tail amount head_lt tail_lt turned raises asset lt in
      omega arith

  -- the traded value grows as the height does
  pub moved_value : HasMoved n y z amount tail head from to →
      traded_value n z + amount * from ≡ traded_value n y + amount * to
  moved_value (inl (up, raises)) =
      let more : traded_value n z ≡ traded_value n y + amount =
      value_raised n y z tail head amount tail_lt head_lt apart raises in
      let step : amount * to ≡ amount * from + amount = rw up (omega arith) in
      omega arith
  moved_value (inr (down, raises)) =
      let turned : head ≢ tail = omega arith in
      let less : traded_value n y ≡ traded_value n z + amount =
      value_raised n z y head tail amount head_lt tail_lt turned raises in
      let step : amount * from ≡ amount * to + amount = rw down (omega arith) in
      omega arith

  module _ (low high : ℕ → ℕ → ℕ) (other_tail other_head : ℕ) (other_tail_lt : other_tail < n)
      (other_head_lt : other_head < n) (differs : other_tail ≢ tail) where
    none_falls : HasMoved n y z amount tail head from to → y other_head other_tail ≤ z other_head other_tail
    none_falls (inl (up, raises)) =
        entry_rises n y z tail head amount tail_lt head_lt apart raises other_head other_tail other_head_lt
        other_tail_lt
    none_falls (inr (down, raises)) =
        let same : y other_head other_tail ≡ z other_head other_tail =
        raises.others other_head other_tail other_head_lt other_tail_lt (inr differs) in
        omega arith

    none_rises : HasMoved n y z amount tail head from to → z other_tail other_head ≤ y other_tail other_head
    none_rises (inl (up, raises)) =
        let same : z other_tail other_head ≡ y other_tail other_head =
        raises.others other_tail other_head other_tail_lt other_head_lt (inl differs) in
        omega arith
    none_rises (inr (down, raises)) =
        let turned : head ≢ tail = omega arith in
        entry_rises n z y head tail amount head_lt tail_lt turned raises other_tail other_head other_tail_lt
        other_head_lt

    -- a step that leaves another asset can move as much as before
    pub moved_room : HasMoved n y z amount tail head from to → (less other_from other_to : ℕ) →
        CanMove low high y less other_tail other_head other_from other_to →
        CanMove low high z less other_tail other_head other_from other_to
    moved_room moved less other_from other_to (inl (up, room)) =
        let le : z other_tail other_head ≤ y other_tail other_head = none_rises moved in inl (up, omega arith)
    moved_room moved less other_from other_to (inr (down, room)) =
        let le : y other_head other_tail ≤ z other_head other_tail = none_falls moved in inr (down, omega arith)
