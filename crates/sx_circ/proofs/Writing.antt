-- What it changes to write the value of one pair.
use Rattle.std.proofs.Common.{◌≡◌, ◌≢◌, ℕ, ◌+◌, ◌-◌, ◌*◌, ◌<◌, ◌≤◌, ◌⊎◌, List, length, set, inl, inr, refl, sym}
use Rattle.std.proofs.Common.{◌∙◌, arith, length-set}
use Rattle.std.proofs.lemmas.Bool.{cases_eq}
use Rattle.std.proofs.lemmas.List.{get_or-set_other}
use Rattle.std.proofs.lemmas.Grind.{get_or-set_at}
use Rattle.std.proofs.lemmas.Nat.{mul-add-lt, same_from_place}
use Rattle.sx_circ.specs.Residual.{CanMove, HasMoved, KeepsBounds, Raises}
use Rattle.sx_dual.specs.Tables.{BoundsTable, entry_at, high_of, low_of}

module _ (n : ℕ) (values : List ℕ) (sell buy value : ℕ) (full : length values ≡ n * n) (sell_lt : sell < n)
    (buy_lt : buy < n) where
  pub entry_here : entry_at n (set values (sell * n + buy) value) sell buy ≡ value
  entry_here =
      get_or-set_at values (sell * n + buy) (sell * n + buy) value 0 refl
      (omega (arith, mul-add-lt sell n buy n sell_lt buy_lt))

  pub entry_other : (s b : ℕ) → b < n → (s ≢ sell) ⊎ (b ≢ buy) →
      entry_at n (set values (sell * n + buy) value) s b ≡ entry_at n values s b
  entry_other s b b_lt other =
      get_or-set_other values (sell * n + buy) (s * n + b) value 0 (λ same.
      let at = same_from_place s b sell buy n b_lt buy_lt same in
      elim other [ inl differs ↦ differs at.0 | inr differs ↦ differs at.1 ])

  pub raised : (amount : ℕ) → value ≡ entry_at n values sell buy + amount →
      Raises n (entry_at n values) (entry_at n (set values (sell * n + buy) value)) sell buy amount
  raised amount more = record {
    more = entry_here ∙ more;
    others = λ s b s_lt b_lt other. entry_other s b b_lt other;
  }

  pub lowered : (amount : ℕ) → value + amount ≡ entry_at n values sell buy →
      Raises n (entry_at n (set values (sell * n + buy) value)) (entry_at n values) sell buy amount
  lowered amount less = record {
    more = rw entry_here (sym less);
    others = λ s b s_lt b_lt other. sym (entry_other s b b_lt other);
  }

pub keeps_bounds : (bounds : BoundsTable) (values : List ℕ) (sell buy value : ℕ) → KeepsBounds bounds values
    → sell < bounds.assets → buy < bounds.assets → low_of bounds sell buy ≤ value → value ≤ high_of bounds sell buy
    → KeepsBounds bounds (set values (sell * bounds.assets + buy) value)
keeps_bounds bounds values sell buy value keeps sell_lt buy_lt least most =
    let n = bounds.assets in
    record {
      full = length-set values (sell * n + buy) value ∙ keeps.full;
      at_least = λ s b s_lt b_lt.
          elim (cases_eq s sell) [
            | inr other ↦ rw (entry_other n values sell buy value keeps.full sell_lt buy_lt s b b_lt (inl other))
                (keeps.at_least s b s_lt b_lt)
            | inl sells ↦ elim (cases_eq b buy) [
              | inr other ↦ rw (entry_other n values sell buy value keeps.full sell_lt buy_lt s b b_lt (inr other))
                  (keeps.at_least s b s_lt b_lt)
              | inl buys ↦ rw (sells, buys, entry_here n values sell buy value keeps.full sell_lt buy_lt) least
            ]
          ];
      at_most = λ s b s_lt b_lt.
          elim (cases_eq s sell) [
            | inr other ↦ rw (entry_other n values sell buy value keeps.full sell_lt buy_lt s b b_lt (inl other))
                (keeps.at_most s b s_lt b_lt)
            | inl sells ↦ elim (cases_eq b buy) [
              | inr other ↦ rw (entry_other n values sell buy value keeps.full sell_lt buy_lt s b b_lt (inr other))
                  (keeps.at_most s b s_lt b_lt)
              | inl buys ↦ rw (sells, buys, entry_here n values sell buy value keeps.full sell_lt buy_lt) most
            ]
          ];
    }

-- ---- a step up and a step down

module _ (bounds : BoundsTable) (values : List ℕ) (tail head amount from to : ℕ) (keeps : KeepsBounds bounds values)
    (tail_lt : tail < bounds.assets) (head_lt : head < bounds.assets) where
  pub shifted_up_keeps : from < to →
      CanMove (low_of bounds) (high_of bounds) (entry_at bounds.assets values) amount tail head from to →
      KeepsBounds bounds
      (set values (tail * bounds.assets + head) (entry_at bounds.assets values tail head + amount))
  shifted_up_keeps rises (inl (up, room)) =
      keeps_bounds bounds values tail head (entry_at bounds.assets values tail head + amount) keeps tail_lt head_lt
      (omega (arith, keeps.at_least tail head tail_lt head_lt)) room
  shifted_up_keeps rises (inr (down, room)) = absurd (omega arith)

  pub shifted_up : from < to →
      CanMove (low_of bounds) (high_of bounds) (entry_at bounds.assets values) amount tail head from to →
      HasMoved bounds.assets (entry_at bounds.assets values)
      (entry_at bounds.assets
      (set values (tail * bounds.assets + head) (entry_at bounds.assets values tail head + amount)))
      amount tail head from to
  shifted_up rises (inl (up, room)) =
      inl (
        up,
        raised bounds.assets values tail head (entry_at bounds.assets values tail head + amount) keeps.full tail_lt
            head_lt amount refl,
      )
  shifted_up rises (inr (down, room)) = absurd (omega arith)

  pub shifted_down_keeps : to ≤ from →
      CanMove (low_of bounds) (high_of bounds) (entry_at bounds.assets values) amount tail head from to →
      KeepsBounds bounds
      (set values (head * bounds.assets + tail) (entry_at bounds.assets values head tail - amount))
  shifted_down_keeps falls (inl (up, room)) = absurd (omega arith)
  shifted_down_keeps falls (inr (down, room)) =
      keeps_bounds bounds values head tail (entry_at bounds.assets values head tail - amount) keeps head_lt tail_lt
      (omega arith) (omega (arith, keeps.at_most head tail head_lt tail_lt))

  pub shifted_down : to ≤ from →
      CanMove (low_of bounds) (high_of bounds) (entry_at bounds.assets values) amount tail head from to →
      HasMoved bounds.assets (entry_at bounds.assets values)
      (entry_at bounds.assets
      (set values (head * bounds.assets + tail) (entry_at bounds.assets values head tail - amount)))
      amount tail head from to
  shifted_down falls (inl (up, room)) = absurd (omega arith)
  shifted_down falls (inr (down, room)) =
      inr (
        down,
        lowered bounds.assets values head tail (entry_at bounds.assets values head tail - amount) keeps.full head_lt
            tail_lt amount (omega arith),
      )
