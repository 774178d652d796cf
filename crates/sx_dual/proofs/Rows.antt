-- The definitions, computed at small cases that were worked out by hand.
use Rattle.std.proofs.Common.{◌≡◌, ◌≢◌, ℕ, ◌<◌, ◌≤◌, pos, ◌<ℤ◌, [], ◌∷◌, inl, inr, refl, arith}
use Rattle.std.proofs.lemmas.Bool.{cases_eq}
use Rattle.std.proofs.lemmas.Int.{ints}
use Rattle.sx_dual.specs.Circulation.{HaveNoCirculation, IsBalanced, IsCirculation, IsWithin, bought, sold}
use Rattle.sx_dual.specs.Circulation.{traded_value}
use Rattle.sx_dual.specs.Cuts.{IsCut, sum_in, sum_out}
use Rattle.sx_dual.specs.Fit.{Fits, IsTight, gain_of}
use Rattle.sx_dual.specs.Sums.{EachPair, sum_below}
use Rattle.sx_dual.specs.Tables.{entry_at, potential_of}
use Rattle.sx_dual.proofs.CutLaws.{cut_refutes}
use Rattle.sx_dual.proofs.Duality.{fit_is_greatest}

-- ---- two and three assets, A, B and C

abbrev two : ℕ → ℕ → ℕ → ℕ → ℕ
two a_b b_a = entry_at 2 (0 ∷ a_b ∷ b_a ∷ 0 ∷ [])

abbrev three : ℕ → ℕ → ℕ → ℕ → ℕ → ℕ → ℕ → ℕ → ℕ
three a_b a_c b_a b_c c_a c_b = entry_at 3 (0 ∷ a_b ∷ a_c ∷ b_a ∷ 0 ∷ b_c ∷ c_a ∷ c_b ∷ 0 ∷ [])

each_of_two : (P : ℕ → Type 0) → P 0 → P 1 → (asset : ℕ) → asset < 2 → P asset
each_of_two P a b asset lt =
    elim (cases_eq asset 0) [
      | inl is_a ↦ rw is_a a
      | inr other ↦ let is_b : asset ≡ 1 = omega arith in rw is_b b
    ]

each_of_three : (P : ℕ → Type 0) → P 0 → P 1 → P 2 → (asset : ℕ) → asset < 3 → P asset
each_of_three P a b c asset lt =
    elim (cases_eq asset 2) [
      | inl is_c ↦ rw is_c c
      | inr other ↦ each_of_two P a b asset (omega arith)
    ]

each_pair_of_two : (P : ℕ → ℕ → Type 0) → P 0 1 → P 1 0 → EachPair 2 P
each_pair_of_two P a_b b_a sell buy sell_lt buy_lt =
    each_of_two (λ s. s ≢ buy → P s buy)
    (each_of_two (λ b. 0 ≢ b → P 0 b) (λ other. absurd (other refl)) (λ _. a_b) buy buy_lt)
    (each_of_two (λ b. 1 ≢ b → P 1 b) (λ _. b_a) (λ other. absurd (other refl)) buy buy_lt)
    sell sell_lt

each_pair_of_three : (P : ℕ → ℕ → Type 0) → P 0 1 → P 0 2 → P 1 0 → P 1 2 → P 2 0 → P 2 1 → EachPair 3 P
each_pair_of_three P a_b a_c b_a b_c c_a c_b sell buy sell_lt buy_lt =
    each_of_three (λ s. s ≢ buy → P s buy)
    (each_of_three (λ b. 0 ≢ b → P 0 b) (λ other. absurd (other refl)) (λ _. a_b) (λ _. a_c) buy buy_lt)
    (each_of_three (λ b. 1 ≢ b → P 1 b) (λ _. b_a) (λ other. absurd (other refl)) (λ _. b_c) buy buy_lt)
    (each_of_three (λ b. 2 ≢ b → P 2 b) (λ _. c_a) (λ _. c_b) (λ other. absurd (other refl)) buy buy_lt)
    sell sell_lt

within : (low high y : ℕ → ℕ → ℕ) (sell buy : ℕ) → low sell buy ≤ y sell buy → y sell buy ≤ high sell buy →
    IsWithin low high y sell buy
within low high y sell buy least most = record { at_least = least; at_most = most }

-- ---- an offer that trades in part: A for B may trade 100, and B for A must trade 60

sixty : IsCirculation 2 (two 0 60) (two 100 60) (two 60 60)
unfolding sum_below
sixty = record {
  within = each_pair_of_two (IsWithin (two 0 60) (two 100 60) (two 60 60))
      (record { at_least = omega arith; at_most = omega arith })
      (record { at_least = omega arith; at_most = omega arith });
  balanced = each_of_two (IsBalanced 2 (two 60 60)) refl refl;
}

sixty_value : traded_value 2 (two 60 60) ≡ 120
unfolding sum_below
sixty_value = refl

sixty_fits : Fits 2 (two 0 60) (two 100 60) (two 60 60) (potential_of (0 ∷ 1 ∷ []))
sixty_fits = record {
  circulation = sixty;
  tight = each_pair_of_two (IsTight (two 0 60) (two 100 60) (two 60 60) (potential_of (0 ∷ 1 ∷ [])))
      (record { gaining = λ h. absurd (omega (arith, ints)); losing = λ h. absurd (omega (arith, ints)) })
      (record { gaining = λ h. refl; losing = λ h. refl });
}

-- 59 both ways is too little of B for A
fifty_nine_is_outside : IsWithin (two 0 60) (two 100 60) (two 59 59) 1 0 → ⊥
fifty_nine_is_outside h = let least : 60 ≤ 59 = h.at_least in omega arith

-- and where nothing must trade it is a circulation, but the gain of B for A is 2
gains : (gain_of (potential_of (0 ∷ 1 ∷ [])) 0 1 ≡ pos 0) × (gain_of (potential_of (0 ∷ 1 ∷ [])) 1 0 ≡ pos 2)
gains = (refl, refl)

fifty_nine_is_less : two 59 59 1 0 ≡ two 100 60 1 0 → ⊥
fifty_nine_is_less same = omega arith

fifty_nine_is_slack : IsTight (two 0 0) (two 100 60) (two 59 59) (potential_of (0 ∷ 1 ∷ [])) 1 0 → ⊥
fifty_nine_is_slack h =
    let gain : pos 0 <ℤ gain_of (potential_of (0 ∷ 1 ∷ [])) 1 0 = omega (arith, ints) in
    fifty_nine_is_less (h.gaining gain)

-- ---- a ring: A for B, B for C, C for A and B for A may trade 10, and nothing must trade

abbrev none : ℕ → ℕ → ℕ
none = three 0 0 0 0 0 0

abbrev most : ℕ → ℕ → ℕ
most = three 10 0 10 10 10 0

abbrev ring : ℕ → ℕ → ℕ
ring = three 10 0 0 10 10 0

-- what trades where A for B is first matched with B for A
abbrev greedy : ℕ → ℕ → ℕ
greedy = three 10 0 10 0 0 0

ring_circulates : IsCirculation 3 none most ring
unfolding sum_below
ring_circulates = record {
  within = each_pair_of_three (IsWithin none most ring)
      (within none most ring 0 1 (omega arith) (omega arith)) (within none most ring 0 2 (omega arith) (omega arith))
      (within none most ring 1 0 (omega arith) (omega arith)) (within none most ring 1 2 (omega arith) (omega arith))
      (within none most ring 2 0 (omega arith) (omega arith)) (within none most ring 2 1 (omega arith) (omega arith));
  balanced = each_of_three (IsBalanced 3 ring) refl refl refl;
}

ring_values : (traded_value 3 ring ≡ 30) × (traded_value 3 greedy ≡ 20)
unfolding sum_below
ring_values = (refl, refl)

abbrev ring_potential : ℕ → ℕ
ring_potential = potential_of (1 ∷ 0 ∷ 0 ∷ [])

ring_fits : Fits 3 none most ring ring_potential
ring_fits = record {
  circulation = ring_circulates;
  tight = each_pair_of_three (IsTight none most ring ring_potential)
      (record { gaining = λ _. refl; losing = λ h. absurd (omega (arith, ints)) })
      (record { gaining = λ _. refl; losing = λ _. refl })
      (record { gaining = λ h. absurd (omega (arith, ints)); losing = λ _. refl })
      (record { gaining = λ _. refl; losing = λ h. absurd (omega (arith, ints)) })
      (record { gaining = λ _. refl; losing = λ h. absurd (omega (arith, ints)) })
      (record { gaining = λ _. refl; losing = λ _. refl });
}

-- the other is a circulation too, and fits no potentials whatever
greedy_circulates : IsCirculation 3 none most greedy
unfolding sum_below
greedy_circulates = record {
  within = each_pair_of_three (IsWithin none most greedy)
      (within none most greedy 0 1 (omega arith) (omega arith))
      (within none most greedy 0 2 (omega arith) (omega arith))
      (within none most greedy 1 0 (omega arith) (omega arith))
      (within none most greedy 1 2 (omega arith) (omega arith))
      (within none most greedy 2 0 (omega arith) (omega arith))
      (within none most greedy 2 1 (omega arith) (omega arith));
  balanced = each_of_three (IsBalanced 3 greedy) refl refl refl;
}

greedy_fits_nothing : (potential : ℕ → ℕ) → Fits 3 none most greedy potential → ⊥
greedy_fits_nothing potential fits =
    let greatest = fit_is_greatest 3 none most greedy potential fits in
    let le : traded_value 3 ring ≤ traded_value 3 greedy = greatest.greatest ring ring_circulates in
    omega (arith, ring_values.0, ring_values.1)

-- where C for A may trade 9 only, the same flow does not balance
short_ring : (sold 3 (three 10 0 0 10 9 0) 0 ≡ 10) × (bought 3 (three 10 0 0 10 9 0) 0 ≡ 9)
unfolding sum_below
short_ring = (refl, refl)

-- ---- bounds that admit nothing: A for B must trade 15, and B for A 16

into_a : (sum_in 2 (two 15 16) 1 ≡ 16) × (sum_out 2 (two 15 16) 1 ≡ 15)
unfolding sum_below
into_a = (refl, refl)

a_is_a_cut : IsCut 2 (two 15 16) (two 15 16) 1
a_is_a_cut = omega (arith, into_a.0, into_a.1)

nothing_circulates : HaveNoCirculation 2 (two 15 16) (two 15 16)
nothing_circulates = cut_refutes 2 (two 15 16) (two 15 16) 1 a_is_a_cut

-- no other set of the two is a cut
into_b : (sum_in 2 (two 15 16) 2 ≡ 15) × (sum_out 2 (two 15 16) 2 ≡ 16)
unfolding sum_below
into_b = (refl, refl)

b_is_no_cut : IsCut 2 (two 15 16) (two 15 16) 2 → ⊥
b_is_no_cut cut = let less : 16 < 15 = rw (into_b.0, into_b.1) at cut in omega arith

-- where nothing must trade, 15 both ways fits
fifteen_fits : Fits 2 (two 0 0) (two 15 16) (two 15 15) (potential_of (1 ∷ 0 ∷ []))
unfolding sum_below
fifteen_fits = record {
  circulation = record {
    within = each_pair_of_two (IsWithin (two 0 0) (two 15 16) (two 15 15))
        (within (two 0 0) (two 15 16) (two 15 15) 0 1 (omega arith) (omega arith))
        (within (two 0 0) (two 15 16) (two 15 15) 1 0 (omega arith) (omega arith));
    balanced = each_of_two (IsBalanced 2 (two 15 15)) refl refl;
  };
  tight = each_pair_of_two (IsTight (two 0 0) (two 15 16) (two 15 15) (potential_of (1 ∷ 0 ∷ [])))
      (record { gaining = λ _. refl; losing = λ h. absurd (omega (arith, ints)) })
      (record { gaining = λ h. absurd (omega (arith, ints)); losing = λ h. absurd (omega (arith, ints)) });
}
