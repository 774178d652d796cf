-- The first of its kind below a bound, where each is known to be of it or not.
use Rattle.std.proofs.Common.{◌≡◌, ◌≢◌, ℕ, zero, suc, ◌<◌, ◌≤◌, List, [], ◌∷◌, inl, inr, refl, sym, subst}
use Rattle.std.proofs.Common.{arith}
use Rattle.std.specs.Prelude.{◌⊎◌}
use Rattle.std.proofs.lemmas.Bool.{cases_lt, cases_order}
use Rattle.sx_dual.specs.Misfit.{IsFirstAsset, IsFirstPair}
use Rattle.sx_dual.specs.Sums.{EachPair}

-- it holds, or it does not
abbrev pub Decided : Type 0 → Type 0
Decided P = P ⊎ (P → ⊥)

pub same_or_not : (x y : ℕ) → Decided (x ≡ y)
same_or_not x y =
    elim (cases_order x y) [
      | inl same ↦ inl same
      | inr (inl lt) ↦ inr (λ e. omega (arith, e))
      | inr (inr gt) ↦ inr (λ e. omega (arith, e))
    ]

pub le_or_not : (x y : ℕ) → Decided (x ≤ y)
le_or_not x y = elim (cases_lt y x) [ inl lt ↦ inr (λ le. omega arith) | inr le ↦ inl le ]

pub same_list_or_not : (xs ys : List ℕ) → Decided (xs ≡ ys)
same_list_or_not [] [] = inl refl
same_list_or_not [] (y ∷ ys) = inr (λ e. absurd cc)
same_list_or_not (x ∷ xs) [] = inr (λ e. absurd cc)
same_list_or_not (x ∷ xs) (y ∷ ys) =
    elim (same_or_not x y) [
      | inl first ↦ elim (same_list_or_not xs ys) [
        | inl others ↦ inl cc
        | inr differ ↦ inr (λ e. differ cc)
      ]
      | inr differ ↦ inr (λ e. differ cc)
    ]

-- ---- the first number

pub record First (P : ℕ → Type 0) (n : ℕ) : Type 0 where
  pub at : ℕ
  pub below : at < n
  pub is : P at
  pub earlier : (k : ℕ) → k < at → P k → ⊥

pub first_of : (P : ℕ → Type 0) → ((k : ℕ) → Decided (P k)) → (n : ℕ)
    → First P n ⊎ ((k : ℕ) → k < n → P k → ⊥)
first_of P decide zero = inr (λ k lt p. omega arith)
first_of P decide (suc n) =
    elim (first_of P decide n) [
      | inl found ↦ inl (record {
        at = found.at;
        below = omega (arith, found.below);
        is = found.is;
        earlier = found.earlier;
      })
      | inr none ↦ elim (decide n) [
        | inl here ↦ inl (record { at = n; below = omega arith; is = here; earlier = none })
        | inr not ↦ inr (λ k lt p. elim (cases_lt k n) [
          | inl earlier ↦ none k earlier p
          | inr last ↦ not (let same : k ≡ n = omega arith in subst P same p)
        ])
      ]
    ]

decide_not : (P : Type 0) → Decided P → Decided (P → ⊥)
decide_not P (inl p) = inr (λ not. not p)
decide_not P (inr not) = inl not

holds_from : (P : Type 0) → Decided P → ((P → ⊥) → ⊥) → P
holds_from P (inl p) twice = p
holds_from P (inr not) twice = absurd (twice not)

pub record IsFirst (P : ℕ → Type 0) (n : ℕ) : Type 0 where
  pub at : ℕ
  pub is : IsFirstAsset n P at

-- the first number of which a fact fails
pub first_failing : (P : ℕ → Type 0) → ((k : ℕ) → Decided (P k)) → (n : ℕ)
    → IsFirst P n ⊎ ((k : ℕ) → k < n → P k)
first_failing P decide n =
    elim (first_of (λ k. P k → ⊥) (λ k. decide_not (P k) (decide k)) n) [
      | inl found ↦ inl (record {
        at = found.at;
        is = record {
          below = found.below;
          fails = found.is;
          earlier = λ k lt. holds_from (P k) (decide k) (found.earlier k lt);
        };
      })
      | inr none ↦ inr (λ k lt. holds_from (P k) (decide k) (none k lt))
    ]

-- ---- the first pair

-- of all pairs that sell an asset
abbrev Row : ℕ → (ℕ → ℕ → Type 0) → ℕ → Type 0
Row n P sell = (buy : ℕ) → buy < n → sell ≢ buy → P sell buy

module _ (n : ℕ) (P : ℕ → ℕ → Type 0) (decide : (sell buy : ℕ) → Decided (P sell buy)) where
  other_or : (sell buy : ℕ) → Decided (sell ≢ buy → P sell buy)
  other_or sell buy =
      elim (same_or_not sell buy) [
        | inl same ↦ inl (λ differ. absurd (differ same))
        | inr differ ↦ elim (decide sell buy) [
          | inl p ↦ inl (λ _. p)
          | inr not ↦ inr (λ all. not (all differ))
        ]
      ]

  row : (sell : ℕ) → Decided (Row n P sell)
  row sell =
      elim (first_failing (λ buy. sell ≢ buy → P sell buy) (other_or sell) n) [
        | inl found ↦ inr (λ all. found.is.fails (all found.at found.is.below))
        | inr all ↦ inl all
      ]

  pub record FirstPair : Type 0 where
    pub sell : ℕ
    pub buy : ℕ
    pub is : IsFirstPair n P sell buy

  pub first_pair : FirstPair ⊎ EachPair n P
  first_pair =
      elim (first_failing (Row n P) row n) [
        | inl found ↦ elim (first_failing (λ buy. found.at ≢ buy → P found.at buy) (other_or found.at) n) [
          | inl other ↦ inl (record {
            sell = found.at;
            buy = other.at;
            is = record {
              sell_below = found.is.below;
              buy_below = other.is.below;
              different = λ same. other.is.fails (λ differ. absurd (differ same));
              fails = λ p. other.is.fails (λ _. p);
              earlier = λ s b below below' differ before. elim before [
                | inl lt ↦ found.is.earlier s lt b below' differ
                | inr both ↦
                    subst (λ (s : ℕ). s ≢ b → P s b) (sym both.0) (other.is.earlier b both.1) differ
              ];
            };
          })
          | inr all ↦ absurd (found.is.fails all)
        ]
        | inr all ↦ inr (λ sell buy s b differ. all sell s buy b differ)
      ]
