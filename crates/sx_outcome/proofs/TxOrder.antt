-- Transactions in the order of a body: by account, and then by number.
use Rattle.std.proofs.Common.{◌≡◌, ℕ, ◌<◌, true, ◌||◌, ◌&&◌, inl, inr, ◌⊎◌, refl, sym, ap₂, subst, arith}
use Rattle.std.specs.Prelude.{Bool, nat_lt, ◌==◌}
use Rattle.std.specs.Cmp.{IsStrictWeakOrder}
use Rattle.std.proofs.lemmas.Bool.{and_from, and_parts, cases_order, eq-eqb, eqb-true, false_from_ne_true}
use Rattle.std.proofs.lemmas.Bool.{lt-ltb, ltb-true, or_cases, or_left, or_right}
use Rattle.sx_ledger.specs.Body.{tx_before}
use Rattle.sx_tx.specs.declared.tx.Tx.{Tx}

abbrev pub Key : Type 0
Key = ℕ × ℕ

abbrev pub key : Tx → Key
key tx = (tx.account.0, tx.seq)

abbrev pub before : Key → Key → Bool
before one other = nat_lt one.0 other.0 || ((one.0 == other.0) && nat_lt one.1 other.1)

abbrev pub same : Key → Key → Bool
same one other = (one.0 == other.0) && (one.1 == other.1)

pub same_is : (one other : Key) → same one other ≡ true → one ≡ other
same_is one other e =
    let both = and_parts (one.0 == other.0) (one.1 == other.1) e in
    ap₂ (λ (a b : ℕ). (a, b)) (eqb-true one.0 other.0 both.0) (eqb-true one.1 other.1 both.1)

pub same_self : (one : Key) → same one one ≡ true
same_self one = and_from (one.0 == one.0) (one.1 == one.1) (eq-eqb one.0 one.0 refl) (eq-eqb one.1 one.1 refl)

abbrev pub IsBefore : Key → Key → Type 0
IsBefore one other = (one.0 < other.0) ⊎ ((one.0 ≡ other.0) × (one.1 < other.1))

pub is_before : (one other : Key) → before one other ≡ true → IsBefore one other
is_before one other e =
    elim (or_cases (nat_lt one.0 other.0) ((one.0 == other.0) && nat_lt one.1 other.1) e) [
      | inl lt ↦ inl (ltb-true one.0 other.0 lt)
      | inr too ↦
          let both = and_parts (one.0 == other.0) (nat_lt one.1 other.1) too in
          inr (eqb-true one.0 other.0 both.0, ltb-true one.1 other.1 both.1)
    ]

pub before_is : (one other : Key) → IsBefore one other → before one other ≡ true
before_is one other (inl lt) =
    or_left (nat_lt one.0 other.0) ((one.0 == other.0) && nat_lt one.1 other.1) (lt-ltb one.0 other.0 lt)
before_is one other (inr (e, lt)) =
    or_right (nat_lt one.0 other.0) ((one.0 == other.0) && nat_lt one.1 other.1)
    (and_from (one.0 == other.0) (nat_lt one.1 other.1) (eq-eqb one.0 other.0 e) (lt-ltb one.1 other.1 lt))

pub before_through : (a b c : Key) → IsBefore a b → IsBefore b c → IsBefore a c
before_through a b c (inl x) (inl y) = inl (omega arith)
before_through a b c (inl x) (inr (y, z)) = inl (omega arith)
before_through a b c (inr (x, w)) (inl y) = inl (omega arith)
before_through a b c (inr (x, w)) (inr (y, z)) = inr (omega arith, omega arith)

pub not_itself : (a : Key) → IsBefore a a → ⊥
not_itself a (inl x) = omega arith
not_itself a (inr (x, y)) = omega arith

-- of two keys one is before the other, or they are the same
abbrev Ranked : Key → Key → Type 0
Ranked a b = IsBefore a b ⊎ ((a ≡ b) ⊎ IsBefore b a)

ranked : (a b : Key) → Ranked a b
ranked a b = elim (cases_order a.0 b.0) [
  | inl e ↦ elim (cases_order a.1 b.1) [
    | inl f ↦ inr (inl (ap₂ (λ (x y : ℕ). (x, y)) e f))
    | inr (inl lt) ↦ inl (inr (e, lt))
    | inr (inr gt) ↦ inr (inr (inr (sym e, gt)))
  ]
  | inr (inl lt) ↦ inl (inl lt)
  | inr (inr gt) ↦ inr (inr (inl gt))
]

-- where a key is not before a second, and that not before a third, it is not before the third
not_through : (a b c : Key) → (IsBefore a b → ⊥) → (IsBefore b c → ⊥) → IsBefore a c → ⊥
not_through a b c not_one not_two third = elim (ranked a b) [
  | inl less ↦ not_one less
  | inr (inl e) ↦ not_two (subst (λ (k : Key). IsBefore k c) e third)
  | inr (inr more) ↦ not_two (before_through b a c more third)
]

pub tx_order : IsStrictWeakOrder tx_before
tx_order = record {
  one_way = λ x y e.
      false_from_ne_true (tx_before y x) (λ back. not_itself (key x)
      (before_through (key x) (key y) (key x) (is_before (key x) (key y) e) (is_before (key y) (key x) back)));
  chain = λ x y z e f.
      false_from_ne_true (tx_before x z) (λ third. not_through (key x) (key y) (key z)
      (λ less. let t = before_is (key x) (key y) less in absurd cc)
      (λ less. let t = before_is (key y) (key z) less in absurd cc)
      (is_before (key x) (key z) third));
}
