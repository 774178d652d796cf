-- The map of the sequence numbers that an account uses, bit by bit, and with one transaction more.
use Rattle.std.proofs.Common.{◌≡◌, ◌≢◌, ℕ, zero, suc, ◌+◌, ◌-◌, ◌*◌, ◌^◌, ◌<◌, Bool, true, false, cond, ◌==◌, ◌&&◌, ◌||◌}
use Rattle.std.proofs.Common.{List, [], ◌∷◌, ◌++◌, All, inl, inr, refl, sym, ap, ap₂, ◌∙◌, arith}
use Rattle.std.specs.Int.{bit_at, IsBitSet}
use Rattle.std.specs.Int.RustNames.{bit_or}
use Rattle.std.proofs.lemmas.Bool.{and_parts, cases_Bool, cases_eq, cases_lt, eq-eqb, eqb-true, ne_eqb, or_cases}
use Rattle.std.proofs.lemmas.List.Elements.{All-head, All-tail}
use Rattle.std.proofs.lemmas.List.Folds.{list_any-append}
use Rattle.std.proofs.lemmas.Nat.{or_lt}
use Rattle.std.proofs.lemmas.Nat.Bits.{and_pow, bit_at-lt, bit_at-pow_other, bit_at-pow_same, bit_at_cat_high}
use Rattle.std.proofs.lemmas.Nat.Bits.{bit_at_cat_low, bit_at_or, same_from_bits_below}
use Rattle.std.proofs.Math.Nat.{pow-suc, zero-mul}
use Rattle.std.proofs.Math.Pow.{pow-lt}
use Rattle.sx_ledger.specs.Body.{used_below, used_numbers, uses}
use Rattle.sx_tx.specs.declared.tx.Tx.{Tx}
use Rattle.sx_tx.specs.Transactions.{IsTx}

-- ---- one number more

bit_more : (word seq last i : ℕ) → last < seq
    → bit_at (bit_or word (2 ^ (seq - last - 1))) i ≡ cond (seq == last + 1 + i) 1 (bit_at word i)
bit_more word seq last i above =
    let both = bit_at_or word (2 ^ (seq - last - 1)) i in
    elim (cases_eq (seq - last - 1) i) [
      | inl same ↦
          let set : bit_at (2 ^ (seq - last - 1)) i ≡ 1 =
          ap (λ (k : ℕ). bit_at (2 ^ (seq - last - 1)) k) (sym same) ∙ bit_at-pow_same (seq - last - 1) in
          rw (eq-eqb seq (last + 1 + i) (omega arith)) (omega (arith, both, set, bit_at-lt word i))
      | inr other ↦
          let unset : bit_at (2 ^ (seq - last - 1)) i ≡ 0 =
          bit_at-pow_other (seq - last - 1) i (λ e. other (sym e)) in
          rw (ne_eqb seq (last + 1 + i) (λ e. other (omega arith))) (omega (arith, both, unset))
    ]

-- ---- the whole word

used_below-lt : (txs : List Tx) (account last n : ℕ) → used_below txs account last n < 2 ^ n
used_below-lt txs account last zero = omega arith
used_below-lt txs account last (suc n) =
    let rest : used_below txs account last n < 2 ^ n = used_below-lt txs account last n in
    elim (cases_Bool (uses txs account (last + 1 + n))) [
      | inl is ↦ rw is (omega (arith, pow-suc 2 n))
      | inr isnt ↦ rw isnt (omega (arith, pow-suc 2 n))
    ]

as_product : (used : Bool) (n rest : ℕ) → cond used (2 ^ n) 0 + rest ≡ cond used 1 0 * 2 ^ n + rest
as_product true n rest = omega arith
as_product false n rest = omega arith

lowest : (used : Bool) (k : ℕ) → k ≡ 0 → bit_at (cond used 1 0) k ≡ cond used 1 0
lowest true k e = rw e refl
lowest false k e = rw e refl

used_bit : (txs : List Tx) (account last n i : ℕ) → i < n
    → bit_at (used_below txs account last n) i ≡ cond (uses txs account (last + 1 + i)) 1 0
used_bit txs account last zero i lt = absurd (omega arith)
used_bit txs account last (suc n) i lt =
    let used = uses txs account (last + 1 + n) in
    let rest = used_below txs account last n in
    let split : bit_at (used_below txs account last (suc n)) i ≡ bit_at (cond used 1 0 * 2 ^ n + rest) i =
    ap (λ (w : ℕ). bit_at w i) (as_product used n rest) in
    elim (cases_lt i n) [
      | inl below ↦ split ∙ bit_at_cat_low (cond used 1 0) n rest i below ∙ used_bit txs account last n i below
      | inr at ↦
          let same : n ≡ i = omega arith in
          split ∙ bit_at_cat_high (cond used 1 0) n rest i (used_below-lt txs account last n) at
          ∙ lowest used (i - n) (omega arith) ∙ ap (λ (k : ℕ). cond (uses txs account (last + 1 + k)) 1 0) same
    ]

pub word_is : (word : ℕ) (txs : List Tx) (account last : ℕ) → word < 2 ^ 64
    → ((i : ℕ) → i < 64 → bit_at word i ≡ cond (uses txs account (last + 1 + i)) 1 0)
    → word ≡ used_numbers txs account last
word_is word txs account last fits bits =
    same_from_bits_below 64 word (used_below txs account last 64) fits (used_below-lt txs account last 64)
    (λ i lt. bits i lt ∙ sym (used_bit txs account last 64 i lt))

-- ---- with one transaction more

module _ (before : List Tx) (tx : Tx) (id last : ℕ) where
  uses_more : (seq : ℕ) → uses (before ++ tx ∷ []) id seq
      ≡ (uses before id seq || ((tx.account.0 == id) && (tx.seq == seq)))
  uses_more seq =
      list_any-append (λ (t : Tx). (t.account.0 == id) && (t.seq == seq)) before (tx ∷ [])
      ∙ ap (λ (b : Bool). uses before id seq || b) (alone ((tx.account.0 == id) && (tx.seq == seq)))
    where
      alone : (b : Bool) → (b || false) ≡ b
      alone true = refl
      alone false = refl

  -- a transaction of another account changes nothing
  pub not_marked : tx.account.0 ≢ id → used_numbers before id last ≡ used_numbers (before ++ tx ∷ []) id last
  not_marked other = below 64
    where
      same : (seq : ℕ) → uses before id seq ≡ uses (before ++ tx ∷ []) id seq
      same seq = sym (uses_more seq ∙ rw (ne_eqb tx.account.0 id other) (neither (uses before id seq)))
        where
          neither : (b : Bool) → (b || false) ≡ b
          neither true = refl
          neither false = refl

      below : (n : ℕ) → used_below before id last n ≡ used_below (before ++ tx ∷ []) id last n
      below zero = refl
      below (suc n) =
          ap₂ (λ (b : Bool) (rest : ℕ). cond b (2 ^ n) 0 + rest) (same (last + 1 + n)) (below n)

  -- one of the account sets a bit
  pub marked : tx.account.0 ≡ id → last < tx.seq → tx.seq - last - 1 < 64
      → bit_or (used_numbers before id last) (2 ^ (tx.seq - last - 1)) ≡ used_numbers (before ++ tx ∷ []) id last
  marked own above within =
      word_is (bit_or (used_numbers before id last) (2 ^ (tx.seq - last - 1))) (before ++ tx ∷ []) id last
      (or_lt 64 (used_numbers before id last) (2 ^ (tx.seq - last - 1)) (used_below-lt before id last 64)
      (pow-lt within))
      (λ i lt.
      bit_more (used_numbers before id last) tx.seq last i above
      ∙ ap (λ (b : ℕ). cond (tx.seq == last + 1 + i) 1 b) (used_bit before id last 64 i lt)
      ∙ either (uses before id (last + 1 + i)) (tx.seq == last + 1 + i)
      ∙ ap (λ (b : Bool). cond (uses before id (last + 1 + i) || b) 1 0) (sym (here (tx.seq == last + 1 + i)))
      ∙ ap (λ (b : Bool). cond b 1 0) (sym (uses_more (last + 1 + i))))
    where
      here : (b : Bool) → ((tx.account.0 == id) && b) ≡ b
      here b = rw (eq-eqb tx.account.0 id own) refl

      either : (was now : Bool) → ◌≡◌ {A = ℕ} (cond now 1 (cond was 1 0)) (cond (was || now) 1 0)
      either true true = refl
      either true false = refl
      either false true = refl
      either false false = refl

-- ---- the numbers are in range

pub set_is : (map i : ℕ) → IsBitSet map i → bit_at map i ≡ 1
set_is map i set =
    elim (cases_lt (bit_at map i) 1) [
      | inl lt ↦
          let none : bit_at map i ≡ 0 = omega arith in
          absurd (set (and_pow map i ∙ ap (λ (b : ℕ). b * 2 ^ i) none ∙ zero-mul (2 ^ i)))
      | inr le ↦ omega (arith, bit_at-lt map i)
    ]

cond_one : (b : Bool) → ◌≡◌ {A = ℕ} (cond b 1 0) 1 → b ≡ true
cond_one true e = refl
cond_one false e = absurd (omega arith)

used_in_range : (txs : List Tx) (id seq : ℕ) → All IsTx txs → uses txs id seq ≡ true → seq < 2 ^ 63
used_in_range [] id seq ranges used = absurd cc
used_in_range (tx ∷ txs) id seq ranges used =
    elim (or_cases ((tx.account.0 == id) && (tx.seq == seq)) (uses txs id seq) used) [
      | inl here ↦
          let same = eqb-true tx.seq seq (and_parts (tx.account.0 == id) (tx.seq == seq) here).1 in
          omega (arith, (All-head IsTx tx txs ranges).seq)
      | inr there ↦ used_in_range txs id seq (All-tail IsTx tx txs ranges) there
    ]

pub numbers_in_range : (txs : List Tx) (id last i : ℕ) → All IsTx txs → i < 64 → IsBitSet (used_numbers txs id last) i
    → last + 1 + i < 2 ^ 63
numbers_in_range txs id last i ranges lt set =
    used_in_range txs id (last + 1 + i) ranges
    (cond_one (uses txs id (last + 1 + i))
    (sym (used_bit txs id last 64 i lt) ∙ set_is (used_numbers txs id last) i set))
