-- How many candidates there are, and their ranges.
use Rattle.std.proofs.Common.{◌≡◌, ℕ, zero, suc, ◌+◌, ◌*◌, ◌%◌, ◌^◌, ◌<◌, ◌≤◌, List, [], ◌∷◌, ◌++◌, length, arith}
use Rattle.std.proofs.Common.{refl, ap, ◌∙◌}
use Rattle.std.proofs.Common.{add-one, length-append}
use Rattle.std.specs.List.{All}
use Rattle.std.proofs.lemmas.List.Elements.{All-push, All-append}
use Rattle.std.proofs.lemmas.Nat.{le-div, mul-le}
use Rattle.std.proofs.Math.Nat.{div-le_self}
use Rattle.sx_gen.specs.Drawing.{started_from, state_after, word_after, listed}
use Rattle.sx_gen.specs.Candidates.{limit_of, offer_at, offers_from, payment_at, payments_from, demo_txs}
use Rattle.sx_price.specs.Limits.{IsLimit}
use Rattle.sx_tx.specs.Transactions.{IsTx, IsTxList}
use Rattle.sx_tx.specs.declared.tx.Tx.{Tx}

pub length-listed : {X : Type 0} (f : ℕ → X) (count : ℕ) → length (listed f count) ≡ count
unfolding listed
length-listed f zero = refl
length-listed f (suc count) =
    length-append (listed f count) (f count ∷ []) ∙ ap (λ (n : ℕ). n + 1) (length-listed f count) ∙ add-one count

pub listed_all : {X : Type 0} (P : X → Type 0) (f : ℕ → X) (count : ℕ) → ((i : ℕ) → i < count → P (f i))
    → All P (listed f count)
unfolding listed
listed_all P f zero each = λ k d k<0. absurd (omega arith)
listed_all P f (suc count) each =
    All-push P (listed f count) (f count) (listed_all P f count (λ i below. each i (omega arith))) (each count
    (omega arith))

-- ---- ranges

pub limit_fits : (sell buy thousandths : ℕ) → sell < 8 → buy < 8 → 900 ≤ thousandths → thousandths ≤ 1100
    → IsLimit (limit_of sell buy thousandths)
limit_fits sell buy thousandths s b low high =
    let least : 2 ^ 27 * 900 ≤ (8 + sell) * 2 ^ 24 * thousandths =
    mul-le (2 ^ 27) 900 ((8 + sell) * 2 ^ 24) thousandths (omega arith) low in
    let most : (8 + sell) * 2 ^ 24 * thousandths ≤ 15 * 2 ^ 24 * 1100 =
    mul-le ((8 + sell) * 2 ^ 24) thousandths (15 * 2 ^ 24) 1100 (omega arith) high in
    let cut = div-le_self ((8 + sell) * 2 ^ 24 * thousandths) ((8 + buy) * 1000) in
    (le-div 1 ((8 + sell) * 2 ^ 24 * thousandths) ((8 + buy) * 1000) (omega arith) (omega arith), omega arith)

offer_fits : (state : List ℕ) (i : ℕ) → i < 4000 → IsTx (offer_at state i)
offer_fits state i below =
    let a = word_after state (4 * i + 0) in
    let b = word_after state (4 * i + 1) in
    let c = word_after state (4 * i + 2) in
    let d = word_after state (4 * i + 3) in
    let buy : (a % 8 + 1 + b % 7) % 8 < 8 = omega arith in
    record {
      account = omega arith;
      seq = (omega arith, omega arith);
      kind = (
        (
          omega arith,
          omega arith,
          limit_fits (a % 8) ((a % 8 + 1 + b % 7) % 8) (900 + d % 201) (omega arith) buy
              (omega arith) (omega arith),
        ),
        (omega arith, omega arith),
      );
    }

payment_fits : (state : List ℕ) (i : ℕ) → i < 1000 → IsTx (payment_at state i)
payment_fits state i below = record {
  account = omega arith;
  seq = (omega arith, omega arith);
  kind = (omega arith, omega arith, (omega arith, omega arith));
}

-- ---- the candidates

pub all_candidates : (number : ℕ) → length (demo_txs number) ≡ 5000
unfolding demo_txs
all_candidates number =
    length-append (offers_from (started_from number) 4000) (payments_from (state_after 16000 (started_from number))
    1000)
    ∙ rw (
      length-listed (offer_at (started_from number)) 4000,
      length-listed (payment_at (state_after 16000 (started_from number))) 1000,
    ) refl

pub draws_in_range : (number : ℕ) → All IsTx (demo_txs number)
unfolding demo_txs
draws_in_range number = All-append IsTx _ _
    (listed_all IsTx (offer_at (started_from number)) 4000 (offer_fits (started_from number)))
    (listed_all IsTx (payment_at (state_after 16000 (started_from number))) 1000
    (payment_fits (state_after 16000 (started_from number))))

pub are_candidates : (number : ℕ) → IsTxList (demo_txs number)
are_candidates number = record { few = omega (arith, all_candidates number); each = draws_in_range number }

-- the offers and then the payments
pub drawn : (number : ℕ) (start later : List ℕ) (none offers all : List Tx) → start ≡ started_from number → none ≡ []
    → offers ≡ none ++ offers_from start 4000 → later ≡ state_after 16000 start
    → all ≡ offers ++ payments_from later 1000 → all ≡ demo_txs number
unfolding demo_txs
drawn number start later none offers all s n o l a = rw (a, l, o, n, s) refl
