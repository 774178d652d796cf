-- The rounds of a search.
use Rattle.std.proofs.Common.{◌≡◌, ℕ, zero, suc, ◌+◌, ◌-◌, ◌<◌, ◌≤◌, max, nat_lt, true, false, List, refl, sym, ap}
use Rattle.std.proofs.Common.{◌∙◌, arith}
use Rattle.std.proofs.lemmas.Bool.{cond-false, cond-true, le-ltb, lt-ltb}
use Rattle.sx_curve.specs.declared.quote.Quote.{Quote}
use Rattle.sx_curve.specs.Search.{Held, after_trial, goes_on, held_after, trial_prices}
use Rattle.sx_curve.specs.Demand.{imbalance}

-- one round more
pub round_more : (quotes : List Quote) (j left : ℕ) (held : Held) → 0 < left → goes_on quotes j held ≡ true
    → held_after quotes j (left - 1) (after_trial quotes j held) ≡ held_after quotes j left held
unfolding held_after
round_more quotes j zero held some on = absurd (omega arith)
round_more quotes j (suc left) held some on =
    let less : suc left - 1 ≡ left = omega arith in
    ap (λ (n : ℕ). held_after quotes j n (after_trial quotes j held)) less
    ∙ sym (cond-true (goes_on quotes j held) (held_after quotes j left (after_trial quotes j held)) held on)

-- the search has ended
pub rounds_end : (quotes : List Quote) (j left : ℕ) (held : Held) → goes_on quotes j held ≡ false
    → held_after quotes j left held ≡ held
unfolding held_after
rounds_end quotes j zero held off = refl
rounds_end quotes j (suc left) held off =
    cond-false (goes_on quotes j held) (held_after quotes j left (after_trial quotes j held)) held off

pub no_rounds : (quotes : List Quote) (j : ℕ) (held : Held) → held_after quotes j 0 held ≡ held
unfolding held_after
no_rounds quotes j held = refl

-- ---- one trial

-- a trial with less imbalance is held
pub trial_held : (quotes : List Quote) (j : ℕ) (held : Held) (prices : List ℕ) (exponent off held_off : ℕ)
    → prices ≡ trial_prices quotes j held → exponent ≡ max 1 (held.exponent - 1)
    → off ≡ imbalance quotes prices j → held_off ≡ imbalance quotes held.prices j → off < held_off
    → record { prices = prices; exponent = exponent } ≡ after_trial quotes j held
unfolding after_trial
trial_held quotes j held prices exponent off held_off prices_are exponent_is off_is held_off_is less =
    let tried : off ≡ imbalance quotes (trial_prices quotes j held) j =
    off_is ∙ ap (λ (p : List ℕ). imbalance quotes p j) prices_are in
    let test : nat_lt (imbalance quotes (trial_prices quotes j held) j) (imbalance quotes held.prices j) ≡ true =
    lt-ltb _ _ (omega arith) in
    let to : Held = record { prices = prices; exponent = exponent } in
    let same : to ≡ record { prices = trial_prices quotes j held; exponent = max 1 (held.exponent - 1) } =
    λ i. record { prices = prices_are i; exponent = exponent_is i } in
    same ∙ sym (cond-true (nat_lt (imbalance quotes (trial_prices quotes j held) j) (imbalance quotes held.prices j))
    (record { prices = trial_prices quotes j held; exponent = max 1 (held.exponent - 1) })
    (record { prices = held.prices; exponent = held.exponent + 1 }) test)

-- any other is given up
pub trial_given_up : (quotes : List Quote) (j : ℕ) (held : Held) (prices : List ℕ) (off held_off : ℕ)
    → prices ≡ trial_prices quotes j held
    → off ≡ imbalance quotes prices j → held_off ≡ imbalance quotes held.prices j → held_off ≤ off
    → record { prices = held.prices; exponent = held.exponent + 1 } ≡ after_trial quotes j held
unfolding after_trial
trial_given_up quotes j held prices off held_off prices_are off_is held_off_is more =
    let tried : off ≡ imbalance quotes (trial_prices quotes j held) j =
    off_is ∙ ap (λ (p : List ℕ). imbalance quotes p j) prices_are in
    let test : nat_lt (imbalance quotes (trial_prices quotes j held) j) (imbalance quotes held.prices j) ≡ false =
    le-ltb _ _ (omega arith) in
    sym (cond-false (nat_lt (imbalance quotes (trial_prices quotes j held) j) (imbalance quotes held.prices j))
    (record { prices = trial_prices quotes j held; exponent = max 1 (held.exponent - 1) })
    (record { prices = held.prices; exponent = held.exponent + 1 }) test)
