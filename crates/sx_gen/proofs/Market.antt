-- The state before the demonstration keeps what a ledger keeps.
use Rattle.std.proofs.Common.{◌≡◌, ℕ, zero, suc, ◌+◌, ◌*◌, ◌^◌, ◌<◌, ◌≤◌, List, [], ◌∷◌, ◌++◌, map, arith, refl, ap}
use Rattle.std.proofs.Common.{sym, ◌∙◌}
use Rattle.std.proofs.Common.{get_or, replicate, subst}
use Rattle.std.specs.List.{sum_by}
use Rattle.std.specs.List.Sorted.{IsStrictlyIncreasing}
use Rattle.std.proofs.lemmas.List.{get_or-replicate, map-append}
use Rattle.std.proofs.lemmas.List.Elements.{All-replicate}
use Rattle.std.proofs.lemmas.List.Sums.{sum_by_push}
use Rattle.std.proofs.lemmas.Grind.{common_steps}
use Rattle.sx_gen.specs.Drawing.{listed}
use Rattle.sx_gen.specs.State.{account_at, accounts_of, demo_parts}
use Rattle.sx_gen.proofs.Ranges.{length-listed, listed_all}
use Rattle.sx_base.specs.Ranges.{most_amount}
use Rattle.sx_price.specs.Limits.{IsPrice}
use Rattle.sx_ledger.specs.declared.account.Account.{Account}
use Rattle.sx_ledger.specs.declared.offer.Offer.{Offer}
use Rattle.sx_ledger.specs.declared.parts.Parts.{Parts}
use Rattle.sx_ledger.specs.Ledger.{IsAccount, IsLedger, balance_at, ids}

-- ---- lists that are made place by place

pub map-listed : {X Y : Type 0} (g : X → Y) (f : ℕ → X) (count : ℕ)
    → map g (listed f count) ≡ listed (λ i. g (f i)) count
unfolding listed
map-listed g f zero = refl
map-listed {X} {Y} g f (suc count) =
    map-append g (listed f count) (f count ∷ []) ∙ ap (λ (ys : List Y). ys ++ g (f count) ∷ []) (map-listed g f count)

pub listed_at : (f : ℕ → ℕ) (count k : ℕ) → k < count → get_or (listed f count) k 0 ≡ f k
unfolding listed
listed_at f zero k below = absurd (omega arith)
listed_at f (suc count) k below = grind (arith, common_steps, length-listed f count, listed_at f count k)

-- ---- the accounts

next_numbers : (count : ℕ) → IsStrictlyIncreasing (listed (λ i. 1 + i) count)
next_numbers count k within =
    let many = length-listed (λ (i : ℕ). 1 + i) count in
    omega (
      arith,
      listed_at (λ i. 1 + i) count k (omega (arith, many)),
      listed_at (λ i. 1 + i) count (k + 1) (omega (arith, many)),
    )

rising : (count : ℕ) → IsStrictlyIncreasing (ids (accounts_of count))
rising count = subst IsStrictlyIncreasing (sym (map-listed (λ (account : Account). account.id.0) account_at count))
    (next_numbers count)

balance : (asset i : ℕ) → asset < 8 → balance_at asset (account_at i) ≡ 1000000
balance asset i below = get_or-replicate 8 asset 1000000 0 below

held : (asset count : ℕ) → asset < 8 → sum_by (balance_at asset) (accounts_of count) ≡ count * 1000000
unfolding listed
held asset zero below = refl
held asset (suc count) below =
    sum_by_push (balance_at asset) (accounts_of count) (account_at count) ∙
    omega (arith, held asset count below, balance asset count below)

account_fits : (i : ℕ) → i < 1000 → IsAccount 1 8 (account_at i)
account_fits i below = record {
  id = omega arith;
  window = record { last = omega arith; fits = omega arith; map = refl };
  balances = refl;
  in_range = All-replicate (λ units. units ≤ most_amount) 8 1000000 (omega arith);
}

pub is_ledger : IsLedger demo_parts
unfolding demo_parts
is_ledger = record {
  some_version = omega arith;
  few_versions = omega arith;
  height = omega arith;
  some_asset = omega arith;
  few_assets = omega arith;
  prices = All-replicate IsPrice 8 (2 ^ 24) (omega arith, omega arith);
  one_rounding = refl;
  rounding = All-replicate (λ units. units ≤ most_amount) 8 0 (omega arith);
  few_accounts = omega (arith, length-listed account_at 1000);
  accounts = listed_all (IsAccount 1 8) account_at 1000 account_fits;
  by_id = rising 1000;
  few_offers = omega arith;
  offers = λ k d none. absurd (omega arith);
  by_key = refl;
  totals = λ asset below. rw (held asset 1000 below, get_or-replicate {A = ℕ} 8 asset 0 0 below) (omega arith);
}

-- the parts, one by one
pub made : (prices rounding : List ℕ) (accounts : List Account) (offers : List Offer) → prices ≡ replicate 8 (2 ^ 24)
    → rounding ≡ replicate 8 0 → accounts ≡ accounts_of 1000 → offers ≡ []
    → record { version = 1; height = 0; prices = prices; rounding = rounding; accounts = accounts; offers = offers }
    ≡ demo_parts
unfolding demo_parts
made prices rounding accounts offers p r a o = rw (p, r, a, o) refl

pub made_is_ledger : (parts : Parts) → parts ≡ demo_parts → IsLedger parts
made_is_ledger parts is = subst IsLedger (sym is) is_ledger
