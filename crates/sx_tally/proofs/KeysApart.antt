-- The keys of offers in order differ.
use Rattle.std.proofs.Common.{◌≡◌, ◌≢◌, ℕ, zero, suc, true, false, List, [], ◌∷◌, Option, Some, refl, sym, ap, ◌∙◌}
use Rattle.std.specs.Prelude.{slice_get}
use Rattle.std.proofs.lemmas.Bool.{and_parts, false_from_ne_true}
use Rattle.std.proofs.lemmas.Option.{none-some, same_Some}
use Rattle.sx_bytes.specs.Grammar.{in_order, may_follow}
use Rattle.sx_ledger.specs.declared.key.Key.{Key}
use Rattle.sx_ledger.specs.Order.{key_before, same_key}
use Rattle.sx_ledger.proofs.KeyOrder.{before_both, before_differs, same_key_from, same_key_is}

-- a key stands before each behind it
pub before_later : (k : Key) (ks : List Key) (place : ℕ) (key : Key) → in_order key_before (Some k) ks ≡ true
    → slice_get ks place ≡ Some key → key_before k key ≡ true
before_later k [] place key ordered there = absurd (none-some key there)
before_later k (first ∷ ks) zero key ordered there =
    ap (key_before k) (sym (same_Some first key there)) ∙
    (and_parts (key_before k first) (in_order key_before (Some first) ks) ordered).0
before_later k (first ∷ ks) (suc place) key ordered there =
    let both = and_parts (key_before k first) (in_order key_before (Some first) ks) ordered in
    before_both k first key both.0 (before_later first ks place key both.1 there)

-- keys at two places differ
pub keys_apart : (previous : Option Key) (ks : List Key) (p q : ℕ) (one other : Key)
    → in_order key_before previous ks ≡ true → slice_get ks p ≡ Some one → slice_get ks q ≡ Some other → p ≢ q
    → same_key one other ≡ false
keys_apart previous [] p q one other ordered here there differ = absurd (none-some one here)
keys_apart previous (k ∷ ks) zero zero one other ordered here there differ = absurd (differ refl)
keys_apart previous (k ∷ ks) zero (suc q) one other ordered here there differ =
    let both = and_parts (may_follow key_before previous k) (in_order key_before (Some k) ks) ordered in
    let before : key_before one other ≡ true =
    ap (λ (x : Key). key_before x other) (sym (same_Some k one here)) ∙ before_later k ks q other both.1 there in
    false_from_ne_true (same_key one other) (λ e.
    let differs : same_key other one ≡ false = before_differs one other before in
    let same : same_key other one ≡ true = same_key_from other one (sym (same_key_is one other e)) in
    absurd cc)
keys_apart previous (k ∷ ks) (suc p) zero one other ordered here there differ =
    let both = and_parts (may_follow key_before previous k) (in_order key_before (Some k) ks) ordered in
    let before : key_before other one ≡ true =
    ap (λ (x : Key). key_before x one) (sym (same_Some k other there)) ∙ before_later k ks p one both.1 here in
    before_differs other one before
keys_apart previous (k ∷ ks) (suc p) (suc q) one other ordered here there differ =
    let both = and_parts (may_follow key_before previous k) (in_order key_before (Some k) ks) ordered in
    keys_apart (Some k) ks p q one other both.1 here there (λ e. differ (ap suc e))
