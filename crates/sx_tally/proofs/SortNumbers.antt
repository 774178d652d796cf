-- The two numbers of an offer stand in the order of keys.
use Rattle.std.proofs.Common.{◌≡◌, ℕ, ◌+◌, ◌*◌, ◌^◌, ◌<◌, List, get_or, refl, ap, ap₂, ◌∙◌, arith}
use Rattle.std.specs.Prelude.{All}
use Rattle.std.specs.Cmp.{nat_cmp_is}
use Rattle.std.specs.List.Sorted.{IsSortedByKey}
use Rattle.std.specs.declared.cmp.Ordering.{Ordering}
use Rattle.std.specs.declared.cmp.Ordering.TheVariants.{Less, Equal, Greater}
use Rattle.std.specs.Ordering.{is_lt, nat_cmp, ordering_then}
use Rattle.std.proofs.Math.Nat.{mul-le-mul_right}
use Rattle.std.proofs.lemmas.Cmp.{by_ranked, ranked}
use Rattle.sx_tally.specs.SortNumbers.{IsInRange, sort_numbers}
use Rattle.sx_ledger.specs.declared.offer.Offer.{Offer}
use Rattle.sx_ledger.specs.Order.{key_cmp, key_of}

-- ---- numbers of two parts

-- a greater first part makes a greater number
first_decides : (m a b c d : ℕ) → b < m → a < c → a * m + b < c * m + d
first_decides m a b c d small less = omega (arith, mul-le-mul_right m less)

-- numbers of two parts compare by the first part, and then by the second
parts_cmp : (m a b c d : ℕ) → b < m → d < m
    → ordering_then (nat_cmp a c) (nat_cmp b d) ≡ nat_cmp (a * m + b) (c * m + d)
parts_cmp m a b c d small too =
    by_ranked (a < c) (a ≡ c) (c < a) (nat_cmp a c) (ranked a c (nat_cmp a c) refl)
    (λ is less. ap (λ (o : Ordering). ordering_then o (nat_cmp b d)) is
    ∙ nat_cmp_is (a * m + b) (c * m + d) Less (first_decides m a b c d small less))
    (λ is same. ap (λ (o : Ordering). ordering_then o (nat_cmp b d)) is
    ∙ by_ranked (b < d) (b ≡ d) (d < b) (nat_cmp b d) (ranked b d (nat_cmp b d) refl)
    (λ then less. then ∙ nat_cmp_is (a * m + b) (c * m + d) Less (omega (arith, ap (λ k. k * m) same)))
    (λ then alike. then ∙ nat_cmp_is (a * m + b) (c * m + d) Equal (omega (arith, ap (λ k. k * m) same)))
    (λ then more. then ∙ nat_cmp_is (a * m + b) (c * m + d) Greater (omega (arith, ap (λ k. k * m) same))))
    (λ is more. ap (λ (o : Ordering). ordering_then o (nat_cmp b d)) is
    ∙ nat_cmp_is (a * m + b) (c * m + d) Greater (first_decides m c d a b too more))

-- ---- the numbers of an offer

-- one after the other, in whatever groups
grouped : (sell buy limit account seq : Ordering)
    → ordering_then sell (ordering_then buy (ordering_then limit (ordering_then account (ordering_then seq Equal))))
    ≡ ordering_then (ordering_then (ordering_then sell buy) limit) (ordering_then account seq)
grouped Less buy limit account seq = refl
grouped Greater buy limit account seq = refl
grouped Equal Less limit account seq = refl
grouped Equal Greater limit account seq = refl
grouped Equal Equal Less account seq = refl
grouped Equal Equal Greater account seq = refl
grouped Equal Equal Equal Less seq = refl
grouped Equal Equal Equal Greater seq = refl
grouped Equal Equal Equal Equal Less = refl
grouped Equal Equal Equal Equal Equal = refl
grouped Equal Equal Equal Equal Greater = refl

-- pairs of numbers compare by the first, and then by the second
abbrev pub numbers_cmp : ℕ × ℕ → ℕ × ℕ → Ordering
numbers_cmp one other = ordering_then (nat_cmp one.0 other.0) (nat_cmp one.1 other.1)

-- the two numbers of offers compare as their keys do
key_cmp_numbers : (one other : Offer) → IsInRange one → IsInRange other
    → key_cmp (key_of one) (key_of other) ≡ numbers_cmp (sort_numbers one) (sort_numbers other)
key_cmp_numbers one other here there =
    grouped (nat_cmp one.sell other.sell) (nat_cmp one.buy other.buy) (nat_cmp one.limit other.limit)
    (nat_cmp one.account.0 other.account.0) (nat_cmp one.seq other.seq)
    ∙ ap₂ ordering_then
    (ap (λ (o : Ordering). ordering_then o (nat_cmp one.limit other.limit))
    (parts_cmp (2 ^ 8) one.sell one.buy other.sell other.buy here.buy there.buy)
    ∙ parts_cmp (2 ^ 64) (one.sell * 2 ^ 8 + one.buy) one.limit (other.sell * 2 ^ 8 + other.buy) other.limit here.limit
    there.limit)
    (parts_cmp (2 ^ 64) one.account.0 one.seq other.account.0 other.seq here.seq there.seq)

-- offers in order of their two numbers are in order of their keys
pub sorted_by_key : (offers : List Offer) → All IsInRange offers → IsSortedByKey sort_numbers numbers_cmp offers
    → IsSortedByKey key_of key_cmp offers
sorted_by_key offers ranges sorted k d low high =
    ap is_lt (key_cmp_numbers (get_or offers (k + 1) d) (get_or offers k d) (ranges (k + 1) d high)
    (ranges k d (omega arith)))
    ∙ sorted k d low high
