-- The order of keys: total, what the derived comparisons give, and which keys are the same.
use Rattle.std.proofs.Common.{◌≡◌, ◌≢◌, ℕ, true, false, List, [], ◌∷◌, refl, sym, ap, ◌∙◌}
use Rattle.std.specs.Cmp.{IsTotalOrder}
use Rattle.std.specs.Cmp.Lexicographic.{bytes_decides, texts_ties}
use Rattle.std.specs.declared.cmp.Ordering.{Ordering}
use Rattle.std.specs.declared.cmp.Ordering.TheVariants.{Less, Equal, Greater}
use Rattle.std.specs.Ordering.{nat_cmp, is_eq, is_lt, ordering_reverse, ordering_then}
use Rattle.std.proofs.lemmas.Bool.{false_from_ne_true}
use Rattle.std.proofs.lemmas.Cmp.{nat_list_cmp_total, on_total, tied_itself}
use Rattle.sx_ledger.specs.declared.key.Key.{Key}
use Rattle.sx_ledger.specs.contracts.key.KeyOrd.TheImpl as derived
use Rattle.sx_ledger.specs.Order.{numbers_of, key_before, key_cmp, same_key}

pub key_cmp_total : IsTotalOrder key_cmp
key_cmp_total = on_total numbers_of nat_list_cmp_total

then_equal : (o : Ordering) → o ≡ ordering_then o Equal
then_equal Less = refl
then_equal Equal = refl
then_equal Greater = refl

-- the derived comparison
pub key_cmp_derived : (one other : Key) → derived.ghosts.cmp one other ≡ key_cmp one other
key_cmp_derived one other =
    ap (λ (last : Ordering). ordering_then (nat_cmp one.sell other.sell) (ordering_then (nat_cmp one.buy other.buy)
    (ordering_then (nat_cmp one.limit other.limit) (ordering_then (nat_cmp one.account.0 other.account.0) last))))
    (then_equal (nat_cmp one.seq other.seq))

-- the numbers of a key say which it is
key_from : List ℕ → Key
key_from (sell ∷ buy ∷ limit ∷ account ∷ seq ∷ []) =
    record { sell = sell; buy = buy; limit = limit; account = record { 0 = account }; seq = seq }
key_from _ = record { sell = 0; buy = 0; limit = 0; account = record { 0 = 0 }; seq = 0 }

pub same_key_is : (one other : Key) → same_key one other ≡ true → one ≡ other
unfolding key_from
same_key_is one other e = ap key_from ((bytes_decides (numbers_of one) (numbers_of other)).0 e)

pub same_key_from : (one other : Key) → one ≡ other → same_key one other ≡ true
same_key_from one other e = (bytes_decides (numbers_of one) (numbers_of other)).1 (ap numbers_of e)

pub equal_is : (one other : Key) → key_cmp one other ≡ Equal → one ≡ other
equal_is one other e = same_key_is one other (texts_ties (numbers_of one) (numbers_of other) ∙ ap is_eq e)

pub equal_from : (one other : Key) → one ≡ other → key_cmp one other ≡ Equal
equal_from one other e = ap (key_cmp one) (sym e) ∙ tied_itself key_cmp_total one

-- ---- one key before another

is_less : (o : Ordering) → is_lt o ≡ true → o ≡ Less
is_less Less e = refl
is_less Equal e = absurd cc
is_less Greater e = absurd cc

pub before_both : (x y z : Key) → key_before x y ≡ true → key_before y z ≡ true → key_before x z ≡ true
before_both x y z first second =
    ap is_lt (key_cmp_total.trans x y z (is_less (key_cmp x y) first) (is_less (key_cmp y z) second))

before_itself : (x : Key) → key_before x x ≡ true → ⊥
before_itself x before = let less = is_less (key_cmp x x) before in let tied = tied_itself key_cmp_total x in cc

pub before_differs : (x y : Key) → key_before x y ≡ true → same_key y x ≡ false
before_differs x y before =
    false_from_ne_true (same_key y x) (λ e. before_itself x (ap (key_before x) (sym (same_key_is y x e)) ∙ before))

swapped : (o back : Ordering) → o ≡ ordering_reverse back → o ≢ Equal → is_lt back ≡ false → is_lt o ≡ true
swapped Less back e other not_back = refl
swapped Equal back e other not_back = absurd (other refl)
swapped Greater Less e other not_back = absurd cc
swapped Greater Equal e other not_back = absurd cc
swapped Greater Greater e other not_back = absurd cc

-- of two keys that differ, one stands before the other
pub before_or_after : (new key : Key) → (key ≡ new → ⊥) → key_before new key ≡ false → key_before key new ≡ true
before_or_after new key differ not_before =
    swapped (key_cmp key new) (key_cmp new key) (key_cmp_total.antisymm key new) (λ e. differ (equal_is key new e))
    not_before
