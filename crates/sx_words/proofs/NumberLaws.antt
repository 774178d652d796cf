-- Numbers in plain decimal.
use Rattle.std.proofs.Common.{◌≡◌, ◌≢◌, ℕ, zero, suc, ◌^◌, ◌<◌, ◌≤◌, ◌&&◌, Bool, true, false, [], ◌∷◌, length, get_or}
use Rattle.std.proofs.Common.{Result, Ok, Err, Some, None, nat_le, refl, sym, ap, ◌∙◌, arith, if◌then◌else◌}
use Rattle.std.proofs.lemmas.Bool.Decides.{nat_tests}
use Rattle.std.proofs.lemmas.Fmt.{decimal-digits_value, decimal_nonempty, digits_decimal, digits_value-decimal}
use Rattle.std.proofs.lemmas.Fmt.{first_decimal}
use Rattle.std.proofs.lemmas.Fmt.{length-decimal-le}
use Rattle.std.proofs.lemmas.Str.Parse.{IsNumeralModel, numerals_by_value, tells_all_ascii_digits, not_in_digits}
use Rattle.std.proofs.lemmas.Str.Parse.{parse_plain}
use Rattle.std.specs.Fmt.{decimal}
use Rattle.std.specs.Str.{all_ascii_digits}
use Rattle.std.specs.Str.Parse.{ParsesUnsigned, digits_value}
use Rattle.sx_words.specs.Numbers.{Text, is_numeral, number_in}
use Rattle.sx_words.specs.Laws.{SpellsOneWay}

pub model : IsNumeralModel (λ digits. all_ascii_digits digits ≡ true) (digits_value 10)
model = numerals_by_value _ tells_all_ascii_digits

-- what a numeral is
pub numeral_then : (text : Text) → is_numeral text ≡ true → (all_ascii_digits text ≡ true) × (0 < length text)
    × (get_or text 0 0 ≡ 48 → length text ≤ 1)
numeral_then [] is = absurd (cc)
numeral_then (digit ∷ []) is = (is, omega arith, λ e. omega arith)
numeral_then (digit ∷ next ∷ rest) is = grind (arith, nat_tests)

pub numeral_when : (text : Text) → all_ascii_digits text ≡ true → 0 < length text
    → (get_or text 0 0 ≡ 48 → length text ≤ 1) → is_numeral text ≡ true
numeral_when [] digits some lead = absurd (omega arith)
numeral_when (digit ∷ []) digits some lead = digits
numeral_when (digit ∷ next ∷ rest) digits some lead = grind (arith, nat_tests)

pub number_some : (least most : ℕ) (text : Text) → is_numeral text ≡ true → least ≤ digits_value 10 text
    → digits_value 10 text ≤ most → number_in least most text ≡ Some (digits_value 10 text)
unfolding number_in
number_some least most text numeral low high = grind (arith, nat_tests)

pub number_none : (least most : ℕ) (text : Text)
    → (is_numeral text ≡ true → least ≤ digits_value 10 text → digits_value 10 text ≤ most → ⊥)
    → number_in least most text ≡ None
unfolding number_in
number_none least most text not = grind (arith, nat_tests)

taken : (a b c : Bool) (x n : ℕ) → (if a && (b && c) then Some x else None) ≡ Some n
    → (a ≡ true) × (b ≡ true) × (c ≡ true) × (x ≡ n)
taken true true true x n is = (refl, refl, refl, cc)
taken true true false x n is = absurd (cc)
taken true false c x n is = absurd (cc)
taken false b c x n is = absurd (cc)

pub number_is : (least most number : ℕ) (text : Text) → number_in least most text ≡ Some number
    → (is_numeral text ≡ true) × (digits_value 10 text ≡ number) × (least ≤ number) × (number ≤ most)
unfolding number_in
number_is least most number text is =
    let t = taken (is_numeral text) (nat_le least (digits_value 10 text)) (nat_le (digits_value 10 text) most) _
    number is in
    let low : least ≤ digits_value 10 text = grind (arith, nat_tests, t.1) in
    let high : digits_value 10 text ≤ most = grind (arith, nat_tests, t.2) in
    (t.0, t.3, omega (arith, t.3), omega (arith, t.3))

-- a numeral has no sign
pub no_sign : (text : Text) → is_numeral text ≡ true → get_or text 0 0 ≢ 43
no_sign text is =
    let t = numeral_then text is in not_in_digits model text 43 t.0 (λ range. omega arith) 0 t.1

-- no sign, and no zero before another digit
abbrev pub IsBare : Text → Type 0
IsBare text = (get_or text 0 0 ≢ 43) × (get_or text 0 0 ≡ 48 → length text ≤ 1)

-- a text that `parse` does not read is no numeral of 64 bits
pub unread : {E : Type 0} (least most : ℕ) (text : Text) (r : Result ℕ E) (e : E)
    → ParsesUnsigned 64 10 text r → r ≡ Err e
    → IsBare text → most < 2 ^ 64 → None ≡ number_in least most text
unread least most text r e parses is bare below =
    let reads = rw is at (parse_plain model 64 text r parses bare.0) in
    sym (number_none least most text (λ numeral low high. let t = numeral_then text numeral in
    reads (t.0, t.1, omega arith)))

-- and one that it reads is a numeral
pub read : {E : Type 0} (text : Text) (r : Result ℕ E) (n : ℕ) → ParsesUnsigned 64 10 text r → r ≡ Ok n
    → IsBare text → (is_numeral text ≡ true) × (digits_value 10 text ≡ n)
read text r n parses is bare =
    let reads = rw is at (parse_plain model 64 text r parses bare.0) in
    (numeral_when text reads.0.0 reads.0.1 bare.1, sym reads.1)

pub read_inside : {E : Type 0} (least most : ℕ) (text : Text) (r : Result ℕ E) (n : ℕ) → ParsesUnsigned 64 10 text r
    → r ≡ Ok n → IsBare text → least ≤ n → n ≤ most → Some n ≡ number_in least most text
read_inside least most text r n parses is bare low high =
    let t = read text r n parses is bare in
    ap (λ (x : ℕ). Some x) (sym t.1) ∙
    sym (number_some least most text t.0 (omega (arith, t.1)) (omega (arith, t.1)))

pub read_outside : {E : Type 0} (least most : ℕ) (text : Text) (r : Result ℕ E) (n : ℕ) → ParsesUnsigned 64 10 text r
    → r ≡ Ok n → IsBare text → (least ≤ n → n ≤ most → ⊥) → None ≡ number_in least most text
read_outside least most text r n parses is bare out =
    let t = read text r n parses is bare in
    sym (number_none least most text (λ numeral low high. out (omega (arith, t.1)) (omega (arith, t.1))))

-- ---- the one spelling of a number

-- 0 is the only number whose first digit is 0
lead : (number : ℕ) → number < 2 ^ 64 → get_or (decimal number) 0 0 ≡ 48 → length (decimal number) ≤ 1
lead zero below is = length-decimal-le 1 0 (omega arith) (omega arith) below
lead (suc n) below is = absurd (omega (arith, first_decimal (suc n) (omega arith) below))

pub spells : (least most number : ℕ) → least ≤ number → number ≤ most → most < 2 ^ 64
    → number_in least most (decimal number) ≡ Some number
spells least most number low high below =
    let value = digits_value-decimal model number (omega arith) in
    let numeral = numeral_when (decimal number) (digits_decimal model number (omega arith))
    (decimal_nonempty number (omega arith)) (lead number (omega arith)) in
    number_some least most (decimal number) numeral (omega (arith, value)) (omega (arith, value)) ∙
    ap (λ (x : ℕ). Some x) value

pub spelled_by : (least most number : ℕ) (text : Text) → most < 2 ^ 64 → number_in least most text ≡ Some number
    → (text ≡ decimal number) × (least ≤ number) × (number ≤ most)
spelled_by least most number text below is =
    let t = number_is least most number text is in
    let n = numeral_then text t.0 in (
      sym (decimal-digits_value model text n.0 n.1 (λ e. omega (arith, n.1, n.2 e)) (omega (
        arith,
        t.1,
        t.3,
      ))) ∙ ap decimal t.1,
      t.2,
      t.3,
    )

pub spells_one_way : SpellsOneWay
spells_one_way least most number text below = (
  spelled_by least most number text below,
  λ is. rw is.0 (spells least most number is.1 is.2 below),
)
