-- Numbers in plain decimal.
use Rattle.std.specs.Prelude.{ℕ, ◌==◌, ◌&&◌, Bool, false, not, List, [], ◌∷◌, Option, Some, None, nat_le, map, String}
use Rattle.std.specs.Prelude.{if◌then◌else◌, string_bytes}
use Rattle.std.specs.Global.{Global}
use Rattle.std.specs.Str.{all_ascii_digits}
use Rattle.std.specs.Str.Parse.{digits_value}

-- a text, as its bytes
abbrev pub Text : Type 0
Text = List ℕ

-- each word as its bytes
abbrev pub texts : List (String Global) → List Text
texts words = map (λ word. string_bytes word) words

-- one digit, or more of which the first is not 0
abbrev pub is_numeral : Text → Bool
is_numeral [] = false
is_numeral (digit ∷ []) = all_ascii_digits (digit ∷ [])
is_numeral (digit ∷ next ∷ rest) = not (digit == 48) && all_ascii_digits (digit ∷ next ∷ rest)

-- the number that a text spells, where it is in this range
unfoldable pub number_in : ℕ → ℕ → Text → Option ℕ
number_in least most text =
    let number = digits_value 10 text in
    if is_numeral text && (nat_le least number && nat_le number most) then Some number else None
