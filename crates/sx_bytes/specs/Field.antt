-- A field: an unsigned integer in n bytes, the highest byte first.
use Rattle.std.specs.Prelude.{◌≡◌, ℕ, ◌<◌, ◌^◌, List, length, slice_index}
use Rattle.byteorder.specs.Endian.{big_bytes, big_number}

-- each is a byte
abbrev pub AreBytes : List ℕ → Type 0
AreBytes bytes = (i : ℕ) → slice_index bytes i < 256

-- n bytes are the encoding of the integer that they decode to
abbrev pub EncodingInvertsDecoding : Type 0
EncodingInvertsDecoding = (n : ℕ) (bytes : List ℕ) → AreBytes bytes → length bytes ≡ n
    → big_bytes n (big_number n bytes) ≡ bytes

-- an integer below 256 ^ n is what its encoding decodes to
abbrev pub DecodingInvertsEncoding : Type 0
DecodingInvertsEncoding = (n x : ℕ) → x < 256 ^ n → big_number n (big_bytes n x) ≡ x
