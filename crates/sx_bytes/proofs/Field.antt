-- Encoding a field inverts decoding it, and back.
use Rattle.std.proofs.Common.{◌≡◌, ℕ, zero, suc, ◌+◌, ◌*◌, ◌^◌, ◌/◌, ◌<◌, List, [], ◌∷◌, length, sym, ap, ◌∙◌, arith}
use Rattle.std.proofs.Math.Nat.{mod-lt}
use Rattle.std.proofs.lemmas.List.{append-nil, nil_from_length}
use Rattle.std.proofs.lemmas.Nat.{same_from_place}
use Rattle.std.specs.Int.{byte_at}
use Rattle.byteorder.specs.Endian.{big_bytes, big_number}
use Rattle.byteorder.specs.Numbers.{big_from-cons, big_from-lt, length-bytes_high_first, big_number-reads_back}
use Rattle.sx_bytes.specs.Field.{AreBytes}

pub length-big_bytes : (n x : ℕ) → length (big_bytes n x) ≡ n
length-big_bytes n x = length-bytes_high_first n x

byte_at-lt : (k x : ℕ) → byte_at k x < 256
byte_at-lt zero x = mod-lt x (omega arith)
byte_at-lt (suc k) x = mod-lt (x / 256 ^ suc k) (omega arith)

pub AreBytes-big_bytes : (n x : ℕ) → AreBytes (big_bytes n x)
AreBytes-big_bytes zero x i = omega arith
AreBytes-big_bytes (suc n) x zero = byte_at-lt n x
AreBytes-big_bytes (suc n) x (suc i) = AreBytes-big_bytes n x i

-- n bytes that decode to one integer are the same bytes
pub same_bytes : (n : ℕ) (xs ys : List ℕ) → AreBytes xs → AreBytes ys → length xs ≡ n → length ys ≡ n
    → big_number n xs ≡ big_number n ys → xs ≡ ys
same_bytes zero xs ys bytes_x bytes_y len_x len_y e = nil_from_length xs len_x ∙ sym (nil_from_length ys len_y)
same_bytes (suc n) [] ys bytes_x bytes_y len_x len_y e = absurd (omega arith)
same_bytes (suc n) (x ∷ xs) [] bytes_x bytes_y len_x len_y e = absurd (omega arith)
same_bytes (suc n) (x ∷ xs) (y ∷ ys) bytes_x bytes_y len_x len_y e =
    let numbers : x * 256 ^ n + big_number n xs ≡ y * 256 ^ n + big_number n ys =
    ap (λ (r : ℕ). x * 256 ^ n + r) (sym (big_from-cons 0 n x xs)) ∙ e
    ∙ ap (λ (r : ℕ). y * 256 ^ n + r) (big_from-cons 0 n y ys) in
    let both = same_from_place x (big_number n xs) y (big_number n ys) (256 ^ n)
    (big_from-lt 0 n xs (λ k. bytes_x (suc k))) (big_from-lt 0 n ys (λ k. bytes_y (suc k))) numbers in
    let tails : xs ≡ ys = same_bytes n xs ys (λ k. bytes_x (suc k)) (λ k. bytes_y (suc k)) (omega arith) (omega arith)
    both.1 in
    ap (λ (b : ℕ). b ∷ xs) both.0 ∙ ap (λ (t : List ℕ). y ∷ t) tails

-- an integer that fits is what its encoding decodes to
pub big_number-big_bytes : (n x : ℕ) → x < 256 ^ n → big_number n (big_bytes n x) ≡ x
big_number-big_bytes n x fits = ap (big_number n) (sym (append-nil (big_bytes n x))) ∙ big_number-reads_back n x [] fits

-- bytes are the encoding of the integer that they decode to
pub big_bytes-big_number : (n : ℕ) (bytes : List ℕ) → AreBytes bytes → length bytes ≡ n
    → big_bytes n (big_number n bytes) ≡ bytes
big_bytes-big_number n bytes are_bytes len =
    let x = big_number n bytes in
    same_bytes n (big_bytes n x) bytes (AreBytes-big_bytes n x) are_bytes (length-big_bytes n x) len
    (big_number-big_bytes n x (big_from-lt 0 n bytes are_bytes))
