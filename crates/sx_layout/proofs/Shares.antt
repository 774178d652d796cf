-- How much a shard has of what is dealt out, and where it stands.
use Rattle.std.proofs.Common.{◌≡◌, ℕ, zero, suc, ◌+◌, ◌-◌, ◌*◌, ◌/◌, ◌%◌, ◌<◌, ◌≤◌, List, [], ◌∷◌, ◌++◌, length, get_or}
use Rattle.std.proofs.Common.{map, replicate, refl, sym, ap, ◌∙◌, arith, length-append}
use Rattle.std.specs.List.{AllByRecursion, flat_map}
use Rattle.std.proofs.Math.Nat.{add-mul-div_right}
use Rattle.std.proofs.lemmas.Nat.{div-add-mod', le-div, mod_below, div_below}
use Rattle.std.proofs.lemmas.List.{get_or_append_left, get_or-append-add}
use Rattle.sx_layout.specs.Dealing.{dealt, share_of, words_for}

-- ---- numbers

-- a thing stands in the share of its shard
pub in_share : (s n place : ℕ) → 1 ≤ s → place < n → place / s < share_of s (place % s) n
in_share s n place some lt =
    let whole = div-add-mod' place s in
    let small = mod_below place s some in
    let reach : suc (place / s) * s ≤ n + (s - 1 - place % s) =
    (let step : suc (place / s) * s ≡ place / s * s + s = suc_mul (place / s) s in rw step (omega arith)) in
    le-div (suc (place / s)) (n + (s - 1 - place % s)) s some reach
  where
    suc_mul : (a b : ℕ) → suc a * b ≡ a * b + b
    suc_mul a b = omega arith

pub in_words : (n place : ℕ) → place < n → place / 64 < words_for n
in_words n place lt =
    let whole = div-add-mod' place 64 in
    le-div (suc (place / 64)) (n + 63) 64 (omega arith) (omega arith)

-- a quotient and a remainder tell a number
pub one_number : (s a b : ℕ) → a / s ≡ b / s → a % s ≡ b % s → a ≡ b
one_number s a b q r =
    sym (div-add-mod' a s) ∙ ap (λ (n : ℕ). n * s + a % s) q ∙ ap (λ (n : ℕ). b / s * s + n) r ∙ div-add-mod' b s

-- a share is at most the whole
pub share_le : (s shard n : ℕ) → 1 ≤ s → share_of s shard n ≤ n
share_le s shard n some =
    let reach : n + (s - 1 - shard) < (n + 1) * s =
    (let step : (n + 1) * s ≡ n * s + s = omega arith in
    let much : n ≤ n * s = le-mul_right n s some in rw step (omega arith)) in
    let below : (n + (s - 1 - shard)) / s < n + 1 = div_below (n + (s - 1 - shard)) s (n + 1) some reach in
    omega arith
  where
    le-mul_right : (n s : ℕ) → 1 ≤ s → n ≤ n * s
    le-mul_right zero s some = omega arith
    le-mul_right (suc n) s some =
        let rest : n ≤ n * s = le-mul_right n s some in
        let step : suc n * s ≡ s + n * s = omega arith in
        rw step (omega arith)

-- ---- lists

pub length-dealt : {X : Type 0} (s k : ℕ) (xs : List X) → k < s → length (dealt s k xs) ≡ share_of s k (length xs)
length-dealt s k [] lt = sym (none s k lt)
  where
    none : (s k : ℕ) → k < s → share_of s k 0 ≡ 0
    none s k lt =
        let below : (0 + (s - 1 - k)) / s < 1 = div_below (0 + (s - 1 - k)) s 1 (omega arith) (omega arith) in
        omega arith
length-dealt s zero (x ∷ xs) lt =
    let rest : length (dealt s (s - 1) xs) ≡ (length xs + (s - 1 - (s - 1))) / s =
    length-dealt s (s - 1) xs (omega arith) in
    let flat : length xs + (s - 1 - (s - 1)) ≡ length xs = omega arith in
    let more : suc (length xs) + (s - 1 - 0) ≡ length xs + 1 * s = omega arith in
    let known : length (dealt s (s - 1) xs) ≡ length xs / s = rw flat at rest in
    let whole : (suc (length xs) + (s - 1 - 0)) / s ≡ length xs / s + 1 =
    ap (λ (n : ℕ). n / s) more ∙ add-mul-div_right (length xs) 1 (omega arith) in
    omega arith
length-dealt s (suc k) (x ∷ xs) lt =
    let same : length xs + (s - 1 - k) ≡ suc (length xs) + (s - 1 - suc k) = omega arith in
    length-dealt s k xs (omega arith) ∙ ap (λ (n : ℕ). n / s) same

pub get_or-dealt : {X : Type 0} (s k q : ℕ) (xs : List X) (d : X) → 1 ≤ s
    → get_or (dealt s k xs) q d ≡ get_or xs (k + q * s) d
get_or-dealt s k q [] d some = refl
get_or-dealt s zero zero (x ∷ xs) d some =
    let none : 0 + 0 * s ≡ 0 = omega arith in rw none refl
get_or-dealt s zero (suc q) (x ∷ xs) d some =
    let next : 0 + suc q * s ≡ suc (s - 1 + q * s) = omega arith in
    rw next (get_or-dealt s (s - 1) q xs d some)
get_or-dealt s (suc k) q (x ∷ xs) d some =
    let next : suc k + q * s ≡ suc (k + q * s) = omega arith in
    rw next (get_or-dealt s k q xs d some)

pub thing_dealt : {X : Type 0} (s place : ℕ) (xs : List X) (d : X) → 1 ≤ s
    → get_or (dealt s (place % s) xs) (place / s) d ≡ get_or xs place d
thing_dealt s place xs d some =
    let whole = div-add-mod' place s in
    let same : place % s + place / s * s ≡ place = omega arith in
    get_or-dealt s (place % s) (place / s) xs d some ∙ ap (λ (n : ℕ). get_or xs n d) same

pub all_dealt : {X : Type 0} (P : X → Type 0) (s k : ℕ) (xs : List X) → AllByRecursion P xs
    → AllByRecursion P (dealt s k xs)
all_dealt P s k [] all = tt
all_dealt P s zero (x ∷ xs) all = (all.0, all_dealt P s (s - 1) xs all.1)
all_dealt P s (suc k) (x ∷ xs) all = all_dealt P s k xs all.1

pub map-dealt : {X Y : Type 0} (f : X → Y) (s k : ℕ) (xs : List X) → map f (dealt s k xs) ≡ dealt s k (map f xs)
map-dealt f s k [] = refl
map-dealt f s zero (x ∷ xs) = ap (λ (ys : List _). f x ∷ ys) (map-dealt f s (s - 1) xs)
map-dealt f s (suc k) (x ∷ xs) = map-dealt f s k xs

-- lists of one length in a row
module _ {X Y : Type 0} (f : X → List Y) (m : ℕ) where
  pub length-rows : (xs : List X) → AllByRecursion (λ x. length (f x) ≡ m) xs
      → length (flat_map f xs) ≡ length xs * m
  length-rows [] all = let none : 0 * m ≡ 0 = omega arith in sym none
  length-rows (x ∷ xs) all =
      let step : suc (length xs) * m ≡ m + length xs * m = omega arith in
      rw step (length-append (f x) (flat_map f xs)
      ∙ ap (λ (n : ℕ). n + length (flat_map f xs)) all.0 ∙ ap (λ (n : ℕ). m + n) (length-rows xs all.1))

  pub get_or-rows : (xs : List X) → AllByRecursion (λ x. length (f x) ≡ m) xs → (i j : ℕ) (e : X) (d : Y)
      → i < length xs → j < m → get_or (flat_map f xs) (i * m + j) d ≡ get_or (f (get_or xs i e)) j d
  get_or-rows [] all i j e d lt small = absurd (omega arith)
  get_or-rows (x ∷ xs) all zero j e d lt small =
      let here : 0 * m + j ≡ j = omega arith in
      let inside : j < length (f x) = omega (arith, all.0) in
      rw here (get_or_append_left (f x) (flat_map f xs) d j inside)
  get_or-rows (x ∷ xs) all (suc i) j e d lt small =
      let further : suc i * m + j ≡ m + (i * m + j) = omega arith in
      ap (λ (n : ℕ). get_or (f x ++ flat_map f xs) n d) (further ∙ ap (λ (n : ℕ). n + (i * m + j)) (sym all.0))
      ∙ get_or-append-add (f x) (flat_map f xs) (i * m + j) d ∙ get_or-rows xs all.1 i j e d (omega arith) small

pub zeros : (n i : ℕ) → get_or {A = ℕ} (replicate n 0) i 0 ≡ zero
zeros zero i = refl
zeros (suc n) zero = refl
zeros (suc n) (suc i) = zeros n i
