-- What texts are made of. A list of codes is ASCII text, and 10 is a line feed.
use Rattle.std.specs.Prelude.{ℕ, suc, List, [], ◌∷◌, ◌++◌, codes}
use Rattle.std.specs.Fmt.{decimal}
use Rattle.std.specs.List.{flat_map}
use Rattle.hex.specs.Hex.{encode_lower}

abbrev pub line : List ℕ → List ℕ
line text = text ++ 10 ∷ []

-- numbers, a space before each
abbrev pub spaced : List ℕ → List ℕ
spaced numbers = flat_map (λ number. codes " " ++ decimal number) numbers

-- how many there are of what has this name
abbrev pub count_line : List ℕ → ℕ → List ℕ
count_line name count = name ++ (codes " " ++ line (decimal count))

-- a digest under this name, two digits a byte
abbrev pub digest_line : List ℕ → List ℕ → List ℕ
digest_line name digest = name ++ (codes " " ++ line (encode_lower digest))

-- the text of each entry and its index, from this index on
abbrev pub indexed_from : {X : Type 0} → (ℕ → X → List ℕ) → ℕ → List X → List ℕ
indexed_from text index [] = []
indexed_from text index (x ∷ xs) = text index x ++ indexed_from text (suc index) xs

-- the text of each entry and its index
abbrev pub indexed : {X : Type 0} → (ℕ → X → List ℕ) → List X → List ℕ
indexed text xs = indexed_from text 0 xs
