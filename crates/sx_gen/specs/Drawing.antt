-- The words of the generator, and lists that are made place by place.
use Rattle.std.specs.Prelude.{ℕ, zero, suc, List, [], ◌∷◌, ◌++◌}
use Rattle.rand_xoshiro.specs.SplitMix64.{splitmix_seed}
use Rattle.rand_xoshiro.specs.Xoshiro256.{of_seed, plus_plus}

-- the generator that is started from a number, before its first word
abbrev pub started_from : ℕ → List ℕ
started_from number = of_seed (splitmix_seed 32 number)

-- a generator after so many words
unfoldable pub state_after : ℕ → List ℕ → List ℕ
state_after zero state = state
state_after (suc words) state = (plus_plus (state_after words state)).1

-- the word of a generator that comes after so many others
unfoldable pub word_after : List ℕ → ℕ → ℕ
word_after state words = (plus_plus (state_after words state)).0

-- the list of `count` entries that has f i at place i
unfoldable pub listed : {X : Type 0} → (ℕ → X) → ℕ → List X
listed f zero = []
listed f (suc count) = listed f count ++ f count ∷ []
