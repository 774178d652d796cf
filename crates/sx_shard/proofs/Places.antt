-- Where a word of the table stands among the purses and the bits, and a seat's view among all.
use Rattle.std.proofs.Common.{◌≡◌, ℕ, zero, suc, ◌+◌, ◌<◌, List, [], ◌∷◌, length, map, take, drop, get_or, set}
use Rattle.std.proofs.Common.{sym, ap, ◌∙◌, arith, get_or-set_other}
use Rattle.std.proofs.Math.Seq.{take-set-lt}
use Rattle.std.proofs.lemmas.Grind.{get_or_after_one}
use Rattle.std.proofs.lemmas.List.{take-set-le, drop-set-lt, drop-set-add, get_or-take, get_or-drop}
use Rattle.std.proofs.lemmas.List.{length-take, get_or-map}
use mathlib.Core.Option.{some, some-injective, some-ne-none}
use lib.ListN.{get_elem?}
use Rattle.sx_event.specs.View.{spent}
use Rattle.sx_shard.specs.declared.known.Known.{Known}
use Rattle.sx_shard.specs.Words.{purses_in, bits_in}
use Rattle.sx_shard.specs.Known.{view_in}

-- a purse's name is below the number of purses
pub below : (purses : ℕ) (words : List ℕ) (purse : ℕ) → purse < length (purses_in purses words) → purse < purses
below purses words purse lt = omega (arith, length-take purses (drop 1 words))

pub purse_word : (purses : ℕ) (words : List ℕ) (purse : ℕ) → purse < length (purses_in purses words) →
    get_or words (1 + purse) 0 ≡ get_or (purses_in purses words) purse 0
purse_word purses words purse lt =
    sym (get_or-take purses (drop 1 words) purse 0 (below purses words purse lt) ∙ get_or_after_one words purse 0)

pub purse_set : (purses : ℕ) (words : List ℕ) (purse x : ℕ) → purse < length (purses_in purses words) →
    purses_in purses (set words (1 + purse) x) ≡ set (purses_in purses words) purse x
purse_set purses words purse x lt =
    ap (take purses) (drop-set-add 1 words purse x)
    ∙ take-set-lt purses (drop 1 words) purse x (below purses words purse lt)

pub bits_stay : (purses : ℕ) (words : List ℕ) (purse x : ℕ) → purse < purses →
    bits_in purses (set words (1 + purse) x) ≡ bits_in purses words
bits_stay purses words purse x lt = drop-set-lt (1 + purses) words (1 + purse) x (omega arith)

pub bit_word : (purses : ℕ) (words : List ℕ) (word : ℕ) →
    get_or words (1 + purses + word) 0 ≡ get_or (bits_in purses words) word 0
bit_word purses words word = sym (get_or-drop (1 + purses) words word 0)

pub bits_set : (purses : ℕ) (words : List ℕ) (word x : ℕ) →
    bits_in purses (set words (1 + purses + word) x) ≡ set (bits_in purses words) word x
bits_set purses words word x = drop-set-add (1 + purses) words word x

pub purses_stay : (purses : ℕ) (words : List ℕ) (word x : ℕ) →
    purses_in purses (set words (1 + purses + word) x) ≡ purses_in purses words
purses_stay purses words word x =
    let same : 1 + purses + word ≡ 1 + (purses + word) = omega arith in
    ap (λ (k : ℕ). take purses (drop 1 (set words k x))) same
    ∙ ap (take purses) (drop-set-add 1 words (purses + word) x)
    ∙ take-set-le purses (drop 1 words) (purses + word) x (omega arith)

-- word 0 is no purse and no bit word
pub zero_stays : (words : List ℕ) (k x : ℕ) → get_or (set words (1 + k) x) 0 0 ≡ get_or words 0 0
zero_stays words k x = get_or-set_other words (1 + k) 0 x 0 (λ e. omega arith)

-- what a list has at a place
pub is_within : {A : Type 0} (l : List A) (k : ℕ) (a : A) → get_elem? l k ≡ some a → k < length l
is_within [] k a e = absurd (some-ne-none a (sym e))
is_within (x ∷ l) zero a e = omega arith
is_within (x ∷ l) (suc k) a e = let lt = is_within l k a e in omega arith

pub is_at : {A : Type 0} (l : List A) (k : ℕ) (a d : A) → get_elem? l k ≡ some a → get_or l k d ≡ a
is_at [] k a d e = absurd (some-ne-none a (sym e))
is_at (x ∷ l) zero a d e = some-injective x a e
is_at (x ∷ l) (suc k) a d e = is_at l k a d e

-- the view of a seat
pub view_at : (knowns : List Known) (name : ℕ) (known : Known) → get_elem? knowns name ≡ some known →
    get_or (map view_in knowns) name spent ≡ view_in known
view_at knowns name known e =
    get_or-map view_in knowns name known spent (is_within knowns name known e)
    ∙ ap view_in (is_at knowns name known known e)
