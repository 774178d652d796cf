-- How `clap` walks over the words of a command.
use Rattle.std.proofs.Common.{◌≡◌, ◌∙◌, ap, sym, refl, ℕ, Bool, true, false, ◌&&◌, ◌||◌, ◌==◌, List, [], ◌∷◌, ◌++◌}
use Rattle.std.proofs.Common.{Some, None, append_assoc, append-nil}
use Rattle.std.specs.Prelude.{if◌then◌else◌}
use Rattle.std.specs.List.{fold}
use Rattle.std.specs.Option.{option_map_or}
use Rattle.std.specs.Str.{bytes_eq}
use Rattle.clap.specs.Words.{Rule, Shape}
use Rattle.clap.specs.Lexer.{long_of, short_of}
use Rattle.clap.specs.Walk.{Held, Names, Walk, Waiting, idle, option, walked, walk, walk_from, nothing_held, settled}
use Rattle.clap.specs.Walk.{word_met, plain_word, long_or_other, short_or_plain}
use Rattle.clap.specs.Walk.{trailing, value, after_step}
use Rattle.clap.specs.Takes.{walk_passes, turn_passes, settle_passes, word_passes, step_passes}
use Rattle.clap.specs.Takes.{flag_word_passes, bundle_passes}
use Rattle.sx_words.specs.Numbers.{Text}

-- ---- a word that begins with no hyphen

pub not_long : (code : ℕ) (rest : Text) → (code == 45) ≡ false → long_of (code ∷ rest) ≡ None
not_long code rest differs = rw differs refl

pub not_short : (code : ℕ) (rest : Text) → (code == 45) ≡ false → short_of (code ∷ rest) ≡ None
not_short code rest differs = rw differs refl

pub not_dashes : (code : ℕ) (rest : Text) → (code == 45) ≡ false → bytes_eq (code ∷ rest) (45 ∷ 45 ∷ []) ≡ false
not_dashes code rest differs = rw differs refl

pub record IsPlainWord (word : Text) : Type 0 where
  pub long : long_of word ≡ None
  pub short : short_of word ≡ None
  pub dashes : bytes_eq word (45 ∷ 45 ∷ []) ≡ false

pub and_true : (a b : Bool) → (a && b) ≡ true → (a ≡ true) × (b ≡ true)
and_true true b is = (refl, is)
and_true false b is = absurd (cc)

-- ---- one word more, and words after a subcommand

pub fold_append : {X Y : Type 0} (f : Y → X → Y) (start : Y) (xs ys : List X)
    → fold f start (xs ++ ys) ≡ fold f (fold f start xs) ys
fold_append f start [] ys = refl
fold_append f start (x ∷ xs) ys = fold_append f (f start x) xs ys

abbrev pub stopped_at : Text → List Text → Walk
stopped_at name words = record (walk_from nothing_held) { stopped = Some (name, words) }

walked_stopped : (c : List Rule) (names : Names) (name word : Text) (before : List Text)
    → walked c names (stopped_at name before) word ≡ stopped_at name (before ++ word ∷ [])
unfolding walked
walked_stopped c names name word before = refl

pub walks_stopped : (c : List Rule) (names : Names) (name : Text) (before words : List Text)
    → fold (walked c names) (stopped_at name before) words ≡ stopped_at name (before ++ words)
walks_stopped c names name before [] = ap (stopped_at name) (sym (append-nil before))
walks_stopped c names name before (word ∷ words) =
    ap (λ w. fold (walked c names) w words) (walked_stopped c names name word before)
    ∙ walks_stopped c names name (before ++ word ∷ []) words
    ∙ ap (stopped_at name) (append_assoc before (word ∷ []) words)

pub passes_stopped : (s : Shape) (names : Names) (name : Text) (before words : List Text)
    → walk_passes s names (stopped_at name before) words ≡ true
unfolding walk_passes
passes_stopped s names name before [] = refl
passes_stopped s names name before (word ∷ words) =
    ap (λ w. walk_passes s names w words) (walked_stopped s.rules names name word before)
    ∙ passes_stopped s names name (before ++ word ∷ []) words

-- ---- an option word, and the number after it

-- the walk between two words, with the next positional at this place
abbrev pub at : Held → ℕ → Walk
at h place = record (walk_from h) { position = place }

abbrev pub awaiting : Text → Held → ℕ → Walk
awaiting id h place = record (at h place) { waiting = option id }

value_met : (c : List Rule) (id word : Text) (h : Held) (place : ℕ) → IsPlainWord word
    → word_met c [] false (option id) place word h ≡ plain_word c (option id) word h
value_met c id word h place is =
    ap (λ (b : Bool). if b then (h, trailing place) else long_or_other c (option id) word (long_of word) h) is.dashes
    ∙ ap (λ found. long_or_other c (option id) word found h) is.long
    ∙ ap (λ found. short_or_plain c (option id) word found h) is.short

pub value_walked : (c : List Rule) (id word : Text) (h : Held) (place : ℕ) → IsPlainWord word
    → walked c [] (awaiting id h place) word
    ≡ after_step c word (awaiting id h place) (plain_word c (option id) word h).0 (plain_word c (option id) word h).1
unfolding walked
value_walked c id word h place is =
    ap (λ met. after_step c word (awaiting id h place) met.0 met.1) (value_met c id word h place is)

plain_passes : (s : Shape) (waiting : Waiting) (word : Text) (h : Held) → IsPlainWord word
    → (bytes_eq word (45 ∷ 45 ∷ []) || flag_word_passes s.rules s.args_override_self (long_of word) word h) ≡ true
plain_passes s waiting word h is =
    ap (λ (b : Bool). b || flag_word_passes s.rules s.args_override_self (long_of word) word h) is.dashes
    ∙ ap (λ found. flag_word_passes s.rules s.args_override_self found word h) is.long
    ∙ ap (λ found. option_map_or (λ flags. bundle_passes s.rules s.args_override_self flags h) found true) is.short

pub value_passes : (s : Shape) (id word : Text) (h : Held) (place : ℕ) → IsPlainWord word
    → turn_passes s [] (awaiting id h place) word ≡ true
value_passes s id word h place is =
    ap (λ met. word_passes s [] false (option id) word h && step_passes s place met.0 met.1)
    (value_met s.rules id word h place is)
    ∙ ap (λ (b : Bool). b && true) (plain_passes s (option id) word h is)

-- ---- a positional

positional_met : (c : List Rule) (word : Text) (h : Held) (place : ℕ) → IsPlainWord word
    → word_met c [] false idle place word h ≡ (h, value)
positional_met c word h place is =
    ap (λ (b : Bool). if b then (h, trailing place) else long_or_other c idle word (long_of word) h) is.dashes
    ∙ ap (λ found. long_or_other c idle word found h) is.long
    ∙ ap (λ found. short_or_plain c idle word found h) is.short

pub positional_walked : (c : List Rule) (word : Text) (h : Held) (place : ℕ) → IsPlainWord word
    → walked c [] (at h place) word ≡ after_step c word (at h place) h value
unfolding walked
positional_walked c word h place is =
    ap (λ met. after_step c word (at h place) met.0 met.1) (positional_met c word h place is)

pub positional_turns : (s : Shape) (word : Text) (h : Held) (place : ℕ) → IsPlainWord word
    → turn_passes s [] (at h place) word ≡ step_passes s place h value
positional_turns s word h place is =
    ap (λ met. word_passes s [] false idle word h && step_passes s place met.0 met.1)
    (positional_met s.rules word h place is)
    ∙ ap (λ (b : Bool). b && step_passes s place h value) (plain_passes s idle word h is)

-- ---- the words of a command

-- the words walked over: what is held after them, and a test by which all of them pass
pub record HasWalked (s : Shape) (words : List Text) (h : Held) (place : ℕ) (test : Bool) : Type 0 where
  pub walk : walk s.rules [] nothing_held words ≡ at h place
  pub passes : test ≡ true → walk_passes s [] (walk_from nothing_held) words ≡ true

pub walked_none : (s : Shape) → HasWalked s [] nothing_held 1 true
unfolding walk_passes
walked_none s = record { walk = refl; passes = λ e. refl }

passes_append : (s : Shape) (w : Walk) (xs ys : List Text) → walk_passes s [] w xs ≡ true
    → walk_passes s [] (fold (walked s.rules []) w xs) ys ≡ true → walk_passes s [] w (xs ++ ys) ≡ true
unfolding walk_passes
passes_append s w [] ys first rest = rest
passes_append s w (x ∷ xs) ys first rest =
    let turn = and_true (turn_passes s [] w x) (walk_passes s [] (walked s.rules [] w x) xs) first in
    rw turn.0 (passes_append s (walked s.rules [] w x) xs ys turn.1 rest)

passes_two : (s : Shape) (w : Walk) (x y : Text) → turn_passes s [] w x ≡ true
    → turn_passes s [] (walked s.rules [] w x) y ≡ true → walk_passes s [] w (x ∷ y ∷ []) ≡ true
unfolding walk_passes
passes_two s w x y first second = rw (first, second) refl

-- the command has the option of this name
pub record HasOption (s : Shape) (name id : Text) : Type 0 where
  pub named : (h : Held) (place : ℕ) → walked s.rules [] (at h place) name
      ≡ awaiting id (record (settled s.rules h) { pending = Some (id, []) }) place
  pub passes : (h : Held) (place : ℕ) → settle_passes s.rules s.args_override_self h ≡ true
      → turn_passes s [] (at h place) name ≡ true
  pub taken : (word : Text) (h : Held) (place : ℕ) →
      let w = awaiting id (record (settled s.rules h) { pending = Some (id, []) }) place in
      after_step s.rules word w (plain_word s.rules (option id) word w.held).0
      (plain_word s.rules (option id) word w.held).1
      ≡ at (record (settled s.rules h) { pending = Some (id, word ∷ []) }) place

-- an option with its number is walked over
pub walked_option : (s : Shape) (words : List Text) (h : Held) (place : ℕ) (test : Bool) (name id word : Text)
    → HasOption s name id → IsPlainWord word → HasWalked s words h place test
    → HasWalked s (words ++ name ∷ word ∷ []) (record (settled s.rules h) { pending = Some (id, word ∷ []) }) place
    (test && settle_passes s.rules s.args_override_self h)
walked_option s words h place test name id word has is before =
    let turn_of = λ (w : Walk). turn_passes s [] w word in
    record {
      walk = fold_append (walked s.rules []) (walk_from nothing_held) words (name ∷ word ∷ [])
          ∙ ap (λ w. walked s.rules [] (walked s.rules [] w name) word) before.walk
          ∙ ap (λ w. walked s.rules [] w word) (has.named h place)
          ∙ value_walked s.rules id word _ place is ∙ has.taken word h place;
      passes = λ e.
          let both = and_true test (settle_passes s.rules s.args_override_self h) e in
          passes_append s (walk_from nothing_held) words (name ∷ word ∷ []) (before.passes both.0)
          (passes_two s _ name word
          (ap (λ w. turn_passes s [] w name) before.walk ∙ has.passes h place both.1)
          (ap (λ w. turn_of (walked s.rules [] w name)) before.walk ∙ ap turn_of (has.named h place)
          ∙ value_passes s id word _ place is));
    }
