-- The commands, as words spell them.
use Rattle.std.proofs.Common.{◌≡◌, ◌≢◌, ℕ, suc, ◌-◌, ◌^◌, ◌<◌, length, map, arith, Bool, true, false, List, [], ◌∷◌}
use Rattle.std.proofs.Common.{Contains, Option, Some, None, sym, refl}
use Rattle.std.specs.Prelude.{String, codes, find, option_and_then}
use Rattle.std.specs.Global.{Global}
use Rattle.std.specs.Str.{bytes_eq}
use Rattle.std.proofs.lemmas.Slice.Eq.{bytes_eq-Decides}
use Rattle.sx_words.specs.declared.command.Command.{Command}
use Rattle.sx_words.specs.declared.command.Command.TheVariants.{Seal, Replay, Check, Show, Interleave, Migrate, Filter}
use Rattle.sx_words.specs.declared.command.Command.TheVariants.{Prove, Verify, Follow, Demo}
use Rattle.sx_words.specs.Numbers.{Text, texts}
use Rattle.sx_words.specs.Commands.{Form, InRange, forms, command_of, nothing_more, spelled, joined, spelling_by}
use Rattle.sx_words.specs.Laws.{ReadsSpelling}
use Rattle.sx_words.proofs.NumberLaws.{spells}

abbrev pub reads_of : Option Form → List Text → Option Command
reads_of found words = option_and_then (λ form. form.reads words) found

-- a command by its name
pub named_by : (name literal : Text) (words : List Text) → name ≡ literal
    → command_of (name ∷ words) ≡ reads_of (find (λ form. bytes_eq form.name literal) forms) words
unfolding command_of
named_by name literal words is = rw is refl

-- names that differ
differ : (name literal : Text) → name ≢ literal → bytes_eq literal name ≡ false
differ name literal differs =
    let go : (b : Bool) → bytes_eq literal name ≡ b → bytes_eq literal name ≡ false =
    λ b. elim b as (λ b. bytes_eq literal name ≡ b → bytes_eq literal name ≡ false) [
      | true ↦ λ e. absurd (differs (sym ((bytes_eq-Decides literal name).0 e)))
      | false ↦ λ e. e
    ] in
    go (bytes_eq literal name) refl

-- no command has the name
pub named_by_none : (name : Text) (words : List Text) → name ≢ codes "seal" → name ≢ codes "replay"
    → name ≢ codes "check" → name ≢ codes "show" → name ≢ codes "interleave" → name ≢ codes "migrate"
    → name ≢ codes "filter" → name ≢ codes "prove" → name ≢ codes "verify" → name ≢ codes "follow"
    → name ≢ codes "demo" → command_of (name ∷ words) ≡ None
unfolding command_of
named_by_none name words a b c d e f g h i k l =
    rw (
      differ name (codes "seal") a,
      differ name (codes "replay") b,
      differ name (codes "check") c,
      differ name (codes "show") d,
      differ name (codes "interleave") e,
      differ name (codes "migrate") f,
      differ name (codes "filter") g,
      differ name (codes "prove") h,
      differ name (codes "verify") i,
      differ name (codes "follow") k,
      differ name (codes "demo") l,
    ) refl

found_none : (name : Text) (forms : List Form) → (Contains (map (λ form. form.name) forms) name → ⊥)
    → find (λ form. bytes_eq form.name name) forms ≡ None
found_none name [] differs = refl
found_none name (form ∷ forms) differs =
    rw (differ name form.name (λ e. differs (0, omega arith, sym e)))
    (found_none name forms (λ has. differs (suc has.0, omega (arith, has.1), has.2)))

pub named_by_no_form : (name : Text) (words : List Text) → (Contains (map (λ form. form.name) forms) name → ⊥)
    → command_of (name ∷ words) ≡ None
unfolding command_of
named_by_no_form name words differs = rw (found_none name forms differs) refl

pub nothing : command_of [] ≡ None
unfolding command_of
nothing = refl

pub no_words : (words : List (String Global)) → length words < 1 → command_of (texts words) ≡ None
no_words [] none = nothing
no_words (word ∷ words) none = absurd (omega arith)

-- ---- spelling and reading

reads_seal : (workers shards mu rounds searches : ℕ) → InRange (Seal workers shards mu rounds searches)
    → (command_of (spelling_by spelled (Seal workers shards mu rounds searches))
    ≡ Some (Seal workers shards mu rounds searches))
    × (command_of (spelling_by joined (Seal workers shards mu rounds searches))
    ≡ Some (Seal workers shards mu rounds searches))
unfolding command_of
reads_seal workers shards mu rounds searches fits =
    let w = spells 1 64 workers fits.0.0 fits.0.1 (omega arith) in
    let s = spells 1 64 shards fits.1.0 fits.1.1 (omega arith) in
    let m = spells 1 20 mu fits.2.0 fits.2.1 (omega arith) in
    let r = spells 0 10000 rounds fits.3.0 fits.3.1 (omega arith) in
    let n = spells 1 8 searches fits.4.0 fits.4.1 (omega arith) in
    (rw (w, s, m, r, n) refl, rw (w, s, m, r, n) refl)

reads_replay : (workers : ℕ) → InRange (Replay workers)
    → (command_of (spelling_by spelled (Replay workers)) ≡ Some (Replay workers))
    × (command_of (spelling_by joined (Replay workers)) ≡ Some (Replay workers))
unfolding command_of
reads_replay workers fits =
    let w = spells 1 64 workers fits.0 fits.1 (omega arith) in
    (rw w refl, rw w refl)

reads_filter : (workers : ℕ) → InRange (Filter workers)
    → (command_of (spelling_by spelled (Filter workers)) ≡ Some (Filter workers))
    × (command_of (spelling_by joined (Filter workers)) ≡ Some (Filter workers))
unfolding command_of
reads_filter workers fits =
    let w = spells 1 64 workers fits.0 fits.1 (omega arith) in
    (rw w refl, rw w refl)

reads_prove : (id : ℕ) → InRange (Prove id)
    → (command_of (spelling_by spelled (Prove id)) ≡ Some (Prove id))
    × (command_of (spelling_by joined (Prove id)) ≡ Some (Prove id))
unfolding command_of
reads_prove id fits =
    let n = spells 0 (2 ^ 64 - 1) id (omega arith) (omega (arith, fits)) (omega arith) in
    (rw n refl, rw n refl)

reads_demo : (number workers : ℕ) → InRange (Demo number workers)
    → (command_of (spelling_by spelled (Demo number workers)) ≡ Some (Demo number workers))
    × (command_of (spelling_by joined (Demo number workers)) ≡ Some (Demo number workers))
unfolding command_of
reads_demo number workers fits =
    let n = spells 0 (2 ^ 64 - 1) number (omega arith) (omega (arith, fits.0)) (omega arith) in
    let w = spells 1 64 workers fits.1.0 fits.1.1 (omega arith) in
    (rw (n, w) refl, rw (n, w) refl)

pub reads_spelling : ReadsSpelling
unfolding command_of
reads_spelling (Seal workers shards mu rounds searches) fits = reads_seal workers shards mu rounds searches fits
reads_spelling (Replay workers) fits = reads_replay workers fits
reads_spelling Check fits = (refl, refl)
reads_spelling Show fits = (refl, refl)
reads_spelling Interleave fits = (refl, refl)
reads_spelling Migrate fits = (refl, refl)
reads_spelling (Filter workers) fits = reads_filter workers fits
reads_spelling (Prove id) fits = reads_prove id fits
reads_spelling Verify fits = (refl, refl)
reads_spelling Follow fits = (refl, refl)
reads_spelling (Demo number workers) fits = reads_demo number workers fits

-- ---- a command that takes no options

pub more_than_nothing : (command : Command) (words : List (String Global)) → (length words ≡ 0 → ⊥)
    → nothing_more command (texts words) ≡ None
more_than_nothing command [] some = absurd (some refl)
more_than_nothing command (word ∷ words) some = refl
