-- What `clap` reads of the words of a seal.
use Rattle.std.proofs.Common.{◌≡◌, ◌∙◌, refl, codes, ℕ, Bool, true, List, [], ◌++◌, Option, Some, None}
use Rattle.clap.specs.Words.{Row, one_of, subcommand_of, subcommand_rows_of, takes}
use Rattle.clap.specs.Walk.{Held, nothing_held, finished}
use Rattle.clap.specs.declared.parser.matches.ArgMatches.{ArgMatches}
use Rattle.sx_words.specs.Numbers.{Text}
use Rattle.sx_words.specs.Program.{program, id_of}
use Rattle.std.specs.Prelude.{Ok}
use Rattle.sx_words.specs.Reading.{IsGiven, IsReadAs, begun, option_words, seal_from}
use Rattle.sx_words.specs.Commands.{Answers}
use Rattle.sx_words.specs.declared.command.Command.TheVariants.{Seal}
use Rattle.sx_words.specs.declared.setting.Setting.TheVariants.{Workers, Shards, Mu, Rounds, Searches}
use Rattle.sx_words.proofs.WalkLaws.{HasWalked, walked_none}
use Rattle.sx_words.proofs.ProgramLaws.{IsTaken, text_or, after, test_after, ends, seal_shape, seal_option, enters_seal}
use Rattle.sx_words.proofs.ProgramLaws.{walked_given, takes_by, level_by, rows_by}
use Rattle.sx_words.proofs.TakenNumbers.{given_taken, given_range, has_option}

-- what is held after the first two options, after three, and after four
abbrev held_two : Option Text → Option Text → Held
held_two w s = after seal_shape Shards s (after seal_shape Workers w nothing_held)

abbrev held_three : Option Text → Option Text → Option Text → Held
held_three w s m = after seal_shape Mu m (held_two w s)

abbrev held_four : Option Text → Option Text → Option Text → Option Text → Held
held_four w s m r = after seal_shape Rounds r (held_three w s m)

abbrev pub seal_held : Option Text → Option Text → Option Text → Option Text → Option Text → Held
seal_held w s m r n = after seal_shape Searches n (held_four w s m r)

abbrev pub seal_test : Option Text → Option Text → Option Text → Option Text → Option Text → Bool
seal_test w s m r n =
    test_after seal_shape n (held_four w s m r)
    (test_after seal_shape r (held_three w s m)
    (test_after seal_shape m (held_two w s)
    (test_after seal_shape s (after seal_shape Workers w nothing_held)
    (test_after seal_shape w nothing_held true))))

seal_walked : (w s m r n : Option Text) → IsTaken Workers w → IsTaken Shards s → IsTaken Mu m → IsTaken Rounds r
    → IsTaken Searches n
    → HasWalked seal_shape ((((([] ++ option_words Workers w) ++ option_words Shards s) ++ option_words Mu m)
    ++ option_words Rounds r) ++ option_words Searches n) (seal_held w s m r n) 1 (seal_test w s m r n)
seal_walked w s m r n is_w is_s is_m is_r is_n =
    walked_given seal_shape _ _ 1 _ Searches n (seal_option Searches) is_n
    (walked_given seal_shape _ _ 1 _ Rounds r (seal_option Rounds) is_r
    (walked_given seal_shape _ _ 1 _ Mu m (seal_option Mu) is_m
    (walked_given seal_shape _ _ 1 _ Shards s (seal_option Shards) is_s
    (walked_given seal_shape _ _ 1 _ Workers w (seal_option Workers) is_w (walked_none seal_shape)))))

seal_ends : (w s m r n : Option Text) → IsTaken Workers w → IsTaken Shards s → IsTaken Mu m → IsTaken Rounds r
    → IsTaken Searches n → ends seal_shape (seal_held w s m r n) (seal_test w s m r n) ≡ true
seal_ends None None None None None is_w is_s is_m is_r is_n = refl
seal_ends None None None None (Some n) is_w is_s is_m is_r is_n = rw is_n.1 refl
seal_ends None None None (Some r) None is_w is_s is_m is_r is_n = rw is_r.1 refl
seal_ends None None None (Some r) (Some n) is_w is_s is_m is_r is_n = rw (is_r.1, is_n.1) refl
seal_ends None None (Some m) None None is_w is_s is_m is_r is_n = rw is_m.1 refl
seal_ends None None (Some m) None (Some n) is_w is_s is_m is_r is_n = rw (is_m.1, is_n.1) refl
seal_ends None None (Some m) (Some r) None is_w is_s is_m is_r is_n = rw (is_m.1, is_r.1) refl
seal_ends None None (Some m) (Some r) (Some n) is_w is_s is_m is_r is_n = rw (is_m.1, is_r.1, is_n.1) refl
seal_ends None (Some s) None None None is_w is_s is_m is_r is_n = rw is_s.1 refl
seal_ends None (Some s) None None (Some n) is_w is_s is_m is_r is_n = rw (is_s.1, is_n.1) refl
seal_ends None (Some s) None (Some r) None is_w is_s is_m is_r is_n = rw (is_s.1, is_r.1) refl
seal_ends None (Some s) None (Some r) (Some n) is_w is_s is_m is_r is_n = rw (is_s.1, is_r.1, is_n.1) refl
seal_ends None (Some s) (Some m) None None is_w is_s is_m is_r is_n = rw (is_s.1, is_m.1) refl
seal_ends None (Some s) (Some m) None (Some n) is_w is_s is_m is_r is_n = rw (is_s.1, is_m.1, is_n.1) refl
seal_ends None (Some s) (Some m) (Some r) None is_w is_s is_m is_r is_n = rw (is_s.1, is_m.1, is_r.1) refl
seal_ends None (Some s) (Some m) (Some r) (Some n) is_w is_s is_m is_r is_n = rw (is_s.1, is_m.1, is_r.1, is_n.1) refl
seal_ends (Some w) None None None None is_w is_s is_m is_r is_n = rw is_w.1 refl
seal_ends (Some w) None None None (Some n) is_w is_s is_m is_r is_n = rw (is_w.1, is_n.1) refl
seal_ends (Some w) None None (Some r) None is_w is_s is_m is_r is_n = rw (is_w.1, is_r.1) refl
seal_ends (Some w) None None (Some r) (Some n) is_w is_s is_m is_r is_n = rw (is_w.1, is_r.1, is_n.1) refl
seal_ends (Some w) None (Some m) None None is_w is_s is_m is_r is_n = rw (is_w.1, is_m.1) refl
seal_ends (Some w) None (Some m) None (Some n) is_w is_s is_m is_r is_n = rw (is_w.1, is_m.1, is_n.1) refl
seal_ends (Some w) None (Some m) (Some r) None is_w is_s is_m is_r is_n = rw (is_w.1, is_m.1, is_r.1) refl
seal_ends (Some w) None (Some m) (Some r) (Some n) is_w is_s is_m is_r is_n = rw (is_w.1, is_m.1, is_r.1, is_n.1) refl
seal_ends (Some w) (Some s) None None None is_w is_s is_m is_r is_n = rw (is_w.1, is_s.1) refl
seal_ends (Some w) (Some s) None None (Some n) is_w is_s is_m is_r is_n = rw (is_w.1, is_s.1, is_n.1) refl
seal_ends (Some w) (Some s) None (Some r) None is_w is_s is_m is_r is_n = rw (is_w.1, is_s.1, is_r.1) refl
seal_ends (Some w) (Some s) None (Some r) (Some n) is_w is_s is_m is_r is_n = rw (is_w.1, is_s.1, is_r.1, is_n.1) refl
seal_ends (Some w) (Some s) (Some m) None None is_w is_s is_m is_r is_n = rw (is_w.1, is_s.1, is_m.1) refl
seal_ends (Some w) (Some s) (Some m) None (Some n) is_w is_s is_m is_r is_n = rw (is_w.1, is_s.1, is_m.1, is_n.1) refl
seal_ends (Some w) (Some s) (Some m) (Some r) None is_w is_s is_m is_r is_n = rw (is_w.1, is_s.1, is_m.1, is_r.1) refl
seal_ends (Some w) (Some s) (Some m) (Some r) (Some n) is_w is_s is_m is_r is_n =
    rw (is_w.1, is_s.1, is_m.1, is_r.1, is_n.1) refl

-- the rows of a seal
record ReadsSeal (rows : List Row) (w s m r n : Option Text) : Type 0 where
  pub workers : one_of (id_of Workers) rows ≡ Some (text_or Workers w)
  pub shards : one_of (id_of Shards) rows ≡ Some (text_or Shards s)
  pub mu : one_of (id_of Mu) rows ≡ Some (text_or Mu m)
  pub rounds : one_of (id_of Rounds) rows ≡ Some (text_or Rounds r)
  pub searches : one_of (id_of Searches) rows ≡ Some (text_or Searches n)

seal_reads : (w s m r n : Option Text)
    → ReadsSeal (finished seal_shape.rules (seal_held w s m r n)) w s m r n
seal_reads None None None None None =
    record { workers = refl; shards = refl; mu = refl; rounds = refl; searches = refl }
seal_reads None None None None (Some n) =
    record { workers = refl; shards = refl; mu = refl; rounds = refl; searches = refl }
seal_reads None None None (Some r) None =
    record { workers = refl; shards = refl; mu = refl; rounds = refl; searches = refl }
seal_reads None None None (Some r) (Some n) =
    record { workers = refl; shards = refl; mu = refl; rounds = refl; searches = refl }
seal_reads None None (Some m) None None =
    record { workers = refl; shards = refl; mu = refl; rounds = refl; searches = refl }
seal_reads None None (Some m) None (Some n) =
    record { workers = refl; shards = refl; mu = refl; rounds = refl; searches = refl }
seal_reads None None (Some m) (Some r) None =
    record { workers = refl; shards = refl; mu = refl; rounds = refl; searches = refl }
seal_reads None None (Some m) (Some r) (Some n) =
    record { workers = refl; shards = refl; mu = refl; rounds = refl; searches = refl }
seal_reads None (Some s) None None None =
    record { workers = refl; shards = refl; mu = refl; rounds = refl; searches = refl }
seal_reads None (Some s) None None (Some n) =
    record { workers = refl; shards = refl; mu = refl; rounds = refl; searches = refl }
seal_reads None (Some s) None (Some r) None =
    record { workers = refl; shards = refl; mu = refl; rounds = refl; searches = refl }
seal_reads None (Some s) None (Some r) (Some n) =
    record { workers = refl; shards = refl; mu = refl; rounds = refl; searches = refl }
seal_reads None (Some s) (Some m) None None =
    record { workers = refl; shards = refl; mu = refl; rounds = refl; searches = refl }
seal_reads None (Some s) (Some m) None (Some n) =
    record { workers = refl; shards = refl; mu = refl; rounds = refl; searches = refl }
seal_reads None (Some s) (Some m) (Some r) None =
    record { workers = refl; shards = refl; mu = refl; rounds = refl; searches = refl }
seal_reads None (Some s) (Some m) (Some r) (Some n) =
    record { workers = refl; shards = refl; mu = refl; rounds = refl; searches = refl }
seal_reads (Some w) None None None None =
    record { workers = refl; shards = refl; mu = refl; rounds = refl; searches = refl }
seal_reads (Some w) None None None (Some n) =
    record { workers = refl; shards = refl; mu = refl; rounds = refl; searches = refl }
seal_reads (Some w) None None (Some r) None =
    record { workers = refl; shards = refl; mu = refl; rounds = refl; searches = refl }
seal_reads (Some w) None None (Some r) (Some n) =
    record { workers = refl; shards = refl; mu = refl; rounds = refl; searches = refl }
seal_reads (Some w) None (Some m) None None =
    record { workers = refl; shards = refl; mu = refl; rounds = refl; searches = refl }
seal_reads (Some w) None (Some m) None (Some n) =
    record { workers = refl; shards = refl; mu = refl; rounds = refl; searches = refl }
seal_reads (Some w) None (Some m) (Some r) None =
    record { workers = refl; shards = refl; mu = refl; rounds = refl; searches = refl }
seal_reads (Some w) None (Some m) (Some r) (Some n) =
    record { workers = refl; shards = refl; mu = refl; rounds = refl; searches = refl }
seal_reads (Some w) (Some s) None None None =
    record { workers = refl; shards = refl; mu = refl; rounds = refl; searches = refl }
seal_reads (Some w) (Some s) None None (Some n) =
    record { workers = refl; shards = refl; mu = refl; rounds = refl; searches = refl }
seal_reads (Some w) (Some s) None (Some r) None =
    record { workers = refl; shards = refl; mu = refl; rounds = refl; searches = refl }
seal_reads (Some w) (Some s) None (Some r) (Some n) =
    record { workers = refl; shards = refl; mu = refl; rounds = refl; searches = refl }
seal_reads (Some w) (Some s) (Some m) None None =
    record { workers = refl; shards = refl; mu = refl; rounds = refl; searches = refl }
seal_reads (Some w) (Some s) (Some m) None (Some n) =
    record { workers = refl; shards = refl; mu = refl; rounds = refl; searches = refl }
seal_reads (Some w) (Some s) (Some m) (Some r) None =
    record { workers = refl; shards = refl; mu = refl; rounds = refl; searches = refl }
seal_reads (Some w) (Some s) (Some m) (Some r) (Some n) =
    record { workers = refl; shards = refl; mu = refl; rounds = refl; searches = refl }

-- ---- from the words to the numbers

abbrev pub seal_words : Option Text → Option Text → Option Text → Option Text → Option Text → List Text
seal_words w s m r n = ((((begun (codes "seal") ++ option_words Workers w) ++ option_words Shards s)
    ++ option_words Mu m) ++ option_words Rounds r) ++ option_words Searches n

pub takes_seal : (w s m r n : Option Text) → IsGiven Workers w → IsGiven Shards s → IsGiven Mu m → IsGiven Rounds r
    → IsGiven Searches n → takes program (seal_words w s m r n) ≡ true
takes_seal w s m r n a b c d e =
    let is_w = given_taken Workers w a in
    let is_s = given_taken Shards s b in
    let is_m = given_taken Mu m c in
    let is_r = given_taken Rounds r d in
    let is_n = given_taken Searches n e in
    takes_by (codes "seal") seal_shape _ enters_seal (level_by seal_shape _ _ 1 _
    (seal_walked w s m r n is_w is_s is_m is_r is_n) (seal_ends w s m r n is_w is_s is_m is_r is_n))

-- the numbers that the matches have
pub seal_options : (w s m r n : Option Text) (a : IsGiven Workers w) (b : IsGiven Shards s) (c : IsGiven Mu m)
    (d : IsGiven Rounds r) (e : IsGiven Searches n) (matches : ArgMatches)
    → subcommand_rows_of matches ≡ subcommand_of program (seal_words w s m r n)
    → IsReadAs Workers matches a.0 × IsReadAs Shards matches b.0 × IsReadAs Mu matches c.0 × IsReadAs Rounds matches d.0
    × IsReadAs Searches matches e.0
seal_options w s m r n a b c d e matches is =
    let walked = seal_walked w s m r n (given_taken Workers w a) (given_taken Shards s b) (given_taken Mu m c)
    (given_taken Rounds r d) (given_taken Searches n e) in
    let met = is ∙ rows_by (codes "seal") seal_shape _ _ 1 _ enters_seal walked in
    let rows = seal_reads w s m r n in (
      has_option Workers w a matches _ _ met rows.workers,
      has_option Shards s b matches _ _ met rows.shards,
      has_option Mu m c matches _ _ met rows.mu,
      has_option Rounds r d matches _ _ met rows.rounds,
      has_option Searches n e matches _ _ met rows.searches,
    )

pub seal_answers : (w s m r n : Option Text) (a : IsGiven Workers w) (b : IsGiven Shards s) (c : IsGiven Mu m)
    (d : IsGiven Rounds r) (e : IsGiven Searches n) (workers shards mu rounds searches : ℕ) → workers ≡ a.0
    → shards ≡ b.0 → mu ≡ c.0 → rounds ≡ d.0 → searches ≡ e.0
    → Answers (seal_from w s m r n) (Ok (Seal workers shards mu rounds searches))
seal_answers w s m r n a b c d e workers shards mu rounds searches f g h i k =
    rw (f, g, h, i, k) (
      rw (a.1, b.1, c.1, d.1, e.1) refl,
      (
        given_range Workers w a,
        given_range Shards s b,
        given_range Mu m c,
        given_range Rounds r d,
        given_range Searches n e,
      ),
    )
