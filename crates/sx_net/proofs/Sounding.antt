-- What keeps a net sound.
use Rattle.std.proofs.Common.{◌≡◌, ℕ, ◌+◌, ◌-◌, ◌^◌, ◌*◌, ◌<◌, ◌≤◌, ◌⊎◌, true, List, [], ◌∷◌, ◌++◌, length}
use Rattle.std.proofs.Common.{set, replicate, refl, sym}
use Rattle.std.proofs.Common.{ap, ◌∙◌, inl, inr, arith, length-set}
use Rattle.std.proofs.lemmas.Bool.{cases_eq}
use Rattle.std.proofs.lemmas.Bool.Decides.{nat_tests}
use Rattle.std.proofs.lemmas.List.{length-replicate, get_or_push, get_or_append_left, length_push}
use Rattle.sx_links.specs.Lists.{Lists}
use Rattle.sx_net.specs.declared.arc.Arc.{Arc}
use Rattle.sx_net.specs.Arcs.{no_arc, arc_at, tail_of, head_of, left_of, reverse_of, room_of}
use Rattle.sx_net.specs.Leaving.{AreListed}
use Rattle.sx_net.specs.Sound.{HasReverse, AreSound, IsPushable, IsSound}
use Rattle.sx_net.proofs.Shifting.{SameEnds, AreSound-same}
use Rattle.sx_net.proofs.Listing.{set_keeps, AreListed-none}
use Rattle.sx_net.proofs.Simple.{IsPushable-none, IsPushable-more}

module _ (leaving : Lists ℕ) (links : List ℕ) (link_room nodes : ℕ) (arcs : List Arc) (room spare : ℕ) (path : List ℕ)
    (path_room : ℕ) (sound : IsSound leaving links link_room nodes arcs room spare path path_room) where
  pub IsSound-path : (path' : List ℕ) (path_room' : ℕ) → IsPushable (length arcs) path' → path_room' ≡ path_room →
      IsSound leaving links link_room nodes arcs room spare path' path_room'
  IsSound-path path' path_room' pushable same = record {
    lists = sound.lists;
    listed = sound.listed;
    sound = sound.sound;
    pushable = pushable;
    free = sound.free;
    fits = sound.fits;
    links_fit = sound.links_fit;
    few = sound.few;
    path_fits = omega (arith, sound.path_fits, same);
  }

  pub IsSound-arcs : (leaving' : Lists ℕ) (links' : List ℕ) (arcs' : List Arc) → SameEnds arcs arcs' →
      AreListed leaving'.lists links' arcs' (length arcs') → length leaving'.lists ≡ length leaving.lists →
      leaving'.spare ≡ leaving.spare → IsSound leaving' links' link_room nodes arcs' room spare path path_room
  IsSound-arcs leaving' links' arcs' same listed lists free = record {
    lists = lists ∙ sound.lists;
    listed = listed;
    sound = AreSound-same arcs arcs' same nodes sound.sound;
    pushable = rw same.count sound.pushable;
    free = free ∙ sound.free;
    fits = omega (arith, sound.fits, same.count);
    links_fit = omega (arith, sound.links_fit, same.count);
    few = omega (arith, sound.few, same.count);
    path_fits = sound.path_fits;
  }

-- an arc in the place of one with the same ends and as much left
pub SameEnds-set : (arcs : List Arc) (a : ℕ) (arc : Arc) → a < length arcs → arc.tail ≡ tail_of arcs a →
    arc.head ≡ head_of arcs a → arc.left ≡ left_of arcs a → SameEnds arcs (set arcs a arc)
SameEnds-set arcs a arc within tail head left =
    let lefts = λ (b : ℕ). set_keeps (λ x. x.left) arcs a arc within left b (cases_eq b a) in
    record {
      count = length-set arcs a arc;
      tails = λ b. set_keeps (λ x. x.tail) arcs a arc within tail b (cases_eq b a);
      heads = λ b. set_keeps (λ x. x.head) arcs a arc within head b (cases_eq b a);
      rooms = λ b inside. omega (arith, lefts b, lefts (reverse_of b));
    }

-- no arcs
pub IsSound-none : (lists spare link_room nodes room arcs path_room : ℕ) → lists ≡ 2 * nodes → lists < 2 ^ 32 →
    spare ≡ 2 * arcs → 2 * arcs ≤ link_room → 2 * arcs ≤ room → arcs < 2 ^ 31 → nodes ≤ path_room →
    IsSound (record { lists = replicate lists []; spare = spare }) [] link_room nodes [] room arcs [] path_room
IsSound-none lists spare link_room nodes room arcs path_room is few free links_fit fits count path_fits = record {
  lists = length-replicate {A = List (ℕ × ℕ)} lists [] ∙ is;
  listed = AreListed-none lists few;
  sound = record {
    even = refl;
    tails = λ a within. absurd (omega arith);
    heads = λ a within. absurd (omega arith);
    reverses = λ a within. absurd (omega arith);
    rooms = λ a within. absurd (omega arith);
  };
  pushable = IsPushable-none 0;
  free = free;
  fits = omega (arith, fits);
  links_fit = omega (arith, links_fit);
  few = omega (arith, count);
  path_fits = path_fits;
}

-- an arc and its reverse come to an even number of arcs
module _ (nodes : ℕ) (arcs : List Arc) (was : AreSound nodes arcs) (tail head room : ℕ) (tail_in : tail < nodes)
    (head_in : head < nodes) (room_in : room < 2 ^ 128) where
  there : Arc
  there = record { tail = tail; head = head; left = room; allowed = true }

  back : Arc
  back = record { tail = head; head = tail; left = 0; allowed = true }

  two : List Arc
  two = (arcs ++ there ∷ []) ++ back ∷ []

  count : length two ≡ length arcs + 2
  unfolding two
  count = omega (arith, length_push (arcs ++ there ∷ []) back, length_push arcs there)

  old_at : (a : ℕ) → a < length arcs → arc_at two a ≡ arc_at arcs a
  unfolding two
  old_at a within =
      get_or_append_left (arcs ++ there ∷ []) (back ∷ []) no_arc a (omega (arith, length_push arcs there))
      ∙ get_or_append_left arcs (there ∷ []) no_arc a within

  first_at : arc_at two (length arcs) ≡ there
  unfolding two
  first_at =
      get_or_append_left (arcs ++ there ∷ []) (back ∷ []) no_arc (length arcs) (omega (arith, length_push arcs there))
      ∙ get_or_push arcs there no_arc (length arcs) refl

  second_at : arc_at two (length arcs + 1) ≡ back
  unfolding two
  second_at = get_or_push (arcs ++ there ∷ []) back no_arc (length arcs + 1) (length_push arcs there)

  each : (P : ℕ → Type 0) → ((a : ℕ) → a < length arcs → P a) → P (length arcs) → P (length arcs + 1) → (a : ℕ) →
      a < length two → P a
  each P old first second a within =
      let split : (a < length arcs) ⊎ ((a ≡ length arcs) ⊎ (a ≡ length arcs + 1)) = grind (arith, count) in
      elim split [
        | inl before ↦ old a before
        | inr late ↦ elim late [ inl same ↦ rw same first | inr same ↦ rw same second ]
      ]

  first_reverse : reverse_of (length arcs) ≡ length arcs + 1
  first_reverse = let even = was.even in grind (arith, nat_tests)

  second_reverse : reverse_of (length arcs + 1) ≡ length arcs
  second_reverse = let even = was.even in grind (arith, nat_tests)

  AreSound-two : AreSound nodes two
  unfolding there back
  AreSound-two = record {
    even = let even = was.even in omega (arith, count);
    tails =
        let first : tail_of two (length arcs) ≡ tail = ap (λ x. x.tail) first_at in
        let second : tail_of two (length arcs + 1) ≡ head = ap (λ x. x.tail) second_at in
        each (λ a. tail_of two a < nodes)
        (λ a before.
        let same : tail_of two a ≡ tail_of arcs a = ap (λ x. x.tail) (old_at a before) in
        omega (arith, same, was.tails a before))
        (omega arith) (omega arith);
    heads =
        let first : head_of two (length arcs) ≡ head = ap (λ x. x.head) first_at in
        let second : head_of two (length arcs + 1) ≡ tail = ap (λ x. x.head) second_at in
        each (λ a. head_of two a < nodes)
        (λ a before.
        let same : head_of two a ≡ head_of arcs a = ap (λ x. x.head) (old_at a before) in
        omega (arith, same, was.heads a before))
        (omega arith) (omega arith);
    reverses = each (HasReverse two)
        (λ a before. let had = was.reverses a before in
        record {
          within = omega (arith, count, had.within);
          tail = ap (λ x. x.tail) (old_at (reverse_of a) had.within) ∙ had.tail
              ∙ sym (ap (λ x. x.head) (old_at a before));
          head = ap (λ x. x.head) (old_at (reverse_of a) had.within) ∙ had.head
              ∙ sym (ap (λ x. x.tail) (old_at a before));
        })
        (record {
          within = omega (arith, count, first_reverse);
          tail = ap (tail_of two) first_reverse ∙ ap (λ x. x.tail) second_at ∙ sym (ap (λ x. x.head) first_at);
          head = ap (head_of two) first_reverse ∙ ap (λ x. x.head) second_at ∙ sym (ap (λ x. x.tail) first_at);
        })
        (record {
          within = omega (arith, count, second_reverse);
          tail = ap (tail_of two) second_reverse ∙ ap (λ x. x.tail) first_at ∙ sym (ap (λ x. x.head) second_at);
          head = ap (head_of two) second_reverse ∙ ap (λ x. x.head) first_at ∙ sym (ap (λ x. x.tail) second_at);
        });
    rooms = let first : left_of two (length arcs) ≡ room = ap (λ x. x.left) first_at in
        let second : left_of two (length arcs + 1) ≡ 0 = ap (λ x. x.left) second_at in
        each (λ a. room_of two a < 2 ^ 128)
        (λ a before.
        let here : left_of two a ≡ left_of arcs a = ap (λ x. x.left) (old_at a before) in
        let back : left_of two (reverse_of a) ≡ left_of arcs (reverse_of a) =
        ap (λ x. x.left) (old_at (reverse_of a) (was.reverses a before).within) in
        omega (arith, here, back, was.rooms a before))
        (omega (arith, first, second, ap (left_of two) first_reverse))
        (omega (arith, first, second, ap (left_of two) second_reverse));
  }

  pub IsSound-push : (leaving leaving' : Lists ℕ) (links links' : List ℕ) (link_room link_room' room' room'' spare : ℕ)
      (path : List ℕ) (path_room : ℕ) → IsSound leaving links link_room nodes arcs room' spare path path_room →
      0 < spare → length leaving'.lists ≡ length leaving.lists → leaving'.spare + 2 ≡ leaving.spare →
      link_room' ≡ link_room → room'' ≡ room' →
      AreListed leaving'.lists links'
      ((arcs ++ record { tail = tail; head = head; left = room; allowed = true } ∷ [])
      ++ record { tail = head; head = tail; left = 0; allowed = true } ∷ [])
      (length ((arcs ++ record { tail = tail; head = head; left = room; allowed = true } ∷ [])
      ++ record { tail = head; head = tail; left = 0; allowed = true } ∷ [])) →
      IsSound leaving' links' link_room' nodes
      ((arcs ++ record { tail = tail; head = head; left = room; allowed = true } ∷ [])
      ++ record { tail = head; head = tail; left = 0; allowed = true } ∷ [])
      room'' (spare - 1) path path_room
  unfolding two there back
  IsSound-push leaving leaving' links links' link_room link_room' room' room'' spare path path_room sound some lists
      free link_same same listed = record {
        lists = lists ∙ sound.lists;
        listed = listed;
        sound = AreSound-two;
        pushable = IsPushable-more (length arcs) (length two) path (omega (arith, count)) sound.pushable;
        free = omega (arith, sound.free, free, some);
        fits = omega (arith, sound.fits, count, same, some);
        links_fit = omega (arith, sound.links_fit, count, link_same, some);
        few = omega (arith, sound.few, count, some);
        path_fits = sound.path_fits;
      }
