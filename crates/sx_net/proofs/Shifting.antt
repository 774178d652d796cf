-- A push, arc by arc.
use Rattle.std.proofs.Common.{◌≡◌, ◌≢◌, ℕ, ◌+◌, ◌%◌, ◌<◌, ◌⊎◌, List, [], ◌∷◌, ◌++◌, length, get_or, refl, sym, ap, ◌∙◌}
use Rattle.std.proofs.Common.{set, length-set, inl, inr, arith}
use Rattle.std.specs.List.{All}
use Rattle.std.proofs.lemmas.Bool.{cases_eq}
use Rattle.std.proofs.lemmas.Bool.Decides.{nat_tests}
use Rattle.std.proofs.lemmas.List.{get_or_push, get_or_append_left, length_push, get_or-set_same, get_or-set_other}
use Rattle.std.proofs.lemmas.List.Elements.{All-push}
use Rattle.sx_net.specs.declared.arc.Arc.{Arc}
use Rattle.sx_net.specs.Arcs.{no_arc, tail_of, head_of, left_of, is_allowed, reverse_of, room_of}
use Rattle.sx_net.specs.Network.{Pushes}
use Rattle.sx_net.specs.Sound.{HasReverse, AreSound, Shifts}
use Rattle.sx_net.proofs.Listing.{set_keeps}

pub reverse_twice : (a : ℕ) → reverse_of (reverse_of a) ≡ a
reverse_twice a = grind (arith, nat_tests)

pub reverse_other : (a : ℕ) → reverse_of a ≢ a
reverse_other a same = grind (arith, nat_tests)

pub reverse_back : (a b : ℕ) → reverse_of a ≡ b → a ≡ reverse_of b
reverse_back a b is = sym (reverse_twice a) ∙ ap reverse_of is

reverse_same : (a b : ℕ) → reverse_of a ≡ reverse_of b → a ≡ b
reverse_same a b same = reverse_back a (reverse_of b) same ∙ reverse_twice b

all_first : (P : ℕ → Type 0) (xs : List ℕ) (a : ℕ) → All P (xs ++ a ∷ []) → All P xs
all_first P xs a all k d within =
    rw (← get_or_append_left xs (a ∷ []) d k within) (all k d (omega (arith, length_push xs a)))

all_last : (P : ℕ → Type 0) (xs : List ℕ) (a : ℕ) → All P (xs ++ a ∷ []) → P a
all_last P xs a all =
    rw (← get_or_push xs a 0 (length xs) refl) (all (length xs) 0 (omega (arith, length_push xs a)))

-- an arc has so much less left, and its reverse so much more
pub shift_two : (arcs : List Arc) (a back amount : ℕ) (x y : Arc) → a < length arcs → back < length arcs →
    back ≡ reverse_of a → x.tail ≡ tail_of arcs a → x.head ≡ head_of arcs a → x.allowed ≡ is_allowed arcs a →
    x.left + amount ≡ left_of arcs a → y.tail ≡ tail_of (set arcs a x) back → y.head ≡ head_of (set arcs a x) back →
    y.allowed ≡ is_allowed (set arcs a x) back → y.left ≡ left_of (set arcs a x) back + amount →
    Shifts arcs (set (set arcs a x) back y) a amount
shift_two arcs a back amount x y within back_in is x_tail x_head x_allowed x_left y_tail y_head y_allowed y_left =
    let inside : back < length (set arcs a x) = omega (arith, back_in, length-set arcs a x) in
    let apart : a ≢ back = λ same. reverse_other a (sym is ∙ sym same) in
    record {
      count = length-set (set arcs a x) back y ∙ length-set arcs a x;
      tails = λ b. set_keeps (λ arc. arc.tail) (set arcs a x) back y inside y_tail b (cases_eq b back)
          ∙ set_keeps (λ arc. arc.tail) arcs a x within x_tail b (cases_eq b a);
      heads = λ b. set_keeps (λ arc. arc.head) (set arcs a x) back y inside y_head b (cases_eq b back)
          ∙ set_keeps (λ arc. arc.head) arcs a x within x_head b (cases_eq b a);
      allowed = λ b. set_keeps (λ arc. arc.allowed) (set arcs a x) back y inside y_allowed b (cases_eq b back)
          ∙ set_keeps (λ arc. arc.allowed) arcs a x within x_allowed b (cases_eq b a);
      lowered = ap (λ arc. arc.left + amount) (get_or-set_other (set arcs a x) back a y no_arc apart
          ∙ get_or-set_same arcs a x no_arc within) ∙ x_left;
      raised = rw (← is) (ap (λ arc. arc.left) (get_or-set_same (set arcs a x) back y no_arc inside) ∙ y_left
          ∙ ap (λ arc. arc.left + amount) (get_or-set_other arcs a back x no_arc (λ same. apart (sym same))));
      others = λ b one two. ap (λ arc. arc.left)
          (get_or-set_other (set arcs a x) back b y no_arc (λ same. two (same ∙ is))
          ∙ get_or-set_other arcs a b x no_arc one);
    }

room_kept : (mid new : List Arc) (a amount : ℕ) → Shifts mid new a amount → (b : ℕ) → (b ≡ a) ⊎ (b ≢ a) →
    (b ≡ reverse_of a) ⊎ (b ≢ reverse_of a) → room_of new b ≡ room_of mid b
room_kept mid new a amount shifted b (inl same) back = rw same (omega (arith, shifted.lowered, shifted.raised))
room_kept mid new a amount shifted b (inr other) (inl back) =
    rw (back, reverse_twice a) (omega (arith, shifted.lowered, shifted.raised))
room_kept mid new a amount shifted b (inr other) (inr away) =
    let here = shifted.others b other away in
    let there = shifted.others (reverse_of b) (λ same. away (reverse_back b a same))
    (λ same. other (reverse_same b a same)) in
    omega (arith, here, there)

pub Pushes-none : (arcs : List Arc) (amount : ℕ) → Pushes arcs arcs [] amount
Pushes-none arcs amount = record {
  count = refl;
  tails = λ a. refl;
  heads = λ a. refl;
  allowed = λ a. refl;
  lowered = λ k d within. absurd (omega arith);
  raised = λ k d within. absurd (omega arith);
  others = λ a all. refl;
  rooms = λ a within. refl;
}

module _ (a : ℕ) (path : List ℕ) (apart : All (λ b. (b ≢ a) × (b ≢ reverse_of a)) path) where
  back_apart : (k d : ℕ) → k < length path → reverse_of (get_or path k d) ≢ a
  back_apart k d within same = (apart k d within).1 (reverse_back (get_or path k d) a same)

  backs_apart : (k d : ℕ) → k < length path → reverse_of (get_or path k d) ≢ reverse_of a
  backs_apart k d within same = (apart k d within).0 (reverse_same (get_or path k d) a same)

-- an arc that comes later on the path has as much left as before the push, and so has its reverse
pub untouched_before : (old mid : List Arc) (path : List ℕ) (amount a : ℕ) → Pushes old mid path amount →
    All (λ b. (b ≢ a) × (b ≢ reverse_of a)) path → left_of mid a ≡ left_of old a
untouched_before old mid path amount a pushed apart =
    pushed.others a (λ k d within. ((apart k d within).0, back_apart a path apart k d within))

back_untouched : (old mid : List Arc) (path : List ℕ) (amount a : ℕ) → Pushes old mid path amount →
    All (λ b. (b ≢ a) × (b ≢ reverse_of a)) path → left_of mid (reverse_of a) ≡ left_of old (reverse_of a)
back_untouched old mid path amount a pushed apart =
    pushed.others (reverse_of a) (λ k d within. ((apart k d within).1, backs_apart a path apart k d within))

module _ (old mid new : List Arc) (path : List ℕ) (a amount : ℕ) (pushed : Pushes old mid path amount)
    (shifted : Shifts mid new a amount) (apart : All (λ b. (b ≢ a) × (b ≢ reverse_of a)) path) where
  -- one more arc of the path
  pub Pushes-more : Pushes old new (path ++ a ∷ []) amount
  Pushes-more = record {
    count = shifted.count ∙ pushed.count;
    tails = λ b. shifted.tails b ∙ pushed.tails b;
    heads = λ b. shifted.heads b ∙ pushed.heads b;
    allowed = λ b. shifted.allowed b ∙ pushed.allowed b;
    lowered = All-push (λ b. left_of new b + amount ≡ left_of old b) path a
        (λ k d within. ap (λ n. n + amount) (shifted.others (get_or path k d) (apart k d within).0 (apart k d within).1)
        ∙ pushed.lowered k d within)
        (shifted.lowered ∙ untouched_before old mid path amount a pushed apart);
    raised = All-push (λ b. left_of new (reverse_of b) ≡ left_of old (reverse_of b) + amount) path a
        (λ k d within.
        shifted.others (reverse_of (get_or path k d)) (back_apart a path apart k d within)
        (backs_apart a path apart k d within)
        ∙ pushed.raised k d within)
        (shifted.raised ∙ ap (λ n. n + amount) (back_untouched old mid path amount a pushed apart));
    others = λ c all.
        let last = all_last (λ b. (b ≢ c) × (reverse_of b ≢ c)) path a all in
        shifted.others c (λ same. last.0 (sym same)) (λ same. last.1 (sym same))
        ∙ pushed.others c (all_first (λ b. (b ≢ c) × (reverse_of b ≢ c)) path a all);
    rooms = λ b within. room_kept mid new a amount shifted b (cases_eq b a) (cases_eq b (reverse_of a))
        ∙ pushed.rooms b within;
  }

-- the same arcs, save for what they have left and whether they are allowed
pub record SameEnds (old new : List Arc) : Type 0 where
  pub count : length new ≡ length old
  pub tails : (a : ℕ) → tail_of new a ≡ tail_of old a
  pub heads : (a : ℕ) → head_of new a ≡ head_of old a
  pub rooms : (a : ℕ) → a < length old → room_of new a ≡ room_of old a

pub SameEnds-pushed : (old new : List Arc) (path : List ℕ) (amount : ℕ) → Pushes old new path amount → SameEnds old new
SameEnds-pushed old new path amount pushed =
    record { count = pushed.count; tails = pushed.tails; heads = pushed.heads; rooms = pushed.rooms }

module _ (old new : List Arc) (same : SameEnds old new) where
  pub HasReverse-same : (a : ℕ) → HasReverse old a → HasReverse new a
  HasReverse-same a was = record {
    within = omega (arith, same.count, was.within);
    tail = same.tails (reverse_of a) ∙ was.tail ∙ sym (same.heads a);
    head = same.heads (reverse_of a) ∙ was.head ∙ sym (same.tails a);
  }

  pub AreSound-same : (nodes : ℕ) → AreSound nodes old → AreSound nodes new
  AreSound-same nodes was = record {
    even = ap (λ n. n % 2) same.count ∙ was.even;
    tails = λ a within. rw (same.tails a) (was.tails a (omega (arith, same.count)));
    heads = λ a within. rw (same.heads a) (was.heads a (omega (arith, same.count)));
    reverses = λ a within. HasReverse-same a (was.reverses a (omega (arith, same.count)));
    rooms = λ a within. let inside : a < length old = omega (arith, same.count) in
        omega (arith, same.rooms a inside, was.rooms a inside);
  }
