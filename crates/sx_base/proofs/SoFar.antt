-- How far a slice is filled or written, between two calls.
use Rattle.std.proofs.Common.{Bool, ◌≡◌, ℕ, ◌+◌, ◌-◌, ◌<◌, ◌≤◌, List, [], ◌++◌, length, take, drop, Option, None}
use Rattle.std.proofs.Common.{Some, refl, sym, ap, ◌∙◌, arith, add-zero, append_assoc, length-drop}
use Rattle.std.specs.Prelude.{IsTrue}
use Rattle.std.proofs.lemmas.Grind.{common_steps}
use Rattle.std.proofs.lemmas.List.{take_rest, take_all, drop_all, take_at, drop_at, drop-drop, length-take-le}
use Rattle.std.proofs.Math.Seq.{take-add}
use borrow.Rule.Slice.PartMut.{put_mid}
use Rattle.sx_base.specs.Outside.{Appends, TakesBytes, TakesPrefix}
use Rattle.sx_base.specs.Exact.{EndsEarly}

-- the first `got` bytes of a source are the first of a slice
pub record HasPrefix (bytes : List ℕ) (after : Option (List ℕ)) (got : ℕ) (old new : List ℕ) : Type 0 where
  pub enough : got ≤ length bytes
  pub left : after ≡ Some (drop got bytes)
  pub filled : new ≡ take got bytes ++ drop got old

abbrev pub IsFilledSoFar : Option (List ℕ) → Option (List ℕ) → ℕ → List ℕ → List ℕ → Type 0
IsFilledSoFar None after got old new = Unit {0}
IsFilledSoFar (Some bytes) after got old new = HasPrefix bytes after got old new

-- a loop that fills a slice
pub record FilledSoFar (before after : Option (List ℕ)) (strict_before strict : Bool) (faults_before faults got : ℕ)
    (old new : List ℕ) : Type 0 where
  pub within : got ≤ length old
  pub kept : strict ≡ strict_before
  pub steady : IsTrue strict_before → faults ≡ faults_before
  pub rises : faults_before ≤ faults
  pub filled : IsFilledSoFar before after got old new

-- a loop that writes a slice
pub record WrittenSoFar (before after : Option (List ℕ)) (strict_before strict : Bool) (faults_before faults done : ℕ)
    (bytes : List ℕ) : Type 0 where
  pub within : done ≤ length bytes
  pub kept : strict ≡ strict_before
  pub steady : IsTrue strict_before → faults ≡ faults_before
  pub rises : faults_before ≤ faults
  pub written : Appends before after (take done bytes)

-- a count that did not change in two calls of a strict object
pub steady_more : (a b : Bool) (x y z : ℕ) → b ≡ a → (IsTrue a → y ≡ x) → (IsTrue b → z ≡ y) → IsTrue a → z ≡ x
steady_more a b x y z kept before more strict = more (kept ∙ strict) ∙ before strict

-- what a slice holds after its rest from a place on is written over
rest_written : (a : ℕ) (xs ys : List ℕ) → put_mid a (length xs - a) xs ys ≡ take a xs ++ ys
rest_written a xs ys = grind (arith, common_steps, drop_all)

-- two fronts, one after the other
front_more : (bytes : List ℕ) (got n : ℕ) (old mid piece : List ℕ) → got ≤ length bytes → got ≤ length old →
    mid ≡ take got bytes ++ drop got old → piece ≡ take n (drop got bytes) ++ drop n (drop got mid) →
    take got mid ++ piece ≡ take (got + n) bytes ++ drop (got + n) old
front_more bytes got n old mid piece enough within is_mid is_piece =
    let length_front : length (take got bytes) ≡ got = length-take-le got bytes enough in
    let same_front : take got mid ≡ take got bytes = ap (take got) is_mid ∙ take_at _ _ got length_front in
    let same_rest : drop got mid ≡ drop got old = ap (drop got) is_mid ∙ drop_at _ _ got length_front in
    rw (same_front, is_piece, same_rest, take-add got n bytes, append_assoc, drop-drop n got old)

-- one take more
pub filled_more : (before middle after : Option (List ℕ)) (got n : ℕ) (old mid piece : List ℕ) → got ≤ length old →
    IsFilledSoFar before middle got old mid
    → TakesPrefix middle after n (take (length mid - got) (drop got mid)) piece →
    IsFilledSoFar before after (got + n) old (put_mid got (length mid - got) mid piece)
filled_more None middle after got n old mid piece within filled takes = tt
filled_more (Some bytes) middle after got n old mid piece within filled takes =
    let taken : TakesBytes (drop got bytes) after n (take (length mid - got) (drop got mid)) piece =
    rw filled.left at takes in
    let same_rest : take (length mid - got) (drop got mid) ≡ drop got mid = take_rest mid got in
    record {
      enough = omega (arith, taken.enough, filled.enough, length-drop got bytes);
      left = taken.left ∙ ap Some (drop-drop n got bytes);
      filled = rw rest_written (front_more bytes got n old mid piece filled.enough within filled.filled
          (rw same_rest at taken.filled));
    }

-- a take of nothing, where there was room
pub ends_here : (before middle after : Option (List ℕ)) (got : ℕ) (old mid piece : List ℕ) → got < length old
    → length mid ≡ length old →
    IsFilledSoFar before middle got old mid
    → TakesPrefix middle after 0 (take (length mid - got) (drop got mid)) piece →
    EndsEarly before after got old (put_mid got (length mid - got) mid piece)
ends_here None middle after got old mid piece within same_length filled takes = tt
ends_here (Some bytes) middle after got old mid piece within same_length filled takes =
    let taken : TakesBytes (drop got bytes) after 0 (take (length mid - got) (drop got mid)) piece =
    rw filled.left at takes in
    let none_left : drop got bytes ≡ [] = taken.at_end refl (rw take_rest (omega (arith, length-drop got mid))) in
    let got_all : got ≡ length bytes = omega (arith, filled.enough, length-drop got bytes, ap length none_left) in
    let more : HasPrefix bytes after (got + 0) old (put_mid got (length mid - got) mid piece) =
    filled_more (Some bytes) middle after got 0 old mid piece (omega arith) filled takes in
    record {
      all = got_all;
      too_few = omega arith;
      left = taken.left ∙ ap Some none_left;
      filled = more.filled ∙ rw (add-zero, take_all got bytes (omega arith));
    }

-- one put more
pub written_more : (before middle after : Option (List ℕ)) (done n : ℕ) (bytes : List ℕ) →
    Appends before middle (take done bytes) → Appends middle after (take n (drop done bytes))
    → Appends before after (take (done + n) bytes)
written_more None middle after done n bytes written appends = tt
written_more (Some old) middle after done n bytes written appends =
    let appended : after ≡ Some (old ++ (take done bytes ++ take n (drop done bytes))) = (rw written at appends)
    ∙ ap (λ xs. Some xs) (append_assoc old _ _) in
    appended ∙ ap (λ xs. Some (old ++ xs)) (sym (take-add done n bytes))
