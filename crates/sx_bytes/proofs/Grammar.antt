-- Decoding a field or a list yields a value whose encoding is there, and an encoding decodes to its value.
use Rattle.std.proofs.Common.{◌≡◌, ℕ, zero, suc, ◌+◌, ◌-◌, ◌^◌, ◌<◌, ◌≤◌, Bool, true, false, cond, ltb, List, [], ◌∷◌}
use Rattle.std.proofs.Common.{◌++◌, length, take, drop, Result, Ok, Err, refl, sym, ap, subst, ◌∙◌, append_assoc}
use Rattle.std.proofs.Common.{arith, inl, inr}
use Rattle.std.proofs.lemmas.Bool.{cases_lt, ltb-false, le-ltb}
use Rattle.std.proofs.lemmas.List.{take_at, drop_at, take-append-drop, length-append, length-take, length-drop}
use Rattle.std.proofs.lemmas.List.{drop-drop, get_or-drop, get_or-take, get_or_past}
use Rattle.std.specs.List.{flat_map, AllByRecursion}
use Rattle.byteorder.specs.Endian.{big_bytes, big_number}
use Rattle.byteorder.specs.Numbers.{big_from-lt}
use Rattle.sx_bytes.specs.declared.fault.Form.{Form}
use Rattle.sx_bytes.specs.declared.fault.FormFault.{FormFault}
use Rattle.sx_bytes.specs.declared.fault.Short.{Short}
use Rattle.sx_bytes.specs.Field.{AreBytes}
use Rattle.sx_bytes.specs.Cursor.{Cursor, rest, moved, uint_at}
use Rattle.sx_bytes.specs.Grammar.{◌>>=◌, or_fault, field_at, many_at}
use Rattle.sx_bytes.proofs.Field.{length-big_bytes, big_bytes-big_number, big_number-big_bytes}

-- the value of a step that did not fail
pub bind_ok : {A B E : Type 0} (r : Result A E) (f : A → Result B E) (y : B) → (r >>= f) ≡ Ok y → (x : A) × (r ≡ Ok x)
    × (f x ≡ Ok y)
bind_ok (Ok x) f y e = (x, refl, e)
bind_ok (Err d) f y e = absurd cc

-- a test that passed
pub guard_ok : {A E : Type 0} (b : Bool) (x y : A) (d : E) → cond b (Ok x) (Err d) ≡ Ok y → (b ≡ true) × (x ≡ y)
guard_ok true x y d e = (refl, cc)
guard_ok false x y d e = absurd cc

-- a test that let bytes pass where enough are left
pub guard_short : {A E : Type 0} (b : Bool) (d : E) (x y : A) → cond b (Err d) (Ok x) ≡ Ok y → (b ≡ false) × (x ≡ y)
guard_short true d x y e = absurd cc
guard_short false d x y e = (refl, cc)

pub AreBytes-drop : (n : ℕ) (bytes : List ℕ) → AreBytes bytes → AreBytes (drop n bytes)
AreBytes-drop n bytes h i = rw get_or-drop (h (n + i))

pub AreBytes-take : (n : ℕ) (bytes : List ℕ) → AreBytes bytes → AreBytes (take n bytes)
AreBytes-take n bytes h i =
    elim (cases_lt i n) [
      | inl lt ↦ rw (get_or-take n bytes i 0 lt) (h i)
      | inr le ↦ rw (get_or_past (take n bytes) i 0 (omega (arith, length-take n bytes))) (omega arith)
    ]

-- text is at c, and next is after it
pub record Takes (c : Cursor) (text : List ℕ) (next : Cursor) : Type 0 where
  pub same : next.bytes ≡ c.bytes
  pub place : next.place ≡ c.place + length text
  pub parts : rest c ≡ text ++ rest next
  pub within : c.place ≤ length c.bytes → next.place ≤ length next.bytes

pub Takes-none : (c : Cursor) → Takes c [] c
Takes-none c = record { same = refl; place = omega arith; parts = refl; within = λ h. h }

pub Takes-then : (a b c : Cursor) (x y : List ℕ) → Takes a x b → Takes b y c → Takes a (x ++ y) c
Takes-then a b c x y p q = record {
  same = q.same ∙ p.same;
  place = omega (arith, p.place, q.place, length-append x y);
  parts = p.parts ∙ ap (λ (t : List ℕ). x ++ t) q.parts ∙ sym (append_assoc x y (rest c));
  within = λ h. q.within (p.within h);
}

-- ---- a field

pub or_fault_ok : {A : Type 0} (r : Result A Short) (x : A) → or_fault r ≡ Ok x → r ≡ Ok x
or_fault_ok (Ok y) x e = cc
or_fault_ok (Err d) x e = absurd cc

pub moved_takes : (n : ℕ) (c : Cursor) → n ≤ length c.bytes - c.place → Takes c (take n (rest c)) (moved n c)
moved_takes n c enough =
    let len : length (take n (rest c)) ≡ n = omega (arith, length-take n (rest c), length-drop c.place c.bytes) in
    record {
      same = refl;
      place = omega arith;
      parts = sym (take-append-drop n (rest c))
          ∙ ap (λ (t : List ℕ). take n (rest c) ++ t) (drop-drop n c.place c.bytes);
      within = λ h. omega arith;
    }

pub field_takes : (n : ℕ) (passes : ℕ → Bool) (fault : Form) (c next : Cursor) (x : ℕ) → AreBytes c.bytes
    → field_at n passes fault c ≡ Ok (x, next)
    → Takes c (big_bytes n x) next × (passes x ≡ true) × (x < 256 ^ n)
field_takes n passes fault c next x bytes e =
    let b = bind_ok (or_fault (uint_at n c))
    (λ y. cond (passes y.0) (Ok y) (Err (record { at = c.place; fault = fault }))) (x, next) e in
    let read = or_fault_ok (uint_at n c) b.0 b.1 in
    let g = guard_short (ltb (length c.bytes - c.place) n) (record { at = length c.bytes })
    (big_number n (take n (rest c)), moved n c) b.0 read in
    let enough : n ≤ length c.bytes - c.place = ltb-false _ _ g.0 in
    let t = guard_ok (passes b.0.0) b.0 (x, next) (record { at = c.place; fault = fault }) b.2 in
    let text = take n (rest c) in
    let are : AreBytes text = AreBytes-take n (rest c) (AreBytes-drop c.place c.bytes bytes) in
    let len : length text ≡ n = omega (arith, length-take n (rest c), length-drop c.place c.bytes) in
    let encoded : big_bytes n (big_number n text) ≡ text = big_bytes-big_number n text are len in
    let whole : Takes c (big_bytes n (big_number n text)) (moved n c) =
    subst (λ (s : List ℕ). Takes c s (moved n c)) (sym encoded) (moved_takes n c enough) in
    let x-is : big_number n text ≡ x = ap (λ (y : ℕ × Cursor). y.0) g.1 ∙ ap (λ (y : ℕ × Cursor). y.0) t.1 in
    let next-is : moved n c ≡ next = ap (λ (y : ℕ × Cursor). y.1) g.1 ∙ ap (λ (y : ℕ × Cursor). y.1) t.1 in
    let pass : passes x ≡ true = ap (λ (y : ℕ × Cursor). passes y.0) (sym t.1) ∙ t.0 in
    (rw (← x-is, ← next-is) whole, pass, rw (← x-is) (big_from-lt 0 n text are))

-- the encoding at c decodes to x, and these bytes are after it
pub record Again {X : Type 0} (read : Result (X × Cursor) FormFault) (c : Cursor) (x : X) (after : List ℕ) :
    Type 0 where
  pub next : Cursor
  pub is : read ≡ Ok (x, next)
  pub rest_is : rest next ≡ after
  pub same : next.bytes ≡ c.bytes
  pub within : next.place ≤ length next.bytes

pub length-rest : (c : Cursor) → length (rest c) ≡ length c.bytes - c.place
length-rest c = length-drop c.place c.bytes

pub field_again : (n : ℕ) (passes : ℕ → Bool) (fault : Form) (c : Cursor) (x : ℕ) (after : List ℕ) → x < 256 ^ n
    → passes x ≡ true → c.place ≤ length c.bytes
    → rest c ≡ big_bytes n x ++ after → Again (field_at n passes fault c) c x after
field_again n passes fault c x after fits pass within e =
    let len : length (rest c) ≡ n + length after =
    ap length e ∙ omega (arith, length-append (big_bytes n x) after, length-big_bytes n x) in
    let enough : n ≤ length c.bytes - c.place = omega (arith, length-rest c) in
    let long : ltb (length c.bytes - c.place) n ≡ false = le-ltb _ _ enough in
    let front : take n (rest c) ≡ big_bytes n x =
    ap (take n) e ∙ take_at (big_bytes n x) after n (length-big_bytes n x) in
    let number : big_number n (take n (rest c)) ≡ x = ap (big_number n) front ∙ big_number-big_bytes n x fits in
    let read : uint_at n c ≡ Ok (x, moved n c) = rw (long, number) refl in
    record {
      next = moved n c;
      is = rw read (rw pass refl);
      rest_is = sym (drop-drop n c.place c.bytes) ∙ ap (drop n) e
          ∙ drop_at (big_bytes n x) after n (length-big_bytes n x);
      same = refl;
      within = omega arith;
    }

-- ---- n entries

abbrev pub done : {A : Type 0} → A → Result A FormFault
done x = Ok x

takes_more : {X : Type 0} (encode : X → List ℕ) (P : X → Type 0) (n : ℕ) (c mid last next : Cursor) (x : X)
    (others xs : List X)
    → Takes c (encode x) mid × P x → Takes mid (flat_map encode others) last × (length others ≡ n)
    × AllByRecursion P others
    → done {A = List X × Cursor} (x ∷ others, last) ≡ Ok (xs, next) → Takes c (flat_map encode xs) next
    × (length xs ≡ suc n) × AllByRecursion P xs
takes_more {X} encode P n c mid last next x others xs first more e =
    let len : length (x ∷ others) ≡ suc n = omega (arith, more.1) in
    let same : (x ∷ others, last) ≡ (xs, next) = cc in
    let xs-is : x ∷ others ≡ xs = ap (λ (y : List X × Cursor). y.0) same in
    let next-is : last ≡ next = ap (λ (y : List X × Cursor). y.1) same in
    let both : Takes c (flat_map encode (x ∷ others)) last =
    Takes-then c mid last (encode x) (flat_map encode others) first.0 more.0 in
    let at_last : Takes c (flat_map encode xs) last =
    subst (λ (ys : List X). Takes c (flat_map encode ys) last) xs-is both in
    let all : AllByRecursion P xs = subst (AllByRecursion P) xs-is (first.1, more.2) in
    (subst (λ (d : Cursor). Takes c (flat_map encode xs) d) next-is at_last, ap length (sym xs-is) ∙ len, all)

pub many_takes : {X : Type 0} (entry : Cursor → Result (X × Cursor) FormFault) (encode : X → List ℕ) (P : X → Type 0)
    → ((c next : Cursor) (x : X) → AreBytes c.bytes → entry c ≡ Ok (x, next) → Takes c (encode x) next × P x)
    → (n : ℕ) (c next : Cursor) (xs : List X) → AreBytes c.bytes → many_at entry n c ≡ Ok (xs, next)
    → Takes c (flat_map encode xs) next × (length xs ≡ n) × AllByRecursion P xs
unfolding many_at
many_takes {X} entry encode P takes zero c next xs bytes e =
    let same : ([], c) ≡ (xs, next) = cc in
    subst (λ (y : List X × Cursor). Takes c (flat_map encode y.0) y.1 × (length y.0 ≡ 0) × AllByRecursion P y.0) same
    (Takes-none c, refl, tt)
many_takes {X} entry encode P takes (suc n) c next xs bytes e =
    let a = bind_ok (entry c) (λ first. many_at entry n first.1 >>= λ others. Ok (first.0 ∷ others.0, others.1))
    (xs, next) e in
    let b = bind_ok (many_at entry n a.0.1) (λ others. Ok (a.0.0 ∷ others.0, others.1)) (xs, next) a.2 in
    let t = takes c a.0.1 a.0.0 bytes a.1 in
    let ts = many_takes entry encode P takes n a.0.1 b.0.1 b.0.0 (subst AreBytes (sym t.0.same) bytes) b.1 in
    takes_more encode P n c a.0.1 b.0.1 next a.0.0 b.0.0 xs t ts b.2

pub many_again : {X : Type 0} (entry : Cursor → Result (X × Cursor) FormFault) (encode : X → List ℕ) (P : X → Type 0)
    → ((c : Cursor) (x : X) (after : List ℕ) → P x → c.place ≤ length c.bytes → rest c ≡ encode x ++ after
    → Again (entry c) c x after)
    → (xs : List X) (c : Cursor) (after : List ℕ) → AllByRecursion P xs → c.place ≤ length c.bytes
    → rest c ≡ flat_map encode xs ++ after
    → Again (many_at entry (length xs) c) c xs after
unfolding many_at
many_again entry encode P again [] c after all within e =
    record { next = c; is = refl; rest_is = e; same = refl; within = within }
many_again entry encode P again (x ∷ xs) c after all within e =
    let first = again c x (flat_map encode xs ++ after) all.0 within
    (e ∙ append_assoc (encode x) (flat_map encode xs) after) in
    let others = many_again entry encode P again xs first.next after all.1 first.within first.rest_is in
    record {
      next = others.next;
      is = rw first.is (rw others.is refl);
      rest_is = others.rest_is;
      same = others.same ∙ first.same;
      within = others.within;
    }
