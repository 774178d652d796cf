-- Entries in order: decoding yields entries that are in order and whose encoding is there, and back.
use Rattle.std.proofs.Common.{◌≡◌, ℕ, zero, suc, ◌+◌, ◌-◌, ◌<◌, ◌≤◌, Bool, true, false, cond, ◌&&◌, List, [], ◌∷◌}
use Rattle.std.proofs.Common.{◌++◌, length, Option, Some, Result, Ok, Err, refl, sym, ap, subst, ◌∙◌, append_assoc}
use Rattle.std.proofs.Common.{arith}
use Rattle.std.proofs.lemmas.List.{append-nil}
use Rattle.std.specs.List.{flat_map, AllByRecursion}
use Rattle.sx_bytes.specs.declared.fault.Form.{Form}
use Rattle.sx_bytes.specs.declared.fault.FormFault.{FormFault}
use Rattle.sx_bytes.specs.declared.fault.ReadError.{ReadError}
use Rattle.sx_bytes.specs.declared.fault.ReadError.TheVariants as read_error
use Rattle.sx_bytes.specs.Field.{AreBytes}
use Rattle.sx_bytes.specs.Cursor.{Cursor, rest}
use Rattle.sx_bytes.specs.Grammar.{◌>>=◌, Fails, may_follow, in_order, ordered_at}
use Rattle.sx_bytes.proofs.Grammar.{bind_ok, guard_ok, Takes, Takes-none, Takes-then, Again, done}
use Rattle.sx_bytes.proofs.ListReading.{with_front, regroup}

and_true : (a b : Bool) → a ≡ true → b ≡ true → (a && b) ≡ true
and_true true b p q = q
and_true false b p q = absurd cc

pub and_parts : (a b : Bool) → (a && b) ≡ true → (a ≡ true) × (b ≡ true)
and_parts true b e = (refl, e)
and_parts false b e = absurd cc

-- the tests that an entry passed
abbrev placed : {X : Type 0} → (X → X → Bool) → Form → Option X → Cursor → X × Cursor → Result (X × Cursor) FormFault
placed precedes fault before c first =
    cond (may_follow precedes before first.0) (Ok first) (Err (record { at = c.place; fault = fault }))

takes_more : {X : Type 0} (encode : X → List ℕ) (P : X → Type 0) (precedes : X → X → Bool) (before : Option X) (n : ℕ)
    (c mid last next : Cursor) (x : X) (others xs : List X)
    → Takes c (encode x) mid × P x → may_follow precedes before x ≡ true
    → Takes mid (flat_map encode others) last × (length others ≡ n) × AllByRecursion P others
    × (in_order precedes (Some x) others ≡ true)
    → done {A = List X × Cursor} (x ∷ others, last) ≡ Ok (xs, next)
    → Takes c (flat_map encode xs) next × (length xs ≡ suc n) × AllByRecursion P xs
    × (in_order precedes before xs ≡ true)
takes_more {X} encode P precedes before n c mid last next x others xs first follows more e =
    let len : length (x ∷ others) ≡ suc n = omega (arith, more.1) in
    let ordered : in_order precedes before (x ∷ others) ≡ true =
    and_true (may_follow precedes before x) (in_order precedes (Some x) others) follows more.3 in
    let same : (x ∷ others, last) ≡ (xs, next) = cc in
    let xs-is : x ∷ others ≡ xs = ap (λ (y : List X × Cursor). y.0) same in
    let next-is : last ≡ next = ap (λ (y : List X × Cursor). y.1) same in
    let both : Takes c (flat_map encode (x ∷ others)) last =
    Takes-then c mid last (encode x) (flat_map encode others) first.0 more.0 in
    let at_last : Takes c (flat_map encode xs) last =
    subst (λ (ys : List X). Takes c (flat_map encode ys) last) xs-is both in
    let all : AllByRecursion P xs = subst (AllByRecursion P) xs-is (first.1, more.2) in (
      subst (λ (d : Cursor). Takes c (flat_map encode xs) d) next-is at_last,
      ap length (sym xs-is)
          ∙ len,
      all,
      ap (in_order precedes before) (sym xs-is) ∙ ordered,
    )

takes_at : {X : Type 0} (encode : X → List ℕ) (P : X → Type 0) (c : Cursor) (one other : X × Cursor)
    → Takes c (encode one.0) one.1 × P one.0 → one ≡ other → Takes c (encode one.0) other.1 × P one.0
takes_at {X} encode P c one other t e = (subst (λ (y : X × Cursor). Takes c (encode one.0) y.1) e t.0, t.1)

pub ordered_takes : {X : Type 0} (entry : Cursor → Result (X × Cursor) FormFault) (encode : X → List ℕ)
    (P : X → Type 0) (precedes : X → X → Bool) (fault : Form)
    → ((c next : Cursor) (x : X) → AreBytes c.bytes → entry c ≡ Ok (x, next) → Takes c (encode x) next × P x)
    → (n : ℕ) (before : Option X) (c next : Cursor) (xs : List X) → AreBytes c.bytes
    → ordered_at entry precedes fault n before c ≡ Ok (xs, next)
    → Takes c (flat_map encode xs) next × (length xs ≡ n) × AllByRecursion P xs × (in_order precedes before xs ≡ true)
unfolding ordered_at
ordered_takes {X} entry encode P precedes fault takes zero before c next xs bytes e =
    let same : ([], c) ≡ (xs, next) = cc in
    subst (λ (y : List X × Cursor). Takes c (flat_map encode y.0) y.1 × (length y.0 ≡ 0) × AllByRecursion P y.0
    × (in_order precedes before y.0 ≡ true)) same (Takes-none c, refl, tt, refl)
ordered_takes {X} entry encode P precedes fault takes (suc n) before c next xs bytes e =
    let a = bind_ok (entry c) (λ first. placed precedes fault before c first >>= λ here. ordered_at entry precedes
    fault n (Some first.0) here.1 >>= λ others. Ok (first.0 ∷ others.0, others.1)) (xs, next) e in
    let p = bind_ok (placed precedes fault before c a.0)
    (λ here. ordered_at entry precedes fault n (Some a.0.0) here.1 >>= λ others. Ok (a.0.0 ∷ others.0, others.1))
    (xs, next) a.2 in
    let g = guard_ok (may_follow precedes before a.0.0) a.0 p.0 (record { at = c.place; fault = fault }) p.1 in
    let b = bind_ok (ordered_at entry precedes fault n (Some a.0.0) p.0.1) (λ others. Ok (a.0.0 ∷ others.0, others.1))
    (xs, next) p.2 in
    let t = takes c a.0.1 a.0.0 bytes a.1 in
    let first = takes_at encode P c a.0 p.0 t g.1 in
    let more = ordered_takes entry encode P precedes fault takes n (Some a.0.0) p.0.1 b.0.1 b.0.0
    (subst AreBytes (sym first.0.same) bytes) b.1 in
    takes_more encode P precedes before n c p.0.1 b.0.1 next a.0.0 b.0.0 xs first g.0 more b.2

ordered_more : {X : Type 0} (entry : Cursor → Result (X × Cursor) FormFault) (precedes : X → X → Bool) (fault : Form)
    (n : ℕ) (before : Option X) (c mid next : Cursor) (x : X) (xs : List X)
    → entry c ≡ Ok (x, mid) → may_follow precedes before x ≡ true
    → ordered_at entry precedes fault n (Some x) mid ≡ Ok (xs, next)
    → ordered_at entry precedes fault (suc n) before c ≡ Ok (x ∷ xs, next)
unfolding ordered_at
ordered_more entry precedes fault n before c mid next x xs first follows others = rw (first, follows, others) refl

pub ordered_again : {X : Type 0} (entry : Cursor → Result (X × Cursor) FormFault) (encode : X → List ℕ)
    (P : X → Type 0) (precedes : X → X → Bool) (fault : Form)
    → ((c : Cursor) (x : X) (after : List ℕ) → P x → c.place ≤ length c.bytes → rest c ≡ encode x ++ after
    → Again (entry c) c x after)
    → (xs : List X) (before : Option X) (c : Cursor) (after : List ℕ) → AllByRecursion P xs
    → in_order precedes before xs ≡ true → c.place ≤ length c.bytes
    → rest c ≡ flat_map encode xs ++ after → Again (ordered_at entry precedes fault (length xs) before c) c xs after
unfolding ordered_at
ordered_again entry encode P precedes fault again [] before c after all ordered within e =
    record { next = c; is = refl; rest_is = e; same = refl; within = within }
ordered_again entry encode P precedes fault again (x ∷ xs) before c after all ordered within e =
    let o = and_parts (may_follow precedes before x) (in_order precedes (Some x) xs) ordered in
    let first = again c x (flat_map encode xs ++ after) all.0 within
    (e ∙ append_assoc (encode x) (flat_map encode xs) after) in
    let others = ordered_again entry encode P precedes fault again xs (Some x) first.next after all.1 o.1 first.within
    first.rest_is in
    record {
      next = others.next;
      is = ordered_more entry precedes fault (length xs) before c first.next others.next x xs first.is o.0 others.is;
      rest_is = others.rest_is;
      same = others.same ∙ first.same;
      within = others.within;
    }

-- ---- a loop that reads them

pub ordered_goes_on : {X : Type 0} (entry : Cursor → Result (X × Cursor) FormFault) (precedes : X → X → Bool)
    (fault : Form) (front : List X) (count i : ℕ) (before : Option X) (c : Cursor) (x : X) (next : Cursor)
    (total : Result (List X × Cursor) FormFault)
    → i < count → entry c ≡ Ok (x, next) → may_follow precedes before x ≡ true
    → with_front front (ordered_at entry precedes fault (count - i) before c) ≡ total
    → with_front (front ++ x ∷ []) (ordered_at entry precedes fault (count - (i + 1)) (Some x) next) ≡ total
unfolding ordered_at
ordered_goes_on entry precedes fault front count i before c x next total lt h follows so_far =
    let k : count - i ≡ suc (count - (i + 1)) = omega arith in
    let one : with_front front (ordered_at entry precedes fault (count - i) before c) ≡ with_front (front ++ x ∷ [])
    (ordered_at entry precedes fault (count - (i + 1)) (Some x) next) =
    rw (k, h, follows) (regroup front x (ordered_at entry precedes fault (count - (i + 1)) (Some x) next)) in
    sym one ∙ so_far

-- an entry that is not read
pub ordered_ends : {X : Type 0} (entry : Cursor → Result (X × Cursor) FormFault) (precedes : X → X → Bool)
    (fault : Form) (e : ReadError) (front : List X) (count i : ℕ) (before : Option X) (c : Cursor)
    (total : Result (List X × Cursor) FormFault)
    → i < count → Fails e (entry c) → with_front front (ordered_at entry precedes fault (count - i) before c) ≡ total
    → Fails e total
unfolding ordered_at
ordered_ends entry precedes fault read_error.NoMemory front count i before c total lt h so_far = tt
ordered_ends entry precedes fault (read_error.Form f) front count i before c total lt h so_far =
    let k : count - i ≡ suc (count - (i + 1)) = omega arith in
    let one : with_front front (ordered_at entry precedes fault (count - i) before c) ≡ Err f = rw (k, h) refl in
    sym so_far ∙ one

-- an entry that does not follow the one before it
pub ordered_breaks : {X : Type 0} (entry : Cursor → Result (X × Cursor) FormFault) (precedes : X → X → Bool)
    (fault : Form) (front : List X) (count i : ℕ) (before : Option X) (c : Cursor) (x : X) (next : Cursor)
    (total : Result (List X × Cursor) FormFault)
    → i < count → entry c ≡ Ok (x, next) → may_follow precedes before x ≡ false
    → with_front front (ordered_at entry precedes fault (count - i) before c) ≡ total
    → total ≡ Err (record { at = c.place; fault = fault })
unfolding ordered_at
ordered_breaks entry precedes fault front count i before c x next total lt h follows so_far =
    let k : count - i ≡ suc (count - (i + 1)) = omega arith in
    let one : with_front front (ordered_at entry precedes fault (count - i) before c) ≡ Err
    (record { at = c.place; fault = fault }) = rw (k, h, follows) refl in
    sym so_far ∙ one

pub ordered_done : {X : Type 0} (entry : Cursor → Result (X × Cursor) FormFault) (precedes : X → X → Bool)
    (fault : Form) (front : List X) (count i : ℕ) (before : Option X) (c : Cursor)
    (total : Result (List X × Cursor) FormFault)
    → count ≤ i → with_front front (ordered_at entry precedes fault (count - i) before c) ≡ total
    → total ≡ Ok (front, c)
unfolding ordered_at
ordered_done {X} entry precedes fault front count i before c total le so_far =
    let k : count - i ≡ 0 = omega arith in
    let one : with_front front (ordered_at entry precedes fault (count - i) before c) ≡ Ok (front, c) =
    rw k (ap (λ (xs : List X). Ok (xs, c)) (append-nil front)) in
    sym so_far ∙ one
