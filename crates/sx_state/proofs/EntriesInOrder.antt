-- Entries of which each is read with the mark of the one before it in view.
use Rattle.std.proofs.Common.{◌≡◌, ℕ, zero, suc, ◌+◌, ◌-◌, ◌<◌, ◌≤◌, Bool, true, List, [], ◌∷◌, ◌++◌, length, map}
use Rattle.std.proofs.Common.{Option, Some, Result, Ok, Err, refl, sym, ap, subst, ◌∙◌, append_assoc, arith}
use Rattle.std.proofs.lemmas.Bool.{and_from}
use Rattle.std.proofs.lemmas.List.{append-nil}
use Rattle.std.specs.List.{flat_map, AllByRecursion}
use Rattle.sx_bytes.specs.declared.fault.FormFault.{FormFault}
use Rattle.sx_bytes.specs.declared.fault.ReadError.{ReadError}
use Rattle.sx_bytes.specs.declared.fault.ReadError.TheVariants as read_error
use Rattle.sx_bytes.specs.Field.{AreBytes}
use Rattle.sx_bytes.specs.Cursor.{Cursor, rest}
use Rattle.sx_bytes.specs.Grammar.{◌>>=◌, Fails, may_follow, in_order}
use Rattle.sx_bytes.proofs.Grammar.{bind_ok, Takes, Takes-none, Takes-then, Again}
use Rattle.sx_bytes.proofs.ListReading.{with_front, regroup}
use Rattle.sx_bytes.proofs.Ordered.{and_parts}
use Rattle.sx_bytes.proofs.DecodingSteps.{bytes_after}
use Rattle.sx_state.specs.Decoding.{each_at}

-- an entry, where the mark of the one before it is known
abbrev pub Entry : Type 0 → Type 0 → Type 0
Entry X M = Option M → Cursor → Result (X × Cursor) FormFault

-- ---- a loop that reads them

pub each_goes_on : {X M : Type 0} (entry : Entry X M) (mark : X → M) (front : List X) (count i : ℕ)
    (before : Option M) (c : Cursor) (x : X) (next : Cursor) (total : Result (List X × Cursor) FormFault)
    → i < count → entry before c ≡ Ok (x, next) → with_front front (each_at entry mark (count - i) before c) ≡ total
    → with_front (front ++ x ∷ []) (each_at entry mark (count - (i + 1)) (Some (mark x)) next) ≡ total
unfolding each_at
each_goes_on entry mark front count i before c x next total lt h so_far =
    let k : count - i ≡ suc (count - (i + 1)) = omega arith in
    let one : with_front front (each_at entry mark (count - i) before c)
    ≡ with_front (front ++ x ∷ []) (each_at entry mark (count - (i + 1)) (Some (mark x)) next) =
    rw (k, h) (regroup front x (each_at entry mark (count - (i + 1)) (Some (mark x)) next)) in
    sym one ∙ so_far

-- an entry that is not read
pub each_ends : {X M : Type 0} (entry : Entry X M) (mark : X → M) (e : ReadError) (front : List X) (count i : ℕ)
    (before : Option M) (c : Cursor) (total : Result (List X × Cursor) FormFault)
    → i < count → Fails e (entry before c) → with_front front (each_at entry mark (count - i) before c) ≡ total
    → Fails e total
unfolding each_at
each_ends entry mark read_error.NoMemory front count i before c total lt h so_far = tt
each_ends entry mark (read_error.Form f) front count i before c total lt h so_far =
    let k : count - i ≡ suc (count - (i + 1)) = omega arith in
    let one : with_front front (each_at entry mark (count - i) before c) ≡ Err f = rw (k, h) refl in
    sym so_far ∙ one

pub each_done : {X M : Type 0} (entry : Entry X M) (mark : X → M) (front : List X) (count i : ℕ) (before : Option M)
    (c : Cursor) (total : Result (List X × Cursor) FormFault)
    → count ≤ i → with_front front (each_at entry mark (count - i) before c) ≡ total → total ≡ Ok (front, c)
unfolding each_at
each_done {X} entry mark front count i before c total le so_far =
    let k : count - i ≡ 0 = omega arith in
    let one : with_front front (each_at entry mark (count - i) before c) ≡ Ok (front, c) =
    rw k (ap (λ (xs : List X). Ok (xs, c)) (append-nil front)) in
    sym so_far ∙ one

-- ---- what is decoded is an encoding, with its marks in order

-- what an entry at a place is
abbrev pub IsTaken : {X M : Type 0} → (X → List ℕ) → (X → M) → (M → M → Bool) → (X → Type 0) → Option M → Cursor
    → Cursor → X → Type 0
IsTaken encode mark precedes P before c next x = Takes c (encode x) next × P x
    × (may_follow precedes before (mark x) ≡ true)

-- what n entries at a place are
abbrev pub AreTaken : {X M : Type 0} → (X → List ℕ) → (X → M) → (M → M → Bool) → (X → Type 0) → ℕ → Option M → Cursor
    → Cursor → List X → Type 0
AreTaken encode mark precedes P n before c next xs =
    Takes c (flat_map encode xs) next × (length xs ≡ n) × AllByRecursion P xs
    × (in_order precedes before (map mark xs) ≡ true)

taken_more : {X M : Type 0} (encode : X → List ℕ) (mark : X → M) (precedes : M → M → Bool) (P : X → Type 0) (n : ℕ)
    (before : Option M) (c mid next : Cursor) (x : X) (xs : List X)
    → IsTaken encode mark precedes P before c mid x → AreTaken encode mark precedes P n (Some (mark x)) mid next xs
    → AreTaken encode mark precedes P (suc n) before c next (x ∷ xs)
taken_more encode mark precedes P n before c mid next x xs first more = (
  Takes-then c mid next (encode x) (flat_map encode xs) first.0 more.0,
  omega (arith, more.1),
  (first.1, more.2),
  and_from _ _ first.2 more.3,
)

pub each_takes : {X M : Type 0} (entry : Entry X M) (mark : X → M) (encode : X → List ℕ) (precedes : M → M
    → Bool) (P : X → Type 0)
    → ((before : Option M) (c next : Cursor) (x : X) → AreBytes c.bytes → entry before c ≡ Ok (x, next)
    → IsTaken encode mark precedes P before c next x)
    → (n : ℕ) (before : Option M) (c next : Cursor) (xs : List X) → AreBytes c.bytes
    → each_at entry mark n before c ≡ Ok (xs, next)
    → AreTaken encode mark precedes P n before c next xs
unfolding each_at
each_takes {X} entry mark encode precedes P takes zero before c next xs bytes e =
    let none : List X × Cursor = ([], c) in
    let same : none ≡ (xs, next) = cc in
    subst (λ (y : List X × Cursor). AreTaken encode mark precedes P 0 before c y.1 y.0) {x = none} {y =
    (xs, next)} same (Takes-none c, refl, tt, refl)
each_takes {X} entry mark encode precedes P takes (suc n) before c next xs bytes e =
    let a = bind_ok (entry before c) (λ first. each_at entry mark n (Some (mark first.0)) first.1 >>= λ others.
    Ok (first.0 ∷ others.0, others.1)) (xs, next) e in
    let b = bind_ok (each_at entry mark n (Some (mark a.0.0)) a.0.1) (λ others. Ok (a.0.0 ∷ others.0, others.1))
    (xs, next) a.2 in
    let t = takes before c a.0.1 a.0.0 bytes a.1 in
    let ts = each_takes entry mark encode precedes P takes n (Some (mark a.0.0)) a.0.1 b.0.1 b.0.0
    (bytes_after c a.0.1 (encode a.0.0) t.0 bytes) b.1 in
    let whole = taken_more encode mark precedes P n before c a.0.1 b.0.1 a.0.0 b.0.0 t ts in
    let made : List X × Cursor = (a.0.0 ∷ b.0.0, b.0.1) in
    let same : made ≡ (xs, next) = cc in
    subst (λ (y : List X × Cursor). AreTaken encode mark precedes P (suc n) before c y.1 y.0) {x = made} {y =
    (xs, next)} same whole

-- ---- an encoding is decoded

pub each_more : {X M : Type 0} (entry : Entry X M) (mark : X → M) (n : ℕ) (before : Option M) (c mid next : Cursor)
    (x : X) (xs : List X)
    → entry before c ≡ Ok (x, mid) → each_at entry mark n (Some (mark x)) mid ≡ Ok (xs, next)
    → each_at entry mark (suc n) before c ≡ Ok (x ∷ xs, next)
unfolding each_at
each_more entry mark n before c mid next x xs first others = rw (first, others) refl

pub each_again : {X M : Type 0} (entry : Entry X M) (mark : X → M) (encode : X → List ℕ) (precedes : M → M
    → Bool) (P : X → Type 0)
    → ((before : Option M) (c : Cursor) (x : X) (after : List ℕ) → P x → may_follow precedes before (mark x) ≡ true
    → c.place ≤ length c.bytes → rest c ≡ encode x ++ after → Again (entry before c) c x after)
    → (xs : List X) (before : Option M) (c : Cursor) (after : List ℕ) → AllByRecursion P xs
    → in_order precedes before (map mark xs) ≡ true → c.place ≤ length c.bytes
    → rest c ≡ flat_map encode xs ++ after → Again (each_at entry mark (length xs) before c) c xs after
unfolding each_at
each_again entry mark encode precedes P again [] before c after all ordered within e =
    record { next = c; is = refl; rest_is = e; same = refl; within = within }
each_again entry mark encode precedes P again (x ∷ xs) before c after all ordered within e =
    let o = and_parts (may_follow precedes before (mark x)) (in_order precedes (Some (mark x)) (map mark xs))
    ordered in
    let first = again before c x (flat_map encode xs ++ after) all.0 o.0 within (e
    ∙ append_assoc (encode x) (flat_map encode xs) after) in
    let others = each_again entry mark encode precedes P again xs (Some (mark x))
    first.next after all.1 o.1 first.within first.rest_is in
    record {
      next = others.next;
      is = each_more entry mark (length xs) before c first.next others.next x xs first.is others.is;
      rest_is = others.rest_is;
      same = ◌∙◌ {a = others.next.bytes} others.same first.same;
      within = others.within;
    }
