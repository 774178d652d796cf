-- A format of parts, one after the other: its laws from those of the parts.
use Rattle.std.proofs.Common.{◌≡◌, ℕ, ◌≤◌, List, [], ◌++◌, length, Result, Ok, refl, sym, ap, subst, ◌∙◌}
use Rattle.std.proofs.Common.{append_assoc, arith}
use Rattle.sx_bytes.specs.declared.fault.FormFault.{FormFault}
use Rattle.sx_bytes.specs.Field.{AreBytes}
use Rattle.sx_bytes.specs.Cursor.{Cursor, rest}
use Rattle.sx_bytes.specs.Grammar.{◌>>=◌}
use Rattle.sx_bytes.specs.Laws.{DecodesOnlyEncodings, DecodesEveryEncoding, IsInjective, IsPrefixFree}
use Rattle.sx_bytes.proofs.Grammar.{bind_ok, Takes, Takes-then, Again, done}
use Rattle.sx_bytes.proofs.DecodingSteps.{bytes_after, takes_moved, again_moved}

abbrev pub Reading : Type 0 → Type 0
Reading X = Cursor → Result (X × Cursor) FormFault

-- what is decoded is a value whose encoding is there
abbrev pub TakesAll : {X : Type 0} → Reading X → (X → List ℕ) → (X → Type 0) → Type 0
TakesAll {X = X} read encoding Is = (c next : Cursor) (x : X) → AreBytes c.bytes → read c ≡ Ok (x, next)
    → Takes c (encoding x) next × Is x

-- an encoding decodes to its value
abbrev pub ReadsAgain : {X : Type 0} → Reading X → (X → List ℕ) → (X → Type 0) → Type 0
ReadsAgain {X = X} read encoding Is = (c : Cursor) (x : X) (after : List ℕ) → Is x → c.place ≤ length c.bytes
    → rest c ≡ encoding x ++ after → Again (read c) c x after

-- the value and the cursor that a last step made
pub made_is : {Z : Type 0} (z z' : Z) (next next' : Cursor) → done {A = Z × Cursor} (z, next) ≡ Ok (z', next')
    → (z ≡ z') × (next ≡ next')
made_is {Z} z z' next next' e =
    let same : (z, next) ≡ (z', next') = cc in
    (ap (λ (y : Z × Cursor). y.0) same, ap (λ (y : Z × Cursor). y.1) same)

-- ---- two parts

abbrev pub two_at : {X Y Z : Type 0} → Reading X → Reading Y → (X → Y → Z) → Reading Z
two_at r1 r2 join c = r1 c >>= λ x. r2 x.1 >>= λ y. Ok (join x.0 y.0, y.1)

pub two_take : {X Y Z : Type 0} (r1 : Reading X) (r2 : Reading Y) (join : X → Y → Z) (s1 : X → List ℕ)
    (s2 : Y → List ℕ) (P1 : X → Type 0) (P2 : Y → Type 0)
    → TakesAll r1 s1 P1 → TakesAll r2 s2 P2 → (c next : Cursor) (z : Z) → AreBytes c.bytes
    → two_at r1 r2 join c ≡ Ok (z, next)
    → (x : X) × (y : Y) × (join x y ≡ z) × Takes c (s1 x ++ s2 y) next × P1 x × P2 y
two_take r1 r2 join s1 s2 P1 P2 take1 take2 c next z bytes e =
    let a = bind_ok (r1 c) (λ x. r2 x.1 >>= λ y. Ok (join x.0 y.0, y.1)) (z, next) e in
    let b = bind_ok (r2 a.0.1) (λ y. Ok (join a.0.0 y.0, y.1)) (z, next) a.2 in
    let t1 = take1 c a.0.1 a.0.0 bytes a.1 in
    let t2 = take2 a.0.1 b.0.1 b.0.0 (bytes_after c a.0.1 (s1 a.0.0) t1.0 bytes) b.1 in
    let is = made_is (join a.0.0 b.0.0) z b.0.1 next b.2 in
    let all = Takes-then c a.0.1 b.0.1 (s1 a.0.0) (s2 b.0.0) t1.0 t2.0 in
    (a.0.0, b.0.0, is.0, subst (λ (d : Cursor). Takes c (s1 a.0.0 ++ s2 b.0.0) d) is.1 all, t1.1, t2.1)

pub two_again : {X Y Z : Type 0} (r1 : Reading X) (r2 : Reading Y) (join : X → Y → Z) (s1 : X → List ℕ)
    (s2 : Y → List ℕ) (P1 : X → Type 0) (P2 : Y → Type 0)
    → ReadsAgain r1 s1 P1 → ReadsAgain r2 s2 P2 → (c : Cursor) (x : X) (y : Y) (after : List ℕ) → P1 x → P2 y
    → c.place ≤ length c.bytes
    → rest c ≡ (s1 x ++ s2 y) ++ after → Again (two_at r1 r2 join c) c (join x y) after
two_again r1 r2 join s1 s2 P1 P2 again1 again2 c x y after p1 p2 within e =
    let a = again1 c x (s2 y ++ after) p1 within (e ∙ append_assoc (s1 x) (s2 y) after) in
    let b = again2 a.next y after p2 a.within a.rest_is in
    record {
      next = b.next;
      is = rw a.is (rw b.is refl);
      rest_is = b.rest_is;
      same = b.same ∙ a.same;
      within =
          b.within;
    }

-- ---- three parts

abbrev pub three_at : {X Y W Z : Type 0} → Reading X → Reading Y → Reading W → (X → Y → W → Z) → Reading Z
three_at r1 r2 r3 join c = r1 c >>= λ x. r2 x.1 >>= λ y. r3 y.1 >>= λ w. Ok (join x.0 y.0 w.0, w.1)

pub three_take : {X Y W Z : Type 0} (r1 : Reading X) (r2 : Reading Y) (r3 : Reading W) (join : X → Y → W → Z)
    (s1 : X → List ℕ) (s2 : Y → List ℕ) (s3 : W → List ℕ) (P1 : X → Type 0) (P2 : Y → Type 0) (P3 : W → Type 0)
    → TakesAll r1 s1 P1 → TakesAll r2 s2 P2 → TakesAll r3 s3 P3 → (c next : Cursor) (z : Z) → AreBytes c.bytes
    → three_at r1 r2 r3 join c ≡ Ok (z, next)
    → (x : X) × (y : Y) × (w : W) × (join x y w ≡ z) × Takes c (s1 x ++ (s2 y ++ s3 w)) next × P1 x × P2 y × P3 w
three_take r1 r2 r3 join s1 s2 s3 P1 P2 P3 take1 take2 take3 c next z bytes e =
    let a = bind_ok (r1 c) (λ x. r2 x.1 >>= λ y. r3 y.1 >>= λ w. Ok (join x.0 y.0 w.0, w.1)) (z, next) e in
    let t1 = take1 c a.0.1 a.0.0 bytes a.1 in
    let b = two_take r2 r3 (join a.0.0) s2 s3 P2 P3 take2 take3 a.0.1 next z
    (bytes_after c a.0.1 (s1 a.0.0) t1.0 bytes) a.2 in
    (a.0.0, b.0, b.1, b.2, Takes-then c a.0.1 next (s1 a.0.0) (s2 b.0 ++ s3 b.1) t1.0 b.3, t1.1, b.4, b.5)

pub three_again : {X Y W Z : Type 0} (r1 : Reading X) (r2 : Reading Y) (r3 : Reading W) (join : X → Y → W → Z)
    (s1 : X → List ℕ) (s2 : Y → List ℕ) (s3 : W → List ℕ) (P1 : X → Type 0) (P2 : Y → Type 0) (P3 : W → Type 0)
    → ReadsAgain r1 s1 P1 → ReadsAgain r2 s2 P2 → ReadsAgain r3 s3 P3
    → (c : Cursor) (x : X) (y : Y) (w : W) (after : List ℕ) → P1 x → P2 y → P3 w → c.place ≤ length c.bytes
    → rest c ≡ (s1 x ++ (s2 y ++ s3 w)) ++ after → Again (three_at r1 r2 r3 join c) c (join x y w) after
three_again r1 r2 r3 join s1 s2 s3 P1 P2 P3 again1 again2 again3 c x y w after p1 p2 p3 within e =
    let a = again1 c x ((s2 y ++ s3 w) ++ after) p1 within (e ∙ append_assoc (s1 x) (s2 y ++ s3 w) after) in
    let b = two_again r2 r3 (join x) s2 s3 P2 P3 again2 again3 a.next y w after p2 p3 a.within a.rest_is in
    record { next = b.next; is = rw a.is b.is; rest_is = b.rest_is; same = b.same ∙ a.same; within = b.within }

-- ---- the laws of a format

pub decodes_only_encodings : {X : Type 0} (read : Reading X) (encoding : X → List ℕ) (Is : X → Type 0)
    → TakesAll read encoding Is → DecodesOnlyEncodings read encoding Is
decodes_only_encodings read encoding Is takes c next x bytes e = let t = takes c next x bytes e in
    (t.1, takes_moved c next (encoding x) t.0, t.0.parts)

pub decodes_every_encoding : {X : Type 0} (read : Reading X) (encoding : X → List ℕ) (Is : X → Type 0)
    → ReadsAgain read encoding Is → DecodesEveryEncoding read encoding Is
decodes_every_encoding read encoding Is again c x after is within e =
    again_moved (read c) c x (encoding x) after within e (again c x after is within e)

pub is_prefix_free : {X : Type 0} (read : Reading X) (encoding : X → List ℕ) (Is : X → Type 0)
    → ReadsAgain read encoding Is → IsPrefixFree encoding Is
is_prefix_free read encoding Is again p q x y is_p is_q e =
    let c : Cursor = record { bytes = encoding p ++ x; place = 0 } in
    let a = again c p x is_p (omega arith) refl in
    let b = again c q y is_q (omega arith) e in
    let both = made_is p q a.next b.next (sym a.is ∙ b.is) in
    (both.0, sym a.rest_is ∙ ap rest both.1 ∙ b.rest_is)

pub is_injective : {X : Type 0} (read : Reading X) (encoding : X → List ℕ) (Is : X → Type 0)
    → ReadsAgain read encoding Is → IsInjective encoding Is
is_injective read encoding Is again p q is_p is_q e =
    (is_prefix_free read encoding Is again p q [] [] is_p is_q (ap (λ (t : List ℕ). t ++ []) e)).0
