-- A part of a format by which the part after it is decoded, and a part that is tested once it is decoded.
use Rattle.std.proofs.Common.{◌≡◌, ℕ, Bool, true, List, ◌++◌, length, Result, Ok, refl, sym, ap, subst, ◌∙◌}
use Rattle.std.proofs.Common.{append_assoc}
use Rattle.std.specs.List.{flat_map}
use Rattle.std.specs.Prelude.{All}
use Rattle.std.proofs.lemmas.List.Elements.{All-from_recursion, recursion_from_All}
use Rattle.byteorder.specs.Endian.{big_bytes}
use Rattle.sx_bytes.specs.declared.fault.FormFault.{FormFault}
use Rattle.sx_bytes.specs.Cursor.{Cursor}
use Rattle.sx_bytes.specs.Grammar.{◌>>=◌, many_at}
use Rattle.sx_bytes.proofs.Grammar.{bind_ok, guard_ok, Takes, Takes-then, Again, many_takes, many_again}
use Rattle.sx_bytes.proofs.Parts.{Reading, TakesAll, ReadsAgain}
use Rattle.sx_bytes.proofs.DecodingSteps.{bytes_after, again_then}
use Rattle.sx_state.specs.Decoding.{guarded}

module _ {X Y : Type 0} (first : Reading X) (others : X → Reading Y) (s1 : X → List ℕ) (s2 : Y → List ℕ)
    (P : X → Type 0) (Q : X → Y → Type 0) (of : Y → X) where
  -- what is read first, and by it the whole
  abbrev pub chained_at : Reading Y
  chained_at c = first c >>= λ x. others x.0 x.1

  abbrev pub chained_bytes : Y → List ℕ
  chained_bytes y = s1 (of y) ++ s2 y

  abbrev pub IsChained : Y → Type 0
  IsChained y = P (of y) × Q (of y) y

  pub chained_takes : TakesAll first s1 P → ((x : X) → P x → TakesAll (others x) s2 (Q x))
      → ((x : X) (y : Y) → Q x y → x ≡ of y) → TakesAll chained_at chained_bytes IsChained
  chained_takes take1 take2 same c next y bytes e =
      let a = bind_ok (first c) (λ x. others x.0 x.1) (y, next) e in
      let t1 = take1 c a.0.1 a.0.0 bytes a.1 in
      let t2 = take2 a.0.0 t1.1 a.0.1 next y (bytes_after c a.0.1 (s1 a.0.0) t1.0 bytes) a.2 in
      let text = Takes-then c a.0.1 next (s1 a.0.0) (s2 y) t1.0 t2.0 in
      subst (λ (x : X). Takes c (s1 x ++ s2 y) next × (P x × Q x y)) (same a.0.0 y t2.1) (text, (t1.1, t2.1))

  pub chained_again : ReadsAgain first s1 P → ((x : X) → P x → ReadsAgain (others x) s2 (Q x))
      → ReadsAgain chained_at chained_bytes IsChained
  chained_again again1 again2 c y after is within e =
      let one = again1 c (of y) (s2 y ++ after) is.0 within (e ∙ append_assoc (s1 (of y)) (s2 y) after) in
      again_then (first c) (λ x. others x.0 x.1) c (of y) y (s2 y ++ after) after one
      (again2 (of y) is.0 one.next y after is.1 one.within one.rest_is)

-- ---- a part that is tested

pub guard_takes : {X : Type 0} (r : Result (X × Cursor) FormFault) (passes : X → Bool) (fault : FormFault) (y : X
    × Cursor)
    → (r >>= λ x. guarded (passes x.0) x fault) ≡ Ok y → (r ≡ Ok y) × (passes y.0 ≡ true)
guard_takes {X} r passes fault y e =
    let a = bind_ok r (λ x. guarded (passes x.0) x fault) y e in
    let g = guard_ok (passes a.0.0) a.0 y fault a.2 in
    (a.1 ∙ ap (λ (z : X × Cursor). Ok z) g.1, ap (λ (z : X × Cursor). passes z.0) (sym g.1) ∙ g.0)

pub guard_again : {X : Type 0} (r : Result (X × Cursor) FormFault) (passes : X → Bool) (fault : FormFault)
    (c : Cursor) (x : X) (after : List ℕ)
    → passes x ≡ true → Again r c x after → Again (r >>= λ y. guarded (passes y.0) y fault) c x after
guard_again r passes fault c x after pass one =
    record {
      next = one.next;
      is = rw one.is (rw pass refl);
      rest_is = one.rest_is;
      same = one.same;
      within = one.within;
    }

-- ---- lists of numbers

-- n numbers, each in range
pub record AreNumbers (P : ℕ → Type 0) (n : ℕ) (numbers : List ℕ) : Type 0 where
  pub number : length numbers ≡ n
  pub are : All P numbers

module _ (entry : Reading ℕ) (P : ℕ → Type 0) (n : ℕ) where
  pub numbers_take : TakesAll entry (big_bytes 8) P
      → TakesAll (many_at entry n) (flat_map (big_bytes 8)) (AreNumbers P n)
  numbers_take take c next numbers bytes e =
      let t = many_takes entry (big_bytes 8) P take n c next numbers bytes e in
      (t.0, record { number = t.1; are = All-from_recursion P numbers t.2 })

  pub numbers_again : ReadsAgain entry (big_bytes 8) P
      → ReadsAgain (many_at entry n) (flat_map (big_bytes 8)) (AreNumbers P n)
  numbers_again again c numbers after is within e =
      let read = many_again entry (big_bytes 8) P again numbers c after (recursion_from_All P numbers is.are)
      within e in
      subst (λ (k : ℕ). Again (many_at entry k c) c numbers after) is.number read
