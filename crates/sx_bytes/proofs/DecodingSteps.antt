-- Steps of a format's laws: one field or one part after the other.
use Rattle.std.proofs.Common.{◌≡◌, ℕ, ◌+◌, ◌^◌, ◌<◌, ◌≤◌, true, leb, ltb, ◌-◌, take, List, ◌++◌, length, Result, Ok}
use Rattle.std.proofs.Common.{refl, sym, ap, subst, ◌∙◌, arith}
use Rattle.std.proofs.lemmas.List.{length-append}
use Rattle.std.proofs.lemmas.Bool.{leb-true, le-leb}
use Rattle.byteorder.specs.Endian.{big_bytes, big_number}
use Rattle.sx_bytes.specs.declared.fault.Form.{Form}
use Rattle.sx_bytes.specs.declared.fault.FormFault.{FormFault}
use Rattle.sx_bytes.specs.Field.{AreBytes}
use Rattle.sx_bytes.specs.Cursor.{Cursor, rest, moved, uint_at}
use Rattle.sx_bytes.specs.Grammar.{◌>>=◌, between, field_at}
use Rattle.sx_bytes.proofs.Grammar.{guard_short, Takes, Again, length-rest, field_takes, field_again}
use Rattle.sx_bytes.proofs.Ordered.{and_parts}

pub bytes_after : (c next : Cursor) (text : List ℕ) → Takes c text next → AreBytes c.bytes → AreBytes next.bytes
bytes_after c next text t bytes = subst AreBytes (sym t.same) bytes

-- a range, as bounds and as a test
pub between_is : (low high x : ℕ) → between low high x ≡ true → (low ≤ x) × (x ≤ high)
between_is low high x e = let p = and_parts (leb low x) (leb x high) e in (leb-true low x p.0, leb-true x high p.1)

pub between_test : (low high x : ℕ) → low ≤ x → x ≤ high → between low high x ≡ true
between_test low high x p q = rw (le-leb low x p, le-leb x high q) refl

-- a field with a range
pub range_takes : (n low high : ℕ) (fault : Form) (c next : Cursor) (x : ℕ) → AreBytes c.bytes
    → field_at n (between low high) fault c ≡ Ok (x, next)
    → Takes c (big_bytes n x) next × (low ≤ x) × (x ≤ high)
range_takes n low high fault c next x bytes e =
    let t = field_takes n (between low high) fault c next x bytes e in
    let b = between_is low high x t.1 in
    (t.0, b.0, b.1)

pub range_again : (n low high : ℕ) (fault : Form) (c : Cursor) (x : ℕ) (after : List ℕ) → high < 256 ^ n → low ≤ x
    → x ≤ high → c.place ≤ length c.bytes
    → rest c ≡ big_bytes n x ++ after → Again (field_at n (between low high) fault c) c x after
range_again n low high fault c x after fits p q within e =
    field_again n (between low high) fault c x after (omega arith) (between_test low high x p q) within e

-- one part and what comes after it
pub again_then : {X Y : Type 0} (read : Result (X × Cursor) FormFault)
    (f : X × Cursor → Result (Y × Cursor) FormFault) (c : Cursor) (x : X) (y : Y) (middle after : List ℕ)
    → (one : Again read c x middle) → Again (f (x, one.next)) one.next y after → Again (read >>= f) c y after
again_then read f c x y middle after one two = record {
  next = two.next;
  is = rw one.is two.is;
  rest_is = two.rest_is;
  same = two.same ∙ one.same;
  within = two.within;
}

-- where the cursor is after what was decoded
same_cursor : (a b : Cursor) → a.bytes ≡ b.bytes → a.place ≡ b.place → a ≡ b
same_cursor a b e f = ap (λ (xs : List ℕ). record { bytes = xs; place = a.place }) e
    ∙ ap (λ (n : ℕ). record { bytes = b.bytes; place = n }) f

pub takes_moved : (c next : Cursor) (text : List ℕ) → Takes c text next → next ≡ moved (length text) c
takes_moved c next text t = same_cursor next (moved (length text) c) t.same t.place

pub again_moved : {X : Type 0} (read : Result (X × Cursor) FormFault) (c : Cursor) (x : X) (text after : List ℕ)
    → c.place ≤ length c.bytes → rest c ≡ text ++ after → Again read c x after
    → read ≡ Ok (x, moved (length text) c)
again_moved {X} read c x text after within e a =
    let bytes : length a.next.bytes ≡ length c.bytes = ap length a.same in
    let before : length (rest c) ≡ length text + length after = ap length e ∙ length-append text after in
    let behind : length (rest a.next) ≡ length after = ap length a.rest_is in
    let place : a.next.place ≡ c.place + length text = omega (arith, a.within, length-rest c, length-rest a.next) in
    a.is ∙ ap (λ (next : Cursor). Ok (x, next)) (same_cursor a.next (moved (length text) c) a.same place)

pub number_onward : (n : ℕ) (c next : Cursor) (x : ℕ) → uint_at n c ≡ Ok (x, next) → (next.bytes ≡ c.bytes)
    × (c.place ≤ next.place)
number_onward n c next x e =
    let g = guard_short (ltb (length c.bytes - c.place) n) (record { at = length c.bytes })
    (big_number n (take n (rest c)), moved n c) (x, next) e in
    subst (λ (y : ℕ × Cursor). (y.1.bytes ≡ c.bytes) × (c.place ≤ y.1.place)) g.1 (refl, omega arith)
