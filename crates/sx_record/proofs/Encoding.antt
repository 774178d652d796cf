-- A record that is decoded is what its bytes encode, and the encoding of a record decodes to it.
use Rattle.std.proofs.Common.{◌≡◌, ℕ, zero, suc, ◌+◌, ◌%◌, ◌≤◌, Bool, true, false, cond, ltb, leb, eqb, ◌==◌, ◌||◌}
use Rattle.std.proofs.Common.{Contains, List, [], ◌∷◌, ◌++◌, length, take, drop, Option, Some, None, Result, Ok, Err}
use Rattle.std.proofs.Common.{refl, sym, ap, subst, ◌∙◌, arith}
use Rattle.std.specs.List.{list_any}
use Rattle.std.proofs.Math.Nat.{mod-eq_of_lt}
use Rattle.std.proofs.Math.Bool.{or-true}
use Rattle.std.proofs.lemmas.Bool.{eq-eqb, eqb-true, ltb-false, leb-true}
use Rattle.std.proofs.lemmas.List.{length-take-le, take-append-drop, take_at}
use Rattle.byteorder.specs.Endian.{big_bytes, big_number}
use Rattle.sx_bytes.specs.declared.fault.Form.{Form}
use Rattle.sx_bytes.specs.declared.fault.Form.TheVariants as form
use Rattle.sx_bytes.specs.declared.fault.FormFault.{FormFault}
use Rattle.sx_bytes.specs.Field.{AreBytes}
use Rattle.sx_bytes.proofs.Field.{length-big_bytes, big_bytes-big_number, big_number-big_bytes}
use Rattle.sx_bytes.proofs.Grammar.{AreBytes-take}
use Rattle.sx_record.specs.declared.frame.Record.{Record}
use Rattle.sx_record.specs.Frame.{most_bytes}
use Rattle.sx_record.specs.Decoding.{StreamDecoding, done, fails, go_on, bytes_at, length_at, after_tag, record_at}
use Rattle.sx_record.specs.Laws.{DecodesOnlyRecords, DecodesEveryRecord, AreRecordsPrefixFree, EndsOnlyAtEnd}
use Rattle.sx_record.proofs.Framing.{bytes_taken, length_taken}

-- ---- the tags that are allowed

pub listed : (tags : List ℕ) (tag : ℕ) → Contains tags tag → list_any (λ t. t == tag) tags ≡ true
listed [] tag (i, lt, is) = absurd (omega arith)
listed (t ∷ tags) tag (zero, lt, is) = rw (eq-eqb t tag is) refl
listed (t ∷ tags) tag (suc i, lt, is) =
    let more : list_any (λ t. t == tag) tags ≡ true = listed tags tag (i, omega arith, is) in
    rw more (or-true (t == tag))

pub contained : (tags : List ℕ) (tag : ℕ) → list_any (λ t. t == tag) tags ≡ true → Contains tags tag
contained [] tag e = absurd cc
contained (t ∷ tags) tag e =
    elim (eqb t tag) as (λ b. eqb t tag ≡ b → (b || list_any (λ t. t == tag) tags) ≡ true → Contains (t ∷ tags) tag) [
      | true ↦ λ same _. (0, omega arith, eqb-true t tag same)
      | false ↦ λ _ others. let more = contained tags tag others in (suc more.0, omega (arith, more.1), more.2)
    ] refl e

-- ---- decoding inverts encoding

pub record_taken : (tags : List ℕ) (at tag n : ℕ) (field payload rest : List ℕ) → list_any (λ t. t == tag) tags ≡ true
    → length field ≡ 4 → n ≡ big_number 4 field → n ≤ most_bytes → length payload ≡ n
    → record_at tags at (tag ∷ (field ++ (payload ++ rest)))
    ≡ (Ok (Some (record { tag = tag; at = at + 5; payload = payload })), rest)
unfolding record_at after_tag
record_taken tags at tag n field payload rest among len number fits whole =
    rw (
      among,
      length_taken (at + 1) n field (payload ++ rest) len number fits,
      bytes_taken n (at + 5) payload rest whole,
    ) refl

pub decodes_every_record : DecodesEveryRecord
decodes_every_record tags payload rest tag at small among fits =
    let n = length payload in
    let same : tag % 256 ≡ tag = mod-eq_of_lt small in
    let number : n ≡ big_number 4 (big_bytes 4 n) = sym (big_number-big_bytes 4 n (omega arith)) in
    rw same (record_taken tags at tag n (big_bytes 4 n) payload rest (listed tags tag among) (length-big_bytes 4 n)
    number fits refl)

pub are_records_prefix_free : AreRecordsPrefixFree
are_records_prefix_free t u p q x y small_t small_u fits_p fits_q e =
    let tags : List ℕ = t ∷ u ∷ [] in
    let one = decodes_every_record tags p x t 0 small_t (0, omega arith, refl) fits_p in
    let other = decodes_every_record tags q y u 0 small_u (1, omega arith, refl) fits_q in
    let both = sym one ∙ ap (record_at tags 0) e ∙ other in
    let found = ap (λ (a : Result (Option Record) FormFault × List ℕ). a.0) both in
    let same : record { tag = t; at = 5; payload = p } ≡ record { tag = u; at = 5; payload = q } = cc in (
      ap (λ (r : Record). r.tag) same,
      ap (λ (r : Record). r.payload) same,
      ap (λ (a : Result (Option Record) FormFault × List ℕ). a.1) both,
    )

-- ---- encoding inverts decoding

-- the value of a step that found no fault
go_on_ok : {X Y : Type 0} (p : Result X FormFault × List ℕ) (next : X → StreamDecoding Y) (y : Y) (rest : List ℕ)
    → go_on p next ≡ (Ok y, rest)
    → (x : X) × (mid : List ℕ) × (p ≡ (Ok x, mid)) × (next x mid ≡ (Ok y, rest))
go_on_ok (Ok x, mid) next y rest e = (x, mid, refl, e)
go_on_ok {X} {Y} (Err fault, mid) next y rest e = absurd (let f = ap (λ (a : Result Y FormFault × List ℕ). a.0) e in cc)

-- a test that passed
passed : {X : Type 0} (b : Bool) (p : Result X FormFault × List ℕ) (fault : FormFault) (left rest : List ℕ) (y : X)
    → cond b p (Err fault, left) ≡ (Ok y, rest) → (b ≡ true) × (p ≡ (Ok y, rest))
passed true p fault left rest y e = (refl, e)
passed {X} false p fault left rest y e = absurd (let f = ap (λ (a : Result X FormFault × List ℕ). a.0) e in cc)

tested : {X : Type 0} (b : Bool) (read : StreamDecoding X) (fault : Form) (at : ℕ) (bytes rest : List ℕ) (y : X)
    → cond b read (fails fault at) bytes ≡ (Ok y, rest) → (b ≡ true) × (read bytes ≡ (Ok y, rest))
tested true read fault at bytes rest y e = (refl, e)
tested {X} false read fault at bytes rest y e = absurd (let f = ap (λ (a : Result X FormFault × List ℕ). a.0) e in cc)

-- a test that let bytes pass where enough are left
enough : {X : Type 0} (b : Bool) (p : Result X FormFault × List ℕ) (fault : FormFault) (left rest : List ℕ) (y : X)
    → cond b (Err fault, left) p ≡ (Ok y, rest) → (b ≡ false) × (p ≡ (Ok y, rest))
enough false p fault left rest y e = (refl, e)
enough {X} true p fault left rest y e = absurd (let f = ap (λ (a : Result X FormFault × List ℕ). a.0) e in cc)

bytes_ok : (n at : ℕ) (bytes text rest : List ℕ) → bytes_at n at bytes ≡ (Ok text, rest) → (length text ≡ n)
    × (bytes ≡ text ++ rest)
bytes_ok n at bytes text rest e =
    let g = enough (ltb (length bytes) n) (Ok (take n bytes), drop n bytes) _ [] rest text e in
    let answer = ap (λ (a : Result (List ℕ) FormFault × List ℕ). a.0) g.1 in
    let text_is : take n bytes ≡ text = cc in
    let rest_is : drop n bytes ≡ rest = ap (λ (a : Result (List ℕ) FormFault × List ℕ). a.1) g.1 in (
      ap length (sym text_is) ∙ length-take-le n bytes (ltb-false _ _ g.0),
      sym (take-append-drop n bytes)
          ∙ rw (text_is, rest_is) refl,
    )

length_ok : (at n : ℕ) (bytes rest : List ℕ) → AreBytes bytes → length_at at bytes ≡ (Ok n, rest)
    → (bytes ≡ big_bytes 4 n ++ rest) × (n ≤ most_bytes)
unfolding length_at
length_ok at n bytes rest are e =
    let b = go_on_ok (bytes_at 4 at bytes) _ n rest e in
    let field = b.0 in
    let text = bytes_ok 4 at bytes field b.1 b.2 in
    let t = tested (leb (big_number 4 field) most_bytes) (done (big_number 4 field)) form.TooLong at b.1 rest n b.3 in
    let answer = ap (λ (a : Result ℕ FormFault × List ℕ). a.0) t.1 in
    let number : big_number 4 field ≡ n = cc in
    let left : b.1 ≡ rest = ap (λ (a : Result ℕ FormFault × List ℕ). a.1) t.1 in
    let front : take 4 bytes ≡ field = ap (take 4) text.1 ∙ take_at field b.1 4 text.0 in
    let are_field : AreBytes field = subst AreBytes front (AreBytes-take 4 bytes are) in
    let encoded : big_bytes 4 n ≡ field = ap (big_bytes 4) (sym number)
    ∙ big_bytes-big_number 4 field are_field text.0 in
    let fits : big_number 4 field ≤ most_bytes = leb-true _ _ t.0 in (
      text.1 ∙ ap (λ (f : List ℕ). f ++ b.1) (sym encoded) ∙ ap (λ (r : List ℕ). big_bytes 4 n ++ r) left,
      subst (λ (m : ℕ). m ≤ most_bytes) number fits,
    )

-- what comes after a tag
record IsAfterTag (tag at : ℕ) (bytes rest : List ℕ) (found : Record) : Type 0 where
  tag_is : found.tag ≡ tag
  at_is : found.at ≡ at + 5
  encoded : bytes ≡ big_bytes 4 (length found.payload) ++ (found.payload ++ rest)
  fits : length found.payload ≤ most_bytes

joined : (bytes mid payload left rest : List ℕ) (size : ℕ) → bytes ≡ big_bytes 4 size ++ mid → mid ≡ payload ++ left
    → length payload ≡ size → left ≡ rest
    → bytes ≡ big_bytes 4 (length payload) ++ (payload ++ rest)
joined bytes mid payload left rest size one two len same =
    one ∙ ap (λ (m : List ℕ). big_bytes 4 size ++ m) (two ∙ ap (λ (r : List ℕ). payload ++ r) same)
    ∙ ap (λ (n : ℕ). big_bytes 4 n ++ (payload ++ rest)) (sym len)

after_tag_ok : (tag at : ℕ) (bytes rest : List ℕ) (answer : Option Record) → AreBytes bytes
    → after_tag tag at bytes ≡ (Ok answer, rest)
    → (found : Record) × (answer ≡ Some found) × IsAfterTag tag at bytes rest found
unfolding after_tag
after_tag_ok tag at bytes rest answer are e =
    let b = go_on_ok (length_at (at + 1) bytes) _ answer rest e in
    let size = b.0 in
    let p = go_on_ok (bytes_at size (at + 5) b.1) _ answer rest b.3 in
    let number = length_ok (at + 1) size bytes b.1 are b.2 in
    let text = bytes_ok size (at + 5) b.1 p.0 p.1 p.2 in
    let found : Record = record { tag = tag; at = at + 5; payload = p.0 } in
    let one : Result (Option Record) FormFault × List ℕ = (Ok (Some found), p.1) in
    let same : one ≡ (Ok answer, rest) = p.3 in
    let first = ap (λ (a : Result (Option Record) FormFault × List ℕ). a.0) same in
    let is : answer ≡ Some found = cc in
    let left : p.1 ≡ rest = ap (λ (a : Result (Option Record) FormFault × List ℕ). a.1) same in (
      found,
      is,
      record {
        tag_is = refl;
        at_is = refl;
        encoded = joined bytes b.1 p.0 p.1 rest size number.0 text.1 text.0 left;
        fits = subst (λ (m : ℕ). m ≤ most_bytes) (sym text.0) number.1;
      },
    )

pub decodes_only_records : DecodesOnlyRecords
unfolding record_at
decodes_only_records tags [] rest at found are e =
    absurd (let f = ap (λ (a : Result (Option Record) FormFault × List ℕ). a.0) e in cc)
decodes_only_records tags (tag ∷ bytes) rest at found are e =
    let t = passed (list_any (λ t. t == tag) tags) (after_tag tag at bytes) _ bytes rest (Some found) e in
    let b = after_tag_ok tag at bytes rest (Some found) (λ i. are (suc i)) t.1 in
    let is : found ≡ b.0 = cc in
    let after : IsAfterTag tag at bytes rest found = subst (IsAfterTag tag at bytes rest) (sym is) b.2 in
    let small : tag % 256 ≡ tag = mod-eq_of_lt (are 0) in
    let same : found.tag % 256 ≡ tag = ap (λ (t : ℕ). t % 256) after.tag_is ∙ small in
    let others : List ℕ = big_bytes 4 (length found.payload) ++ (found.payload ++ rest) in (
      ap (λ (bs : List ℕ). tag ∷ bs) after.encoded ∙ ap (λ (t : ℕ). t ∷ others) (sym same),
      record {
        listed = subst (Contains tags) (sym after.tag_is) (contained tags tag t.0);
        place =
            after.at_is;
        fits = after.fits;
      },
    )

pub ends_only_at_end : EndsOnlyAtEnd
unfolding record_at after_tag
ends_only_at_end tags [] rest at e = (refl, sym (ap (λ (a : Result (Option Record) FormFault × List ℕ). a.1) e))
ends_only_at_end tags (tag ∷ bytes) rest at e =
    let t = passed (list_any (λ t. t == tag) tags) (after_tag tag at bytes) _ bytes rest None e in
    let b = go_on_ok (length_at (at + 1) bytes) _ None rest t.1 in
    let p = go_on_ok (bytes_at b.0 (at + 5) b.1) _ None rest b.3 in
    absurd (let f = ap (λ (a : Result (Option Record) FormFault × List ℕ). a.0) p.3 in cc)
