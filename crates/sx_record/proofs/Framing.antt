-- Decoding a record from a source, step by step.
use Rattle.std.proofs.Common.{◌≡◌, ℕ, ◌+◌, ◌<◌, ◌≤◌, true, false, ltb, leb, ◌==◌, List, [], ◌∷◌, ◌++◌, length, Option}
use Rattle.std.proofs.Common.{Some, None, Ok, Err, refl, sym, arith}
use Rattle.std.specs.List.{list_any}
use Rattle.std.proofs.lemmas.Bool.{lt-ltb, le-ltb, le-leb}
use Rattle.std.proofs.lemmas.Bool.Decides.{leb_tells}
use Rattle.std.proofs.lemmas.List.{length-append, take_at, drop_at}
use Rattle.byteorder.specs.Endian.{big_number}
use Rattle.sx_bytes.specs.declared.fault.Form.TheVariants as form
use Rattle.sx_record.specs.declared.fault.RecordFault.{RecordFault}
use Rattle.sx_record.specs.declared.fault.RecordFault.TheVariants.{NoMemory, Failed, Form}
use Rattle.sx_record.specs.Frame.{most_bytes}
use Rattle.sx_record.specs.Decoding.{bytes_at, length_at, after_tag, record_at}
use Rattle.sx_record.specs.Stream.{Took, EndsShort, DecodesStream, HasTag, IfForm}

-- ---- n bytes

pub bytes_taken : (n at : ℕ) (text rest : List ℕ) → length text ≡ n → bytes_at n at (text ++ rest) ≡ (Ok text, rest)
bytes_taken n at text rest len =
    let enough : ltb (length (text ++ rest)) n ≡ false = le-ltb _ _ (omega (arith, length-append text rest)) in
    rw enough (rw (take_at text rest n len, drop_at text rest n len) refl)

pub bytes_short : (n at : ℕ) (bytes : List ℕ) → length bytes < n
    → bytes_at n at bytes ≡ (Err (record { at = at + length bytes; fault = form.Short }), [])
bytes_short n at bytes short = rw (lt-ltb (length bytes) n short) refl

-- ---- the length of a payload

pub length_taken : (at n : ℕ) (field rest : List ℕ) → length field ≡ 4 → n ≡ big_number 4 field → n ≤ most_bytes
    → length_at at (field ++ rest) ≡ (Ok n, rest)
unfolding length_at
length_taken at n field rest len number fits =
    let passes : leb (big_number 4 field) most_bytes ≡ true = le-leb _ _ (omega arith) in
    rw (bytes_taken 4 at field rest len, passes, number) refl

pub length_refused : (at n : ℕ) (field rest : List ℕ) → length field ≡ 4 → n ≡ big_number 4 field → most_bytes < n
    → length_at at (field ++ rest) ≡ (Err (record { at = at; fault = form.TooLong }), rest)
unfolding length_at
length_refused at n field rest len number long =
    let fails : leb (big_number 4 field) most_bytes ≡ false = grind (arith, leb_tells) in
    rw (bytes_taken 4 at field rest len, fails) refl

pub length_short : (a b : Option (List ℕ)) (at : ℕ) (e : RecordFault) → IfForm {X = ℕ} (Err e) (EndsShort a b 4 at)
    → DecodesStream (length_at at) a b (Err e)
unfolding length_at
length_short None b at e ends = tt
length_short (Some bytes) b at NoMemory ends = tt
length_short (Some bytes) b at Failed ends = tt
length_short (Some bytes) b at (Form fault) ends =
    ([], rw (bytes_short 4 at bytes ends.0, ends.2) refl, ends.1)

pub length_long : (a b : Option (List ℕ)) (at n : ℕ) (field : List ℕ) → Took a b field → length field ≡ 4
    → n ≡ big_number 4 field → most_bytes < n
    → DecodesStream (length_at at) a b (Err (Form (record { at = at; fault = form.TooLong })))
length_long None b at n field took len number long = tt
length_long (Some bytes) b at n field took len number long =
    (took.0, rw took.1 (length_refused at n field took.0 len number long), took.2)

pub length_read : (a b : Option (List ℕ)) (at n : ℕ) (field : List ℕ) → Took a b field → length field ≡ 4
    → n ≡ big_number 4 field → n ≤ most_bytes
    → DecodesStream (length_at at) a b (Ok n)
length_read None b at n field took len number fits = tt
length_read (Some bytes) b at n field took len number fits =
    (took.0, rw took.1 (length_taken at n field took.0 len number fits), took.2)

-- ---- a record

pub none_read : (a b : Option (List ℕ)) (tags : List ℕ) (at : ℕ) → HasTag a b None
    → DecodesStream (record_at tags at) a b (Ok None)
unfolding record_at
none_read None b tags at end = tt
none_read (Some bytes) b tags at end = ([], rw end.0 refl, end.1)

pub tag_refused : (a b : Option (List ℕ)) (tags : List ℕ) (at tag : ℕ) → Took a b (tag ∷ [])
    → list_any (λ t. t == tag) tags ≡ false
    → DecodesStream (record_at tags at) a b (Err (Form (record { at = at; fault = form.Tag })))
unfolding record_at
tag_refused None b tags at tag took other = tt
tag_refused (Some bytes) b tags at tag took other = (took.0, rw (took.1, other) refl, took.2)

pub length_fails : (a b c : Option (List ℕ)) (tags : List ℕ) (at tag : ℕ) (e : RecordFault) → Took a b (tag ∷ [])
    → list_any (λ t. t == tag) tags ≡ true
    → DecodesStream {X = ℕ} (length_at (at + 1)) b c (Err e) → DecodesStream (record_at tags at) a c (Err e)
unfolding record_at after_tag
length_fails None b c tags at tag e took listed reads = tt
length_fails (Some bytes) None c tags at tag e took listed reads =
    absurd (let e : Some took.0 ≡ None = sym took.2 in cc)
length_fails (Some bytes) (Some mid) c tags at tag NoMemory took listed reads = tt
length_fails (Some bytes) (Some mid) c tags at tag Failed took listed reads = tt
length_fails (Some bytes) (Some mid) c tags at tag (Form fault) took listed reads =
    let mid_is : took.0 ≡ mid = cc in
    (reads.0, rw (took.1, listed, mid_is, reads.1) refl, reads.2)

pub payload_fails : (a b c d : Option (List ℕ)) (tags : List ℕ) (at tag n : ℕ) (e : RecordFault) → Took a b (tag ∷ [])
    → list_any (λ t. t == tag) tags ≡ true
    → DecodesStream (length_at (at + 1)) b c (Ok n) → IfForm {X = ℕ} (Err e) (EndsShort c d n (at + 5))
    → DecodesStream (record_at tags at) a d (Err e)
unfolding record_at after_tag
payload_fails None b c d tags at tag n e took listed reads ends = tt
payload_fails (Some bytes) None c d tags at tag n e took listed reads ends =
    absurd (let e : Some took.0 ≡ None = sym took.2 in cc)
payload_fails (Some bytes) (Some mid) None d tags at tag n e took listed reads ends =
    absurd (let e : Some reads.0 ≡ None = sym reads.2 in cc)
payload_fails (Some bytes) (Some mid) (Some last) d tags at tag n NoMemory took listed reads ends = tt
payload_fails (Some bytes) (Some mid) (Some last) d tags at tag n Failed took listed reads ends = tt
payload_fails (Some bytes) (Some mid) (Some last) d tags at tag n (Form fault) took listed reads ends =
    let mid_is : took.0 ≡ mid = cc in
    let last_is : reads.0 ≡ last = cc in
    ([], rw (took.1, listed, mid_is, reads.1, last_is, bytes_short n (at + 5) last ends.0, ends.2) refl, ends.1)

pub record_read : (a b c d : Option (List ℕ)) (tags : List ℕ) (at tag n : ℕ) (payload : List ℕ) → Took a b (tag ∷ [])
    → list_any (λ t. t == tag) tags ≡ true
    → DecodesStream (length_at (at + 1)) b c (Ok n) → Took c d payload → length payload ≡ n
    → DecodesStream (record_at tags at) a d (Ok (Some (record { tag = tag; at = at + 5; payload = payload })))
unfolding record_at after_tag
record_read None b c d tags at tag n payload took listed reads taken whole = tt
record_read (Some bytes) None c d tags at tag n payload took listed reads taken whole =
    absurd (let e : Some took.0 ≡ None = sym took.2 in cc)
record_read (Some bytes) (Some mid) None d tags at tag n payload took listed reads taken whole =
    absurd (let e : Some reads.0 ≡ None = sym reads.2 in cc)
record_read (Some bytes) (Some mid) (Some last) d tags at tag n payload took listed reads taken whole =
    let mid_is : took.0 ≡ mid = cc in
    let last_is : reads.0 ≡ last = cc in (
      taken.0,
      rw (took.1, listed, mid_is, reads.1, last_is, taken.1, bytes_taken n (at + 5) payload taken.0 whole)
          refl,
      taken.2,
    )
