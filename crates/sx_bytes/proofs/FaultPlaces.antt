-- That decoding stays within its bytes, part by part.
use Rattle.std.proofs.Common.{◌≡◌, ℕ, zero, suc, ◌+◌, ◌≤◌, Bool, true, false, cond, ltb, List, length, take}
use Rattle.std.proofs.Common.{Option, Some, Result, Ok, Err, refl, subst, arith}
use Rattle.std.proofs.lemmas.Bool.{ltb-false}
use Rattle.byteorder.specs.Endian.{big_number}
use Rattle.sx_bytes.specs.declared.fault.Form.{Form}
use Rattle.sx_bytes.specs.declared.fault.FormFault.{FormFault}
use Rattle.sx_bytes.specs.Cursor.{Cursor, left, moved, rest, raw_at, uint_at}
use Rattle.sx_bytes.specs.Grammar.{◌>>=◌, or_fault, field_at, many_at, may_follow, ordered_at}
use Rattle.sx_bytes.specs.FaultPlaces.{FaultsWithin, PayloadFaultsWithin}

-- what is decoded keeps a property, and a fault is not after the end of the bytes
abbrev pub Keeps : {X : Type 0} → List ℕ → (X → Type 0) → Result X FormFault → Type 0
Keeps bytes Good (Ok x) = Good x
Keeps bytes Good (Err fault) = fault.at ≤ length bytes

-- the cursor after a value is on the same bytes
abbrev pub IsOn : {X : Type 0} → List ℕ → X × Cursor → Type 0
IsOn bytes x = (x.1.bytes ≡ bytes) × (x.1.place ≤ length bytes)

-- a step that begins on the bytes
abbrev pub Stays : {X : Type 0} → (Cursor → Result (X × Cursor) FormFault) → Type 0
Stays {X} read = (bytes : List ℕ) (c : Cursor) → c.bytes ≡ bytes → c.place ≤ length bytes →
    Keeps bytes (IsOn bytes) (read c)

-- a step after another
pub then : {X Y : Type 0} (bytes : List ℕ) (P : X → Type 0) (Q : Y → Type 0) (r : Result X FormFault)
    (next : X → Result Y FormFault) → Keeps bytes P r → ((x : X) → P x → Keeps bytes Q (next x))
    → Keeps bytes Q (r >>= next)
then bytes P Q (Ok x) next good more = more x good
then bytes P Q (Err fault) next good more = good

-- a test
pub tested : {X : Type 0} (bytes : List ℕ) (P : X → Type 0) (b : Bool) (x : X) (fault : FormFault) → P x
    → fault.at ≤ length bytes → Keeps bytes P (cond b (Ok x) (Err fault))
tested bytes P true x fault good near = good
tested bytes P false x fault good near = near

-- anything
abbrev pub IsAny : {X : Type 0} → X → Type 0
IsAny x = Unit {0}

-- one of two steps
pub either : {X : Type 0} (bytes : List ℕ) (b : Bool) (one other : Result (X × Cursor) FormFault) →
    Keeps bytes (IsOn bytes) one
    → Keeps bytes (IsOn bytes) other → Keeps bytes (IsOn bytes) (cond b one other)
either bytes true one other p q = p
either bytes false one other p q = q

-- ---- fields

enough : {X : Type 0} (bytes : List ℕ) (n : ℕ) (c : Cursor) (x : X) → c.bytes ≡ bytes → c.place ≤ length bytes
    → Keeps bytes (IsOn bytes) (or_fault
    (cond (ltb (left c) n) (Err (record { at = length c.bytes })) (Ok (x, moved n c))))
enough bytes n c x same place =
    elim (ltb (left c) n) as (λ b. ltb (left c) n ≡ b
    → Keeps bytes (IsOn bytes) (or_fault (cond b (Err (record { at = length c.bytes })) (Ok (x, moved n c))))) [
      | true ↦ λ _. rw same (omega arith)
      | false ↦ λ e.
          let whole : n ≤ left c = ltb-false _ _ e in
          let within : c.place ≤ length c.bytes = rw same place in
          let long : c.place + n ≤ length c.bytes = omega arith in
          (same, rw same at long)
    ] refl

pub raw_stays : (n : ℕ) → Stays (λ c. or_fault (raw_at n c))
raw_stays n bytes c same place = enough bytes n c (take n (rest c)) same place

pub field_stays : (n : ℕ) (passes : ℕ → Bool) (fault : Form) → Stays (field_at n passes fault)
field_stays n passes fault bytes c same place =
    then bytes (IsOn bytes) (IsOn bytes) (or_fault (uint_at n c)) _
    (enough bytes n c (big_number n (take n (rest c))) same place)
    (λ x on. tested bytes (IsOn bytes) (passes x.0) x (record { at = c.place; fault = fault }) on place)

-- ---- lists

pub many_stays : {X : Type 0} (entry : Cursor → Result (X × Cursor) FormFault) → Stays entry → (n : ℕ) →
    Stays (many_at entry n)
unfolding many_at
many_stays entry stays zero bytes c same place = (same, place)
many_stays entry stays (suc n) bytes c same place =
    then bytes (IsOn bytes) (IsOn bytes) (entry c) _ (stays bytes c same place) (λ first on.
    then bytes (IsOn bytes) (IsOn bytes) (many_at entry n first.1) _ (many_stays entry stays n bytes first.1 on.0 on.1)
    (λ others more. more))

pub ordered_stays : {X : Type 0} (entry : Cursor → Result (X × Cursor) FormFault) (precedes : X → X → Bool)
    (fault : Form) → Stays entry
    → (n : ℕ) (before : Option X) → Stays (ordered_at entry precedes fault n before)
unfolding ordered_at
ordered_stays entry precedes fault stays zero before bytes c same place = (same, place)
ordered_stays entry precedes fault stays (suc n) before bytes c same place =
    then bytes (IsOn bytes) (IsOn bytes) (entry c) _ (stays bytes c same place) (λ first on.
    then bytes (IsOn bytes) (IsOn bytes)
    (cond (may_follow precedes before first.0) (Ok first) (Err (record { at = c.place; fault = fault }))) _
    (tested bytes (IsOn bytes) (may_follow precedes before first.0) first (record { at = c.place; fault = fault })
    on place) (λ placed after.
    then bytes (IsOn bytes) (IsOn bytes) (ordered_at entry precedes fault n (Some first.0) placed.1) _
    (ordered_stays entry precedes fault stays n (Some first.0) bytes placed.1 after.0 after.1)
    (λ others more. more)))

-- ---- the laws

-- a step that stays within its bytes
pub faults_within : {X : Type 0} (read : Cursor → Result (X × Cursor) FormFault) → Stays read → FaultsWithin read
faults_within read stays c fault place e =
    subst (Keeps c.bytes (IsOn c.bytes)) e (stays c.bytes c refl place)

-- a whole payload
pub payload_faults_within : {X : Type 0} (read : List ℕ → Result X FormFault)
    → ((bytes : List ℕ) → Keeps bytes IsAny (read bytes)) → PayloadFaultsWithin read
payload_faults_within read keeps bytes fault e = subst (Keeps bytes IsAny) e (keeps bytes)
