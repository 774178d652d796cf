-- Reading entries one after the other, as a loop does.
use Rattle.std.proofs.Common.{◌≡◌, ℕ, suc, ◌-◌, ◌+◌, ◌≤◌, ◌<◌, List, [], ◌∷◌, ◌++◌, Result, Ok, Err, refl, sym, ap}
use Rattle.std.proofs.Common.{◌∙◌, append_assoc, arith}
use Rattle.std.proofs.lemmas.List.{append-nil}
use Rattle.sx_bytes.specs.declared.fault.FormFault.{FormFault}
use Rattle.sx_bytes.specs.declared.fault.ReadError.{ReadError}
use Rattle.sx_bytes.specs.declared.fault.ReadError.TheVariants as read_error
use Rattle.sx_bytes.specs.Cursor.{Cursor}
use Rattle.sx_bytes.specs.Grammar.{◌>>=◌, Fails, many_at}

-- what was read before, and what is still read
abbrev pub with_front : {X : Type 0} → List X → Result (List X × Cursor) FormFault → Result (List X × Cursor) FormFault
with_front front read = read >>= λ x. Ok (front ++ x.0, x.1)

pub regroup : {X : Type 0} (front : List X) (x : X) (read : Result (List X × Cursor) FormFault)
    → with_front front (read >>= λ others. Ok (x ∷ others.0, others.1)) ≡ with_front (front ++ x ∷ []) read
regroup {X} front x (Ok y) = ap (λ (xs : List X). Ok (xs, y.1)) (sym (append_assoc front (x ∷ []) y.0))
regroup front x (Err f) = refl

pub goes_on : {X : Type 0} (entry : Cursor → Result (X × Cursor) FormFault) (front : List X) (count i : ℕ)
    (c : Cursor) (x : X) (next : Cursor) (total : Result (List X × Cursor) FormFault)
    → i < count → entry c ≡ Ok (x, next) → with_front front (many_at entry (count - i) c) ≡ total
    → with_front (front ++ x ∷ []) (many_at entry (count - (i + 1)) next) ≡ total
unfolding many_at
goes_on entry front count i c x next total lt h so_far =
    let k : count - i ≡ suc (count - (i + 1)) = omega arith in
    let one : with_front front (many_at entry (count - i) c) ≡ with_front (front ++ x ∷ [])
    (many_at entry (count - (i + 1)) next) = rw (k, h) (regroup front x (many_at entry (count - (i + 1)) next)) in
    sym one ∙ so_far

pub ends : {X : Type 0} (entry : Cursor → Result (X × Cursor) FormFault) (e : ReadError) (front : List X)
    (count i : ℕ) (c : Cursor) (total : Result (List X × Cursor) FormFault)
    → i < count → Fails e (entry c) → with_front front (many_at entry (count - i) c) ≡ total → Fails e total
unfolding many_at
ends entry read_error.NoMemory front count i c total lt h so_far = tt
ends entry (read_error.Form f) front count i c total lt h so_far =
    let k : count - i ≡ suc (count - (i + 1)) = omega arith in
    let one : with_front front (many_at entry (count - i) c) ≡ Err f = rw (k, h) refl in
    sym so_far ∙ one

pub is_done : {X : Type 0} (entry : Cursor → Result (X × Cursor) FormFault) (front : List X) (count i : ℕ)
    (c : Cursor) (total : Result (List X × Cursor) FormFault)
    → count ≤ i → with_front front (many_at entry (count - i) c) ≡ total → total ≡ Ok (front, c)
unfolding many_at
is_done {X} entry front count i c total le so_far =
    let k : count - i ≡ 0 = omega arith in
    let one : with_front front (many_at entry (count - i) c) ≡ Ok (front, c) =
    rw k (ap (λ (xs : List X). Ok (xs, c)) (append-nil front)) in
    sym so_far ∙ one
