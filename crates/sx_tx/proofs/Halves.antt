-- The entries of two halves, side by side.
use Rattle.std.proofs.Common.{◌≡◌, ℕ, zero, suc, ◌+◌, List, [], ◌∷◌, ◌++◌, length, Result, Ok, refl, sym, ap, subst}
use Rattle.std.proofs.Common.{arith}
use Rattle.sx_bytes.specs.declared.fault.FormFault.{FormFault}
use Rattle.sx_bytes.specs.Cursor.{Cursor}
use Rattle.sx_bytes.specs.Grammar.{◌>>=◌, many_at}
use Rattle.sx_bytes.proofs.Grammar.{bind_ok}
use Rattle.sx_bytes.proofs.Parts.{made_is}

-- n entries, and m more from their end on, are n + m entries
pub many_joined : {X : Type 0} (entry : Cursor → Result (X × Cursor) FormFault) (n m : ℕ) (c mid end : Cursor)
    (front back : List X) → many_at entry n c ≡ Ok (front, mid) → many_at entry m mid ≡ Ok (back, end)
    → many_at entry (n + m) c ≡ Ok (front ++ back, end)
unfolding many_at
many_joined {X} entry zero m c mid end front back e f =
    let sum : 0 + m ≡ m = omega arith in
    let same : ([], c) ≡ (front, mid) = cc in
    rw sum (subst
    (λ (y : List X × Cursor). many_at entry m y.1 ≡ Ok (back, end) → many_at entry m c ≡ Ok (y.0 ++ back, end))
    same (λ h. h) f)
many_joined {X} entry (suc n) m c mid end front back e f =
    let a = bind_ok (entry c) (λ first. many_at entry n first.1 >>= λ others. Ok (first.0 ∷ others.0, others.1))
    (front, mid) e in
    let b = bind_ok (many_at entry n a.0.1) (λ others. Ok (a.0.0 ∷ others.0, others.1)) (front, mid) a.2 in
    let is = made_is (a.0.0 ∷ b.0.0) front b.0.1 mid b.2 in
    let others : many_at entry (n + m) a.0.1 ≡ Ok (b.0.0 ++ back, end) =
    many_joined entry n m a.0.1 b.0.1 end b.0.0 back b.1
    (subst (λ (d : Cursor). many_at entry m d ≡ Ok (back, end)) (sym is.1) f) in
    let sum : suc n + m ≡ suc (n + m) = omega arith in
    rw (sum, a.1) (rw others (ap (λ (xs : List X). Ok (xs ++ back, end)) is.0))

pub many_length : {X : Type 0} (entry : Cursor → Result (X × Cursor) FormFault) (n : ℕ) (c next : Cursor)
    (xs : List X) → many_at entry n c ≡ Ok (xs, next) → length xs ≡ n
unfolding many_at
many_length {X} entry zero c next xs e =
    let same : ([], c) ≡ (xs, next) = cc in
    subst (λ (y : List X × Cursor). length y.0 ≡ 0) same refl
many_length {X} entry (suc n) c next xs e =
    let a = bind_ok (entry c) (λ first. many_at entry n first.1 >>= λ others. Ok (first.0 ∷ others.0, others.1))
    (xs, next) e in
    let b = bind_ok (many_at entry n a.0.1) (λ others. Ok (a.0.0 ∷ others.0, others.1)) (xs, next) a.2 in
    let is = made_is (a.0.0 ∷ b.0.0) xs b.0.1 next b.2 in
    let others : length b.0.0 ≡ n = many_length entry n a.0.1 b.0.1 b.0.0 b.1 in
    subst (λ (ys : List X). length ys ≡ suc n) is.0 (omega (arith, others))
