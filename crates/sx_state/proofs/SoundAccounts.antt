-- Accounts of two parts, side by side.
use Rattle.std.proofs.Common.{◌≡◌, ℕ, zero, suc, ◌+◌, ◌-◌, ◌<◌, true, List, [], ◌∷◌, ◌++◌, length, Option, Some, None}
use Rattle.std.proofs.Common.{Ok, refl, sym, ap, subst, ◌∙◌, arith, nat_lt}
use Rattle.std.specs.Prelude.{slice_get}
use Rattle.sx_bytes.specs.declared.fault.Form.TheVariants as form
use Rattle.sx_bytes.specs.Cursor.{Cursor}
use Rattle.sx_bytes.specs.Grammar.{◌>>=◌, between, field_at, may_follow}
use Rattle.sx_bytes.proofs.Grammar.{bind_ok}
use Rattle.sx_bytes.proofs.Parts.{made_is}
use Rattle.sx_ledger.specs.declared.account.Account.{Account}
use Rattle.sx_state.specs.Decoding.{account_at, account_list_at, accounts_at, each_at, guarded, next_account_at}
use Rattle.sx_ledger.specs.Ledger.{most_accounts}
use Rattle.sx_state.specs.SoundAccounts.{AreAccountsAt, IsBelow}
use Rattle.sx_state.proofs.EntriesInOrder.{Entry}

-- the mark before what comes after these entries
unfoldable mark_after : {X M : Type 0} → (X → M) → Option M → List X → Option M
mark_after mark before [] = before
mark_after mark before (x ∷ xs) = mark_after mark (Some (mark x)) xs

-- n entries, and m more from their end on, are n + m entries
each_joined : {X M : Type 0} (entry : Entry X M) (mark : X → M) (n m : ℕ) (before : Option M) (c mid end : Cursor)
    (front back : List X) → each_at entry mark n before c ≡ Ok (front, mid)
    → each_at entry mark m (mark_after mark before front) mid ≡ Ok (back, end)
    → each_at entry mark (n + m) before c ≡ Ok (front ++ back, end)
unfolding each_at mark_after
each_joined {X} {M} entry mark zero m before c mid end front back e f =
    let sum : 0 + m ≡ m = omega arith in
    let same : ([], c) ≡ (front, mid) = cc in
    rw sum (subst (λ (y : List X × Cursor). each_at entry mark m (mark_after mark before y.0) y.1 ≡ Ok (back, end)
    → each_at entry mark m before c ≡ Ok (y.0 ++ back, end)) same (λ h. h) f)
each_joined {X} {M} entry mark (suc n) m before c mid end front back e f =
    let a = bind_ok (entry before c) (λ first. each_at entry mark n (Some (mark first.0)) first.1 >>= λ others.
    Ok (first.0 ∷ others.0, others.1)) (front, mid) e in
    let b = bind_ok (each_at entry mark n (Some (mark a.0.0)) a.0.1) (λ others. Ok (a.0.0 ∷ others.0, others.1))
    (front, mid) a.2 in
    let is = made_is (a.0.0 ∷ b.0.0) front b.0.1 mid b.2 in
    let more : each_at entry mark m (mark_after mark before (a.0.0 ∷ b.0.0)) b.0.1 ≡ Ok (back, end) =
    subst (λ (xs : List X). each_at entry mark m (mark_after mark before xs) b.0.1 ≡ Ok (back, end)) (sym is.0)
    (subst (λ (d : Cursor). each_at entry mark m (mark_after mark before front) d ≡ Ok (back, end)) (sym is.1) f) in
    let others : each_at entry mark (n + m) (Some (mark a.0.0)) a.0.1 ≡ Ok (b.0.0 ++ back, end) =
    each_joined entry mark n m (Some (mark a.0.0)) a.0.1 b.0.1 end b.0.0 back b.1 more in
    let sum : suc n + m ≡ suc (n + m) = omega arith in
    rw (sum, a.1) (rw others (ap (λ (xs : List X). Ok (xs ++ back, end)) is.0))

abbrev id_of : Account → ℕ
id_of account = account.id.0

-- the first of these accounts may stand after an account of this id
abbrev FirstFollows : Option ℕ → List Account → Type 0
FirstFollows before back =
    (first : Account) → slice_get back 0 ≡ Some first → may_follow nat_lt before (id_of first) ≡ true

-- an account that is read without one before it is the next one where it may follow
next_follows : (version assets : ℕ) (before : Option ℕ) (c next : Cursor) (account : Account)
    → next_account_at version assets None c ≡ Ok (account, next) → may_follow nat_lt before (id_of account) ≡ true
    → next_account_at version assets before c ≡ Ok (account, next)
unfolding next_account_at
next_follows version assets before c next account e follows =
    let a = bind_ok (account_at version assets c) (λ read. guarded (may_follow nat_lt None (id_of read.0)) read
    (record { at = c.place; fault = form.Order })) (account, next) e in
    let is = made_is a.0.0 account a.0.1 next a.2 in
    let may : may_follow nat_lt before (id_of a.0.0) ≡ true =
    subst (λ (x : Account). may_follow nat_lt before (id_of x) ≡ true) (sym is.0) follows in
    rw a.1 (rw may a.2)

-- so are accounts of which the first may follow
accounts_follow : (version assets m : ℕ) (before : Option ℕ) (c end : Cursor) (back : List Account)
    → accounts_at version assets m None c ≡ Ok (back, end) → FirstFollows before back
    → accounts_at version assets m before c ≡ Ok (back, end)
unfolding each_at
accounts_follow version assets zero before c end back e follows = e
accounts_follow version assets (suc m) before c end back e follows =
    let a = bind_ok (next_account_at version assets None c) (λ first.
    accounts_at version assets m (Some (id_of first.0)) first.1 >>= λ others. Ok (first.0 ∷ others.0, others.1))
    (back, end) e in
    let b = bind_ok (accounts_at version assets m (Some (id_of a.0.0)) a.0.1) (λ others.
    Ok (a.0.0 ∷ others.0, others.1)) (back, end) a.2 in
    let is = made_is (a.0.0 ∷ b.0.0) back b.0.1 end b.2 in
    let first : slice_get back 0 ≡ Some a.0.0 =
    subst (λ (xs : List Account). slice_get xs 0 ≡ Some a.0.0) is.0 refl in
    let next : next_account_at version assets before c ≡ Ok (a.0.0, a.0.1) =
    next_follows version assets before c a.0.1 a.0.0 a.1 (follows a.0.0 first) in
    rw next a.2

follows_last : (before : Option ℕ) (x : Account) (front back : List Account) → IsBelow (x ∷ front) back
    → FirstFollows (mark_after id_of before (x ∷ front)) back
unfolding mark_after
follows_last before x [] back below = λ first e.
    let lt : id_of x < id_of first = below x first refl e in
    grind arith
follows_last before x (y ∷ front) back below =
    let last : length (x ∷ y ∷ front) - 1 ≡ suc (length (y ∷ front) - 1) = omega arith in
    follows_last (Some (id_of x)) y front back (λ z first e. below z first (rw last e))

follows_front : (front back : List Account) → IsBelow front back → FirstFollows (mark_after id_of None front) back
unfolding mark_after
follows_front [] back below = λ first e. refl
follows_front (x ∷ front) back below = follows_last None x front back below

-- accounts of two parts, side by side
pub accounts_joined : (bytes : List ℕ) (version assets n m place middle end : ℕ) (front back : List Account)
    → AreAccountsAt bytes version assets place n front middle → AreAccountsAt bytes version assets middle m back end
    → IsBelow front back → AreAccountsAt bytes version assets place (n + m) (front ++ back) end
accounts_joined bytes version assets n m place middle end front back e f below =
    each_joined (next_account_at version assets) id_of n m None (record { bytes = bytes; place = place })
    (record { bytes = bytes; place = middle }) (record { bytes = bytes; place = end }) front back e
    (accounts_follow version assets m (mark_after id_of None front) (record { bytes = bytes; place = middle })
    (record { bytes = bytes; place = end }) back f (follows_front front back below))

-- the number of accounts, and so many accounts after it
pub accounts_listed : (payload : List ℕ) (from mid : Cursor) (version assets count place begin end : ℕ)
    (accounts : List Account)
    → from ≡ record { bytes = payload; place = begin }
    → field_at 4 (between 0 most_accounts) form.TooMany from ≡ Ok (count, mid) → mid.bytes ≡ from.bytes
    → place ≡ mid.place → AreAccountsAt payload version assets place count accounts end
    → account_list_at version assets (record { bytes = payload; place = begin })
    ≡ Ok (accounts, record { bytes = payload; place = end })
unfolding account_list_at
accounts_listed payload from mid version assets count place begin end accounts from_is read same place_is decoded =
    let bytes : payload ≡ mid.bytes = sym (same ∙ ap (λ (c : Cursor). c.bytes) from_is) in
    let begins : record { bytes = payload; place = place } ≡ mid =
    ap (λ (xs : List ℕ). record { bytes = xs; place = place }) bytes
    ∙ ap (λ (p : ℕ). record { bytes = mid.bytes; place = p }) place_is in
    let all : accounts_at version assets count None mid ≡ Ok (accounts, record { bytes = payload; place = end }) =
    subst (λ (c : Cursor). accounts_at version assets count None c
    ≡ Ok (accounts, record { bytes = payload; place = end })) begins decoded in
    subst (λ (c : Cursor). account_list_at version assets c ≡ Ok (accounts, record { bytes = payload; place = end }))
    from_is (rw read all)
