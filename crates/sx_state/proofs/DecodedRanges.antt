-- What is known of what is read, whatever the bytes are.
use Rattle.std.proofs.Common.{◌≡◌, ℕ, zero, suc, ◌-◌, ◌^◌, ◌≤◌, Bool, true, cond, List, [], ◌∷◌, length, map, Option}
use Rattle.std.proofs.Common.{Some, None, Ok, Err, sym, ap, subst, ◌∙◌, arith}
use Rattle.std.specs.Prelude.{nat_lt}
use Rattle.std.specs.List.Sorted.{IsStrictlyIncreasing}
use Rattle.std.proofs.lemmas.Bool.{and_from}
use Rattle.sx_bytes.specs.declared.fault.Form.{Form}
use Rattle.sx_bytes.specs.declared.fault.Form.TheVariants as form
use Rattle.sx_bytes.specs.Cursor.{Cursor, uint_at}
use Rattle.sx_bytes.specs.Grammar.{◌>>=◌, or_fault, between, field_at, many_at, may_follow, in_order}
use Rattle.sx_bytes.proofs.Grammar.{bind_ok, guard_ok}
use Rattle.sx_bytes.proofs.Parts.{Reading, made_is}
use Rattle.sx_bytes.proofs.DecodingSteps.{between_is}
use Rattle.sx_ledger.specs.declared.account.Account.{Account}
use Rattle.sx_ledger.specs.Ledger.{ids}
use Rattle.sx_state.specs.Decoding.{price_at, units_field_at, each_at, account_at, next_account_at, accounts_at}
use Rattle.sx_state.specs.Decoding.{account_list_at, head_at}
use Rattle.sx_ledger.proofs.IdsInOrder.{increasing_from_order}
use Rattle.sx_state.proofs.DependentParts.{guard_takes}
use Rattle.sx_state.proofs.EntriesInOrder.{Entry}
use Rattle.sx_state.proofs.HeadLaws.{Head, joined, from_prices, from_assets, from_height}

-- a field passed its test
field_passes : (n : ℕ) (passes : ℕ → Bool) (fault : Form) (c next : Cursor) (x : ℕ)
    → field_at n passes fault c ≡ Ok (x, next) → passes x ≡ true
field_passes n passes fault c next x e =
    let b = bind_ok (or_fault (uint_at n c))
    (λ y. cond (passes y.0) (Ok y) (Err (record { at = c.place; fault = fault }))) (x, next) e in
    let t = guard_ok (passes b.0.0) b.0 (x, next) (record { at = c.place; fault = fault }) b.2 in
    ap (λ (y : ℕ × Cursor). passes y.0) (sym t.1) ∙ t.0

-- as many entries as were asked for
many_length : {X : Type 0} (entry : Reading X) (n : ℕ) (c next : Cursor) (xs : List X)
    → many_at entry n c ≡ Ok (xs, next) → length xs ≡ n
unfolding many_at
many_length {X} entry zero c next xs e = ap (λ (y : List X). length y) (sym (made_is [] xs c next e).0)
many_length {X} entry (suc n) c next xs e =
    let a = bind_ok (entry c) (λ first. many_at entry n first.1 >>= λ others. Ok (first.0 ∷ others.0, others.1))
    (xs, next) e in
    let b = bind_ok (many_at entry n a.0.1) (λ others. Ok (a.0.0 ∷ others.0, others.1)) (xs, next) a.2 in
    let others : length b.0.0 ≡ n = many_length entry n a.0.1 b.0.1 b.0.0 b.1 in
    let same : a.0.0 ∷ b.0.0 ≡ xs = (made_is (a.0.0 ∷ b.0.0) xs b.0.1 next b.2).0 in
    ap (λ (y : List X). length y) (sym same) ∙ ap suc others

each_length : {X M : Type 0} (entry : Entry X M) (mark : X → M) (n : ℕ) (before : Option M) (c next : Cursor)
    (xs : List X) → each_at entry mark n before c ≡ Ok (xs, next) → length xs ≡ n
unfolding each_at
each_length {X} entry mark zero before c next xs e = ap (λ (y : List X). length y) (sym (made_is [] xs c next e).0)
each_length {X} entry mark (suc n) before c next xs e =
    let a = bind_ok (entry before c) (λ first. each_at entry mark n (Some (mark first.0)) first.1 >>= λ others.
    Ok (first.0 ∷ others.0, others.1)) (xs, next) e in
    let b = bind_ok (each_at entry mark n (Some (mark a.0.0)) a.0.1) (λ others. Ok (a.0.0 ∷ others.0, others.1))
    (xs, next) a.2 in
    let others : length b.0.0 ≡ n = each_length entry mark n (Some (mark a.0.0)) a.0.1 b.0.1 b.0.0 b.1 in
    let same : a.0.0 ∷ b.0.0 ≡ xs = (made_is (a.0.0 ∷ b.0.0) xs b.0.1 next b.2).0 in
    ap (λ (y : List X). length y) (sym same) ∙ ap suc others

-- the marks are in order
each_ordered : {X M : Type 0} (entry : Entry X M) (mark : X → M) (precedes : M → M → Bool)
    → ((before : Option M) (c next : Cursor) (x : X) → entry before c ≡ Ok (x, next)
    → may_follow precedes before (mark x) ≡ true)
    → (n : ℕ) (before : Option M) (c next : Cursor) (xs : List X) → each_at entry mark n before c ≡ Ok (xs, next)
    → in_order precedes before (map mark xs) ≡ true
unfolding each_at
each_ordered {X} entry mark precedes follows zero before c next xs e =
    ap (λ (y : List X). in_order precedes before (map mark y)) (sym (made_is [] xs c next e).0)
each_ordered {X} entry mark precedes follows (suc n) before c next xs e =
    let a = bind_ok (entry before c) (λ first. each_at entry mark n (Some (mark first.0)) first.1 >>= λ others.
    Ok (first.0 ∷ others.0, others.1)) (xs, next) e in
    let b = bind_ok (each_at entry mark n (Some (mark a.0.0)) a.0.1) (λ others. Ok (a.0.0 ∷ others.0, others.1))
    (xs, next) a.2 in
    let others = each_ordered entry mark precedes follows n (Some (mark a.0.0)) a.0.1 b.0.1 b.0.0 b.1 in
    let same : a.0.0 ∷ b.0.0 ≡ xs = (made_is (a.0.0 ∷ b.0.0) xs b.0.1 next b.2).0 in
    let all : in_order precedes before (map mark (a.0.0 ∷ b.0.0)) ≡ true =
    and_from _ _ (follows before c a.0.1 a.0.0 a.1) others in
    subst (λ (y : List X). in_order precedes before (map mark y) ≡ true) same all

-- ---- of a state

-- there is an asset, and there are not too many
pub assets_known : (c next : Cursor) (head : Head) → head_at c ≡ Ok (head, next) → (1 ≤ length head.2)
    × (length head.2 ≤ 32)
unfolding head_at
assets_known c next head e =
    let v = bind_ok (field_at 1 (between 1 2) form.Version c) (λ version. from_height version.0 version.1)
    (head, next) e in
    let h = bind_ok (field_at 8 (between 0 (2 ^ 63 - 1)) form.HeightRange v.0.1)
    (λ height. from_assets v.0.0 height.0 height.1) (head, next) v.2 in
    let n = bind_ok (field_at 1 (between 1 32) form.AssetCount h.0.1)
    (λ assets. from_prices v.0.0 h.0.0 assets.0 assets.1) (head, next) h.2 in
    let p = bind_ok (many_at price_at n.0.0 n.0.1) (λ prices. many_at units_field_at n.0.0 prices.1 >>= λ rounding.
    Ok (joined v.0.0 h.0.0 prices.0 rounding.0, rounding.1)) (head, next) n.2 in
    let r = bind_ok (many_at units_field_at n.0.0 p.0.1)
    (λ rounding. Ok (joined v.0.0 h.0.0 p.0.0 rounding.0, rounding.1)) (head, next) p.2 in
    let prices : p.0.0 ≡ head.2 =
    ap (λ (y : Head). y.2) {x =
    joined v.0.0 h.0.0 p.0.0 r.0.0} (made_is (joined v.0.0 h.0.0 p.0.0 r.0.0) head r.0.1 next r.2).0 in
    let number : length p.0.0 ≡ n.0.0 = many_length price_at n.0.0 n.0.1 p.0.1 p.0.0 p.1 in
    let range = between_is 1 32 n.0.0 (field_passes 1 (between 1 32) form.AssetCount h.0.1 n.0.1 n.0.0 n.1) in
    subst (λ (y : List ℕ). (1 ≤ length y) × (length y ≤ 32)) {x =
    p.0.0} prices (omega (arith, number, range.0), omega (arith, number, range.1))

abbrev id_of : Account → ℕ
id_of account = account.id.0

account_follows : (version assets : ℕ) (before : Option ℕ) (c next : Cursor) (account : Account)
    → next_account_at version assets before c ≡ Ok (account, next) → may_follow nat_lt before (id_of account) ≡ true
unfolding next_account_at
account_follows version assets before c next account e =
    (guard_takes (account_at version assets c) (λ a. may_follow nat_lt before (id_of a))
    (record { at = c.place; fault = form.Order }) (account, next) e).1

-- there are not too many accounts
pub accounts_few : (version assets : ℕ) (c next : Cursor) (accounts : List Account)
    → account_list_at version assets c ≡ Ok (accounts, next) → length accounts ≤ 65536
unfolding account_list_at
accounts_few version assets c next accounts e =
    let n = bind_ok (field_at 4 (between 0 65536) form.TooMany c)
    (λ count. accounts_at version assets count.0 None count.1) (accounts, next) e in
    let range = between_is 0 65536 n.0.0 (field_passes 4 (between 0 65536) form.TooMany c n.0.1 n.0.0 n.1) in
    omega (arith, each_length (next_account_at version assets) id_of n.0.0 None n.0.1 next accounts n.2, range.1)

-- the accounts stand by id
pub accounts_by_id : (version assets : ℕ) (c next : Cursor) (accounts : List Account)
    → account_list_at version assets c ≡ Ok (accounts, next) → IsStrictlyIncreasing (ids accounts)
unfolding account_list_at
accounts_by_id version assets c next accounts e =
    let n = bind_ok (field_at 4 (between 0 65536) form.TooMany c)
    (λ count. accounts_at version assets count.0 None count.1) (accounts, next) e in
    increasing_from_order None (ids accounts)
    (each_ordered (next_account_at version assets) id_of nat_lt (account_follows version assets)
    n.0.0 None n.0.1 next accounts n.2)
