-- A flow has no more trades than there are pairs.
use Rattle.std.proofs.Common.{◌≡◌, ℕ, zero, suc, ◌+◌, ◌-◌, ◌*◌, ◌<◌, ◌≤◌, true, eqb, List, [], ◌∷◌, ◌++◌, length}
use Rattle.std.proofs.Common.{take, drop, get_or, refl, sym, ap, ◌∙◌, inl, inr, arith}
use Rattle.std.specs.Prelude.{◌==◌, if◌then◌else◌}
use Rattle.std.proofs.lemmas.Bool.{cases_Bool, eq-eqb}
use Rattle.std.proofs.lemmas.List.{take-append-drop, length-take, length-drop, get_or-take, get_or-drop}
use Rattle.std.proofs.lemmas.Nat.{mul-le}
use Rattle.sx_block.specs.Trades.{trades_from, trades_of}
use Rattle.sx_dual.specs.Tables.{FlowTable, IsFlow}

abbrev pub nonzero : List ℕ → ℕ
nonzero [] = 0
nonzero (v ∷ vs) = (if v == 0 then 0 else 1) + nonzero vs

pub length-trades : (n s : ℕ) (vs : List ℕ) → length (trades_from n s vs) ≡ nonzero vs
length-trades n s [] = refl
length-trades n s (v ∷ vs) =
    let rest = length-trades n (suc s) vs in
    elim (cases_Bool (eqb v 0)) [ inl none ↦ rw none (omega arith) | inr some ↦ rw some (omega arith) ]

nonzero-append : (xs ys : List ℕ) → nonzero (xs ++ ys) ≡ nonzero xs + nonzero ys
nonzero-append [] ys = omega arith
nonzero-append (x ∷ xs) ys = omega (arith, nonzero-append xs ys)

one_at_most : (v : ℕ) → (if v == 0 then 0 else 1) ≤ 1
one_at_most v = elim (cases_Bool (eqb v 0)) [ inl none ↦ rw none (omega arith) | inr some ↦ rw some (omega arith) ]

nonzero-le : (vs : List ℕ) → nonzero vs ≤ length vs
nonzero-le [] = omega arith
nonzero-le (v ∷ vs) = omega (arith, one_at_most v, nonzero-le vs)

-- an entry of 0 is not counted
nonzero-lt : (vs : List ℕ) (k : ℕ) → k < length vs → get_or vs k 0 ≡ 0 → nonzero vs < length vs
nonzero-lt [] k lt e = absurd (omega arith)
nonzero-lt (v ∷ vs) zero lt e = let none : eqb v 0 ≡ true = eq-eqb v 0 e in rw none (omega (arith, nonzero-le vs))
nonzero-lt (v ∷ vs) (suc k) lt e = omega (arith, one_at_most v, nonzero-lt vs k (omega arith) e)

-- row by row
rows : (m n r : ℕ) (vs : List ℕ) → length vs ≡ m * n → r + m ≤ n
    → ((a : ℕ) → a < m → get_or vs (a * n + (r + a)) 0 ≡ 0) → nonzero vs ≤ m * (n - 1)
rows zero n r [] len fits none = omega arith
rows zero n r (v ∷ vs) len fits none = absurd (omega arith)
rows (suc m) n r vs len fits none =
    let whole : suc m * n ≡ n + m * n = omega arith in
    let front = take n vs in
    let back = drop n vs in
    let front_length : length front ≡ n = omega (arith, length-take n vs) in
    let back_length : length back ≡ m * n = omega (arith, length-drop n vs) in
    let here : get_or front r 0 ≡ 0 =
    get_or-take n vs r 0 (omega arith)
    ∙ ap (λ (p : ℕ). get_or vs p 0) (let k : r ≡ zero * n + (r + zero) = omega arith in k)
    ∙ none zero (omega arith) in
    let first : nonzero front < length front = nonzero-lt front r (omega arith) here in
    let others : nonzero back ≤ m * (n - 1) =
    rows m n (suc r) back back_length (omega arith)
    (λ a lt. get_or-drop n vs (a * n + (suc r + a)) 0 ∙
    ap (λ (p : ℕ). get_or vs p 0) (let k : n + (a * n + (suc r + a)) ≡ suc a * n + (r + suc a) = omega arith in
    k) ∙ none (suc a) (omega arith)) in
    let split : nonzero vs ≡ nonzero front + nonzero back =
    ap nonzero (sym (take-append-drop n vs)) ∙ nonzero-append front back in
    let more : suc m * (n - 1) ≡ (n - 1) + m * (n - 1) = omega arith in
    omega arith

pub few_trades : (flow : FlowTable) → IsFlow flow → length (trades_of flow) ≤ flow.assets * (flow.assets - 1)
few_trades flow is =
    let n = flow.assets in
    let most = rows n n 0 flow.values is.values.full (omega arith)
    (λ a lt. ap (λ (p : ℕ). get_or flow.values p 0) (let k : a * n + (0 + a) ≡ a * n + a = omega arith in k) ∙
    is.values.diagonal a lt) in
    omega (arith, length-trades n 0 flow.values)

-- at most 992
pub trades_most : (flow : FlowTable) → IsFlow flow → length (trades_of flow) ≤ 992
trades_most flow is =
    let n = flow.assets in
    let pairs : n * (n - 1) ≤ 32 * 31 = mul-le n (n - 1) 32 31 is.assets.few (omega (arith, is.assets.few)) in
    omega (arith, few_trades flow is)
