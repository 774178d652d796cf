-- A flow and the list of its trades: each is made from the other.
use Rattle.std.proofs.Common.{◌≡◌, ◌≢◌, ℕ, zero, suc, ◌+◌, ◌-◌, ◌*◌, ◌/◌, ◌%◌, ◌^◌, ◌<◌, ◌≤◌, true, false, eqb, List}
use Rattle.std.proofs.Common.{[], ◌∷◌, length, get_or, Option, Some, None, refl, sym, ap, ap₂, subst, ◌∙◌, inl, inr}
use Rattle.std.proofs.Common.{arith}
use Rattle.std.specs.Prelude.{nat_lt, ◌==◌, ◌&&◌}
use Rattle.std.specs.List.{AllByRecursion}
use Rattle.std.proofs.Math.Nat.{mul-le-mul_right}
use Rattle.std.proofs.lemmas.Bool.{cases_Bool, cases_lt, cases_order, eqb-true, eqb-false, eq-eqb, ne_eqb, lt-ltb}
use Rattle.std.proofs.lemmas.Bool.{ltb-true, or_cases, and_parts}
use Rattle.std.proofs.lemmas.Nat.{div-add-mod', div-mul-add, mod-mul-add, mod_below, div_below, same_from_place}
use Rattle.sx_block.specs.declared.trade.Trade.{Trade}
use Rattle.sx_block.specs.Trades.{place_of, trade_before, IsTrade, trades_from, trades_of, value_at, entries_from}
use Rattle.sx_block.specs.Trades.{flow_of}
use Rattle.sx_bytes.specs.Grammar.{may_follow, in_order}
use Rattle.sx_dual.specs.Tables.{FlowTable, IsFlow}

abbrev pair : ℕ → ℕ → ℕ → Trade
pair n place value = record { sell = place / n; buy = place % n; value = value }

-- ---- from a flow to its trades, and back

-- nothing stands before the first place
value_before : (n s p : ℕ) (vs : List ℕ) → p < s → value_at n (trades_from n s vs) p ≡ 0
value_before n s p [] lt = refl
value_before n s p (v ∷ vs) lt =
    let rest = value_before n (suc s) p vs (omega arith) in
    elim (cases_Bool (eqb v 0)) [
      | inl none ↦ rw none rest
      | inr some ↦ rw (some, div-add-mod' s n, ne_eqb s p (λ e. absurd (omega arith))) rest
    ]

value_is : (n s p : ℕ) (vs : List ℕ) → s ≤ p → value_at n (trades_from n s vs) p ≡ get_or vs (p - s) 0
value_is n s p [] le = refl
value_is n s p (v ∷ vs) le =
    elim (cases_lt s p) [
      | inl later ↦
          let k : p - s ≡ suc (p - suc s) = omega arith in
          let rest = value_is n (suc s) p vs (omega arith) in
          elim (cases_Bool (eqb v 0)) [
            | inl none ↦ rw (none, k) rest
            | inr some ↦ rw (some, k, div-add-mod' s n, ne_eqb s p (λ e. absurd (omega arith))) rest
          ]
      | inr here ↦
          let same : s ≡ p = omega arith in
          let k : p - s ≡ 0 = omega arith in
          elim (cases_Bool (eqb v 0)) [
            | inl none ↦ rw (none, k) (value_before n (suc s) p vs (omega arith) ∙ sym (eqb-true v 0 none))
            | inr some ↦ rw (some, k, div-add-mod' s n, eq-eqb s p same) refl
          ]
    ]

entries_are : (n s : ℕ) (trades : List Trade) (vs : List ℕ) → ((i : ℕ) → value_at n trades (s + i) ≡ get_or vs i 0)
    → entries_from n trades s (length vs) ≡ vs
entries_are n s trades [] each = refl
entries_are n s trades (v ∷ vs) each =
    let first : value_at n trades s ≡ v = ap (value_at n trades) (let k : s ≡ s + 0 = omega arith in k) ∙ each 0 in
    let others =
    entries_are n (suc s) trades vs
    (λ i. ap (value_at n trades) (let k : suc s + i ≡ s + suc i = omega arith in k) ∙ each (suc i)) in
    ap₂ (λ (x : ℕ) (xs : List ℕ). x ∷ xs) first others

-- the flow of the trades of a flow is that flow
pub flow_again : (flow : FlowTable) → IsFlow flow → flow_of flow.assets (trades_of flow) ≡ flow
flow_again flow is =
    let vs = flow.values in
    let n = flow.assets in
    let each : (i : ℕ) → value_at n (trades_of flow) (0 + i) ≡ get_or vs i 0 =
    λ i. ap (value_at n (trades_of flow)) (let k : 0 + i ≡ i = omega arith in k) ∙ value_is n 0 i vs (omega arith)
    ∙ ap (λ (k : ℕ). get_or vs k 0) (let e : i - 0 ≡ i = omega arith in e) in
    let all : entries_from n (trades_of flow) 0 (length vs) ≡ vs = entries_are n 0 (trades_of flow) vs each in
    ap (λ (xs : List ℕ). record { assets = n; values = xs })
    (ap (entries_from n (trades_of flow) 0) (sym is.values.full) ∙ all)

-- ---- from trades in order to a flow, and back

-- trades at places that rise, from one place on and below another
abbrev Rise : ℕ → ℕ → ℕ → List Trade → Type 0
Rise n s e [] = Unit {0}
Rise n s e (t ∷ ts) = (s ≤ place_of n t) × (place_of n t < e) × IsTrade n t × Rise n (suc (place_of n t)) e ts

rise_from : (n s s' e : ℕ) (ts : List Trade) → s' ≤ s → Rise n s e ts → Rise n s' e ts
rise_from n s s' e [] le rise = tt
rise_from n s s' e (t ∷ ts) le rise = (omega (arith, rise.0), rise.1, rise.2, rise.3)

none_before : (n s e p : ℕ) (ts : List Trade) → Rise n s e ts → p < s → value_at n ts p ≡ 0
none_before n s e p [] rise lt = refl
none_before n s e p (t ∷ ts) rise lt =
    rw (ne_eqb (place_of n t) p (λ same. absurd (omega (arith, rise.0))))
    (none_before n (suc (place_of n t)) e p ts rise.3 (omega (arith, rise.0)))

skip : (n s k : ℕ) (t : Trade) (ts : List Trade) → place_of n t < s
    → entries_from n (t ∷ ts) s k ≡ entries_from n ts s k
skip n s zero t ts lt = refl
skip n s (suc k) t ts lt =
    let first : value_at n (t ∷ ts) s ≡ value_at n ts s =
    rw (ne_eqb (place_of n t) s (λ e. absurd (omega arith))) refl in
    ap₂ (λ (x : ℕ) (xs : List ℕ). x ∷ xs) first (skip n (suc s) k t ts (omega arith))

same_pair : (n : ℕ) (t : Trade) → IsTrade n t → pair n (place_of n t) t.value ≡ t
same_pair n t is = rw (div-mul-add t.sell n t.buy is.buy, mod-mul-add t.sell n t.buy is.buy) refl

trades_again_from : (n s k : ℕ) (ts : List Trade) → Rise n s (s + k) ts → trades_from n s (entries_from n ts s k) ≡ ts
trades_again_from n s zero [] rise = refl
trades_again_from n s zero (t ∷ ts) rise = absurd (omega (arith, rise.0, rise.1))
trades_again_from n s (suc k) [] rise = trades_again_from n (suc s) k [] tt
trades_again_from n s (suc k) (t ∷ ts) rise =
    let last : s + suc k ≡ suc s + k = omega arith in
    elim (cases_lt s (place_of n t)) [
      | inl later ↦
          let none : value_at n (t ∷ ts) s ≡ 0 =
          none_before n (suc s) (s + suc k) s (t ∷ ts) (omega arith, rise.1, rise.2, rise.3) (omega arith) in
          let from : Rise n (suc s) (suc s + k) (t ∷ ts) =
          subst (λ (e : ℕ). Rise n (suc s) e (t ∷ ts)) last (omega arith, rise.1, rise.2, rise.3) in
          rw none (trades_again_from n (suc s) k (t ∷ ts) from)
      | inr here ↦
          let same : place_of n t ≡ s = omega (arith, rise.0) in
          let value : value_at n (t ∷ ts) s ≡ t.value = rw (eq-eqb (place_of n t) s same) refl in
          let some : eqb t.value 0 ≡ false = ne_eqb t.value 0 (λ e. absurd (omega (arith, rise.2.some))) in
          let first : pair n s t.value ≡ t = ap (λ (p : ℕ). pair n p t.value) (sym same) ∙ same_pair n t rise.2 in
          let from : Rise n (suc s) (suc s + k) ts =
          subst (λ (e : ℕ). Rise n (suc s) e ts) last
          (rise_from n (suc (place_of n t)) (suc s) (s + suc k) ts (omega arith) rise.3) in
          let others : trades_from n (suc s) (entries_from n (t ∷ ts) (suc s) k) ≡ ts =
          ap (trades_from n (suc s)) (skip n (suc s) k t ts (omega arith)) ∙ trades_again_from n (suc s) k ts from in
          rw (value, some) (ap₂ (λ (x : Trade) (xs : List Trade). x ∷ xs) first others)
    ]

-- ---- order by asset is order by place

pub place_below : (n : ℕ) (t : Trade) → IsTrade n t → place_of n t < n * n
place_below n t is =
    let row : suc t.sell * n ≤ n * n = mul-le-mul_right n (let lt : suc t.sell ≤ n = omega (arith, is.sell) in lt) in
    omega (arith, is.buy)

place_rises : (n : ℕ) (one other : Trade) → one.buy < n → trade_before one other ≡ true
    → place_of n one < place_of n other
place_rises n one other fits before =
    elim (or_cases (nat_lt one.sell other.sell) ((one.sell == other.sell) && nat_lt one.buy other.buy) before) [
      | inl sold ↦
          let lt : suc one.sell ≤ other.sell = omega (arith, ltb-true one.sell other.sell sold) in
          let row : suc one.sell * n ≤ other.sell * n = mul-le-mul_right n lt in
          omega arith
      | inr both ↦
          let p = and_parts (one.sell == other.sell) (nat_lt one.buy other.buy) both in
          let same : one.sell ≡ other.sell = eqb-true one.sell other.sell p.0 in
          let row : one.sell * n ≡ other.sell * n = ap (λ (x : ℕ). x * n) same in
          omega (arith, ltb-true one.buy other.buy p.1)
    ]

rises_before : (n : ℕ) (one other : Trade) → other.buy < n → place_of n one < place_of n other
    → trade_before one other ≡ true
rises_before n one other fits lt =
    elim (cases_order one.sell other.sell) [
      | inl same ↦
          let row : one.sell * n ≡ other.sell * n = ap (λ (x : ℕ). x * n) same in
          let bought : one.buy < other.buy = omega arith in
          let tie : (one.sell == other.sell) ≡ true = eq-eqb one.sell other.sell same in
          let less : nat_lt one.buy other.buy ≡ true = lt-ltb one.buy other.buy bought in
          elim (cases_Bool (nat_lt one.sell other.sell))
          [ inl sold ↦ rw sold refl | inr equal ↦ rw (equal, tie, less) refl ]
      | inr (inl less) ↦ rw (lt-ltb one.sell other.sell less) refl
      | inr (inr more) ↦
          let row : suc other.sell * n ≤ one.sell * n =
          mul-le-mul_right n (let le : suc other.sell ≤ one.sell = omega arith in le) in
          absurd (omega arith)
    ]

-- the place that the next trade may have at the least
abbrev from : ℕ → Option Trade → ℕ
from n None = 0
from n (Some t) = suc (place_of n t)

abbrev Fits : ℕ → Option Trade → Type 0
Fits n None = Unit {0}
Fits n (Some t) = t.buy < n

follows_from : (n : ℕ) (before : Option Trade) (t : Trade) → Fits n before → may_follow trade_before before t ≡ true
    → from n before ≤ place_of n t
follows_from n None t fits follows = omega arith
follows_from n (Some one) t fits follows = omega (arith, place_rises n one t fits follows)

from_follows : (n : ℕ) (before : Option Trade) (t : Trade) → t.buy < n → from n before ≤ place_of n t
    → may_follow trade_before before t ≡ true
from_follows n None t fits le = refl
from_follows n (Some one) t fits le = rises_before n one t fits (omega arith)

rise_of : (n : ℕ) (before : Option Trade) (ts : List Trade) → Fits n before → AllByRecursion (IsTrade n) ts
    → in_order trade_before before ts ≡ true → Rise n (from n before) (n * n) ts
rise_of n before [] fits all ordered = tt
rise_of n before (t ∷ ts) fits all ordered =
    let o = and_parts (may_follow trade_before before t) (in_order trade_before (Some t) ts) ordered in
    (follows_from n before t fits o.0, place_below n t all.0, all.0, rise_of n (Some t) ts all.0.buy all.1 o.1)

-- the trades of the flow of trades in order are those trades
pub trades_again : (n : ℕ) (ts : List Trade) → AllByRecursion (IsTrade n) ts → in_order trade_before None ts ≡ true
    → trades_of (flow_of n ts) ≡ ts
trades_again n ts all ordered =
    let rise : Rise n 0 (0 + n * n) ts =
    subst (λ (e : ℕ). Rise n 0 e ts) (let k : n * n ≡ 0 + n * n = omega arith in k)
    (rise_of n None ts tt all ordered) in
    trades_again_from n 0 (n * n) ts rise

-- ---- the flow of trades is a flow

pub entries_length : (n : ℕ) (ts : List Trade) (s k : ℕ) → length (entries_from n ts s k) ≡ k
entries_length n ts s zero = refl
entries_length n ts s (suc k) = ap suc (entries_length n ts (suc s) k)

pub entry_is : (n : ℕ) (ts : List Trade) (s k i d : ℕ) → i < k
    → get_or (entries_from n ts s k) i d ≡ value_at n ts (s + i)
entry_is n ts s zero i d lt = absurd (omega arith)
entry_is n ts s (suc k) zero d lt = ap (value_at n ts) (let e : s ≡ s + 0 = omega arith in e)
entry_is n ts s (suc k) (suc i) d lt =
    entry_is n ts (suc s) k i d (omega arith) ∙ ap (value_at n ts) (let e : suc s + i ≡ s + suc i = omega arith in e)

value_most : (n : ℕ) (ts : List Trade) (p : ℕ) → AllByRecursion (IsTrade n) ts → value_at n ts p ≤ 2 ^ 102
value_most n [] p all = omega arith
value_most n (t ∷ ts) p all =
    elim (cases_Bool (eqb (place_of n t) p)) [
      | inl here ↦ rw here all.0.most
      | inr other ↦ rw other (value_most n ts p all.1)
    ]

-- no asset trades with itself
none_itself : (n : ℕ) (ts : List Trade) (a : ℕ) → a < n → AllByRecursion (IsTrade n) ts → value_at n ts (a * n + a) ≡ 0
none_itself n [] a lt all = refl
none_itself n (t ∷ ts) a lt all =
    let apart : place_of n t ≢ a * n + a =
    λ e. let s = same_from_place t.sell t.buy a a n all.0.buy lt e in all.0.differ (s.1 ∙ sym s.0) in
    rw (ne_eqb (place_of n t) (a * n + a) apart) (none_itself n ts a lt all.1)

pub flow_made : (n : ℕ) (ts : List Trade) → 1 ≤ n → n ≤ 32 → AllByRecursion (IsTrade n) ts → IsFlow (flow_of n ts)
flow_made n ts some few all = record {
  assets = record { some = some; few = few };
  values = record {
    full = entries_length n ts 0 (n * n);
    in_range = λ k d lt.
        let within : k < n * n = omega (arith, entries_length n ts 0 (n * n)) in
        rw (entry_is n ts 0 (n * n) k d within) (value_most n ts (0 + k) all);
    diagonal = λ a lt.
        let row : suc a * n ≤ n * n = mul-le-mul_right n (let le : suc a ≤ n = omega arith in le) in
        let within : a * n + a < n * n = omega arith in
        entry_is n ts 0 (n * n) (a * n + a) 0 within
        ∙ ap (value_at n ts) (let e : 0 + (a * n + a) ≡ a * n + a = omega arith in e) ∙ none_itself n ts a lt all;
  };
}

-- ---- the trades of a flow are trades in order

-- what is known of the entries from a place on
abbrev Entries : ℕ → ℕ → List ℕ → Type 0
Entries n s vs =
    (i : ℕ) → i < length vs → (s + i < n * n) × (get_or vs i 0 ≤ 2 ^ 102) ×
    ((s + i) / n ≡ (s + i) % n → get_or vs i 0 ≡ 0)

entries_tail : (n s v : ℕ) (vs : List ℕ) → Entries n s (v ∷ vs) → Entries n (suc s) vs
entries_tail n s v vs are i lt =
    let k : s + suc i ≡ suc s + i = omega arith in
    let at = are (suc i) (omega arith) in
    (omega (arith, at.0), at.1, λ e. at.2 (ap (λ (p : ℕ). p / n) k ∙ e ∙ ap (λ (p : ℕ). p % n) (sym k)))

trade_is : (n s v : ℕ) (vs : List ℕ) → 1 ≤ n → eqb v 0 ≡ false → Entries n s (v ∷ vs) → IsTrade n (pair n s v)
trade_is n s v vs some above are =
    let k : s + 0 ≡ s = omega arith in
    let at = are 0 (omega arith) in
    let nonzero : v ≢ 0 = eqb-false v 0 above in
    record {
      sell = div_below s n n (omega arith) (omega (arith, at.0));
      buy = mod_below s n (omega arith);
      differ = λ e. nonzero (at.2 (ap (λ (p : ℕ). p / n) k ∙ sym e ∙ ap (λ (p : ℕ). p % n) (sym k)));
      some =
          elim (cases_order v 0) [
            | inl e ↦ absurd (nonzero e)
            | inr (inl lt) ↦ absurd (omega arith)
            | inr (inr gt) ↦
                omega arith
          ];
      most = at.1;
    }

trades_are : (n s : ℕ) (vs : List ℕ) (before : Option Trade) → 1 ≤ n → Entries n s vs → from n before ≤ s
    → AllByRecursion (IsTrade n) (trades_from n s vs) × (in_order trade_before before (trades_from n s vs) ≡ true)
trades_are n s [] before some are le = (tt, refl)
trades_are n s (v ∷ vs) before some are le =
    elim (cases_Bool (eqb v 0)) [
      | inl none ↦ rw none (trades_are n (suc s) vs before some (entries_tail n s v vs are) (omega arith))
      | inr above ↦
          let is : IsTrade n (pair n s v) = trade_is n s v vs some above are in
          let place : place_of n (pair n s v) ≡ s = div-add-mod' s n in
          let others = trades_are n (suc s) vs (Some (pair n s v)) some (entries_tail n s v vs are) (omega arith) in
          let follows : may_follow trade_before before (pair n s v) ≡ true =
          from_follows n before (pair n s v) is.buy (omega arith) in
          rw above ((is, others.0), (rw follows others.1))
    ]

-- what a flow's entries are
entries_of_flow : (flow : FlowTable) → IsFlow flow → Entries flow.assets 0 flow.values
entries_of_flow flow is i lt =
    let n = flow.assets in
    let k : 0 + i ≡ i = omega arith in
    let within : i < n * n = omega (arith, is.values.full) in (
      omega arith,
      is.values.in_range i 0 lt,
      λ e.
          let e' : i / n ≡ i % n = ap (λ (p : ℕ). p / n) (sym k) ∙ e ∙ ap (λ (p : ℕ). p % n) k in
          let below : i / n < n = div_below i n n (omega (arith, is.assets.some)) within in
          let place : i / n * n + i / n ≡ i = ap (λ (b : ℕ). i / n * n + b) e' ∙ div-add-mod' i n in
          ap (λ (p : ℕ). get_or flow.values p 0) (sym place) ∙ is.values.diagonal (i / n) below,
    )

pub flow_trades : (flow : FlowTable) → IsFlow flow
    → AllByRecursion (IsTrade flow.assets) (trades_of flow) × (in_order trade_before None (trades_of flow) ≡ true)
flow_trades flow is = trades_are flow.assets 0 flow.values None is.assets.some (entries_of_flow flow is) (omega arith)
