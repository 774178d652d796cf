-- The trades of a flow, listed entry after entry.
use Rattle.std.proofs.Common.{◌≡◌, ◌≢◌, ℕ, zero, suc, ◌+◌, ◌-◌, ◌*◌, ◌/◌, ◌%◌, ◌<◌, ◌≤◌, eqb, List, [], ◌∷◌, ◌++◌}
use Rattle.std.proofs.Common.{length, take, drop, get_or, set, refl, sym, ap, ap₂, subst, ◌∙◌, append_assoc, inl, inr}
use Rattle.std.proofs.Common.{arith}
use Rattle.std.specs.Prelude.{All, replicate}
use Rattle.std.specs.List.{flat_map}
use Rattle.std.proofs.lemmas.Bool.{cases_Bool, cases_order, eq-eqb, ne_eqb}
use Rattle.std.proofs.lemmas.List.{append-nil, length-append, length-take, length-set, take_more, ext_get_or}
use Rattle.std.proofs.lemmas.List.{get_or-set_same, get_or-set_other}
use Rattle.std.proofs.Math.Seq.{drop-cons, drop-length}
use Rattle.std.proofs.lemmas.Grind.{flat_map-append}
use Rattle.sx_block.specs.declared.trade.Trade.{Trade}
use Rattle.sx_block.specs.Encoding.{trade_bytes}
use Rattle.sx_block.specs.Trades.{IsTrade, place_of, trades_from, value_at, entries_from}
use Rattle.sx_block.proofs.Entries.{entries_length, entry_is, place_below}

trades-append : (n s : ℕ) (xs ys : List ℕ)
    → trades_from n s (xs ++ ys) ≡ trades_from n s xs ++ trades_from n (s + length xs) ys
trades-append n s [] ys = ap (λ (p : ℕ). trades_from n p ys) (let e : s ≡ s + 0 = omega arith in e)
trades-append n s (x ∷ xs) ys =
    let rest =
    trades-append n (suc s) xs ys
    ∙ ap (λ (p : ℕ). trades_from n (suc s) xs ++ trades_from n p ys)
    (let e : suc s + length xs ≡ s + suc (length xs) = omega arith in e) in
    elim (cases_Bool (eqb x 0)) [
      | inl none ↦ rw none rest
      | inr some ↦ rw some (ap (λ (ts : List Trade). record { sell = s / n; buy = s % n; value = x } ∷ ts) rest)
    ]

-- the entry at place i is the next one
entry_more : (n : ℕ) (xs : List ℕ) (i x : ℕ) → i < length xs → x ≡ get_or xs i 0
    → trades_from n 0 (take (i + 1) xs) ≡ trades_from n 0 (take i xs) ++ trades_from n i (x ∷ [])
entry_more n xs i x lt is =
    let taken : take (i + 1) xs ≡ take i xs ++ x ∷ [] =
    take_more xs i 0 lt ∙ ap (λ (y : ℕ). take i xs ++ y ∷ []) (sym is) in
    let place : 0 + length (take i xs) ≡ i = omega (arith, length-take i xs) in
    ap (trades_from n 0) taken ∙ trades-append n 0 (take i xs) (x ∷ [])
    ∙ ap (λ (p : ℕ). trades_from n 0 (take i xs) ++ trades_from n p (x ∷ [])) place

pub none_more : (n : ℕ) (xs : List ℕ) (i x : ℕ) → i < length xs → x ≡ get_or xs i 0 → x ≡ 0
    → trades_from n 0 (take (i + 1) xs) ≡ trades_from n 0 (take i xs)
none_more n xs i x lt is none =
    let nothing : trades_from n i (x ∷ []) ≡ [] = rw (eq-eqb x 0 none) refl in
    entry_more n xs i x lt is ∙ ap (λ (ts : List Trade). trades_from n 0 (take i xs) ++ ts) nothing
    ∙ append-nil (trades_from n 0 (take i xs))

pub some_more : (n : ℕ) (xs : List ℕ) (i x : ℕ) → i < length xs → x ≡ get_or xs i 0 → (x ≡ 0 → ⊥)
    → trades_from n 0 (take (i + 1) xs) ≡ trades_from n 0 (take i xs) ++
    record { sell = i / n; buy = i % n; value = x } ∷ []
some_more n xs i x lt is some =
    let one : trades_from n i (x ∷ []) ≡ record { sell = i / n; buy = i % n; value = x } ∷ [] =
    rw (ne_eqb x 0 some) refl in
    entry_more n xs i x lt is ∙ ap (λ (ts : List Trade). trades_from n 0 (take i xs) ++ ts) one

-- the bytes of one more trade
pub bytes_more : (n : ℕ) (xs : List ℕ) (i x : ℕ) (old mid new : List ℕ) → i < length xs → x ≡ get_or xs i 0
    → (x ≡ 0 → ⊥)
    → mid ≡ old ++ flat_map trade_bytes (trades_from n 0 (take i xs)) →
    new ≡ mid ++ trade_bytes (record { sell = i / n; buy = i % n; value = x })
    → new ≡ old ++ flat_map trade_bytes (trades_from n 0 (take (i + 1) xs))
bytes_more n xs i x old mid new lt is some so_far more =
    let t : Trade = record { sell = i / n; buy = i % n; value = x } in
    let ts = trades_from n 0 (take i xs) in
    let all : flat_map trade_bytes (ts ++ t ∷ []) ≡ flat_map trade_bytes ts ++ trade_bytes t =
    flat_map-append trade_bytes ts (t ∷ [])
    ∙ ap (λ (text : List ℕ). flat_map trade_bytes ts ++ text) (append-nil (trade_bytes t)) in
    more ∙ ap (λ (text : List ℕ). text ++ trade_bytes t) so_far
    ∙ append_assoc old (flat_map trade_bytes ts) (trade_bytes t)
    ∙ ap (λ (text : List ℕ). old ++ text) (sym all)
    ∙ ap (λ (us : List Trade). old ++ flat_map trade_bytes us) (sym (some_more n xs i x lt is some))

-- ---- from trades to entries

none_from : (n s k : ℕ) → entries_from n [] s k ≡ replicate k 0
none_from n s zero = refl
none_from n s (suc k) = ap (λ (xs : List ℕ). 0 ∷ xs) (none_from n (suc s) k)

-- one more trade before the others
pub set_before : (n k : ℕ) (t : Trade) (ts : List Trade) → place_of n t < k
    → entries_from n (t ∷ ts) 0 k ≡ set (entries_from n ts 0 k) (place_of n t) t.value
set_before n k t ts lt =
    let all = entries_from n (t ∷ ts) 0 k in
    let others = entries_from n ts 0 k in
    let p = place_of n t in
    let len : length others ≡ k = entries_length n ts 0 k in
    let same_length : length all ≡ length (set others p t.value) =
    omega (arith, entries_length n (t ∷ ts) 0 k, length-set others p t.value) in
    ext_get_or 0 all (set others p t.value) same_length
    (λ i within.
    let below : i < k = omega (arith, entries_length n (t ∷ ts) 0 k) in
    let e : 0 + i ≡ i = omega arith in
    entry_is n (t ∷ ts) 0 k i 0 below ∙
    elim (cases_order p i) as (λ _. value_at n (t ∷ ts) (0 + i) ≡ get_or (set others p t.value) i 0) [
      | inl same ↦ rw (e, eq-eqb p i same)
          (sym (ap (λ (q : ℕ). get_or (set others q t.value) i 0) same ∙
          get_or-set_same others i t.value 0 (omega arith)))
      | inr other ↦
          let apart : p ≢ i =
          λ same. elim other [ inl less ↦ absurd (omega arith) | inr more ↦ absurd (omega arith) ] in
          rw (e, ne_eqb p i apart) (sym (get_or-set_other others p i t.value 0 (λ same. apart (sym same)) ∙
          entry_is n ts 0 k i 0 below ∙ ap (value_at n ts) e))
    ])

-- where there is no trade, all entries are 0
pub entries_none : (n k : ℕ) → entries_from n [] 0 k ≡ replicate k 0
entries_none n k = none_from n 0 k

-- one more trade that is counted
pub count_more : (n : ℕ) (xs : List ℕ) (i x : ℕ) → i < length xs → x ≡ get_or xs i 0 → (x ≡ 0 → ⊥)
    → length (trades_from n 0 (take (i + 1) xs)) ≡ length (trades_from n 0 (take i xs)) + 1
count_more n xs i x lt is some =
    ap length (some_more n xs i x lt is some)
    ∙ length-append (trades_from n 0 (take i xs)) (record { sell = i / n; buy = i % n; value = x } ∷ [])

-- ---- the trade before the last ones that were placed

module _ (n left : ℕ) (trades : List Trade) (t : Trade) (items : List ℕ) (some : 0 < left)
    (within : left ≤ length trades) (is : t ≡ get_or trades (left - 1) t)
    (all : All (IsTrade n) trades) (so_far : items ≡ entries_from n (drop left trades) 0 (n * n)) where
  trade_is : IsTrade n t
  trade_is = subst (IsTrade n) (sym is) (all (left - 1) t (omega arith))

  pub place_within : place_of n t < length items
  place_within =
      omega (arith, place_below n t trade_is, ap length so_far, entries_length n (drop left trades) 0 (n * n))

  pub entries_more : set items (place_of n t) t.value ≡ entries_from n (drop (left - 1) trades) 0 (n * n)
  entries_more =
      let next : suc (left - 1) ≡ left = omega arith in
      let front : drop (left - 1) trades ≡ t ∷ drop left trades =
      drop-cons trades (left - 1) t (omega arith) ∙ ap₂ (λ (x : Trade) (k : ℕ). x ∷ drop k trades) (sym is) next in
      ap (λ (xs : List ℕ). set xs (place_of n t) t.value) so_far
      ∙ sym (set_before n (n * n) t (drop left trades) (place_below n t trade_is))
      ∙ ap (λ (ts : List Trade). entries_from n ts 0 (n * n)) (sym front)

pub entries_start : (n : ℕ) (trades : List Trade) (items : List ℕ) → items ≡ replicate (n * n) 0
    → items ≡ entries_from n (drop (length trades) trades) 0 (n * n)
entries_start n trades items zeros =
    zeros ∙ sym (entries_none n (n * n))
    ∙ ap (λ (ts : List Trade). entries_from n ts 0 (n * n)) (sym (drop-length trades))
