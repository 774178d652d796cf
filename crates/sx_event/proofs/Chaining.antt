-- Looks along chains of tables, and what a value that is put changes.
use Rattle.std.proofs.Common.{◌≡◌, ◌≢◌, ℕ, zero, suc, ◌+◌, ◌-◌, ◌<◌, ◌≤◌, true, false, cond, eqb, ◌&&◌, List, [], ◌∷◌}
use Rattle.std.proofs.Common.{◌++◌, length, get_or, Option, None, Some, is_some, refl, sym, ap, ◌∙◌, inl, inr, arith}
use Rattle.std.proofs.lemmas.Bool.{cases_eq, cases_lt, eq-eqb, ne_eqb, and_right}
use Rattle.std.proofs.lemmas.List.{get_or_past, get_or_read}
use Rattle.std.proofs.lemmas.List.Sums.{get_or-le-sum_by}
use Rattle.std.proofs.lemmas.Option.{none-some, same_Some}
use Rattle.sx_event.specs.declared.lows.Link.{Link}
use Rattle.sx_event.specs.View.{or_else}
use Rattle.sx_event.specs.Tables.{value_in}
use Rattle.sx_event.specs.Chains.{no_link, newest_of, older_than, Chained, IsOpen, seek, seen_last, Walks, AreChains}
use Rattle.sx_event.specs.Chains.{Linked}

-- the entries of all tables
abbrev pub Entries : Type 0
Entries = List ((ℕ × ℕ) × ℕ)

abbrev pub chained : Entries → List Link → ℕ → Chained
chained entries links room = record { entries = entries; links = links; room = room }

-- ---- one look

pub seek_none : (n : ℕ) (e : Entries) (links : List Link) (purse : ℕ) → seek n e links None purse ≡ None
seek_none zero e links purse = refl
seek_none (suc n) e links purse = refl

-- a look ends where a table has a value
pub seek_found : (n : ℕ) (e : Entries) (links : List Link) (table purse : ℕ) → 0 < n →
    is_some (value_in e table purse) ≡ true
    → value_in e table purse ≡ seek n e links (Some table) purse
seek_found zero e links table purse some is = absurd (omega arith)
seek_found (suc n) e links table purse some is =
    first (value_in e table purse) (seek n e links (older_than links table) purse) is
  where
    first : (value rest : Option ℕ) → is_some value ≡ true → value ≡ or_else value rest
    first (Some x) rest is = refl
    first None rest is = cc

-- and goes on where it has none
pub seek_next : (n m : ℕ) (e : Entries) (links : List Link) (table purse : ℕ) → n ≡ m + 1 →
    is_some (value_in e table purse) ≡ false
    → seek n e links (Some table) purse ≡ seek m e links (older_than links table) purse
seek_next zero m e links table purse is none = absurd (omega arith)
seek_next (suc n) m e links table purse is none =
    let same : n ≡ m = omega arith in
    rw same (second (value_in e table purse) (seek m e links (older_than links table) purse) none)
  where
    second : (value rest : Option ℕ) → is_some value ≡ false → or_else value rest ≡ rest
    second (Some x) rest is = cc
    second None rest is = refl

-- it ends with no value at the last table
pub look_ends : (n : ℕ) (e : Entries) (links : List Link) (table purse : ℕ) → 0 < n →
    is_some (value_in e table purse) ≡ false → older_than links table ≡ None
    → None ≡ seek n e links (Some table) purse
look_ends n e links table purse some none last =
    rw (seek_next n (n - 1) e links table purse (omega arith) none, last, seek_none (n - 1) e links purse) refl

-- and goes on to the table after it
pub look_goes : (n m : ℕ) (e : Entries) (links : List Link) (table next purse : ℕ) → n ≡ m + 1 →
    is_some (value_in e table purse) ≡ false → older_than links table ≡ Some next
    → seek m e links (Some next) purse ≡ seek n e links (Some table) purse
look_goes n m e links table next purse is none older =
    rw (seek_next n m e links table purse is none, older) refl

-- a look reads the tables alone
pub seek_same : (n : ℕ) (e e' : Entries) (links : List Link) (from : Option ℕ) (purse : ℕ) →
    ((table : ℕ) → value_in e' table purse ≡ value_in e table purse)
    → seek n e' links from purse ≡ seek n e links from purse
seek_same zero e e' links from purse same = refl
seek_same (suc n) e e' links None purse same = refl
seek_same (suc n) e e' links (Some table) purse same =
    rw (same table, seek_same n e e' links (older_than links table) purse same) refl

-- ---- a look along a chain

-- the first value in the tables of a list
abbrev pub first_in : Entries → ℕ → List ℕ → Option ℕ
first_in e purse [] = None
first_in e purse (table ∷ tables) = or_else (value_in e table purse) (first_in e purse tables)

pub seek_walk : (n : ℕ) (e : Entries) (links : List Link) (view table purse : ℕ) (chain : List ℕ) →
    older_than links view ≡ None → Walks links view table chain
    → length chain ≤ n → seek n e links (Some table) purse ≡ first_in e purse chain
seek_walk n e links view table purse [] last walk fits = absurd walk
seek_walk zero e links view table purse (x ∷ chain) last walk fits = absurd (omega arith)
seek_walk (suc n) e links view table purse (x ∷ []) last walk fits =
    let end : older_than links table ≡ None = rw (walk.0, walk.1) last in
    rw (end, seek_none n e links purse, walk.0) refl
seek_walk (suc n) e links view table purse (x ∷ y ∷ chain) last walk fits =
    let next : older_than links table ≡ Some y = rw walk.0 walk.1 in
    rw (next, seek_walk n e links view y purse (y ∷ chain) last walk.2 (omega arith), walk.0) refl

or_else_assoc : (a b c : Option ℕ) → or_else (or_else a b) c ≡ or_else a (or_else b c)
or_else_assoc (Some x) b c = refl
or_else_assoc None b c = refl

pub first_in-append : (e : Entries) (purse : ℕ) (chain rest : List ℕ) →
    first_in e purse (chain ++ rest) ≡ or_else (first_in e purse chain) (first_in e purse rest)
first_in-append e purse [] rest = refl
first_in-append e purse (x ∷ chain) rest =
    rw (first_in-append e purse chain rest)
    (sym (or_else_assoc (value_in e x purse) (first_in e purse chain) (first_in e purse rest)))

-- what an open view saw last, by its chain
pub seen_by_chain : (c : Chained) (chains : List (List ℕ)) (view purse : ℕ) → AreChains c chains → IsOpen c view
    → seen_last c view purse ≡ first_in c.entries purse (get_or chains view [])
seen_by_chain c chains view purse are is_open =
    let in' : view < length chains = omega (arith, are.as_many, is_open.known) in
    seek_walk (length c.links) c.entries c.links view (newest_of c.links view) purse (get_or chains view [])
    is_open.last (are.walks view is_open)
    (omega (arith, get_or-le-sum_by (length {A = ℕ}) chains view [] in', are.fit))

-- ---- walks

-- from one table all walks end at one view
walks_end : (links : List Link) (v w table : ℕ) (c d : List ℕ) → older_than links v ≡ None → older_than links w ≡ None
    → Walks links v table c → Walks links w table d → v ≡ w
walks_end links v w table [] d last last' walk walk' = absurd walk
walks_end links v w table (x ∷ c) [] last last' walk walk' = absurd walk'
walks_end links v w table (x ∷ []) (y ∷ []) last last' walk walk' = sym walk.1 ∙ sym walk.0 ∙ walk'.0 ∙ walk'.1
walks_end links v w table (x ∷ []) (y ∷ z ∷ d) last last' walk walk' =
    let here : older_than links v ≡ Some z = rw (← walk.1, ← walk.0, walk'.0) walk'.1 in
    absurd (none-some z (sym last ∙ here))
walks_end links v w table (x ∷ y ∷ c) (z ∷ []) last last' walk walk' =
    let here : older_than links w ≡ Some y = rw (← walk'.1, ← walk'.0, walk.0) walk.1 in
    absurd (none-some y (sym last' ∙ here))
walks_end links v w table (x ∷ y ∷ c) (z ∷ u ∷ d) last last' walk walk' =
    let here : older_than links z ≡ Some y = rw (← walk'.0, walk.0) walk.1 in
    let same : y ≡ u = same_Some y u (sym here ∙ walk'.1) in
    walks_end links v w y (y ∷ c) (u ∷ d) last last' walk.2 (rw same walk'.2)

-- what another view's newest table gets is not seen
seen_kept : (e e' : Entries) (links : List Link) (v w top table purse : ℕ) (c d : List ℕ) →
    older_than links v ≡ None → older_than links w ≡ None → v ≢ w
    → Walks links v top c → Walks links w table d → ((t : ℕ) → t ≢ top → value_in e' t purse ≡ value_in e t purse)
    → first_in e' purse d ≡ first_in e purse d
seen_kept e e' links v w top table purse c [] last last' apart walk walk' same = refl
seen_kept e e' links v w top table purse c (x ∷ []) last last' apart walk walk' same =
    let other : x ≢ top = λ is. apart (walks_end links v w top c (x ∷ []) last last' walk (sym is, walk'.1)) in
    rw (same x other) refl
seen_kept e e' links v w top table purse c (x ∷ y ∷ d) last last' apart walk walk' same =
    let other : x ≢ top = λ is. apart
    (walks_end links v w top c (x ∷ y ∷ d) last last' walk (sym is, walk'.1, walk'.2)) in
    rw (same x other) (ap (or_else (value_in e x purse))
    (seen_kept e e' links v w top y purse c (y ∷ d) last last' apart walk walk'.2 same))

-- links that stay keep a walk
pub walks_kept : (links links' : List Link) (view table : ℕ) (chain : List ℕ) →
    ((x y : ℕ) → older_than links x ≡ Some y → older_than links' x ≡ Some y)
    → Walks links view table chain → Walks links' view table chain
walks_kept links links' view table [] stay walk = walk
walks_kept links links' view table (x ∷ []) stay walk = walk
walks_kept links links' view table (x ∷ y ∷ chain) stay walk =
    (walk.0, stay x y walk.1, walks_kept links links' view y (y ∷ chain) stay walk.2)

-- a walk, and one from the table after it
pub walks_joined : (links links' : List Link) (view other table top : ℕ) (chain rest : List ℕ) →
    older_than links' other ≡ Some top
    → ((x y : ℕ) → older_than links x ≡ Some y → older_than links' x ≡ Some y)
    → Walks links other table chain → Walks links' view top rest → Walks links' view table (chain ++ rest)
walks_joined links links' view other table top [] rest behind stay walk on = absurd walk
walks_joined links links' view other table top (x ∷ []) [] behind stay walk on = absurd on
walks_joined links links' view other table top (x ∷ []) (y ∷ []) behind stay walk on =
    (walk.0, rw (walk.1, behind, on.0) refl, (refl, on.1))
walks_joined links links' view other table top (x ∷ []) (y ∷ z ∷ rest) behind stay walk on =
    (walk.0, rw (walk.1, behind, on.0) refl, (refl, on.1, on.2))
walks_joined links links' view other table top (x ∷ y ∷ chain) rest behind stay walk on =
    (walk.0, stay x y walk.1, walks_joined links links' view other y top (y ∷ chain) rest behind stay walk.2 on)

-- the newest table of an open view is one of those there are
top_is_known : (links : List Link) (view table : ℕ) (chain : List ℕ) → view < length links →
    Walks links view table chain → table < length links
top_is_known links view table [] lt walk = absurd walk
top_is_known links view table (x ∷ []) lt walk = rw (walk.0, walk.1) lt
top_is_known links view table (x ∷ y ∷ chain) lt walk = elim (cases_lt table (length links)) [
  | inl in' ↦ in'
  | inr past ↦
      let none : older_than links x ≡ None =
      ap (λ (l : Link). l.older) (get_or_past links x no_link (rw (← walk.0) past)) in
      absurd (none-some y (sym none ∙ walk.1))
]

-- ---- reserve

pub reserved : (e e' : Entries) (links : List Link) (room room' : ℕ) → ((t p : ℕ) → value_in e' t p ≡ value_in e t p)
    → Linked (chained e links room) → Linked (chained e' links room')
reserved e e' links room room' same linked = (
  linked.0,
  record {
    as_many = linked.1.as_many;
    fit = linked.1.fit;
    walks = λ view is_open. linked.1.walks view record { known = is_open.known; last = is_open.last };
    unused = λ t p past. same t p ∙ linked.1.unused t p past;
  },
)

-- ---- put

-- the values after one is put into a table
abbrev pub IsPut : Entries → Entries → ℕ → ℕ → ℕ → Type 0
IsPut e e' table purse value =
    (t p : ℕ) → value_in e' t p ≡ cond (eqb table t && eqb purse p) (Some value) (value_in e t p)

put_elsewhere : (e e' : Entries) (table purse value t p : ℕ) → IsPut e e' table purse value → t ≢ table →
    value_in e' t p ≡ value_in e t p
put_elsewhere e e' table purse value t p put apart = put t p ∙ rw (ne_eqb table t (λ is. apart (sym is))) refl

pub put_linked : (e e' : Entries) (links : List Link) (room room' view purse value : ℕ) →
    IsPut e e' (newest_of links view) purse value
    → IsOpen (chained e links room) view → Linked (chained e links room) → Linked (chained e' links room')
put_linked e e' links room room' view purse value put is_open linked =
    let known = top_is_known links view (newest_of links view) (get_or linked.0 view []) is_open.known
    (linked.1.walks view is_open) in (
      linked.0,
      record {
        as_many = linked.1.as_many;
        fit = linked.1.fit;
        walks = λ view is_open. linked.1.walks view record { known = is_open.known; last = is_open.last };
        unused = λ t p past. put_elsewhere e e' (newest_of links view) purse value t p put
            (λ is. absurd (omega arith)) ∙ linked.1.unused t p past;
      },
    )

first_in-same : (e e' : Entries) (purse : ℕ) (chain : List ℕ) →
    ((t : ℕ) → value_in e' t purse ≡ value_in e t purse) → first_in e' purse chain ≡ first_in e purse chain
first_in-same e e' purse [] same = refl
first_in-same e e' purse (x ∷ chain) same = rw (same x, first_in-same e e' purse chain same) refl

-- a value in the first table of a chain is the first
put_own : (e e' : Entries) (links : List Link) (view top purse value p : ℕ) (chain : List ℕ) →
    IsPut e e' top purse value → Walks links view top chain
    → first_in e' p chain ≡ cond (eqb purse p) (Some value) (first_in e p chain)
put_own e e' links view top purse value p [] put walk = absurd walk
put_own e e' links view top purse value p (x ∷ chain) put walk = elim (cases_eq purse p) [
  | inl same ↦
      let is : value_in e' x p ≡ Some value = put x p ∙
      rw (eq-eqb top x (starts chain walk), eq-eqb purse p same) refl in
      rw (is, eq-eqb purse p same) refl
  | inr apart ↦
      let stays : (t : ℕ) → value_in e' t p ≡ value_in e t p = λ t. put t p ∙
      rw (ne_eqb purse p apart, and_right (eqb top t) false refl) refl in
      rw (ne_eqb purse p apart) (first_in-same e e' p (x ∷ chain) stays)
]
  where
    starts : (chain : List ℕ) → Walks links view top (x ∷ chain) → top ≡ x
    starts [] walk = walk.0
    starts (y ∷ chain) walk = walk.0

-- what each open view then sees
pub put_seen : (e e' : Entries) (links : List Link) (room room' view purse value w p : ℕ) →
    IsPut e e' (newest_of links view) purse value
    → IsOpen (chained e links room) view → IsOpen (chained e links room) w → Linked (chained e links room)
    → seen_last (chained e' links room') w p ≡ cond (eqb view w && eqb purse p) (Some value)
    (seen_last (chained e links room) w p)
unfolding put_linked
put_seen e e' links room room' view purse value w p put is_open w_open linked =
    let top = newest_of links view in
    let chains = linked.0 in
    let before = seen_by_chain (chained e links room) chains w p linked.1 w_open in
    let w_open' : IsOpen (chained e' links room') w = record { known = w_open.known; last = w_open.last } in
    let after = put_linked e e' links room room' view purse value put is_open linked in
    let now = seen_by_chain (chained e' links room') chains w p after.1 w_open' in
    elim (cases_eq view w) [
      | inl same ↦ rw (eq-eqb view w same, now, before)
          (rw (← same) (put_own e e' links view (newest_of links view) purse value p (get_or chains view []) put
          (linked.1.walks view is_open)))
      | inr apart ↦ rw (ne_eqb view w apart, now, before)
          (seen_kept e e' links view w top (newest_of links w) p (get_or chains view []) (get_or chains w [])
          is_open.last w_open.last apart
          (linked.1.walks view is_open) (linked.1.walks w w_open)
          (λ t other. put_elsewhere e e' top purse value t p put other))
    ]

-- the link that an index reads
pub link_read : (links : List Link) (view : ℕ) (link : Link) → view < length links → link ≡ get_or links view link →
    link ≡ get_or links view no_link
link_read links view link in' is = get_or_read links view link in' is no_link
