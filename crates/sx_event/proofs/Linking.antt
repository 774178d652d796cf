-- Chains of tables where a view is made, and where one takes in another.
use Rattle.std.proofs.Common.{◌≡◌, ◌≢◌, ℕ, ◌<◌, cond, eqb, List, [], ◌∷◌, ◌++◌, length, get_or, set, sum_by, None}
use Rattle.std.proofs.Common.{Some, refl, sym, ap, ◌∙◌, inl, inr, arith, length-set, length-append, get_or-set_same}
use Rattle.std.proofs.Common.{get_or-set_other}
use Rattle.std.proofs.lemmas.Bool.{cases_eq, cases_lt, eq-eqb, ne_eqb}
use Rattle.std.proofs.lemmas.List.{get_or_append_left, get_or_past, get_or_push, length_push}
use Rattle.std.proofs.lemmas.List.Sums.{sum_by-set, sum_by_push}
use Rattle.std.proofs.lemmas.Option.{none-some}
use Rattle.sx_event.specs.declared.lows.Link.{Link}
use Rattle.sx_event.specs.View.{or_else}
use Rattle.sx_event.specs.Tables.{value_in}
use Rattle.sx_event.specs.Chains.{no_link, newest_of, older_than, IsOpen, seen_last, Linked}
use Rattle.sx_event.proofs.Chaining.{Entries, chained, first_in, first_in-append, seen_by_chain, walks_kept}
use Rattle.sx_event.proofs.Chaining.{walks_joined}

-- ---- add

-- the link of a view that is made
abbrev pub fresh : ℕ → Link
fresh view = record { newest = view; older = None }

link_kept : (links : List Link) (x y : ℕ) → older_than links x ≡ Some y →
    older_than (links ++ fresh (length links) ∷ []) x ≡ Some y
link_kept links x y is = elim (cases_lt x (length links)) [
  | inl in' ↦ ap (λ (l : Link). l.older) (get_or_append_left links (fresh (length links) ∷ []) no_link x in') ∙ is
  | inr past ↦ absurd (none-some y (sym (ap (λ (l : Link). l.older) (get_or_past links x no_link past)) ∙ is))
]

-- a view that is open after one is made is that one, or was open before
was_open : (e : Entries) (links : List Link) (room room' view : ℕ) → view ≢ length links →
    IsOpen (chained e (links ++ fresh (length links) ∷ []) room') view
    → IsOpen (chained e links room) view
was_open e links room room' view other is_open =
    let in' : view < length links = omega (arith, is_open.known, length_push links (fresh (length links)), other) in
    record {
      known = in';
      last = sym (ap (λ (l : Link). l.older)
          (get_or_append_left links (fresh (length links) ∷ []) no_link view in')) ∙ is_open.last;
    }

pub stays_open : (e : Entries) (links : List Link) (room room' view : ℕ) → IsOpen (chained e links room) view
    → IsOpen (chained e (links ++ fresh (length links) ∷ []) room') view
stays_open e links room room' view is_open = record {
  known = omega (arith, is_open.known, length_push links (fresh (length links)));
  last = ap (λ (l : Link). l.older)
      (get_or_append_left links (fresh (length links) ∷ []) no_link view is_open.known) ∙ is_open.last;
}

pub opens : (e : Entries) (links : List Link) (room : ℕ) →
    IsOpen (chained e (links ++ fresh (length links) ∷ []) room) (length links)
opens e links room = record {
  known = omega (arith, length_push links (fresh (length links)));
  last = ap (λ (l : Link). l.older) (get_or_push links (fresh (length links)) no_link (length links) refl);
}

newest_kept : (links : List Link) (view : ℕ) → view < length links →
    newest_of (links ++ fresh (length links) ∷ []) view ≡ newest_of links view
newest_kept links view in' = ap (λ (l : Link). l.newest)
    (get_or_append_left links (fresh (length links) ∷ []) no_link view in')

pub add_linked : (e : Entries) (links : List Link) (room room' : ℕ) → Linked (chained e links room) →
    Linked (chained e (links ++ fresh (length links) ∷ []) room')
add_linked e links room room' linked =
    let n = length links in
    let new = fresh n in
    let chains = linked.0 in
    let one = n ∷ [] in
    let as_many : length chains ≡ n = linked.1.as_many in (
      chains ++ one ∷ [],
      record {
        as_many = omega (arith, length_push chains one, length_push links new, as_many);
        fit = omega (arith, sum_by_push (length {A = ℕ}) chains one, length_push links new, linked.1.fit);
        walks = λ view is_open. elim (cases_eq view n) [
          | inl same ↦
              let chain : get_or (chains ++ one ∷ []) view [] ≡ one = rw same (get_or_push chains one [] n as_many) in
              let top : newest_of (links ++ new ∷ []) view ≡ n =
              rw same (ap (λ (l : Link). l.newest) (get_or_push links new no_link n refl)) in
              rw chain (top, sym same)
          | inr other ↦
              let old = was_open e links room room' view other is_open in
              let in' : view < length chains = omega (arith, as_many, old.known) in
              rw (get_or_append_left chains (one ∷ []) [] view in', newest_kept links view old.known)
              (walks_kept links (links ++ new ∷ []) view (newest_of links view) (get_or chains view [])
              (link_kept links) (linked.1.walks view old))
        ];
        unused = λ t p past. linked.1.unused t p (omega (arith, length_push links new));
      },
    )

pub add_seen : (e : Entries) (links : List Link) (room room' view purse : ℕ) → IsOpen (chained e links room) view →
    Linked (chained e links room)
    → seen_last (chained e (links ++ fresh (length links) ∷ []) room') view purse ≡ seen_last (chained e links room)
    view purse
unfolding add_linked
add_seen e links room room' view purse is_open linked =
    let after = add_linked e links room room' linked in
    let in' : view < length linked.0 = omega (arith, linked.1.as_many, is_open.known) in
    rw (
      seen_by_chain (chained e links room) linked.0 view purse linked.1 is_open,
      seen_by_chain (chained e (links ++ fresh (length links) ∷ []) room') after.0 view purse after.1
          (stays_open e links room room' view is_open),
    )
    (ap (first_in e purse) (get_or_append_left linked.0 ((length links ∷ []) ∷ []) [] view in'))

pub add_fresh : (e : Entries) (links : List Link) (room room' purse : ℕ) → Linked (chained e links room)
    → seen_last (chained e (links ++ fresh (length links) ∷ []) room') (length links) purse ≡ None
unfolding add_linked
add_fresh e links room room' purse linked =
    let n = length links in
    let after = add_linked e links room room' linked in
    let chain : get_or (linked.0 ++ (n ∷ []) ∷ []) n [] ≡ n ∷ [] =
    get_or_push linked.0 (n ∷ []) [] n linked.1.as_many in
    let none : value_in e n purse ≡ None = linked.1.unused n purse (omega arith) in
    rw (
      seen_by_chain (chained e (links ++ fresh n ∷ []) room') after.0 n purse after.1 (opens e links room'),
      chain,
      none,
    ) refl

-- ---- join

-- the links after a view takes in another
abbrev pub put_behind : List Link → ℕ → ℕ → List Link
put_behind links view other =
    set (set links other record { newest = newest_of links other; older = Some (newest_of links view) }) view
    record { newest = newest_of links other; older = older_than links view }

module _ (e : Entries) (links : List Link) (room room' view other : ℕ) (apart : other ≢ view)
    (is_open : IsOpen (chained e links room) view) (other_open : IsOpen (chained e links room) other) where
  behind_length : length (put_behind links view other) ≡ length links
  behind_length =
      length-set (set links other record { newest = newest_of links other; older = Some (newest_of links view) })
      view record { newest = newest_of links other; older = older_than links view }
      ∙ length-set links other record { newest = newest_of links other; older = Some (newest_of links view) }

  at_view : get_or (put_behind links view other) view no_link ≡
      record { newest = newest_of links other; older = older_than links view }
  at_view = get_or-set_same (set links other
      record { newest = newest_of links other; older = Some (newest_of links view) }) view
      record { newest = newest_of links other; older = older_than links view } no_link
      (omega (
        arith,
        length-set links other
            record { newest = newest_of links other; older = Some (newest_of links view) },
        is_open.known,
      ))

  at_other : get_or (put_behind links view other) other no_link ≡
      record { newest = newest_of links other; older = Some (newest_of links view) }
  at_other = get_or-set_other (set links other
      record { newest = newest_of links other; older = Some (newest_of links view) }) view other
      record { newest = newest_of links other; older = older_than links view } no_link apart
      ∙ get_or-set_same links other record { newest = newest_of links other; older = Some (newest_of links view) }
      no_link other_open.known

  at_third : (x : ℕ) → x ≢ view → x ≢ other → get_or (put_behind links view other) x no_link ≡ get_or links x no_link
  at_third x one two = get_or-set_other
      (set links other record { newest = newest_of links other; older = Some (newest_of links view) }) view x
      record { newest = newest_of links other; older = older_than links view } no_link one
      ∙ get_or-set_other links other x
      record { newest = newest_of links other; older = Some (newest_of links view) } no_link two

  older_at : (x : ℕ) → x ≢ other → older_than (put_behind links view other) x ≡ older_than links x
  older_at x ne = elim (cases_eq x view) [
    | inl same ↦ rw same (ap (λ (l : Link). l.older) at_view)
    | inr third ↦ ap (λ (l : Link). l.older) (at_third x third ne)
  ]

  links_stay : (x y : ℕ) → older_than links x ≡ Some y → older_than (put_behind links view other) x ≡ Some y
  links_stay x y is =
      older_at x (λ same. none-some y (sym other_open.last ∙ ap (older_than links) (sym same) ∙ is)) ∙ is

  pub join_open : (w : ℕ) → w ≢ other → IsOpen (chained e links room) w →
      IsOpen (chained e (put_behind links view other) room') w
  join_open w ne w_open = record {
    known = omega (arith, behind_length, w_open.known);
    last = older_at w ne ∙
        w_open.last;
  }

  not_other : (w : ℕ) → IsOpen (chained e (put_behind links view other) room') w → w ≢ other
  not_other w w_open same = none-some (newest_of links view)
      (sym w_open.last ∙ ap (older_than (put_behind links view other)) same ∙ ap (λ (l : Link). l.older) at_other)

  open_before : (w : ℕ) → IsOpen (chained e (put_behind links view other) room') w → IsOpen (chained e links room) w
  open_before w w_open = record {
    known = omega (arith, behind_length, w_open.known);
    last = sym (older_at w (not_other w w_open)) ∙ w_open.last;
  }

  abbrev chains_after : List (List ℕ) → List (List ℕ)
  chains_after chains = set (set chains view (get_or chains other [] ++ get_or chains view [])) other []

  chain_at_view : (chains : List (List ℕ)) → length chains ≡ length links →
      get_or (chains_after chains) view [] ≡ get_or chains other [] ++ get_or chains view []
  chain_at_view chains as_many =
      get_or-set_other (set chains view (get_or chains other [] ++ get_or chains view [])) other view [] []
      (λ same. apart (sym same))
      ∙ get_or-set_same chains view (get_or chains other [] ++ get_or chains view []) []
      (omega (arith, as_many, is_open.known))

  chain_at_third : (chains : List (List ℕ)) (x : ℕ) → x ≢ view → x ≢ other →
      get_or (chains_after chains) x [] ≡ get_or chains x []
  chain_at_third chains x one two =
      get_or-set_other (set chains view (get_or chains other [] ++ get_or chains view [])) other x [] [] two
      ∙ get_or-set_other chains view x (get_or chains other [] ++ get_or chains view []) [] one

  lengths_after : (chains : List (List ℕ)) → length chains ≡ length links →
      sum_by (length {A = ℕ}) (chains_after chains) ≡ sum_by (length {A = ℕ}) chains
  lengths_after chains as_many =
      let both = get_or chains other [] ++ get_or chains view [] in
      let in' : view < length chains = omega (arith, as_many, is_open.known) in
      let there : other < length (set chains view both) =
      omega (arith, as_many, other_open.known, length-set chains view both) in
      let stays : get_or (set chains view both) other [] ≡ get_or chains other [] =
      get_or-set_other chains view other both [] apart in
      let is : length (get_or (set chains view both) other []) ≡ length (get_or chains other []) =
      ap (length {A = ℕ}) stays in
      omega (
        arith,
        sum_by-set (length {A = ℕ}) chains view both [] in',
        sum_by-set (length {A = ℕ}) (set chains view both) other [] [] there,
        length-append (get_or chains other []) (get_or chains view []),
      )

  pub join_linked : Linked (chained e links room) → Linked (chained e (put_behind links view other) room')
  join_linked linked =
      let chains = linked.0 in
      let both = get_or chains other [] ++ get_or chains view [] in (
        chains_after chains,
        record {
          as_many = omega (
            arith,
            behind_length,
            linked.1.as_many,
            length-set (set chains view both) other [],
            length-set chains view both,
          );
          fit = omega (arith, behind_length, lengths_after chains linked.1.as_many, linked.1.fit);
          walks = λ w w_open. elim (cases_eq w view) [
            | inl same ↦
                let top : newest_of (put_behind links view other) w ≡ newest_of links other =
                ap (newest_of (put_behind links view other)) same ∙ ap (λ (l : Link). l.newest) at_view in
                let behind : older_than (put_behind links view other) other ≡ Some (newest_of links view) =
                ap (λ (l : Link). l.older) at_other in
                let own = walks_kept links (put_behind links view other) view (newest_of links view)
                (get_or chains view []) links_stay (linked.1.walks view is_open) in
                rw (top, same, chain_at_view chains linked.1.as_many)
                (walks_joined links (put_behind links view other) view other (newest_of links other)
                (newest_of links view) (get_or chains other []) (get_or chains view [])
                behind links_stay (linked.1.walks other other_open) own)
            | inr third ↦
                let ne = not_other w w_open in
                let top : newest_of (put_behind links view other) w ≡ newest_of links w =
                ap (λ (l : Link). l.newest) (at_third w third ne) in
                rw (top, chain_at_third chains w third ne)
                (walks_kept links (put_behind links view other) w (newest_of links w) (get_or chains w [])
                links_stay (linked.1.walks w (open_before w w_open)))
          ];
          unused = λ t p past. linked.1.unused t p (omega (arith, behind_length));
        },
      )

  pub join_seen : (w purse : ℕ) → w ≢ other → IsOpen (chained e links room) w → Linked (chained e links room)
      → seen_last (chained e (put_behind links view other) room') w purse
      ≡ cond (eqb view w) (or_else (seen_last (chained e links room) other purse)
      (seen_last (chained e links room) view purse)) (seen_last (chained e links room) w purse)
  unfolding join_linked
  join_seen w purse ne w_open linked =
      let chains = linked.0 in
      let after = join_linked linked in
      let now = seen_by_chain (chained e (put_behind links view other) room') after.0 w purse after.1
      (join_open w ne w_open) in
      let saw = λ (v : ℕ) (v_open : IsOpen (chained e links room) v). seen_by_chain (chained e links room) chains v
      purse linked.1 v_open in
      elim (cases_eq view w) [
        | inl same ↦
            let chain : get_or (chains_after chains) w [] ≡ get_or chains other [] ++ get_or chains view [] =
            rw (← same) (chain_at_view chains linked.1.as_many) in
            rw (eq-eqb view w same, now, saw other other_open, saw view is_open, chain)
            (first_in-append e purse (get_or chains other []) (get_or chains view []))
        | inr third ↦
            rw (ne_eqb view w third, now, saw w w_open, chain_at_third chains w (λ is. third (sym is)) ne) refl
      ]
