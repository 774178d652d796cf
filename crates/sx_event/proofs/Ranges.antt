-- The fifth part of the rule, where views change.
use Rattle.std.proofs.Common.{◌≡◌, ◌≢◌, ℕ, ◌+◌, ◌<◌, ◌≤◌, Bool, true, false, cond, ◌&&◌, List, [], ◌∷◌, ◌++◌, length}
use Rattle.std.proofs.Common.{get_or, set, sum_by, count_by, sym, ap, refl, inl, inr, arith, zero-add, ◌∙◌}
use Rattle.std.specs.Prelude.{nat_lt, nat_le}
use Rattle.std.proofs.lemmas.Bool.{cases_lt, true≢false, lt-ltb, le-ltb, le-leb, lt-leb}
use Rattle.std.proofs.lemmas.List.Elements.{All-set, All-push}
use Rattle.std.proofs.lemmas.List.Sums.{get_or-le-sum_by}
use Rattle.sx_event.specs.View.{View, spent, opened}
use Rattle.sx_event.specs.Rule.{owns, is_live, IsFilled, IsBare, RangesPart}
use Rattle.sx_event.proofs.Sums.{sum_kept, sum_split, sum_joined, two_at_most}

-- a test as a number
abbrev pub one : Bool → ℕ
one b = cond b 1 0

-- whether a number is in a range
abbrev pub lies : ℕ → ℕ → ℕ → Bool
lies c from end = nat_le from c && nat_lt c end

pub lies_within : (c from end : ℕ) → from ≤ c → c < end → lies c from end ≡ true
lies_within c from end le lt = rw (le-leb from c le) (lt-ltb c end lt)

pub lies_below : (c from end : ℕ) → c < from → lies c from end ≡ false
lies_below c from end lt = rw (lt-leb from c lt) refl

pub lies_above : (c from end : ℕ) → end ≤ c → lies c from end ≡ false
lies_above c from end le = elim (cases_lt c from) [
  | inl lt ↦ lies_below c from end lt
  | inr above ↦ rw (le-leb from c above) (le-ltb c end le)
]

-- two ranges that meet are one
pub lies_either : (c from at end : ℕ) → from ≤ at → at ≤ end →
    one (lies c from at) + one (lies c at end) ≡ one (lies c from end)
lies_either c from at end low high =
    elim (cases_lt c at) [
      | inl left ↦ elim (cases_lt c from) [
        | inl out ↦ rw (lies_below c from at out, lies_below c at end left, lies_below c from end out) refl
        | inr in' ↦ rw (
          lies_within c from at in' left,
          lies_below c at end left,
          lies_within c from end in' (omega arith),
        ) refl
      ]
      | inr right ↦ elim (cases_lt c end) [
        | inl in' ↦ rw (
          lies_above c from at right,
          lies_within c at end right in',
          lies_within c from end (omega arith) in',
        ) refl
        | inr out ↦ rw (lies_above c from at right, lies_above c at end out, lies_above c from end out) refl
      ]
    ]

-- what a live view counts for a candidate
pub owns_live : (c : ℕ) (v : View) → v.live ≡ true → owns c v ≡ lies c v.from v.end
owns_live c v live = rw live refl

-- a candidate that a live view has is below the count
pub owned_is_below : (count : ℕ) (views : List View) (k c : ℕ) → RangesPart count views → k < length views
    → (get_or views k spent).live ≡ true → (get_or views k spent).from ≤ c → c < (get_or views k spent).end → c < count
owned_is_below count views k c rule lt live low high =
    let v = get_or views k spent in
    let yes : owns c v ≡ true = owns_live c v live ∙ lies_within c v.from v.end low high in
    let here : one (owns c v) ≤ sum_by (λ w. one (owns c w)) views =
    get_or-le-sum_by (λ w. one (owns c w)) views k spent lt in
    let counts : one (owns c v) ≡ 1 = ap one yes in
    elim (cases_lt c count) [
      | inl below ↦ below
      | inr above ↦
          let all : count_by (owns c) views ≡ 0 = rule.one_owner c ∙ ap one (le-ltb c count above) in
          absurd (omega arith)
    ]

-- two live views: there are candidates
pub two_live : (count : ℕ) (views : List View) (k other : ℕ) → RangesPart count views → k < length views →
    other < length views → other ≢ k
    → (get_or views k spent).live ≡ true → (get_or views other spent).live ≡ true → 0 < count
two_live count views k other rule lt within apart live live' =
    elim (cases_lt 0 count) [
      | inl some ↦ some
      | inr none ↦
          let all : count_by is_live views ≡ 1 = rule.lone (omega arith) in
          let first : one (is_live (get_or views k spent)) ≡ 1 = ap one live in
          let second : one (is_live (get_or views other spent)) ≡ 1 = ap one live' in
          absurd (omega (arith, two_at_most (λ w. one (is_live w)) views k other lt within apart))
    ]

-- where one view changes, and not its range
pub ranges_kept : (count : ℕ) (views : List View) (k : ℕ) (v : View) → k < length views →
    (get_or views k spent).live ≡ true → v.live ≡ true
    → v.from ≡ (get_or views k spent).from → v.end ≡ (get_or views k spent).end → RangesPart count views →
    RangesPart count (set views k v)
ranges_kept count views k v lt was live from end rule = let old = get_or views k spent in record {
  one_owner = λ c.
      let same : owns c v ≡ owns c old = rw (owns_live c v live, owns_live c old was, from, end) refl in
      sum_kept (λ w. one (owns c w)) views k v lt (ap one same) ∙ rule.one_owner c;
  filled = λ some. All-set IsFilled views k v
      (λ _. let h : old.from < old.end = rule.filled some k spent lt was in rw (from, end) h) (rule.filled some);
  lone = λ none. sum_kept (λ w. one (is_live w)) views k v lt (ap one (live ∙ sym was)) ∙ rule.lone none;
  bare = All-set IsBare views k v (λ dead. absurd (true≢false (sym live ∙ dead))) rule.bare;
}

-- where one view is cut in two
pub ranges_split : (count : ℕ) (views : List View) (k at : ℕ) (left right : View) → k < length views →
    (get_or views k spent).live ≡ true
    → (get_or views k spent).from < at → at < (get_or views k spent).end
    → left.live ≡ true → left.from ≡ (get_or views k spent).from → left.end ≡ at
    → right.live ≡ true → right.from ≡ at → right.end ≡ (get_or views k spent).end
    → RangesPart count views → RangesPart count (set views k left ++ right ∷ [])
ranges_split count views k at left right lt was low high left_live left_from left_end right_live right_from
    right_end rule =
    let old = get_or views k spent in
    let some : 0 < count = omega (
      arith,
      owned_is_below count views k old.from rule lt was (omega arith) (omega arith),
    ) in
    let left_bare : IsBare left = λ dead. absurd (true≢false (sym left_live ∙ dead)) in
    let right_bare : IsBare right = λ dead. absurd (true≢false (sym right_live ∙ dead)) in
    let left_filled : IsFilled left = λ _. omega arith in
    let right_filled : IsFilled right = λ _. omega arith in
    record {
      one_owner = λ c.
          let same : one (owns c left) + one (owns c right) ≡ one (owns c old) =
          rw (
            owns_live c left left_live,
            owns_live c right right_live,
            owns_live c old was,
            left_from,
            left_end,
            right_from,
            right_end,
          )
          (lies_either c old.from at old.end (omega arith) (omega arith)) in
          sum_split (λ w. one (owns c w)) views k left right lt same ∙ rule.one_owner c;
      filled = λ _. All-push IsFilled (set views k left) right
          (All-set IsFilled views k left left_filled (rule.filled some)) right_filled;
      lone = λ none. absurd (omega arith);
      bare = All-push IsBare (set views k left) right (All-set IsBare views k left left_bare rule.bare) right_bare;
    }

-- where one view takes in the next
pub ranges_joined : (count : ℕ) (views : List View) (k other : ℕ) (both : View) → k < length views →
    other < length views → other ≢ k
    → (get_or views k spent).live ≡ true → (get_or views other spent).live ≡ true
    → (get_or views other spent).from ≡ (get_or views k spent).end
    → both.live ≡ true → both.from ≡ (get_or views k spent).from → both.end ≡ (get_or views other spent).end
    → RangesPart count views → RangesPart count (set (set views k both) other spent)
ranges_joined count views k other both lt within apart was was' meet live from end rule =
    let old = get_or views k spent in
    let next = get_or views other spent in
    let some : 0 < count = two_live count views k other rule lt within apart was was' in
    let old_filled : old.from < old.end = rule.filled some k spent lt was in
    let next_filled : next.from < next.end = rule.filled some other spent within was' in
    let both_filled : IsFilled both = λ _. omega arith in
    let both_bare : IsBare both = λ dead. absurd (true≢false (sym live ∙ dead)) in
    record {
      one_owner = λ c.
          let same : one (owns c both) ≡ one (owns c old) + one (owns c next) =
          rw (owns_live c both live, owns_live c old was, owns_live c next was', from, end, meet)
          (sym (lies_either c old.from old.end next.end (omega arith) (omega arith))) in
          sum_joined (λ w. one (owns c w)) views k other both lt within apart refl same ∙ rule.one_owner c;
      filled = λ _. All-set IsFilled (set views k both) other spent (λ live'. absurd (true≢false (sym live')))
          (All-set IsFilled views k both both_filled (rule.filled some));
      lone = λ none. absurd (omega arith);
      bare = All-set IsBare (set views k both) other spent (λ _. refl)
          (All-set IsBare views k both both_bare rule.bare);
    }

-- at the start
pub ranges_begun : (count : ℕ) → RangesPart count (opened 0 count ∷ [])
ranges_begun count = record {
  one_owner = λ c. zero-add (one (lies c 0 count)) ∙ ap (λ b. one (b && nat_lt c count)) (le-leb 0 c (omega arith));
  filled = λ some. All-push IsFilled [] (opened 0 count) (λ k d lt. absurd (omega arith)) (λ _. some);
  lone = λ _. refl;
  bare = All-push IsBare [] (opened 0 count) (λ k d lt. absurd (omega arith)) (λ dead. absurd (true≢false dead));
}
