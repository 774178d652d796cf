-- Rows of sums: what a row that is opened leaves of the others, and to which sums entries are added.
use Rattle.std.proofs.Common.{◌≡◌, ◌≢◌, ℕ, suc, ◌+◌, ◌<◌, ◌≤◌, ◌==◌, ◌&&◌, Bool, false, cond, List, [], ◌∷◌, length}
use Rattle.std.proofs.Common.{get_or, set, inl, inr, refl, sym, ap, ap₂, ◌∙◌, arith}
use Rattle.std.proofs.lemmas.Bool.{and_right, cases_eq, eq-eqb, ne_eqb}
use Rattle.std.proofs.lemmas.Grind.{get_or-set_at}
use Rattle.std.proofs.lemmas.List.{get_or-set_other}
use Rattle.std.proofs.lemmas.List.Sums.{sum_by-cons}
use Rattle.sx_tally.specs.declared.entry.Entry.{Entry}
use Rattle.sx_tally.specs.declared.postings.Postings.{Postings}
use Rattle.sx_tally.specs.Postings.{AreRowsOpen, AreWithin, HasRows, credit_at, debit_at, start_of, units_at, units_in}
use Rattle.sx_tally.specs.Sums.{AreSumsAfter, CanAdd, units_to}

-- ---- a row that is opened

module _ (old new : Postings) (places width place : ℕ) (rows : HasRows old places width) (there : place < places)
    (none : start_of old place ≡ 0) (assets : new.assets ≡ old.assets)
    (starts : new.starts.items ≡ set old.starts.items place (length old.debits))
    (as_many : length new.starts.items ≡ length old.starts.items)
    (debits_long : length new.debits ≡ length old.debits + width)
    (credits_long : length new.credits ≡ length old.debits + width)
    (debits_kept : (k : ℕ) → k < length old.debits → get_or new.debits k 0 ≡ get_or old.debits k 0)
    (debits_zero : (k : ℕ) → length old.debits ≤ k → k < length old.debits + width →
    get_or new.debits k 0 ≡ 0)
    (credits_kept : (k : ℕ) → k < length old.debits →
    get_or new.credits k 0 ≡ get_or old.credits k 0)
    (credits_zero : (k : ℕ) → length old.debits ≤ k → k < length old.debits + width →
    get_or new.credits k 0 ≡ 0) where
  start_here : start_of new place ≡ length old.debits
  start_here =
      ap (λ (xs : List ℕ). get_or xs place 0) starts
      ∙ get_or-set_at old.starts.items place place (length old.debits) 0 refl (omega (arith, rows.as_many))

  pub start_other : (p : ℕ) → p ≢ place → start_of new p ≡ start_of old p
  start_other p other =
      ap (λ (xs : List ℕ). get_or xs p 0) starts
      ∙ get_or-set_other old.starts.items place p (length old.debits) 0 other

  pub opened_rows : HasRows new places width
  opened_rows = record {
    assets = assets ∙ rows.assets;
    as_many = as_many ∙ rows.as_many;
    even = credits_long ∙ sym debits_long;
    some = omega (arith, rows.some);
    no_debits = λ x lt. debits_kept x (omega (arith, rows.some)) ∙ rows.no_debits x lt;
    no_credits = λ x lt. credits_kept x (omega (arith, rows.some)) ∙ rows.no_credits x lt;
    within = λ p lt. elim (cases_eq p place) [
      | inl at ↦ omega (arith, ap (start_of new) at, start_here)
      | inr other ↦ omega (arith, start_other p other, rows.within p lt)
    ];
    behind = λ p lt some. elim (cases_eq p place) [
      | inl at ↦ omega (arith, ap (start_of new) at, start_here, rows.some)
      | inr other ↦
          let same = start_other p other in
          let was : start_of old p ≢ 0 = λ e. some (same ∙ e) in
          omega (arith, same, rows.behind p lt was)
    ];
    apart = λ p q p_there q_there differ p_some q_some. elim (cases_eq p place) [
      | inl p_at ↦
          let q_other : q ≢ place = λ e. differ (p_at ∙ sym e) in
          inr (omega (
            arith,
            ap (start_of new) p_at,
            start_here,
            start_other q q_other,
            rows.within q q_there,
          ))
      | inr p_other ↦ elim (cases_eq q place) [
        | inl q_at ↦ inl (omega (
          arith,
          ap (start_of new) q_at,
          start_here,
          start_other p p_other,
          rows.within p p_there,
        ))
        | inr q_other ↦
            let p_same = start_other p p_other in
            let q_same = start_other q q_other in
            let p_was : start_of old p ≢ 0 = λ e. p_some (p_same ∙ e) in
            let q_was : start_of old q ≢ 0 = λ e. q_some (q_same ∙ e) in
            elim (rows.apart p q p_there q_there differ p_was q_was) [
              | inl before ↦ inl (omega (arith, p_same, q_same))
              | inr after ↦ inr (omega (arith, p_same, q_same))
            ]
      ]
    ];
  }

  cell : (old_cells new_cells : List ℕ)
      → ((k : ℕ) → k < length old.debits → get_or new_cells k 0 ≡ get_or old_cells k 0)
      → ((k : ℕ) → length old.debits ≤ k → k < length old.debits + width → get_or new_cells k 0 ≡ 0)
      → ((x : ℕ) → x < width → get_or old_cells x 0 ≡ 0) → (p x : ℕ) → p < places → x < width
      → get_or new_cells (start_of new p + x) 0 ≡ get_or old_cells (start_of old p + x) 0
  cell old_cells new_cells kept zeros none_there p x p_there x_there =
      elim (cases_eq p place) [
        | inl at ↦
            let was : start_of old p ≡ 0 = ap (start_of old) at ∙ none in
            let is : start_of new p ≡ length old.debits = ap (start_of new) at ∙ start_here in
            let index : x ≡ start_of old p + x = omega arith in
            zeros (start_of new p + x) (omega arith) (omega arith)
            ∙ sym (none_there x x_there) ∙ ap (λ (k : ℕ). get_or old_cells k 0) index
        | inr other ↦
            let same = start_other p other in
            ap (λ (s : ℕ). get_or new_cells (s + x) 0) same
            ∙ kept (start_of old p + x) (omega (arith, rows.within p p_there))
      ]

  pub opened_debits : (p x : ℕ) → p < places → x < width → debit_at new p x ≡ debit_at old p x
  opened_debits p x = cell old.debits new.debits debits_kept debits_zero rows.no_debits p x

  pub opened_credits : (p x : ℕ) → p < places → x < width → credit_at new p x ≡ credit_at old p x
  opened_credits p x = cell old.credits new.credits credits_kept credits_zero rows.no_credits p x

-- ---- entries that are added

module _ (old : Postings) (places width : ℕ) (rows : HasRows old places width) where
  cell_differs : (place asset : ℕ) → place < places → start_of old place ≢ 0 → asset < width → (p x : ℕ) → p < places
      → x < width → ((p ≡ place) × (x ≡ asset) → ⊥) → start_of old p + x ≢ start_of old place + asset
  cell_differs place asset there some asset_there p x p_there x_there other same =
      elim (cases_eq p place) [
        | inl at ↦ other (at, omega (arith, ap (start_of old) at))
        | inr p_other ↦ elim (cases_eq (start_of old p) 0) [
          | inl none ↦ absurd (omega (arith, rows.behind place there some))
          | inr p_some ↦ elim (rows.apart p place p_there there p_other p_some some) [
            | inl before ↦ absurd (omega arith)
            | inr after ↦ absurd (omega arith)
          ]
        ]
      ]

  -- an entry has units of an account and asset exactly where it is added to their sum
  same_test : (place asset : ℕ) → place < places → start_of old place ≢ 0 → asset < width → (p x : ℕ) → p < places
      → x < width → (start_of old place + asset == start_of old p + x) ≡ ((place == p) && (asset == x))
  same_test place asset there some asset_there p x p_there x_there =
      elim (cases_eq place p) [
        | inl same_place ↦ elim (cases_eq asset x) [
          | inl same_asset ↦
              rw (eq-eqb place p same_place, eq-eqb asset x same_asset)
              (eq-eqb (start_of old place + asset) (start_of old p + x)
              (omega (arith, ap (start_of old) same_place)))
          | inr other ↦
              rw (ne_eqb asset x other, and_right (place == p) false refl)
              (ne_eqb (start_of old place + asset) (start_of old p + x)
              (λ e. cell_differs place asset there some asset_there p x p_there x_there
              (λ both. other (sym both.1)) (sym e)))
        ]
        | inr other ↦
            rw (ne_eqb place p other)
            (ne_eqb (start_of old place + asset) (start_of old p + x)
            (λ e. cell_differs place asset there some asset_there p x p_there x_there
            (λ both. other (sym both.0)) (sym e)))
      ]

  -- what is added to the sum of an account and asset are the units that the entries have of them
  pub units_to_row : (entries : List Entry) (starts : List ℕ) → length starts ≡ length entries
      → AreWithin places width entries → AreRowsOpen old entries starts → (p x : ℕ) → p < places → x < width
      → units_to entries starts (start_of old p + x) ≡ units_in entries p x
  units_to_row [] starts same within are_open p x p_there x_there = refl
  units_to_row (entry ∷ entries) [] same within are_open p x p_there x_there = absurd (omega arith)
  units_to_row (entry ∷ entries) (start ∷ starts) same within are_open p x p_there x_there =
      let own = within 0 entry (omega arith) in
      let here = are_open 0 entry (omega arith) in
      let some : start_of old entry.place ≢ 0 = λ e. here.0 (here.1 ∙ e) in
      let test : (start + entry.asset == start_of old p + x) ≡ ((entry.place == p) && (entry.asset == x)) =
      ap (λ (s : ℕ). s + entry.asset == start_of old p + x) here.1
      ∙ same_test entry.place entry.asset own.0 some own.1 p x p_there x_there in
      let rest = units_to_row entries starts (omega arith) (λ k d lt. within (suc k) d (omega arith))
      (λ k d lt. are_open (suc k) d (omega arith)) p x p_there x_there in
      ap₂ ◌+◌ (ap (λ (b : Bool). cond b entry.amount 0) test) rest
      ∙ sym (sum_by-cons (λ e. units_at e p x) entry entries)

  -- nothing is added to the first row
  pub none_to_first : (entries : List Entry) (starts : List ℕ) → length starts ≡ length entries
      → AreWithin places width entries → AreRowsOpen old entries starts → (x : ℕ) → x < width
      → units_to entries starts x ≡ 0
  none_to_first [] starts same within are_open x x_there = refl
  none_to_first (entry ∷ entries) [] same within are_open x x_there = absurd (omega arith)
  none_to_first (entry ∷ entries) (start ∷ starts) same within are_open x x_there =
      let own = within 0 entry (omega arith) in
      let here = are_open 0 entry (omega arith) in
      let some : start_of old entry.place ≢ 0 = λ e. here.0 (here.1 ∙ e) in
      let differs : start + entry.asset ≢ x = λ e. absurd (omega (arith, here.1, rows.behind entry.place own.0 some)) in
      let rest = none_to_first entries starts (omega arith) (λ k d lt. within (suc k) d (omega arith))
      (λ k d lt. are_open (suc k) d (omega arith)) x x_there in
      rw (ne_eqb (start + entry.asset) x differs) (omega (arith, rest))

  -- the entries can be added to sums that are as many as those of the debits
  module _ (entries : List Entry) (starts : List ℕ) (same : length starts ≡ length entries)
      (within : AreWithin places width entries) (are_open : AreRowsOpen old entries starts) (sums : List ℕ)
      (long : length sums ≡ length old.debits) where
    pub can_add : (limit : ℕ) → ((p x : ℕ) → p < places → x < width
        → get_or sums (start_of old p + x) 0 + units_in entries p x < limit) → CanAdd limit entries starts sums
    can_add limit room = record {
      one_each = same;
      within = λ k entry lt.
          let e = get_or entries k entry in
          omega (arith, are_open k entry lt, rows.within e.place (within k entry lt).0, (within k entry lt).1);
      fits = λ k entry lt.
          let e = get_or entries k entry in
          let place = (within k entry lt).0 in
          let asset = (within k entry lt).1 in
          rw (are_open k entry lt).1
          (omega (
            arith,
            units_to_row entries starts same within are_open e.place e.asset place asset,
            room e.place e.asset place asset,
          ));
    }

    module _ (after : List ℕ) (is : AreSumsAfter entries starts sums after) where
      pub zeros_stay : ((x : ℕ) → x < width → get_or sums x 0 ≡ 0) → (x : ℕ) → x < width → get_or after x 0 ≡ 0
      zeros_stay zeros x lt =
          omega (
            arith,
            is.each x (omega (arith, rows.some)),
            zeros x lt,
            none_to_first entries starts same within are_open x lt,
          )

      pub row_after : (p x : ℕ) → p < places → x < width
          → get_or after (start_of old p + x) 0 ≡ get_or sums (start_of old p + x) 0 + units_in entries p x
      row_after p x p_there x_there =
          omega (
            arith,
            is.each (start_of old p + x) (omega (arith, rows.within p p_there)),
            units_to_row entries starts same within are_open p x p_there x_there,
          )
