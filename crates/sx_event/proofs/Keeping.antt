-- Each kind of step keeps the rule.
use Rattle.std.proofs.Common.{◌≡◌, ◌≢◌, ℕ, ◌+◌, ◌-◌, ◌<◌, ◌≤◌, true, ◌&&◌, eqb, max, length, set, All, refl, sym, inl}
use Rattle.std.proofs.Common.{inr, arith, length-set, get_or-set_same, get_or-set_other, ◌∙◌}
use Rattle.std.specs.Prelude.{slice_index}
use Rattle.std.specs.Int.{bit_at}
use Rattle.std.proofs.lemmas.Bool.{and_parts, cases_Bool, cases_eq, eqb-true, eqb-false, eq-eqb, ne_eqb}
use Rattle.std.proofs.lemmas.List.Elements.{All-set, All-push, All-append}
use Rattle.std.proofs.lemmas.List.Sums.{sum_by_push, sum_by-append}
use Rattle.std.proofs.lemmas.Nat.Bits.{bit_at-lt}
use Rattle.sx_event.specs.declared.event.Event.{Event}
use Rattle.sx_event.specs.declared.event.Event.TheVariants.{Look, Take, Claim, Split, Join}
use Rattle.sx_event.specs.declared.marks.Claim.TheVariants.{Debit, Bit}
use Rattle.sx_event.specs.declared.marks.Note.{Note}
use Rattle.sx_event.specs.declared.marks.Note.TheVariants.{Low, Set}
use Rattle.sx_event.specs.View.{View, spent, with_claim, with_note, last_low}
use Rattle.sx_event.specs.State.{State, view_of, purse_of, word_of}
use Rattle.sx_event.specs.Step.{wins, has_bit, word_after_claim, left_part, right_part, joined, with_view, stepped}
use Rattle.sx_event.specs.Step.{StepAllowed}
use Rattle.sx_event.specs.Rule.{debit_in, bit_in, debits, times, all_debits, all_times, LowFits, SetFits, Rule}
use Rattle.sx_event.proofs.Sums.{live_is_within, sum_kept, sum_raised, sum_split, sum_joined}
use Rattle.sx_event.proofs.Ranges.{ranges_kept, ranges_split, ranges_joined}
use Rattle.sx_event.proofs.Words.{bit_after, set_stays, found_stays, taken_falls, won_covers, lows_stay, sets_stay}

-- a view with one more note that is true
noted : (s : State) (actor : ℕ) (note : Note) → Rule s → (view_of s actor).live ≡ true
    → LowFits s.opening_purses s.purses note → SetFits s.bits note →
    Rule (with_view s actor (with_note (view_of s actor) note))
noted s actor note rule live low is_set =
    let v = view_of s actor in
    let w = with_note v note in
    let lt = live_is_within s.views actor live in
    record {
      purses = record {
        as_many = rule.purses.as_many;
        adds_up = λ p. rw (sum_kept (λ u. debits u.claims p) s.views actor w lt refl) (rule.purses.adds_up p);
      };
      bits = record {
        as_many = rule.bits.as_many;
        adds_up = λ p b. rw (sum_kept (λ u. times u.claims p b) s.views actor w lt refl) (rule.bits.adds_up p b);
      };
      lows = All-set (λ u. All (LowFits s.opening_purses s.purses) u.notes) s.views actor w
          (All-push (LowFits s.opening_purses s.purses) v.notes note (rule.lows actor spent lt) low) rule.lows;
      sets = All-set (λ u. All (SetFits s.bits) u.notes) s.views actor w
          (All-push (SetFits s.bits) v.notes note (rule.sets actor spent lt) is_set) rule.sets;
      ranges = ranges_kept s.count s.views actor w lt live live refl refl rule.ranges;
    }

-- what a purse has is at most what it had at the opening
low_now : (s : State) (purse : ℕ) → Rule s → LowFits s.opening_purses s.purses (Low purse (purse_of s purse))
low_now s purse rule = (omega arith, omega (arith, rule.purses.adds_up purse))

pub look_keeps : (purse : ℕ) (s : State) (actor : ℕ) → Rule s → StepAllowed s actor (Look purse) →
    Rule (stepped s actor (Look purse))
look_keeps purse s actor rule allowed =
    noted s actor (Low purse (purse_of s purse)) rule allowed.0 (low_now s purse rule) tt

-- a Take that is won
won : (purse need : ℕ) (s : State) (actor : ℕ) → Rule s → (view_of s actor).live ≡ true → purse < length s.purses →
    need ≤ purse_of s purse
    → Rule (record (with_view s actor (with_claim (view_of s actor) (Debit purse need))) {
      purses =
          set s.purses purse (purse_of s purse - need);
    })
won purse need s actor rule live in' covered =
    let v = view_of s actor in
    let w = with_claim v (Debit purse need) in
    let lt = live_is_within s.views actor live in
    let found = purse_of s purse in
    record {
      purses = record {
        as_many = length-set s.purses purse (found - need) ∙ rule.purses.as_many;
        adds_up = λ p.
            let more : all_debits (set s.views actor w) p ≡ all_debits s.views p + debit_in p (Debit purse need) =
            sum_raised (λ u. debits u.claims p) s.views actor w (debit_in p (Debit purse need)) lt
            (sum_by_push (debit_in p) v.claims (Debit purse need)) in
            elim (cases_eq purse p) [
              | inl same ↦
                  let at : slice_index (set s.purses purse (found - need)) p ≡ found - need =
                  rw (← same) (get_or-set_same s.purses purse (found - need) 0 in') in
                  let was : slice_index s.purses p ≡ found = rw same refl in
                  let takes : debit_in p (Debit purse need) ≡ need = rw (eq-eqb purse p same) refl in
                  omega (arith, rule.purses.adds_up p)
              | inr apart ↦
                  let at : slice_index (set s.purses purse (found - need)) p ≡ slice_index s.purses p =
                  get_or-set_other s.purses purse p (found - need) 0 (λ e. apart (sym e)) in
                  let takes : debit_in p (Debit purse need) ≡ 0 = rw (ne_eqb purse p apart) refl in
                  omega (arith, rule.purses.adds_up p)
            ];
      };
      bits = record {
        as_many = rule.bits.as_many;
        adds_up = λ p b.
            let more : times w.claims p b ≡ times v.claims p b + 0 =
            sum_by_push (bit_in p b) v.claims (Debit purse need) in
            rw (sum_kept (λ u. times u.claims p b) s.views actor w lt (omega arith)) (rule.bits.adds_up p b);
      };
      lows = lows_stay s.opening_purses s.purses (set s.purses purse (found - need)) (set s.views actor w)
          (λ p. taken_falls s.purses purse found need p refl)
          (All-set (λ u. All (LowFits s.opening_purses s.purses) u.notes) s.views actor w (rule.lows actor spent lt)
          rule.lows);
      sets = All-set (λ u. All (SetFits s.bits) u.notes) s.views actor w (rule.sets actor spent lt) rule.sets;
      ranges = ranges_kept s.count s.views actor w lt live live refl refl rule.ranges;
    }

pub take_keeps : (purse need : ℕ) (s : State) (actor : ℕ) → Rule s → StepAllowed s actor (Take purse need) →
    Rule (stepped s actor (Take purse need))
take_keeps purse need s actor rule allowed =
    let v = view_of s actor in
    let found = purse_of s purse in
    let fits = allowed.1 in
    elim (cases_Bool (wins v purse found)) [
      | inl as_seen ↦ rw as_seen (won purse need s actor rule allowed.0 fits.0
          (won_covers (last_low purse v.notes) found need fits.2 as_seen))
      | inr changed ↦ rw (changed, found_stays s.purses purse)
          (noted s actor (Low purse found) rule allowed.0 (low_now s purse rule) tt)
    ]

-- a Claim of a bit that is clear
cleared : (word bit : ℕ) (s : State) (actor : ℕ) → Rule s → (view_of s actor).live ≡ true → word < length s.bits →
    bit_at (word_of s word) bit ≡ 0
    → Rule (record (with_view s actor (with_claim (view_of s actor) (Bit word bit))) {
      bits =
          set s.bits word (word_after_claim bit (word_of s word));
    })
cleared word bit s actor rule live in' clear =
    let v = view_of s actor in
    let w = with_claim v (Bit word bit) in
    let lt = live_is_within s.views actor live in
    let after = set s.bits word (word_after_claim bit (word_of s word)) in
    record {
      purses = record {
        as_many = rule.purses.as_many;
        adds_up = λ p.
            let more : debits w.claims p ≡ debits v.claims p + 0 = sum_by_push (debit_in p) v.claims (Bit word bit) in
            rw (sum_kept (λ u. debits u.claims p) s.views actor w lt (omega arith)) (rule.purses.adds_up p);
      };
      bits = record {
        as_many = length-set s.bits word (word_after_claim bit (word_of s word)) ∙ rule.bits.as_many;
        adds_up = λ p b.
            let more : all_times (set s.views actor w) p b ≡ all_times s.views p b + bit_in p b (Bit word bit) =
            sum_raised (λ u. times u.claims p b) s.views actor w (bit_in p b (Bit word bit)) lt
            (sum_by_push (bit_in p b) v.claims (Bit word bit)) in
            let now : bit_at (slice_index after p) b ≡ max (bit_at (slice_index s.bits p) b)
            (bit_in p b (Bit word bit)) = bit_after s.bits word bit p b in' in
            elim (cases_Bool (eqb word p && eqb bit b)) [
              | inl same ↦
                  let both = and_parts (eqb word p) (eqb bit b) same in
                  let here : bit_at (slice_index s.bits p) b ≡ 0 =
                  rw (← eqb-true word p both.0, ← eqb-true bit b both.1) clear in
                  let once : bit_in p b (Bit word bit) ≡ 1 = rw same refl in
                  omega (arith, rule.bits.adds_up p b)
              | inr apart ↦
                  let never : bit_in p b (Bit word bit) ≡ 0 = rw apart refl in
                  omega (arith, rule.bits.adds_up p b)
            ];
      };
      lows = All-set (λ u. All (LowFits s.opening_purses s.purses) u.notes) s.views actor w
          (rule.lows actor spent lt) rule.lows;
      sets = sets_stay s.bits after (set s.views actor w) (λ p b. omega (arith, bit_after s.bits word bit p b in'))
          (All-set (λ u. All (SetFits s.bits) u.notes) s.views actor w (rule.sets actor spent lt) rule.sets);
      ranges = ranges_kept s.count s.views actor w lt live live refl refl rule.ranges;
    }

pub claim_keeps : (word bit : ℕ) (s : State) (actor : ℕ) → Rule s → StepAllowed s actor (Claim word bit) →
    Rule (stepped s actor (Claim word bit))
claim_keeps word bit s actor rule allowed =
    let found = word_of s word in
    elim (cases_Bool (has_bit found bit)) [
      | inl held ↦
          let is_set : bit_at found bit ≡ 1 = eqb-true (bit_at found bit) 1 held in
          rw (held, set_stays s.bits word bit is_set) (noted s actor (Set word bit) rule allowed.0 tt is_set)
      | inr free ↦
          let ne : bit_at found bit ≢ 1 = eqb-false (bit_at found bit) 1 free in
          let clear : bit_at found bit ≡ 0 = omega (arith, bit_at-lt found bit, ne) in
          rw free (cleared word bit s actor rule allowed.0 allowed.1.0 clear)
    ]

-- a Split, however many views there are
pub split_holds : (at : ℕ) (s : State) (actor : ℕ) → Rule s → (view_of s actor).live ≡ true
    → (view_of s actor).from < at → at < (view_of s actor).end → Rule (stepped s actor (Split at))
split_holds at s actor rule live after before =
    let v = view_of s actor in
    let lt = live_is_within s.views actor live in
    let left = left_part v at in
    let right = right_part v at in
    record {
      purses = record {
        as_many = rule.purses.as_many;
        adds_up = λ p. rw (sum_split (λ u. debits u.claims p) s.views actor left right lt (omega arith))
            (rule.purses.adds_up p);
      };
      bits = record {
        as_many = rule.bits.as_many;
        adds_up = λ p b. rw (sum_split (λ u. times u.claims p b) s.views actor left right lt (omega arith))
            (rule.bits.adds_up p b);
      };
      lows = let P = λ (u : View). All (LowFits s.opening_purses s.purses) u.notes in
          All-push P (set s.views actor left) right
          (All-set P s.views actor left (rule.lows actor spent lt) rule.lows) (λ k d none. absurd (omega arith));
      sets = let P = λ (u : View). All (SetFits s.bits) u.notes in
          All-push P (set s.views actor left) right
          (All-set P s.views actor left (rule.sets actor spent lt) rule.sets) (λ k d none. absurd (omega arith));
      ranges = ranges_split s.count s.views actor at left right lt live after before live refl refl refl
          refl refl rule.ranges;
    }

pub split_keeps : (at : ℕ) (s : State) (actor : ℕ) → Rule s → StepAllowed s actor (Split at) →
    Rule (stepped s actor (Split at))
split_keeps at s actor rule allowed = split_holds at s actor rule allowed.0 allowed.1.0 allowed.1.1

pub join_keeps : (other : ℕ) (s : State) (actor : ℕ) → Rule s → StepAllowed s actor (Join other) →
    Rule (stepped s actor (Join other))
join_keeps other s actor rule allowed =
    let v = view_of s actor in
    let o = view_of s other in
    let live = allowed.0 in
    let apart = allowed.1.0 in
    let live' = allowed.1.1 in
    let lt = live_is_within s.views actor live in
    let within = live_is_within s.views other live' in
    let both = joined v o in
    record {
      purses = record {
        as_many = rule.purses.as_many;
        adds_up = λ p. rw (sum_joined (λ u. debits u.claims p) s.views actor other both lt within apart refl
            (sum_by-append (debit_in p) v.claims o.claims)) (rule.purses.adds_up p);
      };
      bits = record {
        as_many = rule.bits.as_many;
        adds_up = λ p b. rw (sum_joined (λ u. times u.claims p b) s.views actor other both lt within apart refl
            (sum_by-append (bit_in p b) v.claims o.claims)) (rule.bits.adds_up p b);
      };
      lows = let P = λ (u : View). All (LowFits s.opening_purses s.purses) u.notes in
          All-set P (set s.views actor both) other spent (λ k d none. absurd (omega arith))
          (All-set P s.views actor both (All-append (LowFits s.opening_purses s.purses) v.notes o.notes
          (rule.lows actor spent lt) (rule.lows other spent within)) rule.lows);
      sets = let P = λ (u : View). All (SetFits s.bits) u.notes in
          All-set P (set s.views actor both) other spent (λ k d none. absurd (omega arith))
          (All-set P s.views actor both (All-append (SetFits s.bits) v.notes o.notes (rule.sets actor spent lt)
          (rule.sets other spent within)) rule.sets);
      ranges = ranges_joined s.count s.views actor other both lt within apart live live' allowed.1.2 live refl refl
          rule.ranges;
    }

pub step_keeps : (event : Event) (s : State) (actor : ℕ) → Rule s → StepAllowed s actor event →
    Rule (stepped s actor event)
step_keeps (Look purse) s actor rule allowed = look_keeps purse s actor rule allowed
step_keeps (Take purse need) s actor rule allowed = take_keeps purse need s actor rule allowed
step_keeps (Claim word bit) s actor rule allowed = claim_keeps word bit s actor rule allowed
step_keeps (Split at) s actor rule allowed = split_keeps at s actor rule allowed
step_keeps (Join other) s actor rule allowed = join_keeps other s actor rule allowed
