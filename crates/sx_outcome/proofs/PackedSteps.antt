-- Steps over outcomes in a byte each: a run of accepted ones, whose encoding is their kinds, and one of any kind.
use Rattle.std.proofs.Common.{◌≡◌, ◌≢◌, ℕ, zero, suc, ◌+◌, ◌<◌, ◌≤◌, Bool, true, false, List, [], ◌∷◌, ◌++◌, length}
use Rattle.std.proofs.Common.{get_or, drop, replicate, take, eqb, cond, refl, sym, ap, subst, ◌∙◌, append_assoc, rules, arith}
use Rattle.std.specs.List.{flat_map}
use Rattle.std.proofs.lemmas.Bool.{eqb-false, eqb-true}
use Rattle.std.proofs.lemmas.Grind.{flat_map-append}
use Rattle.std.proofs.lemmas.List.{flat_map_more, get_or-drop}
use Rattle.sx_outcome.specs.declared.kinds.Shortage.{Shortage}
use Rattle.sx_outcome.specs.declared.outcome.Outcome.{Outcome}
use Rattle.sx_outcome.specs.declared.outcome.Outcome.TheVariants as outcome
use Rattle.sx_outcome.specs.Outcomes.{outcome_bytes}
use Rattle.sx_outcome.specs.Packed.{IsPut, outcomes_of, overdraft_of, plain_outcome}
use Rattle.sx_outcome.proofs.PackedLaws.{AreLeft, figures_at, left_after_overdraft, left_after_plain}
use Rattle.sx_outcome.proofs.PackedLaws.{overdraft_taken, plain_taken}

-- ---- a run of accepted outcomes

accepted_more : (n : ℕ) → replicate n outcome.Accepted ++ outcome.Accepted ∷ [] ≡ replicate (suc n) outcome.Accepted
accepted_more zero = refl
accepted_more (suc n) = ap (λ (list : List Outcome). outcome.Accepted ∷ list) (accepted_more n)

-- kinds that are 0 are their own encoding
kinds_encoded : (run : ℕ) (kinds : List ℕ) → run ≤ length kinds → ((k : ℕ) → k < run → get_or kinds k 0 ≡ 0)
    → flat_map outcome_bytes (replicate run outcome.Accepted) ≡ take run kinds
kinds_encoded zero kinds within all = refl
kinds_encoded (suc run) [] within all = absurd (omega (arith, within))
kinds_encoded (suc run) (kind ∷ kinds) within all =
    ap (λ (list : List ℕ). 0 ∷ list)
    (kinds_encoded run kinds (omega (arith, within)) (λ k less. all (suc k) (omega (arith, less))))
    ∙ ap (λ (first : ℕ). first ∷ take run kinds) (sym (all 0 (omega arith)))

-- what is left behind a run, and what is passed then
pub record IsPassed (kinds : List ℕ) (figures : List Shortage) (place next run : ℕ) : Type 0 where
  pub left : AreLeft kinds figures (place + run) next
  pub taken : take (place + run) (outcomes_of kinds figures)
      ≡ take place (outcomes_of kinds figures) ++ replicate run outcome.Accepted

run_passed : {kinds : List ℕ} {figures : List Shortage} {place next : ℕ} → AreLeft kinds figures place next
    → (run : ℕ) → place + run ≤ length kinds → ((k : ℕ) → k < run → get_or kinds (place + k) 0 ≡ 0)
    → IsPassed kinds figures place next run
run_passed {kinds} {figures} {place} {next} left zero within all =
    let same : place + 0 ≡ place = omega arith in
    record {
      left = subst (λ (p : ℕ). AreLeft kinds figures p next) (sym same) left;
      taken = rw same (search rules);
    }
run_passed {kinds} {figures} {place} {next} left (suc run) within all =
    let all_taken = outcomes_of kinds figures in
    let before = run_passed left run (omega (arith, within)) (λ k less. all k (omega (arith, less))) in
    let there : place + run < length kinds = omega (arith, within) in
    let is_zero = all run (omega arith) in
    let plain : get_or kinds (place + run) 0 ≢ 14 = λ is. absurd (omega (arith, is, is_zero)) in
    let on : place + run + 1 ≡ place + suc run = omega arith in
    record {
      left = subst (λ (p : ℕ). AreLeft kinds figures p next) on (left_after_plain before.left there plain);
      taken = ap (λ (p : ℕ). take p all_taken) (sym on)
          ∙ plain_taken before.left there plain
          ∙ ap (λ (kind : ℕ). take (place + run) all_taken ++ plain_outcome kind ∷ []) is_zero
          ∙ ap (λ (list : List Outcome). list ++ outcome.Accepted ∷ []) before.taken
          ∙ append_assoc (take place all_taken) (replicate run outcome.Accepted) (outcome.Accepted ∷ [])
          ∙ ap (λ (list : List Outcome). take place all_taken ++ list) (accepted_more run);
    }

-- ---- what is written

-- the outcomes before this place are written behind some bytes, and those from it on are left
pub record IsWritten (kinds : List ℕ) (figures : List Shortage) (before now : List ℕ) (place next : ℕ) : Type 0 where
  pub left : AreLeft kinds figures place next
  pub written : now ≡ before ++ flat_map outcome_bytes (take place (outcomes_of kinds figures))

module _ {kinds : List ℕ} {figures : List Shortage} {before now : List ℕ} {place next : ℕ}
    (is : IsWritten kinds figures before now place next) where
  abbrev all_outcomes : List Outcome
  all_outcomes = outcomes_of kinds figures

  -- the kinds of a run are written, of those that are left
  pub run_written : (run : ℕ) (new rest said : List ℕ) → rest ≡ drop place kinds → place + run ≤ length kinds
      → run ≤ length rest → ((k : ℕ) → k < run → get_or rest k 0 ≡ 0) → said ≡ take run (drop place kinds)
      → new ≡ now ++ said → IsWritten kinds figures before new (place + run) next
  run_written run new rest said rest_is inside within all said_is new_is =
      let accepted = replicate run outcome.Accepted in
      let zeros : (k : ℕ) → k < run → get_or (drop place kinds) k 0 ≡ 0 =
      subst (λ (list : List ℕ). (k : ℕ) → k < run → get_or list k 0 ≡ 0) rest_is all in
      let passed = run_passed is.left run inside (λ k less. sym (get_or-drop place kinds k 0) ∙ zeros k less) in
      let encoded = kinds_encoded run (drop place kinds) (subst (λ (list : List ℕ). run ≤ length list) rest_is within)
      zeros in
      record {
        left = passed.left;
        written = new_is
            ∙ ap (λ (list : List ℕ). now ++ list) (said_is ∙ sym encoded)
            ∙ ap (λ (list : List ℕ). list ++ flat_map outcome_bytes accepted) is.written
            ∙ append_assoc before (flat_map outcome_bytes (take place all_outcomes)) (flat_map outcome_bytes accepted)
            ∙ ap (λ (list : List ℕ). before ++ list)
            (sym (flat_map-append outcome_bytes (take place all_outcomes) accepted))
            ∙ ap (λ (list : List Outcome). before ++ flat_map outcome_bytes list) (sym passed.taken);
      }

  one_more : (new : List ℕ) (said : Outcome) → take (place + 1) all_outcomes ≡ take place all_outcomes ++ said ∷ []
      → new ≡ now ++ outcome_bytes said → new ≡ before ++ flat_map outcome_bytes (take (place + 1) all_outcomes)
  one_more new said taken later =
      later ∙ ap (λ (t : List ℕ). t ++ outcome_bytes said) is.written
      ∙ flat_map_more outcome_bytes before (take place all_outcomes) said
      ∙ ap (λ (list : List Outcome). before ++ flat_map outcome_bytes list) (sym taken)

  kind_written : (there : place < length kinds) (over : Bool) → eqb (get_or kinds place 0) 14 ≡ over
      → (new : List ℕ) → new ≡ now ++ outcome_bytes (cond over (overdraft_of (figures_at figures next)) (plain_outcome (get_or kinds place 0)))
      → IsWritten kinds figures before new (place + 1) (cond over (next + 1) next)
  kind_written there true over new new_is =
      let kind = eqb-true (get_or kinds place 0) 14 over in
      record {
        left = left_after_overdraft is.left there kind;
        written = one_more new (overdraft_of (figures_at figures next)) (overdraft_taken is.left there kind) new_is;
      }
  kind_written there false plain new new_is =
      let kind = eqb-false (get_or kinds place 0) 14 plain in
      record {
        left = left_after_plain is.left there kind;
        written = one_more new (plain_outcome (get_or kinds place 0)) (plain_taken is.left there kind) new_is;
      }

  -- the outcome of the kind at the place is written
  pub one_written : (new : List ℕ) (later : ℕ) → place < length kinds → IsPut now new (get_or kinds place 0) figures next later
      → IsWritten kinds figures before new (place + 1) later
  one_written new later there put =
      subst (λ (n : ℕ). IsWritten kinds figures before new (place + 1) n) (sym put.passed)
      (kind_written there (eqb (get_or kinds place 0) 14) refl new put.written)
