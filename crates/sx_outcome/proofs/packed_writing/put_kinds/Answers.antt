use Rattle.std.proofs.Common.{◌≡◌, ◌++◌, ℕ, ◌+◌, ◌-◌, ◌<◌, ◌≤◌, List, length, drop, get_or, take, sym, ap, ◌∙◌, append_assoc, arith}
use Rattle.std.specs.List.{flat_map}
use Rattle.std.proofs.lemmas.List.{length-drop, take_all}
use Rattle.byteorder.specs.Endian.{big_bytes}
use Rattle.sx_outcome.specs.declared.kinds.Shortage.{Shortage}
use Rattle.sx_outcome.specs.declared.outcome.Outcome.{Outcome}
use Rattle.sx_outcome.specs.Outcomes.{outcome_bytes}
use Rattle.sx_outcome.specs.Packed.{outcomes_of}
use Rattle.sx_outcome.proofs.PackedSteps.{IsWritten, one_written, run_written}
use Rattle.sx_outcome.proofs.PackedLaws.{length_outcomes}
use Rattle.sx_outcome.proofs.packed_writing.put_kinds.Goals as goal

-- the kinds from a place on
rest_is : (place : ℕ) (kinds : List ℕ) → take (length kinds - place) (drop place kinds) ≡ drop place kinds
rest_is place kinds = take_all (length kinds - place) (drop place kinds) (omega (arith, length-drop place kinds))

module _ {place run next : ℕ} {kinds : List ℕ} {figures : List Shortage} {before now new : List ℕ}
    (is : IsWritten kinds figures before now place next) (there : place < length kinds)
    (within : run ≤ length (take (length kinds - place) (drop place kinds)))
    (all : (k : ℕ) → k < run → get_or (take (length kinds - place) (drop place kinds)) k 0 ≡ 0)
    (later : new ≡ now ++ take (place + run - place) (drop place kinds)) where
  inside : place + run ≤ length kinds
  inside =
      omega (arith, there, within, length-drop place kinds, ap (λ (list : List ℕ). length list) (rest_is place kinds))

  run_is_written : IsWritten kinds figures before new (place + run) next
  run_is_written =
      let count : place + run - place ≡ run = omega arith in
      run_written is run new (take (length kinds - place) (drop place kinds))
      (take (place + run - place) (drop place kinds)) (rest_is place kinds) inside within all
      (ap (λ (n : ℕ). take n (drop place kinds)) count) later

pub loop-place-preserved-then-place-kinds : goal.loop-place-preserved-then-place-kinds
loop-place-preserved-then-place-kinds c =
    let run = run_is_written c.loop-place.invariant.written c.loop-place-test.true c.accepted_run-run.ensures.within
    c.accepted_run-run.ensures.accepted c.in_ok-raw.ensures.ok in
    record {
      within = omega (arith, c.if-place-kinds.true);
      written = one_written run c.put_kind.new.to c.in_ok-next.next c.if-place-kinds.true c.in_ok-next.ensures.ok;
    }

pub loop-place-preserved : goal.loop-place-preserved
loop-place-preserved c = record {
  within = inside c.loop-place.invariant.written c.loop-place-test.true c.accepted_run-run.ensures.within
      c.accepted_run-run.ensures.accepted c.in_ok-raw.ensures.ok;
  written = run_is_written c.loop-place.invariant.written c.loop-place-test.true c.accepted_run-run.ensures.within
      c.accepted_run-run.ensures.accepted c.in_ok-raw.ensures.ok;
}

pub returns-clause-ok : goal.returns-clause-ok
returns-clause-ok c =
    let kinds = c.args.kinds.now in
    let figures = c.args.overdrafts.now in
    let all = outcomes_of kinds figures in
    let whole : take c.loop-place.place all ≡ all =
    take_all c.loop-place.place all (omega (arith, c.loop-place-test.false, length_outcomes kinds figures)) in
    c.loop-place.invariant.written.written
    ∙ ap (λ (list : List Outcome). (c.args.to.now ++ big_bytes 4 (length kinds)) ++ flat_map outcome_bytes list) whole
    ∙ append_assoc c.args.to.now (big_bytes 4 (length kinds)) (flat_map outcome_bytes all)
    ∙ ap (λ (n : ℕ). c.args.to.now ++ (big_bytes 4 n ++ flat_map outcome_bytes all)) (sym (length_outcomes kinds figures))
