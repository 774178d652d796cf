-- Once all actors have run to their ends, none has a candidate left.
use Rattle.std.proofs.Common.{◌≡◌, ◌≢◌, ℕ, zero, suc, ◌-◌, ◌*◌, ◌<◌, ◌≤◌, true, false, cond, ltb, List, [], ◌∷◌}
use Rattle.std.proofs.Common.{length, refl}
use Rattle.std.proofs.Common.{sym, ap, subst, ◌∙◌, inl, inr, arith, get_or-set_same, get_or-set_other, length-set}
use Rattle.std.specs.List.{All}
use Rattle.std.proofs.lemmas.Bool.{cases_eq, lt-ltb}
use Rattle.sx_event.specs.State.{view_of}
use Rattle.sx_script.specs.Actors.{Actor, actor_of, beginning}
use Rattle.sx_layout.specs.Plan.{Plan}
use Rattle.sx_script.specs.Running.{Run, acted, after_own, after_turns, all_to_end, own_turn, to_end, turn}
use Rattle.sx_script.specs.RunKeeps.{IsOneShard}
use Rattle.sx_layout.specs.Setting.{Setting}
use Rattle.sx_script.proofs.RunHolds.{RunHolds, ends_hold, own_turns_hold}
use Rattle.sx_script.proofs.TurnsLeft.{acted_less, none_left, three_each, turns_left}
use Rattle.sx_ledger.specs.declared.parts.Parts.{Parts}
use Rattle.sx_tx.specs.declared.tx.Tx.{Tx}
use Rattle.sx_tx.specs.Transactions.{IsTx}

abbrev left_of : Run → ℕ → ℕ
left_of run name =
    turns_left run.state name (actor_of run.actors name).stage (actor_of run.actors name).left

module _ (parts : Parts) (plan : Plan) where
  -- ---- one turn

  turn_many : (name : ℕ) (run : Run) → length (turn parts plan name run).actors ≡ length run.actors
  turn_many name run =
      elim (ltb name (length run.actors)) as (λ b.
      length (cond b (own_turn parts plan name run) run).actors ≡ length run.actors) [
        | true ↦ length-set run.actors name _
        | false ↦ refl
      ]

  turn_other : (name k : ℕ) (run : Run) → k ≢ name
      → actor_of (turn parts plan name run).actors k ≡ actor_of run.actors k
  turn_other name k run ne =
      elim (ltb name (length run.actors)) as (λ b.
      actor_of (cond b (own_turn parts plan name run) run).actors k ≡ actor_of run.actors k) [
        | true ↦ get_or-set_other run.actors name k _ (beginning [] []) ne
        | false ↦ refl
      ]

  own_less : (name : ℕ) (run : Run) → name < length run.actors → (view_of run.state name).live ≡ true
      → left_of (own_turn parts plan name run) name ≤ left_of run name - 1
  own_less name run within live =
      let actor = actor_of run.actors name in
      let after = acted parts plan run.state name actor in
      subst (λ (one : Actor). turns_left after.0 name one.stage one.left ≤ left_of run name - 1)
      (sym (get_or-set_same run.actors name after.1 (beginning [] []) within))
      (acted_less parts plan run.state name live actor)

  turn_less : (name : ℕ) (run : Run) → name < length run.actors → (view_of run.state name).live ≡ true
      → left_of (turn parts plan name run) name ≤ left_of run name - 1
  turn_less name run within live =
      rw (lt-ltb name (length run.actors) within) (own_less name run within live)

  -- ---- many turns

  own_many : (name n : ℕ) (run : Run) → length (after_own parts plan name n run).actors ≡ length run.actors
  own_many name zero run = refl
  own_many name (suc n) run = turn_many name (after_own parts plan name n run) ∙ own_many name n run

  own_other : (name k n : ℕ) (run : Run) → k ≢ name
      → actor_of (after_own parts plan name n run).actors k ≡ actor_of run.actors k
  own_other name k zero run ne = refl
  own_other name k (suc n) run ne =
      turn_other name k (after_own parts plan name n run) ne ∙ own_other name k n run ne

  pub turns_many : (names : List ℕ) (run : Run) → length (after_turns parts plan names run).actors ≡ length run.actors
  turns_many [] run = refl
  turns_many (name ∷ names) run = turns_many names (turn parts plan name run) ∙ turn_many name run

  pub ends_many : (n : ℕ) (run : Run) → length (all_to_end parts plan n run).actors ≡ length run.actors
  ends_many zero run = refl
  ends_many (suc n) run = own_many n _ (all_to_end parts plan n run) ∙ ends_many n run

module _ (s : Setting) (is : IsOneShard s) (form : All IsTx s.candidates) (part : ℕ → List Tx) where
  less_each : (name n : ℕ) (run : Run) → name < length run.actors → RunHolds s part run
      → left_of (after_own s.parts s.plan name n run) name ≤ left_of run name - n
  less_each name zero run within holds = omega arith
  less_each name (suc n) run within holds =
      let mid = after_own s.parts s.plan name n run in
      let held = own_turns_hold s is form part name n run holds in
      let there : name < length mid.actors = omega (arith, within, own_many s.parts s.plan name n run) in
      let next = turn_less s.parts s.plan name mid there (held.fits.actors name there).live in
      let before = less_each name n run within holds in
      omega (arith, next, before)

  end_empty : (name : ℕ) (run : Run) → name < length run.actors → RunHolds s part run
      → (actor_of (to_end s.parts s.plan name run).actors name).left ≡ []
  end_empty name run within holds =
      let actor = actor_of run.actors name in
      let last = to_end s.parts s.plan name run in
      let fewer = less_each name (3 * length actor.left) run within holds in
      let most = three_each run.state name actor.stage actor.left in
      none_left last.state name (actor_of last.actors name).stage (actor_of last.actors name).left
      (omega (arith, fewer, most))

  pub all_empty : (n : ℕ) (run : Run) → n ≤ length run.actors → RunHolds s part run → (k : ℕ) → k < n
      → (actor_of (all_to_end s.parts s.plan n run).actors k).left ≡ []
  all_empty zero run within holds k lt = absurd (omega (arith, lt))
  all_empty (suc n) run within holds k lt =
      let before = all_to_end s.parts s.plan n run in
      let many = ends_many s.parts s.plan n run in
      elim (cases_eq k n) [
        | inl e ↦
            subst (λ (j : ℕ). (actor_of (to_end s.parts s.plan n before).actors j).left ≡ []) (sym e)
            (end_empty n before (omega (arith, within, many)) (ends_hold s is form part n run holds))
        | inr ne ↦
            ap (λ (one : Actor). one.left) (own_other s.parts s.plan n k _ before ne)
            ∙ all_empty n run (omega (arith, within)) holds k (omega (arith, lt, ne))
      ]
