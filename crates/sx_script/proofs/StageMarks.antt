-- What the stages of a candidate have to do with what it wants, and with its marks.
use Rattle.std.proofs.Common.{◌≡◌, ℕ, ◌%◌, List, [], ◌∷◌, ◌++◌, Ok, refl, sym, ap, ◌∙◌, arith}
use Rattle.std.proofs.lemmas.Nat.{mod_below}
use Rattle.sx_event.specs.declared.marks.Claim.{Claim}
use Rattle.sx_event.specs.declared.marks.Claim.TheVariants.{Debit, Bit}
use Rattle.sx_layout.specs.declared.asked.Wanted.{Wanted}
use Rattle.sx_layout.specs.declared.asked.Wanted.TheVariants as wanted
use Rattle.sx_outcome.specs.declared.outcome.Outcome.TheVariants as outcome
use Rattle.sx_layout.specs.Asked.{number_spot, wanted_by, wanted_of}
use Rattle.sx_layout.specs.Deciding.{second, stage_of}
use Rattle.sx_layout.specs.Marks.{bit_mark, debit_mark, marks_of, shard_of, wanted_mark}
use Rattle.sx_layout.specs.Plan.{Plan}
use Rattle.sx_script.proofs.ActorMarks.{IsDebited, IsNamed, StageIs, number_mark, pending_of}
use Rattle.sx_ledger.specs.declared.parts.Parts.{Parts}
use Rattle.sx_ledger.specs.Static.{static_of}
use Rattle.sx_tx.specs.declared.kind.Kind.{Kind}
use Rattle.sx_tx.specs.declared.kind.Kind.TheVariants as kind
use Rattle.sx_tx.specs.declared.tx.Tx.{Tx}

-- ---- what comes once the number is claimed

second_is_by : (parts : Parts) (plan : Plan) (tx : Tx) (what : Wanted) → wanted_of parts plan tx ≡ what →
    static_of parts tx ≡ Ok tt → StageIs parts plan tx (stage_of what)
second_is_by parts plan tx (wanted.Bit spot bit) wants passes =
    record { passes = passes; spot = spot; wants = wants; at = refl }
second_is_by parts plan tx (wanted.Units spot need) wants passes =
    record { passes = passes; spot = spot; wants = wants; at = refl }

pub second_is : (parts : Parts) (plan : Plan) (tx : Tx) → static_of parts tx ≡ Ok tt →
    StageIs parts plan tx (second parts plan tx)
second_is parts plan tx passes = second_is_by parts plan tx (wanted_of parts plan tx) refl passes

-- by then it has the number's claim
second_pending_by : (parts : Parts) (plan : Plan) (tx : Tx) (what : Wanted) →
    pending_of parts plan tx (stage_of what) ≡ number_mark parts plan tx
second_pending_by parts plan tx (wanted.Bit spot bit) = refl
second_pending_by parts plan tx (wanted.Units spot need) = refl

pub second_pending : (parts : Parts) (plan : Plan) (tx : Tx) →
    pending_of parts plan tx (second parts plan tx) ≡ number_mark parts plan tx
second_pending parts plan tx = second_pending_by parts plan tx (wanted_of parts plan tx)

-- ---- with one shard

rest_of_one : (x n : ℕ) → n ≡ 1 → x % n ≡ 0
rest_of_one x n one = rw one (let below = mod_below x 1 (omega arith) in omega (arith, below))

module _ (parts : Parts) (plan : Plan) (one : plan.shards ≡ 1) where
  wanted_shard_by : (account : ℕ) (of : Kind) → shard_of (wanted_by parts plan account of) ≡ 0
  wanted_shard_by account (kind.Pay asset to amount) = rest_of_one _ plan.shards one
  wanted_shard_by account (kind.Create id) = rest_of_one _ plan.shards one
  wanted_shard_by account (kind.Offer sell buy limit amount) = rest_of_one _ plan.shards one
  wanted_shard_by account (kind.Cancel sell buy limit seq) = rest_of_one _ plan.shards one

  -- the shard of what a candidate wants is the one
  pub wanted_shard : (tx : Tx) (what : Wanted) → wanted_of parts plan tx ≡ what → shard_of what ≡ 0
  wanted_shard tx what wants = ap shard_of (sym wants) ∙ wanted_shard_by tx.account.0 tx.kind

  pub number_mark_is : (tx : Tx) → number_mark parts plan tx
      ≡ Bit (number_spot parts plan tx).0.word (number_spot parts plan tx).1 ∷ []
  number_mark_is tx =
      let first : (number_spot parts plan tx).0.shard ≡ 0 = rest_of_one _ plan.shards one in
      rw first refl

  pub named_marks : (tx : Tx) (word bit : ℕ) → IsNamed parts plan tx word bit
      → number_mark parts plan tx ++ Bit word bit ∷ []
      ≡ marks_of parts plan 0 (record { tx = tx; outcome = outcome.Accepted })
  named_marks tx word bit is =
      let own = number_mark parts plan tx in
      let first : is.spot.shard ≡ 0 = wanted_shard tx (wanted.Bit is.spot bit) is.wants in
      let mark : bit_mark 0 is.spot bit ≡ Bit word bit ∷ [] =
      rw first (ap (λ (w : ℕ). Bit w bit ∷ []) (sym is.at)) in
      ap (λ (c : List Claim). own ++ c) (sym mark)
      ∙ ap (λ (what : Wanted). own ++ wanted_mark 0 what) (sym is.wants)

  pub debited_marks : (tx : Tx) (purse need : ℕ) → IsDebited parts plan tx purse need
      → number_mark parts plan tx ++ Debit purse need ∷ []
      ≡ marks_of parts plan 0 (record { tx = tx; outcome = outcome.Accepted })
  debited_marks tx purse need is =
      let own = number_mark parts plan tx in
      let first : is.spot.shard ≡ 0 = wanted_shard tx (wanted.Units is.spot need) is.wants in
      let mark : debit_mark 0 is.spot need ≡ Debit purse need ∷ [] =
      rw first (ap (λ (w : ℕ). Debit w need ∷ []) (sym is.at)) in
      ap (λ (c : List Claim). own ++ c) (sym mark)
      ∙ ap (λ (what : Wanted). own ++ wanted_mark 0 what) (sym is.wants)
