-- The words that there are for what a candidate does, once it passes the static test.
use Rattle.std.proofs.Common.{◌≡◌, ℕ, ◌<◌, length, Ok, sym, ap, subst, arith}
use Rattle.std.specs.Prelude.{Contains}
use Rattle.sx_layout.specs.declared.asked.Wanted.{Wanted}
use Rattle.sx_layout.specs.declared.asked.Wanted.TheVariants as wanted
use Rattle.sx_layout.specs.declared.spot.Spot.{Spot}
use Rattle.sx_layout.specs.declared.stage.Stage.TheVariants as stage
use Rattle.sx_script.specs.Ahead.{NumberFits}
use Rattle.sx_layout.specs.Asked.{IsBitSpot, IsSomeUnits, IsWanted, number_spot, wanted_by, wanted_of}
use Rattle.sx_layout.specs.AskedLaws.{AreThere}
use Rattle.sx_layout.specs.Deciding.{number_claim, stage_of}
use Rattle.sx_layout.specs.Plan.{Plan, words_of}
use Rattle.sx_script.specs.RunKeeps.{IsBit, IsOneShard, IsSecond}
use Rattle.sx_layout.specs.Setting.{Setting}
use Rattle.sx_layout.proofs.AskedLaws.{asked_there}
use Rattle.sx_ledger.specs.declared.parts.Parts.{Parts}
use Rattle.sx_ledger.specs.Static.{static_of}
use Rattle.sx_tx.specs.declared.kind.Kind.{Kind}
use Rattle.sx_tx.specs.declared.kind.Kind.TheVariants as kind
use Rattle.sx_tx.specs.declared.tx.Tx.{Tx}
use Rattle.sx_tx.specs.Transactions.{IsKind, IsTx}

first_shard : (shard shards : ℕ) → shards ≡ 1 → shard < shards → 0 ≡ shard
first_shard shard shards one lt = omega (arith, one, lt)

pub bit_fits : (plan : Plan) → plan.shards ≡ 1 → (at : Spot) (bit : ℕ) → IsBitSpot plan at bit
    → IsBit (length (words_of plan.bits 0)) at.word bit
bit_fits plan one at bit there = (
  subst (λ (k : ℕ). at.word < length (words_of plan.bits k)) (sym (first_shard at.shard plan.shards one there.shard))
      there.word,
  there.below,
)

pub second_fits : (plan : Plan) → plan.shards ≡ 1 → (what : Wanted) → IsWanted plan what → IsSomeUnits what
    → IsSecond (length (words_of plan.purses 0)) (length (words_of plan.bits 0)) (stage_of what)
second_fits plan one (wanted.Bit at bit) there some = bit_fits plan one at bit there
second_fits plan one (wanted.Units purse need) there some = (
  subst (λ (k : ℕ). purse.word < length (words_of plan.purses k))
      (sym (first_shard purse.shard plan.shards one there.shard)) there.word,
  some,
)

some_units : (parts : Parts) (plan : Plan) (account : ℕ) (of : Kind) → IsKind of
    → IsSomeUnits (wanted_by parts plan account of)
some_units parts plan account (kind.Pay asset to amount) form = form.2.0
some_units parts plan account (kind.Create id) form = tt
some_units parts plan account (kind.Offer sell buy limit amount) form = form.1.0
some_units parts plan account (kind.Cancel sell buy limit seq) form = tt

module _ (s : Setting) (is : IsOneShard s) (tx : Tx) (passes : static_of s.parts tx ≡ Ok tt)
    (own : Contains s.candidates tx) where
  there : AreThere s.parts s.plan tx
  there =
      subst (λ (plan : Plan). AreThere s.parts plan tx) (sym is.plan)
      (asked_there s.parts s.candidates 1 tx is.laid_out own passes)

  pub number_fits : IsTx tx → NumberFits s tx stage.Number (number_claim s.parts s.plan tx)
  number_fits form =
      let one = ap (λ (plan : Plan). plan.shards) is.plan in
      let at = number_spot s.parts s.plan tx in (
        bit_fits s.plan one at.0 at.1 there.number,
        second_fits s.plan one (wanted_of s.parts s.plan tx) there.wanted
            (some_units s.parts s.plan tx.account.0 tx.kind form.kind),
      )
