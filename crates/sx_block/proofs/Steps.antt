-- One step of a checker: the rules before one hold; where it holds too, those before the next one do, and else the block
-- is refused.
use Rattle.std.proofs.Common.{◌≡◌, ◌≢◌, ℕ, ◌+◌, ◌<◌, ◌≤◌, List, length, Ok, refl, sym, ap, subst, arith}
use Rattle.std.specs.Prelude.{All, nat_eq}
use Rattle.std.specs.List.{IsDistinct}
use Rattle.sha2.specs.Sha256.{sha256}
use Rattle.sx_block.specs.declared.header.Block.{Block}
use Rattle.sx_block.specs.Rule.{rank}
use Rattle.sx_block.specs.Rule as rule
use Rattle.sx_block.specs.Validity.{Holds, HoldsBefore, HoldsButParent, digest_of_ledger}
use Rattle.sx_ledger.specs.Overdraft.{NoneOverdrawn}
use Rattle.sx_ledger.specs.FirstRefusal.{IsFirstRefused}
use Rattle.sx_ledger.specs.Repeats.{IsFirstRepeat, cancels, creates}
use Rattle.sx_block.specs.declared.invalid.Invalid.{Invalid}
use Rattle.sx_block.specs.declared.invalid.Invalid.TheVariants.{Ended, WrongHeight, WrongParent, WrongBody}
use Rattle.sx_block.specs.declared.invalid.Invalid.TheVariants.{WrongAssets, Tx, TwoCancels, TwoNames, Crowded}
use Rattle.sx_block.specs.declared.invalid.Invalid.TheVariants.{Overdrawn, Overspent, Outside, Unbalanced, Slack, NoCut}
use Rattle.sx_block.specs.declared.invalid.Invalid.TheVariants.{Rounding, WrongAfter}
use Rattle.sx_block.specs.Checked.{IsWrongParent}
use Rattle.sx_block.specs.Invalid.{number_of}
use Rattle.sx_block.specs.Refusals.{IsCrowded, RefusesButParent, RefusesEarly}
use Rattle.sx_block.specs.Refusals.{rule_of}
use Rattle.sx_block.proofs.Rules.{but_parent, none_before, one_more, one_more_but, up_to_parent}
use Rattle.sx_block.proofs.Rules.{with_parent}
use Rattle.sx_ledger.specs.declared.parts.Parts.{Parts}
use Rattle.sx_ledger.specs.declared.statics.Static.{Static}
use Rattle.sx_ledger.specs.Body.{cancelled, created}
use Rattle.sx_ledger.specs.Ledger.{assets_of, most_height}
use Rattle.sx_ledger.specs.Order.{same_key}
use Rattle.sx_ledger.specs.Static.{static_of}
use Rattle.sx_tx.specs.Transactions.{list_bytes}

-- ---- which reasons come before the one on the digest of the ledger

height_first : (why : Invalid) → number_of why < 3 → rank (rule_of why) < 3
height_first Ended few = omega (arith, few)
height_first (WrongHeight have said) few = omega (arith, few)
height_first (WrongParent said real) few = omega (arith, few)
height_first (WrongBody said real) few = omega (arith, few)
height_first (WrongAssets have said) few = omega (arith, few)
height_first (Tx index why) few = omega (arith, few)
height_first (TwoCancels index) few = omega (arith, few)
height_first (TwoNames index) few = omega (arith, few)
height_first (Crowded have more limit) few = omega (arith, few)
height_first (Overdrawn account asset opening debits) few = omega (arith, few)
height_first (Overspent account asset opening credits debits) few = omega (arith, few)
height_first (Outside sell buy low high y) few = omega (arith, few)
height_first (Unbalanced asset out into) few = omega (arith, few)
height_first (Slack sell buy gain y) few = omega (arith, few)
height_first (NoCut cut) few = omega (arith, few)
height_first (Rounding asset said real) few = omega (arith, few)
height_first (WrongAfter said real) few = omega (arith, few)

others_later : (why : Invalid) → 3 ≤ number_of why → 3 ≤ rank (rule_of why)
others_later Ended many = omega (arith, many)
others_later (WrongHeight have said) many = omega (arith, many)
others_later (WrongParent said real) many = omega (arith, many)
others_later (WrongBody said real) many = omega (arith, many)
others_later (WrongAssets have said) many = omega (arith, many)
others_later (Tx index why) many = omega (arith, many)
others_later (TwoCancels index) many = omega (arith, many)
others_later (TwoNames index) many = omega (arith, many)
others_later (Crowded have more limit) many = omega (arith, many)
others_later (Overdrawn account asset opening debits) many = omega (arith, many)
others_later (Overspent account asset opening credits debits) many = omega (arith, many)
others_later (Outside sell buy low high y) many = omega (arith, many)
others_later (Unbalanced asset out into) many = omega (arith, many)
others_later (Slack sell buy gain y) many = omega (arith, many)
others_later (NoCut cut) many = omega (arith, many)
others_later (Rounding asset said real) many = omega (arith, many)
others_later (WrongAfter said real) many = omega (arith, many)

module _ (parts : Parts) (block : Block) where
  -- ---- the height

  pub ended : parts.height ≡ most_height → RefusesEarly parts block Ended
  ended last = record {
    refuses = record { before = none_before parts block; breaks = last };
    early = λ said real e. absurd cc;
  }

  pub ended_but : parts.height ≡ most_height → RefusesButParent parts block Ended
  ended_but last = record {
    before = but_parent parts block rule.BelowLast (none_before parts block);
    breaks = last;
    early = λ said real e. absurd cc;
    other = λ said real e. absurd cc;
  }

  follows : parts.height < most_height → HoldsBefore rule.NextHeight parts block
  follows below = one_more rule.BelowLast rule.NextHeight parts block refl (none_before parts block) below

  pub wrong_height : (have said : ℕ) → parts.height < most_height → have ≡ parts.height
      → said ≡ block.header.height → said ≢ have + 1 → RefusesEarly parts block (WrongHeight have said)
  wrong_height have said below is_have is_said differ = record {
    refuses = record { before = follows below; breaks = (is_have, is_said, differ) };
    early = λ said' real e. absurd cc;
  }

  pub wrong_height_but : (have said : ℕ) → parts.height < most_height → have ≡ parts.height
      → said ≡ block.header.height → said ≢ have + 1 → RefusesButParent parts block (WrongHeight have said)
  wrong_height_but have said below is_have is_said differ = record {
    before = but_parent parts block rule.NextHeight (follows below);
    breaks = (is_have, is_said, differ);
    early = λ said' real e. absurd cc;
    other = λ said' real e. absurd cc;
  }

  pub height_holds : parts.height < most_height → block.header.height ≡ parts.height + 1
      → HoldsBefore rule.Parent parts block
  height_holds below next = one_more rule.NextHeight rule.Parent parts block refl (follows below) next

  -- ---- the digest of the ledger

  pub wrong_parent : (said real : List ℕ) → HoldsBefore rule.Parent parts block → said ≡ block.header.parent
      → real ≡ digest_of_ledger parts → said ≢ real → RefusesEarly parts block (WrongParent said real)
  wrong_parent said real before is_said is_real differ = record {
    refuses = record { before = before; breaks = (is_said, is_real, differ) };
    early = λ said' real' e. absurd cc;
  }

  pub parent_holds : HoldsBefore rule.Parent parts block → block.header.parent ≡ digest_of_ledger parts
      → HoldsBefore rule.Body parts block
  parent_holds before same = one_more rule.Parent rule.Body parts block refl before same

  -- ---- the digest of the transactions, and assets

  pub wrong_body : (said real : List ℕ) → HoldsButParent rule.Body parts block → said ≡ block.header.body
      → real ≡ sha256 (list_bytes block.txs) → said ≢ real → RefusesButParent parts block (WrongBody said real)
  wrong_body said real before is_said is_real differ = record {
    before = before;
    breaks = (is_said, is_real, differ);
    early = λ said' real' e. absurd cc;
    other = λ said' real' e. absurd cc;
  }

  pub body_holds : HoldsButParent rule.Body parts block → block.header.body ≡ sha256 (list_bytes block.txs)
      → HoldsButParent rule.Assets parts block
  body_holds before same = one_more_but parts block rule.Body rule.Assets refl before same

  pub wrong_assets : (have said : ℕ) → HoldsButParent rule.Assets parts block → have ≡ assets_of parts
      → said ≡ length block.header.prices → said ≢ have → RefusesButParent parts block (WrongAssets have said)
  wrong_assets have said before is_have is_said differ = record {
    before = before;
    breaks = (is_have, is_said, differ);
    early = λ said' real' e. absurd cc;
    other = λ said' real' e. absurd cc;
  }

  pub assets_hold : HoldsButParent rule.Assets parts block → length block.header.prices ≡ assets_of parts
      → HoldsButParent rule.Passes parts block
  assets_hold before same = one_more_but parts block rule.Assets rule.Passes refl before same

  -- ---- transactions

  pub tx_refused : (index : ℕ) (why : Static) → HoldsButParent rule.Passes parts block
      → IsFirstRefused parts block.txs index why → RefusesButParent parts block (Tx index why)
  tx_refused index why before first = record {
    before = before;
    breaks = first;
    early = λ said' real' e. absurd cc;
    other = λ said' real' e. absurd cc;
  }

  pub each_passes : HoldsButParent rule.Passes parts block → All (λ tx. static_of parts tx ≡ Ok tt) block.txs
      → HoldsButParent rule.CancelsOnce parts block
  each_passes before pass = one_more_but parts block rule.Passes rule.CancelsOnce refl before pass

  pub two_cancels : (index : ℕ) → HoldsButParent rule.CancelsOnce parts block
      → IsFirstRepeat cancels block.txs index → RefusesButParent parts block (TwoCancels index)
  two_cancels index before first = record {
    before = before;
    breaks = first;
    early = λ said' real' e. absurd cc;
    other = λ said' real' e. absurd cc;
  }

  pub cancels_hold : HoldsButParent rule.CancelsOnce parts block → IsDistinct same_key (cancelled block.txs)
      → HoldsButParent rule.CreatesOnce parts block
  cancels_hold before once = one_more_but parts block rule.CancelsOnce rule.CreatesOnce refl before once

  pub two_names : (index : ℕ) → HoldsButParent rule.CreatesOnce parts block
      → IsFirstRepeat creates block.txs index → RefusesButParent parts block (TwoNames index)
  two_names index before first = record {
    before = before;
    breaks = first;
    early = λ said' real' e. absurd cc;
    other = λ said' real' e. absurd cc;
  }

  pub creates_hold : HoldsButParent rule.CreatesOnce parts block → IsDistinct nat_eq (created block.txs)
      → HoldsButParent rule.Room parts block
  creates_hold before once = one_more_but parts block rule.CreatesOnce rule.Room refl before once

  pub crowded : (have more limit : ℕ) → HoldsButParent rule.Room parts block
      → IsCrowded parts block.txs have more limit → RefusesButParent parts block (Crowded have more limit)
  crowded have more limit before is = record {
    before = before;
    breaks = is;
    early = λ said' real' e. absurd cc;
    other = λ said' real' e. absurd cc;
  }

  pub debits_hold : HoldsButParent rule.Covered parts block → NoneOverdrawn block.header.version parts block.txs
      → HoldsButParent rule.Within parts block
  debits_hold before none = one_more_but parts block rule.Covered rule.Within refl before none

  -- ---- once the ledger is named

  pub refuses_early : Holds rule.Parent parts block → (why : Invalid) → RefusesButParent parts block why
      → RefusesEarly parts block why
  refuses_early named why r = record {
    refuses = record { before = with_parent parts block (rule_of why) named r.before; breaks = r.breaks };
    early = r.early;
  }

  -- ---- the first reason, once the digest of the ledger is known

  pub stays_first : (why : Invalid) → number_of why < 3 → RefusesButParent parts block why
      → RefusesEarly parts block why
  stays_first why few r = record {
    refuses = record {
      before = λ earlier lt.
          let above = height_first why few in
          r.before earlier lt (λ same. omega (arith, lt, above, ap rank same));
      breaks = r.breaks;
    };
    early = r.early;
  }

  pub parent_first : (why other : Invalid) (parent : List ℕ) → 3 ≤ number_of why → RefusesButParent parts block why
      → parent ≡ digest_of_ledger parts → IsWrongParent block.header parent other → RefusesEarly parts block other
  parent_first why other parent many r is wrong =
      subst (RefusesEarly parts block) (sym wrong.is)
      (wrong_parent block.header.parent parent
      (up_to_parent parts block (rule_of why) (others_later why many) r.before) refl is wrong.differ)
