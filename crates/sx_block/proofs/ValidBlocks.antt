-- What follows where a block is valid.
use Rattle.std.proofs.Common.{◌≡◌, ℕ, ◌+◌, ◌≤◌, Option, None, sym, ap, subst, ◌∙◌, arith}
use Rattle.std.specs.Prelude.{Contains, is_some}
use Rattle.std.proofs.lemmas.List.Elements.{All-contains}
use Rattle.sx_block.specs.declared.header.Block.{Block}
use Rattle.sx_block.specs.Effects.{IsRounded, IsTradable}
use Rattle.sx_block.specs.Rule as rule
use Rattle.sx_block.specs.Validity.{CutHolds, IsSound, IsValid, flow_of_block, high_in, low_in, offers_of}
use Rattle.sx_block.specs.Validity.{undropped_low_in}
use Rattle.sx_dual.specs.declared.cut.Cut.{Cut}
use Rattle.sx_dual.specs.Sums.{EachPair}
use Rattle.sx_dual.specs.Tables.{potential_of}
use Rattle.sx_dual.proofs.CutLaws.{cut_refutes}
use Rattle.sx_dual.proofs.Duality.{fit_is_greatest}
use Rattle.sx_block.specs.EffectLaws.{BlockCommits, BlockConserves, BlockDropsTheImpossible, BlockGetsItsValue}
use Rattle.sx_block.specs.EffectLaws.{BlockGivesItsValue, BlockHeldFalls, BlockKeepsLedger, BlockKeepsRounding}
use Rattle.sx_block.specs.EffectLaws.{BlockTradesInFull, BlockTradesMost, BlockTradesWithinLimits, BlocksChain}
use Rattle.sx_block.specs.EffectLaws.{OneInPart}
use Rattle.sx_block.specs.ValidityLaws.{BlockFits}
use Rattle.sx_block.proofs.FillLaws.{gets_less, gives_more, price_above}
use Rattle.sx_block.proofs.InPart.{one_trades_in_part}
use Rattle.sx_block.proofs.LimitLaws.{must_in_full, only_within_limit}
use Rattle.sx_block.proofs.Rules.{sound_fits, sound_is_admissible, sound_is_tradable, valid_is_sound}
use Rattle.sx_block.proofs.TradeKeeps.{trade_keeps_ledger}
use Rattle.sx_block.proofs.TradeTotals.{trade_conserves, trade_keeps_rounding}
use Rattle.sx_ledger.specs.declared.offer.Offer.{Offer}
use Rattle.sx_ledger.specs.declared.parts.Parts.{Parts}
use Rattle.sx_ledger.proofs.BodyConserves.{body_conserves}
use Rattle.sx_ledger.proofs.BodyKeepsLedger.{body_keeps_ledger}
use Rattle.sx_ledger.specs.Body.{IsAdmissibleIn, body_after}
use Rattle.sx_ledger.specs.Bounds.{low_of}
use Rattle.sx_ledger.specs.Ledger.{IsLedger, IsOffer, assets_of}

module _ (parts : Parts) (block : Block) (valid : IsValid parts block) where
  abbrev middle : Parts
  middle = body_after parts block.txs

  abbrev flow : ℕ → ℕ → ℕ
  flow = flow_of_block block

  sound : IsSound parts block
  sound = valid_is_sound parts block valid

  admissible : IsAdmissibleIn block.header.version parts block.txs
  admissible = sound_is_admissible parts block sound

  fits : BlockFits parts block
  fits = sound_fits parts block sound

  tradable : IsTradable middle block.header.prices flow
  tradable = (sound_is_tradable parts block sound).0

  rounded : IsRounded middle block.header.prices flow block.header.rounding
  rounded = (sound_is_tradable parts block sound).1

  middle_is : IsLedger parts → IsLedger middle
  middle_is is = body_keeps_ledger block.header.version parts block.txs is valid.form.each admissible

  least : block.header.dropped ≡ None
      → EachPair (assets_of parts) (λ sell buy. undropped_low_in parts block sell buy ≤ flow sell buy)
  least none sell buy s b differ =
      subst (λ (dropped : Option Cut). low_of block.header.prices block.header.mu (is_some dropped)
      (offers_of parts block) sell buy ≤ flow sell buy) none
      (fits.circulation.within sell buy s b differ).at_least

  one_is : IsLedger parts → (offer : Offer) → Contains (offers_of parts block) offer
      → IsOffer (assets_of parts) middle.accounts offer
  one_is is offer within =
      All-contains (IsOffer (assets_of parts) middle.accounts) middle.offers offer (middle_is is).offers within

pub block_keeps_ledger : BlockKeepsLedger
block_keeps_ledger parts block is valid =
    trade_keeps_ledger (middle parts block valid) block.header.prices (flow_of_block block) block.header.rounding
    (middle_is parts block valid is) (valid.rules rule.BelowLast) (tradable parts block valid)
    (rounded parts block valid)

pub block_conserves : BlockConserves
block_conserves parts block asset is valid lt =
    trade_conserves (middle parts block valid) block.header.prices (flow_of_block block) block.header.rounding asset
    (middle_is parts block valid is) (tradable parts block valid) (rounded parts block valid) lt
    ∙ body_conserves block.header.version parts block.txs asset is (admissible parts block valid) lt

-- the rounding is that of the ledger before
pub block_keeps_rounding : BlockKeepsRounding
block_keeps_rounding parts block asset is valid lt =
    trade_keeps_rounding (middle parts block valid) block.header.prices (flow_of_block block) block.header.rounding
    asset (middle_is parts block valid is) (rounded parts block valid) lt

pub block_held_falls : BlockHeldFalls
block_held_falls parts block asset is valid lt =
    omega (
      arith,
      block_conserves parts block asset is valid lt,
      block_keeps_rounding parts block asset is valid lt,
    )

pub block_commits : BlockCommits
block_commits parts block valid = (valid.rules rule.Parent, valid.rules rule.Body, valid.rules rule.After)

pub blocks_chain : BlocksChain
blocks_chain parts block next valid valid_next = (
  valid_next.rules rule.NextHeight ∙ ap (λ (h : ℕ). h + 1) (sym (valid.rules rule.NextHeight)),
  valid_next.rules rule.Parent ∙ sym (valid.rules rule.After),
)

pub block_trades_most : BlockTradesMost
block_trades_most parts block valid =
    fit_is_greatest (assets_of parts) (low_in parts block) (high_in parts block) (flow_of_block block)
    (potential_of block.header.potentials) (fits parts block valid)

pub drops_the_impossible : BlockDropsTheImpossible
drops_the_impossible parts block cut valid dropped =
    let n = assets_of parts in
    cut_refutes n (undropped_low_in parts block) (high_in parts block) cut.0
    (subst (CutHolds n (undropped_low_in parts block) (high_in parts block)) dropped (valid.rules rule.Cut))

pub trades_within_limits : BlockTradesWithinLimits
trades_within_limits parts block offer is valid within some =
    only_within_limit (middle parts block valid) block.header.prices (flow_of_block block) offer
    (middle_is parts block valid is) (tradable parts block valid) within some

pub trades_in_full : BlockTradesInFull
trades_in_full parts block offer is valid none within must =
    must_in_full (middle parts block valid) block.header.prices (flow_of_block block) block.header.mu offer
    (middle_is parts block valid is) (tradable parts block valid)
    (least parts block valid none) within must

pub block_gives_its_value : BlockGivesItsValue
block_gives_its_value parts block offer is valid within =
    gives_more block.header.prices (flow_of_block block) (offers_of parts block) offer
    (price_above (middle parts block valid) block.header.prices (flow_of_block block)
    (middle_is parts block valid is) (tradable parts block valid) offer.sell
    (one_is parts block valid is offer within).sell)

pub block_gets_its_value : BlockGetsItsValue
block_gets_its_value parts block offer is valid within =
    gets_less block.header.prices (flow_of_block block) (offers_of parts block) offer
    (price_above (middle parts block valid) block.header.prices (flow_of_block block)
    (middle_is parts block valid is) (tradable parts block valid) offer.buy
    (one_is parts block valid is offer within).buy)

pub one_in_part : OneInPart
one_in_part parts block one other is valid has has_other =
    one_trades_in_part (middle parts block valid) block.header.prices (flow_of_block block) one other
    (middle_is parts block valid is) (tradable parts block valid) has has_other
