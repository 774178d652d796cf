-- The offers after the transactions of a block are those of a ledger, in which its flow can trade.
use Rattle.std.proofs.Common.{◌≡◌, ◌≢◌, ℕ, ◌<◌, false, List, length, inl, inr, sym, ap, subst, ◌∙◌, arith}
use Rattle.std.specs.Prelude.{slice_index}
use Rattle.std.proofs.lemmas.Bool.{cases_order}
use Rattle.sx_apply.specs.Trading.{AreFills, CanTrade}
use Rattle.sx_block.specs.declared.header.Block.{Block}
use Rattle.sx_block.specs.Block.{IsBlock}
use Rattle.sx_block.specs.Rule as rule
use Rattle.sx_block.specs.Validity.{HoldsButParent, Rounds, flow_of_block, high_in, offers_of, undropped_low_in}
use Rattle.sx_fill.specs.Bounds.{AreOffers, HasBounds}
use Rattle.sx_fill.proofs.BoundLaws.{ledger_offers}
use Rattle.sx_block.specs.Refusals.{IsMisrounded}
use Rattle.sx_dual.specs.Tables.{BoundsTable}
use Rattle.sx_fill.specs.AllFills.{all_fills}
use Rattle.sx_block.proofs.Rules.{body_is_admissible, rules_trade}
use Rattle.sx_ledger.specs.declared.fill.Fill.{Fill}
use Rattle.sx_ledger.specs.declared.offer.Offer.{Offer}
use Rattle.sx_ledger.specs.declared.parts.Parts.{Parts}
use Rattle.sx_ledger.specs.Body.{IsAdmissibleIn, body_after}
use Rattle.sx_ledger.specs.Bounds.{high_of, low_of}
use Rattle.sx_ledger.specs.Ledger.{IsLedger, assets_of}
use Rattle.sx_ledger.proofs.BodyKeepsLedger.{body_keeps_ledger}
use Rattle.sx_ledger.proofs.LaterBodies.{later_admits_more}

-- the flow, the potentials and the rounding are of as many assets as the ledger has
module _ (parts : Parts) (block : Block) (form : IsBlock block) (rules : HoldsButParent rule.Passes parts block) where
  pub flow_assets : block.header.trades.assets ≡ assets_of parts
  flow_assets = form.header.same_assets ∙ rules rule.Assets (omega arith) (λ e. absurd cc)

  pub one_potential : length block.header.potentials ≡ assets_of parts
  one_potential = form.header.one_potential ∙ rules rule.Assets (omega arith) (λ e. absurd cc)

  pub one_rounding : length block.header.rounding ≡ assets_of parts
  one_rounding = form.header.one_rounding ∙ rules rule.Assets (omega arith) (λ e. absurd cc)

-- the bounds of these offers, which are those after the transactions, are the block's
pub bounds_are : (parts : Parts) (block : Block) (offers : List Offer) (bounds : BoundsTable)
    → HoldsButParent rule.Within parts block → offers ≡ offers_of parts block
    → HasBounds (length block.header.prices) (low_of block.header.prices block.header.mu false offers)
    (high_of block.header.prices offers) bounds
    → HasBounds (assets_of parts) (undropped_low_in parts block) (high_in parts block) bounds
bounds_are parts block offers bounds rules same has =
    subst (λ (os : List Offer). HasBounds (assets_of parts) (low_of block.header.prices block.header.mu false os)
    (high_of block.header.prices os) bounds) same
    (subst (λ (n : ℕ). HasBounds n (low_of block.header.prices block.header.mu false offers)
    (high_of block.header.prices offers) bounds) (rules rule.Assets (omega arith) (λ e. absurd cc)) has)

module _ (parts : Parts) (block : Block) (is : IsLedger parts) (form : IsBlock block) where
  middle : HoldsButParent rule.Within parts block → IsLedger (body_after parts block.txs)
  middle rules =
      body_keeps_ledger block.header.version parts block.txs is form.each (body_is_admissible parts block form rules)

  -- the transactions are a body by the rule of version 2, whatever the version
  pub is_body : HoldsButParent rule.Within parts block → IsAdmissibleIn 2 parts block.txs
  is_body rules =
      let body = body_is_admissible parts block form rules in
      elim (cases_order block.header.version 1) [
        | inl one ↦
            later_admits_more 2 parts block.txs (subst (λ (v : ℕ). IsAdmissibleIn v parts block.txs) one body)
        | inr (inl none) ↦ absurd (omega (arith, form.header.some_version))
        | inr (inr more) ↦
            let two : block.header.version ≡ 2 = omega (arith, form.header.few_versions) in
            subst (λ (v : ℕ). IsAdmissibleIn v parts block.txs) two body
      ]

  are_offers : HoldsButParent rule.Within parts block → AreOffers (assets_of parts) (offers_of parts block)
  are_offers rules = ledger_offers (body_after parts block.txs) (middle rules)

  -- the same for the number of assets of the header
  pub offers_of_header : HoldsButParent rule.Within parts block
      → AreOffers (length block.header.prices) (offers_of parts block)
  offers_of_header rules =
      subst (λ (n : ℕ). AreOffers n (offers_of parts block)) (sym (rules rule.Assets (omega arith) (λ e. absurd cc)))
      (are_offers rules)

  pub can_trade : (offers : List Offer) → HoldsButParent rule.Cut parts block → offers ≡ offers_of parts block
      → CanTrade offers block.header.prices (flow_of_block block)
  can_trade offers rules same = record {
    parts = body_after parts block.txs;
    ledger = middle (λ r lt. rules r (omega arith));
    same = sym same;
    tradable = rules_trade parts block form rules;
  }

  pub are_fills : (offers : List Offer) (fills : List Fill) → HoldsButParent rule.Cut parts block
      → offers ≡ offers_of parts block
      → fills ≡ all_fills block.header.prices (flow_of_block block) offers → AreFills (assets_of parts) offers fills
  are_fills offers fills rules same are = record {
    prices = block.header.prices;
    flow = flow_of_block block;
    same_assets = rules rule.Assets (omega arith) (λ e. absurd cc);
    can_trade = can_trade offers rules same;
    are = are;
  }

-- the first place at which what is said differs from what rounding keeps
pub misrounded : (parts : Parts) (block : Block) (said kept : List ℕ) (asset place : ℕ) → asset ≡ place
    → said ≡ block.header.rounding → place < assets_of parts
    → ((a : ℕ) → a < assets_of parts → Rounds parts block a (slice_index kept a))
    → slice_index said place ≢ slice_index kept place
    → ((k : ℕ) → k < place → slice_index said k ≡ slice_index kept k)
    → IsMisrounded parts block asset (slice_index said place) (slice_index kept place)
misrounded parts block said kept asset place at is lt rounds differ earlier =
    subst (λ (a : ℕ). IsMisrounded parts block a (slice_index said place) (slice_index kept place)) (sym at)
    (record {
      there = lt;
      is_said = ap (λ (xs : List ℕ). slice_index xs place) is;
      is_real = rounds place lt;
      differ = differ;
      earlier = λ other before.
          subst (Rounds parts block other)
          (sym (earlier other before) ∙ ap (λ (xs : List ℕ). slice_index xs other) is) (rounds other (omega arith));
    })
