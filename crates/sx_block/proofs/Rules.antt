-- The rules of a block one by one, and what they make together.
use Rattle.std.proofs.Common.{◌≡◌, ℕ, zero, suc, ◌≤◌, List, refl, sym, ap, subst, ◌∙◌, inl, inr, arith}
use Rattle.std.specs.Prelude.{◌==◌}
use Rattle.std.proofs.lemmas.Bool.{cases_Bool, cases_lt, cases_order}
use Rattle.sx_block.specs.declared.header.Block.{Block}
use Rattle.sx_block.specs.Block.{IsBlock}
use Rattle.sx_block.specs.Effects.{IsRounded, IsTradable}
use Rattle.sx_block.specs.Rule.{Rule, rank}
use Rattle.sx_block.specs.Rule as rule
use Rattle.sx_block.specs.Validity.{Holds, HoldsBefore, HoldsButParent, IsApplicable, flow_of_block}
use Rattle.sx_block.specs.ValidityLaws.{ApplicableIsSound, BlockFits, FittingIsSound, SoundFits, SoundIsAdmissible}
use Rattle.sx_block.specs.ValidityLaws.{SoundIsApplicable, SoundIsBody, SoundIsTradable, SoundIsValid, ValidIsSound}
use Rattle.sx_ledger.specs.declared.parts.Parts.{Parts}
use Rattle.sx_ledger.specs.Body.{IsAdmissibleIn, body_after}
use Rattle.sx_tx.specs.declared.tx.Tx.{Tx}

-- ---- one rule more

-- the rule of a rank, from 10 on and from 0 on
abbrev late_rule : ℕ → Rule
late_rule zero = rule.Covered
late_rule (suc zero) = rule.Within
late_rule (suc (suc zero)) = rule.Balanced
late_rule (suc (suc (suc zero))) = rule.Tight
late_rule (suc (suc (suc (suc zero)))) = rule.Cut
late_rule (suc (suc (suc (suc (suc zero))))) = rule.Rounded
late_rule (suc (suc (suc (suc (suc (suc n)))))) = rule.After

abbrev rule_at : ℕ → Rule
rule_at zero = rule.BelowLast
rule_at (suc zero) = rule.BelowLast
rule_at (suc (suc zero)) = rule.NextHeight
rule_at (suc (suc (suc zero))) = rule.Parent
rule_at (suc (suc (suc (suc zero)))) = rule.Body
rule_at (suc (suc (suc (suc (suc zero))))) = rule.Assets
rule_at (suc (suc (suc (suc (suc (suc zero)))))) = rule.Passes
rule_at (suc (suc (suc (suc (suc (suc (suc zero))))))) = rule.CancelsOnce
rule_at (suc (suc (suc (suc (suc (suc (suc (suc zero)))))))) = rule.CreatesOnce
rule_at (suc (suc (suc (suc (suc (suc (suc (suc (suc zero))))))))) = rule.Room
rule_at (suc (suc (suc (suc (suc (suc (suc (suc (suc (suc n)))))))))) = late_rule n

at_rank : (r : Rule) → rule_at (rank r) ≡ r
at_rank rule.BelowLast = refl
at_rank rule.NextHeight = refl
at_rank rule.Parent = refl
at_rank rule.Body = refl
at_rank rule.Assets = refl
at_rank rule.Passes = refl
at_rank rule.CancelsOnce = refl
at_rank rule.CreatesOnce = refl
at_rank rule.Room = refl
at_rank rule.Covered = refl
at_rank rule.Within = refl
at_rank rule.Balanced = refl
at_rank rule.Tight = refl
at_rank rule.Cut = refl
at_rank rule.Rounded = refl
at_rank rule.After = refl

-- no two rules have one rank
pub one_rank : (r s : Rule) → rank r ≡ rank s → r ≡ s
one_rank r s same = sym (at_rank r) ∙ ap rule_at same ∙ at_rank s

-- the rules before the one after this, where it holds and those before it
pub one_more : (this next : Rule) (parts : Parts) (block : Block) → rank next ≡ suc (rank this)
    → HoldsBefore this parts block → Holds this parts block → HoldsBefore next parts block
one_more this next parts block after before here r lt =
    elim (cases_lt (rank r) (rank this)) [
      | inl earlier ↦ before r earlier
      | inr late ↦
          let same : this ≡ r = one_rank this r (omega arith) in
          subst (λ (r : Rule). Holds r parts block) same here
    ]

-- no rule stands before the first
pub none_before : (parts : Parts) (block : Block) → HoldsBefore rule.BelowLast parts block
none_before parts block rule.BelowLast lt = absurd (omega arith)
none_before parts block rule.NextHeight lt = absurd (omega arith)
none_before parts block rule.Parent lt = absurd (omega arith)
none_before parts block rule.Body lt = absurd (omega arith)
none_before parts block rule.Assets lt = absurd (omega arith)
none_before parts block rule.Passes lt = absurd (omega arith)
none_before parts block rule.CancelsOnce lt = absurd (omega arith)
none_before parts block rule.CreatesOnce lt = absurd (omega arith)
none_before parts block rule.Room lt = absurd (omega arith)
none_before parts block rule.Covered lt = absurd (omega arith)
none_before parts block rule.Within lt = absurd (omega arith)
none_before parts block rule.Balanced lt = absurd (omega arith)
none_before parts block rule.Tight lt = absurd (omega arith)
none_before parts block rule.Cut lt = absurd (omega arith)
none_before parts block rule.Rounded lt = absurd (omega arith)
none_before parts block rule.After lt = absurd (omega arith)

-- the rules on the header
pub header_rules : (parts : Parts) (block : Block) → Holds rule.BelowLast parts block
    → Holds rule.NextHeight parts block → Holds rule.Parent parts block → Holds rule.Body parts block
    → Holds rule.Assets parts block → HoldsBefore rule.Passes parts block
header_rules parts block below next parent body assets =
    one_more rule.Assets rule.Passes parts block refl
    (one_more rule.Body rule.Assets parts block refl
    (one_more rule.Parent rule.Body parts block refl
    (one_more rule.NextHeight rule.Parent parts block refl
    (one_more rule.BelowLast rule.NextHeight parts block refl (none_before parts block) below) next) parent) body)
    assets

-- ---- all but the rule on the digest of the ledger

module _ (parts : Parts) (block : Block) where
  pub but_parent : (next : Rule) → HoldsBefore next parts block → HoldsButParent next parts block
  but_parent next before r lt other = before r lt

  -- one rule more
  pub one_more_but : (this next : Rule) → rank next ≡ suc (rank this) → HoldsButParent this parts block
      → Holds this parts block → HoldsButParent next parts block
  one_more_but this next after before here r lt other =
      elim (cases_lt (rank r) (rank this)) [
        | inl earlier ↦ before r earlier other
        | inr late ↦
            let same : this ≡ r = one_rank this r (omega arith) in
            subst (λ (r : Rule). Holds r parts block) same here
      ]

  -- the rule itself is passed over
  pub past_parent : HoldsBefore rule.Parent parts block → HoldsButParent rule.Body parts block
  past_parent before r lt other =
      elim (cases_lt (rank r) 3) [
        | inl earlier ↦ before r earlier
        | inr late ↦ absurd (other (one_rank r rule.Parent (omega arith)))
      ]

  -- up to the rule itself nothing is left out
  pub up_to_parent : (next : Rule) → 3 ≤ rank next → HoldsButParent next parts block
      → HoldsBefore rule.Parent parts block
  up_to_parent next late before r lt = before r (omega arith) (λ same. omega (arith, ap rank same))

  -- where the block names the ledger, all rules hold
  pub with_parent : (next : Rule) → Holds rule.Parent parts block → HoldsButParent next parts block
      → HoldsBefore next parts block
  with_parent next named before r lt =
      elim (cases_order (rank r) 3) [
        | inl same ↦ subst (λ (r : Rule). Holds r parts block) (sym (one_rank r rule.Parent same)) named
        | inr (inl earlier) ↦ before r lt (λ same. omega (arith, ap rank same))
        | inr (inr late) ↦ before r lt (λ same. omega (arith, ap rank same))
      ]

pub sound_is_applicable : SoundIsApplicable
sound_is_applicable parts block sound = record {
  form = sound.form;
  rules = but_parent parts block rule.After sound.rules;
}

pub applicable_is_sound : ApplicableIsSound
applicable_is_sound parts block applicable named = record {
  form = applicable.form;
  rules = with_parent parts block rule.After named applicable.rules;
}

-- ---- the body, and the fit

module _ (parts : Parts) (block : Block) where
  -- where the rules up to the one on debits hold, the transactions are a body
  pub body_is_admissible : IsBlock block → HoldsButParent rule.Within parts block
      → IsAdmissibleIn block.header.version parts block.txs
  body_is_admissible form rules = record {
    ordered = form.ordered;
    passes = rules rule.Passes (omega arith) (λ e. absurd cc);
    cancels_once = rules rule.CancelsOnce (omega arith) (λ e. absurd cc);
    creates_once = rules rule.CreatesOnce (omega arith) (λ e. absurd cc);
    accounts_fit = (rules rule.Room (omega arith) (λ e. absurd cc)).0;
    offers_fit = (rules rule.Room (omega arith) (λ e. absurd cc)).1;
    covered = rules rule.Covered (omega arith) (λ e. absurd cc);
  }

  pub rules_fit : HoldsButParent rule.Cut parts block → BlockFits parts block
  rules_fit rules = record {
    circulation = record {
      within = rules rule.Within (omega arith) (λ e. absurd cc);
      balanced = rules rule.Balanced (omega arith) (λ e. absurd cc);
    };
    tight = rules rule.Tight (omega arith) (λ e. absurd cc);
  }

  -- what trades can be traded
  pub rules_trade : IsBlock block → HoldsButParent rule.Cut parts block
      → IsTradable (body_after parts block.txs) block.header.prices (flow_of_block block)
  rules_trade form rules = record {
    same_assets = rules rule.Assets (omega arith) (λ e. absurd cc);
    in_range = form.header.prices;
    within = λ sell buy s b differ.
        (rules rule.Within (omega arith) (λ e. absurd cc) sell buy s b differ).at_most;
    balanced = rules rule.Balanced (omega arith) (λ e. absurd cc);
  }

-- what any version admits, version 2 admits
wider : (version : ℕ) (parts : Parts) (txs : List Tx) → IsAdmissibleIn version parts txs → IsAdmissibleIn 2 parts txs
wider version parts txs body = record {
  ordered = body.ordered;
  passes = body.passes;
  cancels_once = body.cancels_once;
  creates_once = body.creates_once;
  accounts_fit = body.accounts_fit;
  offers_fit = body.offers_fit;
  covered = λ account asset.
      let own = body.covered account asset in
      elim (cases_Bool (version == 1)) [
        | inl first ↦ let narrow = rw first at own in omega (arith, narrow)
        | inr later ↦ rw later at own
      ];
}

-- ---- a block that can be applied

module _ (parts : Parts) (block : Block) (applicable : IsApplicable parts block) where
  applicable_is_admissible : IsAdmissibleIn block.header.version parts block.txs
  applicable_is_admissible =
      body_is_admissible parts block applicable.form (λ r lt. applicable.rules r (omega arith))

  pub applicable_is_body : IsAdmissibleIn 2 parts block.txs
  applicable_is_body = wider block.header.version parts block.txs applicable_is_admissible

  pub applicable_fits : BlockFits parts block
  applicable_fits = rules_fit parts block (λ r lt. applicable.rules r (omega arith))

  pub applicable_is_tradable : IsTradable (body_after parts block.txs) block.header.prices (flow_of_block block)
      × IsRounded (body_after parts block.txs) block.header.prices (flow_of_block block) block.header.rounding
  applicable_is_tradable = (
    rules_trade parts block applicable.form (λ r lt. applicable.rules r (omega arith)),
    record {
      one_each = applicable.form.header.one_rounding ∙ applicable.rules rule.Assets (omega arith) (λ e. absurd cc);
      is = applicable.rules rule.Rounded (omega arith) (λ e. absurd cc);
    },
  )

-- ---- a sound block

pub sound_is_admissible : SoundIsAdmissible
sound_is_admissible parts block sound =
    applicable_is_admissible parts block (sound_is_applicable parts block sound)

pub widely_admissible : SoundIsBody
widely_admissible parts block sound = applicable_is_body parts block (sound_is_applicable parts block sound)

pub sound_fits : SoundFits
sound_fits parts block sound = applicable_fits parts block (sound_is_applicable parts block sound)

pub sound_is_tradable : SoundIsTradable
sound_is_tradable parts block sound = applicable_is_tradable parts block (sound_is_applicable parts block sound)

pub valid_is_sound : ValidIsSound
valid_is_sound parts block valid = record { form = valid.form; rules = λ r lt. valid.rules r }

pub sound_is_valid : SoundIsValid
sound_is_valid parts block sound after = record {
  form = sound.form;
  rules = λ r. elim (cases_lt (rank r) 16) [
    | inl earlier ↦ sound.rules r earlier
    | inr late ↦
        let same : rule.After ≡ r = one_rank rule.After r (let most = rank_most r in omega arith) in
        subst (λ (r : Rule). Holds r parts block) same after
  ];
}
  where
    rank_most : (r : Rule) → rank r ≤ 16
    rank_most rule.BelowLast = omega arith
    rank_most rule.NextHeight = omega arith
    rank_most rule.Parent = omega arith
    rank_most rule.Body = omega arith
    rank_most rule.Assets = omega arith
    rank_most rule.Passes = omega arith
    rank_most rule.CancelsOnce = omega arith
    rank_most rule.CreatesOnce = omega arith
    rank_most rule.Room = omega arith
    rank_most rule.Covered = omega arith
    rank_most rule.Within = omega arith
    rank_most rule.Balanced = omega arith
    rank_most rule.Tight = omega arith
    rank_most rule.Cut = omega arith
    rank_most rule.Rounded = omega arith
    rank_most rule.After = omega arith

pub fitting_is_sound : FittingIsSound
fitting_is_sound parts block form header body fits cut rounded = record { form = form; rules = rules }
  where
    rules : HoldsBefore rule.After parts block
    rules rule.BelowLast lt = header rule.BelowLast (omega arith)
    rules rule.NextHeight lt = header rule.NextHeight (omega arith)
    rules rule.Parent lt = header rule.Parent (omega arith)
    rules rule.Body lt = header rule.Body (omega arith)
    rules rule.Assets lt = header rule.Assets (omega arith)
    rules rule.Passes lt = body.passes
    rules rule.CancelsOnce lt = body.cancels_once
    rules rule.CreatesOnce lt = body.creates_once
    rules rule.Room lt = (body.accounts_fit, body.offers_fit)
    rules rule.Covered lt = body.covered
    rules rule.Within lt = fits.circulation.within
    rules rule.Balanced lt = fits.circulation.balanced
    rules rule.Tight lt = fits.tight
    rules rule.Cut lt = cut
    rules rule.Rounded lt = rounded
    rules rule.After lt = absurd (omega arith)
