-- Two ways in which one rule is broken first are the same.
use Rattle.std.proofs.Common.{◌≡◌, ℕ, ◌≤◌, false, List, inl, inr, refl, sym, ap, ap₂, subst, ◌∙◌}
use Rattle.std.proofs.Common.{◌==◌, arith}
use Rattle.std.specs.Prelude.{slice_index}
use Rattle.std.proofs.lemmas.Bool.{cases_order, eq-eqb}
use Rattle.std.proofs.lemmas.Option.{same_Some}
use Rattle.sx_block.specs.declared.header.Block.{Block}
use Rattle.sx_block.specs.Rule.{rank}
use Rattle.sx_block.specs.Validity.{Rounds, flow_of_block, high_in, low_in}
use Rattle.sx_base.specs.declared.account_id.AccountId.{AccountId}
use Rattle.sx_ledger.specs.declared.overdraft.Overdraft.{Overdraft}
use Rattle.sx_ledger.specs.Overdraft.{IsFirstOverdrawn}
use Rattle.sx_ledger.specs.Repeats.{cancels, creates}
use Rattle.sx_ledger.proofs.FirstRefusals.{one_refusal}
use Rattle.sx_block.specs.declared.invalid.Invalid.{Invalid}
use Rattle.sx_block.specs.declared.invalid.Invalid.TheVariants.{Ended, WrongHeight, WrongParent, WrongBody}
use Rattle.sx_block.specs.declared.invalid.Invalid.TheVariants.{WrongAssets, Tx, TwoCancels, TwoNames, Crowded}
use Rattle.sx_block.specs.declared.invalid.Invalid.TheVariants.{Overdrawn, Overspent, Outside, Unbalanced, Slack, NoCut}
use Rattle.sx_block.specs.declared.invalid.Invalid.TheVariants.{Rounding, WrongAfter}
use Rattle.sx_block.specs.Refusals.{Breaks, IsCrowded, IsMisrounded, rule_of}
use Rattle.sx_ledger.proofs.RepeatLaws.{one_first}
use Rattle.sx_dual.specs.Circulation.{IsBalanced, IsWithin, bought, sold}
use Rattle.sx_dual.specs.Fit.{IsTight, gain_of}
use Rattle.sx_dual.specs.Tables.{potential_of}
use Rattle.sx_dual.specs.Misfit.{IsFirstAsset, IsFirstPair}
use Rattle.sx_ledger.specs.declared.parts.Parts.{Parts}
use Rattle.sx_ledger.specs.Body.{holding_of, spendable}
use Rattle.sx_ledger.specs.Effects.{credits, debits}
use Rattle.sx_ledger.specs.Ledger.{assets_of}
use Rattle.sx_tx.specs.declared.tx.Tx.{Tx as Transaction}

-- ---- the first of its kind

one_pair : (n : ℕ) (P : ℕ → ℕ → Type 0) (sell buy sell' buy' : ℕ) → IsFirstPair n P sell buy → IsFirstPair n P sell'
    buy'
    → (sell ≡ sell') × (buy ≡ buy')
one_pair n P sell buy sell' buy' one other =
    elim (cases_order sell sell') [
      | inl same ↦ elim (cases_order buy buy') [
        | inl both ↦ (same, both)
        | inr (inl lt) ↦ absurd (one.fails (other.earlier sell buy one.sell_below one.buy_below one.different
            (inr (same, lt))))
        | inr (inr gt) ↦ absurd (other.fails (one.earlier sell' buy' other.sell_below other.buy_below
            other.different (inr (sym same, gt))))
      ]
      | inr (inl lt) ↦ absurd (one.fails (other.earlier sell buy one.sell_below one.buy_below one.different (inl lt)))
      | inr (inr gt) ↦ absurd (other.fails (one.earlier sell' buy' other.sell_below other.buy_below other.different
          (inl gt)))
    ]

one_asset : (n : ℕ) (P : ℕ → Type 0) (asset asset' : ℕ) → IsFirstAsset n P asset → IsFirstAsset n P asset'
    → asset ≡ asset'
one_asset n P asset asset' one other =
    elim (cases_order asset asset') [
      | inl same ↦ same
      | inr (inl lt) ↦ absurd (one.fails (other.earlier asset lt))
      | inr (inr gt) ↦ absurd (other.fails (one.earlier asset' gt))
    ]

-- ---- reasons of one number

-- an overdraft, field by field
abbrev made : AccountId → ℕ → ℕ → ℕ → ℕ → Overdraft
made account asset opening credits debits =
    record { account = account; asset = asset; opening = opening; credits = credits; debits = debits }

one_crowd : (parts : Parts) (txs : List Transaction) (have more limit have' more' limit' : ℕ)
    → IsCrowded parts txs have more limit → IsCrowded parts txs have' more' limit'
    → Crowded have more limit ≡ Crowded have' more' limit'
one_crowd parts txs have more limit have' more' limit' r s =
    elim r [
      | inl a ↦ elim s [
        | inl b ↦ cc (a.is_there, a.is_coming, a.is_most, b.is_there, b.is_coming, b.is_most)
        | inr b ↦ absurd (omega (arith, a.is_there, a.is_coming, a.is_most, a.above, b.0))
      ]
      | inr a ↦ elim s [
        | inl b ↦ absurd (omega (arith, b.is_there, b.is_coming, b.is_most, b.above, a.0))
        | inr b ↦ cc (a.1.is_there, a.1.is_coming, a.1.is_most, b.1.is_there, b.1.is_coming, b.1.is_most)
      ]
    ]

-- two first overdrafts of a body are the same
one_overdraft : (version : ℕ) (parts : Parts) (txs : List Transaction) (one other : Overdraft)
    → IsFirstOverdrawn version parts txs one → IsFirstOverdrawn version parts txs other
    → (one.account.0 ≡ other.account.0) × (one.asset ≡ other.asset)
one_overdraft version parts txs one other first second =
    elim (cases_order one.account.0 other.account.0) [
      | inl same ↦ elim (cases_order one.asset other.asset) [
        | inl both ↦ (same, both)
        | inr (inl lt) ↦ absurd (
            let le = second.assets_before one.asset lt in
            let at : debits txs one.account.0 one.asset ≤ spendable version parts txs one.account.0 one.asset = rw same
            le in
            omega (arith, first.taken, first.over)
            )
        | inr (inr gt) ↦ absurd (
            let le = first.assets_before other.asset gt in
            let at : debits txs other.account.0 other.asset ≤ spendable version parts txs other.account.0 other.asset =
            rw (← same) le in
            omega (arith, second.taken, second.over)
            )
      ]
      | inr (inl lt) ↦ absurd (omega (
        arith,
        first.taken,
        first.over,
        second.accounts_before
            one.account.0 one.asset lt,
      ))
      | inr (inr gt) ↦ absurd (omega (
        arith,
        second.taken,
        second.over,
        first.accounts_before
            other.account.0 other.asset gt,
      ))
    ]

same_overdraft : (version : ℕ) (parts : Parts) (txs : List Transaction) (one other : Overdraft)
    → IsFirstOverdrawn version parts txs one → IsFirstOverdrawn version parts txs other → one ≡ other
same_overdraft version parts txs one other first second =
    let at = one_overdraft version parts txs one other first second in
    let account : one.account ≡ other.account = ap (λ (id : ℕ). let a : AccountId = record { 0 = id } in a) at.0 in
    let opening : one.opening ≡ other.opening =
    first.opening ∙ ap₂ (holding_of parts.accounts) at.0 at.1 ∙ sym second.opening in
    let given : one.credits ≡ other.credits =
    first.given ∙ ap₂ (credits parts.offers txs) at.0 at.1 ∙ sym second.given in
    let taken : one.debits ≡ other.debits = first.taken ∙ ap₂ (debits txs) at.0 at.1 ∙ sym second.taken in
    same_parts one.account other.account one.asset other.asset one.opening other.opening one.credits other.credits
    one.debits other.debits account at.1 opening given taken
  where
    same_parts : (a a' : AccountId) (x x' o o' c c' d d' : ℕ) → a ≡ a' → x ≡ x' → o ≡ o' → c ≡ c' → d ≡ d'
        → made a x o c d ≡ made a' x' o' c' d'
    same_parts a a' x x' o o' c c' d d' ea ex eo ec ed = cc (ea, ex, eo, ec, ed)

one_misrounded : (parts : Parts) (block : Block) (asset said real asset' said' real' : ℕ)
    → IsMisrounded parts block asset said real → IsMisrounded parts block asset' said' real'
    → Rounding asset said real ≡ Rounding asset' said' real'
one_misrounded parts block asset said real asset' said' real' r s =
    elim (cases_order asset asset') [
      | inl same ↦
          let is : said ≡ said' = r.is_said ∙ ap (slice_index block.header.rounding) same ∙ sym s.is_said in
          let right : Rounds parts block asset' real = subst (λ (a : ℕ). Rounds parts block a real) same r.is_real in
          let kept : real ≡ real' = omega (arith, right, s.is_real) in
          cc (same, is, kept)
      | inr (inl lt) ↦ absurd (
          let right = s.earlier asset lt in
          r.differ (r.is_said ∙ omega (arith, right, r.is_real))
          )
      | inr (inr gt) ↦ absurd (
          let right = r.earlier asset' gt in
          s.differ (s.is_said ∙ omega (arith, right, s.is_real))
          )
    ]

-- ---- reasons of one rule

differ : (a b : ℕ) → (a == b) ≡ false → a ≡ b → ⊥
differ a b apart same = let equal = eq-eqb a b same in absurd cc

-- two ways in which one rule is broken first are the same
pub same_rule : (parts : Parts) (block : Block) (one other : Invalid) → Breaks parts block one
    → Breaks parts block other → rank (rule_of one) ≡ rank (rule_of other) → one ≡ other
same_rule parts block Ended Ended r s e = refl
same_rule parts block (WrongHeight have said) (WrongHeight have' said') r s e = cc (r.0, r.1, s.0, s.1)
same_rule parts block (WrongParent said real) (WrongParent said' real') r s e = cc (r.0, r.1, s.0, s.1)
same_rule parts block (WrongBody said real) (WrongBody said' real') r s e = cc (r.0, r.1, s.0, s.1)
same_rule parts block (WrongAssets have said) (WrongAssets have' said') r s e = cc (r.0, r.1, s.0, s.1)
same_rule parts block (Tx index why) (Tx index' why') r s e =
    let at = one_refusal parts block.txs index index' why why' r s in cc (at.0, at.1)
same_rule parts block (TwoCancels index) (TwoCancels index') r s e =
    ap TwoCancels (one_first cancels block.txs index index' r s)
same_rule parts block (TwoNames index) (TwoNames index') r s e =
    ap TwoNames (one_first creates block.txs index index' r s)
same_rule parts block (Crowded have more limit) (Crowded have' more' limit') r s e =
    one_crowd parts block.txs have more limit have' more' limit' r s
same_rule parts block (Overdrawn account asset opening debits) (Overdrawn account' asset' opening' debits') r s e =
    ap (λ (o : Overdraft). Overdrawn o.account o.asset o.opening o.debits)
    (same_overdraft block.header.version parts block.txs
    (made account asset opening (credits parts.offers block.txs account.0 asset) debits)
    (made account' asset' opening' (credits parts.offers block.txs account'.0 asset') debits') r.1 s.1)
same_rule parts block (Overspent account asset opening given debits) (Overspent account' asset' opening' given' debits')
    r s e =
    ap (λ (o : Overdraft). Overspent o.account o.asset o.opening o.credits o.debits)
    (same_overdraft block.header.version parts block.txs (made account asset opening given debits)
    (made account' asset' opening' given' debits') r.1 s.1)
same_rule parts block (Overdrawn account asset opening debits) (Overspent account' asset' opening' given' debits') r s e
    = absurd (differ 1 2 refl (sym r.0 ∙ s.0))
same_rule parts block (Overspent account asset opening given debits) (Overdrawn account' asset' opening' debits') r s e
    = absurd (differ 2 1 refl (sym r.0 ∙ s.0))
same_rule parts block (Outside sell buy low high y) (Outside sell' buy' low' high' y') r s e =
    let n = assets_of parts in
    let at = one_pair n (IsWithin (low_in parts block) (high_in parts block) (flow_of_block block)) sell buy sell'
    buy' r.0 s.0 in
    let lows : low ≡ low' = r.1 ∙ ap₂ (low_in parts block) at.0 at.1 ∙ sym s.1 in
    let highs : high ≡ high' = r.2 ∙ ap₂ (high_in parts block) at.0 at.1 ∙ sym s.2 in
    let flows : y ≡ y' = r.3 ∙ ap₂ (flow_of_block block) at.0 at.1 ∙ sym s.3 in
    cc (at.0, at.1, lows, highs, flows)
same_rule parts block (Unbalanced asset out into) (Unbalanced asset' out' into') r s e =
    let n = assets_of parts in
    let at = one_asset n (IsBalanced n (flow_of_block block)) asset asset' r.1 s.1 in
    let outs : out ≡ out' = r.2 ∙ ap (sold n (flow_of_block block)) at ∙ sym s.2 in
    let intos : into ≡ into' = r.3 ∙ ap (bought n (flow_of_block block)) at ∙ sym s.3 in
    cc (at, outs, intos)
same_rule parts block (Slack sell buy gain y) (Slack sell' buy' gain' y') r s e =
    let n = assets_of parts in
    let potential = potential_of block.header.potentials in
    let at = one_pair n (IsTight (low_in parts block) (high_in parts block) (flow_of_block block) potential) sell
    buy sell' buy' r.1 s.1 in
    let gains : gain ≡ gain' = r.2 ∙ ap₂ (gain_of potential) at.0 at.1 ∙ sym s.2 in
    let flows : y ≡ y' = r.3 ∙ ap₂ (flow_of_block block) at.0 at.1 ∙ sym s.3 in
    cc (at.0, at.1, gains, flows)
same_rule parts block (NoCut cut) (NoCut cut') r s e = ap NoCut (same_Some cut cut' (sym r.0 ∙ s.0))
same_rule parts block (Rounding asset said real) (Rounding asset' said' real') r s e =
    one_misrounded parts block asset said real asset' said' real' r s
same_rule parts block (WrongAfter said real) (WrongAfter said' real') r s e = cc (r.0, r.1, s.0, s.1)
same_rule parts block one other r s e = absurd (differ (rank (rule_of one)) (rank (rule_of other)) refl e)
