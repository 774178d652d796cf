-- Each block is valid, or refused for some reason: one rule after the other holds, or is broken first in some way.
use Rattle.std.proofs.Common.{◌≡◌, ℕ, suc, ◌+◌, ◌-◌, ◌^◌, ◌<◌, ◌≤◌, false, List, [], ◌∷◌, length, Option, None, Some}
use Rattle.std.proofs.Common.{Result, Ok, Err, inl, inr, refl, sym, ap, subst, ◌∙◌, arith}
use Rattle.std.specs.Prelude.{nat_le, slice_index, take, ◌==◌, ◌⊎◌}
use Rattle.std.specs.List.{AllByRecursion}
use Rattle.std.proofs.lemmas.Bool.{cases_Bool, cases_lt, cases_order, leb-false, ne_eqb, or_parts}
use Rattle.std.proofs.lemmas.Int.{ints}
use Rattle.std.proofs.lemmas.List.Elements.{All-from_recursion, recursion_from_All}
use Rattle.sha2.specs.Sha256.{sha256}
use Rattle.sx_base.specs.declared.account_id.AccountId.{AccountId}
use Rattle.sx_block.specs.declared.header.Block.{Block}
use Rattle.sx_block.specs.Block.{IsBlock}
use Rattle.sx_block.specs.Rule as rule
use Rattle.sx_block.specs.Validity.{CutHolds, Holds, HoldsBefore, HoldsButParent, IsApplicable, IsValid, Rounds}
use Rattle.sx_block.specs.Validity.{digest_of_ledger, flow_of_block, high_in, ledger_after, low_in, offers_of}
use Rattle.sx_block.specs.Validity.{undropped_low_in}
use Rattle.sx_ledger.specs.Overdraft.{IsFirstOverdrawn}
use Rattle.sx_ledger.specs.FirstRefusal.{IsFirstRefused}
use Rattle.sx_ledger.specs.Repeats.{IsFirstRepeat, Repeats, cancels, creates, done_at}
use Rattle.sx_block.specs.declared.invalid.Invalid.{Invalid}
use Rattle.sx_block.specs.declared.invalid.Invalid.TheVariants.{NoCut, Overdrawn, Overspent, Rounding}
use Rattle.sx_block.specs.declared.invalid.Invalid.TheVariants.{WrongAfter}
use Rattle.sx_block.specs.RefusalLaws.{EveryBlockIsJudged, IsRefused}
use Rattle.sx_block.specs.Refusals.{RefusesButParent, RefusesEarly, rule_of}
use Rattle.sx_block.proofs.MarketLaws.{fit_holds, misfit_refuses}
use Rattle.sx_ledger.proofs.RepeatLaws.{cancels_distinct, creates_distinct}
use Rattle.sx_block.proofs.Searches.{Decided, first_failing, first_of, first_pair, le_or_not, same_list_or_not}
use Rattle.sx_block.proofs.Searches.{same_or_not}
use Rattle.sx_block.proofs.Steps.{assets_hold, body_holds, cancels_hold, creates_hold, crowded, debits_hold}
use Rattle.sx_block.proofs.Steps.{each_passes, ended, height_holds, two_cancels, two_names, tx_refused, wrong_assets}
use Rattle.sx_block.proofs.Steps.{wrong_body, wrong_height, wrong_parent}
use Rattle.sx_dual.specs.declared.cut.Cut.{Cut}
use Rattle.sx_dual.specs.declared.misfit.Misfit.TheVariants as misfit
use Rattle.sx_dual.specs.Cuts.{sum_in, sum_out}
use Rattle.sx_dual.specs.Circulation.{IsBalanced, IsWithin, bought, sold}
use Rattle.sx_dual.specs.Fit.{IsTight, gain_of}
use Rattle.sx_dual.specs.Tables.{potential_of}
use Rattle.sx_block.proofs.FillLaws.{rounding_never_negative}
use Rattle.sx_block.proofs.Rules.{applicable_is_sound, body_is_admissible, one_more_but, past_parent, rules_trade}
use Rattle.sx_block.proofs.Rules.{sound_is_valid, with_parent}
use Rattle.sx_ledger.specs.declared.key.Key.{Key}
use Rattle.sx_ledger.specs.declared.parts.Parts.{Parts}
use Rattle.sx_ledger.specs.declared.statics.Static.{Static}
use Rattle.sx_ledger.specs.Body.{body_after, created, holding_of, made, spendable}
use Rattle.sx_ledger.specs.Effects.{credits, debit_of, debits, posted}
use Rattle.sx_ledger.specs.Fills.{given, got}
use Rattle.sx_ledger.specs.Ledger.{IsLedger, assets_of, most_accounts, most_height, most_offers}
use Rattle.sx_ledger.specs.Order.{same_key}
use Rattle.sx_ledger.specs.Static.{names_beyond, static_of}
use Rattle.sx_ledger.proofs.BodyKeepsLedger.{body_keeps_ledger}
use Rattle.sx_ledger.proofs.KeyOrder.{same_key_from, same_key_is}
use Rattle.sx_ledger.proofs.PostingTotals.{passes}
use Rattle.sx_tx.specs.declared.kind.Kind.{Kind}
use Rattle.sx_tx.specs.declared.kind.Kind.TheVariants as kind
use Rattle.sx_tx.specs.declared.tx.Tx.{Tx as Transaction}
use Rattle.sx_tx.specs.Transactions.{IsTx, list_bytes}

-- ---- transactions that a ledger refuses by itself

record Refused (parts : Parts) (txs : List Transaction) : Type 0 where
  index : ℕ
  why : Static
  first : IsFirstRefused parts txs index why

abbrev PassAll : Parts → List Transaction → Type 0
PassAll parts txs = AllByRecursion (λ tx. static_of parts tx ≡ Ok tt) txs

-- one more transaction in front
with_first : (parts : Parts) (tx : Transaction) (txs : List Transaction) (found : Result (Unit {0}) Static)
    → static_of parts tx ≡ found → Refused parts txs ⊎ PassAll parts txs
    → Refused parts (tx ∷ txs) ⊎ PassAll parts (tx ∷ txs)
with_first parts tx txs (Err why) is others = inl (record {
  index = 0;
  why = why;
  first = record {
    tx = tx;
    there = refl;
    refused = is;
    before = All-from_recursion (λ tx. static_of parts tx ≡ Ok tt) [] tt;
  };
})
with_first parts tx txs (Ok done) is (inl found) = inl (record {
  index = suc found.index;
  why = found.why;
  first = record {
    tx = found.first.tx;
    there = found.first.there;
    refused = found.first.refused;
    before = All-from_recursion (λ tx. static_of parts tx ≡ Ok tt) (tx ∷ take found.index txs)
        (is, recursion_from_All (λ tx. static_of parts tx ≡ Ok tt) (take found.index txs) found.first.before);
  };
})
with_first parts tx txs (Ok done) is (inr all) = inr (is, all)

first_refused : (parts : Parts) (txs : List Transaction) → Refused parts txs ⊎ PassAll parts txs
first_refused parts [] = inr tt
first_refused parts (tx ∷ txs) = with_first parts tx txs (static_of parts tx) refl (first_refused parts txs)

-- ---- transactions that do something again

module _ {X : Type 0} (does : Transaction → Option X) (same : (x y : X) → Decided (x ≡ y)) (txs : List Transaction) where
  is_this : (what : X) (o : Option X) → Decided (o ≡ Some what)
  is_this what None = inr (λ e. absurd cc)
  is_this what (Some x) = elim (same x what) [ inl e ↦ inl (ap Some e) | inr differ ↦ inr (λ e. differ cc) ]

  repeats_or : (place : ℕ) (o : Option X) → done_at does txs place ≡ o → Decided (Repeats does txs place)
  repeats_or place None is = inr (λ r. absurd (let e = sym is ∙ r.again in cc))
  repeats_or place (Some what) is =
      elim (first_of (λ k. done_at does txs k ≡ Some what) (λ k. is_this what (done_at does txs k)) place) [
        | inl found ↦ inl (record {
          what = what;
          again = is;
          before = record { first = found.at; earlier = found.below; done = found.is };
        })
        | inr none ↦ inr (λ r.
            let one : Some what ≡ Some r.what = sym is ∙ r.again in
            none r.before.first r.before.earlier (r.before.done ∙ sym one))
      ]

  record Repeat : Type 0 where
    place : ℕ
    first : IsFirstRepeat does txs place

  first_repeat : Repeat ⊎ ((place : ℕ) → place < length txs → Repeats does txs place → ⊥)
  first_repeat =
      elim (first_of (Repeats does txs) (λ place. repeats_or place (done_at does txs place) refl) (length txs)) [
        | inl found ↦ inl (record {
          place = found.at;
          first = record { repeats = found.is; earlier = found.earlier };
        })
        | inr none ↦ inr none
      ]

same_key_or_not : (x y : Key) → Decided (x ≡ y)
same_key_or_not x y =
    elim (cases_Bool (same_key x y)) [
      | inl same ↦ inl (same_key_is x y same)
      | inr other ↦ inr (λ e. absurd (let yes = same_key_from x y e in cc))
    ]

-- ---- debits

-- nothing is debited of an asset that is not there
no_debit_of : (n by account asset : ℕ) (k : Kind) → names_beyond n k ≡ false → n ≤ asset
    → posted (debit_of by k) account asset ≡ 0
no_debit_of n by account asset (kind.Pay x to amount) within le =
    let lt = leb-false n x within in
    let other : (x == asset) ≡ false = ne_eqb x asset (λ e. omega (arith, e)) in
    elim (cases_Bool (by == account)) [ inl own ↦ rw (own, other) refl | inr not ↦ rw not refl ]
no_debit_of n by account asset (kind.Create id) within le = refl
no_debit_of n by account asset (kind.Offer sell buy limit amount) within le =
    let lt = leb-false n sell (or_parts (nat_le n sell) (nat_le n buy) within).0 in
    let other : (sell == asset) ≡ false = ne_eqb sell asset (λ e. omega (arith, e)) in
    elim (cases_Bool (by == account)) [ inl own ↦ rw (own, other) refl | inr not ↦ rw not refl ]
no_debit_of n by account asset (kind.Cancel sell buy limit seq) within le = refl

no_debits : (parts : Parts) (txs : List Transaction) → PassAll parts txs → (account asset : ℕ)
    → assets_of parts ≤ asset → debits txs account asset ≡ 0
no_debits parts [] all account asset le = refl
no_debits parts (tx ∷ txs) all account asset le =
    let is = passes parts tx all.0 in
    omega (
      arith,
      no_debit_of (assets_of parts) tx.account.0 account asset tx.kind is.assets le,
      no_debits parts txs all.1 account asset le,
    )

-- and nothing at an account whose id is out of range
no_debit_at : (by account asset : ℕ) (k : Kind) → by < account → posted (debit_of by k) account asset ≡ 0
no_debit_at by account asset (kind.Pay x to amount) lt = rw (ne_eqb by account (λ e. omega (arith, e))) refl
no_debit_at by account asset (kind.Create id) lt = refl
no_debit_at by account asset (kind.Offer sell buy limit amount) lt =
    rw (ne_eqb by account (λ e. omega (arith, e))) refl
no_debit_at by account asset (kind.Cancel sell buy limit seq) lt = refl

no_debits_at : (txs : List Transaction) → AllByRecursion IsTx txs → (account asset : ℕ) → 2 ^ 64 ≤ account
    → debits txs account asset ≡ 0
no_debits_at [] all account asset le = refl
no_debits_at (tx ∷ txs) all account asset le =
    omega (
      arith,
      no_debit_at tx.account.0 account asset tx.kind (omega (arith, all.0.account)),
      no_debits_at txs all.1 account asset le,
    )

record Overdraws (parts : Parts) (block : Block) : Type 0 where
  account : AccountId
  asset : ℕ
  first : (opening given taken : ℕ) → opening ≡ holding_of parts.accounts account.0 asset
      → given ≡ credits parts.offers block.txs account.0 asset → taken ≡ debits block.txs account.0 asset
      → IsFirstOverdrawn block.header.version parts block.txs
      (record { account = account; asset = asset; opening = opening; credits = given; debits = taken })

module _ (parts : Parts) (block : Block) (form : IsBlock block) (all : PassAll parts block.txs) where
  abbrev v : ℕ
  v = block.header.version

  abbrev Covers : ℕ → ℕ → Type 0
  Covers account asset = debits block.txs account asset ≤ spendable v parts block.txs account asset

  each_asset : (account : ℕ) → Decided ((asset : ℕ) → asset < assets_of parts → Covers account asset)
  each_asset account =
      elim (first_failing (Covers account) (λ asset. le_or_not _ _) (assets_of parts)) [
        | inl found ↦ inr (λ each. found.is.fails (each found.at found.is.below))
        | inr each ↦ inl each
      ]

  covers_all : (account : ℕ) → ((asset : ℕ) → asset < assets_of parts → Covers account asset) → (asset : ℕ)
      → Covers account asset
  covers_all account each asset =
      elim (cases_lt asset (assets_of parts)) [
        | inl lt ↦ each asset lt
        | inr le ↦ omega (arith, no_debits parts block.txs all account asset le)
      ]

  overdraws : Overdraws parts block ⊎ Holds rule.Covered parts block
  overdraws =
      elim (first_failing (λ account. (asset : ℕ) → asset < assets_of parts → Covers account asset) each_asset
      (2 ^ 64)) [
        | inl found ↦ elim (first_failing (Covers found.at) (λ asset. le_or_not _ _) (assets_of parts)) [
          | inl other ↦ inl (record {
            account = record { 0 = found.at };
            asset = other.at;
            first = λ opening given taken is_opening is_given is_taken. record {
              opening = is_opening;
              given = is_given;
              taken = is_taken;
              over = above found.at other.at taken is_taken other.is.fails;
              accounts_before = λ account asset lt. covers_all account (found.is.earlier account lt) asset;
              assets_before = λ asset lt. other.is.earlier asset lt;
            };
          })
          | inr each ↦ absurd (found.is.fails each)
        ]
        | inr each ↦ inr (λ account asset. elim (cases_lt account (2 ^ 64)) [
          | inl lt ↦ covers_all account (each account lt) asset
          | inr le ↦ omega (arith, no_debits_at block.txs (recursion_from_All IsTx block.txs form.each) account asset le)
        ])
      ]
    where
      above : (account asset taken : ℕ) → taken ≡ debits block.txs account asset → (Covers account asset → ⊥)
          → spendable v parts block.txs account asset < taken
      above account asset taken is fails =
          elim (cases_lt (spendable v parts block.txs account asset) taken) [
            | inl lt ↦ lt
            | inr le ↦ absurd (fails (omega arith))
          ]

-- ---- what trades

within_or : (low high y : ℕ → ℕ → ℕ) (sell buy : ℕ) → Decided (IsWithin low high y sell buy)
within_or low high y sell buy =
    elim (le_or_not (low sell buy) (y sell buy)) [
      | inl least ↦ elim (le_or_not (y sell buy) (high sell buy)) [
        | inl most ↦ inl (record { at_least = least; at_most = most })
        | inr not ↦ inr (λ within. not within.at_most)
      ]
      | inr not ↦ inr (λ within. not within.at_least)
    ]

tight_or : (low high y : ℕ → ℕ → ℕ) (potential : ℕ → ℕ) (sell buy : ℕ) → Decided (IsTight low high y potential sell buy)
tight_or low high y potential sell buy =
    elim (cases_order (1 + potential sell) (potential buy)) [
      | inl none ↦ inl (record {
        gaining = λ gain. absurd (omega (arith, ints));
        losing = λ loss. absurd (omega (arith, ints));
      })
      | inr (inl less) ↦ elim (same_or_not (y sell buy) (low sell buy)) [
        | inl same ↦ inl (record { gaining = λ gain. absurd (omega (arith, ints)); losing = λ loss. same })
        | inr differ ↦ inr (λ tight. differ (tight.losing (omega (arith, ints))))
      ]
      | inr (inr more) ↦ elim (same_or_not (y sell buy) (high sell buy)) [
        | inl same ↦ inl (record { gaining = λ gain. same; losing = λ loss. absurd (omega (arith, ints)) })
        | inr differ ↦ inr (λ tight. differ (tight.gaining (omega (arith, ints))))
      ]
    ]

-- ---- one rule after the other

abbrev Judged : Parts → Block → Type 0
Judged parts block = IsValid parts block ⊎ IsRefused parts block

-- where the block names the ledger
module _ (parts : Parts) (block : Block) (is : IsLedger parts) (form : IsBlock block)
    (parent : Holds rule.Parent parts block) where
  abbrev n : ℕ
  n = assets_of parts

  refused : (why : Invalid) → RefusesButParent parts block why → Judged parts block
  refused why r = inr (record {
    why = why;
    refuses = record { before = with_parent parts block (rule_of why) parent r.before; breaks = r.breaks };
  })

  with_rounding : IsApplicable parts block → Judged parts block
  with_rounding applicable =
      let sound = applicable_is_sound parts block applicable parent in
      elim (same_list_or_not block.header.after (digest_of_ledger (ledger_after parts block))) [
        | inl same ↦ inl (sound_is_valid parts block sound same)
        | inr differ ↦ inr (record {
          why = WrongAfter block.header.after (digest_of_ledger (ledger_after parts block));
          refuses = record { before = sound.rules; breaks = (refl, refl, differ) };
        })
      ]

  rounds_or : (asset : ℕ) → Decided (Rounds parts block asset (slice_index block.header.rounding asset))
  rounds_or asset = same_or_not _ _

  with_cut : HoldsButParent rule.Rounded parts block → Judged parts block
  with_cut rules =
      elim (first_failing (λ asset. Rounds parts block asset (slice_index block.header.rounding asset)) rounds_or n) [
        | inl found ↦
            let asset = found.at in
            let said = slice_index block.header.rounding asset in
            let middle = body_keeps_ledger block.header.version parts block.txs is form.each
            (body_is_admissible parts block form (λ r lt. rules r (omega arith))) in
            let tradable = rules_trade parts block form (λ r lt. rules r (omega arith)) in
            let out = given block.header.prices (flow_of_block block) (offers_of parts block) asset in
            let into = got block.header.prices (flow_of_block block) (offers_of parts block) asset in
            let le : into ≤ out =
            rounding_never_negative (body_after parts block.txs) block.header.prices (flow_of_block block) asset middle
            tradable found.is.below in
            let real : Rounds parts block asset (out - into) = omega arith in
            inr (record {
              why = Rounding asset said (out - into);
              refuses = record {
                before = with_parent parts block rule.Rounded parent rules;
                breaks = record {
                  there = found.is.below;
                  is_said = refl;
                  is_real = real;
                  differ = λ e. found.is.fails (subst (Rounds parts block asset) (sym e) real);
                  earlier = found.is.earlier;
                };
              };
            })
        | inr all ↦ with_rounding (record {
          form = form;
          rules = one_more_but parts block rule.Rounded rule.After refl rules all;
        })
      ]

  with_fit : HoldsButParent rule.Cut parts block → Judged parts block
  with_fit rules = at_cut block.header.dropped refl
    where
      at_cut : (dropped : Option Cut) → block.header.dropped ≡ dropped → Judged parts block
      at_cut None none =
          with_cut (one_more_but parts block rule.Cut rule.Rounded refl rules
          (subst (CutHolds n (undropped_low_in parts block) (high_in parts block)) (sym none) tt))
      at_cut (Some cut) some =
          elim (cases_lt (sum_out n (high_in parts block) cut.0) (sum_in n (undropped_low_in parts block) cut.0)) [
            | inl lt ↦
                with_cut (one_more_but parts block rule.Cut rule.Rounded refl rules
                (subst (CutHolds n (undropped_low_in parts block) (high_in parts block)) (sym some) lt))
            | inr le ↦ inr (record {
              why = NoCut cut;
              refuses = record {
                before = with_parent parts block rule.Cut parent rules;
                breaks = (some, λ lt. omega arith);
              };
            })
          ]

  with_body : HoldsButParent rule.Within parts block → Judged parts block
  with_body rules =
      elim (first_pair n (IsWithin (low_in parts block) (high_in parts block) (flow_of_block block))
      (within_or (low_in parts block) (high_in parts block) (flow_of_block block))) [
        | inl found ↦ refused _ (misfit_refuses parts block
            (misfit.Outside found.sell found.buy (low_in parts block found.sell found.buy)
            (high_in parts block found.sell found.buy) (flow_of_block block found.sell found.buy)) rules
            (found.is, refl, refl, refl))
        | inr within ↦ elim (first_failing (IsBalanced n (flow_of_block block)) (λ asset. same_or_not _ _) n) [
          | inl found ↦ refused _ (misfit_refuses parts block
              (misfit.Unbalanced found.at (sold n (flow_of_block block) found.at)
              (bought n (flow_of_block block) found.at)) rules (within, found.is, refl, refl))
          | inr balanced ↦ elim (first_pair n
              (IsTight (low_in parts block) (high_in parts block) (flow_of_block block)
              (potential_of block.header.potentials))
              (tight_or (low_in parts block) (high_in parts block) (flow_of_block block)
              (potential_of block.header.potentials))) [
                | inl found ↦ refused _ (misfit_refuses parts block
                    (misfit.Slack found.sell found.buy (gain_of (potential_of block.header.potentials) found.sell found.buy)
                    (flow_of_block block found.sell found.buy)) rules
                    (record { within = within; balanced = balanced }, found.is, refl, refl))
                | inr tight ↦
                    with_fit (fit_holds parts block rules
                    (record { circulation = record { within = within; balanced = balanced }; tight = tight }))
              ]
        ]
      ]

  with_room : PassAll parts block.txs → HoldsButParent rule.Covered parts block → Judged parts block
  with_room all rules =
      elim (overdraws parts block form all) [
        | inl found ↦
            let account = found.account in
            let asset = found.asset in
            let opening = holding_of parts.accounts account.0 asset in
            let given = credits parts.offers block.txs account.0 asset in
            let taken = debits block.txs account.0 asset in
            let first = found.first opening given taken refl refl refl in
            elim (same_or_not block.header.version 1) [
              | inl one ↦ inr (record {
                why = Overdrawn account asset opening taken;
                refuses = record {
                  before = with_parent parts block rule.Covered parent rules;
                  breaks = (one, first);
                };
              })
              | inr other ↦
                  let two : block.header.version ≡ 2 =
                  omega (arith, form.header.some_version, form.header.few_versions, other) in
                  inr (record {
                    why = Overspent account asset opening given taken;
                    refuses = record {
                      before = with_parent parts block rule.Covered parent rules;
                      breaks = (two, first);
                    };
                  })
            ]
        | inr covered ↦ with_body (debits_hold parts block rules covered)
      ]

  with_creations : PassAll parts block.txs → HoldsButParent rule.Room parts block → Judged parts block
  with_creations all rules =
      elim (le_or_not (length parts.accounts + length (created block.txs)) most_accounts) [
        | inl accounts ↦ elim (le_or_not (length parts.offers + length (made block.txs)) most_offers) [
          | inl offers ↦
              with_room all (one_more_but parts block rule.Room rule.Covered refl rules (accounts, offers))
          | inr not ↦ refused _ (crowded parts block (length parts.offers) (length (made block.txs)) most_offers rules
              (inr (accounts, record { is_there = refl; is_coming = refl; is_most = refl; above = above _ _ not })))
        ]
        | inr not ↦ refused _ (crowded parts block (length parts.accounts) (length (created block.txs)) most_accounts
            rules (inl (record { is_there = refl; is_coming = refl; is_most = refl; above = above _ _ not })))
      ]
    where
      above : (sum most : ℕ) → (sum ≤ most → ⊥) → most < sum
      above sum most not = elim (cases_lt most sum) [ inl lt ↦ lt | inr le ↦ absurd (not le) ]

  with_each : PassAll parts block.txs → HoldsButParent rule.CancelsOnce parts block → Judged parts block
  with_each all rules =
      elim (first_repeat cancels same_key_or_not block.txs) [
        | inl found ↦ refused _ (two_cancels parts block found.place rules found.first)
        | inr once ↦
            let cancel = cancels_hold parts block rules (cancels_distinct block.txs once) in
            elim (first_repeat creates same_or_not block.txs) [
              | inl found ↦ refused _ (two_names parts block found.place cancel found.first)
              | inr once' ↦ with_creations all (creates_hold parts block cancel (creates_distinct block.txs once'))
            ]
      ]

  with_header : HoldsButParent rule.Passes parts block → Judged parts block
  with_header rules =
      elim (first_refused parts block.txs) [
        | inl found ↦ refused _ (tx_refused parts block found.index found.why rules found.first)
        | inr all ↦ with_each all (each_passes parts block rules
            (All-from_recursion (λ tx. static_of parts tx ≡ Ok tt) block.txs all))
      ]

  with_parent_named : HoldsButParent rule.Body parts block → Judged parts block
  with_parent_named rules =
      elim (same_list_or_not block.header.body (sha256 (list_bytes block.txs))) [
        | inl body ↦
            let commits = body_holds parts block rules body in
            elim (same_or_not (length block.header.prices) (assets_of parts)) [
              | inl same ↦ with_header (assets_hold parts block commits same)
              | inr differ ↦ refused _ (wrong_assets parts block (assets_of parts) (length block.header.prices)
                  commits refl refl differ)
            ]
        | inr differ ↦ refused _ (wrong_body parts block block.header.body (sha256 (list_bytes block.txs)) rules
            refl refl differ)
      ]

-- before the ledger that it names is looked at
module _ (parts : Parts) (block : Block) (is : IsLedger parts) (form : IsBlock block) where
  refused_early : (why : Invalid) → RefusesEarly parts block why → Judged parts block
  refused_early why early = inr (record { why = why; refuses = early.refuses })

  with_height : HoldsBefore rule.Parent parts block → Judged parts block
  with_height rules =
      elim (same_list_or_not block.header.parent (digest_of_ledger parts)) [
        | inl parent ↦ with_parent_named parts block is form parent (past_parent parts block rules)
        | inr differ ↦ refused_early _ (wrong_parent parts block block.header.parent (digest_of_ledger parts) rules
            refl refl differ)
      ]

  judged : Judged parts block
  judged =
      elim (cases_lt parts.height most_height) [
        | inl below ↦ elim (same_or_not block.header.height (parts.height + 1)) [
          | inl next ↦ with_height (height_holds parts block below next)
          | inr differ ↦ refused_early _ (wrong_height parts block parts.height block.header.height below refl refl
              differ)
        ]
        | inr last ↦ refused_early _ (ended parts block (omega (arith, is.height)))
      ]

pub every_block_is_judged : EveryBlockIsJudged
every_block_is_judged parts block is form = judged parts block is form
