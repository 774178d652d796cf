-- The output of each command but a seal and a demonstration is one.
use Rattle.std.proofs.Common.{◌≡◌, ℕ, Bool, true, false, List, [], ◌∷◌, ◌++◌, Contains, Option, Some, None, refl, sym}
use Rattle.std.proofs.Common.{ap, subst, ◌∙◌}
use Rattle.std.proofs.lemmas.List.Elements.{All-cons, All-nil}
use Rattle.std.proofs.lemmas.Slice.Eq.{bytes_eq-Decides}
use Rattle.std.specs.List.{All}
use Rattle.std.specs.Prelude.{IsTrue, ◌↔◌}
use Rattle.std.specs.Str.{bytes_eq}
use Rattle.sx_block.specs.declared.header.Block.{Block}
use Rattle.sx_block.specs.Block.{IsBlock}
use Rattle.sx_block.specs.Checked.{checked_of}
use Rattle.sx_block.specs.RefusalLaws.{OneReason, ValidIsNotRefused}
use Rattle.sx_commit.specs.Claim.{Claim}
use Rattle.sx_commit.specs.Commitments.{IsGood, folded, leaf_of, levels}
use Rattle.sx_filter.specs.Kept.{kept_of}
use Rattle.sx_block.specs.Chain.{ledger_after_all}
use Rattle.sx_block.specs.ChainLaws.{EveryListHasChain, OneChain}
use Rattle.sx_script.specs.Running.{outcomes_of_run}
use Rattle.sx_ledger.specs.declared.parts.Parts.{Parts}
use Rattle.sx_ledger.specs.Ledger.{migrated}
use Rattle.sx_meaning.specs.Findings.{Concludes, FindsAtEnd, MayComeAll, no_fault, shown_tags}
use Rattle.sx_meaning.specs.Items.{Item, block, candidates, item_record, outcomes, proof, script, state, state_record}
use Rattle.sx_meaning.specs.Items.{tag_of}
use Rattle.sx_meaning.specs.Laws.{WritesOne, WritesSome}
use Rattle.sx_meaning.specs.Outputs.{IsShown, Writes, shown_of, writes_one}
use Rattle.sx_meaning.specs.Proving.{IsFollowed, IsVerdict, proved}
use Rattle.sx_meaning.specs.Replays.{blocks_of}
use Rattle.sx_meaning.proofs.KnownTags.{not_shown}
use Rattle.sx_meaning.proofs.OneFinding.{one_reading}
use Rattle.sx_text.specs.declared.shown.Shown.{Shown}
use Rattle.sx_text.specs.declared.shown.Shown.TheVariants as shown
use Rattle.sx_text.specs.Shown.{shown_text}
use Rattle.sx_text.specs.Texts.{checked_text}
use Rattle.sx_text.specs.Verdict.{proof_text}
use Rattle.sx_words.specs.declared.command.Command.{Command}
use Rattle.sx_words.specs.declared.command.Command.TheVariants.{Check, Demo, Filter, Follow, Interleave, Migrate, Prove}
use Rattle.sx_words.specs.declared.command.Command.TheVariants.{Replay, Seal, Show, Verify}

-- ---- what is shown, proved and followed

-- a text shows what a record holds
one_shown : (held : Option Shown) (one other : List ℕ) → IsShown held one → IsShown held other → one ≡ other
one_shown None one other x y = absurd x
one_shown (Some held) one other x y = x ∙ sym y

some_shown : (item : Item) → Contains shown_tags (tag_of item) → (text : List ℕ) × IsShown (shown_of item) text
some_shown (state parts) listed = (shown_text (shown.State parts), refl)
some_shown (candidates txs) listed = (shown_text (shown.Candidates txs), refl)
some_shown (block said) listed = (shown_text (shown.Block said), refl)
some_shown (outcomes told) listed = (shown_text (shown.Outcomes told), refl)
some_shown (script turns) listed = (shown_text (shown.Script turns), refl)
some_shown (proof claim) listed = absurd (not_shown claim listed)

-- the truth of a fact is one
one_truth : (fact : Type 0) (good other : Bool) → IsTrue good ↔ fact → IsTrue other ↔ fact → good ≡ other
one_truth fact true true x y = refl
one_truth fact true false x y = absurd (let no = y.1 (x.0 refl) in cc)
one_truth fact false true x y = absurd (let no = x.1 (y.0 refl) in cc)
one_truth fact false false x y = refl

one_verdict : (claim : Claim) (one other : List ℕ) → IsVerdict claim one → IsVerdict claim other → one ≡ other
one_verdict claim one other x y =
    let same = one_truth (IsGood claim.0 claim.1) x.good y.good x.tells y.tells in
    x.written ∙ ap (λ (good : Bool). proof_text claim.0 claim.1 good) same ∙ sym y.written

some_verdict : (claim : Claim) → (text : List ℕ) × IsVerdict claim text
some_verdict claim =
    let reached = folded claim.1.place claim.1.siblings (leaf_of claim.1) levels in
    let good = bytes_eq reached claim.0 in
    let decides = bytes_eq-Decides reached claim.0 in (
      proof_text claim.0 claim.1 good,
      record { good = good; tells = decides; written = refl },
    )

module _ (one_chain : OneChain) where
  one_followed : (parts : Parts) (blocks : List Block) (one other : List ℕ) → IsFollowed parts blocks one
      → IsFollowed parts blocks other → one ≡ other
  one_followed parts blocks one other x y =
      let same = one_chain parts blocks x.chain y.chain x.is y.is in
      x.written ∙ ap (λ (chain : List Block). state_record (ledger_after_all parts chain)) same ∙ sym y.written

-- the blocks of items that have their form have theirs
blocks_form : (command : Command) (before items : List Item) → MayComeAll command before items
    → All IsBlock (blocks_of items)
blocks_form command before [] each = All-nil IsBlock
blocks_form command before (state held ∷ items) each =
    blocks_form command (before ++ state held ∷ []) items each.1
blocks_form command before (candidates txs ∷ items) each =
    blocks_form command (before ++ candidates txs ∷ []) items each.1
blocks_form command before (block said ∷ items) each =
    All-cons IsBlock said (blocks_of items) each.0.form
    (blocks_form command (before ++ block said ∷ []) items each.1)
blocks_form command before (outcomes told ∷ items) each =
    blocks_form command (before ++ outcomes told ∷ []) items each.1
blocks_form command before (script turns ∷ items) each =
    blocks_form command (before ++ script turns ∷ []) items each.1
blocks_form command before (proof claim ∷ items) each =
    blocks_form command (before ++ proof claim ∷ []) items each.1

-- ---- of the same items

module _ (one_chain : OneChain) where
  one_text : (command : Command) (items : List Item) (one other : List ℕ) → IsTrue (writes_one command)
      → Concludes command items no_fault → Writes command items one → Writes command items other → one ≡ other
  one_text Check items one other is c x y =
      subst (λ (l : List Item). Writes Check l one) c.are x
      ∙ sym (subst (λ (l : List Item). Writes Check l other) c.are y)
  one_text (Replay workers) items one other is c x y =
      subst (λ (l : List Item). Writes (Replay workers) l one) c.are x
      ∙ sym (subst (λ (l : List Item). Writes (Replay workers) l other) c.are y)
  one_text Interleave items one other is c x y =
      subst (λ (l : List Item). Writes Interleave l one) c.are x
      ∙ sym (subst (λ (l : List Item). Writes Interleave l other) c.are y)
  one_text Migrate items one other is c x y =
      subst (λ (l : List Item). Writes Migrate l one) c.are x
      ∙ sym (subst (λ (l : List Item). Writes Migrate l other) c.are y)
  one_text (Seal workers shards mu rounds searches) items one other is c x y = absurd cc
  one_text Show items one other is c x y =
      one_shown (shown_of c.item) one other (subst (λ (l : List Item). Writes Show l one) c.are x)
      (subst (λ (l : List Item). Writes Show l other) c.are y)
  one_text (Filter workers) items one other is c x y =
      subst (λ (l : List Item). Writes (Filter workers) l one) c.are x
      ∙ sym (subst (λ (l : List Item). Writes (Filter workers) l other) c.are y)
  one_text (Prove id) items one other is c x y =
      subst (λ (l : List Item). Writes (Prove id) l one) c.are x
      ∙ sym (subst (λ (l : List Item). Writes (Prove id) l other) c.are y)
  one_text Verify items one other is c x y =
      one_verdict c.claim one other (subst (λ (l : List Item). Writes Verify l one) c.are x)
      (subst (λ (l : List Item). Writes Verify l other) c.are y)
  one_text Follow items one other is c x y =
      one_followed one_chain c.parts (blocks_of c.others) one other
      (subst (λ (l : List Item). Writes Follow l one) c.are x)
      (subst (λ (l : List Item). Writes Follow l other) c.are y)
  one_text (Demo seed workers) items one other is c x y = absurd cc

module _ (some_chain : EveryListHasChain) where
  some_followed : (parts : Parts) (others : List Item) → MayComeAll Follow [] (state parts ∷ others)
      → (text : List ℕ) × IsFollowed parts (blocks_of others) text
  some_followed parts others each =
      let found = some_chain parts (blocks_of others) each.0.form
      (blocks_form Follow (state parts ∷ []) others each.1) in (
        state_record (ledger_after_all parts found.chain),
        record { chain = found.chain; is = found.is; written = refl },
      )

  some_text : (command : Command) (items : List Item) → IsTrue (writes_one command) → MayComeAll command [] items
      → Concludes command items no_fault → (text : List ℕ) × Writes command items text
  some_text Check items is each c =
      let text = checked_text (checked_of c.said) in
      (text, subst (λ (l : List Item). Writes Check l text) (sym c.are) refl)
  some_text (Replay workers) items is each c =
      let text = state_record (ledger_after_all c.parts (blocks_of c.others)) in
      (text, subst (λ (l : List Item). Writes (Replay workers) l text) (sym c.are) refl)
  some_text Interleave items is each c =
      let text = item_record (outcomes (outcomes_of_run c.parts c.txs c.turns.actors c.turns.turns)) in
      (text, subst (λ (l : List Item). Writes Interleave l text) (sym c.are) refl)
  some_text Migrate items is each c =
      let text = state_record (migrated c.parts) in
      (text, subst (λ (l : List Item). Writes Migrate l text) (sym c.are) refl)
  some_text (Seal workers shards mu rounds searches) items is each c = absurd cc
  some_text Show items is each c =
      let one = subst (λ (l : List Item). MayComeAll Show [] l) c.are each in
      let told = some_shown c.item one.0.listed.0 in
      (told.0, subst (λ (l : List Item). Writes Show l told.0) (sym c.are) told.1)
  some_text (Filter workers) items is each c =
      let text = item_record (candidates (kept_of c.parts c.txs)) in
      (text, subst (λ (l : List Item). Writes (Filter workers) l text) (sym c.are) refl)
  some_text (Prove id) items is each c =
      let text = proved c.parts id in
      (text, subst (λ (l : List Item). Writes (Prove id) l text) (sym c.are) refl)
  some_text Verify items is each c =
      let told = some_verdict c.claim in
      (told.0, subst (λ (l : List Item). Writes Verify l told.0) (sym c.are) told.1)
  some_text Follow items is each c =
      let told = some_followed c.parts c.others (subst (λ (l : List Item). MayComeAll Follow [] l) c.are each) in
      (told.0, subst (λ (l : List Item). Writes Follow l told.0) (sym c.are) told.1)
  some_text (Demo seed workers) items is each c = absurd cc

-- ---- of an input

module _ (one_reason : OneReason) (not_refused : ValidIsNotRefused) (one_chain : OneChain) where
  pub writes_one_text : WritesOne
  writes_one_text command bytes one other left right is x y =
      let same = one_reading one_reason not_refused command bytes left right x.found y.found in
      let end : FindsAtEnd command y.found.items y.found.rest no_fault right = y.found.finds in
      one_text one_chain command y.found.items one other is end.concludes
      (subst (λ (l : List Item). Writes command l one) same x.writes) y.writes

pub writes_some_text : EveryListHasChain → WritesSome
writes_some_text some_chain command bytes left is found =
    let end : FindsAtEnd command found.items found.rest no_fault left = found.finds in
    let text = some_text some_chain command found.items is found.each end.concludes in
    (text.0, record { found = found; writes = text.1 })
