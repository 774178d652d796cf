-- What a seal writes is accepted by a check and by a replay, and the block of a demonstration settles.
use Rattle.std.proofs.Common.{◌≡◌, ℕ, List, [], ◌∷◌, ◌++◌, refl, sym, ap, subst, ◌∙◌, arith}
use Rattle.std.proofs.lemmas.List.{append-nil}
use Rattle.sx_block.specs.declared.header.Block.{Block}
use Rattle.sx_block.specs.Validity.{IsValid, ledger_after}
use Rattle.sx_block.specs.Checked.{checked_of}
use Rattle.sx_gen.specs.State.{demo_parts}
use Rattle.sx_gen.proofs.Market.{is_ledger}
use Rattle.sx_outcome.specs.declared.outcome.Outcome.{Outcome}
use Rattle.sx_outcome.specs.Outcomes.{AreOutcomes}
use Rattle.sx_ledger.specs.declared.parts.Parts.{Parts}
use Rattle.sx_ledger.specs.Ledger.{IsLedger}
use Rattle.sx_meaning.specs.Findings.{FindsAtEnd, MayComeAll, no_fault}
use Rattle.sx_meaning.specs.Items.{Item, block, item_record, outcomes, records, state, state_record}
use Rattle.sx_meaning.specs.Outputs.{MayWrite, Writes}
use Rattle.sx_meaning.specs.SealLaws.{DemosSettle, SealsLeaveTheirMeaning}
use Rattle.sx_meaning.specs.Sealing.{IsDemonstrated, IsSealed}
use Rattle.sx_meaning.specs.Settling.{ValidSettles}
use Rattle.sx_meaning.proofs.Ends.{reads_to_end}
use Rattle.sx_meaning.proofs.Gathered.{gathered_form}
use Rattle.sx_meaning.proofs.ItemLists.{needed_listed}
use Rattle.sx_record.specs.Tags.{block_tag, state_tag}
use Rattle.sx_text.specs.Texts.{checked_text}
use Rattle.sx_words.specs.declared.command.Command.TheVariants.{Check, Demo, Replay, Seal}

module _ (parts : Parts) (said : Block) (is : IsLedger parts) (valid : IsValid parts said) where
  checks : MayWrite Check (records (state parts ∷ block said ∷ [])) (checked_text (checked_of said)) []
  checks = record {
    found = record {
      items = state parts ∷ block said ∷ [];
      rest = [];
      each = (
        record { listed = needed_listed state_tag; form = is; goes_on = tt },
        (record { listed = needed_listed block_tag; form = valid.form; goes_on = tt }, tt),
      );
      read = sym (append-nil (records (state parts ∷ block said ∷ [])));
      finds = record {
        done = (refl, refl);
        may = refl;
        concludes = record { parts = parts; said = said; are = refl; finds = valid };
      };
    };
    writes = refl;
  }

  -- the state, the block and outcomes are what a replay reads
  whole_input : (told : List Outcome) (text : List ℕ) → text ≡ item_record (block said) ++ item_record (outcomes told)
      → state_record parts ++ text ≡ records (state parts ∷ block said ∷ outcomes told ∷ []) ++ []
  whole_input told text is_text =
      ap (λ (t : List ℕ). state_record parts ++ t)
      (is_text ∙ ap (λ (t : List ℕ). item_record (block said) ++ t) (sym (append-nil (item_record (outcomes told)))))
      ∙ sym (append-nil (records (state parts ∷ block said ∷ outcomes told ∷ [])))

  replays : (told : List Outcome) (text : List ℕ) → AreOutcomes told
      → text ≡ item_record (block said) ++ item_record (outcomes told) → (workers : ℕ)
      → MayWrite (Replay workers) (state_record parts ++ text) (state_record (ledger_after parts said)) []
  replays told text are is_text workers = record {
    found = record {
      items = state parts ∷ block said ∷ outcomes told ∷ [];
      rest = [];
      each = (
        record { listed = needed_listed state_tag; form = is; goes_on = tt },
        (
          record { listed = ((0, omega arith, refl), refl); form = valid.form; goes_on = valid },
          (record { listed = ((1, omega arith, refl), refl); form = are; goes_on = tt }, tt),
        ),
      );
      read = whole_input told text is_text;
      finds = record {
        done = (refl, refl);
        may = refl;
        concludes = record { parts = parts; others = block said ∷ outcomes told ∷ []; are = refl; finds = refl };
      };
    };
    writes = refl;
  }

pub seals_leave_their_meaning : ValidSettles → SealsLeaveTheirMeaning
seals_leave_their_meaning settles workers shards mu rounds searches bytes text left x =
    let found = x.found in
    let end : FindsAtEnd (Seal workers shards mu rounds searches) found.items found.rest no_fault left = found.finds in
    let c = end.concludes in
    let each = subst (λ (l : List Item). MayComeAll (Seal workers shards mu rounds searches) [] l) c.are found.each in
    let wrote : IsSealed c.parts c.txs mu rounds searches text =
    subst (λ (l : List Item). Writes (Seal workers shards mu rounds searches) l text) c.are x.writes in
    let told = gathered_form c.parts c.txs wrote.told wrote.said.txs each.1.0.form wrote.made.gathered in
    record {
      parts = c.parts;
      txs = c.txs;
      read = found.read ∙ ap (λ (r : List ℕ). records found.items ++ r)
          (reads_to_end (Seal workers shards mu rounds searches) found.items found.rest left refl end.done).0
          ∙ append-nil (records found.items) ∙ ap (λ (l : List Item). records l) c.are;
      said = wrote.said;
      told = wrote.told;
      encoded = wrote.encoded;
      one_each = wrote.made.gathered.one_each;
      accepted_are = wrote.made.gathered.accepted_are;
      version = wrote.made.cleared.version;
      margin = wrote.made.cleared.margin;
      prices = wrote.made.cleared.prices;
      checks = checks c.parts wrote.said each.0.form wrote.made.cleared.valid;
      replays = replays c.parts wrote.said each.0.form wrote.made.cleared.valid wrote.told text told wrote.encoded;
      settles = settles c.parts wrote.said each.0.form wrote.made.cleared.valid;
    }

pub demos_settle : ValidSettles → DemosSettle
demos_settle settles number workers bytes text left x =
    let end : FindsAtEnd (Demo number workers) x.found.items x.found.rest no_fault left = x.found.finds in
    let wrote : IsDemonstrated number text =
    subst (λ (l : List Item). Writes (Demo number workers) l text) end.concludes.are x.writes in
    (wrote, settles demo_parts wrote.said is_ledger wrote.made.cleared.valid)
