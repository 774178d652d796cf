-- What a replay knows of the input, record after record.
use Rattle.std.proofs.Common.{◌≡◌, ℕ, ◌+◌, ◌≤◌, Bool, true, false, List, [], ◌∷◌, ◌++◌, length, Option, Some, None}
use Rattle.std.proofs.Common.{Ok, Err, inr, refl, sym, ap, subst, ◌∙◌, arith}
use Rattle.std.proofs.lemmas.List.{append-nil, length-append}
use Rattle.std.specs.Prelude.{nat_le}
use Rattle.sx_bytes.specs.declared.fault.FormFault.{FormFault}
use Rattle.sx_block.specs.declared.invalid.Invalid.{Invalid}
use Rattle.sx_block.specs.Refusals.{Refuses}
use Rattle.sx_input.specs.declared.head.Head.{Head}
use Rattle.sx_input.specs.declared.stop.Stop.{Stop}
use Rattle.sx_input.specs.declared.stop.Stop.TheVariants as stop
use Rattle.sx_input.specs.Found.{Found}
use Rattle.sx_input.specs.Head.{IsHead}
use Rattle.sx_input.specs.Stream.{FaultsAt, Reads, Stops, TakesRecord, WasAtEnd}
use Rattle.sx_input.proofs.Faults.{bad_record, no_record}
use Rattle.sx_input.proofs.Readings.{HasRead, concludes, nothing_read, stops as stops_here, took_then}
use Rattle.sx_ledger.specs.declared.parts.Parts.{Parts}
use Rattle.sx_ledger.specs.Ledger.{IsLedger}
use Rattle.sx_meaning.specs.Answers.{FindsIn}
use Rattle.sx_meaning.specs.Expected.{Expected, IsExpected, item_at, needed, record_of}
use Rattle.sx_meaning.specs.Findings.{Finds, FindsAtBlock, IsValidOn, MayCome, MayComeAll, refused}
use Rattle.sx_meaning.specs.Items.{Item, block, item_record, records, state, state_record, tag_of}
use Rattle.sx_meaning.specs.NextItem.{blocks_then, ledger_then}
use Rattle.sx_meaning.specs.Replays.{ends_with_block, expected_in_replay, most_blocks}
use Rattle.sx_meaning.specs.Replays.{tags_after}
use Rattle.sx_meaning.proofs.Blocks.{after_along, blocks_along, ledger_along}
use Rattle.sx_meaning.proofs.ItemLaws.{length-record}
use Rattle.sx_meaning.proofs.ItemLists.{come_then, records_then}
use Rattle.sx_record.specs.declared.frame.Record.{Record}
use Rattle.sx_record.specs.Decoding.{record_at}
use Rattle.sx_record.specs.Frame.{frame_bytes, most_bytes}
use Rattle.sx_record.specs.Stream.{Took}
use Rattle.sx_record.specs.Tags.{state_tag}
use Rattle.sx_run.specs.declared.commands.replaying.Place.{Place}
use Rattle.sx_run.specs.Replaying.{HasReplayed, IsNext, RefusesNext, Steps, StepsTo, expected_at, is_full}
use Rattle.sx_words.specs.declared.command.Command.TheVariants.{Replay}

-- ---- the beginning

pub begins : (input left : Option (List ℕ)) (head : Head) (at : ℕ) → IsLedger head.ledger → IsHead head
    → Took input left (state_record head.ledger) → at ≡ length (state_record head.ledger)
    → at ≤ frame_bytes + most_bytes
    → HasReplayed input left (record { head = head; at = at; blocks = 0; after_block = false })
begins input left head at ledger is_head took long near =
    let whole : records (state head.ledger ∷ []) ≡ state_record head.ledger = append-nil (state_record head.ledger) in
    record {
      parts = head.ledger;
      others = [];
      each = λ workers. (record { listed = ((0, omega arith, refl), refl); form = ledger; goes_on = tt }, tt);
      took = subst (λ t. Took input left t) (sym whole) took;
      ledger = refl;
      blocks = refl;
      after = refl;
      offset = long ∙ ap length (sym whole);
      may_go_on = record { head = is_head; few = omega arith; near = omega arith };
    }

-- there was no state
pub never_began : (a b : Option (List ℕ)) (s : Stop) → Stops (item_at (needed state_tag) 0) a b s
    → (workers : ℕ) → Found (Replay workers) a b (Err s)
never_began a b s why workers =
    stops_here (Replay workers) [] 0 a a b s (nothing_read (Replay workers) a) why

-- ---- where a replay stands

module _ (input left : Option (List ℕ)) (place : Place) (so_far : HasReplayed input left place) where
  abbrev so_far_items : List Item
  so_far_items = state so_far.parts ∷ so_far.others

  has_read : (workers : ℕ) → HasRead (Replay workers) input left so_far_items place.at
  has_read workers = record { each = so_far.each workers; took = so_far.took; offset = so_far.offset }

  -- what the place says of what may come next is so
  same_expected : expected_at place ≡ expected_in_replay so_far_items
  same_expected =
      ap (λ (b : Bool). record_of (tags_after b) true (nat_le most_blocks place.blocks)) so_far.after
      ∙ ap (λ (n : ℕ). record_of (tags_after (ends_with_block so_far.others)) true (nat_le most_blocks n)) so_far.blocks

-- ---- a record more

pub goes_on : (input left after : Option (List ℕ)) (place next : Place) (found : Record) → HasReplayed input left place
    → TakesRecord left after (Some found) → IsNext place found → StepsTo place found next → HasReplayed input after next
goes_on input left after place next found so_far took is_next steps =
    let items = so_far_items input left place so_far in
    let item = steps.item in
    let expects = same_expected input left place so_far in
    let may : (workers : ℕ) → MayCome (Replay workers) items item = λ workers. record {
      listed = subst (λ (e : Expected). IsExpected e (tag_of item)) expects steps.listed;
      form = steps.form;
      goes_on = subst (λ (l : Parts). IsValidOn l item) so_far.ledger steps.valid;
    } in
    let long = ap length (records_then items item) in
    record {
      parts = so_far.parts;
      others = so_far.others ++ item ∷ [];
      each = λ workers. come_then (Replay workers) [] items item (so_far.each workers) (may workers);
      took = took_then input left after (records items) (item_record item) _ so_far.took
          (subst (λ (t : List ℕ). Took left after t) steps.encoded took) (records_then items item);
      ledger = steps.ledger ∙ ap (λ (l : Parts). ledger_then l item) so_far.ledger
          ∙ sym (ledger_along so_far.parts so_far.others item);
      blocks = steps.blocks ∙ ap (λ (n : ℕ). blocks_then n item) so_far.blocks ∙ sym (blocks_along so_far.others item);
      after = steps.after ∙ sym (after_along so_far.others item);
      offset = omega (
        arith,
        long,
        steps.at_end,
        is_next.place,
        so_far.offset,
        length-record found.tag found.payload,
        ap length steps.encoded,
        length-append (records items) (item_record item),
      );
      may_go_on = steps.may_go_on;
    }

-- ---- the end

pub finishes : (input left after : Option (List ℕ)) (place : Place) (text : List ℕ) → HasReplayed input left place
    → WasAtEnd left after → text ≡ state_record place.head.ledger
    → (workers : ℕ) → Found (Replay workers) input after (Ok text)
finishes input left after place text so_far ended is_record workers =
    concludes (Replay workers) (so_far_items input left place so_far) place.at input left after (Ok text)
    (has_read input left place so_far workers) ended refl (
      record { parts = so_far.parts; others = so_far.others; are = refl; finds = refl },
      is_record ∙ ap (λ (l : Parts). state_record l) so_far.ledger,
    )

-- ---- no record

pub stops : (input left after : Option (List ℕ)) (place : Place) (s : Stop) → HasReplayed input left place
    → Stops (record_at (tags_after place.after_block) place.at) left after s
    → (workers : ℕ) → Found (Replay workers) input after (Err s)
stops input left after place s so_far why workers =
    stops_here (Replay workers) (so_far_items input left place so_far) place.at input left after s
    (has_read input left place so_far workers)
    (subst (λ (e : Expected). Stops (item_at e place.at) left after s) (same_expected input left place so_far)
    (no_record (tags_after place.after_block) true (is_full place) place.at left after s why))

-- ---- a record that is no item, or a refused block

pub fails_in_form : (input left after : Option (List ℕ)) (place : Place) (found : Record) (fault : FormFault)
    → HasReplayed input left place → Reads (record_at (tags_after place.after_block) place.at) left after (Some found)
    → Steps place found (Err (stop.Malformed fault))
    → (workers : ℕ) → Found (Replay workers) input after (Err (stop.Malformed fault))
fails_in_form input left after place found fault so_far reads steps workers =
    stops_here (Replay workers) (so_far_items input left place so_far) place.at input left after (stop.Malformed fault)
    (has_read input left place so_far workers)
    (subst (λ (e : Expected). FaultsAt (item_at e place.at) left after fault) (same_expected input left place so_far)
    (bad_record (tags_after place.after_block) true (is_full place) place.at left after found fault reads steps))

module _ (workers : ℕ) (items : List Item) (at number : ℕ) (why : Invalid) where
  refused_in : (bytes rest left : List ℕ) → MayComeAll (Replay workers) [] items → bytes ≡ records items ++ rest
      → FindsAtBlock (Replay workers) items rest number why left
      → Finds (Replay workers) bytes (refused number why) left
  refused_in bytes rest left each read found =
      record { items = items; rest = rest; each = each; read = read; finds = inr found }

  refused_here : (a b c : Option (List ℕ)) (piece : List ℕ) → HasRead (Replay workers) a b items at → Took b c piece
      → ((rest left : List ℕ) → rest ≡ piece ++ left → FindsAtBlock (Replay workers) items rest number why left)
      → FindsIn (Replay workers) a c (refused number why)
  refused_here None b c piece so_far took found = (
    records items ++ (piece ++ []),
    [],
    refused_in (records items ++ (piece ++ [])) (piece ++ []) [] so_far.each refl
        (found (piece ++ []) [] refl),
  )
  refused_here (Some bytes) None c piece so_far took found =
      absurd (let n : Some so_far.took.0 ≡ None = sym so_far.took.2 in cc)
  refused_here (Some bytes) (Some rest) c piece so_far took found =
      let same : rest ≡ so_far.took.0 = cc in (
        took.0,
        refused_in bytes rest took.0 so_far.each
            (so_far.took.1 ∙ ap (λ (r : List ℕ). records items ++ r) (sym same)) (found rest took.0 took.1),
        took.2,
      )

pub refuses : (input left after : Option (List ℕ)) (place : Place) (found : Record) (number : ℕ) (why : Invalid)
    → HasReplayed input left place → TakesRecord left after (Some found) → RefusesNext place found number why
    → (workers : ℕ) → Found (Replay workers) input after (Err (stop.Refused number why))
refuses input left after place found number why so_far took refusal workers =
    let items = so_far_items input left place so_far in
    refused_here workers items place.at number why input left after (item_record (block refusal.said))
    (has_read input left place so_far workers) (subst (λ (t : List ℕ). Took left after t) refusal.encoded took)
    (λ rest more read. record {
      said = refusal.said;
      form = refusal.form;
      read = read;
      stops = record {
        parts = so_far.parts;
        others = so_far.others;
        are = refl;
        is_number = refusal.is_number ∙ so_far.blocks;
        few = omega (arith, refusal.is_number, refusal.few);
        refuses = subst (λ (l : Parts). Refuses l refusal.said why) so_far.ledger refusal.refuses;
      };
    })

pub fails : (input left after : Option (List ℕ)) (place : Place) (found : Record) (s : Stop)
    → HasReplayed input left place
    → Reads (record_at (tags_after place.after_block) place.at) left after (Some found)
    → TakesRecord left after (Some found) → Steps place found (Err s)
    → (workers : ℕ) → Found (Replay workers) input after (Err s)
fails input left after place found stop.NoMemory so_far reads took steps workers = tt
fails input left after place found stop.ReadFault so_far reads took steps workers = tt
fails input left after place found (stop.Refused number why) so_far reads took steps workers =
    refuses input left after place found number why so_far took steps workers
fails input left after place found (stop.Malformed fault) so_far reads took steps workers =
    fails_in_form input left after place found fault so_far reads steps workers
