-- What a reading for a follower knows of the input, record after record.
use Rattle.std.proofs.Common.{◌≡◌, ℕ, zero, suc, ◌+◌, ◌-◌, ◌*◌, ◌<◌, ◌≤◌, Bool, true, false, cond, List, [], ◌∷◌, ◌++◌}
use Rattle.std.proofs.Common.{length, Contains, Option, Some, Ok, Err, inl, inr, refl, sym, ap, subst, ◌∙◌, arith}
use Rattle.std.proofs.lemmas.List.{append-nil, length-append}
use Rattle.std.proofs.lemmas.List.Elements.{filter_map-append}
use Rattle.std.specs.Prelude.{nat_le, ◌&&◌, ◌==◌, ◌⊎◌}
use Rattle.sx_block.specs.declared.header.Block.{Block}
use Rattle.sx_block.specs.Block.{IsBlock}
use Rattle.sx_bytes.specs.declared.fault.Form.TheVariants as form
use Rattle.sx_run.specs.declared.commands.following.Taking.{Taking}
use Rattle.sx_run.specs.Following.{HasTaken, IsNext, MayGoOn, Steps, StepsTo, expected_at, is_full}
use Rattle.sx_run.proofs.Steps.{after_block, block_listed, block_tests, full_tests, near_block, near_outcomes}
use Rattle.sx_run.proofs.Steps.{never_full, not_full, outcomes_listed, outcomes_tests}
use Rattle.sx_follow.specs.Follower.{Followed, begun}
use Rattle.sx_input.specs.declared.stop.Stop.{Stop}
use Rattle.sx_input.specs.declared.stop.Stop.TheVariants as stop
use Rattle.sx_input.specs.Found.{Found}
use Rattle.sx_input.specs.Stream.{FailsAs, FaultsAt, Reads, Stops, TakesRecord, WasAtEnd}
use Rattle.sx_input.proofs.Faults.{bad_payload, bad_record, no_record, one_too_many}
use Rattle.sx_input.proofs.Readings.{HasRead, concludes, nothing_read, stops as stops_here, took_then}
use Rattle.sx_outcome.specs.declared.outcome.Outcome.{Outcome}
use Rattle.sx_outcome.specs.Outcomes.{AreOutcomes}
use Rattle.sx_ledger.specs.declared.parts.Parts.{Parts}
use Rattle.sx_ledger.specs.Ledger.{IsLedger}
use Rattle.sx_meaning.specs.Expected.{Expected, IsExpected, item_at, needed, record_of, shifted}
use Rattle.sx_meaning.specs.Findings.{MayCome}
use Rattle.sx_meaning.specs.Items.{Item, block, candidates, item_record, outcomes, payload_at, payload_of, proof}
use Rattle.sx_meaning.specs.Items.{records, script, state, state_record, tag_of}
use Rattle.sx_meaning.specs.Proving.{IsFollowed}
use Rattle.sx_meaning.specs.Replays.{block_of, blocks_of, ends_with_block, expected_in_replay, is_block, most_blocks}
use Rattle.sx_meaning.specs.Replays.{tags_after}
use Rattle.sx_meaning.proofs.Blocks.{after_along}
use Rattle.sx_meaning.proofs.ItemLaws.{length-record}
use Rattle.sx_meaning.proofs.ItemLists.{come_then, records_then}
use Rattle.sx_record.specs.declared.frame.Record.{Record}
use Rattle.sx_record.specs.Decoding.{record_at}
use Rattle.sx_record.specs.Frame.{frame_bytes, most_bytes, record_bytes}
use Rattle.sx_record.specs.Stream.{Took}
use Rattle.sx_record.specs.Tags.{block_tag, outcomes_tag, state_tag}
use Rattle.sx_words.specs.declared.command.Command.TheVariants.{Follow}

-- ---- one record

module _ (place : Taking) (found : Record) (goes : MayGoOn place) (next : IsNext place found) where
  encoded : (tag : ℕ) (payload : List ℕ) → found.tag ≡ tag → found.payload ≡ payload
      → record_bytes found.tag found.payload ≡ record_bytes tag payload
  encoded tag payload tagged holds =
      ap (λ (t : ℕ). record_bytes t found.payload) tagged ∙ ap (λ (p : List ℕ). record_bytes tag p) holds

  pub block_steps : (follower : Followed) (at : ℕ) (said : Block) → found.tag ≡ block_tag
      → length place.follower.blocks < most_blocks → found.payload ≡ payload_of (block said) → IsBlock said
      → follower ≡ record place.follower { blocks = place.follower.blocks ++ said ∷ [] }
      → at ≡ found.at + length found.payload
      → StepsTo place found (record { follower = follower; at = at; after_block = true })
  block_steps follower at said tagged few payload form taken end =
      let long : length follower.blocks ≡ length place.follower.blocks + 1 =
      ap (λ (f : Followed). length f.blocks) taken ∙ length-append place.follower.blocks (said ∷ []) in
      record {
        item = block said;
        listed = (block_listed place.after_block, not_full (length place.follower.blocks) few);
        form = form;
        encoded = encoded block_tag (payload_of (block said)) tagged payload;
        follower = taken;
        after = refl;
        at_end = end;
        may_go_on = record {
          few = omega (arith, long, few);
          near = omega (
            arith,
            end,
            long,
            next.place,
            near_block (length place.follower.blocks) place.at place.after_block (length found.payload) goes.near
                next.fits,
          );
        };
      }

  pub outcomes_step : (at : ℕ) (told : List Outcome) → found.tag ≡ outcomes_tag
      → found.payload ≡ payload_of (outcomes told) → AreOutcomes told → at ≡ found.at + length found.payload
      → StepsTo place found (record { follower = place.follower; at = at; after_block = false })
  outcomes_step at told tagged payload are end =
      let after : place.after_block ≡ true = after_block place.after_block found.tag next.listed tagged in
      record {
        item = outcomes told;
        listed = (outcomes_listed place.after_block after, never_full (is_full place));
        form = are;
        encoded = encoded outcomes_tag (payload_of (outcomes told)) tagged payload;
        follower = ap (λ (blocks : List Block). record place.follower { blocks = blocks })
            (sym (append-nil place.follower.blocks));
        after = refl;
        at_end = end;
        may_go_on = record {
          few = goes.few;
          near = omega (
            arith,
            end,
            next.place,
            near_outcomes (length place.follower.blocks) place.at (length found.payload) (rw after at goes.near)
                next.fits,
          );
        };
      }

-- ---- no item

module _ (place : Taking) (found : Record) where
  pub one_block_more : found.tag ≡ block_tag → most_blocks ≤ length place.follower.blocks
      → Steps place found (Err (stop.Malformed (record { at = place.at; fault = form.TooMany })))
  one_block_more tagged many = λ left.
      one_too_many (is_full place) place.at found left
      (full_tests (length place.follower.blocks) found.tag tagged many)

  bad_step : (tag : ℕ) (s : Stop) → found.tag ≡ tag → (is_full place && (found.tag == block_tag)) ≡ false
      → FailsAs (shifted found.at (payload_at tag found.payload)) s → Steps place found (Err s)
  bad_step tag (stop.Malformed fault) tagged test fails = λ left.
      bad_payload (is_full place) place.at found left fault test
      (ap (λ (t : ℕ). shifted found.at (payload_at t found.payload)) tagged ∙ fails)
  bad_step tag (stop.Refused number why) tagged test fails = absurd fails
  bad_step tag stop.ReadFault tagged test fails = fails
  bad_step tag stop.NoMemory tagged test fails = tt

  pub bad_block : (s : Stop) → found.tag ≡ block_tag → length place.follower.blocks < most_blocks
      → FailsAs (shifted found.at (payload_at block_tag found.payload)) s → Steps place found (Err s)
  bad_block s tagged few fails =
      bad_step block_tag s tagged (block_tests (length place.follower.blocks) found.tag tagged few) fails

  pub bad_outcomes : (s : Stop) → found.tag ≡ outcomes_tag
      → FailsAs (shifted found.at (payload_at outcomes_tag found.payload)) s → Steps place found (Err s)
  bad_outcomes s tagged fails =
      bad_step outcomes_tag s tagged (outcomes_tests (is_full place) found.tag tagged) fails

-- ---- the beginning

pub begins : (input left : Option (List ℕ)) (parts : Parts) (follower : Followed) (at : ℕ) → IsLedger parts
    → follower ≡ begun parts → Took input left (state_record parts) → at ≡ length (state_record parts)
    → at ≤ frame_bytes + most_bytes
    → HasTaken input left (record { follower = follower; at = at; after_block = false })
begins input left parts follower at ledger starts took long near =
    let whole : records (state parts ∷ []) ≡ state_record parts = append-nil (state_record parts) in
    let none : length follower.blocks ≡ 0 = ap (λ (f : Followed). length f.blocks) starts in
    record {
      parts = parts;
      others = [];
      each = (record { listed = ((0, omega arith, refl), refl); form = ledger; goes_on = tt }, tt);
      took = subst (λ t. Took input left t) (sym whole) took;
      follower = starts;
      after = refl;
      offset = long ∙ ap length (sym whole);
      may_go_on = record { few = omega (arith, none); near = omega (arith, none, near) };
    }

-- there was no state
pub never_began : (a b : Option (List ℕ)) (s : Stop) → Stops (item_at (needed state_tag) 0) a b s
    → Found Follow a b (Err s)
never_began a b s why = stops_here Follow [] 0 a a b s (nothing_read Follow a) why

-- ---- where reading stands

-- the blocks of items and one more
pub taken_along : (items : List Item) (item : Item)
    → blocks_of (items ++ item ∷ []) ≡ blocks_of items ++ blocks_of (item ∷ [])
taken_along items item = filter_map-append block_of items (item ∷ [])

module _ (input left : Option (List ℕ)) (place : Taking) (so_far : HasTaken input left place) where
  abbrev so_far_items : List Item
  so_far_items = state so_far.parts ∷ so_far.others

  has_read : HasRead Follow input left so_far_items place.at
  has_read = record { each = so_far.each; took = so_far.took; offset = so_far.offset }

  same_blocks : place.follower.blocks ≡ blocks_of so_far.others
  same_blocks = ap (λ (f : Followed). f.blocks) so_far.follower

  -- what the place says of what may come next is so
  same_expected : expected_at place ≡ expected_in_replay so_far_items
  same_expected =
      ap (λ (b : Bool). record_of (tags_after b) true (nat_le most_blocks (length place.follower.blocks))) so_far.after
      ∙ ap (λ (blocks : List Block). record_of (tags_after (ends_with_block so_far.others)) true
      (nat_le most_blocks (length blocks))) same_blocks

-- ---- a record more

pub goes_on : (input left after : Option (List ℕ)) (place next : Taking) (found : Record) → HasTaken input left place
    → TakesRecord left after (Some found) → IsNext place found → StepsTo place found next → HasTaken input after next
goes_on input left after place next found so_far took is_next steps =
    let items = so_far_items input left place so_far in
    let item = steps.item in
    let expects = same_expected input left place so_far in
    let may : MayCome Follow items item = record {
      listed = subst (λ (e : Expected). IsExpected e (tag_of item)) expects steps.listed;
      form = steps.form;
      goes_on = tt;
    } in
    let long = ap length (records_then items item) in
    record {
      parts = so_far.parts;
      others = so_far.others ++ item ∷ [];
      each = come_then Follow [] items item so_far.each may;
      took = took_then input left after (records items) (item_record item) _ so_far.took
          (subst (λ (t : List ℕ). Took left after t) steps.encoded took) (records_then items item);
      follower = steps.follower
          ∙ ap (λ (f : Followed). record f { blocks = f.blocks ++ blocks_of (item ∷ []) }) so_far.follower
          ∙ ap (λ (blocks : List Block). record (begun so_far.parts) { blocks = blocks })
          (sym (taken_along so_far.others item));
      after = steps.after ∙ sym (after_along so_far.others item);
      offset = omega (
        arith,
        long,
        steps.at_end,
        is_next.place,
        so_far.offset,
        length-record found.tag found.payload,
        ap length steps.encoded,
        length-append (records items) (item_record item),
      );
      may_go_on = steps.may_go_on;
    }

-- ---- the end

pub finishes : (input left after : Option (List ℕ)) (place : Taking) (text : List ℕ) → HasTaken input left place
    → WasAtEnd left after → IsFollowed place.follower.opening place.follower.blocks text
    → Found Follow input after (Ok text)
finishes input left after place text so_far ended told =
    let said = subst (λ (f : Followed). IsFollowed f.opening f.blocks text) so_far.follower told in
    concludes Follow (so_far_items input left place so_far) place.at input left after (Ok text)
    (has_read input left place so_far) ended refl (
      record { parts = so_far.parts; others = so_far.others; are = refl; finds = refl },
      said,
    )

-- ---- no record, or one that is no item

pub stops : (input left after : Option (List ℕ)) (place : Taking) (s : Stop) → HasTaken input left place
    → Stops (record_at (tags_after place.after_block) place.at) left after s → Found Follow input after (Err s)
stops input left after place s so_far why =
    stops_here Follow (so_far_items input left place so_far) place.at input left after s
    (has_read input left place so_far)
    (subst (λ (e : Expected). Stops (item_at e place.at) left after s) (same_expected input left place so_far)
    (no_record (tags_after place.after_block) true (is_full place) place.at left after s why))

pub fails : (input left after : Option (List ℕ)) (place : Taking) (found : Record) (s : Stop)
    → HasTaken input left place
    → Reads (record_at (tags_after place.after_block) place.at) left after (Some found)
    → Steps place found (Err s) → Found Follow input after (Err s)
fails input left after place found stop.NoMemory so_far reads steps = tt
fails input left after place found stop.ReadFault so_far reads steps = tt
fails input left after place found (stop.Refused number why) so_far reads steps = absurd steps
fails input left after place found (stop.Malformed fault) so_far reads steps =
    stops_here Follow (so_far_items input left place so_far) place.at input left after (stop.Malformed fault)
    (has_read input left place so_far)
    (subst (λ (e : Expected). FaultsAt (item_at e place.at) left after fault) (same_expected input left place so_far)
    (bad_record (tags_after place.after_block) true (is_full place) place.at left after found fault reads steps))

-- ---- how many records may still come

abbrev pub may_still_come : List Block → Bool → ℕ
may_still_come blocks after = 2 * (most_blocks - length blocks) + cond after 1 0

listed_tag : (after : Bool) (tag : ℕ) → Contains (tags_after after) tag
    → (tag ≡ block_tag) ⊎ ((tag ≡ outcomes_tag) × (after ≡ true))
listed_tag true tag (zero, lt, same) = inl (sym same)
listed_tag true tag (suc zero, lt, same) = inr (sym same, refl)
listed_tag true tag (suc (suc i), lt, same) = absurd (omega arith)
listed_tag false tag (zero, lt, same) = inl (sym same)
listed_tag false tag (suc i, lt, same) = absurd (omega arith)

-- no other record is listed
not_listed : (after : Bool) (tag : ℕ) → Contains (tags_after after) tag → (tag ≡ block_tag → ⊥)
    → (tag ≡ outcomes_tag → ⊥) → ⊥
not_listed after tag among no_block no_outcomes =
    elim (listed_tag after tag among) [
      | inl is ↦ no_block is
      | inr is ↦ no_outcomes is.0
    ]

fewer_then : (item : Item) (blocks : List Block) (after : Bool) → Contains (tags_after after) (tag_of item)
    → length (blocks ++ blocks_of (item ∷ [])) ≤ most_blocks
    → may_still_come (blocks ++ blocks_of (item ∷ [])) (is_block item) < may_still_come blocks after
fewer_then (state held) blocks after among few =
    absurd (not_listed after 1 among (λ is. omega (arith, is)) (λ is. omega (arith, is)))
fewer_then (candidates txs) blocks after among few =
    absurd (not_listed after 2 among (λ is. omega (arith, is)) (λ is. omega (arith, is)))
fewer_then (block said) blocks after among few = omega (arith, length-append blocks (said ∷ []), few)
fewer_then (outcomes told) blocks after among few =
    elim (listed_tag after outcomes_tag among) [
      | inl is ↦ absurd (omega (arith, is))
      | inr is ↦ rw is.1 (omega (arith, length-append blocks []))
    ]
fewer_then (script turns) blocks after among few =
    absurd (not_listed after 5 among (λ is. omega (arith, is)) (λ is. omega (arith, is)))
fewer_then (proof claim) blocks after among few =
    absurd (not_listed after 6 among (λ is. omega (arith, is)) (λ is. omega (arith, is)))

pub fewer : (place next : Taking) (found : Record) → StepsTo place found next
    → may_still_come next.follower.blocks next.after_block < may_still_come place.follower.blocks place.after_block
fewer place next found steps =
    let blocks = ap (λ (f : Followed). f.blocks) steps.follower in
    rw (blocks, steps.after) (fewer_then steps.item place.follower.blocks place.after_block steps.listed.0
    (subst (λ (l : List Block). length l ≤ most_blocks) blocks steps.may_go_on.few))
