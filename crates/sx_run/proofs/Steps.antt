-- One record of a replay.
use Rattle.std.proofs.Common.{◌≡◌, ℕ, zero, suc, ◌+◌, ◌*◌, ◌<◌, ◌≤◌, Bool, true, false, List, length, Contains, refl}
use Rattle.std.proofs.Common.{Err, ap, ◌∙◌, arith}
use Rattle.std.specs.Prelude.{nat_le, ◌&&◌, ◌==◌}
use Rattle.sx_block.specs.declared.header.Block.{Block}
use Rattle.sx_block.specs.Block.{IsBlock}
use Rattle.sx_block.specs.Validity.{IsValid, ledger_after}
use Rattle.sx_bytes.specs.declared.fault.Form.TheVariants as form
use Rattle.sx_input.specs.declared.head.Head.{Head}
use Rattle.sx_input.specs.declared.stop.Stop.{Stop}
use Rattle.sx_input.specs.declared.stop.Stop.TheVariants as stop
use Rattle.sx_input.specs.Head.{IsHead}
use Rattle.sx_input.specs.Stream.{FailsAs}
use Rattle.sx_input.proofs.Faults.{bad_payload, one_too_many}
use Rattle.sx_outcome.specs.declared.outcome.Outcome.{Outcome}
use Rattle.sx_outcome.specs.Outcomes.{AreOutcomes}
use Rattle.sx_meaning.specs.Expected.{shifted}
use Rattle.sx_meaning.specs.Items.{block, outcomes, payload_at, payload_of}
use Rattle.sx_meaning.specs.Replays.{most_blocks, tags_after}
use Rattle.sx_record.specs.declared.frame.Record.{Record}
use Rattle.sx_record.specs.Frame.{frame_bytes, most_bytes, record_bytes}
use Rattle.sx_record.specs.Tags.{block_tag, outcomes_tag}
use Rattle.sx_run.specs.declared.commands.replaying.Place.{Place}
use Rattle.sx_run.specs.Replaying.{IsNext, MayGoOn, Steps, StepsTo, is_full, most_records}

-- a record more is not too far
pub near_block : (blocks at : ℕ) (after : Bool) (long : ℕ) →
    at ≤ most_records blocks after * (most_bytes + frame_bytes) → long ≤ most_bytes
    → at + frame_bytes + long ≤ most_records (blocks + 1) true * (most_bytes + frame_bytes)
near_block blocks at true long near fits = omega arith
near_block blocks at false long near fits = omega arith

pub near_outcomes : (blocks at long : ℕ) → at ≤ most_records blocks true * (most_bytes + frame_bytes) → long ≤ most_bytes
    → at + frame_bytes + long ≤ most_records blocks false * (most_bytes + frame_bytes)
near_outcomes blocks at long near fits = omega arith

-- a block may come anywhere, and outcomes only directly after one
pub block_listed : (after : Bool) → Contains (tags_after after) block_tag
block_listed true = (0, omega arith, refl)
block_listed false = (0, omega arith, refl)

pub after_block : (after : Bool) (tag : ℕ) → Contains (tags_after after) tag → tag ≡ outcomes_tag → after ≡ true
after_block true tag among is = refl
after_block false tag (zero, lt, same) is = absurd (let e : block_tag ≡ outcomes_tag = same ∙ is in cc)
after_block false tag (suc i, lt, same) is = absurd (omega arith)

pub outcomes_listed : (after : Bool) → after ≡ true → Contains (tags_after after) outcomes_tag
outcomes_listed true is = (1, omega arith, refl)
outcomes_listed false is = absurd cc

pub not_full : (blocks : ℕ) → blocks < most_blocks → (nat_le most_blocks blocks && (block_tag == block_tag)) ≡ false
not_full blocks few = grind (arith)

all_come : (blocks : ℕ) → most_blocks ≤ blocks → (nat_le most_blocks blocks && (block_tag == block_tag)) ≡ true
all_come blocks many = grind (arith)

pub never_full : (full : Bool) → (full && (outcomes_tag == block_tag)) ≡ false
never_full true = refl
never_full false = refl

-- ---- the next place

module _ (place : Place) (found : Record) (goes : MayGoOn place) (next : IsNext place found) where
  encoded : (tag : ℕ) (payload : List ℕ) → found.tag ≡ tag → found.payload ≡ payload
      → record_bytes found.tag found.payload ≡ record_bytes tag payload
  encoded tag payload tagged holds =
      ap (λ (t : ℕ). record_bytes t found.payload) tagged ∙ ap (λ (p : List ℕ). record_bytes tag p) holds

  pub block_steps : (head : Head) (at : ℕ) (said : Block) → found.tag ≡ block_tag → place.blocks < most_blocks
      → found.payload ≡ payload_of (block said) → IsBlock said → IsValid place.head.ledger said → IsHead head
      → head.ledger ≡ ledger_after place.head.ledger said → at ≡ found.at + length found.payload
      → StepsTo place found (record { head = head; at = at; blocks = place.blocks + 1; after_block = true })
  block_steps head at said tagged few payload form valid is_head after end = record {
    item = block said;
    listed = (block_listed place.after_block, not_full place.blocks few);
    form = form;
    valid = valid;
    encoded = encoded block_tag (payload_of (block said)) tagged payload;
    ledger = after;
    blocks = refl;
    after = refl;
    at_end = end;
    may_go_on = record {
      head = is_head;
      few = omega arith;
      near = omega (
        arith,
        end,
        next.place,
        near_block place.blocks place.at place.after_block (length found.payload) goes.near next.fits,
      );
    };
  }

  pub outcomes_step : (at : ℕ) (told : List Outcome) → found.tag ≡ outcomes_tag
      → found.payload ≡ payload_of (outcomes told) → AreOutcomes told → at ≡ found.at + length found.payload
      → StepsTo place found (record { head = place.head; at = at; blocks = place.blocks; after_block = false })
  outcomes_step at told tagged payload are end =
      let after : place.after_block ≡ true = after_block place.after_block found.tag next.listed tagged in
      record {
        item = outcomes told;
        listed = (outcomes_listed place.after_block after, never_full (is_full place));
        form = are;
        valid = tt;
        encoded = encoded outcomes_tag (payload_of (outcomes told)) tagged payload;
        ledger = refl;
        blocks = refl;
        after = refl;
        at_end = end;
        may_go_on = record {
          head = goes.head;
          few = goes.few;
          near = omega (
            arith,
            end,
            next.place,
            near_outcomes place.blocks place.at (length found.payload) (rw after at goes.near) next.fits,
          );
        };
      }

-- ---- no item

pub block_tests : (blocks tag : ℕ) → tag ≡ block_tag → blocks < most_blocks →
    (nat_le most_blocks blocks && (tag == block_tag)) ≡ false
block_tests blocks tag tagged few = rw tagged (not_full blocks few)

pub full_tests : (blocks tag : ℕ) → tag ≡ block_tag → most_blocks ≤ blocks →
    (nat_le most_blocks blocks && (tag == block_tag)) ≡ true
full_tests blocks tag tagged many = rw tagged (all_come blocks many)

pub outcomes_tests : (full : Bool) (tag : ℕ) → tag ≡ outcomes_tag → (full && (tag == block_tag)) ≡ false
outcomes_tests full tag tagged = rw tagged (never_full full)

module _ (place : Place) (found : Record) where
  pub one_block_more : found.tag ≡ block_tag → most_blocks ≤ place.blocks
      → Steps place found (Err (stop.Malformed (record { at = place.at; fault = form.TooMany })))
  one_block_more tagged many = λ left.
      one_too_many (is_full place) place.at found left (full_tests place.blocks found.tag tagged many)

  bad_step : (tag : ℕ) (s : Stop) → found.tag ≡ tag → (is_full place && (found.tag == block_tag)) ≡ false
      → FailsAs (shifted found.at (payload_at tag found.payload)) s → Steps place found (Err s)
  bad_step tag (stop.Malformed fault) tagged test fails = λ left.
      bad_payload (is_full place) place.at found left fault test
      (ap (λ (t : ℕ). shifted found.at (payload_at t found.payload)) tagged ∙ fails)
  bad_step tag (stop.Refused number why) tagged test fails = absurd fails
  bad_step tag stop.ReadFault tagged test fails = fails
  bad_step tag stop.NoMemory tagged test fails = tt

  pub bad_block : (s : Stop) → found.tag ≡ block_tag → place.blocks < most_blocks
      → FailsAs (shifted found.at (payload_at block_tag found.payload)) s → Steps place found (Err s)
  bad_block s tagged few fails =
      bad_step block_tag s tagged (block_tests place.blocks found.tag tagged few) fails

  pub bad_outcomes : (s : Stop) → found.tag ≡ outcomes_tag
      → FailsAs (shifted found.at (payload_at outcomes_tag found.payload)) s → Steps place found (Err s)
  bad_outcomes s tagged fails =
      bad_step outcomes_tag s tagged (outcomes_tests (is_full place) found.tag tagged) fails
