-- What a pass keeps when it decides its next candidate.
use Rattle.std.proofs.Common.{◌≡◌, ℕ, ◌+◌, ◌<◌, List, [], ◌∷◌, ◌++◌, map, Some, All, sym, ap, subst, ◌∙◌}
use Rattle.std.proofs.Common.{arith, length-append}
use Rattle.std.specs.Prelude.{slice_get}
use Rattle.std.specs.List.{Contains}
use Rattle.std.proofs.lemmas.List.{map-append}
use Rattle.std.proofs.lemmas.List.Elements.{All-push, All-weaker, Contains-push}
use Rattle.sx_event.specs.declared.marks.Claim.{Claim}
use Rattle.sx_event.specs.declared.marks.Note.{Note}
use Rattle.sx_event.specs.declared.marks.Note.TheVariants.{Low, Set}
use Rattle.sx_event.specs.View.{View}
use Rattle.sx_layout.specs.declared.asked.Wanted.{Wanted}
use Rattle.sx_layout.specs.declared.asked.Wanted.TheVariants as wanted
use Rattle.sx_outcome.specs.declared.outcome.Outcome.{Outcome}
use Rattle.sx_outcome.specs.declared.outcome.Outcome.TheVariants as outcome
use Rattle.sx_layout.specs.declared.spot.Spot.{Spot}
use Rattle.sx_layout.specs.Asked.{number_spot, wanted_of}
use Rattle.sx_outcome.specs.Gathering.{Decision}
use Rattle.sx_layout.specs.Marks.{marks, marks_of}
use Rattle.sx_layout.specs.Plan.{Plan}
use Rattle.sx_layout.proofs.MarksLaws.{marks_grow}
use Rattle.sx_ledger.specs.declared.parts.Parts.{Parts}
use Rattle.sx_shard.specs.Models.{Seated}
use Rattle.sx_tx.specs.declared.tx.Tx.{Tx}
use Rattle.sx_gather.specs.Passes.{AreSeats, Gathering, IsPassOf, Passing, SawGone, SawShort, Shows, decided}
use Rattle.sx_gather.specs.Passes.{view_at}
use Rattle.sx_gather.specs.Submit.{Decides, Found, FoundGone, FoundSet, FoundShort, Grow}
use Rattle.sx_gather.proofs.Decided.{decided_next}
use Rattle.sx_gather.proofs.Growing.{Later, grow_later, grow_notes_there}

-- ---- what was shown is shown later

gone_later : (before after : List Seated) → Later before after → (what : Wanted) → SawGone before what
    → SawGone after what
gone_later before after later (wanted.Bit at bit) saw = later at.shard (Set at.word bit) saw
gone_later before after later (wanted.Units purse need) saw = absurd saw

short_later : (before after : List Seated) → Later before after → (what : Wanted) (seen need : ℕ)
    → SawShort before what seen need → SawShort after what seen need
short_later before after later (wanted.Bit at bit) seen need saw = absurd saw
short_later before after later (wanted.Units purse amount) seen need saw =
    (saw.0, record { short = saw.1.short; low = later purse.shard (Low purse.word seen) saw.1.low })

pub shows_later : (parts : Parts) (plan : Plan) (before after : List Seated) → Later before after → (tx : Tx)
    (said : Outcome) → Shows parts plan before tx said → Shows parts plan after tx said
shows_later parts plan before after later tx outcome.Accepted shows = shows
shows_later parts plan before after later tx (outcome.Static why) shows = shows
shows_later parts plan before after later tx outcome.SeqTaken shows =
    let at = number_spot parts plan tx in (shows.0, later at.0.shard (Set at.0.word at.1) shows.1)
shows_later parts plan before after later tx outcome.OfferTaken shows =
    (shows.0, shows.1, gone_later before after later (wanted_of parts plan tx) shows.2)
shows_later parts plan before after later tx outcome.NameTaken shows =
    (shows.0, shows.1, gone_later before after later (wanted_of parts plan tx) shows.2)
shows_later parts plan before after later tx (outcome.Overdraft seen need) shows =
    (shows.0, short_later before after later (wanted_of parts plan tx) seen need shows.1)

-- ---- what a call found is shown by the pass

module _ (before after : List Seated) (claims : ℕ → List Claim) (notes : ℕ → List Note)
    (grow : Grow before after claims notes) where
  there : (shard : ℕ) (earlier : List Note) (note : Note) → notes shard ≡ earlier ++ note ∷ []
      → Contains (view_at after shard).notes note
  there shard earlier note is =
      grow_notes_there before after claims notes shard note grow
      (subst (λ (list : List Note). Contains list note) (sym is) (Contains-push earlier note))

  set_shown : (at : Spot) (bit : ℕ) → FoundSet notes at bit → Contains (view_at after at.shard).notes (Set at.word bit)
  set_shown at bit found = there at.shard [] (Set at.word bit) found

  gone_shown : (what : Wanted) → FoundGone notes what → SawGone after what
  gone_shown (wanted.Bit at bit) found = set_shown at bit found
  gone_shown (wanted.Units purse need) found = absurd found

  short_shown : (what : Wanted) (seen need : ℕ) → FoundShort notes what seen need → SawShort after what seen need
  short_shown (wanted.Bit at bit) seen need found = absurd found
  short_shown (wanted.Units purse amount) seen need found = (
    found.0,
    record {
      short = found.1.short;
      low =
          there purse.shard (map (Low purse.word) found.1.earlier) (Low purse.word seen)
          (found.1.notes_are ∙ map-append (Low purse.word) found.1.earlier (seen ∷ []));
    },
  )

  found_shown : (parts : Parts) (plan : Plan) (tx : Tx) (said : Outcome) → Found parts plan notes tx said
      → Shows parts plan after tx said
  found_shown parts plan tx outcome.Accepted found = found
  found_shown parts plan tx (outcome.Static why) found = found
  found_shown parts plan tx outcome.SeqTaken found =
      let at = number_spot parts plan tx in (found.0, set_shown at.0 at.1 found.1)
  found_shown parts plan tx outcome.OfferTaken found =
      (found.0, found.1, gone_shown (wanted_of parts plan tx) found.2)
  found_shown parts plan tx outcome.NameTaken found =
      (found.0, found.1, gone_shown (wanted_of parts plan tx) found.2)
  found_shown parts plan tx (outcome.Overdraft seen need) found =
      (found.0, short_shown (wanted_of parts plan tx) seen need found.1)

-- ---- the pass

-- one more candidate is decided
abbrev pub after_one : Passing → Outcome → ℕ → List Seated → Passing
after_one pass said spare seats = record {
  from = pass.from;
  next = pass.next + 1;
  end = pass.end;
  outcomes = pass.outcomes ++ said ∷ [];
  spare = spare;
  seats = seats;
}

pub submitted : (gather : Gathering) (pass : Passing) (tx : Tx) (said : Outcome) (spare : ℕ) (seats : List Seated)
    → IsPassOf gather pass → pass.next < pass.end → slice_get gather.candidates pass.next ≡ Some tx
    → AreSeats gather.shards seats
    → Decides gather.parts gather.plan pass.seats seats (record { tx = tx; outcome = said })
    → IsPassOf gather (after_one pass said spare seats)
submitted gather pass tx said spare seats is left at are decides =
    let parts = gather.parts in
    let plan = gather.plan in
    let one : Decision = record { tx = tx; outcome = said } in
    let all : decided gather (after_one pass said spare seats) ≡ decided gather pass ++ one ∷ [] =
    decided_next gather.candidates pass.from pass.next pass.outcomes tx said is.one_each at in
    let marked : ℕ → List Claim = λ shard. marks_of parts plan shard one in
    let later : Later pass.seats seats = grow_later pass.seats seats marked decides.notes decides.grow in
    let Shown : Decision → Type 0 = λ d. Shows parts plan seats d.tx d.outcome in
    record {
      gathering = is.gathering;
      begins = omega (arith, is.begins);
      goes_on = omega (arith, left);
      ends = is.ends;
      one_each = omega (arith, is.one_each, length-append pass.outcomes (said ∷ []));
      seats = are;
      views = λ shard lt.
          let old = is.views shard lt in
          let grow = decides.grow shard in
          record {
            from = ap (λ (view : View). view.from) grow ∙ old.from;
            end = ap (λ (view : View). view.end) grow ∙ old.end;
            claims =
                ap (λ (view : View). view.claims) grow
                ∙ ap (λ (claims : List Claim). claims ++ marks_of parts plan shard one) old.claims
                ∙ sym (marks_grow parts plan shard (decided gather pass) one)
                ∙ ap (marks parts plan shard) (sym all);
          };
      shows =
          subst (All Shown) (sym all)
          (All-push Shown (decided gather pass) one
          (All-weaker (λ (d : Decision). Shows parts plan pass.seats d.tx d.outcome) Shown
          (λ d. shows_later parts plan pass.seats seats later d.tx d.outcome) (decided gather pass) is.shows)
          (found_shown pass.seats seats marked decides.notes decides.grow parts plan tx said decides.found));
    }

-- the same, by the outcomes and the seats as they are then
pub submitted_as : (gather : Gathering) (pass : Passing) (tx : Tx) (said : Outcome) (spare : ℕ)
    (seats after : List Seated) (outcomes : List Outcome) → IsPassOf gather pass → pass.next < pass.end
    → slice_get gather.candidates pass.next ≡ Some tx → AreSeats gather.shards seats
    → Decides gather.parts gather.plan pass.seats seats (record { tx = tx; outcome = said }) → seats ≡ after
    → pass.outcomes ++ said ∷ [] ≡ outcomes
    → IsPassOf gather (record (after_one pass said spare after) { outcomes = outcomes })
submitted_as gather pass tx said spare seats after outcomes is left at are decides same more =
    subst (λ (list : List Outcome). IsPassOf gather (record (after_one pass said spare after) { outcomes = list })) more
    (subst (λ (list : List Seated). IsPassOf gather (after_one pass said spare list)) same
    (submitted gather pass tx said spare seats is left at are decides))
