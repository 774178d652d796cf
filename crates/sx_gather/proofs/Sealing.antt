-- The outcomes of a pass that has decided all candidates, once the shards have ended, are outcomes of gathering.
use Rattle.std.proofs.Common.{◌≡◌, ℕ, ◌<◌, ◌≤◌, List, [], length, drop, Option, Some, None, All, refl}
use Rattle.std.proofs.Common.{sym, ap, subst, ◌∙◌, inl, inr, arith}
use Rattle.std.proofs.lemmas.Bool.{cases_lt}
use Rattle.std.specs.Prelude.{slice_get, slice_index}
use Rattle.std.specs.Int.{bit_at}
use Rattle.std.specs.List.Sorted.{IsPermutation, IsSortedBy}
use Rattle.std.proofs.lemmas.List.Elements.{All-contains, All-get_or}
use Rattle.std.proofs.lemmas.Option.{get_or_from_slice_get, same_Some, slice_get_within}
use Rattle.sx_event.specs.declared.marks.Claim.{Claim}
use Rattle.sx_event.specs.declared.marks.Note.{Note}
use Rattle.sx_event.specs.declared.marks.Note.TheVariants.{Low, Set}
use Rattle.sx_event.specs.Rule.{BitsAddUp, LowFits, PursesAddUp, SetFits, debits as claimed_debits, times}
use Rattle.sx_event.specs.View.{View}
use Rattle.sx_layout.specs.declared.asked.Wanted.{Wanted}
use Rattle.sx_layout.specs.declared.asked.Wanted.TheVariants as wanted
use Rattle.sx_outcome.specs.declared.outcome.Outcome.{Outcome}
use Rattle.sx_outcome.specs.declared.outcome.Outcome.TheVariants as outcome
use Rattle.sx_layout.specs.Asked.{number_spot, wanted_of}
use Rattle.sx_outcome.specs.Gathering.{Decision, IsGathered, accepted, decisions}
use Rattle.sx_layout.specs.Marks.{Closes, IsClosing, IsGone, IsMissed, marks}
use Rattle.sx_layout.specs.Plan.{Plan, plan_of, words_of}
use Rattle.sx_layout.proofs.ClosingLaw.{closing_gathers}
use Rattle.sx_ledger.specs.declared.parts.Parts.{Parts}
use Rattle.sx_ledger.specs.Body.{tx_before}
use Rattle.sx_shard.specs.Close.{Ends, HasEnded}
use Rattle.sx_shard.specs.Models.{Seated, Shown}
use Rattle.sx_tx.specs.declared.tx.Tx.{Tx}
use Rattle.sx_gather.specs.Passes.{Gathering, HasNoted, IsPassOf, IsStarted, Passing, SawGone, SawShort, Shows, decided}
use Rattle.sx_gather.specs.Passes.{view_at}
use Rattle.sx_gather.specs.Seal.{HaveAll, HaveEnded}
use Rattle.sx_gather.proofs.Bodies.{body_is}
use Rattle.sx_gather.proofs.Seats.{entry, noted_within}

-- ---- the words at the end

module _ (view : View) where
  -- those of a shard, where there is one
  abbrev words_from : (found : Option Shown) → ((shard : Shown) → found ≡ Some shard → HasEnded shard view)
      → List ℕ × List ℕ
  words_from None ended = ([], [])
  words_from (Some shard) ended = ((ended shard refl).purses, (ended shard refl).bits)

  words_end : (found : Option Shown) (ended : (shard : Shown) → found ≡ Some shard → HasEnded shard view)
      (shard : Shown) → found ≡ Some shard → Ends shard view (words_from found ended).0 (words_from found ended).1
  words_end None ended shard is = absurd cc
  words_end (Some one) ended shard is =
      subst (λ (s : Shown). Ends s view (words_from (Some one) ended).0 (words_from (Some one) ended).1)
      (same_Some one shard is) (ended one refl).ends

-- ---- what the notes say of these words

-- each note of the seats is true of the words
record AreTrue (plan : Plan) (seats : List Seated) (purses bits : ℕ → List ℕ) : Type 0 where
  low : (k purse value : ℕ) → HasNoted seats k (Low purse value)
      → (slice_index (purses k) purse ≤ value) × (value ≤ slice_index (words_of plan.purses k) purse)
  set : (k word bit : ℕ) → HasNoted seats k (Set word bit) → bit_at (slice_index (bits k) word) bit ≡ 1

module _ (plan : Plan) (seats : List Seated) (purses bits : ℕ → List ℕ) (true : AreTrue plan seats purses bits) where
  gone_is : (what : Wanted) → SawGone seats what → IsGone bits what
  gone_is (wanted.Bit at bit) saw = true.set at.shard at.word bit saw
  gone_is (wanted.Units purse need) saw = absurd saw

  missed_is : (what : Wanted) (seen need : ℕ) → SawShort seats what seen need → IsMissed plan purses what seen need
  missed_is (wanted.Bit at bit) seen need saw = absurd saw
  missed_is (wanted.Units purse amount) seen need saw =
      let low = true.low purse.shard purse.word seen saw.1.low in
      (saw.0, record { short = saw.1.short; low = low.0; opening = low.1 })

  shown_closes : (parts : Parts) (tx : Tx) (said : Outcome) → Shows parts plan seats tx said
      → Closes parts plan purses bits tx said
  shown_closes parts tx outcome.Accepted shows = shows
  shown_closes parts tx (outcome.Static why) shows = shows
  shown_closes parts tx outcome.SeqTaken shows =
      let at = number_spot parts plan tx in (shows.0, true.set at.0.shard at.0.word at.1 shows.1)
  shown_closes parts tx outcome.OfferTaken shows = (shows.0, shows.1, gone_is (wanted_of parts plan tx) shows.2)
  shown_closes parts tx outcome.NameTaken shows = (shows.0, shows.1, gone_is (wanted_of parts plan tx) shows.2)
  shown_closes parts tx (outcome.Overdraft seen need) shows =
      (shows.0, missed_is (wanted_of parts plan tx) seen need shows.1)

-- ---- the whole

-- the seats of a pass that has all candidates have them too
pub have_all : (gather : Gathering) (pass : Passing) → IsPassOf gather pass → pass.from ≡ 0
    → pass.end ≡ length gather.candidates → HaveAll gather.shards pass.seats
have_all gather pass is from whole k shard at =
    let view = is.views k (slice_get_within gather.shards k shard at) in
    (view.from ∙ from, view.end ∙ whole ∙ sym (is.gathering.started k shard at).count)

module _ (gather : Gathering) (pass : Passing) (is : IsPassOf gather pass) (from : pass.from ≡ 0)
    (done : pass.next ≡ pass.end) (whole : pass.end ≡ length gather.candidates)
    (ended : HaveEnded gather.shards pass.seats) where
  abbrev words : ℕ → List ℕ × List ℕ
  words k = words_from (view_at pass.seats k) (slice_get gather.shards k) (ended k)

  abbrev purses : ℕ → List ℕ
  purses k = (words k).0

  abbrev bits : ℕ → List ℕ
  bits k = (words k).1

  -- a shard that there is has ended at these words
  record IsEnd (k : ℕ) : Type 0 where
    shard : Shown
    started : IsStarted gather k shard
    ends : Ends shard (view_at pass.seats k) (purses k) (bits k)

  end_at : (k : ℕ) → k < length gather.shards → IsEnd k
  end_at k lt =
      let one = entry gather.shards k lt in
      record {
        shard = one.0;
        started = is.gathering.started k one.0 one.1;
        ends = words_end (view_at pass.seats k) (slice_get gather.shards k) (ended k) one.0 one.1;
      }

  within : (k : ℕ) (note : Note) → HasNoted pass.seats k note → k < length gather.shards
  within k note has = elim (cases_lt k (length gather.shards)) [
    | inl lt ↦ lt
    | inr past ↦ absurd (noted_within pass.seats k note has (omega (arith, past, is.seats.one_each)))
  ]

  are_true : AreTrue gather.plan pass.seats purses bits
  are_true = record {
    low = λ k purse value has.
        let end = end_at k (within k (Low purse value) has) in
        subst (λ (opening : List ℕ). (slice_index (purses k) purse ≤ value) × (value ≤ slice_index opening purse))
        end.started.purses
        (All-contains (LowFits end.shard.purses (purses k)) (view_at pass.seats k).notes (Low purse value)
        end.ends.lows has);
    set = λ k word bit has.
        let end = end_at k (within k (Set word bit) has) in
        All-contains (SetFits (bits k)) (view_at pass.seats k).notes (Set word bit) end.ends.sets has;
  }

  abbrev list : List Decision
  list = decisions gather.candidates pass.outcomes

  all_decided : decided gather pass ≡ list
  all_decided = ap (λ (n : ℕ). decisions (drop n gather.candidates) pass.outcomes) from

  claims_are : (k : ℕ) → k < length gather.shards
      → (view_at pass.seats k).claims ≡ marks gather.parts gather.plan k list
  claims_are k lt = (is.views k lt).claims ∙ ap (marks gather.parts gather.plan k) all_decided

  shows_at : (place : ℕ) (one : Decision) → slice_get list place ≡ Some one
      → Shows gather.parts gather.plan pass.seats one.tx one.outcome
  shows_at place one at =
      let Shown : Decision → Type 0 = λ d. Shows gather.parts gather.plan pass.seats d.tx d.outcome in
      subst Shown (get_or_from_slice_get list place one one at)
      (All-get_or Shown list place one (slice_get_within list place one at) (subst (All Shown) all_decided is.shows))

  purses_add_up : (k : ℕ) → k < length gather.shards
      → PursesAddUp (words_of gather.plan.purses k) (purses k) (claimed_debits (marks gather.parts gather.plan k list))
  purses_add_up k lt =
      let end = end_at k lt in
      subst (λ (claims : List Claim). PursesAddUp (words_of gather.plan.purses k) (purses k) (claimed_debits claims))
      (claims_are k lt)
      (subst (λ (opening : List ℕ). PursesAddUp opening (purses k) (claimed_debits (view_at pass.seats k).claims))
      end.started.purses end.ends.purses_add_up)

  bits_add_up : (k : ℕ) → k < length gather.shards
      → BitsAddUp (words_of gather.plan.bits k) (bits k) (times (marks gather.parts gather.plan k list))
  bits_add_up k lt =
      let end = end_at k lt in
      subst (λ (claims : List Claim). BitsAddUp (words_of gather.plan.bits k) (bits k) (times claims))
      (claims_are k lt)
      (subst (λ (opening : List ℕ). BitsAddUp opening (bits k) (times (view_at pass.seats k).claims))
      end.started.bits end.ends.bits_add_up)

  closing : IsClosing gather.parts gather.candidates gather.plan.shards pass.outcomes purses bits
  closing =
      let parts = gather.parts in
      let plan : gather.plan ≡ plan_of parts gather.candidates gather.plan.shards = is.gathering.plan in
      record {
        laid_out = is.gathering.laid_out;
        room = is.gathering.room;
        one_each = omega (arith, is.one_each, from, done, whole);
        closes = λ place one at.
            subst (λ (p : Plan). Closes parts p purses bits one.tx one.outcome) plan
            (shown_closes gather.plan pass.seats purses bits are_true parts one.tx one.outcome (shows_at place one at));
        purses_add_up = λ k lt.
            subst (λ (p : Plan). PursesAddUp (words_of p.purses k) (purses k) (claimed_debits (marks parts p k list)))
            plan (purses_add_up k (omega (arith, lt, is.gathering.one_each)));
        bits_add_up = λ k lt.
            subst (λ (p : Plan). BitsAddUp (words_of p.bits k) (bits k) (times (marks parts p k list))) plan
            (bits_add_up k (omega (arith, lt, is.gathering.one_each)));
      }

  -- and so is the sorted list of what is accepted
  pub sealed : (txs : List Tx) → IsPermutation (accepted list) txs → IsSortedBy tx_before txs
      → IsGathered gather.parts gather.candidates pass.outcomes txs
  sealed txs moves sorted =
      let gathered =
      closing_gathers gather.parts gather.candidates gather.plan.shards pass.outcomes purses bits closing in
      subst (IsGathered gather.parts gather.candidates pass.outcomes)
      (sym (body_is list txs gathered.admissible.ordered moves sorted)) gathered
