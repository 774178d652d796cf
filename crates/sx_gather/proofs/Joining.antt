-- What a pass keeps at the start, when it is split, and when another joins it.
use Rattle.std.proofs.Common.{◌≡◌, ℕ, ◌<◌, ◌≤◌, List, [], ◌++◌, length, drop, All, Ok, refl, sym, ap, ap₂}
use Rattle.std.proofs.Common.{subst, ◌∙◌, inl, inr, arith, length-append}
use Rattle.std.specs.List.{Contains}
use Rattle.std.proofs.lemmas.Bool.{cases_lt}
use Rattle.std.proofs.lemmas.List.Elements.{All-append, All-nil, All-weaker, Contains-append_left}
use Rattle.std.proofs.lemmas.List.Elements.{Contains-append_right}
use Rattle.sx_event.specs.declared.marks.Claim.{Claim}
use Rattle.sx_event.specs.View.{View, opened}
use Rattle.sx_outcome.specs.declared.outcome.Outcome.{Outcome}
use Rattle.sx_outcome.specs.Gathering.{Decision}
use Rattle.sx_layout.specs.Marks.{marks}
use Rattle.sx_layout.specs.Plan.{plan_of}
use Rattle.sx_layout.specs.PlanLaws.{IsLaidOut}
use Rattle.sx_outcome.specs.Room.{room_for}
use Rattle.sx_layout.specs.Setting.{Setting}
use Rattle.sx_layout.proofs.MarksLaws.{marks_join}
use Rattle.sx_ledger.specs.declared.parts.Parts.{Parts}
use Rattle.sx_shard.specs.Models.{Seated, Shown}
use Rattle.sx_tx.specs.declared.tx.Tx.{Tx}
use Rattle.sx_gather.specs.Passes.{AreSeats, Gathering, IsGathering, IsPassOf, Passing, Shows, decided, view_at}
use Rattle.sx_gather.specs.Split.{SplitLeft, SplitRight, AreJoined}
use Rattle.sx_gather.specs.Start.{StartsAll}
use Rattle.sx_gather.proofs.Decided.{decided_none, decided_on}
use Rattle.sx_gather.proofs.Growing.{Later}
use Rattle.sx_gather.proofs.Seats.{noted_within}
use Rattle.sx_gather.proofs.Submitting.{shows_later}

-- ---- a new pass

-- nothing is decided from a candidate on
abbrev pub new_pass : ℕ → ℕ → ℕ → List Seated → Passing
new_pass from end spare seats = record {
  from = from;
  next = from;
  end = end;
  outcomes = [];
  spare = spare;
  seats = seats;
}

pub new_is : (gather : Gathering) (from end spare : ℕ) (seats : List Seated) → IsGathering gather → from ≤ end
    → end ≤ length gather.candidates → AreSeats gather.shards seats
    → ((shard : ℕ) → shard < length gather.shards → view_at seats shard ≡ opened from end)
    → IsPassOf gather (new_pass from end spare seats)
new_is gather from end spare seats gathering le within are views =
    let none : decided gather (new_pass from end spare seats) ≡ [] = decided_none (drop from gather.candidates) in
    let Shown : Decision → Type 0 = λ d. Shows gather.parts gather.plan seats d.tx d.outcome in
    record {
      gathering = gathering;
      begins = omega arith;
      goes_on = le;
      ends = within;
      one_each = omega arith;
      seats = are;
      views = λ shard lt. record {
        from = ap (λ (view : View). view.from) (views shard lt);
        end = ap (λ (view : View). view.end) (views shard lt);
        claims =
            ap (λ (view : View). view.claims) (views shard lt)
            ∙ ap (marks gather.parts gather.plan shard) (sym none);
      };
      shows = subst (All Shown) (sym none) (All-nil Shown);
    }

-- ---- a split

-- the older part ends at a place
abbrev pub ended_at : Passing → ℕ → List Seated → Passing
ended_at pass at seats = record pass { end = at; seats = seats }

pub left_is : (gather : Gathering) (pass : Passing) (at : ℕ) (seats : List Seated) → IsPassOf gather pass
    → pass.next ≤ at → at ≤ pass.end → AreSeats gather.shards seats
    → SplitLeft (length gather.shards) at pass.seats seats → IsPassOf gather (ended_at pass at seats)
left_is gather pass at seats is le within are left =
    let later : Later pass.seats seats = λ shard note has.
    elim (cases_lt shard (length gather.shards)) [
      | inl lt ↦ subst (λ (view : View). Contains view.notes note) (sym (left shard lt)) has
      | inr past ↦ absurd (noted_within pass.seats shard note has (omega (arith, past, is.seats.one_each)))
    ] in
    let Shown : Decision → Type 0 = λ d. Shows gather.parts gather.plan seats d.tx d.outcome in
    record {
      gathering = is.gathering;
      begins = is.begins;
      goes_on = le;
      ends = omega (arith, within, is.ends);
      one_each = is.one_each;
      seats = are;
      views = λ shard lt.
          let old = is.views shard lt in
          record {
            from = ap (λ (view : View). view.from) (left shard lt) ∙ old.from;
            end = ap (λ (view : View). view.end) (left shard lt);
            claims = ap (λ (view : View). view.claims) (left shard lt) ∙ old.claims;
          };
      shows =
          All-weaker (λ (d : Decision). Shows gather.parts gather.plan pass.seats d.tx d.outcome) Shown
          (λ d. shows_later gather.parts gather.plan pass.seats seats later d.tx d.outcome) (decided gather pass)
          is.shows;
    }

-- the new part
pub right_is : (gather : Gathering) (pass : Passing) (at spare : ℕ) (seats : List Seated) → IsPassOf gather pass
    → at ≤ pass.end → AreSeats gather.shards seats
    → SplitRight (length gather.shards) at pass.seats seats
    → IsPassOf gather (new_pass at pass.end spare seats)
right_is gather pass at spare seats is within are right =
    new_is gather at pass.end spare seats is.gathering within is.ends are
    (λ shard lt. right shard lt ∙ ap (opened at) (is.views shard lt).end)

-- ---- a join

-- with all that another pass has after it
abbrev pub with_other : Passing → Passing → ℕ → List Seated → Passing
with_other pass other spare seats = record {
  from = pass.from;
  next = other.next;
  end = other.end;
  outcomes = pass.outcomes ++ other.outcomes;
  spare = spare;
  seats = seats;
}

pub joined_is : (gather : Gathering) (pass other : Passing) (spare : ℕ) (seats : List Seated) → IsPassOf gather pass
    → IsPassOf gather other → pass.next ≡ pass.end → other.from ≡ pass.end → AreSeats gather.shards seats
    → AreJoined pass.seats other.seats seats → IsPassOf gather (with_other pass other spare seats)
joined_is gather pass other spare seats is too done meets are join =
    let parts = gather.parts in
    let plan = gather.plan in
    let from : pass.next ≡ other.from = done ∙ sym meets in
    let all : decided gather (with_other pass other spare seats) ≡ decided gather pass ++ decided gather other =
    decided_on gather.candidates pass.from other.from pass.outcomes other.outcomes (is.one_each ∙ from)
    (omega (arith, from, is.goes_on, is.ends)) in
    let first : Later pass.seats seats = λ shard note has.
    subst (λ (view : View). Contains view.notes note) (sym (join shard))
    (Contains-append_left (view_at pass.seats shard).notes (view_at other.seats shard).notes note has) in
    let second : Later other.seats seats = λ shard note has.
    subst (λ (view : View). Contains view.notes note) (sym (join shard))
    (Contains-append_right (view_at pass.seats shard).notes (view_at other.seats shard).notes note has) in
    let Shown : List Seated → Decision → Type 0 = λ at d. Shows parts plan at d.tx d.outcome in
    record {
      gathering = is.gathering;
      begins = omega (arith, is.begins, from, too.begins);
      goes_on = too.goes_on;
      ends = too.ends;
      one_each = omega (arith, is.one_each, from, too.one_each, length-append pass.outcomes other.outcomes);
      seats = are;
      views = λ shard lt.
          let old = is.views shard lt in
          let new = too.views shard lt in
          record {
            from = ap (λ (view : View). view.from) (join shard) ∙ old.from;
            end = ap (λ (view : View). view.end) (join shard) ∙ new.end;
            claims =
                ap (λ (view : View). view.claims) (join shard)
                ∙ ap₂ (λ (xs ys : List Claim). xs ++ ys) old.claims new.claims
                ∙ sym (marks_join parts plan shard (decided gather pass) (decided gather other))
                ∙ ap (marks parts plan shard) (sym all);
          };
      shows =
          subst (All (Shown seats)) (sym all)
          (All-append (Shown seats) (decided gather pass) (decided gather other)
          (All-weaker (Shown pass.seats) (Shown seats)
          (λ d. shows_later parts plan pass.seats seats first d.tx d.outcome) (decided gather pass) is.shows)
          (All-weaker (Shown other.seats) (Shown seats)
          (λ d. shows_later parts plan other.seats seats second d.tx d.outcome) (decided gather other) too.shows));
    }

-- ---- the same, by the outcomes and the seats as they are then

pub left_as : (gather : Gathering) (pass : Passing) (at : ℕ) (seats after : List Seated) → IsPassOf gather pass
    → pass.next ≤ at → at ≤ pass.end → AreSeats gather.shards seats
    → SplitLeft (length gather.shards) at pass.seats seats → seats ≡ after → IsPassOf gather (ended_at pass at after)
left_as gather pass at seats after is le within are left same =
    subst (λ (list : List Seated). IsPassOf gather (ended_at pass at list)) same
    (left_is gather pass at seats is le within are left)

pub right_as : (gather : Gathering) (pass : Passing) (at spare : ℕ) (seats : List Seated) (outcomes : List Outcome)
    → IsPassOf gather pass → at ≤ pass.end → AreSeats gather.shards seats
    → SplitRight (length gather.shards) at pass.seats seats → outcomes ≡ []
    → IsPassOf gather (record (new_pass at pass.end spare seats) { outcomes = outcomes })
right_as gather pass at spare seats outcomes is within are right none =
    subst (λ (list : List Outcome). IsPassOf gather (record (new_pass at pass.end spare seats) { outcomes = list }))
    (sym none) (right_is gather pass at spare seats is within are right)

pub joined_as : (gather : Gathering) (pass other : Passing) (spare : ℕ) (seats after : List Seated)
    (outcomes : List Outcome) → IsPassOf gather pass → IsPassOf gather other → pass.next ≡ pass.end
    → other.from ≡ pass.end → AreSeats gather.shards seats → AreJoined pass.seats other.seats seats → seats ≡ after
    → pass.outcomes ++ other.outcomes ≡ outcomes
    → IsPassOf gather (record (with_other pass other spare after) { outcomes = outcomes })
joined_as gather pass other spare seats after outcomes is too done meets are join same more =
    subst (λ (list : List Outcome). IsPassOf gather (record (with_other pass other spare after) { outcomes = list }))
    more
    (subst (λ (list : List Seated). IsPassOf gather (with_other pass other spare list)) same
    (joined_is gather pass other spare seats is too done meets are join))

-- ---- the start

abbrev pub gathering_of : Setting → List Shown → Gathering
gathering_of setting shards = record {
  parts = setting.parts;
  candidates = setting.candidates;
  plan = setting.plan;
  shards = shards;
}

pub started_is : (parts : Parts) (candidates : List Tx) (shards spare : ℕ) (setting : Setting) (all : List Shown)
    (seats : List Seated) (outcomes : List Outcome)
    → setting ≡ record { parts = parts; candidates = candidates; plan = plan_of parts candidates shards }
    → IsLaidOut parts candidates shards → room_for parts candidates ≡ Ok tt → StartsAll setting all seats
    → outcomes ≡ []
    → IsPassOf (gathering_of setting all) (record (new_pass 0 (length candidates) spare seats) { outcomes = outcomes })
started_is parts candidates shards spare setting all seats outcomes is laid_out room starts none =
    let plan = plan_of parts candidates shards in
    let made : Setting = record { parts = parts; candidates = candidates; plan = plan } in
    let begun : StartsAll made all seats = subst (λ (s : Setting). StartsAll s all seats) is starts in
    let gathering : IsGathering (gathering_of made all) = record {
      laid_out = laid_out;
      plan = refl;
      room = room;
      one_each = begun.many_shards;
      started = λ k shard at. record {
        purses = begun.purses k shard at;
        bits = begun.bits k shard at;
        count = begun.count k shard at;
      };
    } in
    let pass : IsPassOf (gathering_of made all) (new_pass 0 (length candidates) spare seats) =
    new_is (gathering_of made all) 0 (length candidates) spare seats gathering (omega arith) (omega arith)
    (record { one_each = begun.many_seats ∙ sym begun.many_shards; of = begun.of })
    (λ shard lt. begun.views shard (omega (arith, lt, begun.many_shards))) in
    subst (λ (s : Setting). IsPassOf (gathering_of s all)
    (record (new_pass 0 (length candidates) spare seats) { outcomes = outcomes })) (sym is)
    (subst (λ (list : List Outcome). IsPassOf (gathering_of made all)
    (record (new_pass 0 (length candidates) spare seats) { outcomes = list })) (sym none) pass)
