-- How an actor decides a candidate: which event comes next, and what follows from what the actor is told.
use Rattle.std.specs.Prelude.{ℕ, nat_lt, if◌then◌else◌}
use Rattle.sx_event.specs.declared.event.Event.{Event}
use Rattle.sx_event.specs.declared.event.Event.TheVariants as event
use Rattle.sx_event.specs.declared.event.Step.{Step}
use Rattle.sx_event.specs.declared.event.Step.TheVariants as step
use Rattle.sx_layout.specs.declared.asked.Wanted.{Wanted}
use Rattle.sx_layout.specs.declared.asked.Wanted.TheVariants as wanted
use Rattle.sx_outcome.specs.declared.outcome.Outcome.{Outcome}
use Rattle.sx_outcome.specs.declared.outcome.Outcome.TheVariants as outcome
use Rattle.sx_layout.specs.declared.stage.Next.{Next}
use Rattle.sx_layout.specs.declared.stage.Next.TheVariants.{On, Decided}
use Rattle.sx_layout.specs.declared.stage.Stage.{Stage}
use Rattle.sx_layout.specs.declared.stage.Stage.TheVariants as stage
use Rattle.sx_layout.specs.Asked.{number_spot, wanted_of}
use Rattle.sx_layout.specs.Plan.{Plan}
use Rattle.sx_ledger.specs.declared.parts.Parts.{Parts}
use Rattle.sx_tx.specs.declared.kind.Kind.{Kind}
use Rattle.sx_tx.specs.declared.kind.Kind.TheVariants as kind
use Rattle.sx_tx.specs.declared.tx.Tx.{Tx}

-- the claim of the candidate's sequence number
abbrev pub number_claim : Parts → Plan → Tx → Event
number_claim parts plan tx = event.Claim (number_spot parts plan tx).0.word (number_spot parts plan tx).1

-- what comes once the number is claimed: the actor claims the bit that is wanted, or looks at the purse. All words are in
-- one shard
abbrev pub stage_of : Wanted → Stage
stage_of (wanted.Bit at bit) = stage.Name at.word bit
stage_of (wanted.Units purse need) = stage.Look purse.word need

abbrev pub second : Parts → Plan → Tx → Stage
second parts plan tx = stage_of (wanted_of parts plan tx)

-- the next event of a candidate
abbrev pub next_event : Parts → Plan → Tx → Stage → Event
next_event parts plan tx stage.Number = number_claim parts plan tx
next_event parts plan tx (stage.Name word bit) = event.Claim word bit
next_event parts plan tx (stage.Look purse need) = event.Look purse
next_event parts plan tx (stage.Take purse need) = event.Take purse need

-- ---- what follows

-- the bit was clear, or it was set before
abbrev pub after_claim : Next → Next → Step → Next
after_claim clear taken step.Clear = clear
after_claim clear taken _ = taken

-- a purse that has less than is needed will never have more
abbrev pub after_value : ℕ → ℕ → ℕ → Next
after_value purse need value =
    if nat_lt value need then Decided (outcome.Overdraft value need) else On (stage.Take purse need)

-- a look tells a value, and a Take that is lost does too
abbrev pub after_purse : ℕ → ℕ → Step → Next
after_purse purse need (step.Seen value) = after_value purse need value
after_purse purse need (step.Lost value) = after_value purse need value
after_purse purse need _ = Decided outcome.Accepted

-- the outcome of a candidate whose bit was set before
abbrev pub too_late : Kind → Outcome
too_late (kind.Create id) = outcome.NameTaken
too_late _ = outcome.OfferTaken

-- what follows for a candidate of this kind, with the stage that comes once its number is claimed
abbrev pub follows : Kind → Stage → Stage → Step → Next
follows of second stage.Number told = after_claim (On second) (Decided outcome.SeqTaken) told
follows of second (stage.Name word bit) told = after_claim (Decided outcome.Accepted) (Decided (too_late of)) told
follows of second (stage.Look purse need) told = after_purse purse need told
follows of second (stage.Take purse need) told = after_purse purse need told

abbrev pub what_follows : Parts → Plan → Tx → Stage → Step → Next
what_follows parts plan tx at told = follows tx.kind (second parts plan tx) at told
