-- What the parts of a submit do.
use Rattle.std.specs.Prelude.{◌≡◌, ℕ, List, [], ◌∷◌, map, ◌==◌, if◌then◌else◌}
use Rattle.sx_event.specs.declared.marks.Note.{Note}
use Rattle.sx_event.specs.declared.marks.Note.TheVariants.{Low, Set}
use Rattle.sx_layout.specs.declared.asked.Wanted.{Wanted}
use Rattle.sx_outcome.specs.declared.outcome.Outcome.{Outcome}
use Rattle.sx_outcome.specs.declared.outcome.Outcome.TheVariants as outcome
use Rattle.sx_layout.specs.declared.spot.Spot.{Spot}
use Rattle.sx_layout.specs.Deciding.{too_late}
use Rattle.sx_outcome.specs.Gathering.{is_accepted}
use Rattle.sx_layout.specs.Marks.{bit_mark, debit_mark, wanted_mark}
use Rattle.sx_shard.specs.Models.{Seated}
use Rattle.sx_tx.specs.declared.kind.Kind.{Kind}
use Rattle.sx_gather.specs.Submit.{FoundGone, FoundLow, FoundShort, Grow}

-- ---- a bit

-- the bit is claimed
abbrev pub Claims : List Seated → List Seated → Spot → ℕ → Type 0
Claims before after at bit = Grow before after (λ shard. bit_mark shard at bit) (λ shard. [])

-- the bit was set before
abbrev pub IsHeld : List Seated → List Seated → Spot → ℕ → Type 0
IsHeld before after at bit =
    Grow before after (λ shard. []) (λ shard. if at.shard == shard then Set at.word bit ∷ [] else [])

-- ---- a purse

-- the need is taken, after steps that found these values
pub record Reserved (before after : List Seated) (purse : Spot) (need : ℕ) : Type 0 where
  pub values : List ℕ
  pub grow : Grow before after (λ shard. debit_mark shard purse need)
      (λ shard. if purse.shard == shard then map (Low purse.word) values else [])

-- the purse has less than the need, and nothing is taken
pub record IsShortOf (before after : List Seated) (purse : Spot) (seen need : ℕ) : Type 0 where
  pub notes : ℕ → List Note
  pub grow : Grow before after (λ shard. []) notes
  pub low : FoundLow notes purse seen need

-- ---- what is wanted

-- why a candidate of this kind has this outcome once its number is claimed
abbrev pub FoundOf : (ℕ → List Note) → Kind → Wanted → Outcome → Type 0
FoundOf notes of what outcome.Accepted = Unit {0}
FoundOf notes of what (outcome.Static why) = ⊥
FoundOf notes of what outcome.SeqTaken = ⊥
FoundOf notes of what outcome.OfferTaken = (too_late of ≡ outcome.OfferTaken) × FoundGone notes what
FoundOf notes of what outcome.NameTaken = (too_late of ≡ outcome.NameTaken) × FoundGone notes what
FoundOf notes of what (outcome.Overdraft seen need) = FoundShort notes what seen need

-- what is wanted is claimed where the candidate is accepted, and a refusal is one that the steps found
pub record Takes (before after : List Seated) (of : Kind) (what : Wanted) (said : Outcome) : Type 0 where
  pub notes : ℕ → List Note
  pub grow : Grow before after (λ shard. if is_accepted said then wanted_mark shard what else []) notes
  pub found : FoundOf notes of what said
