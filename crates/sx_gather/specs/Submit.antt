-- What one submit adds to the views of a pass, and what its steps found.
use Rattle.std.specs.Prelude.{◌≡◌, ℕ, ◌<◌, List, [], ◌∷◌, ◌++◌, map, Ok, Err}
use Rattle.sx_event.specs.declared.marks.Claim.{Claim}
use Rattle.sx_event.specs.declared.marks.Note.{Note}
use Rattle.sx_event.specs.declared.marks.Note.TheVariants.{Low, Set}
use Rattle.sx_event.specs.View.{View}
use Rattle.sx_layout.specs.declared.asked.Wanted.{Wanted}
use Rattle.sx_layout.specs.declared.asked.Wanted.TheVariants as wanted
use Rattle.sx_outcome.specs.declared.outcome.Outcome.{Outcome}
use Rattle.sx_outcome.specs.declared.outcome.Outcome.TheVariants as outcome
use Rattle.sx_layout.specs.declared.spot.Spot.{Spot}
use Rattle.sx_layout.specs.Asked.{number_spot, wanted_of}
use Rattle.sx_layout.specs.Deciding.{too_late}
use Rattle.sx_outcome.specs.Gathering.{Decision}
use Rattle.sx_layout.specs.Marks.{marks_of}
use Rattle.sx_layout.specs.Plan.{Plan}
use Rattle.sx_ledger.specs.declared.parts.Parts.{Parts}
use Rattle.sx_ledger.specs.Static.{static_of}
use Rattle.sx_shard.specs.Models.{Seated}
use Rattle.sx_shard.specs.Reserve.{Finds}
use Rattle.sx_tx.specs.declared.tx.Tx.{Tx}
use Rattle.sx_gather.specs.Passes.{view_at}

-- ---- more claims and notes

-- the view with more claims and notes
abbrev pub grown : View → List Claim → List Note → View
grown view claims notes = record view { claims = view.claims ++ claims; notes = view.notes ++ notes }

-- the view at each shard has these claims and notes more, and else is as it was
abbrev pub Grow : List Seated → List Seated → (ℕ → List Claim) → (ℕ → List Note) → Type 0
Grow before after claims notes = (shard : ℕ) → view_at after shard ≡ grown (view_at before shard) (claims shard)
    (notes shard)

-- ---- what the steps of one call found, by the notes of each shard

-- a step found the bit set
abbrev pub FoundSet : (ℕ → List Note) → Spot → ℕ → Type 0
FoundSet notes at bit = notes at.shard ≡ Set at.word bit ∷ []

-- a bit is wanted, and a step found it set
abbrev pub FoundGone : (ℕ → List Note) → Wanted → Type 0
FoundGone notes (wanted.Bit at bit) = FoundSet notes at bit
FoundGone notes (wanted.Units purse need) = ⊥

-- a look and lost takes found these values of the purse, of which the last is less than what is needed
pub record FoundLow (notes : ℕ → List Note) (purse : Spot) (seen need : ℕ) : Type 0 where
  pub earlier : List ℕ
  pub finds : Finds need earlier seen
  pub short : seen < need
  pub notes_are : notes purse.shard ≡ map (Low purse.word) (earlier ++ seen ∷ [])

-- units are wanted, as many as are needed, and steps found the purse to have less
abbrev pub FoundShort : (ℕ → List Note) → Wanted → ℕ → ℕ → Type 0
FoundShort notes (wanted.Bit at bit) seen need = ⊥
FoundShort notes (wanted.Units purse amount) seen need = (need ≡ amount) × FoundLow notes purse seen need

-- why a candidate has this outcome
abbrev pub Found : Parts → Plan → (ℕ → List Note) → Tx → Outcome → Type 0
Found parts plan notes tx outcome.Accepted = static_of parts tx ≡ Ok tt
Found parts plan notes tx (outcome.Static why) = static_of parts tx ≡ Err why
Found parts plan notes tx outcome.SeqTaken =
    (static_of parts tx ≡ Ok tt) × FoundSet notes (number_spot parts plan tx).0 (number_spot parts plan tx).1
Found parts plan notes tx outcome.OfferTaken =
    (static_of parts tx ≡ Ok tt) × (too_late tx.kind ≡ outcome.OfferTaken) × FoundGone notes (wanted_of parts plan tx)
Found parts plan notes tx outcome.NameTaken =
    (static_of parts tx ≡ Ok tt) × (too_late tx.kind ≡ outcome.NameTaken) × FoundGone notes (wanted_of parts plan tx)
Found parts plan notes tx (outcome.Overdraft seen need) =
    (static_of parts tx ≡ Ok tt) × FoundShort notes (wanted_of parts plan tx) seen need

-- ---- the whole

-- the steps of a call decide a candidate: the pass claims its marks and nothing else, and a refusal is one that these
-- steps found
pub record Decides (parts : Parts) (plan : Plan) (before after : List Seated) (one : Decision) : Type 0 where
  pub notes : ℕ → List Note
  pub grow : Grow before after (λ shard. marks_of parts plan shard one) notes
  pub found : Found parts plan notes one.tx one.outcome
