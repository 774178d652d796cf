-- Decoding an outcome, or a list of them, from left to right, with the first fault.
use Rattle.std.specs.Prelude.{ℕ, ◌+◌, List, Result, Ok, Err, ◌==◌, if◌then◌else◌}
use Rattle.sx_base.specs.Ranges.{most_amount}
use Rattle.sx_bytes.specs.declared.fault.Form.TheVariants as form
use Rattle.sx_bytes.specs.declared.fault.FormFault.{FormFault}
use Rattle.sx_bytes.specs.Cursor.{Cursor, left}
use Rattle.sx_bytes.specs.Grammar.{◌>>=◌, between, field_at, many_at}
use Rattle.sx_outcome.specs.declared.outcome.Outcome.{Outcome}
use Rattle.sx_outcome.specs.declared.outcome.Outcome.TheVariants as outcome
use Rattle.sx_outcome.specs.Outcomes.{most_outcomes}
use Rattle.sx_ledger.specs.declared.statics.Static.{Static}
use Rattle.sx_ledger.specs.declared.statics.Static.TheVariants.{UnknownAccount, SeqBehind, SeqBeyond, UnknownAsset}
use Rattle.sx_ledger.specs.declared.statics.Static.TheVariants.{SamePair, UnknownPayee, AccountExists, NoSuchOffer}
use Rattle.sx_ledger.specs.declared.statics.Static.TheVariants.{Dust, SeqUsed}

-- the static refusal of a number from 1 to 10
abbrev pub static_numbered : ℕ → Static
static_numbered n =
    if n == 1 then UnknownAccount else
    (if n == 2 then SeqBehind else
    (if n == 3 then SeqBeyond else
    (if n == 4 then UnknownAsset else
    (if n == 5 then SamePair else
    (if n == 6 then UnknownPayee else
    (if n == 7 then AccountExists else
    (if n == 8 then NoSuchOffer else
    (if n == 9 then Dust else SeqUsed))))))))

unfoldable pub static_at : Cursor → Result (Outcome × Cursor) FormFault
static_at c = do
  number ← field_at 1 (between 1 10) form.Tag c
  Ok (outcome.Static (static_numbered number.0), number.1)

-- what was seen, and an amount above it that was needed
unfoldable pub overdraft_at : Cursor → Result (Outcome × Cursor) FormFault
overdraft_at c = do
  seen ← field_at 8 (between 0 most_amount) form.AmountRange c
  need ← field_at 8 (between (seen.0 + 1) most_amount) form.AmountRange seen.1
  Ok (outcome.Overdraft seen.0 need.0, need.1)

-- the fields after the number of an outcome
abbrev pub fields_at : ℕ → Cursor → Result (Outcome × Cursor) FormFault
fields_at number c =
    if number == 0 then Ok (outcome.Accepted, c) else
    (if number == 1 then static_at c else
    (if number == 2 then Ok (outcome.SeqTaken, c) else
    (if number == 3 then Ok (outcome.OfferTaken, c) else
    (if number == 4 then Ok (outcome.NameTaken, c) else overdraft_at c))))

unfoldable pub outcome_at : Cursor → Result (Outcome × Cursor) FormFault
outcome_at c = do
  number ← field_at 1 (between 0 5) form.Tag c
  fields_at number.0 number.1

unfoldable pub outcome_list_at : Cursor → Result (List Outcome × Cursor) FormFault
outcome_list_at c = do
  count ← field_at 4 (between 0 most_outcomes) form.TooMany c
  many_at outcome_at count.0 count.1

-- a whole payload, from its first byte
unfoldable pub outcomes_at : List ℕ → Result (List Outcome) FormFault
outcomes_at bytes = do
  outcomes ← outcome_list_at (record { bytes = bytes; place = 0 })
  if left outcomes.1 == 0 then Ok outcomes.0 else Err (record { at = outcomes.1.place; fault = form.Rest })
