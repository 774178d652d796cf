-- Decoding a script from left to right, with the first fault.
use Rattle.std.specs.Prelude.{ℕ, List, Result, Ok, Err, nat_lt, ◌==◌, if◌then◌else◌}
use Rattle.sx_bytes.specs.declared.fault.Form.TheVariants as form
use Rattle.sx_bytes.specs.declared.fault.FormFault.{FormFault}
use Rattle.sx_bytes.specs.Cursor.{Cursor, left}
use Rattle.sx_bytes.specs.Grammar.{◌>>=◌, between, field_at, many_at}
use Rattle.sx_outcome.specs.declared.script.Script.{Script}
use Rattle.sx_outcome.specs.Scripts.{most_actors, most_turns}

-- the turn of one of the actors
unfoldable pub turn_at : ℕ → Cursor → Result (ℕ × Cursor) FormFault
turn_at actors = field_at 1 (λ turn. nat_lt turn actors) form.Actor

unfoldable pub script_fields_at : Cursor → Result (Script × Cursor) FormFault
script_fields_at c = do
  actors ← field_at 1 (between 1 most_actors) form.Actor c
  count ← field_at 4 (between 0 most_turns) form.TooMany actors.1
  turns ← many_at (turn_at actors.0) count.0 count.1
  Ok (record { actors = actors.0; turns = turns.0 }, turns.1)

-- a whole payload, from its first byte
unfoldable pub script_at : List ℕ → Result Script FormFault
script_at bytes = do
  script ← script_fields_at (record { bytes = bytes; place = 0 })
  if left script.1 == 0 then Ok script.0 else Err (record { at = script.1.place; fault = form.Rest })
