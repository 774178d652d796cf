-- Scripts, and their encoding.
use Rattle.std.specs.Prelude.{ℕ, ◌+◌, ◌<◌, ◌≤◌, List, ◌++◌, length, All}
use Rattle.byteorder.specs.Endian.{big_bytes}
use Rattle.sx_outcome.specs.declared.script.Script.{Script}

-- how many actors a script may have
abbrev pub most_actors : ℕ
most_actors = 8

-- how many turns a script may have
abbrev pub most_turns : ℕ
most_turns = 8000000

-- how many bytes a script takes at most
abbrev pub most_script_bytes : ℕ
most_script_bytes = 5 + most_turns

-- the number of actors, the number of turns, and a byte for each turn
abbrev pub script_bytes : Script → List ℕ
script_bytes script = big_bytes 1 script.actors ++ (big_bytes 4 (length script.turns) ++ script.turns)

pub record IsScript (script : Script) : Type 0 where
  pub some_actor : 1 ≤ script.actors
  pub few_actors : script.actors ≤ most_actors
  pub few_turns : length script.turns ≤ most_turns
  pub each : All (λ turn. turn < script.actors) script.turns
