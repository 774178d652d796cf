-- The text of what a record holds.
use Rattle.std.specs.Prelude.{ℕ, List}
use Rattle.sx_block.specs.Block.{IsBlock}
use Rattle.sx_text.specs.declared.shown.Shown.{Shown}
use Rattle.sx_text.specs.declared.shown.Shown.TheVariants.{State, Candidates, Block, Outcomes, Script}
use Rattle.sx_text.specs.Blocks.{block_text}
use Rattle.sx_text.specs.Gathering.{outcomes_text, script_text}
use Rattle.sx_text.specs.States.{state_text}
use Rattle.sx_text.specs.Transactions.{candidates_text}

abbrev pub shown_text : Shown → List ℕ
shown_text (State ledger) = state_text ledger
shown_text (Candidates txs) = candidates_text txs
shown_text (Block block) = block_text block
shown_text (Outcomes outcomes) = outcomes_text outcomes
shown_text (Script script) = script_text script

-- a block has the form of one
abbrev pub IsShowable : Shown → Type 0
IsShowable (State ledger) = Unit {0}
IsShowable (Candidates txs) = Unit {0}
IsShowable (Block block) = IsBlock block
IsShowable (Outcomes outcomes) = Unit {0}
IsShowable (Script script) = Unit {0}
