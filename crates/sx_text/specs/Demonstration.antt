-- The summary of the demonstration.
use Rattle.std.specs.Prelude.{ℕ, ◌-◌, Bool, true, false, List, ◌++◌, codes, length}
use Rattle.std.specs.Fmt.{decimal}
use Rattle.std.specs.List.{count_by}
use Rattle.sx_block.specs.declared.header.Header.{Header}
use Rattle.sx_block.specs.declared.checked.Checked.{Checked}
use Rattle.sx_outcome.specs.declared.outcome.Outcome.{Outcome}
use Rattle.sx_outcome.specs.declared.outcome.Outcome.TheVariants as outcome
use Rattle.sx_text.specs.Pieces.{digest_line, line, spaced}
use Rattle.sx_text.specs.Texts.{bounds_text}

abbrev pub is_accepted : Outcome → Bool
is_accepted outcome.Accepted = true
is_accepted (outcome.Static why) = false
is_accepted outcome.SeqTaken = false
is_accepted outcome.OfferTaken = false
is_accepted outcome.NameTaken = false
is_accepted (outcome.Overdraft seen need) = false

-- how many candidates were accepted
abbrev pub accepted : List Outcome → ℕ
accepted outcomes = count_by is_accepted outcomes

abbrev pub counts_line : List Outcome → List ℕ
counts_line outcomes =
    codes "accepted " ++ (decimal (accepted outcomes)
    ++ (codes " refused " ++ line (decimal (length outcomes - accepted outcomes))))

-- what the check tells: what became of the lower bounds, and the value that is traded
abbrev pub market_lines : Checked → List ℕ
market_lines checked =
    codes "bounds " ++ (bounds_text checked.dropped ++ (codes "\nvalue " ++ line (decimal checked.value)))

-- what rounding keeps of each asset
abbrev pub rounding_line : List ℕ → List ℕ
rounding_line rounding = codes "rounding" ++ line (spaced rounding)

abbrev pub summary_text : List Outcome → Checked → Header → List ℕ
summary_text outcomes checked header =
    counts_line outcomes ++ (market_lines checked
    ++ (rounding_line header.rounding ++ digest_line (codes "after") header.after))

abbrev pub demo_text : ℕ → List Outcome → Checked → Header → List ℕ
demo_text number outcomes checked header =
    codes "demo " ++ (line (decimal number) ++ summary_text outcomes checked header)
