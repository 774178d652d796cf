-- The numbers of the reasons why a block is refused, and those that misfits are.
use Rattle.std.specs.Prelude.{ℕ}
use Rattle.sx_block.specs.declared.invalid.Invalid.{Invalid}
use Rattle.sx_block.specs.declared.invalid.Invalid.TheVariants.{Ended, WrongHeight, WrongParent, WrongBody}
use Rattle.sx_block.specs.declared.invalid.Invalid.TheVariants.{WrongAssets, Tx, TwoCancels, TwoNames, Crowded}
use Rattle.sx_block.specs.declared.invalid.Invalid.TheVariants.{Overdrawn, Overspent, Outside, Unbalanced, Slack, NoCut}
use Rattle.sx_block.specs.declared.invalid.Invalid.TheVariants.{Rounding, WrongAfter}
use Rattle.sx_dual.specs.declared.misfit.Misfit.{Misfit}
use Rattle.sx_dual.specs.declared.misfit.Misfit.TheVariants as misfit

abbrev pub number_of : Invalid → ℕ
number_of Ended = 1
number_of (WrongHeight have said) = 2
number_of (WrongParent said real) = 3
number_of (WrongBody said real) = 4
number_of (WrongAssets have said) = 5
number_of (Tx index why) = 6
number_of (TwoCancels index) = 7
number_of (TwoNames index) = 8
number_of (Crowded have more limit) = 9
number_of (Overdrawn account asset opening debits) = 10
number_of (Overspent account asset opening credits debits) = 17
number_of (Outside sell buy low high y) = 11
number_of (Unbalanced asset out into) = 12
number_of (Slack sell buy gain y) = 13
number_of (NoCut cut) = 14
number_of (Rounding asset said real) = 15
number_of (WrongAfter said real) = 16

-- a misfit of the block's flow, as a reason
abbrev pub reason_of : Misfit → Invalid
reason_of (misfit.Outside sell buy low high y) = Outside sell buy low high y
reason_of (misfit.Unbalanced asset out into) = Unbalanced asset out into
reason_of (misfit.Slack sell buy gain y) = Slack sell buy gain y
