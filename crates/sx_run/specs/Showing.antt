-- What a text shows, as an item.
use Rattle.sx_meaning.specs.Items.{Item, block, candidates, outcomes, script, state}
use Rattle.sx_text.specs.declared.shown.Shown.{Shown}
use Rattle.sx_text.specs.declared.shown.Shown.TheVariants as shown

abbrev pub item_of : Shown → Item
item_of (shown.State parts) = state parts
item_of (shown.Candidates txs) = candidates txs
item_of (shown.Block said) = block said
item_of (shown.Outcomes told) = outcomes told
item_of (shown.Script turns) = script turns
