use Rattle.sx_block.proofs.ValidBlocks.{block_commits, block_conserves, block_gets_its_value, block_gives_its_value}
use Rattle.sx_block.proofs.ValidBlocks.{block_held_falls, block_keeps_ledger, block_keeps_rounding}
use Rattle.sx_block.proofs.ValidBlocks.{block_trades_most, blocks_chain, drops_the_impossible, one_in_part}
use Rattle.sx_block.proofs.ValidBlocks.{trades_in_full, trades_within_limits}
use Rattle.sx_block.proofs.effect_laws.block_effect_laws.Goals as goal

pub returns : goal.returns
returns c = record {
  ledger = block_keeps_ledger;
  conserves = block_conserves;
  falls = block_held_falls;
  keeps_rounding = block_keeps_rounding;
  commits = block_commits;
  chain = blocks_chain;
  most = block_trades_most;
  within = trades_within_limits;
  in_full = trades_in_full;
  dropped = drops_the_impossible;
  one_in_part = one_in_part;
  gives = block_gives_its_value;
  gets = block_gets_its_value;
}
