use Rattle.sx_block.proofs.BlockFaults.{faults_within}
use Rattle.sx_block.proofs.BlockLaws.{blocks_of_one_encoding, blocks_no_prefix}
use Rattle.sx_block.proofs.Lengths.{block_most, block_fits}
use Rattle.sx_block.proofs.LongestBlock.{some_has_most}
use Rattle.sx_block.proofs.laws.block_laws.Goals as goal

pub returns : goal.returns
returns c = record {
  one = blocks_of_one_encoding;
  first = blocks_no_prefix;
  most = block_most;
  some = some_has_most;
  fits = block_fits;
  within = faults_within;
}
