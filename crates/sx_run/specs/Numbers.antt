-- The ranges of the numbers by which a block is made.
use Rattle.std.specs.Prelude.{◌≤◌}
use Rattle.sx_run.specs.declared.commands.making.Numbers.{Numbers}

-- each is in its range
pub record AreNumbers (numbers : Numbers) : Type 0 where
  pub some_worker : 1 ≤ numbers.workers
  pub few_workers : numbers.workers ≤ 64
  pub some_shard : 1 ≤ numbers.shards
  pub few_shards : numbers.shards ≤ 64
  pub some_search : 1 ≤ numbers.searches
  pub few_searches : numbers.searches ≤ 8
