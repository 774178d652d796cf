use Rattle.std.proofs.Common.{length, ap, ◌∙◌, arith}
use Rattle.std.proofs.lemmas.List.FromFn.{length-map-range_with_len}
use Rattle.sx_layout.specs.Plan.{purses_at, bits_at}
use Rattle.sx_layout.proofs.layout.Layout.new.Goals as goal

pub invariant_of-result : goal.invariant_of-result
invariant_of-result c = record {
  few_assets = c.assets.ensures.few;
  few_accounts = c.accounts.ensures.few;
  few_offers = c.offers.ensures.few;
  few_names = omega (arith, c.in_ok-names.ensures.few, c.requires.candidates);
  in_order = c.in_ok-names.ensures.rise;
  some_shard = c.requires.some_shard;
  few_shards = c.requires.few_shards;
  purses = ap length c.in_ok-purses.ensures.purses
      ∙ length-map-range_with_len (purses_at c.args.ledger.now c.args.shards) 0 c.args.shards;
  bits = ap length c.in_ok-purses.ensures.bits
      ∙ length-map-range_with_len (bits_at c.args.ledger.now c.deref.result.now c.args.shards) 0 c.args.shards;
}
