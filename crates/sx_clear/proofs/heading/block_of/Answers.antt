use Rattle.std.proofs.Common.{sym, ◌∙◌, arith}
use Rattle.sx_block.specs.declared.header.Block.{Block}
use Rattle.sx_block.specs.Block.{IsBlock}
use Rattle.sx_clear.proofs.BlockLaws.{rounding_small}
use Rattle.sx_clear.proofs.heading.block_of.Goals as goal
use Rattle.sx_block.proofs.Rules.{fitting_is_sound, header_rules, sound_is_valid}
use Rattle.sx_ledger.proofs.BodyKeepsLedger.{body_keeps_ledger}

pub returns-clause-valid : goal.returns-clause-valid
returns-clause-valid c =
    let parts = c.args.ledger.value in
    let asked = c.requires in
    let terms = asked.terms in
    let trade = terms.trade in
    let is = asked.kept in
    let middle = body_keeps_ledger 1 parts c.args.txs is asked.each asked.admissible in
    let block : Block = record {
      header = record {
        version = 1;
        height = c.args.height;
        parent = c.args.digests.parent;
        body = c.args.digests.body;
        mu = c.args.terms.mu;
        prices = c.args.terms.prices;
        trades = c.args.terms.trade.flow;
        dropped = c.args.terms.trade.dropped;
        potentials = c.args.terms.trade.potentials;
        rounding = c.args.terms.rounding;
        after = c.args.terms.after;
      };
      txs = c.args.txs;
    } in
    let form : IsBlock block = record {
      header = record {
        some_version = omega arith;
        few_versions = omega arith;
        height = omega (arith, asked.height, asked.below_last);
        parent = asked.digests.parent.whole;
        body = asked.digests.body.whole;
        some_mu = omega (arith, c.get-exponent.ensures.value, c.get-exponent.ensures.positive);
        most_mu = omega (arith, c.get-exponent.ensures.value, c.get-exponent.ensures.in_range);
        some_asset = omega (arith, terms.assets, is.some_asset);
        few_assets = omega (arith, terms.assets, is.few_assets);
        prices = terms.in_range;
        same_assets = trade.best.same_assets ∙ sym terms.assets;
        trades = c.assets-assets.ensures.flow;
        cut = rw terms.assets trade.set;
        one_potential = trade.best.one_potential ∙ sym terms.assets;
        potentials = c.potential_ranges.ensures;
        one_rounding = terms.rounded.one_each ∙ sym terms.assets;
        rounding = rounding_small parts c.args.txs c.args.terms.prices c.args.terms.mu c.args.terms.trade middle
            terms.assets terms.in_range trade c.args.terms.rounding asked.below_last terms.rounded;
        after = asked.digest;
      };
      few = asked.few;
      each = asked.each;
      ordered = asked.admissible.ordered;
    } in
    sound_is_valid parts block
    (fitting_is_sound parts block form
    (header_rules parts block asked.below_last asked.height asked.digests.parent.hash asked.digests.body.hash terms.assets)
    asked.admissible trade.best.fits trade.cut terms.rounded.is) terms.after
