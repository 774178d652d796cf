use Rattle.std.proofs.Common.{◌≡◌, IfOk, sym, ap, subst, ◌∙◌, arith}
use Rattle.sx_apply.specs.Trading.{CanExecute}
use Rattle.sx_apply.proofs.applying.apply.Goals as goal
use Rattle.sx_block.specs.Rule as rule
use Rattle.sx_block.specs.Validity.{flow_of_block}
use Rattle.sx_fill.specs.AllFills.{all_fills}
use Rattle.sx_block.proofs.Rules.{applicable_is_body, applicable_is_tradable}
use Rattle.sx_ledger.specs.declared.parts.Parts.{Parts}
use Rattle.sx_ledger.specs.Body.{body_after}
use Rattle.sx_ledger.specs.Trade.{traded}

pub apply_accounts-requires-clause-body : goal.apply_accounts-requires-clause-body
apply_accounts-requires-clause-body c = record {
  txs = c.args.block.now.txs;
  body = applicable_is_body c.args.ledger c.args.block.now c.requires.applicable;
  is = c.requires.effects.tally;
}

pub apply_accounts-requires-clause-offers : goal.apply_accounts-requires-clause-offers
apply_accounts-requires-clause-offers c = c.requires.effects.offers

pub execute-requires-clause-below_last : goal.execute-requires-clause-below_last
execute-requires-clause-below_last c =
    let parts = c.args.ledger in
    let block = c.args.block.now in
    let after : c.in_ok-after_body.after_body ≡ body_after parts block.txs =
    c.in_ok-after_body.ensures block.txs (applicable_is_body parts block c.requires.applicable)
    c.requires.effects.tally in
    omega (
      arith,
      ap (λ (p : Parts). p.height) after,
      c.requires.applicable.rules rule.BelowLast (omega arith) (λ e. absurd cc),
    )

pub execute-requires-clause-fills : goal.execute-requires-clause-fills
execute-requires-clause-fills c =
    let parts = c.args.ledger in
    let block = c.args.block.now in
    let after : c.in_ok-after_body.after_body ≡ body_after parts block.txs =
    c.in_ok-after_body.ensures block.txs (applicable_is_body parts block c.requires.applicable)
    c.requires.effects.tally in
    let trade = applicable_is_tradable parts block c.requires.applicable in
    subst (λ (p : Parts). CanExecute p block.header.prices block.header.rounding c.items.result.now) (sym after)
    (record {
      flow = flow_of_block block;
      tradable = trade.0;
      rounded = trade.1;
      are = c.items.ensures ∙ c.requires.effects.fills;
    })

pub returns : goal.returns
returns c =
    let parts = c.args.ledger in
    let block = c.args.block.now in
    let flow = flow_of_block block in
    let prices = block.header.prices in
    let after : c.in_ok-after_body.after_body ≡ body_after parts block.txs =
    c.in_ok-after_body.ensures block.txs (applicable_is_body parts block c.requires.applicable)
    c.requires.effects.tally in
    let are : c.items.result.now ≡ all_fills prices flow c.in_ok-after_body.after_body.offers =
    c.items.ensures ∙ c.requires.effects.fills ∙ ap (λ (p : Parts). all_fills prices flow p.offers) (sym after) in
    subst (λ (p : Parts). IfOk c.execute.result (λ left. left ≡ traded p prices flow block.header.rounding)) after
    (c.execute.ensures flow are)
