use Rattle.sx_block.proofs.FillLaws.{rounding_never_negative}
use Rattle.sx_block.proofs.TradeTotals.{trade_conserves, trade_falls_by_rounding, trade_keeps_rounding}
use Rattle.sx_block.proofs.TradeKeeps.{trade_keeps_ledger}
use Rattle.sx_block.proofs.effect_laws.trade_laws.Goals as goal

pub returns : goal.returns
returns c = record {
  rounding = rounding_never_negative;
  conserves = trade_conserves;
  falls = trade_falls_by_rounding;
  keeps_rounding = trade_keeps_rounding;
  ledger = trade_keeps_ledger;
}
