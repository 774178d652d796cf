-- Quotes that are drawn.
use Rattle.std.specs.Prelude.{ℕ, ◌≤◌, ◌^◌}
use Rattle.sx_curve.specs.declared.quote.Quote.{Quote}
use Rattle.sx_curve.specs.Curves.{IsAmong}

-- a quote of two of the assets with an amount of at most 2^40
pub record IsSmall (assets : ℕ) (quote : Quote) : Type 0 where
  pub among : IsAmong assets quote
  pub small : quote.amount ≤ 2 ^ 40
