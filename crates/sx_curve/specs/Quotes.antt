-- Quotes, by their pair of assets, and what they have in all.
use Rattle.std.specs.Prelude.{ℕ, ◌*◌, Bool, nat_le, ◌==◌, ◌&&◌, List}
use Rattle.std.specs.List.{filter, sum_by}
use Rattle.sx_curve.specs.declared.quote.Quote.{Quote}

-- the sum of the amounts, and of each amount times its limit
abbrev pub amounts : List Quote → ℕ
amounts quotes = sum_by (λ quote. quote.amount) quotes

abbrev pub weighted_amounts : List Quote → ℕ
weighted_amounts quotes = sum_by (λ quote. quote.amount * quote.limit) quotes

-- the quotes that sell an asset
abbrev pub sellers_of : ℕ → List Quote → List Quote
sellers_of asset quotes = filter (λ quote. quote.sell == asset) quotes

-- the quotes that sell one asset for another
abbrev pub pair_of : ℕ → ℕ → List Quote → List Quote
pair_of sell buy quotes = filter (λ quote. (quote.sell == sell) && (quote.buy == buy)) quotes

-- the limit is at most num / den
abbrev pub is_below : ℕ → ℕ → Quote → Bool
is_below num den quote = nat_le (quote.limit * den) num

-- the quotes of a pair up to that limit
abbrev pub quotes_below : ℕ → ℕ → ℕ → ℕ → List Quote → List Quote
quotes_below sell buy num den quotes = filter (is_below num den) (pair_of sell buy quotes)
