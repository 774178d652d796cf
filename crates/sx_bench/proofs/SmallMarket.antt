-- At most 2^20 quotes of at most 2^40 each have at most 2^62 in all.
use Rattle.std.proofs.Common.{ℕ, ◌^◌, ◌≤◌, ◌==◌, List, length, All, arith}
use Rattle.std.proofs.lemmas.List.Elements.{All-filter}
use Rattle.std.proofs.lemmas.List.Sums.{count_by-le-length, length-filter, sum_by-le}
use Rattle.sx_curve.specs.declared.quote.Quote.{Quote}
use Rattle.sx_curve.specs.Curves.{AreQuotes}
use Rattle.sx_curve.specs.Quotes.{sellers_of}
use Rattle.sx_bench.specs.Quotes.{IsSmall}

pub small_market : (assets : ℕ) (quotes : List Quote) → 2 ≤ assets → assets ≤ 32 → length quotes ≤ 2 ^ 20 →
    All (IsSmall assets) quotes → AreQuotes assets quotes
small_market assets quotes some few count small = record {
  some = omega arith;
  few = few;
  among = λ k d lt. (small k d lt).among;
  for_sale = λ asset below.
      let sells = λ (quote : Quote). quote.sell == asset in
      let each : All (λ (quote : Quote). quote.amount ≤ 2 ^ 40) (sellers_of asset quotes) =
      All-filter sells (λ (quote : Quote). quote.amount ≤ 2 ^ 40) quotes (λ k d lt. (small k d lt).small) in
      omega (
        arith,
        sum_by-le (λ (quote : Quote). quote.amount) (2 ^ 40) (sellers_of asset quotes) each,
        length-filter sells quotes,
        count_by-le-length sells quotes,
      );
}
