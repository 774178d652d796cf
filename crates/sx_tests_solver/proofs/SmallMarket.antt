-- A few quotes of small amounts among three assets.
use Rattle.std.proofs.Common.{◌^◌, ◌≤◌, ◌==◌, List, length, All, arith}
use Rattle.std.proofs.lemmas.List.Elements.{All-filter}
use Rattle.std.proofs.lemmas.List.Sums.{count_by-le-length, length-filter, sum_by-le}
use Rattle.sx_curve.specs.declared.quote.Quote.{Quote}
use Rattle.sx_curve.specs.Curves.{AreQuotes, IsAmong}
use Rattle.sx_curve.specs.Quotes.{sellers_of}

abbrev pub IsSmall : Quote → Type 0
IsSmall quote = IsAmong 3 quote × (quote.amount ≤ 2 ^ 59)

pub small_market : (quotes : List Quote) → length quotes ≤ 8 → All IsSmall quotes → AreQuotes 3 quotes
small_market quotes few small = record {
  some = omega arith;
  few = omega arith;
  among = λ k d lt. (small k d lt).0;
  for_sale = λ asset below.
      let sells = λ (quote : Quote). quote.sell == asset in
      let each : All (λ (quote : Quote). quote.amount ≤ 2 ^ 59) (sellers_of asset quotes) =
      All-filter sells (λ (quote : Quote). quote.amount ≤ 2 ^ 59) quotes (λ k d lt. (small k d lt).1) in
      omega (
        arith,
        sum_by-le (λ (quote : Quote). quote.amount) (2 ^ 59) (sellers_of asset quotes) each,
        length-filter sells quotes,
        count_by-le-length sells quotes,
      );
}
