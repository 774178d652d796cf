-- A market of one quote of one unit, many times.
use Rattle.std.proofs.Common.{◌≡◌, ℕ, ◌^◌, ◌≤◌, ◌==◌, arith, replicate}
use Rattle.std.proofs.lemmas.List.{length-replicate}
use Rattle.std.proofs.lemmas.List.Elements.{All-filter, All-replicate}
use Rattle.std.proofs.lemmas.List.Sums.{count_by-le-length, length-filter, sum_by-le}
use Rattle.sx_curve.specs.declared.quote.Quote.{Quote}
use Rattle.sx_curve.specs.Curves.{AreQuotes, IsAmong}
use Rattle.sx_curve.specs.Quotes.{sellers_of}

pub alike_market : (quote : Quote) (n : ℕ) → IsAmong 32 quote → quote.amount ≡ 1 → n ≤ 2 ^ 20 →
    AreQuotes 32 (replicate n quote)
alike_market quote n among one few = record {
  some = omega arith;
  few = omega arith;
  among = All-replicate (IsAmong 32) n quote among;
  for_sale = λ asset below.
      let quotes = replicate n quote in
      let sells = λ (quote : Quote). quote.sell == asset in
      let small = λ (quote : Quote). quote.amount ≤ 1 in
      let each = All-filter sells small quotes (All-replicate small n quote (omega arith)) in
      omega (
        arith,
        sum_by-le (λ (quote : Quote). quote.amount) 1 (sellers_of asset quotes) each,
        length-filter sells quotes,
        count_by-le-length sells quotes,
        length-replicate n quote,
      );
}
