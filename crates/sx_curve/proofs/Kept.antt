-- What the entries that curves keep say of the quotes.
use Rattle.std.proofs.Common.{◌≡◌, ℕ, ◌+◌, ◌<◌, List, get_or, sym, subst, arith}
use Rattle.std.proofs.lemmas.List.{get_or_read}
use Rattle.sx_curve.specs.declared.quote.Quote.{Quote}
use Rattle.sx_curve.specs.Curves.{AreBegins, BeginsAt, IsPairRange, place_of_pair}

begin_read : (quotes : List Quote) (begins : List ℕ) → AreBegins quotes begins → (place begin : ℕ) → place < 1025
    → begin ≡ get_or begins place begin
    → BeginsAt quotes place begin
begin_read quotes begins pairs place begin lt is =
    let read = get_or_read begins place begin (omega (arith, pairs.full)) is 0 in
    subst (BeginsAt quotes place) (sym read) (pairs.each place lt)

pub range_read : (quotes : List Quote) (begins : List ℕ) → AreBegins quotes begins → (sell buy place begin end : ℕ)
    → buy < 32 → place ≡ place_of_pair sell buy → place < 1024
    → begin ≡ get_or begins place begin → end ≡ get_or begins (place + 1) end
    → IsPairRange quotes sell buy begin end
range_read quotes begins pairs sell buy place begin end asset is lt first next = record {
  asset = asset;
  begins = subst (λ (p : ℕ). BeginsAt quotes p begin) is
      (begin_read quotes begins pairs place begin (omega arith) first);
  ends = subst (λ (p : ℕ). BeginsAt quotes (p + 1) end) is
      (begin_read quotes begins pairs (place + 1) end (omega arith) next);
}
