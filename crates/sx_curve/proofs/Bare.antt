-- A pair whose quotes end where they begin has none.
use Rattle.std.proofs.Common.{◌≡◌, ℕ, suc, ◌+◌, ◌<◌, List, [], ◌∷◌, length, get_or, refl, inl, inr, arith}
use Rattle.std.proofs.lemmas.Bool.{cases_lt}
use Rattle.sx_curve.specs.declared.quote.Quote.{Quote}
use Rattle.sx_curve.specs.Curves.{IsPairRange, place_of_pair, place_of_quote}
use Rattle.sx_curve.specs.Quotes.{pair_of}
use Rattle.sx_curve.proofs.BelowSums.{of_other}

none_of : (sell buy : ℕ) (quotes : List Quote)
    → ((k : ℕ) (d : Quote) → k < length quotes → place_of_quote (get_or quotes k d) ≡ place_of_pair sell buy → ⊥)
    → pair_of sell buy quotes ≡ []
none_of sell buy [] other = refl
none_of sell buy (q ∷ qs) other =
    let no = of_other sell buy q (other 0 q (omega arith)) in
    rw no (none_of sell buy qs (λ k d lt. other (suc k) d (omega arith)))

pub bare : (quotes : List Quote) (sell buy begin end : ℕ) → IsPairRange quotes sell buy begin end → begin ≡ end
    → pair_of sell buy quotes ≡ []
bare quotes sell buy begin end range same =
    none_of sell buy quotes (λ k d lt is.
    elim (cases_lt k begin) [
      | inl less ↦ let down = range.begins.before k d (omega arith) less in absurd (omega arith)
      | inr more ↦ let up = range.ends.after k d (omega arith) lt in absurd (omega arith)
    ])
