-- What the posted prices mend.
use Rattle.std.proofs.Common.{◌≡◌, ℕ, ◌≤◌, List, length, Result, Ok, Err, refl, sym, ap, subst, ◌∙◌}
use Rattle.std.specs.Prelude.{IfOk, slice_index}
use Rattle.sx_block.specs.declared.header.Block.{Block}
use Rattle.sx_multi.specs.Quotes.{imbalance_at, posted_at, quotes_of}
use Rattle.sx_curve.specs.declared.quote.Quote.{Quote}
use Rattle.sx_curve.specs.Search.{held_after}
use Rattle.sx_curve.proofs.SearchLaws.{search_keeps_length, search_mends}
use Rattle.sx_ledger.specs.declared.parts.Parts.{Parts}
use Rattle.sx_ledger.specs.Body.{body_after}
use Rattle.sx_multi.specs.Posted.{first_exponents, first_least, off_of, posted}
use Rattle.sx_tx.specs.declared.tx.Tx.{Tx}

-- searches without a round end where they begin
pub no_round : (quotes : List Quote) (prices : List ℕ) (j rounds searches : ℕ) → rounds ≡ 0
    → posted quotes prices j rounds searches ≡ prices
unfolding held_after
no_round quotes prices j rounds searches none = rw none refl

-- the exponent that the best search begins with
abbrev best_first : List Quote → List ℕ → ℕ → ℕ → ℕ → ℕ
best_first quotes prices j rounds searches =
    slice_index first_exponents (first_least (off_of quotes prices j rounds) searches)

-- there are as many prices as there were
pub posted_length : (quotes : List Quote) (prices : List ℕ) (j rounds searches : ℕ)
    → length (posted quotes prices j rounds searches) ≡ length prices
posted_length quotes prices j rounds searches =
    search_keeps_length (best_first quotes prices j rounds searches) quotes prices j rounds

pub mends_from : {E : Type 0} (parts : Parts) (txs : List Tx) (j rounds searches : ℕ) (prices : List ℕ)
    (r : Result Block E) → prices ≡ posted_at parts txs j rounds searches → IfOk r (λ block. block.txs ≡ txs)
    → IfOk r (λ block. block.header.prices ≡ prices)
    → IfOk r (λ block. imbalance_at parts block.txs j block.header.prices ≤ imbalance_at parts block.txs j parts.prices)
mends_from parts txs j rounds searches prices (Ok block) is same priced =
    let quotes = quotes_of (body_after parts block.txs).offers in
    let at : block.header.prices ≡ posted_at parts block.txs j rounds searches =
    priced ∙ is ∙ ap (λ (xs : List Tx). posted_at parts xs j rounds searches) (sym same) in
    subst (λ (ps : List ℕ). imbalance_at parts block.txs j ps ≤ imbalance_at parts block.txs j parts.prices) (sym at)
    (search_mends (best_first quotes parts.prices j rounds searches) quotes parts.prices j rounds)
mends_from parts txs j rounds searches prices (Err e) is same priced = tt
