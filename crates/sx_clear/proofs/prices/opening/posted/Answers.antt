use Rattle.std.proofs.Common.{ℕ, false, length, subst, sym, ap, ◌∙◌}
use Rattle.sx_fill.specs.Bounds.{HasBounds}
use Rattle.sx_multi.specs.Quotes.{quotes_of}
use Rattle.sx_clear.proofs.PriceLaws.{no_round, posted_length}
use Rattle.sx_clear.proofs.prices.opening.posted.Goals as goal
use Rattle.sx_ledger.specs.declared.parts.Parts.{Parts}
use Rattle.sx_ledger.specs.Bounds.{high_of, low_of}
use Rattle.sx_multi.specs.Posted.{posted}

pub returns-then-by-eq0-clause-prices : goal.returns-then-by-eq0-clause-prices
returns-then-by-eq0-clause-prices g c =
    let quotes = quotes_of c.args.offers.now in
    let by = c.args.by in
    c.in_ok-prices.ensures ∙ ap (λ (parts : Parts). parts.prices) c.parts.ensures.parts
    ∙ sym (no_round quotes c.args.ledger.now.prices by.mu by.rounds by.searches c.if-by-eq0.true)

pub bounds_by_curves-requires : goal.bounds_by_curves-requires
bounds_by_curves-requires g c =
    let by = c.args.by in
    record {
      assets = c.in_ok-curves.ensures.assets ∙ c.requires.assets
          ∙ ap (λ (parts : Parts). length parts.prices) (sym c.parts.ensures.parts)
          ∙ sym (ap length c.in_ok-prices-2.ensures.exact
          ∙ posted_length c.in_ok-curves.curves.quotes c.parts.result.now.prices by.mu by.rounds by.searches);
    }

pub returns-clause-prices : goal.returns-clause-prices
returns-clause-prices g c =
    let quotes = quotes_of c.args.offers.now in
    let by = c.args.by in
    c.in_ok-prices-2.ensures.exact
    ∙ c.posted_laws.ensures.permuted quotes c.in_ok-curves.curves.quotes c.parts.result.now.prices by.mu by.rounds
    by.searches c.in_ok-curves.ensures.quotes
    ∙ ap (λ (parts : Parts). posted quotes parts.prices by.mu by.rounds by.searches) c.parts.ensures.parts

pub returns-clause-bounds : goal.returns-clause-bounds
returns-clause-bounds g c =
    let offers = c.args.offers.now in
    let prices = c.in_ok-prices-2.prices in
    let by = c.args.by in
    subst (λ (n : ℕ). HasBounds n (low_of prices by.mu false offers) (high_of prices offers) c.in_ok-bounds-2.bounds)
    (ap length c.in_ok-prices-2.ensures.exact
    ∙ posted_length c.in_ok-curves.curves.quotes c.parts.result.now.prices by.mu by.rounds by.searches
    ∙ ap (λ (parts : Parts). length parts.prices) c.parts.ensures.parts)
    (c.in_ok-bounds-2.ensures offers c.in_ok-curves.ensures.quotes)
