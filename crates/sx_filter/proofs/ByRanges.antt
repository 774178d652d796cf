-- The candidates of parts by ranges are those of the ranges.
use Rattle.std.proofs.Common.{◌≡◌, ℕ, suc, ◌+◌, ◌^◌, ◌<◌, ◌≤◌, List, [], ◌∷◌, ◌++◌, get_or, length, take}
use Rattle.std.proofs.Common.{refl, sym, ap₂, subst, ◌∙◌, arith}
use Rattle.std.specs.List.{filter, flat_map}
use Rattle.std.proofs.lemmas.List.Elements.{filter-append}
use Rattle.sx_filter.specs.Additions.{AreAdditions}
use Rattle.sx_filter.specs.ByRange.{AreByRange, pieces}
use Rattle.sx_filter.specs.Ranges.{is_in}
use Rattle.sx_filter.specs.declared.parts.by_range.ByRange.{ByRange}
use Rattle.sx_filter.proofs.AdditionLaws.{accounts_fit, offers_fit, together}
use Rattle.sx_filter.proofs.Joined.{all, no_longer, one_more}
use Rattle.sx_filter.proofs.Picking.{element}
use Rattle.sx_outcome.specs.declared.space.Additions.{Additions}
use Rattle.sx_tx.specs.declared.tx.Tx.{Tx}
use Rattle.sx_tx.specs.Transactions.{most_transactions}

-- of all parts, those in a range
pub pieces_are : (cuts : List ℕ) (range : ℕ) → range < length cuts + 1 → (lists : List (List Tx))
    → (parts : List ByRange) → AreByRange cuts lists parts
    → pieces range parts ≡ filter (is_in cuts range) (flat_map (λ list. list) lists)
pieces_are cuts range lt [] [] are = refl
pieces_are cuts range lt [] (part ∷ parts) are = absurd (omega (arith, are.one_each))
pieces_are cuts range lt (list ∷ lists) [] are = absurd (omega (arith, are.one_each))
pieces_are cuts range lt (list ∷ lists) (part ∷ parts) are =
    let rest : AreByRange cuts lists parts = record {
      one_each = omega (arith, are.one_each);
      each = λ k c d less. are.each (suc k) c d (omega (arith, less));
    } in
    ap₂ (λ (a b : List Tx). a ++ b) ((are.each 0 list part (omega arith)).each range lt)
    (pieces_are cuts range lt lists parts rest)
    ∙ sym (filter-append (is_in cuts range) list (flat_map (λ l. l) lists))

-- ---- what candidates would add, one part more

module _ (cuts : List ℕ) (lists : List (List Tx)) (parts : List ByRange) (are : AreByRange cuts lists parts) (i : ℕ)
    (part : ByRange) (within : i < length parts) (is : part ≡ get_or parts i part) (more : Additions)
    (before : AreAdditions (all (take i lists)) more) (few : length (all lists) ≤ most_transactions) where
  inside : i < length lists
  inside = omega (arith, within, are.one_each)

  abbrev chosen : (list : List Tx) × (list ≡ get_or lists i list)
  chosen = element lists i inside

  ours : AreAdditions chosen.0 part.more
  ours =
      subst (λ (one : ByRange). AreAdditions chosen.0 one.more) (sym is)
      (subst (λ (list : List Tx). AreAdditions list (get_or parts i part).more) (sym chosen.1)
      ((are.each i chosen.0 part inside).more))

  fits : length (all (take i lists)) + length chosen.0 ≤ most_transactions
  fits = omega (arith, no_longer lists i chosen.0 inside chosen.1, few)

  pub accounts_still_fit : more.accounts + part.more.accounts < 2 ^ 32
  accounts_still_fit = accounts_fit (all (take i lists)) chosen.0 more part.more before ours fits

  pub offers_still_fit : more.offers + part.more.offers < 2 ^ 32
  offers_still_fit = offers_fit (all (take i lists)) chosen.0 more part.more before ours fits

  pub one_added : (whole : Additions) → whole.accounts ≡ more.accounts + part.more.accounts
      → whole.offers ≡ more.offers + part.more.offers → AreAdditions (all (take (i + 1) lists)) whole
  one_added whole accounts offers =
      subst (λ (txs : List Tx). AreAdditions txs whole) (sym (one_more lists i chosen.0 inside chosen.1))
      (together (all (take i lists)) chosen.0 more part.more before ours whole accounts offers)
