-- Accounts that are changed one after the other, each where it stands.
use Rattle.std.proofs.Common.{◌≡◌, ℕ, ◌+◌, ◌<◌, ◌≤◌, List, length, get_or, map, set, inl, inr, sym, ap, ◌∙◌, arith}
use Rattle.std.proofs.lemmas.Bool.{cases_eq}
use Rattle.std.proofs.lemmas.Grind.{get_or-set_at}
use Rattle.std.proofs.lemmas.List.{get_or-map, get_or-set_other, get_or_default, length-map, same_lists}
use Rattle.sx_ledger.specs.declared.account.Account.{Account}

module _ (f : Account → Account) (before now : List Account) (as_many : length now ≡ length before) where
  pub done_more : (place : ℕ) (account after : Account) → place < length before
      → account ≡ get_or before place account → after ≡ f account
      → ((k : ℕ) (d : Account) → k < place → get_or now k d ≡ f (get_or before k d))
      → (k : ℕ) (d : Account) → k < place + 1 → get_or (set now place after) k d ≡ f (get_or before k d)
  done_more place account after lt is made done k d below =
      elim (cases_eq k place) [
        | inl at ↦
            get_or-set_at now place k after d at (omega arith) ∙ made
            ∙ ap f (is ∙ get_or_default before place account d lt ∙ ap (λ (i : ℕ). get_or before i d) (sym at))
        | inr other ↦ get_or-set_other now place k after d other ∙ done k d (omega arith)
      ]

  pub all_done : ((k : ℕ) (d : Account) → k < length before → get_or now k d ≡ f (get_or before k d))
      → now ≡ map f before
  all_done done =
      same_lists now (map f before) (as_many ∙ sym (length-map before f)) (λ k d lt.
      let within : k < length before = omega arith in
      done k d within ∙ sym (get_or-map f before k d d within))

pub rest_more : (before now : List Account) (place : ℕ) (after : Account)
    → ((k : ℕ) (d : Account) → place ≤ k → get_or now k d ≡ get_or before k d)
    → (k : ℕ) (d : Account) → place + 1 ≤ k → get_or (set now place after) k d ≡ get_or before k d
rest_more before now place after rest k d above =
    get_or-set_other now place k after d (λ at. absurd (omega arith)) ∙ rest k d (omega arith)
