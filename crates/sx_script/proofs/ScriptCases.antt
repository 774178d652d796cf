-- Runs of a script that are worked out by hand.
use Rattle.std.proofs.Common.{◌≡◌, ◌^◌, ℕ, [], ◌∷◌, refl}
use Rattle.sx_outcome.specs.declared.outcome.Outcome.TheVariants as outcome
use Rattle.sx_script.specs.Running.{outcomes_of_run}
use Rattle.sx_ledger.specs.declared.account.Account.{Account}
use Rattle.sx_ledger.specs.declared.parts.Parts.{Parts}
use Rattle.sx_tx.specs.declared.kind.Kind.TheVariants as kind
use Rattle.sx_tx.specs.declared.tx.Tx.{Tx}

-- one asset, an account 1 that holds 100 units of it, and an account 2 that holds none
abbrev pub account : ℕ → ℕ → Account
account id units = record { id = record { 0 = id }; window = record { last = 0; used = 0 }; balances = units ∷ [] }

abbrev pub ledger : Parts
ledger = record {
  version = 1;
  height = 0;
  prices = 2 ^ 24 ∷ [];
  rounding = 0 ∷ [];
  accounts = account 1 100 ∷ account 2 0 ∷ [];
  offers = [];
}

-- account 1 pays this amount to account 2
abbrev pub pays : ℕ → ℕ → Tx
pays seq amount =
    record { account = record { 0 = 1 }; seq = seq; kind = kind.Pay 0 (record { 0 = 2 }) amount }

-- Both actors claim their numbers and see 100. Actor 0 takes 60, so actor 1 loses its Take and finds 40
pub lost_step : outcomes_of_run ledger (pays 1 60 ∷ pays 2 60 ∷ []) 2 (0 ∷ 1 ∷ 0 ∷ 1 ∷ 0 ∷ 1 ∷ [])
    ≡ outcome.Accepted ∷ outcome.Overdraft 40 60 ∷ []
lost_step = refl

-- with 40 in place of the second 60 there is enough for both
enough_for_both : outcomes_of_run ledger (pays 1 60 ∷ pays 2 40 ∷ []) 2 (0 ∷ 1 ∷ 0 ∷ 1 ∷ 0 ∷ 1 ∷ [])
    ≡ outcome.Accepted ∷ outcome.Accepted ∷ []
enough_for_both = refl

-- Three actors. Actor 1 loses a Take at 70 and, after the last turn, another at 20
two_lost : outcomes_of_run ledger (pays 1 30 ∷ pays 2 30 ∷ pays 3 50 ∷ []) 3
    (0 ∷ 1 ∷ 2 ∷ 0 ∷ 1 ∷ 2 ∷ 0 ∷ 1 ∷ 2 ∷ 2 ∷ [])
    ≡ outcome.Accepted ∷ outcome.Overdraft 20 30 ∷ outcome.Accepted ∷ []
two_lost = refl
