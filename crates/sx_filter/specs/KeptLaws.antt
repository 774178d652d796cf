-- Laws of what a filter keeps.
use Rattle.std.specs.Prelude.{◌≡◌, ℕ, ◌≤◌, List, All, true, Ok, ◌↔◌, length}
use Rattle.std.specs.List.Sorted.{IsPermutation}
use Rattle.sx_filter.specs.Kept.{covers, kept_of, passing}
use Rattle.sx_outcome.specs.declared.outcome.Outcome.{Outcome}
use Rattle.sx_outcome.specs.declared.outcome.Outcome.TheVariants as outcome
use Rattle.sx_outcome.specs.Gathering.{IsGathered}
use Rattle.sx_outcome.specs.Room.{room_for}
use Rattle.sx_ledger.specs.declared.parts.Parts.{Parts}
use Rattle.sx_ledger.specs.Body.{IsAdmissible, holding_of}
use Rattle.sx_ledger.specs.Effects.{debits}
use Rattle.sx_ledger.specs.Ledger.{assets_of}
use Rattle.sx_tx.specs.declared.tx.Tx.{Tx}

-- what is kept is the body of a block, by the rule of version 1, where there is room for all candidates
abbrev pub KeptIsAdmissible : Type 0
KeptIsAdmissible =
    (parts : Parts) (candidates : List Tx) → room_for parts candidates ≡ Ok tt
    → IsAdmissible parts (kept_of parts candidates)

-- what may be the body of a block is kept whole
abbrev pub BodyIsKept : Type 0
BodyIsKept = (parts : Parts) (body : List Tx) → IsAdmissible parts body → kept_of parts body ≡ body

-- the order of the candidates is of no account
abbrev pub KeptPermuted : Type 0
KeptPermuted =
    (parts : Parts) (xs ys : List Tx) → IsPermutation xs ys → kept_of parts ys ≡ kept_of parts xs

-- a gathering of what is kept accepts all of it
abbrev pub KeptIsAccepted : Type 0
KeptIsAccepted =
    (parts : Parts) (candidates : List Tx) (outcomes : List Outcome) (body : List Tx)
    → IsGathered parts (kept_of parts candidates) outcomes body
    → All (λ said. said ≡ outcome.Accepted) outcomes

-- the assets of the ledger are all that its test lets candidates debit
abbrev pub CoversAll : Type 0
CoversAll =
    (parts : Parts) (candidates : List Tx) (account : ℕ)
    → (covers parts (passing parts candidates) account (assets_of parts) ≡ true)
    ↔ ((asset : ℕ) → debits (passing parts candidates) account asset ≤ holding_of parts.accounts account asset)

-- what the ledger refuses stands in nobody's way
abbrev pub RefusedAreNothing : Type 0
RefusedAreNothing =
    (parts : Parts) (candidates : List Tx) → kept_of parts (passing parts candidates) ≡ kept_of parts candidates

-- no more is kept than there are candidates
abbrev pub KeptIsFew : Type 0
KeptIsFew = (parts : Parts) (candidates : List Tx) → length (kept_of parts candidates) ≤ length candidates
