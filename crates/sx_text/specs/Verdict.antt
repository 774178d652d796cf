-- The line of a proof of an account.
use Rattle.std.specs.Prelude.{ℕ, Bool, true, false, List, ◌++◌, codes}
use Rattle.std.specs.Fmt.{decimal}
use Rattle.hex.specs.Hex.{encode_lower}
use Rattle.sx_block.specs.declared.proof.Proof.{Proof}
use Rattle.sx_text.specs.Pieces.{line}

-- what a proof was found to be
abbrev pub verdict_text : Bool → List ℕ
verdict_text true = codes "good"
verdict_text false = codes "bad"

-- the account, its place, and the digest over all accounts
abbrev pub proof_text : List ℕ → Proof → Bool → List ℕ
proof_text root proof good =
    codes "proof " ++ (verdict_text good ++ (codes " account " ++ (decimal proof.account.id.0
    ++ (codes " place " ++ (decimal proof.place ++ (codes " root " ++ line (encode_lower root)))))))
