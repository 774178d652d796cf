-- What threads answer, where all of it is good.
use Rattle.std.proofs.Common.{◌≡◌, ℕ, ◌<◌, List, Ok, Result, get_or, length, map, ap, ◌∙◌, arith}
use Rattle.std.specs.Prelude.{IfOk}
use Rattle.std.proofs.lemmas.List.{get_or-map, length-map}
use Rattle.std.proofs.lemmas.Result.{IfOk-at_ok}

module _ {X E : Type 0} (results : List (Result X E)) (found : List X) (are : results ≡ map Ok found) where
  pub as_many : length results ≡ length found
  as_many = ap length are ∙ length-map found Ok

  pub found_each : (P : ℕ → X → Type 0)
      → ((i : ℕ) (d : Result X E) → i < length results → IfOk (get_or results i d) (P i)) → (i : ℕ) (d : X)
      → i < length found → P i (get_or found i d)
  found_each P each i d lt =
      let at : get_or results i (Ok d) ≡ Ok (get_or found i d) =
      ap (λ rs. get_or rs i (Ok d)) are ∙ get_or-map Ok found i d (Ok d) lt in
      IfOk-at_ok (P i) at (each i (Ok d) (omega (arith, lt, as_many)))
