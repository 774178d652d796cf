-- What is known of two parts of transactions, one after the other, is known of both.
use Rattle.std.proofs.Common.{ℕ, ◌+◌, ◌-◌, List, ◌++◌, length, Option, IfSome, get_or, subst, sym, arith}
use mathlib.Core.Logic.{⊎_elim}
use Rattle.std.proofs.lemmas.Bool.{cases_lt}
use Rattle.std.proofs.lemmas.List.{get_or_append_left, get_or-append_right, length-append}
use Rattle.sx_tally.specs.Known.{AreKnown, HasPlaces}
use Rattle.sx_ledger.specs.declared.parts.Parts.{Parts}
use Rattle.sx_ledger.specs.declared.places.Places.{Places}
use Rattle.sx_tx.specs.declared.tx.Tx.{Tx}

pub known_both : (parts : Parts) (txs : List Tx) (from : ℕ) (front back : List (Option Places))
    → AreKnown parts txs from front → AreKnown parts txs (from + length front) back
    → AreKnown parts txs from (front ++ back)
known_both parts txs from front back low high k none tx below =
    let n = length front in
    ⊎_elim
    (λ less. subst (λ (slot : Option Places). IfSome slot (HasPlaces parts (get_or txs (from + k) tx)))
    (sym (get_or_append_left front back none k less)) (low k none tx less))
    (λ more. subst (λ (slot : Option Places). IfSome slot (HasPlaces parts (get_or txs (from + k) tx)))
    (sym (get_or-append_right front back n k none (omega arith) more))
    (subst (λ (place : ℕ). IfSome (get_or back (k - n) none) (HasPlaces parts (get_or txs place tx))) {x = from + n + (k - n)} (omega arith)
    (high (k - n) none tx (omega (arith, length-append front back)))))
    (cases_lt k n)
