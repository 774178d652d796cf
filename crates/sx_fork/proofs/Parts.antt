-- What holds of two parts of a list holds of the list.
use mathlib.Core.Path.{◌≡◌, sym, subst, ap, ◌∙◌}
use mathlib.Core.List.{List, ◌++◌}
use mathlib.Core.Logic.{⊎_elim}
use Prim.Native.Nat.{ℕ, ◌+◌, ◌-◌}
use native.Mathlib.Omega.{arith}
use lib.ListN.{length, get_or}
use denote.Ref.{MutBor}
use denote.Param.Members.{Shared}
use Rattle.std.proofs.lemmas.List.{length-append, get_or_append_left, get_or-append_right}
use Rattle.std.proofs.lemmas.Bool.{cases_lt}
use Rattle.std.specs.Fork.{ChangesAt}
use Rattle.sx_fork.specs.Each.{ChangesFrom}

module _ {F T : Type 0} (g : Shared F (ℕ × (MutBor T × Unit {0})) ((Unit {0}) × (MutBor T × Unit {0}))) (f : F) where
  at_place : (i j : ℕ) (x x' y y' : T) → i ≡ j → x ≡ x' → y ≡ y' → ChangesAt g f i x y → ChangesAt g f j x' y'
  at_place i j x x' y y' a b c h =
      subst (λ k. ChangesAt g f k x' y') a
      (subst (λ u. ChangesAt g f i u y') b (subst (ChangesAt g f i x) c h))

  pub changes_both : (base up : ℕ) (all xs ys after xs' ys' : List T)
      → all ≡ xs ++ ys → after ≡ xs' ++ ys' → up ≡ base + length xs
      → ChangesFrom g f base xs xs' → ChangesFrom g f up ys ys' → ChangesFrom g f base all after
  changes_both base up all xs ys after xs' ys' parts parts' at front back =
      let n = length xs in
      record {
        len = omega
            (arith, ap length parts, ap length parts', length-append xs ys, length-append xs' ys', front.len, back.len);
        each = λ k d h. ⊎_elim
            (λ low. at_place (base + k) (base + k) _ _ _ _ (omega arith)
            (sym (ap (λ l. get_or l k d) parts ∙ get_or_append_left xs ys d k low))
            (sym (ap (λ l. get_or l k d) parts' ∙ get_or_append_left xs' ys' d k (omega (arith, front.len))))
            (front.each k d low))
            (λ high. at_place (up + (k - n)) (base + k) _ _ _ _ (omega arith)
            (sym (ap (λ l. get_or l k d) parts ∙ get_or-append_right xs ys n k d (omega arith) high))
            (sym (ap (λ l. get_or l k d) parts' ∙ get_or-append_right xs' ys' n k d front.len high))
            (back.each (k - n) d (omega (arith, ap length parts, length-append xs ys))))
            (cases_lt k n);
      }
