-- The sum over what passes a test, where that is in the front of the list.
use Rattle.std.proofs.Common.{◌≡◌, ℕ, zero, suc, ◌+◌, ◌-◌, ◌<◌, ◌≤◌, List, length, get_or, take, sum_by, refl, arith}
use Rattle.std.specs.List.{AllWithin}
use Rattle.std.proofs.lemmas.List.{take_all}
use Rattle.std.proofs.lemmas.List.Sums.{sum_by_more}
use Rattle.sx_curve.proofs.ListSums.{sum_by-zero}

-- two sums grow alike over a stretch where their terms are the same
stretch : {X : Type 0} (f g : X → ℕ) (xs : List X) (d : X) (from n end : ℕ) → end ≡ from + n → end ≤ length xs
    → AllWithin (λ x. f x ≡ g x) xs from end
    → sum_by f (take end xs) + sum_by g (take from xs) ≡ sum_by g (take end xs) + sum_by f (take from xs)
stretch f g xs d from zero end is le same = let here : end ≡ from = omega arith in rw here (omega arith)
stretch f g xs d from (suc n) end is le same =
    let last = from + n in
    let next : end ≡ last + 1 = omega arith in
    let below : last < length xs = omega arith in
    let rest = stretch f g xs d from n last refl (omega arith) (λ k e low high. same k e low (omega arith)) in
    let here : f (get_or xs last d) ≡ g (get_or xs last d) = same last d (omega arith) (omega arith) in
    rw next (omega (arith, sum_by_more f xs last d below, sum_by_more g xs last d below))

-- terms that are those of another sum in front of a place, and 0 from there on
pub front : {X : Type 0} (f g : X → ℕ) (xs : List X) (d : X) (end : ℕ) → end ≤ length xs
    → AllWithin (λ x. g x ≡ f x) xs 0 end
    → AllWithin (λ x. g x ≡ 0) xs end (length xs)
    → sum_by g xs ≡ sum_by f (take end xs)
front {X} f g xs d end le inside after =
    let nothing : X → ℕ = λ x. 0 in
    let none = λ (ys : List X). sum_by-zero nothing ys (λ k e lt. refl) in
    let first = stretch g f xs d 0 end end (omega arith) le inside in
    let last = stretch g nothing xs d end (length xs - end) (length xs) (omega arith) (omega arith) after in
    let all = take_all (length xs) xs (omega arith) in
    let no_g : sum_by g (take 0 xs) ≡ 0 = refl in
    let no_f : sum_by f (take 0 xs) ≡ 0 = refl in
    let whole : sum_by g (take (length xs) xs) ≡ sum_by g xs = rw all refl in
    omega (arith, none (take end xs), none (take (length xs) xs))
