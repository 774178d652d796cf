-- What was taken from a source in several steps.
use Rattle.std.proofs.Common.{◌≡◌, ℕ, List, [], ◌++◌, Option, Some, None, refl, sym, ap, ◌∙◌, append_assoc}
use Rattle.sx_record.specs.Stream.{Took}

pub Took-none : (a : Option (List ℕ)) → Took a a []
Took-none None = tt
Took-none (Some bytes) = (bytes, refl, refl)

pub Took-then : (a b c : Option (List ℕ)) (x y : List ℕ) → Took a b x → Took b c y → Took a c (x ++ y)
Took-then None b c x y p q = tt
Took-then (Some bytes) None c x y p q = absurd (let e : Some p.0 ≡ None = sym p.2 in cc)
Took-then (Some bytes) (Some mid) c x y p q =
    let mid_is : mid ≡ p.0 = cc in
    (q.0, p.1 ∙ ap (λ (r : List ℕ). x ++ r) (sym mid_is ∙ q.1) ∙ sym (append_assoc x y q.0), q.2)
