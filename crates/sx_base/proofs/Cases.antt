-- Cases worked out by hand, which the words of the specs have to refuse.
use Rattle.std.proofs.Common.{zero, suc, ◌^◌, ◌-◌, [], ◌∷◌, Some, refl, inl, inr, arith}
use Rattle.sx_base.specs.Outside.{Rose, Appends, AppendsPrefix, TakesPrefix}
use Rattle.sx_base.specs.Exact.{IsFilled, EndsEarly}

-- a count that did not change has not risen, below its last value
not_risen : Rose 3 3 → ⊥
not_risen (inl lt) = omega arith
not_risen (inr last) = omega arith

-- at its last value it has
risen_at_last : Rose (2 ^ 64 - 1) (2 ^ 64 - 1)
risen_at_last = inr refl

-- nothing is taken only where no byte is left
not_at_end : TakesPrefix (Some (7 ∷ [])) (Some (7 ∷ [])) 0 (0 ∷ []) (0 ∷ []) → ⊥
not_at_end t = let e = t.at_end refl (omega arith) in absurd cc

-- a slice is not filled by fewer bytes than it has
not_filled : IsFilled (Some []) (Some []) (0 ∷ []) (0 ∷ []) → ⊥
not_filled t = let le = t.enough in omega arith

-- a source does not end early where it fills the slice
not_early : EndsEarly (Some (7 ∷ [])) (Some []) 1 (0 ∷ []) (7 ∷ []) → ⊥
not_early t = let lt = t.too_few in omega arith

-- bytes are appended after those that are there
not_appended : Appends (Some (1 ∷ [])) (Some (2 ∷ 1 ∷ [])) (2 ∷ []) → ⊥
not_appended e = absurd cc

-- what a failed write leaves is a prefix of the bytes, and no others
not_prefix : AppendsPrefix (Some (1 ∷ [])) (Some (1 ∷ 9 ∷ [])) (2 ∷ 3 ∷ []) → ⊥
not_prefix (zero, few, e) = absurd cc
not_prefix (suc n, few, e) = absurd cc

-- nor is it more than all of them
not_longer : AppendsPrefix (Some (1 ∷ [])) (Some (1 ∷ 2 ∷ 2 ∷ [])) (2 ∷ []) → ⊥
not_longer (zero, few, e) = absurd cc
not_longer (suc zero, few, e) = absurd cc
not_longer (suc (suc n), few, e) = absurd cc
