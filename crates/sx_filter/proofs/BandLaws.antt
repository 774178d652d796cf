-- Bands rise with the accounts.
use Rattle.std.proofs.Common.{ℕ, ◌<◌, ◌≤◌, ◌-◌, ◌/◌, ◌^◌, inl, inr, arith}
use Rattle.std.proofs.lemmas.Bool.{cases_lt}
use Rattle.std.proofs.Math.Pow.{shr_mono}
use Rattle.sx_filter.specs.Bands.{AreBands, band_among}
use Rattle.sx_filter.specs.Classes.{AreClasses}
use Rattle.sx_filter.specs.declared.bands.Bands.{Bands}

module _ (bands : Bands) (are : AreBands bands) where
  abbrev far : ℕ → ℕ
  far account = (account - bands.low) / 2 ^ bands.shift

  no_lower : (a b : ℕ) → a ≤ b → far a ≤ far b
  no_lower a b le = shr_mono bands.shift (omega (arith, le))

  bands_rise : (a b : ℕ) → band_among bands a < band_among bands b → a < b
  bands_rise a b less = elim (cases_lt a b) [
    | inl lt ↦ lt
    | inr most ↦ absurd (omega (arith, less, no_lower b a most))
  ]

  pub bands_are : AreClasses (band_among bands) bands.count
  bands_are = record { rise = bands_rise; few = λ a. omega (arith, are.some) }
