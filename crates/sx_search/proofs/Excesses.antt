-- What the excesses of all assets are.
use Rattle.std.proofs.Common.{◌≡◌, ℕ, ◌+◌, ◌<◌, ◌≤◌, List, [], ◌∷◌, length, map, sum_by, ℤ, pos, ◌-ℤ◌, unsigned_abs}
use Rattle.std.proofs.Common.{refl, ap, ◌∙◌, arith}
use Rattle.std.specs.Prelude.{slice_index, slice_index_or}
use Rattle.std.proofs.lemmas.Int.{ints}
use Rattle.std.proofs.lemmas.List.FromFn.{get_or-map-range_with_len, length-map-range_with_len}
use Rattle.std.proofs.lemmas.List.Sums.{sum_by-cons}
use Rattle.sx_curve.specs.declared.quote.Quote.{Quote}
use Rattle.sx_curve.specs.Demand.{assets_of, imbalance, net_of, price_of, value_into, value_out, volume_of}
use Rattle.sx_curve.specs.Search.{moved_price, trial_prices}
use Rattle.sx_demand.specs.Excess.{nets_of, volumes_of}
use Rattle.sx_demand.proofs.Sold.{map_same}
use Rattle.sx_search.specs.Trials.{AreExcesses, moved_prices}

-- a sum over what a function makes of a list
sum_by_map : {X Y : Type 0} (g : Y → ℕ) (f : X → Y) (xs : List X) → sum_by g (map f xs) ≡ sum_by (λ x. g (f x)) xs
sum_by_map g f [] = refl
sum_by_map g f (x ∷ xs) =
    omega (arith, sum_by-cons g (f x) (map f xs), sum_by-cons (λ x. g (f x)) x xs, sum_by_map g f xs)

pub off_is : (quotes : List Quote) (prices : List ℕ) (j : ℕ) (nets : List ℤ) → nets ≡ nets_of quotes prices j
    → sum_by unsigned_abs nets ≡ imbalance quotes prices j
unfolding imbalance
off_is quotes prices j nets is =
    ap (sum_by unsigned_abs) is ∙ sum_by_map unsigned_abs (net_of quotes prices j) (assets_of prices)

pub nets_length : (quotes : List Quote) (prices : List ℕ) (j : ℕ) (nets : List ℤ) → nets ≡ nets_of quotes prices j
    → length nets ≡ length prices
nets_length quotes prices j nets is =
    ap length is ∙ length-map-range_with_len (net_of quotes prices j) 0 (length prices)

-- a difference is no more than the sum
within : (a b : ℕ) → unsigned_abs (pos a -ℤ pos b) ≤ a + b
within a b = omega (arith, ints)

module _ (quotes : List Quote) (prices : List ℕ) (j : ℕ) (nets : List ℤ) (volumes : List ℕ)
    (nets_are : nets ≡ nets_of quotes prices j) (volumes_are : volumes ≡ volumes_of quotes prices j) where
  net_at : (k : ℕ) → k < length prices → slice_index_or nets k (pos 0) ≡ net_of quotes prices j k
  net_at k lt = ap (λ (xs : List ℤ). slice_index_or xs k (pos 0)) nets_are
      ∙ get_or-map-range_with_len (net_of quotes prices j) 0 (length prices) k k (pos 0) lt (omega arith)

  volume_at : (k : ℕ) → k < length prices → slice_index volumes k ≡ volume_of quotes prices j k
  volume_at k lt = ap (λ (xs : List ℕ). slice_index xs k) volumes_are
      ∙ get_or-map-range_with_len (volume_of quotes prices j) 0 (length prices) k k 0 lt (omega arith)

  pub moved_are : (exponent : ℕ) → moved_prices exponent prices nets volumes
      ≡ trial_prices quotes j (record { prices = prices; exponent = exponent })
  unfolding trial_prices
  moved_are exponent =
      map_same (λ asset. moved_price exponent (price_of prices asset) (slice_index_or nets asset (pos 0))
      (slice_index volumes asset))
      (λ asset. moved_price exponent (price_of prices asset) (net_of quotes prices j asset)
      (volume_of quotes prices j asset))
      (length prices) 0
      (λ asset lt i. moved_price exponent (price_of prices asset) (net_at asset lt i) (volume_at asset lt i))

  pub are_excesses : AreExcesses (length prices) nets volumes
  are_excesses = record {
    nets_full = ap length nets_are ∙ length-map-range_with_len (net_of quotes prices j) 0 (length prices);
    volumes_full = ap length volumes_are ∙ length-map-range_with_len (volume_of quotes prices j) 0 (length prices);
    within = λ k lt.
        let apart = within (value_into quotes prices j k) (value_out quotes prices j k) in
        rw (net_at k lt, volume_at k lt) apart;
  }

-- the prices of a trial that are written from the excesses at the prices that are held
pub tried : (quotes : List Quote) (prices shown : List ℕ) (j : ℕ) (nets : List ℤ) (volumes : List ℕ)
    (exponent : ℕ) (trial : List ℕ) → shown ≡ prices
    → nets ≡ nets_of quotes prices j → volumes ≡ volumes_of quotes prices j
    → trial ≡ moved_prices exponent shown nets volumes
    → trial ≡ trial_prices quotes j (record { prices = prices; exponent = exponent })
tried quotes prices shown j nets volumes exponent trial shown_is nets_are volumes_are is =
    is ∙ (λ i. moved_prices exponent (shown_is i) nets volumes)
    ∙ moved_are quotes prices j nets volumes nets_are volumes_are exponent
