-- Faults of small encodings, worked out by hand: which one, and where.
use Rattle.std.proofs.Common.{◌≡◌, ℕ, List, [], ◌∷◌, ◌++◌, Err, refl}
use Rattle.std.specs.Prelude.{replicate}
use Rattle.sx_block.specs.Decoding.{cut_at, flow_at, front_at, trade_at}
use Rattle.sx_bytes.specs.declared.fault.Form.{Form}
use Rattle.sx_bytes.specs.declared.fault.Form.TheVariants as form
use Rattle.sx_bytes.specs.declared.fault.FormFault.{FormFault}
use Rattle.sx_bytes.specs.Cursor.{Cursor}
use Rattle.sx_bytes.specs.Grammar.{ordered_at}

abbrev start : List ℕ → Cursor
start bytes = record { bytes = bytes; place = 0 }

abbrev fault_at : ℕ → Form → FormFault
fault_at at fault = record { at = at; fault = fault }

-- ---- a cut among two assets

flag : cut_at 2 (start (2 ∷ [])) ≡ Err (fault_at 0 form.Tag)
unfolding cut_at
flag = refl

set : cut_at 2 (start (1 ∷ 0 ∷ 0 ∷ 0 ∷ 4 ∷ [])) ≡ Err (fault_at 1 form.CutRange)
unfolding cut_at
set = refl

-- ---- trades among two assets

-- so many units of the first asset for the second
abbrev value : ℕ → List ℕ
value units = replicate 15 0 ++ units ∷ []

no_value : trade_at 2 (start (0 ∷ 1 ∷ value 0)) ≡ Err (fault_at 2 form.ValueRange)
unfolding trade_at
no_value = refl

-- 2 ^ 102 + 1
too_much : trade_at 2 (start (0 ∷ 1 ∷ 0 ∷ 0 ∷ 0 ∷ 64 ∷ replicate 11 0 ++ 1 ∷ [])) ≡ Err (fault_at 2 form.ValueRange)
unfolding trade_at
too_much = refl

-- the second pair stands before the first
not_in_order : flow_at 2 (start (0 ∷ 2 ∷ 1 ∷ 0 ∷ value 5 ++ 0 ∷ 1 ∷ value 5)) ≡ Err (fault_at 20 form.TradeOrder)
unfolding flow_at trade_at ordered_at
not_in_order = refl

-- and the same pair again
pair_twice : flow_at 2 (start (0 ∷ 2 ∷ 0 ∷ 1 ∷ value 5 ++ 0 ∷ 1 ∷ value 5)) ≡ Err (fault_at 20 form.TradeOrder)
unfolding flow_at trade_at ordered_at
pair_twice = refl

-- more trades than there are pairs
too_many : flow_at 2 (start (0 ∷ 3 ∷ [])) ≡ Err (fault_at 0 form.TooMany)
unfolding flow_at
too_many = refl

-- ---- what stands before the number of assets

-- of this version, with this exponent of μ, and zeros for the rest
abbrev front : ℕ → ℕ → List ℕ
front version mu = version ∷ replicate 72 0 ++ mu ∷ []

version_none : front_at (start (front 0 1)) ≡ Err (fault_at 0 form.Version)
unfolding front_at
version_none = refl

version_three : front_at (start (front 3 1)) ≡ Err (fault_at 0 form.Version)
unfolding front_at
version_three = refl

height_out_of_range : front_at (start (1 ∷ 128 ∷ replicate 71 0 ++ 1 ∷ [])) ≡ Err (fault_at 1 form.HeightRange)
unfolding front_at
height_out_of_range = refl

mu_none : front_at (start (front 2 0)) ≡ Err (fault_at 73 form.MuRange)
unfolding front_at
mu_none = refl

mu_too_great : front_at (start (front 1 21)) ≡ Err (fault_at 73 form.MuRange)
unfolding front_at
mu_too_great = refl
