-- A table of what all pairs sell: a row of 32 entries for each sold asset, with one for each bought asset.
use Rattle.std.specs.Prelude.{◌≡◌, ℕ, ◌+◌, ◌*◌, ◌/◌, ◌%◌, ◌<◌, ◌≤◌, ◌^◌, List, length, slice_index_or}
use Rattle.std.specs.Prelude.{ℤ, pos, ◌-ℤ◌}
use Rattle.std.specs.List.{range_with_len, sum_by}
use Rattle.sx_curve.specs.declared.quote.Quote.{Quote}
use Rattle.sx_curve.specs.Demand.{sold_value}
use Rattle.sx_demand.specs.declared.table.Entry.{Entry}

-- a value is what the pair at a place sells, where its bought asset has a price
pub record IsSoldAt (quotes : List Quote) (prices : List ℕ) (j place value : ℕ) : Type 0 where
  pub sold : place % 32 < length prices → value ≡ sold_value quotes prices j (place / 32) (place % 32)
  pub in_range : value ≤ 2 ^ 102

-- that of each entry of the table is that; nothing is said of its guesses
abbrev pub IsTable : List Quote → List ℕ → ℕ → List Entry → Type 0
IsTable quotes prices j entries =
    (place : ℕ) (d : Entry) → place < 32 * length prices →
    IsSoldAt quotes prices j place (slice_index_or entries place d).value

-- the value at a place of the table
abbrev pub no_entry : Entry
no_entry = record { value = 0; guesses = record { may = 0; must = 0 } }

abbrev pub value_in : List Entry → ℕ → ℕ
value_in entries place = (slice_index_or entries place no_entry).value

-- the sums of a column and of a row of a table with n rows
abbrev pub into_in : List Entry → ℕ → ℕ → ℕ
into_in entries n asset = sum_by (λ sell. value_in entries (sell * 32 + asset)) (range_with_len 0 n)

abbrev pub out_in : List Entry → ℕ → ℕ → ℕ
out_in entries n asset = sum_by (λ buy. value_in entries (asset * 32 + buy)) (range_with_len 0 n)

abbrev pub net_in : List Entry → ℕ → ℕ → ℤ
net_in entries n asset = pos (into_in entries n asset) -ℤ pos (out_in entries n asset)

abbrev pub volume_in : List Entry → ℕ → ℕ → ℕ
volume_in entries n asset = into_in entries n asset + out_in entries n asset

-- the sums of the columns over so many rows, and those of all rows
abbrev pub AreColumns : List Entry → ℕ → List ℕ → Type 0
AreColumns entries rows sums = (k d : ℕ) → k < length sums → slice_index_or sums k d ≡ into_in entries rows k

abbrev pub AreRows : List Entry → ℕ → List ℕ → Type 0
AreRows entries n sums = (k d : ℕ) → k < n → slice_index_or sums k d ≡ out_in entries n k
