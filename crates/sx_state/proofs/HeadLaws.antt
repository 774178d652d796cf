-- The fields before the accounts of a state: decoding inverts encoding, and back.
use Rattle.std.proofs.Common.{◌≡◌, ℕ, ◌-◌, ◌^◌, ◌≤◌, List, ◌++◌, length, refl, sym, subst, arith}
use Rattle.std.specs.List.{flat_map}
use Rattle.byteorder.specs.Endian.{big_bytes}
use Rattle.sx_bytes.specs.declared.fault.Form.TheVariants as form
use Rattle.sx_bytes.specs.Grammar.{◌>>=◌, between, field_at, many_at}
use Rattle.sx_bytes.proofs.Grammar.{Takes, Again}
use Rattle.sx_bytes.proofs.Parts.{Reading, TakesAll, ReadsAgain, two_at, two_take, two_again}
use Rattle.sx_bytes.proofs.DecodingSteps.{range_takes, range_again}
use Rattle.sx_price.specs.Limits.{IsPrice}
use Rattle.sx_state.specs.Decoding.{price_at, units_field_at, head_at}
use Rattle.sx_state.proofs.DependentParts.{AreNumbers, numbers_take, numbers_again, chained_takes, chained_again}
use Rattle.sx_state.proofs.AccountLaws.{InRange, price_takes, price_again, units_takes, units_again}

-- the version, the height, the prices and the rounding
abbrev pub Head : Type 0
Head = ℕ × ℕ × List ℕ × List ℕ

abbrev pub joined : ℕ → ℕ → List ℕ → List ℕ → Head
joined version height prices rounding = (version, height, prices, rounding)

abbrev pub from_prices : ℕ → ℕ → ℕ → Reading Head
from_prices version height n = two_at (many_at price_at n) (many_at units_field_at n) (joined version height)

abbrev pub from_assets : ℕ → ℕ → Reading Head
from_assets version height c = field_at 1 (between 1 32) form.AssetCount c >>= λ n. from_prices version height n.0 n.1

abbrev pub from_height : ℕ → Reading Head
from_height version c =
    field_at 8 (between 0 (2 ^ 63 - 1)) form.HeightRange c >>= λ height. from_assets version height.0 height.1

abbrev prices_text : Head → List ℕ
prices_text head = flat_map (big_bytes 8) head.2 ++ flat_map (big_bytes 8) head.3

abbrev assets_text : Head → List ℕ
assets_text head = big_bytes 1 (length head.2) ++ prices_text head

abbrev height_text : Head → List ℕ
height_text head = big_bytes 8 head.1 ++ assets_text head

abbrev pub head_bytes : Head → List ℕ
head_bytes head = big_bytes 1 head.0 ++ height_text head

-- a head of this version, this height and n assets
pub record IsFrom (version height n : ℕ) (head : Head) : Type 0 where
  pub version_is : version ≡ head.0
  pub height_is : height ≡ head.1
  pub prices : AreNumbers IsPrice n head.2
  pub rounding : AreNumbers InRange n head.3

abbrev IsVersion : ℕ → Type 0
IsVersion version = (1 ≤ version) × (version ≤ 2)

abbrev IsHeight : ℕ → Type 0
IsHeight height = height ≤ 2 ^ 63 - 1

abbrev IsCount : ℕ → Type 0
IsCount n = (1 ≤ n) × (n ≤ 32)

abbrev FromAssets : ℕ → ℕ → Head → Type 0
FromAssets version height head = IsCount (length head.2) × IsFrom version height (length head.2) head

abbrev FromHeight : ℕ → Head → Type 0
FromHeight version head = IsHeight head.1 × FromAssets version head.1 head

abbrev pub IsHead : Head → Type 0
IsHead head = IsVersion head.0 × FromHeight head.0 head

version_takes : TakesAll (field_at 1 (between 1 2) form.Version) (big_bytes 1) IsVersion
version_takes c next x bytes e = let t = range_takes 1 1 2 form.Version c next x bytes e in (t.0, (t.1, t.2))

version_again : ReadsAgain (field_at 1 (between 1 2) form.Version) (big_bytes 1) IsVersion
version_again c x after is within e =
    range_again 1 1 2 form.Version c x after (omega arith) is.0 is.1 within e

height_takes : TakesAll (field_at 8 (between 0 (2 ^ 63 - 1)) form.HeightRange) (big_bytes 8) IsHeight
height_takes c next x bytes e = let t = range_takes 8 0 (2 ^ 63 - 1) form.HeightRange c next x bytes e in (t.0, t.2)

height_again : ReadsAgain (field_at 8 (between 0 (2 ^ 63 - 1)) form.HeightRange) (big_bytes 8) IsHeight
height_again c x after is within e =
    range_again 8 0 (2 ^ 63 - 1) form.HeightRange c x after (omega arith) (omega arith) is within e

count_takes : TakesAll (field_at 1 (between 1 32) form.AssetCount) (big_bytes 1) IsCount
count_takes c next x bytes e = let t = range_takes 1 1 32 form.AssetCount c next x bytes e in (t.0, (t.1, t.2))

count_again : ReadsAgain (field_at 1 (between 1 32) form.AssetCount) (big_bytes 1) IsCount
count_again c x after is within e = range_again 1 1 32 form.AssetCount c x after (omega arith) is.0 is.1 within e

prices_take : (version height n : ℕ) → TakesAll (from_prices version height n) prices_text (IsFrom version height n)
prices_take version height n c next head bytes e =
    let t = two_take (many_at price_at n) (many_at units_field_at n) (joined version height) (flat_map (big_bytes 8))
    (flat_map (big_bytes 8)) (AreNumbers IsPrice n) (AreNumbers InRange n)
    (numbers_take price_at IsPrice n price_takes) (numbers_take units_field_at InRange n units_takes)
    c next head bytes e in
    let is : IsFrom version height n (joined version height t.0 t.1) =
    record { version_is = refl; height_is = refl; prices = t.4; rounding = t.5 } in
    subst (λ (h : Head). Takes c (prices_text h) next × IsFrom version height n h) t.2 (t.3, is)

prices_again : (version height n : ℕ)
    → ReadsAgain (from_prices version height n) prices_text (IsFrom version height n)
prices_again version height n c head after is within e =
    let read = two_again (many_at price_at n) (many_at units_field_at n) (joined version height)
    (flat_map (big_bytes 8)) (flat_map (big_bytes 8)) (AreNumbers IsPrice n) (AreNumbers InRange n)
    (numbers_again price_at IsPrice n price_again) (numbers_again units_field_at InRange n units_again)
    c head.2 head.3 after is.prices is.rounding within e in
    let same : joined version height head.2 head.3 ≡ head = rw (is.version_is, is.height_is) refl in
    subst (λ (h : Head). Again (from_prices version height n c) c h after) same read

assets_take : (version height : ℕ) → TakesAll (from_assets version height) assets_text (FromAssets version height)
assets_take version height =
    chained_takes (field_at 1 (between 1 32) form.AssetCount) (from_prices version height) (big_bytes 1)
    prices_text IsCount (IsFrom version height) (λ head. length head.2)
    count_takes (λ n is. prices_take version height n) (λ n head is. sym is.prices.number)

assets_again : (version height : ℕ) → ReadsAgain (from_assets version height) assets_text (FromAssets version height)
assets_again version height =
    chained_again (field_at 1 (between 1 32) form.AssetCount) (from_prices version height) (big_bytes 1)
    prices_text IsCount (IsFrom version height) (λ head. length head.2)
    count_again (λ n is. prices_again version height n)

height_takes_on : (version : ℕ) → TakesAll (from_height version) height_text (FromHeight version)
height_takes_on version =
    chained_takes (field_at 8 (between 0 (2 ^ 63 - 1)) form.HeightRange) (from_assets version) (big_bytes 8)
    assets_text IsHeight (FromAssets version) (λ head. head.1)
    height_takes (λ height is. assets_take version height) (λ height head is. is.1.height_is)

height_again_on : (version : ℕ) → ReadsAgain (from_height version) height_text (FromHeight version)
height_again_on version =
    chained_again (field_at 8 (between 0 (2 ^ 63 - 1)) form.HeightRange) (from_assets version) (big_bytes 8)
    assets_text IsHeight (FromAssets version) (λ head. head.1)
    height_again (λ height is. assets_again version height)

pub head_takes : TakesAll head_at head_bytes IsHead
unfolding head_at
head_takes =
    chained_takes (field_at 1 (between 1 2) form.Version) from_height (big_bytes 1) height_text IsVersion FromHeight
    (λ head. head.0)
    version_takes (λ version is. height_takes_on version) (λ version head is. is.1.1.version_is)

pub head_again : ReadsAgain head_at head_bytes IsHead
unfolding head_at
head_again =
    chained_again (field_at 1 (between 1 2) form.Version) from_height (big_bytes 1) height_text IsVersion FromHeight
    (λ head. head.0)
    version_again (λ version is. height_again_on version)
