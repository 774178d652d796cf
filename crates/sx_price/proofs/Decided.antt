-- What the tests of the two rules say of each other.
use Rattle.std.proofs.Common.{◌≡◌, ℕ, ◌*◌, ◌^◌, true}
use Rattle.std.proofs.lemmas.Bool.{le-leb, leb-true}
use Rattle.std.proofs.lemmas.Nat.{pow_pos}
use Rattle.sx_price.specs.Limits.{may_trade, must_trade}
use Rattle.sx_price.proofs.Products.{le_of_cut}

pub must_is_may : (sell buy limit j : ℕ) → must_trade sell buy limit j ≡ true → may_trade sell buy limit ≡ true
must_is_may sell buy limit j must =
    le-leb _ _ (le_of_cut (limit * buy) (sell * 2 ^ 24) (2 ^ j) (pow_pos j) (leb-true _ _ must))
