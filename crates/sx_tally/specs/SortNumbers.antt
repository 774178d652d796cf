-- Two numbers that tell where an offer stands among others.
use Rattle.std.specs.Prelude.{ℕ, ◌+◌, ◌*◌, ◌<◌, ◌^◌}
use Rattle.sx_ledger.specs.declared.offer.Offer.{Offer}

-- what is sold, what is bought and the limit; and the account and the sequence number
abbrev pub sort_numbers : Offer → ℕ × ℕ
sort_numbers offer =
    ((offer.sell * 2 ^ 8 + offer.buy) * 2 ^ 64 + offer.limit, offer.account.0 * 2 ^ 64 + offer.seq)

-- what comes later in each number does not reach what comes before it
pub record IsInRange (offer : Offer) : Type 0 where
  pub buy : offer.buy < 2 ^ 8
  pub limit : offer.limit < 2 ^ 64
  pub seq : offer.seq < 2 ^ 64
