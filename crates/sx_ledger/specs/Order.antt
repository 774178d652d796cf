-- The order of offers: by what is sold, what is bought, the limit, the account and the sequence number.
use Rattle.std.specs.Prelude.{ℕ, Bool, List, [], ◌∷◌, nat_eq}
use Rattle.std.specs.declared.cmp.Ordering.{Ordering}
use Rattle.std.specs.Ordering.{is_lt, nat_cmp}
use Rattle.std.specs.Cmp.Lexicographic.{pointwise, slice_cmp}
use Rattle.sx_ledger.specs.declared.key.Key.{Key}
use Rattle.sx_ledger.specs.declared.offer.Offer.{Offer}

abbrev pub key_of : Offer → Key
key_of offer = record {
  sell = offer.sell;
  buy = offer.buy;
  limit = offer.limit;
  account = offer.account;
  seq = offer.seq;
}

-- the numbers that keys are compared by, the first that differs deciding
abbrev pub numbers_of : Key → List ℕ
numbers_of key = key.sell ∷ key.buy ∷ key.limit ∷ key.account.0 ∷ key.seq ∷ []

abbrev pub key_cmp : Key → Key → Ordering
key_cmp one other = slice_cmp nat_cmp (numbers_of one) (numbers_of other)

abbrev pub same_key : Key → Key → Bool
same_key one other = pointwise nat_eq (numbers_of one) (numbers_of other)

-- a key stands before another
abbrev pub key_before : Key → Key → Bool
key_before one other = is_lt (key_cmp one other)

-- an offer stands before another
abbrev pub offer_before : Offer → Offer → Bool
offer_before one other = key_before (key_of one) (key_of other)
