-- Draws that are worked out by hand.
use Rattle.std.proofs.Common.{◌≡◌, [], ◌∷◌, get_or, refl}
use Rattle.sx_gen.specs.Candidates.{limit_of, offer_at, offer_by, payment_at, payment_by}
use Rattle.sx_gen.specs.Drawing.{state_after, word_after}
use Rattle.sx_tx.specs.declared.kind.Kind.TheVariants.{Offer, Pay}

-- the least limit of all, and the greatest
least_limit : limit_of 0 7 900 ≡ 8053063
least_limit = refl

greatest_limit : limit_of 7 0 1100 ≡ 34603008
greatest_limit = refl

-- the words in their order: what is sold, what is bought, the amount and the thousandths
offer_of_words : offer_by (λ k. get_or (11 ∷ 6 ∷ 9901 ∷ 100 ∷ []) k 0) ≡ Offer 3 2 18454937 100
offer_of_words = refl

-- the payee, the asset and the amount
payment_of_words : payment_by (λ k. get_or (1999 ∷ 9 ∷ 199 ∷ []) k 0) ≡ Pay 1 (record { 0 = 1000 }) 100
payment_of_words = refl

-- the first words of the generator that is in this state, as they are published
published : word_after (1 ∷ 2 ∷ 3 ∷ 4 ∷ []) 0 ≡ 41943041
unfolding word_after state_after
published = refl

published_later : word_after (1 ∷ 2 ∷ 3 ∷ 4 ∷ []) 4 ≡ 9228616714210784205
unfolding word_after state_after
published_later = refl

-- the first offer and the second payment by the words of that generator
first_offer : offer_at (1 ∷ 2 ∷ 3 ∷ 4 ∷ []) 0
    ≡ record { account = record { 0 = 1 }; seq = 1; kind = Offer 1 7 10237457 8603 }
unfolding word_after state_after
first_offer = refl

second_payment : payment_at (1 ∷ 2 ∷ 3 ∷ 4 ∷ []) 1
    ≡ record { account = record { 0 = 2 }; seq = 5; kind = Pay 5 (record { 0 = 387 }) 63 }
unfolding word_after state_after
second_payment = refl
