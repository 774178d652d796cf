-- The candidates of the demonstration. A draw below `count` is a word modulo `count`.
use Rattle.std.specs.Prelude.{ℕ, ◌+◌, ◌*◌, ◌/◌, ◌%◌, ◌^◌, List, ◌++◌}
use Rattle.sx_gen.specs.Drawing.{started_from, state_after, word_after, listed}
use Rattle.sx_tx.specs.declared.kind.Kind.{Kind}
use Rattle.sx_tx.specs.declared.kind.Kind.TheVariants.{Offer, Pay}
use Rattle.sx_tx.specs.declared.tx.Tx.{Tx}

-- the limit of an offer: the price of each asset is 8 + its number, and of their rate so many thousandths are asked
abbrev pub limit_of : ℕ → ℕ → ℕ → ℕ
limit_of sell buy thousandths = (8 + sell) * 2 ^ 24 * thousandths / ((8 + buy) * 1000)

-- an offer, by four words: what is sold, what is bought, the amount, and the thousandths
abbrev pub offer_by : (ℕ → ℕ) → Kind
offer_by word =
    let sell = word 0 % 8 in
    let buy = (sell + 1 + word 1 % 7) % 8 in
    Offer sell buy (limit_of sell buy (900 + word 3 % 201)) (100 + word 2 % 9901)

-- a payment, by three words: the payee, the asset, and the amount
abbrev pub payment_by : (ℕ → ℕ) → Kind
payment_by word = Pay (word 1 % 8) (record { 0 = 1 + word 0 % 1000 }) (1 + word 2 % 100)

-- the offer at place i, with the words of a generator
abbrev pub offer_at : List ℕ → ℕ → Tx
offer_at state i = record {
  account = record { 0 = 1 + i % 1000 };
  seq = 1 + i / 1000;
  kind = offer_by (λ k. word_after state (4 * i + k));
}

-- the payment at place i, with the words of a generator
abbrev pub payment_at : List ℕ → ℕ → Tx
payment_at state i = record {
  account = record { 0 = 1 + i };
  seq = 5;
  kind = payment_by (λ k. word_after state (3 * i + k));
}

abbrev pub offers_from : List ℕ → ℕ → List Tx
offers_from state = listed (offer_at state)

abbrev pub payments_from : List ℕ → ℕ → List Tx
payments_from state = listed (payment_at state)

-- the offers with the first 16,000 words, and the payments with those after them
unfoldable pub demo_txs : ℕ → List Tx
demo_txs number =
    offers_from (started_from number) 4000 ++ payments_from (state_after 16000 (started_from number)) 1000
