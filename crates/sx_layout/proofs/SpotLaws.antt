-- No two things share a purse or a bit.
use Rattle.std.proofs.Common.{◌≡◌, ℕ, ◌+◌, ◌/◌, ◌%◌, ◌<◌, ◌≤◌}
use Rattle.std.proofs.Common.{length}
use Rattle.std.proofs.Common.{sym, ap, ◌∙◌, arith}
use Rattle.std.proofs.lemmas.Nat.{same_from_place}
use Rattle.sx_layout.specs.declared.spot.Spot.{Spot}
use Rattle.sx_layout.specs.Dealing.{words_for}
use Rattle.sx_layout.specs.Plan.{Plan, plan_of, window_spot, offer_spot, name_spot, bit_spot}
use Rattle.sx_layout.specs.Plan.{window_words, offer_words, name_words}
use Rattle.sx_layout.specs.PlanLaws.{Thing, Number, AnOffer, AName, IsThing, spot_of}
use Rattle.sx_layout.specs.PlanLaws.{BitsApart, PursesApart}
use Rattle.sx_layout.proofs.Shares.{in_share, in_words, one_number}
use Rattle.sx_ledger.specs.Ledger.{assets_of}

shard_of : {a b : Spot} → a ≡ b → a.shard ≡ b.shard
shard_of e = ap (λ (s : Spot). s.shard) e

word_of : {a b : Spot} → a ≡ b → a.word ≡ b.word
word_of e = ap (λ (s : Spot). s.word) e

spots : {a b : Spot × ℕ} → a ≡ b → a.0 ≡ b.0
spots e = ap (λ (p : Spot × ℕ). p.0) e

bits : {a b : Spot × ℕ} → a ≡ b → a.1 ≡ b.1
bits e = ap (λ (p : Spot × ℕ). p.1) e

-- two bits of one kind at one spot are one
one_bit : (s : ℕ) (before : ℕ → ℕ) (a b : ℕ) → bit_spot s before a ≡ bit_spot s before b → a ≡ b
one_bit s before a b e =
    let shard : (a / 64) % s ≡ (b / 64) % s = shard_of (spots e) in
    let word : before ((a / 64) % s) + a / 64 / s ≡ before ((b / 64) % s) + b / 64 / s = word_of (spots e) in
    let front : before ((a / 64) % s) ≡ before ((b / 64) % s) = ap before shard in
    one_number 64 a b (one_number s (a / 64) (b / 64) (omega (arith, word, front)) shard) (bits e)

-- a word of what comes later is not one of what comes first
apart : {a b : Spot} (count : ℕ → ℕ) → a.word < count a.shard → count b.shard ≤ b.word → a ≡ b → ⊥
apart {a} {b} count lt le e =
    let word : a.word ≡ b.word = word_of e in
    let shards : count a.shard ≡ count b.shard = ap count (shard_of e) in
    omega (arith, lt, le, word, shards)

module _ (plan : Plan) (some : 1 ≤ plan.shards) where
  pub in_windows : (place : ℕ) → place < plan.accounts
      → (window_spot plan place).word < window_words plan (window_spot plan place).shard
  in_windows place lt = in_share plan.shards plan.accounts place some lt

  pub after_windows : (place : ℕ) → window_words plan (offer_spot plan place).0.shard ≤ (offer_spot plan place).0.word
  after_windows place = omega arith

  pub in_offers : (place : ℕ) → place < plan.offers → (offer_spot plan place).0.word
      < window_words plan (offer_spot plan place).0.shard + offer_words plan (offer_spot plan place).0.shard
  in_offers place lt =
      let small = in_share plan.shards (words_for plan.offers) (place / 64) some (in_words plan.offers place lt) in
      omega (arith, small)

  pub in_names : (index : ℕ) → index < length plan.names → (name_spot plan index).0.word
      < window_words plan (name_spot plan index).0.shard + offer_words plan (name_spot plan index).0.shard
      + name_words plan (name_spot plan index).0.shard
  in_names index lt =
      let small = in_share plan.shards (words_for (length plan.names)) (index / 64) some
      (in_words (length plan.names) index lt) in
      omega (arith, small)

  bits_apart : (one other : Thing) → IsThing plan one → IsThing plan other → spot_of plan one ≡ spot_of plan other
      → one ≡ other
  bits_apart (Number p i) (Number q j) is other e =
      ap (λ (n : ℕ). Number n i) (one_number plan.shards p q (word_of (spots e)) (shard_of (spots e)))
      ∙ ap (λ (n : ℕ). Number q n) (bits e)
  bits_apart (AnOffer p) (AnOffer q) is other e =
      ap (λ (n : ℕ). AnOffer n) (one_bit plan.shards (window_words plan) p q e)
  bits_apart (AName p) (AName q) is other e =
      ap (λ (n : ℕ). AName n)
      (one_bit plan.shards (λ shard. window_words plan shard + offer_words plan shard) p q e)
  bits_apart (Number p i) (AnOffer q) is other e =
      absurd (apart (window_words plan) (in_windows p is.0) (after_windows q) (spots e))
  bits_apart (AnOffer q) (Number p i) is other e =
      absurd (apart (window_words plan) (in_windows p other.0) (after_windows q) (sym (spots e)))
  bits_apart (Number p i) (AName q) is other e =
      absurd (apart (window_words plan) (in_windows p is.0) (omega arith) (spots e))
  bits_apart (AName q) (Number p i) is other e =
      absurd (apart (window_words plan) (in_windows p other.0) (omega arith) (sym (spots e)))
  bits_apart (AnOffer p) (AName q) is other e =
      absurd (apart (λ shard. window_words plan shard + offer_words plan shard) (in_offers p is) (omega arith)
      (spots e))
  bits_apart (AName q) (AnOffer p) is other e =
      absurd (apart (λ shard. window_words plan shard + offer_words plan shard) (in_offers p other) (omega arith)
      (sym (spots e)))

pub bits_are_apart : BitsApart
bits_are_apart parts candidates shards one other laid =
    bits_apart (plan_of parts candidates shards) laid.some_shard one other

pub purses_are_apart : PursesApart
purses_are_apart parts candidates shards place asset place' asset' laid small small' e =
    let rows = same_from_place (place / shards) asset (place' / shards) asset' (assets_of parts) small small'
    (word_of e) in
    (one_number shards place place' rows.0 (shard_of e), rows.1)
