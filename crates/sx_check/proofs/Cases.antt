-- Reasons of small blocks, worked out by hand: which of two counts, and what it tells.
use Rattle.std.proofs.Common.{◌≡◌, ℕ, zero, suc, ◌<◌, ◌≤◌, List, [], ◌∷◌, length, inl, inr, refl, arith}
use Rattle.sx_block.specs.declared.header.Block.{Block}
use Rattle.sx_check.specs.declared.fault.CheckFault.TheVariants as check_fault
use Rattle.sx_block.specs.declared.invalid.Invalid.TheVariants.{WrongAfter}
use Rattle.sx_block.specs.Refusals.{IsCrowded, IsMisrounded}
use Rattle.sx_check.specs.Explanations.{ExplainsEarly}
use Rattle.sx_block.proofs.ValidCase.{before, block}
use Rattle.sx_ledger.specs.declared.parts.Parts.{Parts}
use Rattle.sx_ledger.specs.Repeats.{IsFirstRepeat, Repeats, creates}
use Rattle.sx_tx.specs.declared.kind.Kind.TheVariants as kind
use Rattle.sx_tx.specs.declared.tx.Tx.{Tx}

-- ---- too many accounts and offers

abbrev create : ℕ → ℕ → Tx
create seq id = record { account = record { 0 = 1 }; seq = seq; kind = kind.Create (record { 0 = id }) }

abbrev sell : ℕ → Tx
sell seq = record { account = record { 0 = 1 }; seq = seq; kind = kind.Offer 0 1 16777216 5 }

module _ (parts : Parts) where
  -- two accounts come where there is room for one
  accounts : length parts.accounts ≡ 65535 → IsCrowded parts (create 1 8 ∷ create 2 9 ∷ []) 65535 2 65536
  accounts full = inl (record { is_there = omega arith; is_coming = refl; is_most = refl; above = omega arith })

  -- an offer comes where there is no room
  offers : length parts.accounts ≤ 65536 → length parts.offers ≡ 262144
      → IsCrowded parts (sell 1 ∷ []) 262144 1 262144
  offers fit full =
      inr (omega arith, record { is_there = omega arith; is_coming = refl; is_most = refl; above = omega arith })

  -- where neither has room, accounts count
  accounts_first : length parts.accounts ≡ 65536 → IsCrowded parts (create 1 9 ∷ sell 2 ∷ []) 262144 1 262144 → ⊥
  accounts_first full crowded =
      elim crowded [ inl above ↦ omega (arith, above.is_there) | inr both ↦ omega (arith, both.0) ]

-- ---- one account created three times

abbrev thrice : List Tx
thrice = create 1 9 ∷ create 2 9 ∷ create 3 9 ∷ []

repeats : (place : ℕ) → 0 < place → place < 3 → Repeats creates thrice place
repeats zero some lt = absurd (omega arith)
repeats (suc zero) some lt = record {
  what = 9;
  again = refl;
  before = record { first = 0; earlier = omega arith; done = refl };
}
repeats (suc (suc zero)) some lt = record {
  what = 9;
  again = refl;
  before = record { first = 0; earlier = omega arith; done = refl };
}
repeats (suc (suc (suc place))) some lt = absurd (omega arith)

second_is_first : IsFirstRepeat creates thrice 1
second_is_first = record {
  repeats = repeats 1 (omega arith) (omega arith);
  earlier = λ other lt again. omega (arith, again.before.earlier);
}

third_is_not : IsFirstRepeat creates thrice 2 → ⊥
third_is_not first = first.earlier 1 (omega arith) (repeats 1 (omega arith) (omega arith))

-- ---- a wrong rounding of both assets, of which rounding keeps 0 units and 1

abbrev wrong : Block
wrong = record block { header = record block.header { rounding = 5 ∷ 6 ∷ [] } }

first_asset : IsMisrounded before wrong 0 5 0
first_asset = record {
  there = omega arith;
  is_said = refl;
  is_real = refl;
  differ = λ e. absurd cc;
  earlier = λ other lt. absurd (omega arith);
}

not_second_asset : IsMisrounded before wrong 1 6 1 → ⊥
not_second_asset is = let first = is.earlier 0 (omega arith) in absurd cc

-- ---- a judge that does not make the ledger after the block says nothing of its digest

not_of_the_ledger_after : (parts : Parts) (said : Block) (one other : List ℕ)
    → ExplainsEarly parts said (check_fault.Invalid (WrongAfter one other)) → ⊥
not_of_the_ledger_after parts said one other is = is.early one other refl
