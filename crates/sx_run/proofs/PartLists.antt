-- Lists that stand one behind the other: how long they are, and how their encodings go together.
use Rattle.std.proofs.Common.{◌≡◌, ℕ, zero, suc, ◌+◌, ◌<◌, ◌≤◌, List, [], ◌∷◌, ◌++◌, length, get_or, drop, take}
use Rattle.std.proofs.Common.{add-one, refl, sym, ap, ◌∙◌, arith}
use Rattle.std.specs.List.{flat_map}
use Rattle.std.proofs.lemmas.Grind.{flat_map-append}
use Rattle.std.proofs.lemmas.List.{append-nil, length-append, take_more}
use Rattle.std.proofs.Math.Seq.{drop-cons}
use Rattle.sx_record.specs.Frame.{most_bytes}
use Rattle.sx_tx.specs.declared.tx.Tx.{Tx}
use Rattle.sx_tx.specs.Transactions.{most_transactions, tx_bytes}
use Rattle.sx_tx.proofs.ListLaws.{fits_record}

abbrev pub all : {X : Type 0} → List (List X) → List X
all lists = flat_map (λ list. list) lists

module _ {X : Type 0} where
  -- one list less is left
  pub left : (lists : List (List X)) (i : ℕ) (list : List X) → i < length lists → list ≡ get_or lists i list
      → length (all (drop i lists)) ≡ length list + length (all (drop (i + 1) lists))
  left lists i list within is =
      ap (λ (rest : List (List X)). length (all rest)) (drop-cons lists i list within)
      ∙ rw (← is, add-one) (length-append list (all (drop (suc i) lists)))

  pub none : (lists : List (List X)) (i : ℕ) → length lists ≤ i → length (all (drop i lists)) ≡ 0
  none [] zero le = refl
  none [] (suc i) le = refl
  none (list ∷ lists) zero le = absurd (omega (arith, le))
  none (list ∷ lists) (suc i) le = none lists i (omega (arith, le))

  -- one list more
  pub one_more : (lists : List (List X)) (i : ℕ) (list : List X) → i < length lists → list ≡ get_or lists i list
      → all (take (i + 1) lists) ≡ all (take i lists) ++ list
  one_more lists i list within is =
      ap all (take_more lists i list within)
      ∙ flat_map-append (λ (l : List X). l) (take i lists) (get_or lists i list ∷ [])
      ∙ ap (λ (l : List X). all (take i lists) ++ l) (append-nil (get_or lists i list) ∙ sym is)

  -- the front half and the back half
  pub halves : (lists front back : List (List X)) → lists ≡ front ++ back → all lists ≡ all front ++ all back
  halves lists front back parted = ap all parted ∙ flat_map-append (λ (l : List X). l) front back

-- ---- what may be written

pub fits : (told : List (List ℕ)) (parts : List (List Tx)) (kept : List Tx)
    → all told ≡ flat_map tx_bytes (all parts) → all parts ≡ kept → length kept ≤ most_transactions
    → 4 + length (all told) ≤ most_bytes
fits told parts kept are same few =
    let is : length (all told) ≡ length (flat_map tx_bytes kept) = ap length (are ∙ ap (flat_map tx_bytes) same) in
    omega (arith, is, fits_record kept few)
