-- Which offers are cancelled, with one transaction more.
use Rattle.std.proofs.Common.{◌≡◌, ℕ, ◌<◌, Bool, true, false, ◌||◌, List, [], ◌∷◌, ◌++◌, length, set}
use Rattle.std.proofs.Common.{get_or, None, Some, inl, inr, refl, sym, ap, ◌∙◌, arith}
use Rattle.std.specs.Prelude.{slice_get}
use Rattle.std.specs.List.{list_any}
use Rattle.std.specs.Option.{option_map}
use Rattle.std.proofs.lemmas.Bool.{cases_eq, or_right}
use Rattle.std.proofs.lemmas.Grind.{get_or-set_at}
use Rattle.std.proofs.lemmas.List.{get_or-set_other, length-map, length-set}
use Rattle.std.proofs.lemmas.List.Folds.{list_any-append}
use Rattle.std.proofs.lemmas.Option.{get_or_from_slice_get, slice_get-get_or, slice_get-map}
use Rattle.std.proofs.lemmas.Option.{slice_get_within}
use Rattle.sx_bytes.specs.Grammar.{in_order}
use Rattle.sx_ledger.specs.Repeats.{cancels}
use Rattle.sx_tally.specs.Changes.{AreFlags}
use Rattle.sx_tally.proofs.Repeated.{done_more, done_none}
use Rattle.sx_ledger.specs.declared.key.Key.{Key}
use Rattle.sx_ledger.specs.declared.offer.Offer.{Offer}
use Rattle.sx_ledger.specs.declared.parts.Parts.{Parts}
use Rattle.sx_ledger.specs.declared.places.Target.{Target}
use Rattle.sx_ledger.specs.declared.places.Target.TheVariants as target
use Rattle.sx_ledger.specs.Body.{cancelled, cancelled_by}
use Rattle.sx_ledger.specs.Ledger.{keys}
use Rattle.sx_ledger.specs.Order.{key_before, key_of, same_key}
use Rattle.sx_ledger.specs.Places.{IsTarget}
use Rattle.sx_ledger.proofs.KeyOrder.{same_key_from}
use Rattle.sx_ledger.proofs.Lookup.{entry_at, mark_is}
use Rattle.sx_tally.proofs.KeysApart.{keys_apart}
use Rattle.sx_tx.specs.declared.kind.Kind.{Kind}
use Rattle.sx_tx.specs.declared.kind.Kind.TheVariants as kind
use Rattle.sx_tx.specs.declared.tx.Tx.{Tx}

-- ---- what a target tells

-- a transaction whose target is no offer cancels none
pub cancels_none : (parts : Parts) (tx : Tx) (k : Kind) (named : Target) → IsTarget parts tx.account.0 k named
    → ((place : ℕ) → named ≡ target.Offer place → ⊥) → cancelled_by tx k ≡ None
cancels_none parts tx (kind.Pay asset to amount) named is other = refl
cancels_none parts tx (kind.Create id) named is other = refl
cancels_none parts tx (kind.Offer sell buy limit amount) named is other = refl
cancels_none parts tx (kind.Cancel sell buy limit seq) target.Nothing is other = absurd is
cancels_none parts tx (kind.Cancel sell buy limit seq) (target.Payee place) is other = absurd is
cancels_none parts tx (kind.Cancel sell buy limit seq) (target.Offer place) is other = absurd (other place refl)

-- the key that a transaction cancels, which is that of the offer at the place
pub record IsCancelAt (parts : Parts) (tx : Tx) (k : Kind) (place : ℕ) : Type 0 where
  pub key : Key
  pub is : cancelled_by tx k ≡ Some key
  pub there : slice_get (keys parts.offers) place ≡ Some key

pub cancels_at : (parts : Parts) (tx : Tx) (k : Kind) (place : ℕ)
    → IsTarget parts tx.account.0 k (target.Offer place) → IsCancelAt parts tx k place
cancels_at parts tx (kind.Pay asset to amount) place is = absurd is
cancels_at parts tx (kind.Create id) place is = absurd cc
cancels_at parts tx (kind.Offer sell buy limit amount) place is = absurd cc
cancels_at parts tx (kind.Cancel sell buy limit seq) place is =
    record {
      key = record { sell = sell; buy = buy; limit = limit; account = tx.account; seq = seq };
      is = refl;
      there = is;
    }

-- the flags stay where a transaction cancels nothing
pub none_more : (offers : List Offer) (before : List Tx) (tx : Tx) (flags : List Bool) → cancels tx ≡ None
    → AreFlags (λ offer. list_any (same_key (key_of offer)) (cancelled before)) offers flags
    → AreFlags (λ offer. list_any (same_key (key_of offer)) (cancelled (before ++ tx ∷ []))) offers flags
none_more offers before tx flags nothing was place offer there =
    was place offer there
    ∙ ap (λ (ks : List Key). Some (list_any (same_key (key_of offer)) ks)) (sym (done_none cancels before tx nothing))

-- ---- the flags

module _ (parts : Parts) (ordered : in_order key_before None (keys parts.offers) ≡ true) (before : List Tx) (tx : Tx)
    (place : ℕ) (key : Key) (there : slice_get (keys parts.offers) place ≡ Some key) (flags : List Bool)
    (as_many : length flags ≡ length parts.offers)
    (was : AreFlags (λ offer. list_any (same_key (key_of offer)) (cancelled before)) parts.offers flags) where
  within : place < length parts.offers
  within =
      let lt = slice_get_within (keys parts.offers) place key there in
      omega (arith, lt, length-map parts.offers key_of)

  offer_key : (p : ℕ) (offer : Offer) → slice_get parts.offers p ≡ Some offer
      → slice_get (keys parts.offers) p ≡ Some (key_of offer)
  offer_key p offer here = slice_get-map key_of parts.offers p ∙ ap (option_map key_of) here

  -- the flag that is there tells whether the key is cancelled before
  pub flag_tells : (d : Bool) → get_or flags place d ≡ list_any (same_key key) (cancelled before)
  flag_tells d =
      let e = entry_at key_of parts.offers place key there in
      get_or_from_slice_get flags place (list_any (same_key (key_of e.0)) (cancelled before)) d (was place e.0 e.1)
      ∙ ap (λ (k : Key). list_any (same_key k) (cancelled before)) (sym e.2)

  -- the key is entered
  module _ (is : cancels tx ≡ Some key) where
    any_more : (k : Key) → list_any (same_key k) (cancelled (before ++ tx ∷ []))
        ≡ (list_any (same_key k) (cancelled before) || same_key k key)
    any_more k =
        ap (list_any (same_key k)) (done_more cancels before tx key is)
        ∙ list_any-append (same_key k) (cancelled before) (key ∷ [])
        ∙ ap (λ (b : Bool). list_any (same_key k) (cancelled before) || b) (or_false (same_key k key))
      where
        or_false : (b : Bool) → (b || false) ≡ b
        or_false true = refl
        or_false false = refl

    pub flags_more : AreFlags (λ offer. list_any (same_key (key_of offer)) (cancelled (before ++ tx ∷ [])))
        parts.offers (set flags place true)
    flags_more p offer here =
        let p_there = slice_get_within parts.offers p offer here in
        let longer = length-set flags place true in
        let k = key_of offer in
        let got : slice_get (set flags place true) p ≡ Some (get_or (set flags place true) p false) =
        slice_get-get_or (set flags place true) p false (omega (arith, longer, as_many)) in
        elim (cases_eq p place) [
          | inl at ↦
              let key_is : key ≡ k =
              mark_is key_of parts.offers p key offer here (ap (slice_get (keys parts.offers)) at ∙ there) in
              let holds : same_key k key ≡ true = same_key_from k key (sym key_is) in
              got ∙ ap Some (get_or-set_at flags place p true false at (omega (arith, within, as_many))
              ∙ sym (any_more k ∙ or_right (list_any (same_key k) (cancelled before)) (same_key k key) holds))
          | inr other ↦
              let apart : same_key k key ≡ false =
              keys_apart None (keys parts.offers) p place k key ordered (offer_key p offer here) there other in
              let old : get_or flags p false ≡ list_any (same_key k) (cancelled before) =
              get_or_from_slice_get flags p (list_any (same_key k) (cancelled before)) false (was p offer here) in
              got ∙ ap Some (get_or-set_other flags place p true false other ∙ old
              ∙ sym (any_more k ∙ ap (λ (b : Bool). list_any (same_key k) (cancelled before) || b) apart
              ∙ or_false (list_any (same_key k) (cancelled before))))
        ]
      where
        or_false : (b : Bool) → (b || false) ≡ b
        or_false true = refl
        or_false false = refl
