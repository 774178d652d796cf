-- Lists that are dealt out to shards in turn.
use Rattle.std.proofs.Common.{◌≡◌, ℕ, suc, ◌+◌, ◌-◌, ◌<◌, ◌≤◌, ◌⊎◌, inl, inr, List, [], ◌∷◌, ◌++◌, length, get_or}
use Rattle.std.proofs.Common.{drop, sym, ap, ◌∙◌, arith, append_assoc, append-nil}
use Rattle.std.proofs.lemmas.Bool.{cases_eq, cases_lt}
use Rattle.std.proofs.lemmas.List.{drop_more, drop_all}
use Rattle.std.proofs.lemmas.List.FromFn.{map-range_with_len_more}
use Rattle.sx_layout.specs.Dealing.{dealt, for_each_shard}

-- While it is the turn of one shard, shard `k` waits until the turn comes round to it. What it has, and then what is
-- made of the things that it still gets, are all.
pub record IsDealing {X Y : Type 0} (make : List X → List Y) (shards turn k : ℕ) (rest : List X) (has all : List Y)
    : Type 0 where
  pub gets : (wait : ℕ) → wait < shards → (wait + turn ≡ k) ⊎ (wait + turn ≡ k + shards)
      → has ++ make (dealt shards wait rest) ≡ all

-- whose turn comes after another's
pub record IsNext (shards turn next : ℕ) : Type 0 where
  pub within : next < shards
  pub is : (next ≡ turn + 1) ⊎ (next + shards ≡ turn + 1)

-- who has just had a turn is the last to have one again
last_wait : (shards turn next k wait : ℕ) → turn < shards → IsNext shards turn next → k ≡ turn → wait < shards
    → (wait + next ≡ k) ⊎ (wait + next ≡ k + shards) → wait ≡ shards - 1
last_wait shards turn next k wait below after here short at =
    elim at [
      | inl e ↦ elim (after.is) [ inl f ↦ omega arith | inr f ↦ omega arith ]
      | inr e ↦ elim (after.is) [ inl f ↦ omega arith | inr f ↦ omega arith ]
    ]

module _ {X Y : Type 0} (make : List X → List Y) (shards : ℕ) where
  -- at first it is the turn of the first shard
  pub dealing_begins : (k : ℕ) (xs : List X) (has : List Y)
      → IsDealing make shards 0 k xs has (has ++ make (dealt shards k xs))
  dealing_begins k xs has = record {
    gets = λ wait short at.
        let is : wait ≡ k = elim at [ inl e ↦ omega arith | inr e ↦ omega arith ] in
        ap (λ (n : ℕ). has ++ make (dealt shards n xs)) is;
  }

  module _ (turn next k : ℕ) (xs : List X) (place : ℕ) (d : X) (has now all : List Y) (below : turn < shards)
      (after : IsNext shards turn next) (lt : place < length xs)
      (dealing : IsDealing make shards turn k (drop place xs) has all) where
    -- the shard whose turn it is gets the next thing
    dealing_here : (made : List Y) → ((ys : List X) → make (get_or xs place d ∷ ys) ≡ made ++ make ys)
        → k ≡ turn → now ≡ has ++ made → IsDealing make shards next k (drop (place + 1) xs) now all
    dealing_here made splits here grown = record {
      gets = λ wait short at.
          let rest = drop (place + 1) xs in
          ap (λ (ys : List Y). ys ++ make (dealt shards wait rest)) grown
          ∙ append_assoc has made (make (dealt shards wait rest))
          ∙ ap (λ (n : ℕ). has ++ (made ++ make (dealt shards n rest)))
          (last_wait shards turn next k wait below after here short at)
          ∙ ap (λ (ys : List Y). has ++ ys) (sym (splits (dealt shards (shards - 1) rest)))
          ∙ ap (λ (ys : List X). has ++ make (dealt shards 0 ys)) (sym (drop_more xs place d lt))
          ∙ dealing.gets 0 (omega arith) (inl (omega arith));
    }

    -- and the others wait on
    dealing_other : k < shards → (k ≡ turn → ⊥) → now ≡ has → IsDealing make shards next k (drop (place + 1) xs) now all
    dealing_other within other same = record {
      gets = λ wait short at.
          let was : suc wait < shards → (suc wait + turn ≡ k) ⊎ (suc wait + turn ≡ k + shards)
          → now ++ make (dealt shards wait (drop (place + 1) xs)) ≡ all =
          λ s w. ap (λ (ys : List Y). ys ++ make (dealt shards wait (drop (place + 1) xs))) same
          ∙ ap (λ (ys : List X). has ++ make (dealt shards (suc wait) ys)) (sym (drop_more xs place d lt))
          ∙ dealing.gets (suc wait) s w in
          elim at [
            | inl e ↦ elim (after.is) [
              | inl f ↦ was (omega arith) (inl (omega arith))
              | inr f ↦ was (omega arith) (inr (omega arith))
            ]
            | inr e ↦ elim (after.is) [ inl f ↦ was (omega arith) (inr (omega arith)) | inr f ↦ absurd (omega arith) ]
          ];
    }

    -- one turn
    pub dealing_goes_on : (made : List Y) → ((ys : List X) → make (get_or xs place d ∷ ys) ≡ made ++ make ys)
        → k < shards → (k ≡ turn → now ≡ has ++ made) → ((k ≡ turn → ⊥) → now ≡ has)
        → IsDealing make shards next k (drop (place + 1) xs) now all
    dealing_goes_on made splits within here others =
        elim (cases_eq k turn) [
          | inl e ↦ dealing_here made splits e (here e)
          | inr other ↦ dealing_other within other (others other)
        ]

  -- when nothing is left, each shard has all that it gets
  pub dealing_ends : (turn k : ℕ) (xs : List X) (place : ℕ) (has all : List Y) → make [] ≡ [] → turn < shards
      → k < shards → length xs ≤ place → IsDealing make shards turn k (drop place xs) has all → has ≡ all
  dealing_ends turn k xs place has all none below within le dealing =
      elim (cases_lt k turn) [
        | inl lt ↦ after_wait (k + shards - turn) (omega arith) (inr (omega arith))
        | inr ge ↦ after_wait (k - turn) (omega arith) (inl (omega arith))
      ]
    where
      after_wait : (wait : ℕ) → wait < shards → (wait + turn ≡ k) ⊎ (wait + turn ≡ k + shards) → has ≡ all
      after_wait wait short at =
          sym (append-nil has)
          ∙ ap (λ (ys : List Y). has ++ ys) (sym none)
          ∙ ap (λ (ys : List X). has ++ make (dealt shards wait ys)) (sym (drop_all place xs le))
          ∙ dealing.gets wait short at

-- one more shard
pub shards_more : {X : Type 0} (entry : ℕ → X) (n : ℕ)
    → for_each_shard entry (n + 1) ≡ for_each_shard entry n ++ entry n ∷ []
shards_more entry n = map-range_with_len_more entry 0 n n (omega arith)
