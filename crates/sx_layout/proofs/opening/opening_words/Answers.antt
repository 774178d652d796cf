use Rattle.std.proofs.Common.{◌≡◌, ℕ, suc, ◌+◌, ◌<◌, List, [], ◌∷◌, ◌++◌, length, get_or, map, replicate, sym, ap}
use Rattle.std.proofs.Common.{◌∙◌, arith}
use Rattle.std.specs.Vec.Iter.{into_iter_items}
use Rattle.std.proofs.lemmas.List.{length_push}
use Rattle.sx_layout.specs.Dealing.{dealt, for_each_shard, share_of, words_for}
use Rattle.sx_layout.specs.Plan.{bits_at, purses_at}
use Rattle.sx_layout.specs.declared.share.Share.{Share}
use Rattle.sx_layout.proofs.DealtLists.{shards_more}
use Rattle.sx_layout.proofs.opening.opening_words.Goals as goal
use Rattle.sx_ledger.specs.declared.account.Account.{Account}

module _ {X Y : Type 0} (words : X → List Y) (entry : ℕ → List Y) (shards n m : ℕ) (x : X) (xs ys : List X)
    (first : xs ≡ x ∷ ys) (left : (k : ℕ) (d : X) → n + k < shards → words (get_or xs k d) ≡ entry (n + k)) where
  -- of shares that are left, the first one's words
  first_left : n < shards → words x ≡ entry n
  first_left lt =
      ap (λ (zs : List X). words (get_or zs 0 x)) (sym first) ∙ left 0 x (omega arith) ∙ ap entry (omega arith)

  -- and those of the others
  others_left : m ≡ n + 1 → (k : ℕ) (d : X) → m + k < shards → words (get_or ys k d) ≡ entry (m + k)
  others_left more k d lt =
      ap (λ (zs : List X). words (get_or zs (suc k) d)) (sym first) ∙ left (suc k) d (omega arith)
      ∙ ap entry (omega arith)

-- one more shard's words
words_more : {Y : Type 0} (entry : ℕ → List Y) (n m : ℕ) (done now : List (List Y)) (one : List Y) → m ≡ n + 1
    → now ≡ done ++ one ∷ [] → one ≡ entry n → done ≡ for_each_shard entry n → now ≡ for_each_shard entry m
words_more {Y = Y} entry n m done now one more grown is were =
    grown ∙ ap (λ (w : List Y). done ++ w ∷ []) is ∙ ap (λ (l : List (List Y)). l ++ entry n ∷ []) were
    ∙ sym (shards_more entry n) ∙ ap (λ (k : ℕ). for_each_shard entry k) (sym more)

pub loop-share-preserved : goal.loop-share-preserved
loop-share-preserved c =
    let parts = c.args.ledger.now in
    let names = c.args.names.now in
    let shards = c.args.shards in
    let at = c.loop-share in
    let n = length at.yielded in
    let share = c.in-Some.share in
    let items = into_iter_items at.share-iterator in
    let rest = into_iter_items c.next.new.self in
    let first : items ≡ share ∷ rest = c.in-Some.ensures.steps.0 in
    let more : length (at.yielded ++ share ∷ []) ≡ n + 1 = length_push at.yielded share in
    let below : n < shards = omega (arith, c.in-Some.ensures.steps.1) in
    let used : ℕ → List ℕ = λ k. map (λ (account : Account). account.window.used) (dealt shards k parts.accounts) in
    let clear : ℕ → ℕ = λ k.
    share_of shards k (words_for (length parts.offers)) + share_of shards k (words_for (length names)) in
    let place : c.len.result ≡ n = c.len.ensures ∙ at.invariant.place in
    let m = length (at.yielded ++ share ∷ []) in
    let its_balances : share.balances.items ≡ purses_at parts shards n =
    first_left (λ (s : Share). s.balances.items) (purses_at parts shards) shards n m share items rest first
    at.invariant.balances_left below in
    let its_used : share.used.items ≡ used n =
    first_left (λ (s : Share). s.used.items) used shards n m share items rest first at.invariant.used_left below in
    record {
      count = omega (arith, more, c.in-Some.ensures.steps.1, at.invariant.count);
      place = omega (arith, more, c.in_ok-push-2.ensures.len, at.invariant.place);
      purses = words_more (purses_at parts shards) n m _ _ _ more c.in_ok-push.ensures.items
          (c.in_ok-balances.ensures.purses ∙ its_balances) at.invariant.purses;
      bits = words_more (bits_at parts names shards) n m _ _ _ more c.in_ok-push-2.ensures.items
          (c.in_ok-balances.ensures.bits
          ∙ ap (λ (w : List ℕ). w ++ replicate c.clear_words-clear.result 0) its_used
          ∙ ap (λ (k : ℕ). used n ++ replicate k 0) (c.clear_words-clear.ensures.clear ∙ ap clear place))
          at.invariant.bits;
      balances_left = others_left (λ (s : Share). s.balances.items) (purses_at parts shards) shards n m share items rest
          first at.invariant.balances_left more;
      used_left = others_left (λ (s : Share). s.used.items) used shards n m share items rest first
          at.invariant.used_left more;
    }
