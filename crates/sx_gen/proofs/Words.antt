-- The words of the generator, and lists that are made place by place.
use Rattle.std.proofs.Common.{◌≡◌, ℕ, zero, suc, ◌+◌, ◌*◌, ◌/◌, ◌%◌, Result, Ok, List, [], ◌∷◌, ◌++◌, refl, ap, ◌∙◌}
use Rattle.std.proofs.Common.{sym, add-zero, add-suc, add-one}
use Rattle.std.proofs.Common.{append_assoc}
use Rattle.rand_xoshiro.specs.Xoshiro256.{plus_plus}
use Rattle.sx_gen.specs.Drawing.{state_after, word_after, listed}
use Rattle.sx_gen.specs.Candidates.{limit_of, offer_at, offer_by, offers_from, payment_at, payment_by, payments_from}
use Rattle.sx_tx.specs.declared.kind.Kind.TheVariants.{Offer, Pay}
use Rattle.std.specs.Prelude.{IfOk}
use Rattle.sx_tx.specs.declared.kind.Kind.{Kind}
use Rattle.sx_tx.specs.declared.tx.Tx.{Tx}

next_after : List ℕ → List ℕ
next_after state = (plus_plus state).1

-- words after words
pub after_more : (more words : ℕ) (state : List ℕ) → state_after more (state_after words state)
    ≡ state_after (words + more) state
unfolding state_after next_after
after_more zero words state = rw add-zero refl
after_more (suc more) words state =
    rw add-suc (ap next_after (after_more more words state))

-- one entry more
pub listed_more : {X : Type 0} (f : ℕ → X) (count : ℕ) → listed f (count + 1) ≡ listed f count ++ f count ∷ []
unfolding listed
listed_more f count = rw add-one refl

pub listed_none : {X : Type 0} (f : ℕ → X) → listed f 0 ≡ []
unfolding listed
listed_none f = refl

-- ---- draws, one after another

pub before_any : (state : List ℕ) → state ≡ state_after 0 state
unfolding state_after
before_any state = refl

pub one_later : (k : ℕ) (state now later : List ℕ) → now ≡ state_after k state → later ≡ (plus_plus now).1
    → later ≡ state_after (suc k) state
unfolding state_after next_after
one_later k state now later here step = step ∙ ap next_after here

word_in : List ℕ → ℕ
word_in state = (plus_plus state).0

pub drawn_at : (k : ℕ) (state now : List ℕ) (count drawn : ℕ) → now ≡ state_after k state
    → drawn ≡ (plus_plus now).0 % count
    → drawn ≡ word_after state k % count
unfolding word_in word_after
drawn_at k state now count drawn here is = is ∙ ap (λ (s : List ℕ). word_in s % count) here

pub is_offer : (word : ℕ → ℕ) (a b c d sell buy limit amount : ℕ) → a ≡ word 0 % 8 → b ≡ word 1 % 7 → c ≡ word 2 % 9901
    → d ≡ word 3 % 201 → sell ≡ a → buy ≡ (a + 1 + b) % 8 → limit ≡ limit_of a ((a + 1 + b) % 8) (900 + d)
    → amount ≡ 100 + c → Offer sell buy limit amount ≡ offer_by word
is_offer word a b c d sell buy limit amount aw bw cw dw s t l m = rw (s, t, l, m, aw, bw, cw, dw) refl

pub is_payment : (word : ℕ → ℕ) (a b c asset amount : ℕ) → a ≡ word 0 % 1000 → b ≡ word 1 % 8 → c ≡ word 2 % 100
    → asset ≡ b → amount ≡ 1 + c → Pay asset (record { 0 = 1 + a }) amount ≡ payment_by word
is_payment word a b c asset amount aw bw cw s m = rw (s, m, aw, bw, cw) refl

-- what `unwrap` gives of a number in range
pub unwrapped : {E : Type 0} (r : Result ℕ E) (x raw : ℕ) → r ≡ Ok x → IfOk r (λ n. n ≡ raw) → x ≡ raw
unwrapped r x raw is value = rw is at value

-- a generator after so many words has the words that come then
pub words_later : (words : ℕ) (state now : List ℕ) → now ≡ state_after words state
    → word_after now ≡ (λ k. word_after state (words + k))
unfolding word_in word_after
words_later words state now here =
    let each : (k : ℕ) → word_after now k ≡ word_after state (words + k) =
    λ k. ap (λ (s : List ℕ). word_in (state_after k s)) here ∙ ap word_in (after_more k words state) in
    λ j k. each k j

-- n words more at each place
pub steps_more : (n i : ℕ) (state now later : List ℕ) → later ≡ state_after n now → now ≡ state_after (n * i) state
    → n * i + n ≡ n * (i + 1) → later ≡ state_after (n * (i + 1)) state
steps_more n i state now later step here is =
    step ∙ ap (state_after n) here ∙ after_more n (n * i) state ∙ ap (λ (k : ℕ). state_after k state) is

one_more : (f : ℕ → Tx) (before so_far : List Tx) (i : ℕ) (tx : Tx) → tx ≡ f i → so_far ≡ before ++ listed f i
    → so_far ++ tx ∷ [] ≡ before ++ listed f (i + 1)
one_more f before so_far i tx is same =
    rw (same, is, listed_more f i) (append_assoc before (listed f i) (f i ∷ []))

-- one offer more
pub offers_more : (before so_far : List Tx) (state : List ℕ) (i seq : ℕ) (kind : Kind) (now : List ℕ)
    → now ≡ state_after (4 * i) state → kind ≡ offer_by (word_after now) → seq ≡ 1 + i / 1000
    → so_far ≡ before ++ offers_from state i
    → so_far ++ record { account = record { 0 = 1 + i % 1000 }; seq = seq; kind = kind } ∷ []
    ≡ before ++ offers_from state (i + 1)
offers_more before so_far state i seq kind now here is place same =
    one_more (offer_at state) before so_far i _
    (rw (place, is, words_later (4 * i) state now here) refl) same

-- one payment more
pub payments_more : (before so_far : List Tx) (state : List ℕ) (i seq : ℕ) (kind : Kind) (now : List ℕ)
    → now ≡ state_after (3 * i) state → kind ≡ payment_by (word_after now) → seq ≡ 5
    → so_far ≡ before ++ payments_from state i
    → so_far ++ record { account = record { 0 = 1 + i }; seq = seq; kind = kind } ∷ []
    ≡ before ++ payments_from state (i + 1)
payments_more before so_far state i seq kind now here is place same =
    one_more (payment_at state) before so_far i _
    (rw (place, is, words_later (3 * i) state now here) refl) same

-- one entry more at the end
pub pushed : {X : Type 0} (f : ℕ → X) (so_far : List X) (i : ℕ) (x : X) → x ≡ f i → so_far ≡ listed f i
    → so_far ++ x ∷ [] ≡ listed f (i + 1)
pushed f so_far i x is same = rw (same, is) (sym (listed_more f i))
