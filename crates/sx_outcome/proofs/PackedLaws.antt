-- Outcomes of kinds and figures: how they grow, and what stands first of those that are left.
use Rattle.std.proofs.Common.{◌≡◌, ◌≢◌, ℕ, zero, suc, ◌+◌, ◌-◌, ◌<◌, ◌≤◌, Bool, true, false, List, [], ◌∷◌, ◌++◌, length}
use Rattle.std.proofs.Common.{get_or, drop, take, eqb, leb, cond, refl, sym, ap, subst, ◌∙◌, arith}
use Rattle.std.specs.Prelude.{slice_get, IfSome}
use Rattle.std.proofs.lemmas.Bool.{eq-eqb, eqb-true, ne_eqb}
use Rattle.std.proofs.lemmas.List.{drop_more, length-append, length-drop, take_more}
use Rattle.std.proofs.lemmas.List.Sums.{count_by-le-length, sum_by-append, sum_by-cons}
use Rattle.sx_outcome.specs.declared.kinds.Shortage.{Shortage}
use Rattle.sx_outcome.specs.declared.outcome.Outcome.{Outcome}
use Rattle.sx_outcome.specs.declared.outcome.Outcome.TheVariants as outcome
use Rattle.sx_outcome.specs.Gathering.{is_accepted}
use Rattle.sx_outcome.specs.OutcomeDecoding.{static_numbered}
use Rattle.sx_outcome.specs.Packed.{figures_of, kind_of, outcomes_of, overdraft_of, overdrafts_among, plain_outcome}
use Rattle.sx_outcome.specs.Packed.{HaveFigures}
use Rattle.sx_ledger.specs.declared.statics.Static.{Static}
use Rattle.sx_ledger.specs.declared.statics.Static.TheVariants.{UnknownAccount, SeqBehind, SeqBeyond, UnknownAsset}
use Rattle.sx_ledger.specs.declared.statics.Static.TheVariants.{SamePair, UnknownPayee, AccountExists, NoSuchOffer}
use Rattle.sx_ledger.specs.declared.statics.Static.TheVariants.{Dust, SeqUsed}
use Rattle.sx_ledger.specs.Static.{number_of_static}

abbrev is_overdraft : ℕ → Bool
is_overdraft kind = eqb kind 14

-- ---- the first of several

abbrev first : ℕ → List Shortage → Outcome
first kind [] = plain_outcome kind
first kind (next ∷ figures) = cond (is_overdraft kind) (overdraft_of next) (plain_outcome kind)

abbrev figures_after : ℕ → List Shortage → List Shortage
figures_after kind [] = []
figures_after kind (next ∷ figures) = cond (is_overdraft kind) figures (next ∷ figures)

first_is : (kind : ℕ) (kinds : List ℕ) (figures : List Shortage)
    → outcomes_of (kind ∷ kinds) figures ≡ first kind figures ∷ outcomes_of kinds (figures_after kind figures)
first_is kind kinds [] = refl
first_is kind kinds (next ∷ figures) =
    elim (is_overdraft kind) as (λ b.
    cond b (overdraft_of next ∷ outcomes_of kinds figures) (plain_outcome kind ∷ outcomes_of kinds (next ∷ figures))
    ≡ cond b (overdraft_of next) (plain_outcome kind) ∷ outcomes_of kinds (cond b figures (next ∷ figures))) [
      | true ↦ refl
      | false ↦ refl
    ]

plain_first : (kind : ℕ) (kinds : List ℕ) (figures : List Shortage) → is_overdraft kind ≡ false
    → outcomes_of (kind ∷ kinds) figures ≡ plain_outcome kind ∷ outcomes_of kinds figures
plain_first kind kinds [] plain = refl
plain_first kind kinds (next ∷ figures) plain =
    ap (λ (b : Bool).
    cond b (overdraft_of next ∷ outcomes_of kinds figures) (plain_outcome kind ∷ outcomes_of kinds (next ∷ figures))) plain

overdraft_first : (kind : ℕ) (kinds : List ℕ) (next : Shortage) (figures : List Shortage) → is_overdraft kind ≡ true
    → outcomes_of (kind ∷ kinds) (next ∷ figures) ≡ overdraft_of next ∷ outcomes_of kinds figures
overdraft_first kind kinds next figures over =
    ap (λ (b : Bool).
    cond b (overdraft_of next ∷ outcomes_of kinds figures) (plain_outcome kind ∷ outcomes_of kinds (next ∷ figures))) over

-- ---- counts

pub length_outcomes : (kinds : List ℕ) (figures : List Shortage) → length (outcomes_of kinds figures) ≡ length kinds
length_outcomes [] figures = refl
length_outcomes (kind ∷ kinds) figures =
    ap (λ (list : List Outcome). length list) (first_is kind kinds figures)
    ∙ ap suc (length_outcomes kinds (figures_after kind figures))

pub overdrafts_few : (kinds : List ℕ) → overdrafts_among kinds ≤ length kinds
overdrafts_few kinds = count_by-le-length is_overdraft kinds

pub overdrafts_append : (kinds more : List ℕ)
    → overdrafts_among (kinds ++ more) ≡ overdrafts_among kinds + overdrafts_among more
overdrafts_append kinds more = sum_by-append (λ kind. cond (is_overdraft kind) 1 0) kinds more

count_first : (b : Bool) (kind : ℕ) (kinds : List ℕ) → is_overdraft kind ≡ b
    → overdrafts_among (kind ∷ kinds) ≡ cond b 1 0 + overdrafts_among kinds
count_first b kind kinds is =
    sum_by-cons (λ k. cond (is_overdraft k) 1 0) kind kinds
    ∙ ap (λ (c : Bool). cond c 1 0 + overdrafts_among kinds) is

-- ---- growth

abbrev Appends : List ℕ → List ℕ → List Shortage → List Shortage → Type 0
Appends kinds more figures others =
    outcomes_of (kinds ++ more) (figures ++ others) ≡ outcomes_of kinds figures ++ outcomes_of more others

append_first : (kind : ℕ) (kinds more : List ℕ) (others : List Shortage)
    → ((figures : List Shortage) → HaveFigures kinds figures → Appends kinds more figures others)
    → (b : Bool) → is_overdraft kind ≡ b → (figures : List Shortage) → HaveFigures (kind ∷ kinds) figures
    → Appends (kind ∷ kinds) more figures others
append_first kind kinds more others later false plain figures have =
    plain_first kind (kinds ++ more) (figures ++ others) plain
    ∙ ap (λ (list : List Outcome). plain_outcome kind ∷ list)
    (later figures (omega (arith, have, count_first false kind kinds plain)))
    ∙ ap (λ (list : List Outcome). list ++ outcomes_of more others) (sym (plain_first kind kinds figures plain))
append_first kind kinds more others later true over [] have =
    absurd (omega (arith, have, count_first true kind kinds over))
append_first kind kinds more others later true over (next ∷ figures) have =
    overdraft_first kind (kinds ++ more) next (figures ++ others) over
    ∙ ap (λ (list : List Outcome). overdraft_of next ∷ list)
    (later figures (omega (arith, have, count_first true kind kinds over)))
    ∙ ap (λ (list : List Outcome). list ++ outcomes_of more others) (sym (overdraft_first kind kinds next figures over))

pub outcomes_append : (kinds more : List ℕ) (figures others : List Shortage) → HaveFigures kinds figures
    → Appends kinds more figures others
outcomes_append [] more [] others have = refl
outcomes_append [] more (next ∷ figures) others have = absurd (omega (arith, have))
outcomes_append (kind ∷ kinds) more figures others have =
    append_first kind kinds more others (λ fs is. outcomes_append kinds more fs others is) (is_overdraft kind) refl
    figures have

-- ---- one more outcome

static_alone : (why : Static) → plain_outcome (number_of_static why) ≡ outcome.Static why
static_alone UnknownAccount = refl
static_alone SeqBehind = refl
static_alone SeqBeyond = refl
static_alone UnknownAsset = refl
static_alone SamePair = refl
static_alone UnknownPayee = refl
static_alone AccountExists = refl
static_alone NoSuchOffer = refl
static_alone Dust = refl
static_alone SeqUsed = refl

alone : (said : Outcome) → outcomes_of (kind_of said ∷ []) (figures_of said) ≡ said ∷ []
alone outcome.Accepted = refl
alone (outcome.Static why) = ap (λ (o : Outcome). o ∷ []) (static_alone why)
alone outcome.SeqTaken = refl
alone outcome.OfferTaken = refl
alone outcome.NameTaken = refl
alone (outcome.Overdraft seen need) = refl

static_counts : (why : Static) → is_overdraft (number_of_static why) ≡ false
static_counts UnknownAccount = refl
static_counts SeqBehind = refl
static_counts SeqBeyond = refl
static_counts UnknownAsset = refl
static_counts SamePair = refl
static_counts UnknownPayee = refl
static_counts AccountExists = refl
static_counts NoSuchOffer = refl
static_counts Dust = refl
static_counts SeqUsed = refl

counts : (said : Outcome) → overdrafts_among (kind_of said ∷ []) ≡ length (figures_of said)
counts outcome.Accepted = refl
counts (outcome.Static why) = count_first false (number_of_static why) [] (static_counts why)
counts outcome.SeqTaken = refl
counts outcome.OfferTaken = refl
counts outcome.NameTaken = refl
counts (outcome.Overdraft seen need) = refl

pub figures_few : (said : Outcome) → length (figures_of said) ≤ 1
figures_few said = omega (arith, counts said, overdrafts_few (kind_of said ∷ []))

pub outcomes_push : (kinds : List ℕ) (figures : List Shortage) (said : Outcome) → HaveFigures kinds figures
    → outcomes_of (kinds ++ kind_of said ∷ []) (figures ++ figures_of said) ≡ outcomes_of kinds figures ++ said ∷ []
outcomes_push kinds figures said have =
    outcomes_append kinds (kind_of said ∷ []) figures (figures_of said) have
    ∙ ap (λ (list : List Outcome). outcomes_of kinds figures ++ list) (alone said)

pub figures_push : (kinds : List ℕ) (figures : List Shortage) (said : Outcome) → HaveFigures kinds figures
    → HaveFigures (kinds ++ kind_of said ∷ []) (figures ++ figures_of said)
figures_push kinds figures said have =
    omega (arith, have, overdrafts_append kinds (kind_of said ∷ []), counts said, length-append figures (figures_of said))

pub figures_append : (kinds more : List ℕ) (figures others : List Shortage) → HaveFigures kinds figures
    → HaveFigures more others → HaveFigures (kinds ++ more) (figures ++ others)
figures_append kinds more figures others have too =
    omega (arith, have, too, overdrafts_append kinds more, length-append figures others)

-- ---- which are accepted

refused : (b c d : Bool) (kind : ℕ)
    → is_accepted (cond b (outcome.Static (static_numbered kind))
    (cond c outcome.SeqTaken (cond d outcome.OfferTaken outcome.NameTaken))) ≡ false
refused true c d kind = refl
refused false true d kind = refl
refused false false true kind = refl
refused false false false kind = refl

plain_accepts : (kind : ℕ) → eqb kind 0 ≡ is_accepted (plain_outcome kind)
plain_accepts kind =
    elim (eqb kind 0) as (λ b.
    b ≡ is_accepted (cond b outcome.Accepted
    (cond (leb kind 10) (outcome.Static (static_numbered kind))
    (cond (eqb kind 11) outcome.SeqTaken (cond (eqb kind 12) outcome.OfferTaken outcome.NameTaken))))) [
      | true ↦ refl
      | false ↦ sym (refused (leb kind 10) (eqb kind 11) (eqb kind 12) kind)
    ]

next_accepts : (b : Bool) (kind : ℕ) (next : Shortage) → is_overdraft kind ≡ b
    → eqb kind 0 ≡ is_accepted (cond b (overdraft_of next) (plain_outcome kind))
next_accepts true kind next over = ap (λ (k : ℕ). eqb k 0) (eqb-true kind 14 over)
next_accepts false kind next plain = plain_accepts kind

first_accepts : (kind : ℕ) (figures : List Shortage) → eqb kind 0 ≡ is_accepted (first kind figures)
first_accepts kind [] = plain_accepts kind
first_accepts kind (next ∷ figures) = next_accepts (is_overdraft kind) kind next refl

pub accepts_at : (kinds : List ℕ) (figures : List Shortage) (place : ℕ) → place < length kinds
    → IfSome (slice_get (outcomes_of kinds figures) place) (λ said. eqb (get_or kinds place 0) 0 ≡ is_accepted said)
accepts_at [] figures place there = absurd (omega (arith, there))
accepts_at (kind ∷ kinds) figures zero there =
    subst (λ (list : List Outcome). IfSome (slice_get list 0) (λ said. eqb kind 0 ≡ is_accepted said))
    (sym (first_is kind kinds figures)) (first_accepts kind figures)
accepts_at (kind ∷ kinds) figures (suc place) there =
    subst (λ (list : List Outcome).
    IfSome (slice_get list (suc place)) (λ said. eqb (get_or kinds place 0) 0 ≡ is_accepted said))
    (sym (first_is kind kinds figures)) (accepts_at kinds (figures_after kind figures) place (omega (arith, there)))

-- ---- those that are left

-- from this place on the outcomes are those of the kinds that are left, whose overdrafts have the figures from the next on
pub record AreLeft (kinds : List ℕ) (figures : List Shortage) (place next : ℕ) : Type 0 where
  pub have : HaveFigures (drop place kinds) (drop next figures)
  pub rest : drop place (outcomes_of kinds figures) ≡ outcomes_of (drop place kinds) (drop next figures)

-- none has been passed
pub all_left : (kinds : List ℕ) (figures : List Shortage) → HaveFigures kinds figures → AreLeft kinds figures 0 0
all_left kinds figures have = record { have = have; rest = refl }

-- the outcome at the place, and those after it
record IsNext (kinds : List ℕ) (figures : List Shortage) (place next : ℕ) (said : Outcome) : Type 0 where
  taken : take (place + 1) (outcomes_of kinds figures) ≡ take place (outcomes_of kinds figures) ++ said ∷ []
  later : drop (place + 1) (outcomes_of kinds figures) ≡ outcomes_of (drop (place + 1) kinds) (drop next figures)

is_next : {kinds : List ℕ} {figures : List Shortage} {place : ℕ} → place < length kinds → (next : ℕ) (said : Outcome)
    → drop place (outcomes_of kinds figures) ≡ said ∷ outcomes_of (drop (place + 1) kinds) (drop next figures)
    → IsNext kinds figures place next said
is_next {kinds} {figures} {place} there next said rest =
    let all = outcomes_of kinds figures in
    let inside : place < length all = omega (arith, there, length_outcomes kinds figures) in
    let both = sym (drop_more all place said inside) ∙ rest in
    record {
      taken = take_more all place said inside
          ∙ ap (λ (one : Outcome). take place all ++ one ∷ []) (ap (λ (list : List Outcome). get_or list 0 said) both);
      later = ap (λ (list : List Outcome). drop 1 list) both;
    }

-- the figures at this place
abbrev pub figures_at : List Shortage → ℕ → Shortage
figures_at figures next = get_or figures next (record { seen = 0; need = 0 })

module _ {kinds : List ℕ} {figures : List Shortage} {place next : ℕ} (left : AreLeft kinds figures place next)
    (there : place < length kinds) where
  left_count : (b : Bool) → is_overdraft (get_or kinds place 0) ≡ b
      → length figures - next ≡ cond b 1 0 + overdrafts_among (drop (place + 1) kinds)
  left_count b is =
      sym (length-drop next figures) ∙ sym left.have
      ∙ ap (λ (list : List ℕ). overdrafts_among list) (drop_more kinds place 0 there)
      ∙ count_first b (get_or kinds place 0) (drop (place + 1) kinds) is

  over_count : get_or kinds place 0 ≡ 14 → length figures - next ≡ 1 + overdrafts_among (drop (place + 1) kinds)
  over_count over = left_count true (eq-eqb (get_or kinds place 0) 14 over)

  plain_count : get_or kinds place 0 ≢ 14 → length figures - next ≡ overdrafts_among (drop (place + 1) kinds)
  plain_count plain = omega (arith, left_count false (ne_eqb (get_or kinds place 0) 14 plain))

  -- the next one is an overdraft
  pub next_within : get_or kinds place 0 ≡ 14 → next < length figures
  next_within over = omega (arith, over_count over)

  next_overdraft : get_or kinds place 0 ≡ 14
      → IsNext kinds figures place (next + 1) (overdraft_of (figures_at figures next))
  next_overdraft over =
      let kind = get_or kinds place 0 in
      is_next there (next + 1) (overdraft_of (figures_at figures next))
      (left.rest ∙ ap (λ (list : List ℕ). outcomes_of list (drop next figures)) (drop_more kinds place 0 there)
      ∙ ap (λ (list : List Shortage). outcomes_of (kind ∷ drop (place + 1) kinds) list)
      (drop_more figures next (record { seen = 0; need = 0 }) (next_within over))
      ∙ overdraft_first kind (drop (place + 1) kinds) (figures_at figures next) (drop (next + 1) figures)
      (eq-eqb kind 14 over))

  pub overdraft_taken : get_or kinds place 0 ≡ 14
      → take (place + 1) (outcomes_of kinds figures)
      ≡ take place (outcomes_of kinds figures) ++ overdraft_of (figures_at figures next) ∷ []
  overdraft_taken over = (next_overdraft over).taken

  pub left_after_overdraft : get_or kinds place 0 ≡ 14 → AreLeft kinds figures (place + 1) (next + 1)
  left_after_overdraft over = record {
    have = omega (arith, over_count over, length-drop (next + 1) figures);
    rest = (next_overdraft over).later;
  }

  -- it is not
  next_plain : get_or kinds place 0 ≢ 14 → IsNext kinds figures place next (plain_outcome (get_or kinds place 0))
  next_plain plain =
      is_next there next (plain_outcome (get_or kinds place 0))
      (left.rest ∙ ap (λ (list : List ℕ). outcomes_of list (drop next figures)) (drop_more kinds place 0 there)
      ∙ plain_first (get_or kinds place 0) (drop (place + 1) kinds) (drop next figures)
      (ne_eqb (get_or kinds place 0) 14 plain))

  pub plain_taken : get_or kinds place 0 ≢ 14
      → take (place + 1) (outcomes_of kinds figures)
      ≡ take place (outcomes_of kinds figures) ++ plain_outcome (get_or kinds place 0) ∷ []
  plain_taken plain = (next_plain plain).taken

  pub left_after_plain : get_or kinds place 0 ≢ 14 → AreLeft kinds figures (place + 1) next
  left_after_plain plain = record {
    have = omega (arith, plain_count plain, length-drop next figures);
    rest = (next_plain plain).later;
  }
