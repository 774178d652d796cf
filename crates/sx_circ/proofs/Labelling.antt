-- The walks of the assets, at the start and when one of them is led on.
use Rattle.std.proofs.Common.{◌≡◌, ◌≢◌, ℕ, ◌+◌, ◌*◌, ◌<◌, ◌≤◌, ◌⊎◌, List, length, set, get_or, inl, inr, refl, sym, ap}
use Rattle.std.proofs.Common.{◌∙◌, arith, length-set}
use Rattle.std.proofs.lemmas.Bool.{cases_eq}
use Rattle.std.proofs.lemmas.Grind.{get_or-set_at}
use Rattle.std.proofs.lemmas.List.{get_or-set_other, get_or_default}
use Rattle.std.proofs.lemmas.List.Sums.{sum_by-le, sum_by-set}
use Rattle.sx_circ.specs.declared.walk.Walk.{Walk}
use Rattle.sx_circ.specs.Labels.{AreLabels, IsLabel, IsStay, height_of, no_walk, top_of, total_height, walk_to}
use Rattle.sx_circ.specs.Residual.{CanMove}
use Rattle.sx_circ.specs.Walks.{AreWithin, IsGaining, IsWalk, asset_at, height_at}
use Rattle.sx_circ.proofs.Pigeonhole.{few_distinct}

-- ---- at the start

module _ (n : ℕ) (low high y : ℕ → ℕ → ℕ) (walks : List Walk) where
  stays : (asset : ℕ) (walk : Walk) → asset < n → IsStay asset walk → IsLabel n low high y walks asset walk
  stays asset walk lt is = record {
    way = record {
      within = record {
        room = is.room;
        few = omega (arith, is.last);
        assets = λ k le. let first : k ≡ 0 = omega (arith, is.last) in rw (first, is.asset) lt;
        apart = λ k before. absurd (omega (arith, is.last));
      };
      steps = λ k before. absurd (omega (arith, is.last));
    };
    ends = rw is.last is.asset;
    bounded = λ k le. let first : k ≡ 0 = omega (arith, is.last) in rw first (omega (arith, is.height));
    distinct = λ i j before le. absurd (omega (arith, is.last));
    under = λ k le. let first : k ≡ 0 = omega (arith, is.last) in rw (first, is.height) (omega arith);
  }

  pub labels_start : length walks ≡ n → ((asset : ℕ) → asset < n → IsStay asset (walk_to walks asset)) →
      AreLabels n low high y walks
  labels_start count stay = record {
    count = count;
    each = λ asset lt. stays asset (walk_to walks asset) lt (stay asset lt);
  }

-- ---- how high they come

module _ (n : ℕ) (low high y : ℕ → ℕ → ℕ) (walks : List Walk) (labels : AreLabels n low high y walks) where
  pub last_below : (asset : ℕ) → asset < n → (walk_to walks asset).last + 1 ≤ n
  last_below asset lt =
      let walk = walk_to walks asset in
      let label = labels.each asset lt in
      let within = label.way.within in
      few_distinct walk.assets (walk.last + 1) n (omega (arith, within.room.assets, within.few))
      (λ k k_lt. within.assets k (omega arith)) (λ i j before j_lt. label.distinct i j before (omega arith))

  pub height_below : (asset : ℕ) → asset < n → height_of walks asset + 1 ≤ n
  height_below asset lt =
      let label = labels.each asset lt in
      omega (arith, last_below asset lt, label.bounded (walk_to walks asset).last (omega arith))

  top_bounded : (walk : Walk) (asset : ℕ) → n ≤ 32 → asset < n → walk ≡ walk_to walks asset → top_of walk ≤ 32
  top_bounded walk asset few lt same = rw same (omega (arith, height_below asset lt))

  pub total_bounded : n ≤ 32 → total_height walks ≤ length walks * 32
  total_bounded few =
      sum_by-le top_of 32 walks (λ k d k_lt.
      top_bounded (get_or walks k d) k few (omega (arith, labels.count)) (get_or_default walks k d no_walk k_lt))

-- ---- led on by a step

step_small : (low high y : ℕ → ℕ → ℕ) (tail head from to : ℕ) → CanMove low high y 1 tail head from to → to ≤ from + 1
step_small low high y tail head from to (inl (up, room)) = omega arith
step_small low high y tail head from to (inr (down, room)) = omega arith

can_move_at : (low high y : ℕ → ℕ → ℕ) (a a' b b' f f' t t' : ℕ) → a ≡ a' → b ≡ b' → f ≡ f' → t ≡ t'
    → CanMove low high y 1 a' b' f' t'
    → CanMove low high y 1 a b f t
can_move_at low high y a a' b b' f f' t t' a_is b_is f_is t_is can = rw (a_is, b_is, f_is, t_is) can

module _ (n : ℕ) (low high y : ℕ → ℕ → ℕ) (walks : List Walk) (labels : AreLabels n low high y walks) (few : n ≤ 32)
    (tail head height : ℕ) (tail_lt : tail < n) (head_lt : head < n) (apart : tail ≢ head)
    (step : CanMove low high y 1 tail head (height_of walks tail) height) (rises : height_of walks head < height) where
  label : IsLabel n low high y walks tail (walk_to walks tail)
  label = labels.each tail tail_lt

  abbrev longer : Walk
  longer = record {
    assets = set (walk_to walks tail).assets ((walk_to walks tail).last + 1) head;
    heights = set (walk_to walks tail).heights ((walk_to walks tail).last + 1) height;
    last = (walk_to walks tail).last + 1;
  }

  last_few : (walk_to walks tail).last + 1 ≤ 32
  last_few = omega (arith, last_below n low high y walks labels tail tail_lt)

  asset_old : (k : ℕ) → k ≤ (walk_to walks tail).last → asset_at longer k ≡ asset_at (walk_to walks tail) k
  asset_old k le =
      get_or-set_other (walk_to walks tail).assets ((walk_to walks tail).last + 1) k head 0 (λ same. omega arith)

  height_old : (k : ℕ) → k ≤ (walk_to walks tail).last → height_at longer k ≡ height_at (walk_to walks tail) k
  height_old k le =
      get_or-set_other (walk_to walks tail).heights ((walk_to walks tail).last + 1) k height 0 (λ same. omega arith)

  asset_new : asset_at longer ((walk_to walks tail).last + 1) ≡ head
  asset_new =
      get_or-set_at (walk_to walks tail).assets ((walk_to walks tail).last + 1) ((walk_to walks tail).last + 1) head 0
      refl (omega (arith, last_few, label.way.within.room.assets))

  height_new : height_at longer ((walk_to walks tail).last + 1) ≡ height
  height_new =
      get_or-set_at (walk_to walks tail).heights ((walk_to walks tail).last + 1) ((walk_to walks tail).last + 1) height
      0 refl (omega (arith, last_few, label.way.within.room.heights))

  -- a place is the new one or an old one
  place_cases : (k : ℕ) → k ≤ (walk_to walks tail).last + 1 →
      (k ≡ (walk_to walks tail).last + 1) ⊎ (k ≤ (walk_to walks tail).last)
  place_cases k le =
      elim (cases_eq k ((walk_to walks tail).last + 1)) [ inl same ↦ inl same | inr other ↦ inr (omega arith) ]

  longer_within : AreWithin n longer
  longer_within = record {
    room = record {
      assets = length-set (walk_to walks tail).assets ((walk_to walks tail).last + 1) head
          ∙ label.way.within.room.assets;
      heights = length-set (walk_to walks tail).heights ((walk_to walks tail).last + 1) height
          ∙ label.way.within.room.heights;
    };
    few = last_few;
    assets = λ k le.
        elim (place_cases k le) [
          | inl same ↦ rw (same, asset_new) head_lt
          | inr before ↦ rw (asset_old k before) (label.way.within.assets k before)
        ];
    apart = λ k k_lt same.
        let here : asset_at longer k ≡ asset_at (walk_to walks tail) k = asset_old k (omega arith) in
        elim (place_cases (k + 1) (omega arith)) [
          | inl end ↦
              let at : k ≡ (walk_to walks tail).last = omega arith in
              let next : asset_at longer (k + 1) ≡ head = rw end asset_new in
              let from : asset_at (walk_to walks tail) k ≡ tail = rw at label.ends in
              apart (sym from ∙ sym here ∙ same ∙ next)
          | inr before ↦
              label.way.within.apart k (omega arith) (sym here ∙ same ∙ asset_old (k + 1) before)
        ];
  }

  longer_walk : IsWalk n low high y longer
  longer_walk = record {
    within = longer_within;
    steps = λ k k_lt.
        elim (place_cases (k + 1) (omega arith)) [
          | inl end ↦
              let at : k ≡ (walk_to walks tail).last = omega arith in
              can_move_at low high y (asset_at longer k) tail (asset_at longer (k + 1)) head (height_at longer k)
              (height_of walks tail) (height_at longer (k + 1)) height
              (asset_old k (omega arith) ∙ rw at label.ends) (rw end asset_new)
              (height_old k (omega arith) ∙ rw at refl) (rw end height_new) step
          | inr before ↦
              can_move_at low high y (asset_at longer k) (asset_at (walk_to walks tail) k) (asset_at longer (k + 1))
              (asset_at (walk_to walks tail) (k + 1)) (height_at longer k) (height_at (walk_to walks tail) k)
              (height_at longer (k + 1)) (height_at (walk_to walks tail) (k + 1)) (asset_old k (omega arith))
              (asset_old (k + 1) before) (height_old k (omega arith)) (height_old (k + 1) before)
              (label.way.steps k (omega arith))
        ];
  }

  -- where the walk came to the head before, it now gains
  pub closes : (first : ℕ) → first ≤ (walk_to walks tail).last → asset_at (walk_to walks tail) first ≡ head →
      IsGaining n low high y (record { walk = longer; first = first })
  closes first le there = record {
    way = longer_walk;
    begins = omega arith;
    closed = asset_old first le ∙ there ∙ sym asset_new;
    distinct = λ i j before j_lt same.
        label.distinct i j before (omega arith) (sym (asset_old i (omega arith)) ∙ same ∙ asset_old j (omega arith));
    gains =
        let at = ap (height_of walks) there in
        omega (arith, height_old first le, height_new, label.under first le, at);
  }

  -- where it did not, it is the new walk to the head
  module _ (fresh : (k : ℕ) → k ≤ (walk_to walks tail).last → asset_at (walk_to walks tail) k ≢ head) where
    walk_new : walk_to (set walks head longer) head ≡ longer
    walk_new = get_or-set_at walks head head longer no_walk refl (omega (arith, labels.count))

    walk_other : (asset : ℕ) → asset ≢ head → walk_to (set walks head longer) asset ≡ walk_to walks asset
    walk_other asset other = get_or-set_other walks head asset longer no_walk other

    top_new : height_of (set walks head longer) head ≡ height
    top_new = ap top_of walk_new ∙ height_new

    heights_rise : (asset : ℕ) → height_of walks asset ≤ height_of (set walks head longer) asset
    heights_rise asset =
        elim (cases_eq asset head) [
          | inl same ↦ rw same (omega (arith, top_new))
          | inr other ↦
              let is = ap top_of (walk_other asset other) in omega arith
        ]

    label_new : IsLabel n low high y (set walks head longer) head longer
    label_new = record {
      way = longer_walk;
      ends = asset_new;
      bounded = λ k le.
          elim (place_cases k le) [
            | inl same ↦
                let most : height_of walks tail ≤ (walk_to walks tail).last =
                label.bounded (walk_to walks tail).last (omega arith) in
                let next : height ≤ height_of walks tail + 1 =
                step_small low high y tail head (height_of walks tail) height step in
                rw same (omega (arith, height_new))
            | inr before ↦ omega (arith, height_old k before, label.bounded k before)
          ];
      distinct = λ i j before le same.
          elim (place_cases j le) [
            | inl end ↦
                let at : asset_at longer j ≡ head = rw end asset_new in
                fresh i (omega arith) (sym (asset_old i (omega arith)) ∙ same ∙ at)
            | inr earlier ↦
                label.distinct i j before earlier (sym (asset_old i (omega arith)) ∙ same ∙ asset_old j earlier)
          ];
      under = λ k le.
          elim (place_cases k le) [
            | inl end ↦
                let at : asset_at longer k ≡ head = rw end asset_new in
                let top : height_at longer k ≡ height = rw end height_new in
                let there = ap (height_of (set walks head longer)) at in
                omega (arith, top_new)
            | inr before ↦
                let at = ap (height_of (set walks head longer)) (asset_old k before) in
                omega (
                  arith,
                  height_old k before,
                  label.under k before,
                  heights_rise (asset_at (walk_to walks tail) k),
                )
          ];
    }

    label_other : (asset : ℕ) → asset < n → asset ≢ head →
        IsLabel n low high y (set walks head longer) asset (walk_to walks asset)
    label_other asset lt other =
        let was = labels.each asset lt in
        record {
          way = was.way;
          ends = was.ends;
          bounded = was.bounded;
          distinct = was.distinct;
          under = λ k le.
              omega (arith, was.under k le, heights_rise (asset_at (walk_to walks asset) k));
        }

    pub labels_led_on : AreLabels n low high y (set walks head longer)
    labels_led_on = record {
      count = length-set walks head longer ∙ labels.count;
      each = λ asset lt.
          elim (cases_eq asset head) [
            | inl same ↦ rw (same, walk_new) label_new
            | inr other ↦ rw (walk_other asset other) (label_other asset lt other)
          ];
    }

    pub total_rises : total_height walks < total_height (set walks head longer)
    total_rises =
        let sum = sum_by-set top_of walks head longer no_walk (omega (arith, labels.count)) in
        omega (arith, sum, height_new)
