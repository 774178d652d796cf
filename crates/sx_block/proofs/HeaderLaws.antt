-- The header of a block: what is read is encoded so, and what is encoded so is read.
use Rattle.std.proofs.Common.{◌≡◌, ℕ, ◌+◌, ◌-◌, ◌^◌, ◌<◌, ◌≤◌, true, false, ltb, List, ◌++◌, length, take, drop, refl}
use Rattle.std.proofs.Common.{sym, ap, subst, ◌∙◌, append_assoc, arith}
use Rattle.std.specs.Prelude.{All}
use Rattle.std.specs.List.{flat_map}
use Rattle.std.proofs.lemmas.Bool.{ltb-false, le-ltb}
use Rattle.std.proofs.lemmas.List.{take_at, drop_at, length-append, length-take, length-drop, drop-drop}
use Rattle.std.proofs.lemmas.List.Elements.{All-from_recursion, recursion_from_All}
use Rattle.byteorder.specs.Endian.{big_bytes}
use Rattle.sx_block.specs.declared.header.Header.{Header}
use Rattle.sx_block.specs.Block.{CutFits, IsHeader, assets_of}
use Rattle.sx_block.specs.Decoding.{Front, Market, Outcome, digest_at, potential_at, flow_at, cut_at, front_at}
use Rattle.sx_block.specs.Decoding.{market_at, outcome_at, header_of, header_at}
use Rattle.sx_block.specs.Digest.{IsDigest}
use Rattle.sx_block.specs.Encoding.{flow_bytes, cut_bytes, header_bytes}
use Rattle.sx_block.proofs.TradeLaws.{IsFlowOf, flow_takes, flow_reads_again, cut_takes, cut_again}
use Rattle.sx_bytes.specs.declared.fault.Form.TheVariants as form
use Rattle.sx_bytes.specs.Cursor.{Cursor, rest, left, moved, raw_at}
use Rattle.sx_bytes.specs.Grammar.{◌>>=◌, between, field_at, many_at}
use Rattle.sx_bytes.proofs.Grammar.{bind_ok, guard_short, or_fault_ok, AreBytes-take, AreBytes-drop, moved_takes}
use Rattle.sx_bytes.proofs.Grammar.{length-rest, Takes, Takes-then, Again, field_takes, field_again, many_takes}
use Rattle.sx_bytes.proofs.Grammar.{many_again}
use Rattle.sx_bytes.proofs.Parts.{Reading, TakesAll, ReadsAgain, two_at, two_take, two_again, three_at, three_take}
use Rattle.sx_bytes.proofs.Parts.{three_again}
use Rattle.sx_bytes.proofs.DecodingSteps.{bytes_after, range_takes, range_again, again_then}
use Rattle.sx_price.specs.Limits.{IsPrice}
use Rattle.sx_state.specs.Decoding.{price_at, units_field_at}
use Rattle.sx_state.proofs.DependentParts.{chained_takes, chained_again}

-- ---- 32 bytes as they are

abbrev same_bytes : List ℕ → List ℕ
same_bytes digest = digest

digest_takes : TakesAll digest_at same_bytes IsDigest
digest_takes c next x bytes e =
    let read = or_fault_ok (raw_at 32 c) (x, next) e in
    let g =
    guard_short (ltb (left c) 32) (record { at = length c.bytes }) (take 32 (rest c), moved 32 c) (x, next) read in
    let enough : 32 ≤ length c.bytes - c.place = ltb-false _ _ g.0 in
    let len : length (take 32 (rest c)) ≡ 32 = omega (arith, length-take 32 (rest c), length-drop c.place c.bytes) in
    let is : IsDigest (take 32 (rest c)) =
    record { whole = len; bytes = AreBytes-take 32 (rest c) (AreBytes-drop c.place c.bytes bytes) } in
    subst (λ (y : List ℕ × Cursor). Takes c y.0 y.1 × IsDigest y.0) g.1 (moved_takes 32 c enough, is)

digest_again : ReadsAgain digest_at same_bytes IsDigest
digest_again c x after is within e =
    let len = is.whole in
    let all : length (rest c) ≡ 32 + length after = ap length e ∙ omega (arith, length-append x after) in
    let enough : 32 ≤ length c.bytes - c.place = omega (arith, length-rest c) in
    let long : ltb (left c) 32 ≡ false = le-ltb _ _ enough in
    let front : take 32 (rest c) ≡ x = ap (take 32) e ∙ take_at x after 32 len in
    record {
      next = moved 32 c;
      is = rw (long, front) refl;
      rest_is = sym (drop-drop 32 c.place c.bytes) ∙ ap (drop 32) e ∙ drop_at x after 32 len;
      same = refl;
      within = omega arith;
    }

-- ---- lists with an entry for each asset

-- n numbers, each in range
record AreNumbers (P : ℕ → Type 0) (n : ℕ) (numbers : List ℕ) : Type 0 where
  number : length numbers ≡ n
  are : All P numbers

module _ (width : ℕ) (entry : Reading ℕ) (P : ℕ → Type 0) (n : ℕ) where
  numbers_take : TakesAll entry (big_bytes width) P
      → TakesAll (many_at entry n) (flat_map (big_bytes width)) (AreNumbers P n)
  numbers_take takes c next numbers bytes e =
      let t = many_takes entry (big_bytes width) P takes n c next numbers bytes e in
      (t.0, record { number = t.1; are = All-from_recursion P numbers t.2 })

  numbers_again : ReadsAgain entry (big_bytes width) P
      → ReadsAgain (many_at entry n) (flat_map (big_bytes width)) (AreNumbers P n)
  numbers_again again c numbers after is within e =
      let read =
      many_again entry (big_bytes width) P again numbers c after (recursion_from_All P numbers is.are) within e in
      subst (λ (k : ℕ). Again (many_at entry k c) c numbers after) is.number read

price_takes : TakesAll price_at (big_bytes 8) IsPrice
price_takes c next x bytes e =
    let t = range_takes 8 (2 ^ 8) (2 ^ 40) form.PriceRange c next x bytes e in (t.0, (t.1, t.2))

price_again : ReadsAgain price_at (big_bytes 8) IsPrice
price_again c x after is within e =
    range_again 8 (2 ^ 8) (2 ^ 40) form.PriceRange c x after (omega arith) is.0 is.1 within e

abbrev IsPotential : ℕ → Type 0
IsPotential potential = potential < 2 ^ 32

potential_takes : TakesAll potential_at (big_bytes 4) IsPotential
potential_takes c next x bytes e = let t = field_takes 4 (λ _. true) form.Short c next x bytes e in (t.0, t.2)

potential_again : ReadsAgain potential_at (big_bytes 4) IsPotential
potential_again c x after is within e = field_again 4 (λ _. true) form.Short c x after is refl within e

abbrev IsRounded : ℕ → Type 0
IsRounded units = units ≤ 2 ^ 62

units_takes : TakesAll units_field_at (big_bytes 8) IsRounded
units_takes c next x bytes e = let t = range_takes 8 0 (2 ^ 62) form.AmountRange c next x bytes e in (t.0, t.2)

units_again : ReadsAgain units_field_at (big_bytes 8) IsRounded
units_again c x after is within e =
    range_again 8 0 (2 ^ 62) form.AmountRange c x after (omega arith) (omega arith) is within e

-- ---- what stands before the number of assets

abbrev version_at : Reading ℕ
version_at = field_at 1 (between 1 2) form.Version

abbrev height_at : Reading ℕ
height_at = field_at 8 (between 0 (2 ^ 63 - 1)) form.HeightRange

abbrev mu_at : Reading ℕ
mu_at = field_at 1 (between 1 20) form.MuRange

abbrev IsMu : ℕ → Type 0
IsMu mu = (1 ≤ mu) × (mu ≤ 20)

mu_takes : TakesAll mu_at (big_bytes 1) IsMu
mu_takes c next x bytes e = let t = range_takes 1 1 20 form.MuRange c next x bytes e in (t.0, (t.1, t.2))

mu_again : ReadsAgain mu_at (big_bytes 1) IsMu
mu_again c x after is within e = range_again 1 1 20 form.MuRange c x after (omega arith) is.0 is.1 within e

abbrev digests_text : List ℕ → List ℕ → ℕ → List ℕ
digests_text parent body mu = parent ++ (body ++ big_bytes 1 mu)

abbrev front_text : Front → List ℕ
front_text front = big_bytes 1 front.0 ++ (big_bytes 8 front.1 ++ digests_text front.2 front.3 front.4)

record IsFront (front : Front) : Type 0 where
  some_version : 1 ≤ front.0
  few_versions : front.0 ≤ 2
  height : front.1 ≤ 2 ^ 63 - 1
  parent : IsDigest front.2
  body : IsDigest front.3
  mu : IsMu front.4

abbrev joined : ℕ → ℕ → List ℕ → List ℕ → ℕ → Front
joined version height parent body mu = (version, height, parent, body, mu)

abbrev from_digests : ℕ → ℕ → Reading Front
from_digests version height = three_at digest_at digest_at mu_at (joined version height)

abbrev from_height : ℕ → Reading Front
from_height version c = height_at c >>= λ height. from_digests version height.0 height.1

front_takes : TakesAll front_at front_text IsFront
unfolding front_at
front_takes c next x bytes e =
    let v = bind_ok (version_at c) (λ version. from_height version.0 version.1) (x, next) e in
    let h = bind_ok (height_at v.0.1) (λ height. from_digests v.0.0 height.0 height.1) (x, next) v.2 in
    let t0 = range_takes 1 1 2 form.Version c v.0.1 v.0.0 bytes v.1 in
    let bytes1 = bytes_after c v.0.1 (big_bytes 1 v.0.0) t0.0 bytes in
    let t1 = range_takes 8 0 (2 ^ 63 - 1) form.HeightRange v.0.1 h.0.1 h.0.0 bytes1 h.1 in
    let bytes2 = bytes_after v.0.1 h.0.1 (big_bytes 8 h.0.0) t1.0 bytes1 in
    let t2 =
    three_take digest_at digest_at mu_at (joined v.0.0 h.0.0) same_bytes same_bytes (big_bytes 1) IsDigest IsDigest
    IsMu digest_takes digest_takes mu_takes h.0.1 next x bytes2 h.2 in
    let text = digests_text t2.0 t2.1 t2.2 in
    let all =
    Takes-then c v.0.1 next (big_bytes 1 v.0.0) (big_bytes 8 h.0.0 ++ text) t0.0
    (Takes-then v.0.1 h.0.1 next (big_bytes 8 h.0.0) text t1.0 t2.4) in
    let is : IsFront (joined v.0.0 h.0.0 t2.0 t2.1 t2.2) =
    record { some_version = t0.1; few_versions = t0.2; height = t1.2; parent = t2.5; body = t2.6; mu = t2.7 } in
    subst (λ (y : Front). Takes c (front_text y) next × IsFront y) t2.3 (all, is)

front_again : ReadsAgain front_at front_text IsFront
unfolding front_at
front_again c x after is within e =
    let text = digests_text x.2 x.3 x.4 in
    let v =
    range_again 1 1 2 form.Version c x.0 ((big_bytes 8 x.1 ++ text) ++ after) (omega arith) is.some_version
    is.few_versions within
    (e ∙ append_assoc (big_bytes 1 x.0) (big_bytes 8 x.1 ++ text) after) in
    let h =
    range_again 8 0 (2 ^ 63 - 1) form.HeightRange v.next x.1 (text ++ after) (omega arith) (omega arith)
    (omega (arith, is.height)) v.within (v.rest_is ∙ append_assoc (big_bytes 8 x.1) text after) in
    let d =
    three_again digest_at digest_at mu_at (joined x.0 x.1) same_bytes same_bytes (big_bytes 1) IsDigest IsDigest
    IsMu digest_again digest_again mu_again h.next x.2 x.3 x.4 after is.parent is.body is.mu h.within h.rest_is in
    again_then (version_at c) (λ version. from_height version.0 version.1) c x.0 x
    ((big_bytes 8 x.1 ++ text) ++ after) after v
    (again_then (height_at v.next) (λ height. from_digests x.0 height.0 height.1) v.next x.1 x (text ++ after) after
    h d)

-- ---- what stands after it

abbrev market_text : Market → List ℕ
market_text market = flat_map (big_bytes 8) market.0 ++ (flow_bytes market.1 ++ cut_bytes market.2)

abbrev outcome_text : Outcome → List ℕ
outcome_text outcome = flat_map (big_bytes 4) outcome.0 ++ (flat_map (big_bytes 8) outcome.1 ++ outcome.2)

module _ (n : ℕ) (some : 1 ≤ n) (few : n ≤ 32) where
  record IsMarket (market : Market) : Type 0 where
    prices : AreNumbers IsPrice n market.0
    trades : IsFlowOf n some few market.1
    cut : CutFits n market.2

  market_takes : TakesAll (market_at n) market_text IsMarket
  unfolding market_at
  market_takes c next x bytes e =
      let t = three_take (many_at price_at n) (flow_at n) (cut_at n) (λ p t d. (p, t, d)) (flat_map (big_bytes 8))
      flow_bytes cut_bytes (AreNumbers IsPrice n) (IsFlowOf n some few) (CutFits n)
      (numbers_take 8 price_at IsPrice n price_takes) (flow_takes n some few) (cut_takes n some few) c next x bytes e in
      subst (λ (y : Market). Takes c (market_text y) next × IsMarket y) t.3
      (t.4, record { prices = t.5; trades = t.6; cut = t.7 })

  market_again : ReadsAgain (market_at n) market_text IsMarket
  unfolding market_at
  market_again c x after is within e =
      three_again (many_at price_at n) (flow_at n) (cut_at n) (λ p t d. (p, t, d)) (flat_map (big_bytes 8))
      flow_bytes cut_bytes (AreNumbers IsPrice n) (IsFlowOf n some few) (CutFits n)
      (numbers_again 8 price_at IsPrice n price_again) (flow_reads_again n some few) (cut_again n some few) c x.0
      x.1 x.2 after is.prices is.trades is.cut within e

  record IsOutcome (outcome : Outcome) : Type 0 where
    potentials : AreNumbers IsPotential n outcome.0
    rounding : AreNumbers IsRounded n outcome.1
    after : IsDigest outcome.2

  outcome_takes : TakesAll (outcome_at n) outcome_text IsOutcome
  unfolding outcome_at
  outcome_takes c next x bytes e =
      let t = three_take (many_at potential_at n) (many_at units_field_at n) digest_at (λ p r d. (p, r, d))
      (flat_map (big_bytes 4)) (flat_map (big_bytes 8)) same_bytes (AreNumbers IsPotential n)
      (AreNumbers IsRounded n) IsDigest
      (numbers_take 4 potential_at IsPotential n potential_takes)
      (numbers_take 8 units_field_at IsRounded n units_takes) digest_takes c next x bytes e in
      subst (λ (y : Outcome). Takes c (outcome_text y) next × IsOutcome y) t.3
      (t.4, record { potentials = t.5; rounding = t.6; after = t.7 })

  outcome_again : ReadsAgain (outcome_at n) outcome_text IsOutcome
  unfolding outcome_at
  outcome_again c x after is within e =
      three_again (many_at potential_at n) (many_at units_field_at n) digest_at (λ p r d. (p, r, d))
      (flat_map (big_bytes 4)) (flat_map (big_bytes 8)) same_bytes (AreNumbers IsPotential n)
      (AreNumbers IsRounded n) IsDigest
      (numbers_again 4 potential_at IsPotential n potential_again)
      (numbers_again 8 units_field_at IsRounded n units_again) digest_again c x.0 x.1 x.2 after is.potentials
      is.rounding is.after within e

-- ---- the header

abbrev front_of : Header → Front
front_of h = (h.version, h.height, h.parent, h.body, h.mu)

abbrev market_of : Header → Market
market_of h = (h.prices, h.trades, h.dropped)

abbrev outcome_of : Header → Outcome
outcome_of h = (h.potentials, h.rounding, h.after)

abbrev market_text_of : Header → List ℕ
market_text_of h = market_text (market_of h) ++ outcome_text (outcome_of h)

abbrev assets_text_of : Header → List ℕ
assets_text_of h = big_bytes 1 (assets_of h) ++ market_text_of h

abbrev assets_at : Reading ℕ
assets_at = field_at 1 (between 1 32) form.AssetCount

abbrev from_market : Front → ℕ → Reading Header
from_market front n = two_at (market_at n) (outcome_at n) (header_of front)

abbrev from_assets : Front → Reading Header
from_assets front c = assets_at c >>= λ n. from_market front n.0 n.1

abbrev IsCount : ℕ → Type 0
IsCount n = (1 ≤ n) × (n ≤ 32)

-- a header of this front, among n assets
record IsFrom (front : Front) (n : ℕ) (h : Header) : Type 0 where
  front_is : front ≡ front_of h
  some : 1 ≤ n
  few : n ≤ 32
  market : IsMarket n some few (market_of h)
  outcome : IsOutcome n some few (outcome_of h)

abbrev FromAssets : Front → Header → Type 0
FromAssets front h = IsCount (assets_of h) × IsFrom front (assets_of h) h

count_takes : TakesAll assets_at (big_bytes 1) IsCount
count_takes c next x bytes e = let t = range_takes 1 1 32 form.AssetCount c next x bytes e in (t.0, (t.1, t.2))

count_again : ReadsAgain assets_at (big_bytes 1) IsCount
count_again c x after is within e = range_again 1 1 32 form.AssetCount c x after (omega arith) is.0 is.1 within e

from_market_takes : (front : Front) (n : ℕ) → IsCount n → TakesAll (from_market front n) market_text_of (IsFrom front n)
from_market_takes front n count c next h bytes e =
    let t =
    two_take (market_at n) (outcome_at n) (header_of front) market_text outcome_text (IsMarket n count.0 count.1)
    (IsOutcome n count.0 count.1) (market_takes n count.0 count.1) (outcome_takes n count.0 count.1) c next h
    bytes e in
    let is : IsFrom front n (header_of front t.0 t.1) =
    record { front_is = refl; some = count.0; few = count.1; market = t.4; outcome = t.5 } in
    subst (λ (y : Header). Takes c (market_text_of y) next × IsFrom front n y) t.2 (t.3, is)

from_market_again : (front : Front) (n : ℕ) → ReadsAgain (from_market front n) market_text_of (IsFrom front n)
from_market_again front n c h after is within e =
    let read =
    two_again (market_at n) (outcome_at n) (header_of front) market_text outcome_text (IsMarket n is.some is.few)
    (IsOutcome n is.some is.few) (market_again n is.some is.few) (outcome_again n is.some is.few) c
    (market_of h) (outcome_of h) after is.market is.outcome within e in
    let same : header_of front (market_of h) (outcome_of h) ≡ h =
    ap (λ (f : Front). header_of f (market_of h) (outcome_of h)) is.front_is in
    subst (λ (y : Header). Again (from_market front n c) c y after) same read

from_assets_takes : (front : Front) → TakesAll (from_assets front) assets_text_of (FromAssets front)
from_assets_takes front =
    chained_takes assets_at (from_market front) (big_bytes 1) market_text_of IsCount (IsFrom front) assets_of
    count_takes (from_market_takes front) (λ n h is. sym is.market.prices.number)

from_assets_again : (front : Front) → ReadsAgain (from_assets front) assets_text_of (FromAssets front)
from_assets_again front =
    chained_again assets_at (from_market front) (big_bytes 1) market_text_of IsCount (IsFrom front) assets_of
    count_again (λ n is. from_market_again front n)

pub header_takes : TakesAll header_at header_bytes IsHeader
unfolding header_at
header_takes c next h bytes e =
    let t =
    chained_takes front_at from_assets front_text assets_text_of IsFront FromAssets front_of front_takes
    (λ front is. from_assets_takes front) (λ front h is. is.1.front_is) c next h bytes e in
    let front = t.1.0 in
    let count = t.1.1.0 in
    let market = t.1.1.1.market in
    let outcome = t.1.1.1.outcome in (
      t.0,
      record {
        some_version = front.some_version;
        few_versions = front.few_versions;
        height = front.height;
        parent = front.parent;
        body = front.body;
        some_mu = front.mu.0;
        most_mu = front.mu.1;
        some_asset = count.0;
        few_assets = count.1;
        prices = market.prices.are;
        same_assets = market.trades.0;
        trades = market.trades.1;
        cut = market.cut;
        one_potential = outcome.potentials.number;
        potentials = outcome.potentials.are;
        one_rounding = outcome.rounding.number;
        rounding = outcome.rounding.are;
        after = outcome.after;
      },
    )

pub header_again : ReadsAgain header_at header_bytes IsHeader
unfolding header_at
header_again c h after is within e =
    let front : IsFront (front_of h) =
    record {
      some_version = is.some_version;
      few_versions = is.few_versions;
      height = is.height;
      parent = is.parent;
      body = is.body;
      mu =
          (is.some_mu, is.most_mu);
    } in
    let n = assets_of h in
    let market : IsMarket n is.some_asset is.few_assets (market_of h) =
    record { prices = record { number = refl; are = is.prices }; trades = (is.same_assets, is.trades); cut = is.cut } in
    let outcome : IsOutcome n is.some_asset is.few_assets (outcome_of h) =
    record {
      potentials = record { number = is.one_potential; are = is.potentials };
      rounding =
          record { number = is.one_rounding; are = is.rounding };
      after = is.after;
    } in
    let from : IsFrom (front_of h) n h =
    record { front_is = refl; some = is.some_asset; few = is.few_assets; market = market; outcome = outcome } in
    chained_again front_at from_assets front_text assets_text_of IsFront FromAssets front_of front_again
    (λ front is. from_assets_again front) c h after (front, ((is.some_asset, is.few_assets), from)) within e
