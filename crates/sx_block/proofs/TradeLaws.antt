-- Trades and cuts: what is read is encoded so, and what is encoded so is read.
use Rattle.std.proofs.Common.{◌≡◌, ◌≢◌, ℕ, zero, suc, ◌-◌, ◌*◌, ◌^◌, ◌<◌, ◌≤◌, true, cond, eqb, List, [], ◌++◌}
use Rattle.std.proofs.Common.{length, Option, None, Some, Ok, refl, sym, ap, subst, ◌∙◌, append_assoc, arith}
use Rattle.std.specs.Prelude.{not, ◌==◌}
use Rattle.std.specs.List.{flat_map, AllByRecursion}
use Rattle.std.proofs.lemmas.Bool.{not-true, not_from_false, eqb-false, ne_eqb}
use Rattle.std.proofs.Math.Nat.{pow-le-pow_right}
use Rattle.std.proofs.lemmas.Nat.{mul-le, pow_pos}
use Rattle.byteorder.specs.Endian.{big_bytes}
use Rattle.sx_block.specs.declared.trade.Trade.{Trade}
use Rattle.sx_block.specs.Block.{CutFits}
use Rattle.sx_block.specs.Decoding.{trade_at, trades_at, flow_at, set_at, cut_at}
use Rattle.sx_block.specs.Encoding.{trade_bytes, flow_bytes, cut_bytes}
use Rattle.sx_block.specs.Trades.{IsTrade, trade_before, trades_of, flow_of}
use Rattle.sx_block.proofs.Entries.{flow_again, trades_again, flow_made, flow_trades}
use Rattle.sx_block.proofs.Counts.{few_trades}
use Rattle.sx_bytes.specs.declared.fault.Form.TheVariants as form
use Rattle.sx_bytes.specs.Field.{AreBytes}
use Rattle.sx_bytes.specs.Cursor.{Cursor, rest}
use Rattle.sx_bytes.specs.Grammar.{◌>>=◌, between, field_at, in_order}
use Rattle.sx_bytes.proofs.Grammar.{bind_ok, Takes, Takes-none, Takes-then, Again}
use Rattle.sx_bytes.proofs.Ordered.{ordered_takes, ordered_again}
use Rattle.sx_bytes.proofs.Parts.{Reading, TakesAll, ReadsAgain, made_is}
use Rattle.sx_bytes.proofs.DecodingSteps.{bytes_after, range_takes, range_again, again_then}
use Rattle.sx_dual.specs.declared.cut.Cut.{Cut}
use Rattle.sx_dual.specs.Tables.{FlowTable, IsFlow}
use Rattle.sx_state.specs.Decoding.{sell_at, buy_at}
use Rattle.sx_state.proofs.DependentParts.{guard_takes, guard_again}

abbrev IsBought : ℕ → ℕ → ℕ → Type 0
IsBought n sell buy = (buy < n) × (buy ≢ sell)

abbrev value_at : Reading ℕ
value_at = field_at 16 (between 1 (2 ^ 102)) form.ValueRange

abbrev IsValue : ℕ → Type 0
IsValue value = (1 ≤ value) × (value ≤ 2 ^ 102)

value_takes : TakesAll value_at (big_bytes 16) IsValue
value_takes c next x bytes e = let t = range_takes 16 1 (2 ^ 102) form.ValueRange c next x bytes e in (t.0, (t.1, t.2))

value_again : ReadsAgain value_at (big_bytes 16) IsValue
value_again c x after is within e =
    range_again 16 1 (2 ^ 102) form.ValueRange c x after (omega arith) is.0 is.1 within e

abbrev made : ℕ → ℕ → ℕ → Trade
made sell buy value = record { sell = sell; buy = buy; value = value }

trade_made : (n : ℕ) (c0 c1 c2 c3 : Cursor) (t : Trade) → sell_at n c0 ≡ Ok (t.sell, c1)
    → buy_at n t.sell c1 ≡ Ok (t.buy, c2) → value_at c2 ≡ Ok (t.value, c3) → trade_at n c0 ≡ Ok (t, c3)
unfolding trade_at
trade_made n c0 c1 c2 c3 t e0 e1 e2 = rw (e0, e1, e2) refl

flow_is_read : (n count : ℕ) (c0 c1 c2 : Cursor) (ts : List Trade)
    → field_at 2 (between 0 (n * (n - 1))) form.TooMany c0 ≡ Ok (count, c1) → trades_at n count c1 ≡ Ok (ts, c2)
    → flow_at n c0 ≡ Ok (flow_of n ts, c2)
unfolding flow_at
flow_is_read n count c0 c1 c2 ts e0 e1 = rw (e0, e1) refl

pairs_fit : (n : ℕ) → n ≤ 32 → n * (n - 1) < 65536
pairs_fit n few = omega (arith, mul-le n (n - 1) 32 31 few (omega arith))

module _ (n : ℕ) (some : 1 ≤ n) (few : n ≤ 32) where
  sell_takes : TakesAll (sell_at n) (big_bytes 1) (λ sell. sell < n)
  sell_takes c next x bytes e =
      let t = range_takes 1 0 (n - 1) form.AssetRange c next x bytes e in (t.0, omega (arith, t.2))

  sell_again : ReadsAgain (sell_at n) (big_bytes 1) (λ sell. sell < n)
  sell_again c x after is within e =
      range_again 1 0 (n - 1) form.AssetRange c x after (omega arith) (omega arith) (omega (arith, is)) within e

  buy_takes : (sell : ℕ) → TakesAll (buy_at n sell) (big_bytes 1) (IsBought n sell)
  buy_takes sell c next x bytes e =
      let g =
      guard_takes (sell_at n c) (λ buy. not (buy == sell)) (record { at = c.place; fault = form.AssetRange })
      (x, next) e in
      let t = sell_takes c next x bytes g.0 in
      (t.0, (t.1, eqb-false x sell (not-true (x == sell) g.1)))

  buy_again : (sell : ℕ) → ReadsAgain (buy_at n sell) (big_bytes 1) (IsBought n sell)
  buy_again sell c x after is within e =
      guard_again (sell_at n c) (λ buy. not (buy == sell)) (record { at = c.place; fault = form.AssetRange }) c x after
      (not_from_false (x == sell) (ne_eqb x sell is.1)) (sell_again c x after is.0 within e)

  trade_takes : TakesAll (trade_at n) trade_bytes (IsTrade n)
  unfolding trade_at
  trade_takes c next x bytes e =
      let s =
      bind_ok (sell_at n c) (λ s. buy_at n s.0 s.1 >>= λ b. value_at b.1 >>= λ v. Ok (made s.0 b.0 v.0, v.1))
      (x, next) e in
      let b = bind_ok (buy_at n s.0.0 s.0.1) (λ b. value_at b.1 >>= λ v. Ok (made s.0.0 b.0 v.0, v.1)) (x, next) s.2 in
      let v = bind_ok (value_at b.0.1) (λ v. Ok (made s.0.0 b.0.0 v.0, v.1)) (x, next) b.2 in
      let t0 = sell_takes c s.0.1 s.0.0 bytes s.1 in
      let bytes1 = bytes_after c s.0.1 (big_bytes 1 s.0.0) t0.0 bytes in
      let t1 = buy_takes s.0.0 s.0.1 b.0.1 b.0.0 bytes1 b.1 in
      let t2 = value_takes b.0.1 v.0.1 v.0.0 (bytes_after s.0.1 b.0.1 (big_bytes 1 b.0.0) t1.0 bytes1) v.1 in
      let t = made s.0.0 b.0.0 v.0.0 in
      let text : Takes c (trade_bytes t) v.0.1 =
      Takes-then c s.0.1 v.0.1 (big_bytes 1 s.0.0) (big_bytes 1 b.0.0 ++ big_bytes 16 v.0.0) t0.0
      (Takes-then s.0.1 b.0.1 v.0.1 (big_bytes 1 b.0.0) (big_bytes 16 v.0.0) t1.0 t2.0) in
      let is : IsTrade n t = record { sell = t0.1; buy = t1.1.0; differ = t1.1.1; some = t2.1.0; most = t2.1.1 } in
      let same = made_is t x v.0.1 next v.2 in
      subst (λ (y : Trade). Takes c (trade_bytes y) next × IsTrade n y) same.0
      (subst (λ (d : Cursor). Takes c (trade_bytes t) d) same.1 text, is)

  trade_again : ReadsAgain (trade_at n) trade_bytes (IsTrade n)
  trade_again c x after is within e =
      let last : List ℕ = big_bytes 16 x.value in
      let s =
      sell_again c x.sell ((big_bytes 1 x.buy ++ last) ++ after) is.sell within
      (e ∙ append_assoc (big_bytes 1 x.sell) (big_bytes 1 x.buy ++ last) after) in
      let b =
      buy_again x.sell s.next x.buy (last ++ after) (is.buy, is.differ) s.within
      (s.rest_is ∙ append_assoc (big_bytes 1 x.buy) last after) in
      let v = value_again b.next x.value after (is.some, is.most) b.within b.rest_is in
      record {
        next = v.next;
        is = trade_made n c s.next b.next v.next x s.is b.is v.is;
        rest_is = v.rest_is;
        same =
            v.same ∙ b.same ∙ s.same;
        within = v.within;
      }

  -- a flow among n assets
  abbrev pub IsFlowOf : FlowTable → Type 0
  IsFlowOf flow = (flow.assets ≡ n) × IsFlow flow

  pub flow_takes : TakesAll (flow_at n) flow_bytes IsFlowOf
  unfolding flow_at
  flow_takes c next x bytes e =
      let k =
      bind_ok (field_at 2 (between 0 (n * (n - 1))) form.TooMany c)
      (λ k. trades_at n k.0 k.1 >>= λ ts. Ok (flow_of n ts.0, ts.1)) (x, next) e in
      let r = bind_ok (trades_at n k.0.0 k.0.1) (λ ts. Ok (flow_of n ts.0, ts.1)) (x, next) k.2 in
      let t0 = range_takes 2 0 (n * (n - 1)) form.TooMany c k.0.1 k.0.0 bytes k.1 in
      let ts = r.0.0 in
      let t1 =
      ordered_takes (trade_at n) trade_bytes (IsTrade n) trade_before form.TradeOrder trade_takes k.0.0 None k.0.1
      r.0.1 ts (bytes_after c k.0.1 (big_bytes 2 k.0.0) t0.0 bytes) r.1 in
      let trades : trades_of (flow_of n ts) ≡ ts = trades_again n ts t1.2 t1.3 in
      let count : Takes c (big_bytes 2 (length ts)) k.0.1 =
      subst (λ (m : ℕ). Takes c (big_bytes 2 m) k.0.1) (sym t1.1) t0.0 in
      let both : Takes c (big_bytes 2 (length ts) ++ flat_map trade_bytes ts) r.0.1 =
      Takes-then c k.0.1 r.0.1 (big_bytes 2 (length ts)) (flat_map trade_bytes ts) count t1.0 in
      let text : Takes c (flow_bytes (flow_of n ts)) r.0.1 =
      subst (λ (us : List Trade). Takes c (big_bytes 2 (length us) ++ flat_map trade_bytes us) r.0.1) (sym trades)
      both in
      let same = made_is (flow_of n ts) x r.0.1 next r.2 in
      subst (λ (y : FlowTable). Takes c (flow_bytes y) next × IsFlowOf y) same.0
      (subst (λ (d : Cursor). Takes c (flow_bytes (flow_of n ts)) d) same.1 text, (refl, flow_made n ts some few t1.2))

  again_at : (c : Cursor) (x : FlowTable) (after : List ℕ) → x.assets ≡ n → flow_of n (trades_of x) ≡ x
      → length (trades_of x) ≤ n * (n - 1) → AllByRecursion (IsTrade n) (trades_of x)
      → in_order trade_before None (trades_of x) ≡ true
      → c.place ≤ length c.bytes → rest c ≡ flow_bytes x ++ after → Again (flow_at n c) c x after
  again_at c x after same back few_pairs are ordered within e =
      let ts = trades_of x in
      let k =
      range_again 2 0 (n * (n - 1)) form.TooMany c (length ts) (flat_map trade_bytes ts ++ after)
      (omega (arith, pairs_fit n few)) (omega arith) few_pairs within
      (e ∙ append_assoc (big_bytes 2 (length ts)) (flat_map trade_bytes ts) after) in
      let t =
      ordered_again (trade_at n) trade_bytes (IsTrade n) trade_before form.TradeOrder trade_again ts None k.next
      after are ordered k.within k.rest_is in
      let read : flow_at n c ≡ Ok (flow_of n ts, t.next) = flow_is_read n (length ts) c k.next t.next ts k.is t.is in
      record {
        next = t.next;
        is = read ∙ ap (λ (y : FlowTable). Ok (y, t.next)) back;
        rest_is = t.rest_is;
        same =
            t.same ∙ k.same;
        within = t.within;
      }

  pub flow_reads_again : ReadsAgain (flow_at n) flow_bytes IsFlowOf
  flow_reads_again c x after is within e =
      let are = flow_trades x is.1 in
      let n_is = is.0 in
      again_at c x after is.0 (ap (λ (m : ℕ). flow_of m (trades_of x)) (sym is.0) ∙ flow_again x is.1)
      (rw (← n_is) (few_trades x is.1))
      (subst (λ (m : ℕ). AllByRecursion (IsTrade m) (trades_of x)) is.0 are.0) are.1 within e

  -- ---- a cut

  set_fits : 2 ^ n - 1 < 256 ^ 4
  set_fits = omega (arith, pow-le-pow_right {n = 2} (omega arith) few)

  abbrev flag_at : Reading ℕ
  flag_at = field_at 1 (between 0 1) form.Tag

  abbrev none : Option Cut
  none = None

  abbrev CutText : Cursor → Cursor → ℕ → Option Cut → Type 0
  CutText c next flag x = (text : List ℕ) × (big_bytes 1 flag ++ text ≡ cut_bytes x) × Takes c text next × CutFits n x

  -- what stands after the flag
  after_flag : (flag : ℕ) (c next : Cursor) (x : Option Cut) → AreBytes c.bytes → flag ≤ 1
      → cond (eqb flag 0) (Ok (none, c)) (set_at n c) ≡ Ok (x, next) → CutText c next flag x
  after_flag zero c next x bytes few e =
      let same = made_is none x c next e in
      subst (λ (y : Option Cut). CutText c next 0 y) same.0
      ([], refl, subst (λ (d : Cursor). Takes c [] d) same.1 (Takes-none c), tt)
  after_flag (suc zero) c next x bytes few e =
      let s =
      bind_ok (field_at 4 (between 0 (2 ^ n - 1)) form.CutRange c) (λ s. Ok (Some (record { 0 = s.0 }), s.1))
      (x, next) e in
      let t = range_takes 4 0 (2 ^ n - 1) form.CutRange c s.0.1 s.0.0 bytes s.1 in
      let cut : Cut = record { 0 = s.0.0 } in
      let same = made_is (Some cut) x s.0.1 next s.2 in
      let fits : cut.0 < 2 ^ n = omega (arith, t.2, pow_pos n) in
      subst (λ (y : Option Cut). CutText c next 1 y) same.0
      (big_bytes 4 cut.0, refl, subst (λ (d : Cursor). Takes c (big_bytes 4 cut.0) d) same.1 t.0, fits)
  after_flag (suc (suc flag)) c next x bytes few e = absurd (omega arith)

  pub cut_takes : TakesAll (cut_at n) cut_bytes (CutFits n)
  unfolding cut_at
  cut_takes c next x bytes e =
      let f = bind_ok (flag_at c) (λ f. cond (eqb f.0 0) (Ok (none, f.1)) (set_at n f.1)) (x, next) e in
      let t0 = range_takes 1 0 1 form.Tag c f.0.1 f.0.0 bytes f.1 in
      let bytes1 = bytes_after c f.0.1 (big_bytes 1 f.0.0) t0.0 bytes in
      let t1 = after_flag f.0.0 f.0.1 next x bytes1 t0.2 f.2 in (
        subst (λ (text : List ℕ). Takes c text next) t1.1
            (Takes-then c f.0.1 next (big_bytes 1 f.0.0) t1.0 t0.0 t1.2),
        t1.3,
      )

  flag_again : (c : Cursor) (flag : ℕ) (x : Option Cut) (text after : List ℕ) → flag ≤ 1
      → ((mid : Cursor) → mid.place ≤ length mid.bytes → rest mid ≡ text ++ after →
      Again (cond (eqb flag 0) (Ok (none, mid)) (set_at n mid)) mid x after)
      → c.place ≤ length c.bytes → rest c ≡ (big_bytes 1 flag ++ text) ++ after → Again (cut_at n c) c x after
  unfolding cut_at
  flag_again c flag x text after few again within e =
      let f =
      range_again 1 0 1 form.Tag c flag (text ++ after) (omega arith) (omega arith) few within
      (e ∙ append_assoc (big_bytes 1 flag) text after) in
      again_then (flag_at c) (λ f. cond (eqb f.0 0) (Ok (none, f.1)) (set_at n f.1)) c flag x (text ++ after) after
      f (again f.next f.within f.rest_is)

  pub cut_again : ReadsAgain (cut_at n) cut_bytes (CutFits n)
  cut_again c None after is within e =
      flag_again c 0 None [] after (omega arith)
      (λ mid h f. record { next = mid; is = refl; rest_is = f; same = refl; within = h }) within e
  cut_again c (Some cut) after is within e =
      flag_again c 1 (Some cut) (big_bytes 4 cut.0) after (omega arith)
      (λ mid h f. let a = range_again 4 0 (2 ^ n - 1) form.CutRange mid cut.0 after set_fits (omega arith)
      (omega (arith, is)) h f in
      record { next = a.next; is = rw a.is refl; rest_is = a.rest_is; same = a.same; within = a.within }) within e
