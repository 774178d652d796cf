-- The window of an account: decoding inverts encoding, and back.
use Rattle.std.proofs.Common.{◌≡◌, ℕ, ◌-◌, ◌^◌, ◌<◌, ◌≤◌, true, false, cond, eqb, List, [], ◌++◌, Ok}
use Rattle.std.proofs.Common.{IsTrue, refl, sym, ap, subst, arith}
use Rattle.std.proofs.lemmas.Bool.{eqb-true}
use Rattle.byteorder.specs.Endian.{big_bytes}
use Rattle.sx_base.specs.Ranges.{most_seq}
use Rattle.sx_bytes.specs.declared.fault.Form.TheVariants as form
use Rattle.sx_bytes.specs.Cursor.{Cursor, rest}
use Rattle.sx_bytes.specs.Grammar.{◌>>=◌, field_at}
use Rattle.sx_bytes.proofs.Grammar.{bind_ok, Takes, Takes-none, Again, field_takes, field_again}
use Rattle.sx_bytes.proofs.Parts.{Reading, TakesAll, ReadsAgain, made_is}
use Rattle.sx_bytes.proofs.DecodingSteps.{range_takes, range_again}
use Rattle.sx_state.specs.Encoding.{map_bytes, window_bytes}
use Rattle.sx_state.specs.Decoding.{last_at, map_at, window_at}
use Rattle.sx_state.proofs.DependentParts.{chained_takes, chained_again}
use Rattle.sx_tx.specs.declared.window.Window.{Window}
use Rattle.sx_tx.specs.Window.{is_map, open_numbers, IsWindow}

abbrev IsLast : ℕ → Type 0
IsLast last = last ≤ most_seq

last_takes : TakesAll last_at (big_bytes 8) IsLast
last_takes c next x bytes e = let t = range_takes 8 0 (2 ^ 63 - 1) form.SeqRange c next x bytes e in
    (t.0, omega (arith, t.2))

last_again : ReadsAgain last_at (big_bytes 8) IsLast
last_again c x after is within e =
    range_again 8 0 (2 ^ 63 - 1) form.SeqRange c x after (omega arith) (omega arith) (omega (arith, is)) within e

-- ---- the map

-- a map that fits this version and this last number
record IsMap (version last map : ℕ) : Type 0 where
  fits : map < 2 ^ open_numbers
  is : IsTrue (is_map version last map)

map_takes : (version last : ℕ) → TakesAll (map_at version last) (map_bytes version) (IsMap version last)
map_takes version last c next map bytes e =
    elim (eqb version 1) as (λ b. eqb version 1 ≡ b
    → cond b (Ok (0, c)) (field_at 8 (is_map version last) form.UsedRange c) ≡ Ok (map, next)
    → Takes c (cond b [] (big_bytes 8 map)) next × IsMap version last map) [
      | true ↦ λ older e.
          let same = made_is 0 map c next e in
          let none : IsMap version last 0 = record { fits = omega arith; is = rw older refl } in
          (subst (λ (d : Cursor). Takes c [] d) same.1 (Takes-none c), subst (IsMap version last) same.0 none)
      | false ↦ λ _ e.
          let t = field_takes 8 (is_map version last) form.UsedRange c next map bytes e in
          (t.0, record { fits = omega (arith, t.2); is = t.1 })
    ] refl e

map_again : (version last : ℕ) → ReadsAgain (map_at version last) (map_bytes version) (IsMap version last)
map_again version last c map after is within e =
    elim (eqb version 1) as (λ b. eqb version 1 ≡ b → rest c ≡ cond b [] (big_bytes 8 map) ++ after
    → Again (cond b (Ok (0, c)) (field_at 8 (is_map version last) form.UsedRange c)) c map after) [
      | true ↦ λ older e.
          let none : map ≡ 0 = eqb-true map 0 (rw older at is.is) in
          record { next = c; is = ap (λ (n : ℕ). Ok (n, c)) (sym none); rest_is = e; same = refl; within = within }
      | false ↦ λ _ e.
          field_again 8 (is_map version last) form.UsedRange c map after (omega (arith, is.fits)) is.is within e
    ] refl e

-- ---- the window

abbrev made : ℕ → ℕ → Window
made last used = record { last = last; used = used }

abbrev from_last : ℕ → ℕ → Reading Window
from_last version last c = map_at version last c >>= λ used. Ok (made last used.0, used.1)

abbrev map_text : ℕ → Window → List ℕ
map_text version window = map_bytes version window.used

-- a window with this last number
record FromLast (version last : ℕ) (window : Window) : Type 0 where
  last_is : last ≡ window.last
  map : IsMap version last window.used

from_last_takes : (version last : ℕ) → TakesAll (from_last version last) (map_text version) (FromLast version last)
from_last_takes version last c next window bytes e =
    let a = bind_ok (map_at version last c) (λ used. Ok (made last used.0, used.1)) (window, next) e in
    let t = map_takes version last c a.0.1 a.0.0 bytes a.1 in
    let same = made_is (made last a.0.0) window a.0.1 next a.2 in
    let from : FromLast version last (made last a.0.0) = record { last_is = refl; map = t.1 } in
    subst (λ (w : Window). Takes c (map_text version w) next × FromLast version last w) {x = made last a.0.0} same.0
    (subst (λ (d : Cursor). Takes c (map_bytes version a.0.0) d) same.1 t.0, from)

from_last_again : (version last : ℕ) → ReadsAgain (from_last version last) (map_text version) (FromLast version last)
from_last_again version last c window after from within e =
    let read = map_again version last c window.used after from.map within e in
    let again : Again (from_last version last c) c (made last window.used) after = record {
      next = read.next;
      is = rw read.is refl;
      rest_is = read.rest_is;
      same = read.same;
      within = read.within;
    } in
    subst (λ (n : ℕ). Again (from_last version last c) c (made n window.used) after) from.last_is again

pub window_takes : (version : ℕ) → TakesAll (window_at version) (window_bytes version) (IsWindow version)
window_takes version c next window bytes e =
    let t = chained_takes last_at (from_last version) (big_bytes 8) (map_text version) IsLast (FromLast version)
    (λ window. window.last) last_takes (λ last is. from_last_takes version last) (λ last w from. from.last_is)
    c next window bytes e in
    (t.0, record { last = t.1.0; fits = t.1.1.map.fits; map = t.1.1.map.is })

pub window_again : (version : ℕ) → ReadsAgain (window_at version) (window_bytes version) (IsWindow version)
window_again version c window after is within e =
    let from : FromLast version window.last window =
    record { last_is = refl; map = record { fits = is.fits; is = is.map } } in
    chained_again last_at (from_last version) (big_bytes 8) (map_text version) IsLast (FromLast version)
    (λ window. window.last) last_again (λ last is. from_last_again version last) c window after (is.last, from) within e
