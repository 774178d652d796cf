-- What is left where one seat has all candidates.
use Rattle.std.proofs.Common.{◌≡◌, ℕ, ◌<◌, true, List, length, take, get_or, All, sym, ap, ◌∙◌, subst, arith}
use Rattle.std.proofs.lemmas.List.{length-map}
use Rattle.std.proofs.Math.Seq.{take-length}
use mathlib.Core.Option.{some}
use lib.ListN.{get_elem?}
use Rattle.atomic_table.specs.Table as table
use Rattle.sx_event.specs.View.{View, spent}
use Rattle.sx_event.specs.Rule.{LowFits, SetFits, debits, times, all_debits, all_times}
use Rattle.sx_event.proofs.Read.{whole_has_all}
use Rattle.sx_shard.specs.declared.known.Known.{Known}
use Rattle.sx_shard.specs.declared.known.Opening.{Opening}
use Rattle.sx_shard.specs.Words.{purses_in, bits_in}
use Rattle.sx_shard.specs.Known.{view_in}
use Rattle.sx_shard.specs.Models.{Shown}
use Rattle.sx_shard.specs.Table.{opening_purses, opening_bits, state_in, Kept}
use Rattle.sx_shard.specs.Close.{Ends}
use Rattle.sx_shard.proofs.Places.{is_within, view_at}

-- the rule, of the one live seat
pub ended : (shown : Shown) (opening : Opening) (s : table.State (Unit {0}) Known) (name : ℕ) (known : Known)
    (purses bits : List ℕ)
    → shown.purses ≡ opening_purses opening → shown.bits ≡ opening_bits opening → shown.count ≡ opening.count
    → Kept opening s → get_elem? s.views name ≡ some known → known.live ≡ true → known.from ≡ 0
    → known.end ≡ opening.count → purses ≡ purses_in opening.purses s.words → bits ≡ bits_in opening.purses s.words
    → Ends shown (view_in known) purses bits
ended shown opening s name known purses bits is_purses is_bits is_count kept at live from end here there =
    let core = state_in opening s.words s.views in
    let lt : name < length core.views = omega (arith, is_within s.views name known at, length-map s.views view_in) in
    let seat : get_or core.views name spent ≡ view_in known = view_at s.views name known at in
    let all = whole_has_all core name kept.rule (subst (λ (v : View). v.live ≡ true) (sym seat) live)
    (subst (λ (v : View). v.from ≡ 0) (sym seat) from) (subst (λ (v : View). v.end ≡ opening.count) (sym seat) end) in
    rw (is_purses, is_bits, is_count, here, there) record {
      state = record { views = core.views; name = name; rule = kept.rule; seat = seat };
      purses_add_up = record {
        as_many = kept.rule.purses.as_many;
        adds_up = λ purse. let same : all_debits core.views purse ≡ debits known.claims purse =
            all.debits purse ∙ ap (λ (v : View). debits v.claims purse) seat in
            omega (arith, kept.rule.purses.adds_up purse);
      };
      bits_add_up = record {
        as_many = kept.rule.bits.as_many;
        adds_up = λ word bit. let same : all_times core.views word bit ≡ times known.claims word bit =
            all.times word bit ∙ ap (λ (v : View). times v.claims word bit) seat in
            omega (arith, kept.rule.bits.adds_up word bit);
      };
      lows = subst (λ (v : View). All (LowFits core.opening_purses core.purses) v.notes) seat
          (kept.rule.lows name spent lt);
      sets = subst (λ (v : View). All (SetFits core.bits) v.notes) seat (kept.rule.sets name spent lt);
    }

-- a whole list
pub take_all : (count : ℕ) (l : List ℕ) → count ≡ length l → take count l ≡ l
take_all count l same = rw same (take-length l)
