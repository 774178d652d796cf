-- What a text shows is what the record holds.
use Rattle.std.proofs.Common.{◌≡◌, ℕ, ◌+◌, List, [], ◌∷◌, length, Option, Some, refl, sym, subst}
use Rattle.sx_input.proofs.Readings.{HasRead, nothing_read, one_more}
use Rattle.sx_input.proofs.TakenRecords.{ends_after, took_item}
use Rattle.sx_meaning.specs.Expected.{IsExpected}
use Rattle.sx_meaning.specs.Findings.{expected, shown_tags}
use Rattle.sx_meaning.specs.Items.{IsItem, Item, payload_of, tag_of}
use Rattle.sx_meaning.specs.Outputs.{shown_of}
use Rattle.sx_record.specs.declared.frame.Record.{Record}
use Rattle.sx_record.specs.Frame.{MayStand, record_bytes}
use Rattle.sx_record.specs.Stream.{Took}
use Rattle.sx_run.specs.Showing.{item_of}
use Rattle.sx_text.specs.declared.shown.Shown.{Shown}
use Rattle.sx_text.specs.declared.shown.Shown.TheVariants as shown
use Rattle.sx_text.specs.Shown.{IsShowable}
use Rattle.sx_words.specs.declared.command.Command.TheVariants.{Show}

pub shown_again : (s : Shown) → shown_of (item_of s) ≡ Some s
shown_again (shown.State parts) = refl
shown_again (shown.Candidates txs) = refl
shown_again (shown.Block said) = refl
shown_again (shown.Outcomes told) = refl
shown_again (shown.Script turns) = refl

pub showable : (s : Shown) → IsItem (item_of s) → IsShowable s
showable (shown.State parts) is = tt
showable (shown.Candidates txs) is = tt
showable (shown.Block said) is = is
showable (shown.Outcomes told) is = tt
showable (shown.Script turns) is = tt

-- the record was read, and nothing after it
pub has_record : (a b : Option (List ℕ)) (found : Record) (item : Item) (end : ℕ) → MayStand shown_tags 0 found
    → Took a b (record_bytes found.tag found.payload) → IsItem item → tag_of item ≡ found.tag
    → found.payload ≡ payload_of item → end ≡ found.at + length found.payload → HasRead Show a b (item ∷ []) end
has_record a b found item end stands took is tagged encoded ends =
    one_more Show a a b [] item 0 end (nothing_read Show a)
    (record {
      listed = subst (λ (t : ℕ). IsExpected (expected Show []) t) (sym tagged) (stands.listed, refl);
      form = is;
      goes_on = tt;
    })
    (took_item found.tag found.payload item tagged encoded a b took)
    (ends_after found.tag found.payload item tagged encoded 0 found.at end stands.place ends)
