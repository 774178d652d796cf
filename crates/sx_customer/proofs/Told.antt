-- What a migration, a text and an interleaving may write, in plain words.
use Rattle.std.proofs.Common.{ℕ, List, ◌++◌, refl, ap, subst, ◌∙◌}
use Rattle.std.proofs.lemmas.List.{append-nil}
use Rattle.sx_customer.specs.Told.{Interleaved, IsTextOf, Migrated, Shown}
use Rattle.sx_customer.proofs.Others.{one, whole}
use Rattle.sx_ledger.specs.Ledger.{migrated as moved}
use Rattle.sx_meaning.specs.Findings.{FindsAtEnd, no_fault}
use Rattle.sx_meaning.specs.Items.{Item, block, candidates, item_record, outcomes, proof, records, script, state}
use Rattle.sx_meaning.specs.Outputs.{IsShown, MayWrite, Writes, shown_of}
use Rattle.sx_words.specs.declared.command.Command.TheVariants.{Interleave, Migrate, Show}

pub migrated : (bytes text left : List ℕ) → MayWrite Migrate bytes text left → Migrated bytes text
migrated bytes text left may =
    let end : FindsAtEnd Migrate may.found.items may.found.rest no_fault left = may.found.finds in
    let c = end.concludes in
    record {
      parts = c.parts;
      after = moved c.parts;
      read = whole Migrate bytes text left refl may ∙ ap (λ (l : List Item). records l) c.are ∙ one (state c.parts);
      written = subst (λ (l : List Item). Writes Migrate l text) c.are may.writes;
      version = refl;
      height = refl;
      prices = refl;
      rounding = refl;
      accounts = refl;
      offers = refl;
    }

text_of : (item : Item) (text : List ℕ) → IsShown (shown_of item) text → IsTextOf item text
text_of (state parts) text is = is
text_of (candidates txs) text is = is
text_of (block said) text is = is
text_of (outcomes told) text is = is
text_of (script turns) text is = is
text_of (proof claim) text is = is

pub shown : (bytes text left : List ℕ) → MayWrite Show bytes text left → Shown bytes text
shown bytes text left may =
    let end : FindsAtEnd Show may.found.items may.found.rest no_fault left = may.found.finds in
    let c = end.concludes in
    record {
      item = c.item;
      read = whole Show bytes text left refl may ∙ ap (λ (l : List Item). records l) c.are ∙ one c.item;
      written = text_of c.item text (subst (λ (l : List Item). Writes Show l text) c.are may.writes);
    }

pub interleaved : (bytes text left : List ℕ) → MayWrite Interleave bytes text left → Interleaved bytes text
interleaved bytes text left may =
    let end : FindsAtEnd Interleave may.found.items may.found.rest no_fault left = may.found.finds in
    let c = end.concludes in
    record {
      parts = c.parts;
      txs = c.txs;
      turns = c.turns;
      read = whole Interleave bytes text left refl may ∙ ap (λ (l : List Item). records l) c.are
          ∙ ap (λ (t : List ℕ). item_record (state c.parts) ++ (item_record (candidates c.txs) ++ t))
          (append-nil (item_record (script c.turns)));
      room = c.finds;
      written = subst (λ (l : List Item). Writes Interleave l text) c.are may.writes;
    }
