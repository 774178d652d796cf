-- What a filter writes is the record of a body.
use Rattle.std.proofs.Common.{◌≡◌, ℕ, List, ◌++◌, ap, subst, ◌∙◌}
use Rattle.sx_filter.specs.Kept.{kept_of}
use Rattle.sx_filter.specs.KeptLaws.{KeptIsAccepted, KeptIsAdmissible}
use Rattle.sx_meaning.specs.FilterLaws.{FiltersBodies, WritesBody}
use Rattle.sx_meaning.specs.Findings.{FindsAtEnd, no_fault}
use Rattle.sx_meaning.specs.Items.{Item, records}
use Rattle.sx_meaning.specs.Outputs.{Writes}
use Rattle.sx_words.specs.declared.command.Command.TheVariants.{Filter}

module _ (admissible : KeptIsAdmissible) (accepted : KeptIsAccepted) where
  pub filters_bodies : FiltersBodies
  filters_bodies workers bytes text left x =
      let found = x.found in
      let end : FindsAtEnd (Filter workers) found.items found.rest no_fault left = found.finds in
      let c = end.concludes in
      record {
        parts = c.parts;
        txs = c.txs;
        body = kept_of c.parts c.txs;
        rest = found.rest;
        read = found.read ∙ ap (λ (l : List Item). records l ++ found.rest) c.are;
        written = subst (λ (l : List Item). Writes (Filter workers) l text) c.are x.writes;
        admissible = admissible c.parts c.txs c.finds;
        accepted = λ outcomes block. accepted c.parts c.txs outcomes block;
      }
