-- How many workers and shards there are does not change what a seal, a filter or a demonstration may write.
use Rattle.std.proofs.Common.{ℕ, List, [], ◌∷◌, ◌++◌, sym, subst}
use Rattle.sx_meaning.specs.Findings.{FindsAtEnd, MayComeAll, no_fault}
use Rattle.sx_meaning.specs.Items.{Item}
use Rattle.sx_meaning.specs.Outputs.{Writes}
use Rattle.sx_meaning.specs.SealLaws.{DemosAlike, FiltersAlike, SealsAlike}
use Rattle.sx_words.specs.declared.command.Command.TheVariants.{Demo, Filter, Seal}

module _ (workers others shards more mu rounds searches : ℕ) where
  may_come : (before items : List Item) → MayComeAll (Seal workers shards mu rounds searches) before items
      → MayComeAll (Seal others more mu rounds searches) before items
  may_come before [] each = tt
  may_come before (next ∷ items) each = (
    record { listed = each.0.listed; form = each.0.form; goes_on = tt },
    may_come (before ++ next ∷ []) items each.1,
  )

pub seals_alike : SealsAlike
seals_alike workers others shards more mu rounds searches bytes text left x =
    let found = x.found in
    let end : FindsAtEnd (Seal workers shards mu rounds searches) found.items found.rest no_fault left = found.finds in
    let c = end.concludes in
    let wrote = subst (λ (l : List Item). Writes (Seal workers shards mu rounds searches) l text) c.are x.writes in
    record {
      found = record {
        items = found.items;
        rest = found.rest;
        each = may_come workers others shards more mu rounds searches [] found.items found.each;
        read = found.read;
        finds = record { done = end.done; may = end.may; concludes = c };
      };
      writes = subst (λ (l : List Item). Writes (Seal others more mu rounds searches) l text) (sym c.are) wrote;
    }

may_come_too : (workers others : ℕ) (before items : List Item) → MayComeAll (Filter workers) before items
    → MayComeAll (Filter others) before items
may_come_too workers others before [] each = tt
may_come_too workers others before (next ∷ items) each = (
  record { listed = each.0.listed; form = each.0.form; goes_on = tt },
  may_come_too workers others (before ++ next ∷ []) items each.1,
)

pub filters_alike : FiltersAlike
filters_alike workers others bytes text left x =
    let found = x.found in
    let end : FindsAtEnd (Filter workers) found.items found.rest no_fault left = found.finds in
    let c = end.concludes in
    let wrote = subst (λ (l : List Item). Writes (Filter workers) l text) c.are x.writes in
    record {
      found = record {
        items = found.items;
        rest = found.rest;
        each = may_come_too workers others [] found.items found.each;
        read = found.read;
        finds = record { done = end.done; may = end.may; concludes = c };
      };
      writes = subst (λ (l : List Item). Writes (Filter others) l text) (sym c.are) wrote;
    }

none_come : (number workers others : ℕ) (items : List Item) → MayComeAll (Demo number workers) [] items
    → MayComeAll (Demo number others) [] items
none_come number workers others [] each = tt
none_come number workers others (one ∷ items) each = absurd each.0.listed

pub demos_alike : DemosAlike
demos_alike number workers others bytes text left x =
    let found = x.found in
    let end : FindsAtEnd (Demo number workers) found.items found.rest no_fault left = found.finds in
    let c = end.concludes in
    let wrote = subst (λ (l : List Item). Writes (Demo number workers) l text) c.are x.writes in
    record {
      found = record {
        items = found.items;
        rest = found.rest;
        each = none_come number workers others found.items found.each;
        read = found.read;
        finds = record { done = end.done; may = end.may; concludes = c };
      };
      writes = subst (λ (l : List Item). Writes (Demo number others) l text) (sym c.are) wrote;
    }
