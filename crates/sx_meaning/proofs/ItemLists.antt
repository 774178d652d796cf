-- Lists of items, and one item more.
use Rattle.std.proofs.Common.{◌≡◌, ℕ, List, [], ◌∷◌, ◌++◌, refl, sym, ap, subst, ◌∙◌, append_assoc, arith}
use Rattle.std.proofs.lemmas.List.{append-nil}
use Rattle.sx_meaning.specs.Expected.{IsExpected, needed}
use Rattle.sx_meaning.specs.Findings.{MayCome, MayComeAll}
use Rattle.sx_meaning.specs.Items.{Item, item_record, records}
use Rattle.sx_words.specs.declared.command.Command.{Command}

pub records_then : (items : List Item) (item : Item) → records (items ++ item ∷ []) ≡ records items ++ item_record item
records_then [] item = append-nil (item_record item)
records_then (first ∷ items) item =
    ap (λ (t : List ℕ). item_record first ++ t) (records_then items item)
    ∙ sym (append_assoc (item_record first) (records items) (item_record item))

pub come_then : (command : Command) (before items : List Item) (item : Item) → MayComeAll command before items
    → MayCome command (before ++ items) item → MayComeAll command before (items ++ item ∷ [])
come_then command before [] item each next =
    (subst (λ (b : List Item). MayCome command b item) (append-nil before) next, tt)
come_then command before (first ∷ items) item each next = (
  each.0,
  come_then command (before ++ first ∷ []) items item each.1
      (subst (λ (b : List Item). MayCome command b item) (sym (append_assoc before (first ∷ []) items)) next),
)

-- what is expected has this tag alone
pub needed_listed : (tag : ℕ) → IsExpected (needed tag) tag
needed_listed tag = ((0, omega arith, refl), refl)
