-- One thing is found of an input, for every command.
use Rattle.std.proofs.Common.{◌≡◌, ℕ, ◌<◌, Bool, true, false, List, [], ◌∷◌, ◌++◌, length, Contains}
use Rattle.std.proofs.Common.{Option, Some, None, Result, Ok, Err, inl, inr, refl, sym, ap, subst, ◌∙◌, append_assoc}
use Rattle.std.proofs.Common.{arith}
use Rattle.std.proofs.lemmas.List.{append-nil}
use Rattle.std.specs.Prelude.{IsTrue, nat_le, ◌&&◌, ◌==◌}
use Rattle.sx_block.specs.declared.header.Block.{Block}
use Rattle.sx_bytes.specs.declared.fault.FormFault.{FormFault}
use Rattle.sx_block.specs.declared.invalid.Invalid.{Invalid}
use Rattle.sx_block.specs.RefusalLaws.{OneReason, ValidIsNotRefused}
use Rattle.sx_block.specs.Chain.{ledger_after_all}
use Rattle.sx_meaning.specs.Expected.{Expected, IsDoneWith, IsExpected, end_only, item_at, may_end, record_of, unread}
use Rattle.sx_meaning.specs.Findings.{Finding, Finds, FindsAfter, FindsAtBlock, FindsAtEnd, IsNextValid}
use Rattle.sx_meaning.specs.Findings.{MayCome}
use Rattle.sx_meaning.specs.Findings.{MayComeAll, RefusesNext, StopsAt, expected, malformed, no_fault, refused}
use Rattle.sx_meaning.specs.Items.{IsItem, Item, block, item_record, records, tag_of}
use Rattle.sx_meaning.specs.Laws.{FindsOne}
use Rattle.sx_meaning.specs.Replays.{blocks_of, ends_with_block, expected_in_replay, most_blocks}
use Rattle.sx_meaning.specs.Replays.{tags_after}
use Rattle.sx_meaning.proofs.Conclusions.{one_conclusion, one_stop}
use Rattle.sx_meaning.proofs.Ends.{done_once, done_without}
use Rattle.sx_meaning.proofs.ItemLaws.{item_again}
use Rattle.sx_record.specs.Decoding.{record_at}
use Rattle.sx_record.specs.Tags.{block_tag}
use Rattle.sx_words.specs.declared.command.Command.{Command}
use Rattle.sx_words.specs.declared.command.Command.TheVariants.{Check, Demo, Filter, Follow, Interleave, Migrate, Prove}
use Rattle.sx_words.specs.declared.command.Command.TheVariants.{Replay, Seal, Show, Verify}

-- ---- two items at the beginning of one text

-- what decoding makes of one text is one
one_answer : (i j : Option Item) (x y : List ℕ)
    → ◌≡◌ {A = Result (Option Item) FormFault × List ℕ} (Ok i, x) (Ok j, y) → (i ≡ j) × (x ≡ y)
one_answer i j x y e =
    let answer : ◌≡◌ {A = Result (Option Item) FormFault} (Ok i) (Ok j) =
    ap (λ (p : Result (Option Item) FormFault × List ℕ). p.0) e in
    (cc, ap (λ (p : Result (Option Item) FormFault × List ℕ). p.1) e)

same_record : (e : Expected) (i j : Item) (x y : List ℕ) → IsExpected e (tag_of i) → IsItem i → IsExpected e (tag_of j)
    → IsItem j → item_record i ++ x ≡ item_record j ++ y → (i ≡ j) × (x ≡ y)
same_record e i j x y may_i is_i may_j is_j same =
    let both = one_answer (Some i) (Some j) x y
    (sym (item_again e 0 i x may_i is_i) ∙ ap (item_at e 0) same ∙ item_again e 0 j y may_j is_j) in
    let one : Some i ≡ Some j = both.0 in
    (cc, both.1)

-- ---- where nothing more may come

-- no item that may come stands at the beginning
abbrev Stuck : Command → List Item → List ℕ → Type 0
Stuck command before bytes =
    (item : Item) (more : List ℕ) → MayCome command before item → bytes ≡ item_record item ++ more → ⊥

-- two readings that can't go on are the same
same_items : (command : Command) (before items others : List Item) (rest left : List ℕ) →
    MayComeAll command before items → MayComeAll command before others → records items ++ rest ≡ records others ++ left
    → Stuck command (before ++ items) rest → Stuck command (before ++ others) left → (items ≡ others) × (rest ≡ left)
same_items command before [] [] rest left a b e stuck other = (refl, e)
same_items command before [] (j ∷ others) rest left a b e stuck other =
    absurd (stuck j (records others ++ left) (subst (λ (l : List Item). MayCome command l j)
    (sym (append-nil before)) b.0)
    (e ∙ append_assoc (item_record j) (records others) left))
same_items command before (i ∷ items) [] rest left a b e stuck other =
    absurd (other i (records items ++ rest) (subst (λ (l : List Item). MayCome command l i)
    (sym (append-nil before)) a.0)
    (sym e ∙ append_assoc (item_record i) (records items) rest))
same_items command before (i ∷ items) (j ∷ others) rest left a b e stuck other =
    let split = sym (append_assoc (item_record i) (records items) rest) ∙ e
    ∙ append_assoc (item_record j) (records others) left in
    let first = same_record (expected command before) i j (records items ++ rest) (records others ++ left) a.0.listed
    a.0.form b.0.listed b.0.form split in
    let after = ap (λ (k : Item). before ++ k ∷ []) (sym first.0) in
    let more = same_items command (before ++ i ∷ []) items others rest left a.1
    (subst (λ (l : List Item). MayComeAll command l others) after b.1) first.1
    (subst (λ (l : List Item). Stuck command l rest) (sym (append_assoc before (i ∷ []) items)) stuck)
    (subst (λ (l : List Item). Stuck command (l ++ others) left) after
    (subst (λ (l : List Item). Stuck command l left) (sym (append_assoc before (j ∷ []) others)) other)) in
    (ap (λ (k : Item). k ∷ items) first.0 ∙ ap (λ (ks : List Item). j ∷ ks) more.0, more.1)

-- ---- what is found where nothing more may come

-- there is no fault where no more comes and that may be
ends : (e : Expected) (at : ℕ) → IsTrue (may_end e) → item_at e at [] ≡ (Ok None, [])
unfolding item_at record_at
ends unread at may = refl
ends end_only at may = refl
ends (record_of tags true full) at may = refl
ends (record_of tags false full) at may = absurd cc

not_both : (x y : List ℕ) (fault : FormFault)
    → ◌≡◌ {A = Result (Option Item) FormFault × List ℕ} (Ok None, x) (Err fault, y) → ⊥
not_both x y fault e =
    let wrong : ◌≡◌ {A = Result (Option Item) FormFault} (Ok None) (Err fault) =
    ap (λ (p : Result (Option Item) FormFault × List ℕ). p.0) e in cc

faultless_end : (e : Expected) (at : ℕ) (bytes here left : List ℕ) (fault : FormFault) → IsDoneWith e bytes here
    → IsTrue (may_end e) → item_at e at bytes ≡ (Err fault, left) → ⊥
unfolding item_at
faultless_end unread at bytes here left fault done may faulty = not_both bytes left fault faulty
faultless_end end_only at bytes here left fault done may faulty =
    not_both [] left fault (sym (ends end_only at may) ∙ ap (item_at end_only at) (sym done.0) ∙ faulty)
faultless_end (record_of tags end_too full) at bytes here left fault done may faulty =
    not_both [] left fault (sym (ends (record_of tags end_too full) at may)
    ∙ ap (item_at (record_of tags end_too full) at) (sym done.0) ∙ faulty)

faultless_item : (e : Expected) (at : ℕ) (item : Item) (bytes more left : List ℕ) (fault : FormFault)
    → IsExpected e (tag_of item) → IsItem item → bytes ≡ item_record item ++ more
    → item_at e at bytes ≡ (Err fault, left) → ⊥
faultless_item e at item bytes more left fault may is read faulty =
    let both = ap (λ (p : Result (Option Item) FormFault × List ℕ). p.0)
    (sym (item_again e at item more may is) ∙ ap (item_at e at) (sym read) ∙ faulty) in
    let wrong : ◌≡◌ {A = Result (Option Item) FormFault} (Ok (Some item)) (Err fault) = both in cc

-- a block may come where it is judged
block_listed : (after : Bool) → Contains (tags_after after) block_tag
block_listed true = (0, omega arith, refl)
block_listed false = (0, omega arith, refl)

not_full : (blocks : ℕ) → blocks < most_blocks → (nat_le most_blocks blocks && (block_tag == block_tag)) ≡ false
not_full blocks few = grind (arith)

expected_block : (items : List Item) (said : Block) (number : ℕ) (why : Invalid) → RefusesNext items said number why
    → IsExpected (expected_in_replay items) block_tag
expected_block items said number why r =
    subst (λ (l : List Item). IsExpected (expected_in_replay l) block_tag) (sym r.are) (
      block_listed (ends_with_block r.others),
      not_full (length (blocks_of r.others))
          (omega (arith, r.few, r.is_number)),
    )

stops_where_expected : (command : Command) (items : List Item) (said : Block) (number : ℕ) (why : Invalid)
    → StopsAt command items said number why → IsExpected (expected command items) block_tag
stops_where_expected Check items said number why stops = absurd stops
stops_where_expected (Replay workers) items said number why stops = expected_block items said number why stops
stops_where_expected Interleave items said number why stops = absurd stops
stops_where_expected (Seal workers shards mu rounds searches) items said number why stops = absurd stops
stops_where_expected Show items said number why stops = absurd stops
stops_where_expected Migrate items said number why stops = absurd stops
stops_where_expected (Filter workers) items said number why stops = absurd stops
stops_where_expected (Prove id) items said number why stops = absurd stops
stops_where_expected Verify items said number why stops = absurd stops
stops_where_expected Follow items said number why stops = absurd stops
stops_where_expected (Demo seed workers) items said number why stops = absurd stops

stuck_at_end : (command : Command) (items : List Item) (bytes left : List ℕ)
    → IsDoneWith (expected command items) bytes left → Stuck command items bytes
stuck_at_end command items bytes left done item more may e =
    done_without (expected command items) bytes left more item done may.listed e

stuck_at_fault : (command : Command) (items : List Item) (at : ℕ) (bytes left : List ℕ) (fault : FormFault)
    → item_at (expected command items) at bytes ≡ (Err fault, left) → Stuck command items bytes
stuck_at_fault command items at bytes left fault faulty item more may e =
    faultless_item (expected command items) at item bytes more left fault may.listed may.form e faulty

module _ (one_reason : OneReason) (not_refused : ValidIsNotRefused) where
  refused_next : (items : List Item) (said : Block) (number : ℕ) (why : Invalid) → RefusesNext items said number why
      → IsNextValid items (block said) → ⊥
  refused_next items said number why r valid =
      not_refused (ledger_after_all r.parts (blocks_of r.others)) said why
      (subst (λ (l : List Item). IsNextValid l (block said)) r.are valid) r.refuses

  never_goes_on : (command : Command) (items : List Item) (said : Block) (number : ℕ) (why : Invalid)
      → StopsAt command items said number why → MayCome command items (block said) → ⊥
  never_goes_on Check items said number why stops may = absurd stops
  never_goes_on (Replay workers) items said number why stops may =
      refused_next items said number why stops may.goes_on
  never_goes_on Interleave items said number why stops may = absurd stops
  never_goes_on (Seal workers shards mu rounds searches) items said number why stops may = absurd stops
  never_goes_on Show items said number why stops may = absurd stops
  never_goes_on Migrate items said number why stops may = absurd stops
  never_goes_on (Filter workers) items said number why stops may = absurd stops
  never_goes_on (Prove id) items said number why stops may = absurd stops
  never_goes_on Verify items said number why stops may = absurd stops
  never_goes_on Follow items said number why stops may = absurd stops
  never_goes_on (Demo seed workers) items said number why stops may = absurd stops

  stuck_at_block : (command : Command) (items : List Item) (bytes left : List ℕ) (number : ℕ) (why : Invalid)
      → FindsAtBlock command items bytes number why left → Stuck command items bytes
  stuck_at_block command items bytes left number why found item more may e =
      let listed = stops_where_expected command items found.said number why found.stops in
      let same = same_record (expected command items) item (block found.said) more left may.listed may.form listed
      found.form (sym e ∙ found.read) in
      never_goes_on command items found.said number why found.stops
      (subst (λ (i : Item). MayCome command items i) same.0 may)

  stuck : (command : Command) (items : List Item) (bytes left : List ℕ) (finding : Finding)
      → FindsAfter command items bytes finding left → Stuck command items bytes
  stuck command items bytes left no_fault finds = stuck_at_end command items bytes left finds.done
  stuck command items bytes left (malformed fault) finds =
      stuck_at_fault command items (length (records items)) bytes left fault finds
  stuck command items bytes left (refused number why) (inl finds) =
      stuck_at_end command items bytes left finds.done
  stuck command items bytes left (refused number why) (inr finds) =
      stuck_at_block command items bytes left number why finds

  -- ---- one finding after these items

  module _ (command : Command) (items : List Item) (bytes left right : List ℕ) where
    at_end_twice : (f g : Finding) → FindsAtEnd command items bytes f left → FindsAtEnd command items bytes g right
        → (f ≡ g) × (left ≡ right)
    at_end_twice f g x y = (
      one_conclusion one_reason not_refused command items f g x.concludes y.concludes,
      done_once (expected command items) bytes left right x.done y.done,
    )

    end_or_block : (finding : Finding) (number : ℕ) (why : Invalid) (more : List ℕ)
        → (here : List ℕ) → FindsAtEnd command items bytes finding here
        → FindsAtBlock command items bytes number why more → ⊥
    end_or_block finding number why more here x y =
        done_without (expected command items) bytes here more (block y.said) x.done
        (stops_where_expected command items y.said number why y.stops) y.read

    end_or_fault : (finding : Finding) (fault : FormFault) (here more : List ℕ) →
        FindsAtEnd command items bytes finding here
        → item_at (expected command items) (length (records items)) bytes ≡ (Err fault, more) → ⊥
    end_or_fault finding fault here more x y =
        faultless_end (expected command items) (length (records items)) bytes here more fault x.done x.may y

    block_or_fault : (number : ℕ) (why : Invalid) (fault : FormFault) (here more : List ℕ)
        → FindsAtBlock command items bytes number why here
        → item_at (expected command items) (length (records items)) bytes ≡ (Err fault, more) → ⊥
    block_or_fault number why fault here more x y =
        faultless_item (expected command items) (length (records items)) (block x.said) bytes here more fault
        (stops_where_expected command items x.said number why x.stops) x.form x.read y

    faulty_twice : (one other : FormFault) → item_at (expected command items) (length (records items)) bytes ≡
        (Err one, left)
        → item_at (expected command items) (length (records items)) bytes ≡ (Err other, right)
        → (malformed one ≡ malformed other) × (left ≡ right)
    faulty_twice one other x y =
        let both = sym x ∙ y in
        let answer : ◌≡◌ {A = Result (Option Item) FormFault} (Err one) (Err other) =
        ap (λ (p : Result (Option Item) FormFault × List ℕ). p.0) both in
        let same : one ≡ other = cc in
        (ap (λ (f : FormFault). malformed f) same, ap (λ (p : Result (Option Item) FormFault × List ℕ). p.1) both)

    block_twice : (number other : ℕ) (why reason : Invalid) → FindsAtBlock command items bytes number why left
        → FindsAtBlock command items bytes other reason right
        → (refused number why ≡ refused other reason) × (left ≡ right)
    block_twice number other why reason x y =
        let same = same_record (expected command items) (block x.said) (block y.said) left right
        (stops_where_expected command items x.said number why x.stops) x.form
        (stops_where_expected command items y.said other reason y.stops) y.form (sym x.read ∙ y.read) in
        let said : x.said ≡ y.said = let is : block x.said ≡ block y.said = same.0 in cc in (
          one_stop one_reason command items y.said number other why reason
              (subst (λ (b : Block). StopsAt command items b number why) said x.stops) y.stops,
          same.1,
        )

    one_after : (f g : Finding) → FindsAfter command items bytes f left → FindsAfter command items bytes g right
        → (f ≡ g) × (left ≡ right)
    one_after no_fault no_fault x y = at_end_twice no_fault no_fault x y
    one_after no_fault (malformed fault) x y = absurd (end_or_fault no_fault fault left right x y)
    one_after no_fault (refused number why) x (inl y) = at_end_twice no_fault (refused number why) x y
    one_after no_fault (refused number why) x (inr y) =
        absurd (end_or_block no_fault number why right left x y)
    one_after (malformed fault) no_fault x y = absurd (end_or_fault no_fault fault right left y x)
    one_after (malformed fault) (malformed other) x y = faulty_twice fault other x y
    one_after (malformed fault) (refused number why) x (inl y) =
        absurd (end_or_fault (refused number why) fault right left y x)
    one_after (malformed fault) (refused number why) x (inr y) =
        absurd (block_or_fault number why fault right left y x)
    one_after (refused number why) no_fault (inl x) y = at_end_twice (refused number why) no_fault x y
    one_after (refused number why) no_fault (inr x) y =
        absurd (end_or_block no_fault number why left right y x)
    one_after (refused number why) (malformed fault) (inl x) y =
        absurd (end_or_fault (refused number why) fault left right x y)
    one_after (refused number why) (malformed fault) (inr x) y =
        absurd (block_or_fault number why fault left right x y)
    one_after (refused number why) (refused other reason) (inl x) (inl y) =
        at_end_twice (refused number why) (refused other reason) x y
    one_after (refused number why) (refused other reason) (inl x) (inr y) =
        absurd (end_or_block (refused number why) other reason right left x y)
    one_after (refused number why) (refused other reason) (inr x) (inl y) =
        absurd (end_or_block (refused other reason) number why left right y x)
    one_after (refused number why) (refused other reason) (inr x) (inr y) =
        block_twice number other why reason x y

  -- ---- one finding

  pub finds_one : FindsOne
  finds_one command bytes one other left right x y =
      let same = same_items command [] x.items y.items x.rest y.rest x.each y.each (sym x.read ∙ y.read)
      (stuck command x.items x.rest left one x.finds) (stuck command y.items y.rest right other y.finds) in
      one_after command y.items y.rest left right one other
      (subst (λ (r : List ℕ). FindsAfter command y.items r one left) same.1
      (subst (λ (l : List Item). FindsAfter command l x.rest one left) same.0 x.finds)) y.finds

  -- the items of an input without fault are one list
  pub one_reading : (command : Command) (bytes left right : List ℕ) (x : Finds command bytes no_fault left)
      (y : Finds command bytes no_fault right) → x.items ≡ y.items
  one_reading command bytes left right x y =
      (same_items command [] x.items y.items x.rest y.rest x.each y.each (sym x.read ∙ y.read)
      (stuck command x.items x.rest left no_fault x.finds) (stuck command y.items y.rest right no_fault y.finds)).0
