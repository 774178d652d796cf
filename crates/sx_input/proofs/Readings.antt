-- What was read so far of an input, and what is found where no more is read.
use Rattle.std.proofs.Common.{◌≡◌, ℕ, ◌+◌, List, [], ◌∷◌, ◌++◌, length, Option, Some, None, Result, Ok, Err, inl}
use Rattle.std.proofs.Common.{refl, sym, ap, subst, ◌∙◌, append_assoc, arith}
use Rattle.std.proofs.lemmas.List.{append-nil, length-append}
use Rattle.std.specs.Prelude.{IsTrue}
use Rattle.sx_bytes.specs.declared.fault.FormFault.{FormFault}
use Rattle.sx_block.specs.declared.invalid.Invalid.{Invalid}
use Rattle.sx_input.specs.declared.stop.Stop.{Stop}
use Rattle.sx_input.specs.declared.stop.Stop.TheVariants as stop
use Rattle.sx_input.specs.Found.{ConcludesAs, Found}
use Rattle.sx_input.specs.Stream.{FaultsAt, Stops, UnlessReadFault, WasAtEnd}
use Rattle.sx_ledger.specs.declared.parts.Parts.{Parts}
use Rattle.sx_ledger.specs.Ledger.{IsLedger}
use Rattle.sx_meaning.specs.Answers.{FindsIn, FindsInSome, MayWriteIn}
use Rattle.sx_meaning.specs.Expected.{Expected, IsExpected, item_at, may_end, needed}
use Rattle.sx_meaning.specs.Findings.{Concludes, Finding, FindsAfter, FindsAtEnd, GoesOn, MayCome, MayComeAll}
use Rattle.sx_meaning.specs.Findings.{expected, malformed, no_fault, refused}
use Rattle.sx_meaning.specs.Items.{Item, item_record, records, state}
use Rattle.sx_meaning.specs.Outputs.{MayWrite, Writes}
use Rattle.sx_meaning.proofs.Ends.{done_at_end}
use Rattle.sx_meaning.proofs.ItemLists.{come_then, needed_listed, records_then}
use Rattle.sx_record.specs.Stream.{Took}
use Rattle.sx_record.specs.Tags.{state_tag}
use Rattle.sx_words.specs.declared.command.Command.{Command}

-- ---- faults

-- what holds at each answer but a fault of reading, where one fact follows from another
pub steady_too : (X Y : Type 0) (s : Stop) (one other : Type 0) → (one → other)
    → UnlessReadFault {X = X} (Err s) one → UnlessReadFault {X = Y} (Err s) other
steady_too X Y stop.NoMemory one other follows is = follows is
steady_too X Y (stop.Malformed fault) one other follows is = follows is
steady_too X Y (stop.Refused number why) one other follows is = follows is
steady_too X Y stop.ReadFault one other follows is = tt

-- ---- what was taken

pub took_none : (a : Option (List ℕ)) → Took a a []
took_none None = tt
took_none (Some bytes) = (bytes, refl, refl)

pub took_then : (a b c : Option (List ℕ)) (text piece both : List ℕ) → Took a b text → Took b c piece
    → both ≡ text ++ piece → Took a c both
took_then None b c text piece both took more e = tt
took_then (Some bytes) None c text piece both took more e =
    absurd (let n : Some took.0 ≡ None = sym took.2 in cc)
took_then (Some bytes) (Some rest) c text piece both took more e =
    let same : rest ≡ took.0 = cc in (
      more.0,
      took.1 ∙ ap (λ (r : List ℕ). text ++ r) (sym same ∙ more.1) ∙ sym (append_assoc text piece more.0)
          ∙ ap (λ (t : List ℕ). t ++ more.0) (sym e),
      more.2,
    )

-- the input began with these items, up to this offset, and the rest is left
pub record HasRead (command : Command) (input left : Option (List ℕ)) (items : List Item) (at : ℕ) : Type 0 where
  pub each : MayComeAll command [] items
  pub took : Took input left (records items)
  pub offset : at ≡ length (records items)

pub nothing_read : (command : Command) (a : Option (List ℕ)) → HasRead command a a [] 0
nothing_read command a = record { each = tt; took = took_none a; offset = refl }

pub one_more : (command : Command) (a b c : Option (List ℕ)) (items : List Item) (item : Item) (at end : ℕ)
    → HasRead command a b items at → MayCome command items item → Took b c (item_record item)
    → end ≡ at + length (item_record item) → HasRead command a c (items ++ item ∷ []) end
one_more command a b c items item at end so_far may took long =
    let whole = ap length (records_then items item) in
    record {
      each = come_then command [] items item so_far.each may;
      took = took_then a b c (records items) (item_record item) _ so_far.took took (records_then items item);
      offset = omega (arith, long, whole, so_far.offset, length-append (records items) (item_record item));
    }

pub from_zero : (end long : ℕ) → end ≡ 0 + long → end ≡ long
from_zero end long is = omega arith

-- a state came first
pub has_state : (command : Command) (a b : Option (List ℕ)) (parts : Parts) (end : ℕ)
    → expected command [] ≡ needed state_tag → GoesOn command [] (state parts) → IsLedger parts
    → Took a b (item_record (state parts)) → end ≡ length (item_record (state parts))
    → HasRead command a b (state parts ∷ []) end
has_state command a b parts end expects goes is took long =
    one_more command a a b [] (state parts) 0 end (nothing_read command a)
    (record {
      listed = subst (λ (e : Expected). IsExpected e state_tag) (sym expects) (needed_listed state_tag);
      form = is;
      goes_on = goes;
    }) took (omega (arith, long))

-- ---- what is found where no more is read

module _ (command : Command) (items : List Item) (at : ℕ) where
  finds_here : (bytes rest : List ℕ) (finding : Finding) (left : List ℕ) (d : Option (List ℕ))
      → HasRead command (Some bytes) (Some rest) items at → FindsAfter command items rest finding left → d ≡ Some left
      → FindsIn command (Some bytes) d finding
  finds_here bytes rest finding left d so_far finds after =
      let same : rest ≡ so_far.took.0 = cc in (
        left,
        record {
          items = items;
          rest = rest;
          each = so_far.each;
          read = so_far.took.1 ∙ ap (λ (r : List ℕ). records items ++ r) (sym same);
          finds = finds;
        },
        after,
      )

  faulty : (a b d : Option (List ℕ)) (fault : FormFault) → HasRead command a b items at
      → FaultsAt (item_at (expected command items) at) b d fault
      → FindsIn command a d (malformed fault)
  faulty None b d fault so_far faults = tt
  faulty (Some bytes) None d fault so_far faults =
      absurd (let n : Some so_far.took.0 ≡ None = sym so_far.took.2 in cc)
  faulty (Some bytes) (Some rest) d fault so_far faults =
      finds_here bytes rest (malformed fault) faults.0 d so_far
      (subst (λ (n : ℕ). item_at (expected command items) n rest ≡ (Err fault, faults.0)) so_far.offset faults.1)
      faults.2

  pub stops : (a b d : Option (List ℕ)) (s : Stop) → HasRead command a b items at
      → Stops (item_at (expected command items) at) b d s → Found command a d (Err s)
  stops a b d (stop.Malformed fault) so_far faults = faulty a b d fault so_far faults
  stops a b d (stop.Refused number why) so_far faults = absurd faults
  stops a b d stop.ReadFault so_far faults = tt
  stops a b d stop.NoMemory so_far faults = tt

  -- ---- the end

  ends : (bytes left : List ℕ) (finding : Finding) → bytes ≡ [] → left ≡ [] → IsTrue (may_end (expected command items))
      → Concludes command items finding → FindsAtEnd command items bytes finding left
  ends bytes left finding none none_left may concludes =
      record {
        done = done_at_end (expected command items) bytes left none none_left;
        may = may;
        concludes = concludes;
      }

  in_some : (finding : Finding) → MayComeAll command [] items → FindsAfter command items [] finding [] →
      FindsInSome command finding
  in_some finding each finds = (
    records items,
    [],
    record { items = items; rest = []; each = each; read = sym (append-nil (records items)); finds = finds },
  )

  may_write : (bytes rest left text : List ℕ) → MayComeAll command [] items → bytes ≡ records items ++ rest
      → FindsAtEnd command items rest no_fault left → Writes command items text → MayWrite command bytes text left
  may_write bytes rest left text each read at_end writes = record {
    found = record { items = items; rest = rest; each = each; read = read; finds = at_end };
    writes = writes;
  }

  pub writes : (a b d : Option (List ℕ)) (text : List ℕ) → HasRead command a b items at → WasAtEnd b d
      → IsTrue (may_end (expected command items)) → Concludes command items no_fault → Writes command items text
      → MayWriteIn command a d text
  writes None b d text so_far ended may concludes writes_it = (
    records items,
    [],
    may_write (records items) [] [] text so_far.each (sym (append-nil (records items)))
        (ends [] [] no_fault refl refl may concludes) writes_it,
  )
  writes (Some bytes) None d text so_far ended may concludes writes_it =
      absurd (let n : Some so_far.took.0 ≡ None = sym so_far.took.2 in cc)
  writes (Some bytes) (Some rest) d text so_far ended may concludes writes_it =
      let same : rest ≡ so_far.took.0 = cc in (
        [],
        may_write bytes rest [] text so_far.each
            (so_far.took.1 ∙ ap (λ (r : List ℕ). records items ++ r) (sym same))
            (ends rest [] no_fault ended.0 refl may concludes) writes_it,
        ended.1,
      )

  refuses : (a b d : Option (List ℕ)) (number : ℕ) (why : Invalid) → HasRead command a b items at → WasAtEnd b d
      → IsTrue (may_end (expected command items)) → Concludes command items (refused number why)
      → FindsIn command a d (refused number why)
  refuses None b d number why so_far ended may concludes =
      in_some (refused number why) so_far.each (inl (ends [] [] (refused number why) refl refl may concludes))
  refuses (Some bytes) None d number why so_far ended may concludes =
      absurd (let n : Some so_far.took.0 ≡ None = sym so_far.took.2 in cc)
  refuses (Some bytes) (Some rest) d number why so_far ended may concludes =
      finds_here bytes rest (refused number why) [] d so_far
      (inl (ends rest [] (refused number why) ended.0 refl may concludes)) ended.1

  pub concludes : (a b d : Option (List ℕ)) (r : Result (List ℕ) Stop) → HasRead command a b items at → WasAtEnd b d
      → IsTrue (may_end (expected command items)) → ConcludesAs command items r → Found command a d r
  concludes a b d (Ok text) so_far ended may finds = writes a b d text so_far ended may finds.0 finds.1
  concludes a b d (Err (stop.Refused number why)) so_far ended may finds =
      refuses a b d number why so_far ended may finds
  concludes a b d (Err (stop.Malformed fault)) so_far ended may finds = absurd finds
  concludes a b d (Err stop.ReadFault) so_far ended may finds = tt
  concludes a b d (Err stop.NoMemory) so_far ended may finds = tt
