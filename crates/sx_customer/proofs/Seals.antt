-- What a seal and a demonstration may write, in plain words.
use Rattle.std.proofs.Common.{◌≡◌, ℕ, ◌+◌, ◌<◌, ◌≤◌, List, [], ◌∷◌, ◌++◌, Result, Ok, Err, length, ◌==◌, inl, inr, refl}
use Rattle.std.proofs.Common.{sym, ap, subst, ◌∙◌, arith}
use Rattle.std.specs.Prelude.{nat_lt}
use Rattle.std.proofs.lemmas.Bool.{cases_Bool, eqb-true}
use Rattle.std.proofs.lemmas.List.{append-nil}
use Rattle.sx_block.specs.declared.header.Block.{Block}
use Rattle.sx_block.specs.declared.invalid.Invalid.{Invalid}
use Rattle.sx_customer.specs.Demonstrated.{Demonstrated}
use Rattle.sx_customer.specs.Made.{IsMade}
use Rattle.sx_customer.specs.Sealed.{Gathered, HasNoRoom, LacksRoom, Sealed, valid_line}
use Rattle.sx_customer.proofs.Settled.{circulation, fair, plain_circulation}
use Rattle.sx_gen.specs.State.{demo_parts}
use Rattle.sx_ledger.specs.declared.parts.Parts.{Parts}
use Rattle.sx_ledger.specs.Body.{created, made as made_by_all, spendable}
use Rattle.sx_ledger.specs.Effects.{debits}
use Rattle.sx_ledger.specs.Ledger.{most_accounts, most_height, most_offers}
use Rattle.sx_meaning.specs.Findings.{Finds, FindsAtEnd, MayComeAll, as_invalid, no_fault, refused}
use Rattle.sx_meaning.specs.Items.{Item, block, candidates, item_record, records, state}
use Rattle.sx_meaning.specs.Outputs.{MayWrite, Writes}
use Rattle.sx_meaning.specs.SealLaws.{DemosSettle, LeavesItsMeaning, SealsLeaveTheirMeaning}
use Rattle.sx_meaning.specs.Sealing.{IsMadeOf, IsSealed}
use Rattle.sx_meaning.specs.Settling.{ValidSettles}
use Rattle.sx_meaning.proofs.Ends.{reads_to_end}
use Rattle.sx_outcome.specs.declared.outcome.Outcome.{Outcome}
use Rattle.sx_outcome.specs.declared.space.NoRoom.{NoRoom}
use Rattle.sx_outcome.specs.declared.space.NoRoom.TheVariants.{Crowded, Ended}
use Rattle.sx_outcome.specs.Room.{room_for}
use Rattle.sx_tx.specs.declared.tx.Tx.{Tx}
use Rattle.sx_words.specs.declared.command.Command.TheVariants.{Check, Demo, Seal}

-- two records are one after the other
pub two : (one other : Item) → records (one ∷ other ∷ []) ≡ item_record one ++ item_record other
two one other = ap (λ (t : List ℕ). item_record one ++ t) (append-nil (item_record other))

-- ---- from the law of seals

of_meaning : (mu rounds searches : ℕ) (bytes text : List ℕ) → LeavesItsMeaning mu rounds searches bytes text
    → Sealed mu rounds searches bytes text
of_meaning mu rounds searches bytes text m = record {
  parts = m.parts;
  txs = m.txs;
  said = m.said;
  told = m.told;
  read = m.read ∙ two (state m.parts) (candidates m.txs);
  written = m.encoded;
  one_each = m.one_each;
  accepted = m.accepted_are;
  checks = subst (λ (b : List ℕ). MayWrite Check b (valid_line m.said) []) (two (state m.parts) (block m.said))
      m.checks;
  replays = m.replays;
  covered = λ account asset.
      subst (λ (v : ℕ). debits m.said.txs account asset ≤ spendable v m.parts m.said.txs account asset) m.version
      (m.settles.covered account asset);
  fair = fair m.parts m.said m.settles;
  version = m.version;
  margin = m.margin;
  prices = m.prices;
}

pub sealed : SealsLeaveTheirMeaning → (workers shards mu rounds searches : ℕ) (bytes text left : List ℕ)
    → MayWrite (Seal workers shards mu rounds searches) bytes text left → Sealed mu rounds searches bytes text
sealed law workers shards mu rounds searches bytes text left may =
    of_meaning mu rounds searches bytes text (law workers shards mu rounds searches bytes text left may)

-- ---- from what a seal may write

made : (parts : Parts) (txs : List Tx) (mu rounds searches : ℕ) (said : Block) (told : List Outcome)
    → IsMadeOf parts txs mu rounds searches said told → IsMade parts txs mu rounds searches said told
made parts txs mu rounds searches said told m = record {
  one_each = m.gathered.one_each;
  by_rule = m.gathered.shows;
  accepted = m.gathered.accepted_are;
  once = m.gathered.once;
  cancels_once = m.gathered.admissible.cancels_once;
  creates_once = m.gathered.admissible.creates_once;
  covered = m.gathered.admissible.covered;
  rules = m.cleared.valid.rules;
  dropped = λ is value c. m.cleared.dropped.0 is value (circulation _ _ _ value c);
  kept = λ none. m.cleared.dropped.1 (λ value c. none value (plain_circulation _ _ _ value c));
  greatest = λ value c. m.cleared.greatest.greatest value (circulation _ _ _ value c);
  version = m.cleared.version;
  margin = m.cleared.margin;
  prices = m.cleared.prices;
}

pub gathered : ValidSettles → (workers shards mu rounds searches : ℕ) (bytes text left : List ℕ)
    → MayWrite (Seal workers shards mu rounds searches) bytes text left → Gathered mu rounds searches bytes text
gathered settles workers shards mu rounds searches bytes text left may =
    let found = may.found in
    let end : FindsAtEnd (Seal workers shards mu rounds searches) found.items found.rest no_fault left = found.finds in
    let c = end.concludes in
    let each = subst (λ (l : List Item). MayComeAll (Seal workers shards mu rounds searches) [] l) c.are found.each in
    let wrote : IsSealed c.parts c.txs mu rounds searches text =
    subst (λ (l : List Item). Writes (Seal workers shards mu rounds searches) l text) c.are may.writes in
    record {
      parts = c.parts;
      txs = c.txs;
      said = wrote.said;
      told = wrote.told;
      read = found.read ∙ ap (λ (r : List ℕ). records found.items ++ r)
          (reads_to_end (Seal workers shards mu rounds searches) found.items found.rest left refl end.done).0
          ∙ append-nil (records found.items) ∙ ap (λ (l : List Item). records l) c.are
          ∙ two (state c.parts) (candidates c.txs);
      written = wrote.encoded;
      ledger = each.0.form;
      room = c.finds;
      made = made c.parts c.txs mu rounds searches wrote.said wrote.told wrote.made;
      fair = fair c.parts wrote.said (settles c.parts wrote.said each.0.form wrote.made.cleared.valid);
    }

-- ---- a demonstration

pub demonstrated : DemosSettle → (number workers : ℕ) (bytes text left : List ℕ)
    → MayWrite (Demo number workers) bytes text left → Demonstrated number text
demonstrated law number workers bytes text left may =
    let d = law number workers bytes text left may in
    record {
      said = d.0.said;
      told = d.0.told;
      written = d.0.summed;
      made = made demo_parts _ _ _ _ d.0.said d.0.told d.0.made;
      fair = fair demo_parts d.0.said d.1;
    }

-- ---- no room

abbrev reason_of : Result (Unit {0}) NoRoom → NoRoom
reason_of (Ok there) = Ended
reason_of (Err why) = why

abbrev failed : NoRoom → Result (Unit {0}) NoRoom
failed why = Err why

same_Err : (one other : NoRoom) → failed one ≡ failed other → one ≡ other
same_Err one other is = ap (λ (r : Result (Unit {0}) NoRoom). reason_of r) is

lacking : (parts : Parts) (txs : List Tx) (reason : NoRoom) → room_for parts txs ≡ Err reason
    → LacksRoom parts txs (as_invalid reason)
lacking parts txs reason is =
    let room = λ (one : NoRoom). LacksRoom parts txs (as_invalid one) in
    let accounts = length parts.accounts + length (created txs) in
    let offers = length parts.offers + length (made_by_all txs) in
    elim (cases_Bool (parts.height == most_height)) [
      | inl last ↦
          subst room (same_Err Ended reason (rw last at is)) (inl (refl, eqb-true parts.height most_height last))
      | inr more ↦ elim (cases_Bool (nat_lt most_accounts accounts)) [
        | inl above ↦
            subst room (same_Err (Crowded (length parts.accounts) (length (created txs)) most_accounts) reason
            (rw above at (rw more at is))) (inr (inl (refl, (let big : most_accounts < accounts = grind arith in big))))
        | inr fit ↦ elim (cases_Bool (nat_lt most_offers offers)) [
          | inl above ↦
              subst room (same_Err (Crowded (length parts.offers) (length (made_by_all txs)) most_offers) reason
              (rw above at (rw fit at (rw more at is))))
              (inr (inr (refl, (let big : most_offers < offers = grind arith in big))))
          | inr all ↦
              absurd (let none = rw all at (rw fit at (rw more at is)) in cc)
        ]
      ]
    ]

pub seal_refused : (workers shards mu rounds searches : ℕ) (bytes left : List ℕ) (number : ℕ) (why : Invalid)
    → Finds (Seal workers shards mu rounds searches) bytes (refused number why) left → HasNoRoom bytes number why
seal_refused workers shards mu rounds searches bytes left number why f =
    elim f.finds [
      | inl end ↦
          let c = end.concludes in
          record {
            parts = c.parts;
            txs = c.txs;
            read = f.read
                ∙ ap (λ (r : List ℕ). records f.items ++ r)
                (reads_to_end (Seal workers shards mu rounds searches) f.items f.rest left refl end.done).0
                ∙ append-nil (records f.items) ∙ ap (λ (l : List Item). records l) c.are
                ∙ two (state c.parts) (candidates c.txs);
            first = c.finds.0;
            lacks = subst (λ (w : Invalid). LacksRoom c.parts c.txs w) (sym c.finds.1.2)
                (lacking c.parts c.txs c.finds.1.0 c.finds.1.1);
          }
      | inr stop ↦ absurd stop.stops
    ]
