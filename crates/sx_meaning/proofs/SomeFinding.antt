-- Something is found of every input, for every command.
use Rattle.std.proofs.Common.{◌≡◌, ℕ, zero, suc, ◌<◌, List, [], ◌∷◌, ◌++◌, length}
use Rattle.std.proofs.Common.{Option, Some, None, Result, Ok, Err, inl, inr, refl, sym, ap, subst, ◌∙◌, append_assoc}
use Rattle.std.proofs.Common.{arith}
use Rattle.std.proofs.lemmas.List.{length-append}
use Rattle.std.specs.Prelude.{IsTrue, ◌⊎◌}
use Rattle.sx_block.specs.declared.header.Block.{Block}
use Rattle.sx_block.specs.Block.{IsBlock}
use Rattle.sx_bytes.specs.declared.fault.FormFault.{FormFault}
use Rattle.sx_bytes.specs.Field.{AreBytes}
use Rattle.sx_block.specs.declared.invalid.Invalid.{Invalid}
use Rattle.sx_block.specs.RefusalLaws.{EveryBlockIsJudged}
use Rattle.sx_block.specs.Chain.{ledger_after_all}
use Rattle.sx_block.specs.EffectLaws.{BlockKeepsLedger}
use Rattle.sx_ledger.specs.declared.parts.Parts.{Parts}
use Rattle.sx_meaning.specs.Expected.{IsDoneWith, IsExpected, item_at, may_end}
use Rattle.sx_meaning.specs.Findings.{Finding, Finds, GoesOn, MayComeAll, StopsAt}
use Rattle.sx_meaning.specs.Findings.{expected, malformed, no_fault, refused}
use Rattle.sx_meaning.specs.Items.{IsItem, Item, block, candidates, item_record, outcomes, payload_of, proof, records}
use Rattle.sx_meaning.specs.Items.{script, state, tag_of}
use Rattle.sx_meaning.specs.Laws.{FindsSome}
use Rattle.sx_meaning.specs.Replays.{blocks_of}
use Rattle.sx_meaning.proofs.Chains.{chain_keeps_ledger, replays_chains, room_for_block}
use Rattle.sx_meaning.proofs.ItemLaws.{length-record}
use Rattle.sx_meaning.proofs.ItemLists.{come_then, records_then}
use Rattle.sx_meaning.proofs.KnownTags.{knows}
use Rattle.sx_meaning.proofs.SomeConclusion.{Concluded, some_conclusion}
use Rattle.sx_meaning.proofs.SomeItem.{IsThere, no_item, some_item}
use Rattle.sx_record.specs.Tags.{block_tag}
use Rattle.sx_words.specs.declared.command.Command.{Command}
use Rattle.sx_words.specs.declared.command.Command.TheVariants.{Check, Demo, Filter, Follow, Interleave, Migrate, Prove}
use Rattle.sx_words.specs.declared.command.Command.TheVariants.{Replay, Seal, Show, Verify}

module _ (judged : EveryBlockIsJudged) where
  -- ---- after an item

  -- a command goes on after an item, or stops at it
  abbrev GoesOnOrStops : Command → List Item → Item → Type 0
  GoesOnOrStops command items item =
      GoesOn command items item
      ⊎ ((said : Block) × (number : ℕ) × (why : Invalid) × (item ≡ block said) × StopsAt command items said number why)

  module _ (keeps : BlockKeepsLedger) where
    judged_next : (workers : ℕ) (parts : Parts) (others : List Item) (said : Block)
        → MayComeAll (Replay workers) [] (state parts ∷ others)
        → IsExpected (expected (Replay workers) (state parts ∷ others)) block_tag → IsBlock said
        → GoesOnOrStops (Replay workers) (state parts ∷ others) (block said)
    judged_next workers parts others said each may form =
        let chain = replays_chains workers parts others each in
        let ledger = chain_keeps_ledger keeps parts (blocks_of others) chain.ledger chain.valid in
        elim (judged (ledger_after_all parts (blocks_of others)) said ledger form) [
          | inl valid ↦ inl valid
          | inr refusal ↦ inr (
            said,
            length (blocks_of others),
            refusal.why,
            refl,
            record {
              parts = parts;
              others = others;
              are = refl;
              is_number = refl;
              few = room_for_block (length (blocks_of others)) may.1;
              refuses = refusal.refuses;
            },
          )
        ]

    goes_or_stops : (command : Command) (items : List Item) (item : Item) → MayComeAll command [] items
        → IsExpected (expected command items) (tag_of item) → IsItem item → GoesOnOrStops command items item
    goes_or_stops Check items item each may form = inl tt
    goes_or_stops Interleave items item each may form = inl tt
    goes_or_stops (Seal workers shards mu rounds searches) items item each may form = inl tt
    goes_or_stops Show items item each may form = inl tt
    goes_or_stops Migrate items item each may form = inl tt
    goes_or_stops (Filter workers) items item each may form = inl tt
    goes_or_stops (Prove id) items item each may form = inl tt
    goes_or_stops Verify items item each may form = inl tt
    goes_or_stops Follow items item each may form = inl tt
    goes_or_stops (Demo seed workers) items item each may form = inl tt
    goes_or_stops (Replay workers) [] item each may form = inl tt
    goes_or_stops (Replay workers) (state parts ∷ others) (state held) each may form = inl tt
    goes_or_stops (Replay workers) (state parts ∷ others) (candidates txs) each may form = inl tt
    goes_or_stops (Replay workers) (state parts ∷ others) (block said) each may form =
        judged_next workers parts others said each may form
    goes_or_stops (Replay workers) (state parts ∷ others) (outcomes told) each may form = inl tt
    goes_or_stops (Replay workers) (state parts ∷ others) (script turns) each may form = inl tt
    goes_or_stops (Replay workers) (state parts ∷ others) (proof claim) each may form = inl tt
    goes_or_stops (Replay workers) (candidates txs ∷ others) item each may form = inl tt
    goes_or_stops (Replay workers) (block said ∷ others) item each may form = inl tt
    goes_or_stops (Replay workers) (outcomes told ∷ others) item each may form = inl tt
    goes_or_stops (Replay workers) (script turns ∷ others) item each may form = inl tt
    goes_or_stops (Replay workers) (proof claim ∷ others) item each may form = inl tt

    -- ---- the whole input

    -- something is found of an input
    abbrev SomeFinding : Command → List ℕ → Type 0
    SomeFinding command whole = (finding : Finding) × (left : List ℕ) × Finds command whole finding left

    module _ (command : Command) (items : List Item) (whole : List ℕ) (each : MayComeAll command [] items) where
      at_the_end : (bytes left : List ℕ) → whole ≡ records items ++ bytes
          → IsDoneWith (expected command items) bytes left → IsTrue (may_end (expected command items))
          → Concluded command items → SomeFinding command whole
      at_the_end bytes left read done may (inl finds) = (
        no_fault,
        left,
        record {
          items = items;
          rest = bytes;
          each = each;
          read = read;
          finds = record { done = done; may = may; concludes = finds };
        },
      )
      at_the_end bytes left read done may (inr (number, why, finds)) = (
        refused number why,
        left,
        record {
          items = items;
          rest = bytes;
          each = each;
          read = read;
          finds = inl (record { done = done; may = may; concludes = finds });
        },
      )

      at_a_fault : (bytes left : List ℕ) (fault : FormFault) → whole ≡ records items ++ bytes
          → item_at (expected command items) (length (records items)) bytes ≡ (Err fault, left)
          → SomeFinding command whole
      at_a_fault bytes left fault read faulty =
          (malformed fault, left, record { items = items; rest = bytes; each = each; read = read; finds = faulty })

      at_a_block : (bytes left : List ℕ) (said : Block) (number : ℕ) (why : Invalid) → whole ≡ records items ++ bytes
          → bytes ≡ item_record (block said) ++ left → IsBlock said → StopsAt command items said number why
          → SomeFinding command whole
      at_a_block bytes left said number why read here form stops = (
        refused number why,
        left,
        record {
          items = items;
          rest = bytes;
          each = each;
          read = read;
          finds = inr (record { said = said; form = form; read = here; stops = stops });
        },
      )

    shorter : (item : Item) (bytes left : List ℕ) (fuel : ℕ) → bytes ≡ item_record item ++ left
        → length bytes < suc fuel
        → length left < fuel
    shorter item bytes left fuel read short =
        let long = ap length read in
        omega (arith, long, length-append (item_record item) left, length-record (tag_of item) (payload_of item))

    -- after these items, whose record is found next, or the first fault, or the end
    abbrev FromHere : ℕ → Command → List ℕ → Type 0
    FromHere fuel command whole = (items : List Item) (bytes : List ℕ) → AreBytes bytes → length bytes < fuel →
        MayComeAll command [] items → whole ≡ records items ++ bytes → SomeFinding command whole

    module _ (fuel : ℕ) (command : Command) (whole : List ℕ)
        (further : FromHere fuel command whole) (items : List Item) (bytes : List ℕ) (are : AreBytes bytes)
        (short : length bytes < suc fuel) (each : MayComeAll command [] items)
        (read : whole ≡ records items ++ bytes) where
      after_item : (item : Item) (left : List ℕ) → IsThere (expected command items) bytes left item
          → GoesOnOrStops command items item → SomeFinding command whole
      after_item item left there (inl goes) =
          further (items ++ item ∷ []) left there.rest_are (shorter item bytes left fuel there.read short)
          (come_then command [] items item each
          (record { listed = there.may; form = there.form; goes_on = goes }))
          (read ∙ ap (λ (b : List ℕ). records items ++ b) there.read
          ∙ sym (append_assoc (records items) (item_record item) left)
          ∙ ap (λ (t : List ℕ). t ++ left) (sym (records_then items item)))
      after_item item left there (inr stops) =
          at_a_block command items whole each bytes left stops.0 stops.1 stops.2 read
          (there.read ∙ ap (λ (i : Item). item_record i ++ left) stops.3)
          (subst IsItem stops.3 there.form) stops.4

      decoded : (p : Result (Option Item) FormFault × List ℕ)
          → item_at (expected command items) (length (records items)) bytes ≡ p → SomeFinding command whole
      decoded (Err fault, left) e = at_a_fault command items whole each bytes left fault read e
      decoded (Ok None, left) e =
          let none = no_item (expected command items) (length (records items)) bytes left (knows command items) e in
          at_the_end command items whole each bytes left read none.0 none.1 (some_conclusion judged command items each none.1)
      decoded (Ok (Some item), left) e =
          let there = some_item (expected command items) (length (records items)) bytes left item
          (knows command items) are e in
          after_item item left there (goes_or_stops command items item each there.may there.form)

    from_here : (fuel : ℕ) (command : Command) (whole : List ℕ) → FromHere fuel command whole
    from_here zero command whole items bytes are short each read = absurd (omega arith)
    from_here (suc fuel) command whole items bytes are short each read =
        decoded fuel command whole (from_here fuel command whole) items bytes are short each read
        (item_at (expected command items) (length (records items)) bytes) refl

    pub finds_some : FindsSome
    finds_some command bytes are =
        from_here (suc (length bytes)) command bytes [] bytes are (omega arith) tt refl
