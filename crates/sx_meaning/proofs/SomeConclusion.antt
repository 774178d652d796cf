-- Something is found at the end of each input that may end, for every command.
use Rattle.std.proofs.Common.{◌≡◌, ℕ, List, [], ◌∷◌, Result, Ok, Err, inl, inr, refl, ap, subst, ◌∙◌}
use Rattle.std.specs.Prelude.{IsTrue, ◌⊎◌}
use Rattle.sx_block.specs.declared.header.Block.{Block}
use Rattle.sx_block.specs.Block.{IsBlock}
use Rattle.sx_block.specs.declared.invalid.Invalid.{Invalid}
use Rattle.sx_block.specs.RefusalLaws.{EveryBlockIsJudged}
use Rattle.sx_commit.specs.Claim.{Claim}
use Rattle.sx_outcome.specs.declared.script.Script.{Script}
use Rattle.sx_outcome.specs.declared.space.NoRoom.{NoRoom}
use Rattle.sx_outcome.specs.Room.{room_for}
use Rattle.sx_ledger.specs.declared.parts.Parts.{Parts}
use Rattle.sx_ledger.specs.Ledger.{IsLedger}
use Rattle.sx_meaning.specs.Expected.{Expected, IsExpected, may_end}
use Rattle.sx_meaning.specs.Findings.{Concludes, Finding, FindsRoom, MayCome, MayComeAll, TakesCandidates, as_invalid}
use Rattle.sx_meaning.specs.Findings.{expected, in_turn, no_fault, refused}
use Rattle.sx_meaning.specs.Items.{IsItem, Item, block, candidates, proof, script, state, tag_of}
use Rattle.sx_meaning.specs.Replays.{expected_in_replay}
use Rattle.sx_meaning.proofs.KnownTags.{a_block, a_proof, a_script, a_state, are_candidates, only_tag}
use Rattle.sx_record.specs.Tags.{block_tag, candidates_tag, proof_tag, script_tag, state_tag}
use Rattle.sx_tx.specs.declared.tx.Tx.{Tx}
use Rattle.sx_words.specs.declared.command.Command.{Command}
use Rattle.sx_words.specs.declared.command.Command.TheVariants.{Check, Demo, Filter, Follow, Interleave, Migrate, Prove}
use Rattle.sx_words.specs.declared.command.Command.TheVariants.{Replay, Seal, Show, Verify}

-- something is found of all items: no fault, or a refusal
abbrev SomeOf : (Finding → Type 0) → Type 0
SomeOf finds = finds no_fault ⊎ ((number : ℕ) × (why : Invalid) × finds (refused number why))

abbrev pub Concluded : Command → List Item → Type 0
Concluded command items = SomeOf (Concludes command items)

-- ---- the items of an input that may end

-- a command that takes records of these tags in turn
module _ (command : Command) (tags : List ℕ) (takes : expected command ≡ in_turn tags) where
  listed : (before : List Item) (item : Item) → MayCome command before item
      → IsExpected (in_turn tags before) (tag_of item)
  listed before item may = subst (λ (e : List Item → Expected). IsExpected (e before) (tag_of item)) takes may.listed

  ended : (items : List Item) → IsTrue (may_end (expected command items)) → IsTrue (may_end (in_turn tags items))
  ended items may = subst (λ (e : List Item → Expected). IsTrue (may_end (e items))) takes may

check_items : (items : List Item) → MayComeAll Check [] items → IsTrue (may_end (expected Check items))
    → (parts : Parts) × (said : Block) × (items ≡ state parts ∷ block said ∷ []) × IsLedger parts × IsBlock said
check_items [] each may = absurd cc
check_items (one ∷ []) each may = absurd cc
check_items (one ∷ other ∷ []) each may =
    let s = a_state one (only_tag state_tag (tag_of one) each.0.listed.0) in
    let b = a_block other (only_tag block_tag (tag_of other) each.1.0.listed.0) in
    let are = ap (λ (i : Item). i ∷ other ∷ []) s.1 ∙ ap (λ (i : Item). state s.0 ∷ i ∷ []) b.1 in
    (s.0, b.0, are, subst IsItem s.1 each.0.form, subst IsItem b.1 each.1.0.form)
check_items (one ∷ other ∷ third ∷ more) each may = absurd each.1.1.0.listed

interleave_items : (items : List Item) → MayComeAll Interleave [] items
    → IsTrue (may_end (expected Interleave items))
    → (parts : Parts) × (txs : List Tx) × (turns : Script) × (items ≡ state parts ∷ candidates txs ∷ script turns ∷ [])
interleave_items [] each may = absurd cc
interleave_items (one ∷ []) each may = absurd cc
interleave_items (one ∷ other ∷ []) each may = absurd cc
interleave_items (one ∷ other ∷ third ∷ []) each may =
    let s = a_state one (only_tag state_tag (tag_of one) each.0.listed.0) in
    let c = are_candidates other (only_tag candidates_tag (tag_of other) each.1.0.listed.0) in
    let t = a_script third (only_tag script_tag (tag_of third) each.1.1.0.listed.0) in
    let are = ap (λ (i : Item). i ∷ other ∷ third ∷ []) s.1 ∙ ap (λ (i : Item). state s.0 ∷ i ∷ third ∷ []) c.1
    ∙ ap (λ (i : Item). state s.0 ∷ candidates c.0 ∷ i ∷ []) t.1 in
    (s.0, c.0, t.0, are)
interleave_items (one ∷ other ∷ third ∷ fourth ∷ more) each may = absurd each.1.1.1.0.listed

-- a state and candidates
module _ (command : Command) (takes : expected command ≡ in_turn (state_tag ∷ candidates_tag ∷ [])) where
  candidates_items : (items : List Item) → MayComeAll command [] items → IsTrue (may_end (expected command items))
      → (parts : Parts) × (txs : List Tx) × (items ≡ state parts ∷ candidates txs ∷ [])
  candidates_items [] each may = absurd (let no = ended command (state_tag ∷ candidates_tag ∷ []) takes [] may in cc)
  candidates_items (one ∷ []) each may =
      absurd (let no = ended command (state_tag ∷ candidates_tag ∷ []) takes (one ∷ []) may in cc)
  candidates_items (one ∷ other ∷ []) each may =
      let first = listed command (state_tag ∷ candidates_tag ∷ []) takes [] one each.0 in
      let second = listed command (state_tag ∷ candidates_tag ∷ []) takes (one ∷ []) other each.1.0 in
      let s = a_state one (only_tag state_tag (tag_of one) first.0) in
      let c = are_candidates other (only_tag candidates_tag (tag_of other) second.0) in
      let are = ap (λ (i : Item). i ∷ other ∷ []) s.1 ∙ ap (λ (i : Item). state s.0 ∷ i ∷ []) c.1 in
      (s.0, c.0, are)
  candidates_items (one ∷ other ∷ third ∷ more) each may =
      absurd (listed command (state_tag ∷ candidates_tag ∷ []) takes (one ∷ other ∷ []) third each.1.1.0)

-- one record of this tag
module _ (command : Command) (tag : ℕ) (takes : expected command ≡ in_turn (tag ∷ [])) where
  one_item : (items : List Item) → MayComeAll command [] items → IsTrue (may_end (expected command items))
      → (item : Item) × (items ≡ item ∷ []) × (tag_of item ≡ tag)
  one_item [] each may = absurd (let no = ended command (tag ∷ []) takes [] may in cc)
  one_item (one ∷ []) each may =
      (one, refl, only_tag tag (tag_of one) (listed command (tag ∷ []) takes [] one each.0).0)
  one_item (one ∷ other ∷ more) each may = absurd (listed command (tag ∷ []) takes (one ∷ []) other each.1.0)

show_items : (items : List Item) → MayComeAll Show [] items → IsTrue (may_end (expected Show items))
    → (item : Item) × (items ≡ item ∷ [])
show_items [] each may = absurd cc
show_items (one ∷ []) each may = (one, refl)
show_items (one ∷ other ∷ more) each may = absurd each.1.0.listed

demo_items : (number workers : ℕ) (items : List Item) → MayComeAll (Demo number workers) [] items → items ≡ []
demo_items number workers [] each = refl
demo_items number workers (one ∷ more) each = absurd each.0.listed

-- a state and blocks
module _ (command : Command) (takes : expected command ≡ expected_in_replay) where
  blocks_items : (items : List Item) → MayComeAll command [] items → IsTrue (may_end (expected command items))
      → (parts : Parts) × (others : List Item) × (items ≡ state parts ∷ others)
  blocks_items [] each may =
      absurd (let no = subst (λ (e : List Item → Expected). IsTrue (may_end (e []))) takes may in cc)
  blocks_items (one ∷ others) each may =
      let first = subst (λ (e : List Item → Expected). IsExpected (e []) (tag_of one)) takes each.0.listed in
      let s = a_state one (only_tag state_tag (tag_of one) first.0) in
      (s.0, others, ap (λ (i : Item). i ∷ others) s.1)

-- ---- what is found of them

-- there is room for candidates, or this is why there is none
in_room : (parts : Parts) (txs : List Tx) (r : Result (Unit {0}) NoRoom) → room_for parts txs ≡ r
    → SomeOf (FindsRoom parts txs)
in_room parts txs (Ok tt) e = inl e
in_room parts txs (Err why) e = inr (0, as_invalid why, (refl, (why, e, refl)))

room_found : (parts : Parts) (txs : List Tx) → SomeOf (FindsRoom parts txs)
room_found parts txs = in_room parts txs (room_for parts txs) refl

some_interleave : (items : List Item) → MayComeAll Interleave [] items
    → IsTrue (may_end (expected Interleave items)) → Concluded Interleave items
some_interleave items each may =
    let is = interleave_items items each may in
    elim (room_found is.0 is.1) [
      | inl room ↦ inl (record { parts = is.0; txs = is.1; turns = is.2; are = is.3; finds = room })
      | inr none ↦ inr (
        none.0,
        none.1,
        record { parts = is.0; txs = is.1; turns = is.2; are = is.3; finds = none.2 },
      )
    ]

some_of_candidates : (command : Command) → expected command ≡ in_turn (state_tag ∷ candidates_tag ∷ [])
    → (items : List Item) → MayComeAll command [] items → IsTrue (may_end (expected command items))
    → SomeOf (TakesCandidates items)
some_of_candidates command takes items each may =
    let is = candidates_items command takes items each may in
    elim (room_found is.0 is.1) [
      | inl room ↦ inl (record { parts = is.0; txs = is.1; are = is.2; finds = room })
      | inr none ↦ inr (none.0, none.1, record { parts = is.0; txs = is.1; are = is.2; finds = none.2 })
    ]

some_of_state : (command : Command) → expected command ≡ in_turn (state_tag ∷ []) → (items : List Item)
    → MayComeAll command [] items → IsTrue (may_end (expected command items))
    → (parts : Parts) × (items ≡ state parts ∷ [])
some_of_state command takes items each may =
    let is = one_item command state_tag takes items each may in
    let s = a_state is.0 is.2 in
    (s.0, is.1 ∙ ap (λ (i : Item). i ∷ []) s.1)

some_verify : (items : List Item) → MayComeAll Verify [] items → IsTrue (may_end (expected Verify items))
    → Concluded Verify items
some_verify items each may =
    let is = one_item Verify proof_tag refl items each may in
    let p = a_proof is.0 is.2 in
    inl (record { claim = p.0; are = is.1 ∙ ap (λ (i : Item). i ∷ []) p.1; finds = refl })

module _ (judged : EveryBlockIsJudged) where
  some_check : (items : List Item) → MayComeAll Check [] items → IsTrue (may_end (expected Check items))
      → Concluded Check items
  some_check items each may =
      let is = check_items items each may in
      elim (judged is.0 is.1 is.3 is.4) [
        | inl valid ↦ inl (record { parts = is.0; said = is.1; are = is.2; finds = valid })
        | inr refusal ↦ inr (
          0,
          refusal.why,
          record {
            parts = is.0;
            said = is.1;
            are = is.2;
            finds = (refl, refusal.refuses);
          },
        )
      ]

  pub some_conclusion : (command : Command) (items : List Item) → MayComeAll command [] items
      → IsTrue (may_end (expected command items)) → Concluded command items
  some_conclusion Check items each may = some_check items each may
  some_conclusion (Replay workers) items each may =
      let is = blocks_items (Replay workers) refl items each may in
      inl (record { parts = is.0; others = is.1; are = is.2; finds = refl })
  some_conclusion Interleave items each may = some_interleave items each may
  some_conclusion (Seal workers shards mu rounds searches) items each may =
      some_of_candidates (Seal workers shards mu rounds searches) refl items each may
  some_conclusion Show items each may =
      let is = show_items items each may in inl (record { item = is.0; are = is.1; finds = refl })
  some_conclusion Migrate items each may =
      let is = some_of_state Migrate refl items each may in inl (record { parts = is.0; are = is.1; finds = refl })
  some_conclusion (Filter workers) items each may = some_of_candidates (Filter workers) refl items each may
  some_conclusion (Prove id) items each may =
      let is = some_of_state (Prove id) refl items each may in inl (record { parts = is.0; are = is.1; finds = refl })
  some_conclusion Verify items each may = some_verify items each may
  some_conclusion Follow items each may =
      let is = blocks_items Follow refl items each may in
      inl (record { parts = is.0; others = is.1; are = is.2; finds = refl })
  some_conclusion (Demo number workers) items each may =
      inl (record { are = demo_items number workers items each; finds = refl })
