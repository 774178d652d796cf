-- What each command finds of its records is one thing.
use Rattle.std.proofs.Common.{◌≡◌, ℕ, List, [], ◌∷◌, length, Ok, Err, refl, sym, ap, subst, ◌∙◌}
use Rattle.sx_block.specs.declared.header.Block.{Block}
use Rattle.sx_block.specs.declared.invalid.Invalid.{Invalid}
use Rattle.sx_block.specs.RefusalLaws.{OneReason, ValidIsNotRefused}
use Rattle.sx_block.specs.Refusals.{Refuses}
use Rattle.sx_block.specs.Chain.{ledger_after_all}
use Rattle.sx_outcome.specs.declared.script.Script.{Script}
use Rattle.sx_outcome.specs.declared.space.NoRoom.{NoRoom}
use Rattle.sx_outcome.specs.Room.{room_for}
use Rattle.sx_ledger.specs.declared.parts.Parts.{Parts}
use Rattle.sx_meaning.specs.Findings.{Checks, Concludes, Demonstrates, Finding, FindsInBlock, FindsRoom, Interleaves}
use Rattle.sx_meaning.specs.Findings.{RefusesNext, Shows, StopsAt, TakesBlocks, TakesCandidates, TakesState, Verifies}
use Rattle.sx_meaning.specs.Findings.{as_invalid, malformed, no_fault, refused}
use Rattle.sx_meaning.specs.Items.{Item, block, candidates, script, state}
use Rattle.sx_meaning.specs.Replays.{blocks_of}
use Rattle.sx_tx.specs.declared.tx.Tx.{Tx}
use Rattle.sx_words.specs.declared.command.Command.{Command}
use Rattle.sx_words.specs.declared.command.Command.TheVariants.{Check, Demo, Filter, Follow, Interleave, Migrate, Prove}
use Rattle.sx_words.specs.declared.command.Command.TheVariants.{Replay, Seal, Show, Verify}

-- ---- the items of an input

module _ (items : List Item) where
  one_block : (p q : Parts) (b d : Block) → items ≡ state p ∷ block b ∷ [] → items ≡ state q ∷ block d ∷ [] →
      ◌≡◌ {A = Parts × Block} (p, b) (q, d)
  one_block p q b d x y = let same = sym x ∙ y in cc

  one_gathering : (p q : Parts) (cs ds : List Tx) → items ≡ state p ∷ candidates cs ∷ []
      → items ≡ state q ∷ candidates ds ∷ [] → ◌≡◌ {A = Parts × List Tx} (p, cs) (q, ds)
  one_gathering p q cs ds x y = let same = sym x ∙ y in cc

  one_run : (p q : Parts) (cs ds : List Tx) (s t : Script) → items ≡ state p ∷ candidates cs ∷ script s ∷ []
      → items ≡ state q ∷ candidates ds ∷ script t ∷ [] → ◌≡◌ {A = Parts × List Tx × Script} (p, cs, s) (q, ds, t)
  one_run p q cs ds s t x y = let same = sym x ∙ y in cc

  one_chain : (p q : Parts) (more others : List Item) → items ≡ state p ∷ more → items ≡ state q ∷ others →
      ◌≡◌ {A = Parts × List Item} (p, more) (q, others)
  one_chain p q more others x y = let same = sym x ∙ y in cc

-- ---- check

module _ (one_reason : OneReason) (not_refused : ValidIsNotRefused) where
  one_in_block : (parts : Parts) (said : Block) (f g : Finding) → FindsInBlock parts said f
      → FindsInBlock parts said g →
      f ≡ g
  one_in_block parts said no_fault no_fault x y = refl
  one_in_block parts said no_fault (malformed fault) x y = absurd y
  one_in_block parts said no_fault (refused number why) x y = absurd (not_refused parts said why x y.1)
  one_in_block parts said (malformed fault) g x y = absurd x
  one_in_block parts said (refused number why) no_fault x y = absurd (not_refused parts said why y x.1)
  one_in_block parts said (refused number why) (malformed fault) x y = absurd y
  one_in_block parts said (refused number why) (refused other reason) x y =
      ap (λ (w : Invalid). refused number w) (one_reason parts said why reason x.1 y.1)
      ∙ ap (λ (n : ℕ). refused n reason) (x.0 ∙ sym y.0)

  one_check : (items : List Item) (f g : Finding) → Checks items f → Checks items g → f ≡ g
  one_check items f g x y =
      one_in_block y.parts y.said f g
      (subst (λ (p : Parts × Block). FindsInBlock p.0 p.1 f)
      (one_block items x.parts y.parts x.said y.said x.are y.are) x.finds) y.finds

  -- ---- a state and blocks

  one_of_blocks : (items : List Item) (f g : Finding) → TakesBlocks items f → TakesBlocks items g → f ≡ g
  one_of_blocks items f g x y = x.finds ∙ sym y.finds

  -- ---- candidates

  one_room : (parts : Parts) (txs : List Tx) (why : NoRoom) → room_for parts txs ≡ Ok tt
      → room_for parts txs ≡ Err why →
      ⊥
  one_room parts txs why room none = let both = sym room ∙ none in cc

  one_no_room : (parts : Parts) (txs : List Tx) (why other : NoRoom) → room_for parts txs ≡ Err why
      → room_for parts txs ≡ Err other → why ≡ other
  one_no_room parts txs why other none nor = let both = sym none ∙ nor in cc

  one_for_room : (parts : Parts) (txs : List Tx) (f g : Finding) → FindsRoom parts txs f → FindsRoom parts txs g
      → f ≡ g
  one_for_room parts txs no_fault no_fault x y = refl
  one_for_room parts txs no_fault (malformed fault) x y = absurd y
  one_for_room parts txs no_fault (refused number why) x y = absurd (one_room parts txs y.1.0 x y.1.1)
  one_for_room parts txs (malformed fault) g x y = absurd x
  one_for_room parts txs (refused number why) no_fault x y = absurd (one_room parts txs x.1.0 y x.1.1)
  one_for_room parts txs (refused number why) (malformed fault) x y = absurd y
  one_for_room parts txs (refused number why) (refused other reason) x y =
      ap (λ (w : Invalid). refused number w)
      (x.1.2 ∙ ap as_invalid (one_no_room parts txs x.1.0 y.1.0 x.1.1 y.1.1) ∙ sym y.1.2)
      ∙ ap (λ (n : ℕ). refused n reason) (x.0 ∙ sym y.0)

  one_of_candidates : (items : List Item) (f g : Finding) → TakesCandidates items f → TakesCandidates items g → f ≡ g
  one_of_candidates items f g x y =
      one_for_room y.parts y.txs f g
      (subst (λ (p : Parts × List Tx). FindsRoom p.0 p.1 f)
      (one_gathering items x.parts y.parts x.txs y.txs x.are y.are) x.finds) y.finds

  one_interleave : (items : List Item) (f g : Finding) → Interleaves items f → Interleaves items g → f ≡ g
  one_interleave items f g x y =
      one_for_room y.parts y.txs f g
      (subst (λ (p : Parts × List Tx × Script). FindsRoom p.0 p.1 f)
      (one_run items x.parts y.parts x.txs y.txs x.turns y.turns x.are y.are) x.finds) y.finds

  -- ---- a state alone

  one_of_state : (items : List Item) (f g : Finding) → TakesState items f → TakesState items g → f ≡ g
  one_of_state items f g x y = x.finds ∙ sym y.finds

  -- ---- verify, show and demo

  one_verdict : (items : List Item) (f g : Finding) → Verifies items f → Verifies items g → f ≡ g
  one_verdict items f g x y = x.finds ∙ sym y.finds

  one_show : (items : List Item) (f g : Finding) → Shows items f → Shows items g → f ≡ g
  one_show items f g x y = x.finds ∙ sym y.finds

  one_demo : (items : List Item) (f g : Finding) → Demonstrates items f → Demonstrates items g → f ≡ g
  one_demo items f g x y = x.finds ∙ sym y.finds

  -- ---- all commands

  pub one_conclusion : (command : Command) (items : List Item) (f g : Finding) → Concludes command items f
      → Concludes command items g → f ≡ g
  one_conclusion Check = one_check
  one_conclusion (Replay workers) = one_of_blocks
  one_conclusion Interleave = one_interleave
  one_conclusion (Seal workers shards mu rounds searches) = one_of_candidates
  one_conclusion Show = one_show
  one_conclusion Migrate = one_of_state
  one_conclusion (Filter workers) = one_of_candidates
  one_conclusion (Prove id) = one_of_state
  one_conclusion Verify = one_verdict
  one_conclusion Follow = one_of_blocks
  one_conclusion (Demo number workers) = one_demo

-- ---- a block at which a command stops

module _ (one_reason : OneReason) where
  one_refusal : (items : List Item) (said : Block) (number other : ℕ) (why reason : Invalid)
      → RefusesNext items said number why → RefusesNext items said other reason
      → refused number why ≡ refused other reason
  one_refusal items said number other why reason x y =
      let same = one_chain items x.parts y.parts x.others y.others x.are y.are in
      let refuses = subst (λ (p : Parts × List Item). Refuses (ledger_after_all p.0 (blocks_of p.1)) said why) same
      x.refuses in
      let count : number ≡ other =
      x.is_number ∙ ap (λ (p : Parts × List Item). length (blocks_of p.1)) same ∙ sym y.is_number in
      ap (λ (w : Invalid). refused number w)
      (one_reason (ledger_after_all y.parts (blocks_of y.others)) said why reason refuses y.refuses)
      ∙ ap (λ (n : ℕ). refused n reason) count

  pub one_stop : (command : Command) (items : List Item) (said : Block) (number other : ℕ) (why reason : Invalid)
      → StopsAt command items said number why → StopsAt command items said other reason
      → refused number why ≡ refused other reason
  one_stop Check items said number other why reason x y = absurd x
  one_stop (Replay workers) items said number other why reason x y =
      one_refusal items said number other why reason x y
  one_stop Interleave items said number other why reason x y = absurd x
  one_stop (Seal workers shards mu rounds searches) items said number other why reason x y = absurd x
  one_stop Show items said number other why reason x y = absurd x
  one_stop Migrate items said number other why reason x y = absurd x
  one_stop (Filter workers) items said number other why reason x y = absurd x
  one_stop (Prove id) items said number other why reason x y = absurd x
  one_stop Verify items said number other why reason x y = absurd x
  one_stop Follow items said number other why reason x y = absurd x
  one_stop (Demo seed workers) items said number other why reason x y = absurd x
