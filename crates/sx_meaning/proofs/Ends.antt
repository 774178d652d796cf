-- Where no more comes: the input was at its end, or nothing of it was read.
use Rattle.std.proofs.Common.{◌≡◌, ℕ, false, List, [], ◌∷◌, ◌++◌, Option, Some, None, refl, sym, ap, ◌∙◌}
use Rattle.std.specs.Prelude.{IsTrue}
use Rattle.sx_meaning.specs.Answers.{IsRead, IsReadWhole, MayWriteIn, takes_no_input}
use Rattle.sx_meaning.specs.Expected.{Expected, IsDoneWith, IsExpected, end_only, record_of, unread}
use Rattle.sx_meaning.specs.Findings.{expected, in_turn, one_record}
use Rattle.sx_meaning.specs.Items.{Item, item_record, tag_of}
use Rattle.sx_meaning.specs.Replays.{expected_in_replay}
use Rattle.sx_meaning.proofs.ItemLaws.{not_nothing}
use Rattle.sx_record.specs.Tags.{block_tag, candidates_tag, proof_tag, script_tag, state_tag}
use Rattle.sx_words.specs.declared.command.Command.{Command}
use Rattle.sx_words.specs.declared.command.Command.TheVariants.{Check, Demo, Filter, Follow, Interleave, Migrate, Prove}
use Rattle.sx_words.specs.declared.command.Command.TheVariants.{Replay, Seal, Show, Verify}

pub done_at_end : (e : Expected) (bytes left : List ℕ) → bytes ≡ [] → left ≡ [] → IsDoneWith e bytes left
done_at_end unread bytes left none none_left = none_left ∙ sym none
done_at_end end_only bytes left none none_left = (none, none_left)
done_at_end (record_of tags end_too full) bytes left none none_left = (none, none_left)

-- one list is left
pub done_once : (e : Expected) (bytes left right : List ℕ) → IsDoneWith e bytes left → IsDoneWith e bytes right
    → left ≡ right
done_once unread bytes left right x y = x ∙ sym y
done_once end_only bytes left right x y = x.1 ∙ sym y.1
done_once (record_of tags end_too full) bytes left right x y = x.1 ∙ sym y.1

-- no item that may come stands there
pub done_without : (e : Expected) (bytes left more : List ℕ) (item : Item) → IsDoneWith e bytes left
    → IsExpected e (tag_of item) → bytes ≡ item_record item ++ more → ⊥
done_without unread bytes left more item done may read = may
done_without end_only bytes left more item done may read = may
done_without (record_of tags end_too full) bytes left more item done may read =
    not_nothing item more (sym read ∙ done.0)

-- ---- a command that takes an input

abbrev AreNone : List ℕ → List ℕ → Type 0
AreNone bytes left = (bytes ≡ []) × (left ≡ [])

in_turn_ends : (tags : List ℕ) (items : List Item) (bytes left : List ℕ)
    → IsDoneWith (in_turn tags items) bytes left → AreNone bytes left
in_turn_ends [] items bytes left done = done
in_turn_ends (tag ∷ tags) [] bytes left done = done
in_turn_ends (tag ∷ tags) (item ∷ items) bytes left done = in_turn_ends tags items bytes left done

replay_ends : (items : List Item) (bytes left : List ℕ) → IsDoneWith (expected_in_replay items) bytes left
    → AreNone bytes left
replay_ends [] bytes left done = done
replay_ends (first ∷ items) bytes left done = done

show_ends : (items : List Item) (bytes left : List ℕ) → IsDoneWith (one_record items) bytes left → AreNone bytes left
show_ends [] bytes left done = done
show_ends (item ∷ items) bytes left done = done

-- its input is read to the end
pub reads_to_end : (command : Command) (items : List Item) (bytes left : List ℕ) → takes_no_input command ≡ false
    → IsDoneWith (expected command items) bytes left → AreNone bytes left
reads_to_end Check items bytes left takes done = in_turn_ends (state_tag ∷ block_tag ∷ []) items bytes left done
reads_to_end (Replay workers) items bytes left takes done = replay_ends items bytes left done
reads_to_end Interleave items bytes left takes done =
    in_turn_ends (state_tag ∷ candidates_tag ∷ script_tag ∷ []) items bytes left done
reads_to_end (Seal workers shards mu rounds searches) items bytes left takes done =
    in_turn_ends (state_tag ∷ candidates_tag ∷ []) items bytes left done
reads_to_end Show items bytes left takes done = show_ends items bytes left done
reads_to_end Migrate items bytes left takes done = in_turn_ends (state_tag ∷ []) items bytes left done
reads_to_end (Filter workers) items bytes left takes done =
    in_turn_ends (state_tag ∷ candidates_tag ∷ []) items bytes left done
reads_to_end (Prove id) items bytes left takes done = in_turn_ends (state_tag ∷ []) items bytes left done
reads_to_end Verify items bytes left takes done = in_turn_ends (proof_tag ∷ []) items bytes left done
reads_to_end Follow items bytes left takes done = replay_ends items bytes left done
reads_to_end (Demo number workers) items bytes left takes done = absurd cc

-- ---- an output comes at the end of the input

read_to_end : (command : Command) (a b : Option (List ℕ)) (text : List ℕ) → takes_no_input command ≡ false
    → MayWriteIn command a b text → IsReadWhole a b
read_to_end command None b text takes finds = tt
read_to_end command (Some bytes) b text takes finds =
    let found = finds.1.found in
    let none = reads_to_end command found.items found.rest finds.0 takes found.finds.done in
    finds.2 ∙ ap (λ (r : List ℕ). Some r) none.1

-- of a source that was not touched where the command takes no input
pub read_whole : (command : Command) (a b : Option (List ℕ)) (text : List ℕ)
    → (IsTrue (takes_no_input command) → b ≡ a) → MayWriteIn command a b text → IsRead command a b
read_whole Check a b text same finds = read_to_end Check a b text refl finds
read_whole (Replay workers) a b text same finds = read_to_end (Replay workers) a b text refl finds
read_whole Interleave a b text same finds = read_to_end Interleave a b text refl finds
read_whole (Seal workers shards mu rounds searches) a b text same finds =
    read_to_end (Seal workers shards mu rounds searches) a b text refl finds
read_whole Show a b text same finds = read_to_end Show a b text refl finds
read_whole Migrate a b text same finds = read_to_end Migrate a b text refl finds
read_whole (Filter workers) a b text same finds = read_to_end (Filter workers) a b text refl finds
read_whole (Prove id) a b text same finds = read_to_end (Prove id) a b text refl finds
read_whole Verify a b text same finds = read_to_end Verify a b text refl finds
read_whole Follow a b text same finds = read_to_end Follow a b text refl finds
read_whole (Demo number workers) a b text same finds = same refl
