-- Which item has a tag, and that each tag that may come is that of an item.
use Rattle.std.proofs.Common.{◌≡◌, ℕ, zero, suc, Bool, true, false, List, [], ◌∷◌, Contains, inl, inr, refl, sym}
use Rattle.std.proofs.Common.{arith}
use Rattle.sx_block.specs.declared.header.Block.{Block}
use Rattle.sx_commit.specs.Claim.{Claim}
use Rattle.sx_outcome.specs.declared.script.Script.{Script}
use Rattle.sx_ledger.specs.declared.parts.Parts.{Parts}
use Rattle.sx_meaning.specs.Findings.{expected, shown_tags}
use Rattle.sx_meaning.specs.Items.{Item, block, candidates, outcomes, proof, script, state, tag_of}
use Rattle.sx_meaning.specs.Replays.{ends_with_block, tags_after}
use Rattle.sx_meaning.proofs.SomeItem.{IsKnown, KnowsTags}
use Rattle.sx_record.specs.Tags.{block_tag, candidates_tag, proof_tag, script_tag, state_tag}
use Rattle.sx_tx.specs.declared.tx.Tx.{Tx}
use Rattle.sx_words.specs.declared.command.Command.{Command}
use Rattle.sx_words.specs.declared.command.Command.TheVariants.{Check, Demo, Filter, Follow, Interleave, Migrate, Prove}
use Rattle.sx_words.specs.declared.command.Command.TheVariants.{Replay, Seal, Show, Verify}

-- ---- which item has a tag

pub only_tag : (tag other : ℕ) → Contains (tag ∷ []) other → other ≡ tag
only_tag tag other (zero, lt, same) = sym same
only_tag tag other (suc i, lt, same) = absurd (omega arith)

pub a_state : (item : Item) → tag_of item ≡ state_tag → (parts : Parts) × (item ≡ state parts)
a_state (state parts) is = (parts, refl)
a_state (candidates txs) is = absurd (omega (arith, is))
a_state (block said) is = absurd (omega (arith, is))
a_state (outcomes told) is = absurd (omega (arith, is))
a_state (script turns) is = absurd (omega (arith, is))
a_state (proof claim) is = absurd (omega (arith, is))

pub are_candidates : (item : Item) → tag_of item ≡ candidates_tag → (txs : List Tx) × (item ≡ candidates txs)
are_candidates (state parts) is = absurd (omega (arith, is))
are_candidates (candidates txs) is = (txs, refl)
are_candidates (block said) is = absurd (omega (arith, is))
are_candidates (outcomes told) is = absurd (omega (arith, is))
are_candidates (script turns) is = absurd (omega (arith, is))
are_candidates (proof claim) is = absurd (omega (arith, is))

pub a_block : (item : Item) → tag_of item ≡ block_tag → (said : Block) × (item ≡ block said)
a_block (state parts) is = absurd (omega (arith, is))
a_block (candidates txs) is = absurd (omega (arith, is))
a_block (block said) is = (said, refl)
a_block (outcomes told) is = absurd (omega (arith, is))
a_block (script turns) is = absurd (omega (arith, is))
a_block (proof claim) is = absurd (omega (arith, is))

pub a_script : (item : Item) → tag_of item ≡ script_tag → (turns : Script) × (item ≡ script turns)
a_script (state parts) is = absurd (omega (arith, is))
a_script (candidates txs) is = absurd (omega (arith, is))
a_script (block said) is = absurd (omega (arith, is))
a_script (outcomes told) is = absurd (omega (arith, is))
a_script (script turns) is = (turns, refl)
a_script (proof claim) is = absurd (omega (arith, is))

pub a_proof : (item : Item) → tag_of item ≡ proof_tag → (claim : Claim) × (item ≡ proof claim)
a_proof (state parts) is = absurd (omega (arith, is))
a_proof (candidates txs) is = absurd (omega (arith, is))
a_proof (block said) is = absurd (omega (arith, is))
a_proof (outcomes told) is = absurd (omega (arith, is))
a_proof (script turns) is = absurd (omega (arith, is))
a_proof (proof claim) is = (claim, refl)

-- a record that is shown as a text is none of a proof
pub not_shown : (claim : Claim) → Contains shown_tags (tag_of (proof claim)) → ⊥
not_shown claim (zero, lt, same) = omega (arith, same)
not_shown claim (suc zero, lt, same) = omega (arith, same)
not_shown claim (suc (suc zero), lt, same) = omega (arith, same)
not_shown claim (suc (suc (suc zero)), lt, same) = omega (arith, same)
not_shown claim (suc (suc (suc (suc zero))), lt, same) = omega (arith, same)
not_shown claim (suc (suc (suc (suc (suc i)))), lt, same) = omega arith

-- ---- each tag that may come is that of an item

known_after : (after : Bool) (tag : ℕ) → Contains (tags_after after) tag → IsKnown tag
known_after true tag (zero, lt, same) = inr (inr (inl (sym same)))
known_after true tag (suc zero, lt, same) = inr (inr (inr (inl (sym same))))
known_after true tag (suc (suc i), lt, same) = absurd (omega arith)
known_after false tag (zero, lt, same) = inr (inr (inl (sym same)))
known_after false tag (suc i, lt, same) = absurd (omega arith)

known_any : (tag : ℕ) → Contains shown_tags tag → IsKnown tag
known_any tag (zero, lt, same) = inl (sym same)
known_any tag (suc zero, lt, same) = inr (inl (sym same))
known_any tag (suc (suc zero), lt, same) = inr (inr (inl (sym same)))
known_any tag (suc (suc (suc zero)), lt, same) = inr (inr (inr (inl (sym same))))
known_any tag (suc (suc (suc (suc zero))), lt, same) = inr (inr (inr (inr (inl (sym same)))))
known_any tag (suc (suc (suc (suc (suc i)))), lt, same) = absurd (omega arith)

pub knows : (command : Command) (items : List Item) → KnowsTags (expected command items)
knows Check [] = λ tag among. inl (only_tag state_tag tag among)
knows Check (one ∷ []) = λ tag among. inr (inr (inl (only_tag block_tag tag among)))
knows Check (one ∷ other ∷ more) = tt
knows (Replay workers) [] = λ tag among. inl (only_tag state_tag tag among)
knows (Replay workers) (first ∷ items) = known_after (ends_with_block items)
knows Interleave [] = λ tag among. inl (only_tag state_tag tag among)
knows Interleave (one ∷ []) = λ tag among. inr (inl (only_tag candidates_tag tag among))
knows Interleave (one ∷ other ∷ []) = λ tag among. inr (inr (inr (inr (inl (only_tag script_tag tag among)))))
knows Interleave (one ∷ other ∷ third ∷ more) = tt
knows (Seal workers shards mu rounds searches) [] = λ tag among. inl (only_tag state_tag tag among)
knows (Seal workers shards mu rounds searches) (one ∷ []) = λ tag among. inr (inl (only_tag candidates_tag tag among))
knows (Seal workers shards mu rounds searches) (one ∷ other ∷ more) = tt
knows Show [] = known_any
knows Show (one ∷ more) = tt
knows Migrate [] = λ tag among. inl (only_tag state_tag tag among)
knows Migrate (one ∷ more) = tt
knows (Filter workers) [] = λ tag among. inl (only_tag state_tag tag among)
knows (Filter workers) (one ∷ []) = λ tag among. inr (inl (only_tag candidates_tag tag among))
knows (Filter workers) (one ∷ other ∷ more) = tt
knows (Prove id) [] = λ tag among. inl (only_tag state_tag tag among)
knows (Prove id) (one ∷ more) = tt
knows Verify [] = λ tag among. inr (inr (inr (inr (inr (only_tag proof_tag tag among)))))
knows Verify (one ∷ more) = tt
knows Follow [] = λ tag among. inl (only_tag state_tag tag among)
knows Follow (first ∷ items) = known_after (ends_with_block items)
knows (Demo seed workers) items = tt
