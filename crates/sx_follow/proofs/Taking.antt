-- A batch whose blocks all leave what they name.
use Rattle.std.proofs.Common.{◌≡◌, ℕ, ◌+◌, ◌≤◌, ◌∙◌, List, [], ◌∷◌, length, sym, ap, subst, arith}
use Rattle.std.specs.List.{All}
use Rattle.std.proofs.lemmas.List.Elements.{All-tail}
use Rattle.sha2.specs.Sha256.{sha256}
use Rattle.sx_block.specs.declared.header.Block.{Block}
use Rattle.sx_block.specs.Validity.{digest_of_ledger, ledger_after}
use Rattle.sx_follow.specs.Ahead.{AreAhead, IsAhead, IsRight}
use Rattle.sx_block.specs.Chain.{IsNext}
use Rattle.sx_follow.specs.declared.ahead.batch.Claim.{Claim}
use Rattle.sx_follow.specs.Follower.{IsFollower}
use Rattle.sx_follow.proofs.ChosenNext.{chosen_next}
use Rattle.sx_follow.proofs.Followers.{advanced}
use Rattle.sx_block.specs.ValidityLaws.{ApplicableIsSound, SoundIsValid}
use Rattle.sx_ledger.specs.declared.parts.Parts.{Parts}
use Rattle.sx_record.specs.Frame.{record_bytes}

-- a claim that is right has the digest of the ledger that is left
right_digest : (parts : Parts) (named : List ℕ) (blocks : List Block) (claim : Claim) (after : Parts)
    → IsAhead parts named blocks claim after → IsRight claim → claim.digest ≡ digest_of_ledger after
right_digest parts named blocks claim after is right =
    right ∙ ap (λ (state : List ℕ). sha256 (record_bytes 1 state)) is.state

module _ (sound : ApplicableIsSound) (valid : SoundIsValid) (opening : Parts) (blocks : List Block) where
  -- a block that is ahead is next, where the ledgers before and after it have the digests that it names
  right_next : (parts : Parts) (claim : Claim) (after : Parts)
      → (is : IsAhead parts (digest_of_ledger parts) blocks claim after) → IsRight claim
      → IsNext parts blocks is.chosen.block
  right_next parts claim after is right =
      let block = is.chosen.block in
      let digest : claim.digest ≡ digest_of_ledger (ledger_after parts block) =
      right_digest parts (digest_of_ledger parts) blocks claim after is right
      ∙ ap (λ (l : Parts). digest_of_ledger l) is.ledger in
      chosen_next parts blocks is.place is.chosen
      (valid parts block (sound parts block is.applicable is.chosen.parent) (sym is.digest ∙ digest))

  -- what a follower keeps, after one more step
  one_taken : (steps : ℕ) (head : Parts) (claim : Claim) (after : Parts)
      → IsFollower (record { opening = opening; blocks = blocks; steps = steps; head = head })
      → IsAhead head (digest_of_ledger head) blocks claim after → IsRight claim
      → IsFollower (record { opening = opening; blocks = blocks; steps = steps + 1; head = after })
  one_taken steps head claim after follows is right =
      subst
      (λ (l : Parts). IsFollower (record { opening = opening; blocks = blocks; steps = steps + 1; head = l }))
      (sym is.ledger)
      (advanced opening blocks steps head is.chosen.block follows (right_next head claim after is right))

  -- and after the last of a batch
  pub all_taken : (steps : ℕ) (head : Parts) (claims : List Claim) (ledger : Parts) (digest : List ℕ)
      → IsFollower (record { opening = opening; blocks = blocks; steps = steps; head = head })
      → AreAhead head (digest_of_ledger head) blocks claims ledger digest → All IsRight claims
      → (digest ≡ digest_of_ledger ledger) × IsFollower (record {
        opening = opening;
        blocks = blocks;
        steps = steps + length claims;
        head = ledger;
      })
  all_taken steps head [] ledger digest follows are right =
      let count : steps ≡ steps + 0 = omega arith in (
        are.1 ∙ ap (λ (l : Parts). digest_of_ledger l) (sym are.0),
        subst
            (λ (l : Parts). IsFollower (record {
              opening = opening;
              blocks = blocks;
              steps = steps + 0;
              head = l;
            }))
            (sym are.0)
            (subst
            (λ (n : ℕ). IsFollower (record { opening = opening; blocks = blocks; steps = n; head = head }))
            count follows),
      )
  all_taken steps head (claim ∷ others) ledger digest follows are right =
      let first : IsRight claim = right 0 claim (omega arith) in
      let name : claim.digest ≡ digest_of_ledger are.0 =
      right_digest head (digest_of_ledger head) blocks claim are.0 are.1 first in
      let rest =
      all_taken (steps + 1) are.0 others ledger digest (one_taken steps head claim are.0 follows are.1 first)
      (subst (λ (n : List ℕ). AreAhead are.0 n blocks others ledger digest) name are.2)
      (All-tail IsRight claim others right) in
      let count : steps + 1 + length others ≡ steps + length (claim ∷ others) = omega arith in (
        rest.0,
        subst
            (λ (n : ℕ). IsFollower (record { opening = opening; blocks = blocks; steps = n; head = ledger }))
            count rest.1,
      )

  -- how many steps it has then
  pub few_taken : (steps : ℕ) (head : Parts) (claims : List Claim) (ledger : Parts) (digest : List ℕ)
      → IsFollower (record { opening = opening; blocks = blocks; steps = steps; head = head })
      → AreAhead head (digest_of_ledger head) blocks claims ledger digest → All IsRight claims
      → steps + length claims ≤ 1000000
  few_taken steps head claims ledger digest follows are right =
      let on = all_taken steps head claims ledger digest follows are right in
      let few = on.1.few in
      let few_steps = on.1.few_steps in
      omega arith
