-- What an actor's claims are: the marks of its decided candidates, and those of the one that it is in the middle of.
use Rattle.std.proofs.Common.{◌≡◌, ℕ, List, [], ◌∷◌, ◌++◌, Ok, refl, sym, ap, ◌∙◌}
use Rattle.std.proofs.Common.{append_assoc, append-nil}
use Rattle.sx_event.specs.declared.marks.Claim.{Claim}
use Rattle.sx_layout.specs.declared.asked.Wanted.TheVariants as wanted
use Rattle.sx_outcome.specs.declared.outcome.Outcome.{Outcome}
use Rattle.sx_layout.specs.declared.spot.Spot.{Spot}
use Rattle.sx_layout.specs.declared.stage.Stage.{Stage}
use Rattle.sx_layout.specs.declared.stage.Stage.TheVariants as stage
use Rattle.sx_script.specs.Actors.{Actor, beginning}
use Rattle.sx_outcome.specs.Gathering.{Decision, decisions}
use Rattle.sx_layout.specs.Asked.{number_spot, wanted_of}
use Rattle.sx_layout.specs.Marks.{Closes, bit_mark, marks, marks_of}
use Rattle.sx_layout.specs.Plan.{Plan}
use Rattle.sx_outcome.proofs.DecidedPairs.{AreDecided, decided_append, decisions_append}
use Rattle.sx_layout.proofs.MarksLaws.{marks_grow}
use Rattle.sx_ledger.specs.declared.parts.Parts.{Parts}
use Rattle.sx_ledger.specs.Static.{static_of}
use Rattle.sx_tx.specs.declared.tx.Tx.{Tx}

-- ---- the candidate in the middle

-- it passes the static test, and wants this bit
pub record IsNamed (parts : Parts) (plan : Plan) (tx : Tx) (word bit : ℕ) : Type 0 where
  pub passes : static_of parts tx ≡ Ok tt
  pub spot : Spot
  pub wants : wanted_of parts plan tx ≡ wanted.Bit spot bit
  pub at : word ≡ spot.word

-- it passes the static test, and wants so much of this purse
pub record IsDebited (parts : Parts) (plan : Plan) (tx : Tx) (purse need : ℕ) : Type 0 where
  pub passes : static_of parts tx ≡ Ok tt
  pub spot : Spot
  pub wants : wanted_of parts plan tx ≡ wanted.Units spot need
  pub at : purse ≡ spot.word

abbrev pub StageIs : Parts → Plan → Tx → Stage → Type 0
StageIs parts plan tx stage.Number = Unit {0}
StageIs parts plan tx (stage.Name word bit) = IsNamed parts plan tx word bit
StageIs parts plan tx (stage.Look purse need) = IsDebited parts plan tx purse need
StageIs parts plan tx (stage.Take purse need) = IsDebited parts plan tx purse need

abbrev pub FirstIs : Parts → Plan → Stage → List Tx → Type 0
FirstIs parts plan at [] = Unit {0}
FirstIs parts plan at (tx ∷ txs) = StageIs parts plan tx at

-- the claim of its number
abbrev pub number_mark : Parts → Plan → Tx → List Claim
number_mark parts plan tx = bit_mark 0 (number_spot parts plan tx).0 (number_spot parts plan tx).1

-- the claims that it has already: its number
abbrev pub pending_of : Parts → Plan → Tx → Stage → List Claim
pending_of parts plan tx stage.Number = []
pending_of parts plan tx (stage.Name word bit) = number_mark parts plan tx
pending_of parts plan tx (stage.Look purse need) = number_mark parts plan tx
pending_of parts plan tx (stage.Take purse need) = number_mark parts plan tx

abbrev pub pending : Parts → Plan → Stage → List Tx → List Claim
pending parts plan at [] = []
pending parts plan at (tx ∷ txs) = pending_of parts plan tx at

-- ---- an actor

-- an actor that began with these candidates, with its view's claims and the words as they are
pub record ActorKeeps (parts : Parts) (plan : Plan) (purses bits : List ℕ) (claims : List Claim) (part : List Tx)
    (actor : Actor) : Type 0 where
  pub decided : List Tx
  pub whole : part ≡ decided ++ actor.left
  pub closes : AreDecided (Closes parts plan (λ shard. purses) (λ shard. bits)) decided actor.done
  pub has : claims
      ≡ marks parts plan 0 (decisions decided actor.done) ++ pending parts plan actor.stage actor.left
  pub first : FirstIs parts plan actor.stage actor.left

pub number_pending : (parts : Parts) (plan : Plan) (left : List Tx) → pending parts plan stage.Number left ≡ []
number_pending parts plan [] = refl
number_pending parts plan (tx ∷ txs) = refl

pub number_first : (parts : Parts) (plan : Plan) (left : List Tx) → FirstIs parts plan stage.Number left
number_first parts plan [] = tt
number_first parts plan (tx ∷ txs) = tt

module _ (parts : Parts) (plan : Plan) (purses bits : List ℕ) (part : List Tx) where
  -- its first candidate is decided, with these new claims
  pub decide : (claims after more : List Claim) (tx : Tx) (txs : List Tx) (at : Stage) (done : List Outcome)
      (said : Outcome)
      → ActorKeeps parts plan purses bits claims part (record { left = tx ∷ txs; stage = at; done = done })
      → Closes parts plan (λ shard. purses) (λ shard. bits) tx said → after ≡ claims ++ more
      → pending_of parts plan tx at ++ more ≡ marks_of parts plan 0 (record { tx = tx; outcome = said })
      → ActorKeeps parts plan purses bits after part (beginning txs (done ++ said ∷ []))
  decide claims after more tx txs at done said keeps says after_is more_is =
      let P = Closes parts plan (λ shard. purses) (λ shard. bits) in
      let decided = keeps.decided in
      let one : Decision = record { tx = tx; outcome = said } in
      let before = marks parts plan 0 (decisions decided done) in
      let all : decisions (decided ++ tx ∷ []) (done ++ said ∷ []) ≡ decisions decided done ++ one ∷ [] =
      decisions_append P decided (tx ∷ []) done (said ∷ []) keeps.closes in
      record {
        decided = decided ++ tx ∷ [];
        whole = keeps.whole ∙ sym (append_assoc decided (tx ∷ []) txs);
        closes = decided_append P decided (tx ∷ []) done (said ∷ []) keeps.closes (says, tt);
        has =
            after_is ∙ ap (λ (c : List Claim). c ++ more) keeps.has
            ∙ append_assoc before (pending_of parts plan tx at) more
            ∙ ap (λ (c : List Claim). before ++ c) more_is
            ∙ sym (marks_grow parts plan 0 (decisions decided done) one)
            ∙ ap (marks parts plan 0) (sym all)
            ∙ sym (append-nil (marks parts plan 0 (decisions (decided ++ tx ∷ []) (done ++ said ∷ []))))
            ∙ ap (λ (c : List Claim). marks parts plan 0 (decisions (decided ++ tx ∷ []) (done ++ said ∷ [])) ++ c)
            (sym (number_pending parts plan txs));
        first = number_first parts plan txs;
      }

  -- it goes on to a stage, with these new claims
  pub go_on : (claims after more : List Claim) (tx : Tx) (txs : List Tx) (at next : Stage) (done : List Outcome)
      → ActorKeeps parts plan purses bits claims part (record { left = tx ∷ txs; stage = at; done = done })
      → StageIs parts plan tx next → after ≡ claims ++ more
      → pending_of parts plan tx at ++ more ≡ pending_of parts plan tx next
      → ActorKeeps parts plan purses bits after part (record { left = tx ∷ txs; stage = next; done = done })
  go_on claims after more tx txs at next done keeps is after_is more_is =
      let before = marks parts plan 0 (decisions keeps.decided done) in
      record {
        decided = keeps.decided;
        whole = keeps.whole;
        closes = keeps.closes;
        has =
            after_is ∙ ap (λ (c : List Claim). c ++ more) keeps.has
            ∙ append_assoc before (pending_of parts plan tx at) more
            ∙ ap (λ (c : List Claim). before ++ c) more_is;
        first = is;
      }
