-- The encodings, computed at small payloads that were worked out by hand.
use Rattle.std.proofs.Common.{◌≡◌, ℕ, ◌-◌, ◌^◌, List, [], ◌∷◌, ◌++◌, Result, Ok, Err, refl}
use Rattle.sx_bytes.specs.declared.fault.Form.TheVariants as form
use Rattle.sx_bytes.specs.declared.fault.FormFault.{FormFault}
use Rattle.sx_bytes.specs.Grammar.{many_at}
use Rattle.sx_outcome.specs.declared.outcome.Outcome.{Outcome}
use Rattle.sx_outcome.specs.declared.outcome.Outcome.TheVariants.{Accepted, Static, SeqTaken, OfferTaken, NameTaken}
use Rattle.sx_outcome.specs.declared.outcome.Outcome.TheVariants.{Overdraft}
use Rattle.sx_outcome.specs.declared.script.Script.{Script}
use Rattle.sx_outcome.specs.OutcomeDecoding.{overdraft_at, outcome_at, outcome_list_at, outcomes_at}
use Rattle.sx_outcome.specs.Outcomes.{outcomes_bytes}
use Rattle.sx_outcome.specs.ScriptDecoding.{turn_at, script_fields_at, script_at}
use Rattle.sx_outcome.specs.Scripts.{script_bytes}
use Rattle.sx_ledger.specs.declared.statics.Static.TheVariants.{SeqBeyond}

-- ---- outcomes

-- two payments of 60 from an account that has 100: the second sees 40
one_overdraft : outcomes_bytes (Accepted ∷ Overdraft 40 60 ∷ [])
    ≡ 0 ∷ 0 ∷ 0 ∷ 2 ∷ 0 ∷ 5 ∷ 0 ∷ 0 ∷ 0 ∷ 0 ∷ 0 ∷ 0 ∷ 0 ∷ 40 ∷ 0 ∷ 0 ∷ 0 ∷ 0 ∷ 0 ∷ 0 ∷ 0 ∷ 60 ∷ []
one_overdraft = refl

the_others : outcomes_bytes (Static SeqBeyond ∷ SeqTaken ∷ OfferTaken ∷ NameTaken ∷ [])
    ≡ 0 ∷ 0 ∷ 0 ∷ 4 ∷ 1 ∷ 3 ∷ 2 ∷ 3 ∷ 4 ∷ []
the_others = refl

-- the count takes four bytes
no_count : outcomes_at (255 ∷ []) ≡ Err (record { at = 1; fault = form.Short })
unfolding outcome_list_at outcomes_at
no_count = refl

-- one overdraft, what was seen and what was needed in eight bytes each
abbrev overdraft : List ℕ → List ℕ → List ℕ
overdraft seen need = 0 ∷ 0 ∷ 0 ∷ 1 ∷ 5 ∷ (seen ++ need)

-- 2 ^ 62, and one less and one more
abbrev most : List ℕ
most = 64 ∷ 0 ∷ 0 ∷ 0 ∷ 0 ∷ 0 ∷ 0 ∷ 0 ∷ []

abbrev less : List ℕ
less = 63 ∷ 255 ∷ 255 ∷ 255 ∷ 255 ∷ 255 ∷ 255 ∷ 255 ∷ []

abbrev more : List ℕ
more = 64 ∷ 0 ∷ 0 ∷ 0 ∷ 0 ∷ 0 ∷ 0 ∷ 1 ∷ []

abbrev amount_range : ℕ → Result (List Outcome) FormFault
amount_range at = Err (record { at = at; fault = form.AmountRange })

-- at the ends of the ranges: the need is tested where what was seen is no more than 2 ^ 62
ends_of_ranges :
    (outcomes_at (overdraft less most) ≡ Ok (Overdraft (2 ^ 62 - 1) (2 ^ 62) ∷ []))
    × (outcomes_at (overdraft most more) ≡ amount_range 13) × (outcomes_at (overdraft more most) ≡ amount_range 5)
    × (outcomes_at (overdraft less less) ≡ amount_range 13)
unfolding overdraft_at outcome_at outcome_list_at outcomes_at many_at
ends_of_ranges = (refl, refl, refl, refl)

-- ---- scripts

-- two actors by turns
two_actors : script_bytes (record { actors = 2; turns = 0 ∷ 1 ∷ 0 ∷ 1 ∷ [] }) ≡ 2 ∷ 0 ∷ 0 ∷ 0 ∷ 4 ∷ 0 ∷ 1 ∷ 0 ∷ 1 ∷ []
two_actors = refl

-- three actors, one of which goes on at the end
three_actors : script_at (3 ∷ 0 ∷ 0 ∷ 0 ∷ 10 ∷ 0 ∷ 1 ∷ 2 ∷ 0 ∷ 1 ∷ 2 ∷ 0 ∷ 1 ∷ 2 ∷ 2 ∷ [])
    ≡ Ok (record { actors = 3; turns = 0 ∷ 1 ∷ 2 ∷ 0 ∷ 1 ∷ 2 ∷ 0 ∷ 1 ∷ 2 ∷ 2 ∷ [] })
unfolding turn_at script_fields_at script_at many_at
three_actors = refl

abbrev refused : ℕ → Result Script FormFault
refused at = Err (record { at = at; fault = form.Actor })

-- no actor, nine actors, eight actors without a turn, and a ninth one in a turn that is the last byte of too few
actors :
    (script_at (0 ∷ []) ≡ refused 0) × (script_at (9 ∷ []) ≡ refused 0)
    × (script_at (8 ∷ 0 ∷ 0 ∷ 0 ∷ 0 ∷ []) ≡ Ok (record { actors = 8; turns = [] }))
    × (script_at (8 ∷ 0 ∷ 0 ∷ 0 ∷ 3 ∷ 7 ∷ 8 ∷ []) ≡ refused 6)
unfolding turn_at script_fields_at script_at many_at
actors = (refl, refl, refl, refl)
