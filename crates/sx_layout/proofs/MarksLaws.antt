-- The marks of a list of decided candidates grow with it, and stay away from other shards.
use Rattle.std.proofs.Common.{◌≡◌, ◌≢◌, ℕ, Bool, true, false, List, [], ◌∷◌, ◌++◌, inl, inr, refl, ap, ◌∙◌, append-nil}
use Rattle.std.specs.Prelude.{◌==◌, if◌then◌else◌}
use Rattle.std.proofs.lemmas.Bool.{cases_Bool, eqb-true}
use Rattle.std.proofs.lemmas.Grind.{flat_map-append}
use Rattle.sx_event.specs.declared.marks.Claim.{Claim}
use Rattle.sx_layout.specs.declared.asked.Wanted.{Wanted}
use Rattle.sx_layout.specs.declared.asked.Wanted.TheVariants as wanted
use Rattle.sx_layout.specs.declared.spot.Spot.{Spot}
use Rattle.sx_layout.specs.Asked.{number_spot, wanted_of}
use Rattle.sx_outcome.specs.Gathering.{is_accepted, keeps_number}
use Rattle.sx_layout.specs.Marks.{bit_mark, debit_mark, marks, marks_of, shard_of, wanted_mark}
use Rattle.sx_layout.specs.Marks.{MarksElsewhere, MarksGrow, MarksJoin}

pub marks_join : MarksJoin
marks_join parts plan shard list more = flat_map-append (marks_of parts plan shard) list more

pub marks_grow : MarksGrow
marks_grow parts plan shard list one =
    marks_join parts plan shard list (one ∷ [])
    ∙ ap (λ (c : List Claim). marks parts plan shard list ++ c) (append-nil (marks_of parts plan shard one))

-- ---- other shards

no_bit : (shard : ℕ) (at : Spot) (bit : ℕ) → at.shard ≢ shard → bit_mark shard at bit ≡ []
no_bit shard at bit apart = elim (cases_Bool (at.shard == shard)) [
  | inl e ↦ absurd (apart (eqb-true at.shard shard e))
  | inr e ↦ rw e refl
]

no_debit : (shard : ℕ) (at : Spot) (need : ℕ) → at.shard ≢ shard → debit_mark shard at need ≡ []
no_debit shard at need apart = elim (cases_Bool (at.shard == shard)) [
  | inl e ↦ absurd (apart (eqb-true at.shard shard e))
  | inr e ↦ rw e refl
]

no_wanted : (shard : ℕ) (what : Wanted) → shard_of what ≢ shard → wanted_mark shard what ≡ []
no_wanted shard (wanted.Bit at bit) apart = no_bit shard at bit apart
no_wanted shard (wanted.Units purse need) apart = no_debit shard purse need apart

none : (first second : Bool) (xs ys : List Claim) → xs ≡ [] → ys ≡ []
    → ((if first then xs else []) ++ (if second then ys else [])) ≡ []
none true true xs ys p q = rw (p, q) refl
none true false xs ys p q = rw p refl
none false true xs ys p q = q
none false false xs ys p q = refl

pub marks_elsewhere : MarksElsewhere
marks_elsewhere parts plan shard one number_apart wanted_apart =
    let at = number_spot parts plan one.tx in
    none (keeps_number one.outcome) (is_accepted one.outcome) (bit_mark shard at.0 at.1)
    (wanted_mark shard (wanted_of parts plan one.tx)) (no_bit shard at.0 at.1 number_apart)
    (no_wanted shard (wanted_of parts plan one.tx) wanted_apart)
