-- What a refusal may have seen, worked out by hand.
use Rattle.std.proofs.Common.{true, [], ◌∷◌, refl, arith}
use Rattle.std.proofs.lemmas.List.Elements.{All-from_recursion}
use Rattle.sx_event.specs.declared.marks.Claim.TheVariants.{Debit}
use Rattle.sx_event.specs.declared.marks.Note.TheVariants.{Low}
use Rattle.sx_event.specs.View.{View}
use Rattle.sx_shard.specs.Plays.{IsBelow, IsFresh}

-- a seat that took 60 of 100, and saw 30 after that
abbrev after_sixty : View
after_sixty = record { live = true; from = 0; end = 2; claims = Debit 0 60 ∷ []; notes = Low 0 100 ∷ Low 0 30 ∷ [] }

-- it does not see its own debit again
own_debit : IsFresh (100 ∷ []) after_sixty 0 41 → ⊥
own_debit fresh = let debits = fresh.debits in omega (arith, debits)

-- nor more than it saw
seen_before : IsFresh (100 ∷ []) after_sixty 0 31 → ⊥
seen_before fresh = let below = fresh.notes 1 (Low 0 100) (omega arith) refl in omega (arith, below)

still_there : IsFresh (100 ∷ []) after_sixty 0 30
still_there = record {
  debits = omega arith;
  notes =
      All-from_recursion (IsBelow 0 30) (Low 0 100 ∷ Low 0 30 ∷ []) ((λ same. omega arith), ((λ same. omega arith), tt));
}
