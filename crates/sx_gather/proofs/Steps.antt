-- What one step of a seat leaves of all seats, and what the steps of a call decide.
use Rattle.std.proofs.Common.{◌≡◌, ℕ, List, [], ◌∷◌, ◌++◌, map, Some, Ok, Err, refl, sym, subst, ◌∙◌}
use Rattle.std.specs.Prelude.{Result, Option, IfErr, IfSome, OnErr, OnOk, slice_get, slice_set}
use Rattle.sx_event.specs.declared.marks.Claim.TheVariants.{Debit}
use Rattle.sx_event.specs.declared.marks.Note.TheVariants.{Low, Set}
use Rattle.sx_layout.specs.declared.asked.Wanted.TheVariants as wanted
use Rattle.sx_outcome.specs.declared.outcome.Outcome.{Outcome}
use Rattle.sx_outcome.specs.declared.outcome.Outcome.TheVariants as outcome
use Rattle.sx_layout.specs.declared.spot.Spot.{Spot}
use Rattle.sx_layout.specs.Asked.{number_spot, wanted_of}
use Rattle.sx_layout.specs.Deciding.{too_late}
use Rattle.sx_layout.specs.Marks.{bit_mark, wanted_mark}
use Rattle.sx_layout.specs.Plan.{Plan}
use Rattle.sx_ledger.specs.declared.parts.Parts.{Parts}
use Rattle.sx_ledger.specs.declared.statics.Static.{Static}
use Rattle.sx_ledger.specs.Static.{static_of}
use Rattle.sx_shard.specs.Models.{Seated}
use Rattle.sx_shard.specs.Reserve.{Refuses, Reserves}
use Rattle.sx_tx.specs.declared.kind.Kind.{Kind}
use Rattle.sx_tx.specs.declared.kind.Kind.TheVariants as kind
use Rattle.sx_tx.specs.declared.tx.Tx.{Tx}
use Rattle.sx_gather.specs.Steps.{Claims, IsHeld, IsShortOf, Reserved, Takes}
use Rattle.sx_gather.specs.Submit.{Decides, FoundSet}
use Rattle.sx_gather.proofs.Growing.{at_itself, at_shard, grow_none, grow_notes, grow_on, grow_one, lows}

-- ---- what follows from what a clause says

pub on_ok : {T E : Type 0} (r : Result T E) (P Q : Type 0) → (P → Q) → OnOk r P → OnOk r Q
on_ok (Ok x) P Q f holds = f holds
on_ok (Err e) P Q f holds = tt

pub on_err : {T E : Type 0} (r : Result T E) (P Q : Type 0) → (P → Q) → OnErr r P → OnErr r Q
on_err (Ok x) P Q f holds = tt
on_err (Err e) P Q f holds = f holds

pub if_err : {T E : Type 0} (r : Result T E) (P Q : E → Type 0) → ((e : E) → P e → Q e) → IfErr r P → IfErr r Q
if_err (Ok x) P Q f holds = tt
if_err (Err e) P Q f holds = f e holds

pub if_some : {A : Type 0} (o : Option A) (x : A) (P : A → Type 0) → o ≡ Some x → P x → IfSome o P
if_some o x P is holds = subst (λ p. IfSome p P) (sym is) holds

-- ---- a purse

pub reserved_is : (seats : List Seated) (old new : Seated) (purse : Spot) (need : ℕ)
    → slice_get seats purse.shard ≡ Some old → Reserves old.view purse.word need new.view
    → Reserved seats (slice_set seats purse.shard new) purse need
reserved_is seats old new purse need stands reserves =
    let values = reserves.earlier ++ reserves.last ∷ [] in
    record {
      values = values;
      grow =
          grow_one seats purse.shard old new (Debit purse.word need ∷ []) (map (Low purse.word) values) stands
          reserves.leaves;
    }

pub short_is : (seats : List Seated) (old new : Seated) (purse : Spot) (seen need : ℕ)
    → slice_get seats purse.shard ≡ Some old → Refuses old.view purse.word need seen new.view
    → IsShortOf seats (slice_set seats purse.shard new) purse seen need
short_is seats old new purse seen need stands refuses =
    let values = refuses.earlier ++ seen ∷ [] in
    let notes = map (Low purse.word) values in
    record {
      notes = at_shard purse.shard notes;
      grow =
          grow_notes seats purse.shard old new notes stands (refuses.leaves ∙ lows old.view purse.word values);
      low = record {
        earlier = refuses.earlier;
        finds = refuses.finds;
        short = refuses.short;
        notes_are = at_itself purse.shard notes;
      };
    }

-- ---- what is wanted

pub bit_taken : (before after : List Seated) (of : Kind) (at : Spot) (bit : ℕ) → Claims before after at bit
    → Takes before after of (wanted.Bit at bit) outcome.Accepted
bit_taken before after of at bit claims = record { notes = λ shard. []; grow = claims; found = tt }

pub bit_held : (before after : List Seated) (of : Kind) (at : Spot) (bit : ℕ) → IsHeld before after at bit
    → Takes before after of (wanted.Bit at bit) (too_late of)
bit_held before after (kind.Pay asset to amount) at bit held = record {
  notes = at_shard at.shard (Set at.word bit ∷ []);
  grow = held;
  found = (refl, at_itself at.shard (Set at.word bit ∷ []));
}
bit_held before after (kind.Create id) at bit held = record {
  notes = at_shard at.shard (Set at.word bit ∷ []);
  grow = held;
  found = (refl, at_itself at.shard (Set at.word bit ∷ []));
}
bit_held before after (kind.Offer sell buy limit amount) at bit held = record {
  notes = at_shard at.shard (Set at.word bit ∷ []);
  grow = held;
  found = (refl, at_itself at.shard (Set at.word bit ∷ []));
}
bit_held before after (kind.Cancel sell buy limit seq) at bit held = record {
  notes = at_shard at.shard (Set at.word bit ∷ []);
  grow = held;
  found = (refl, at_itself at.shard (Set at.word bit ∷ []));
}

pub units_taken : (before after : List Seated) (of : Kind) (purse : Spot) (need : ℕ) → Reserved before after purse need
    → Takes before after of (wanted.Units purse need) outcome.Accepted
units_taken before after of purse need reserved = record {
  notes = at_shard purse.shard (map (Low purse.word) reserved.values);
  grow = reserved.grow;
  found = tt;
}

pub units_short : (before after : List Seated) (of : Kind) (purse : Spot) (seen need : ℕ)
    → IsShortOf before after purse seen need
    → Takes before after of (wanted.Units purse need) (outcome.Overdraft seen need)
units_short before after of purse seen need short = record {
  notes = short.notes;
  grow = short.grow;
  found = (refl, short.low);
}

-- ---- a candidate

module _ (parts : Parts) (plan : Plan) (tx : Tx) where
  pub static_decides : (seats : List Seated) (why : Static) → static_of parts tx ≡ Err why
      → Decides parts plan seats seats (record { tx = tx; outcome = outcome.Static why })
  static_decides seats why refused = record { notes = λ shard. []; grow = grow_none seats; found = refused }

  pub seq_held : (before after : List Seated) (at : Spot × ℕ) → static_of parts tx ≡ Ok tt
      → at ≡ number_spot parts plan tx → IsHeld before after at.0 at.1
      → Decides parts plan before after (record { tx = tx; outcome = outcome.SeqTaken })
  seq_held before after at passes is held =
      let notes = at_shard at.0.shard (Set at.0.word at.1 ∷ []) in
      record {
        notes = notes;
        grow = held;
        found = (
          passes,
          subst (λ (spot : Spot × ℕ). FoundSet notes spot.0 spot.1) is
              (at_itself at.0.shard (Set at.0.word at.1 ∷ [])),
        );
      }

  pub taken_decides : (before middle after : List Seated) (said : Outcome) → static_of parts tx ≡ Ok tt
      → Claims before middle (number_spot parts plan tx).0 (number_spot parts plan tx).1
      → Takes middle after tx.kind (wanted_of parts plan tx) said
      → Decides parts plan before after (record { tx = tx; outcome = said })
  taken_decides before middle after outcome.Accepted passes claims takes = record {
    notes = takes.notes;
    grow =
        grow_on before middle after
        (λ shard. bit_mark shard (number_spot parts plan tx).0 (number_spot parts plan tx).1)
        (λ shard. wanted_mark shard (wanted_of parts plan tx)) (λ shard. []) takes.notes claims takes.grow;
    found = passes;
  }
  taken_decides before middle after (outcome.Static why) passes claims takes = absurd takes.found
  taken_decides before middle after outcome.SeqTaken passes claims takes = absurd takes.found
  taken_decides before middle after outcome.OfferTaken passes claims takes = record {
    notes = takes.notes;
    grow =
        grow_on before middle after
        (λ shard. bit_mark shard (number_spot parts plan tx).0 (number_spot parts plan tx).1)
        (λ shard. []) (λ shard. []) takes.notes claims takes.grow;
    found = (passes, takes.found.0, takes.found.1);
  }
  taken_decides before middle after outcome.NameTaken passes claims takes = record {
    notes = takes.notes;
    grow =
        grow_on before middle after
        (λ shard. bit_mark shard (number_spot parts plan tx).0 (number_spot parts plan tx).1)
        (λ shard. []) (λ shard. []) takes.notes claims takes.grow;
    found = (passes, takes.found.0, takes.found.1);
  }
  taken_decides before middle after (outcome.Overdraft seen need) passes claims takes = record {
    notes = takes.notes;
    grow =
        grow_on before middle after
        (λ shard. bit_mark shard (number_spot parts plan tx).0 (number_spot parts plan tx).1)
        (λ shard. []) (λ shard. []) takes.notes claims takes.grow;
    found = (passes, takes.found);
  }
