-- Where reading finds a fault, the next item has it.
use Rattle.std.proofs.Common.{◌≡◌, ℕ, Bool, true, false, List, [], ◌∷◌, Option, Some, None, Result, Ok, Err, refl, sym}
use Rattle.std.proofs.Common.{ap, subst, ◌∙◌}
use Rattle.std.specs.Prelude.{IfSome, ◌&&◌, ◌==◌, if◌then◌else◌}
use Rattle.sx_bytes.specs.declared.fault.Form.TheVariants as form
use Rattle.sx_bytes.specs.declared.fault.FormFault.{FormFault}
use Rattle.sx_input.specs.declared.stop.Stop.{Stop}
use Rattle.sx_input.specs.declared.stop.Stop.TheVariants as stop
use Rattle.sx_input.specs.Stream.{FailsAs, FaultsAt, Reads, Stops, TakesRecord, WasAtEnd}
use Rattle.sx_meaning.specs.Expected.{as_some, end_only, item_at, item_in, item_of, needed, record_of, shifted}
use Rattle.sx_meaning.specs.Items.{Item, payload_at}
use Rattle.sx_record.specs.declared.frame.Record.{Record}
use Rattle.sx_record.specs.Decoding.{go_on, record_at}
use Rattle.sx_record.specs.Frame.{record_bytes}
use Rattle.sx_record.specs.Stream.{DecodesStream, Took}
use Rattle.sx_record.specs.Tags.{block_tag}
use Rattle.sx_record.proofs.Encoding.{ends_only_at_end}

-- ---- no record

-- a fault of the frame
fault_of_frame : (tags : List ℕ) (end_too full : Bool) (at : ℕ) (a b : Option (List ℕ)) (fault : FormFault)
    → FaultsAt (record_at tags at) a b fault → FaultsAt (item_at (record_of tags end_too full) at) a b fault
unfolding item_at
fault_of_frame tags end_too full at None b fault faults = tt
fault_of_frame tags end_too full at (Some bytes) b fault faults = (
  faults.0,
  ap (λ (p : Result (Option Record) FormFault × List ℕ). go_on p (item_of end_too full at)) faults.1,
  faults.2,
)

pub no_record : (tags : List ℕ) (end_too full : Bool) (at : ℕ) (a b : Option (List ℕ)) (s : Stop)
    → Stops (record_at tags at) a b s → Stops (item_at (record_of tags end_too full) at) a b s
no_record tags end_too full at a b (stop.Malformed fault) stops = fault_of_frame tags end_too full at a b fault stops
no_record tags end_too full at a b (stop.Refused number why) stops = absurd stops
no_record tags end_too full at a b stop.ReadFault stops = tt
no_record tags end_too full at a b stop.NoMemory stops = tt

-- the input ends where it may not
pub missing : (tags : List ℕ) (full : Bool) (at : ℕ) (a b : Option (List ℕ)) → Reads (record_at tags at) a b None
    → FaultsAt (item_at (record_of tags false full) at) a b (record { at = at; fault = form.Short })
unfolding item_at
missing tags full at None b reads = tt
missing tags full at (Some bytes) b reads = (
  reads.0,
  ap (λ (p : Result (Option Record) FormFault × List ℕ). go_on p (item_of false full at)) reads.1,
  reads.2,
)

-- ---- a record that holds no item

pub bad_record : (tags : List ℕ) (end_too full : Bool) (at : ℕ) (a b : Option (List ℕ)) (found : Record)
    (fault : FormFault) → Reads (record_at tags at) a b (Some found)
    → ((left : List ℕ) → item_in full at found left ≡ (Err fault, left))
    → FaultsAt (item_at (record_of tags end_too full) at) a b fault
unfolding item_at
bad_record tags end_too full at None b found fault reads bad = tt
bad_record tags end_too full at (Some bytes) b found fault reads bad = (
  reads.0,
  ap (λ (p : Result (Option Record) FormFault × List ℕ). go_on p (item_of end_too full at)) reads.1
      ∙ ap (λ (p : Result Item FormFault × List ℕ). go_on p as_some) (bad reads.0),
  reads.2,
)

module _ (full : Bool) (at : ℕ) (found : Record) (left : List ℕ) where
  pub one_too_many : (full && (found.tag == block_tag)) ≡ true →
      item_in full at found left ≡ (Err (record { at = at; fault = form.TooMany }), left)
  one_too_many is =
      ap (λ (b : Bool). if b then (Err (record { at = at; fault = form.TooMany }), left) else
      (shifted found.at (payload_at found.tag found.payload), left)) is

  pub bad_payload : (fault : FormFault) → (full && (found.tag == block_tag)) ≡ false
      → shifted found.at (payload_at found.tag found.payload) ≡ Err fault
      → item_in full at found left ≡ (Err fault, left)
  bad_payload fault is bad =
      ap (λ (b : Bool). if b then (Err (record { at = at; fault = form.TooMany }), left) else
      (shifted found.at (payload_at found.tag found.payload), left)) is
      ∙ ap (λ (d : Result Item FormFault). (d, left)) bad

-- where one of these records has to be there
pub listed_stops : (tags : List ℕ) (at : ℕ) (a b : Option (List ℕ)) (found : Record) (s : Stop)
    → Reads (record_at tags at) a b (Some found)
    → FailsAs (shifted found.at (payload_at found.tag found.payload)) s
    → Stops (item_at (record_of tags false false) at) a b s
listed_stops tags at a b found (stop.Malformed fault) reads fails =
    bad_record tags false false at a b found fault reads (λ left. bad_payload false at found left fault refl fails)
listed_stops tags at a b found (stop.Refused number why) reads fails = absurd fails
listed_stops tags at a b found stop.ReadFault reads fails = tt
listed_stops tags at a b found stop.NoMemory reads fails = tt

pub payload_stops : (tag at : ℕ) (a b : Option (List ℕ)) (found : Record) (s : Stop)
    → Reads (record_at (tag ∷ []) at) a b (Some found) → found.tag ≡ tag
    → FailsAs (shifted found.at (payload_at tag found.payload)) s → Stops (item_at (needed tag) at) a b s
payload_stops tag at a b found s reads tagged fails =
    listed_stops (tag ∷ []) at a b found s reads
    (subst (λ (t : ℕ). FailsAs (shifted found.at (payload_at t found.payload)) s) (sym tagged) fails)

-- ---- the end

pub at_its_end : (tags : List ℕ) (at : ℕ) (a b : Option (List ℕ)) → Reads (record_at tags at) a b None → WasAtEnd a b
at_its_end tags at None b reads = tt
at_its_end tags at (Some bytes) b reads =
    let ended = ends_only_at_end tags bytes reads.0 at reads.1 in
    (ended.0, reads.2 ∙ ap (λ (r : List ℕ). Some r) ended.1)

-- a byte more
pub not_ended : (at : ℕ) (a b : Option (List ℕ)) (fault : FormFault) → FaultsAt (record_at [] at) a b fault
    → FaultsAt (item_at end_only at) a b (record { at = at; fault = form.Rest })
unfolding item_at record_at
not_ended at None b fault faults = tt
not_ended at (Some []) b fault faults =
    absurd (let answer : ◌≡◌ {A = Result (Option Record) FormFault} (Ok None) (Err fault) =
    ap (λ (p : Result (Option Record) FormFault × List ℕ). p.0) faults.1 in cc)
not_ended at (Some (byte ∷ bytes)) b fault faults =
    let left = ap (λ (p : Result (Option Record) FormFault × List ℕ). p.1) faults.1 in
    (bytes, refl, faults.2 ∙ ap (λ (r : List ℕ). Some r) (sym left))

-- ---- a record, or the end

pub takes_record : (tags : List ℕ) (at : ℕ) (a b : Option (List ℕ)) (found : Option Record)
    → DecodesStream (record_at tags at) a b (Ok found)
    → IfSome found (λ r. Took a b (record_bytes r.tag r.payload)) → TakesRecord a b found
takes_record tags at a b (Some found) decodes took = took
takes_record tags at None b None decodes took = tt
takes_record tags at (Some bytes) b None decodes took =
    let ended = ends_only_at_end tags bytes decodes.0 at decodes.1 in
    (ended.0, decodes.2 ∙ ap (λ (r : List ℕ). Some r) ended.1)
