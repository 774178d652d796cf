-- From a payload's value to an item.
use Rattle.std.proofs.Common.{ℕ, ◌+◌, ◌^◌, ◌<◌, List, length, Result, Ok, Err, ap, arith}
use Rattle.std.specs.Prelude.{IfErr}
use Rattle.sx_bytes.specs.declared.fault.FormFault.{FormFault}
use Rattle.sx_bytes.specs.declared.fault.ReadError.{ReadError}
use Rattle.sx_bytes.specs.declared.fault.ReadError.TheVariants as read_error
use Rattle.sx_bytes.specs.FaultPlaces.{PayloadFaultsWithin}
use Rattle.sx_bytes.specs.Grammar.{Fails, Gives}
use Rattle.sx_input.specs.Stream.{IsInPayload, IsWithin}
use Rattle.sx_meaning.specs.Items.{Item, as_item}

pub gives_item : {X : Type 0} (make : X → Item) (r : Result X ReadError) (d : Result X FormFault)
    → Gives (λ (x : X). x) r d → Gives make r (as_item make d)
gives_item {X} make (Ok x) d gives = ap (λ (e : Result X FormFault). as_item make e) gives
gives_item make (Err read_error.NoMemory) d gives = tt
gives_item {X} make (Err (read_error.Form fault)) d gives = ap (λ (e : Result X FormFault). as_item make e) gives

pub fails_item : {X : Type 0} (make : X → Item) (e : ReadError) (d : Result X FormFault) → Fails e d
    → Fails e (as_item make d)
fails_item make read_error.NoMemory d fails = tt
fails_item {X} make (read_error.Form fault) d fails = ap (λ (e : Result X FormFault). as_item make e) fails

-- a fault of a payload is in it, or right after it
pub inside : {X : Type 0} (bytes : List ℕ) (read : List ℕ → Result X FormFault) (e : ReadError)
    → PayloadFaultsWithin read → Fails e (read bytes) → IsInPayload bytes e
inside bytes read read_error.NoMemory within fails = tt
inside bytes read (read_error.Form fault) within fails = within bytes fault fails

pub inside_where_wrong : {X : Type 0} (bytes : List ℕ) (read : List ℕ → Result X FormFault) (r : Result X ReadError)
    → PayloadFaultsWithin read → Gives (λ (x : X). x) r (read bytes) → IfErr r (IsInPayload bytes)
inside_where_wrong bytes read (Ok x) within gives = tt
inside_where_wrong bytes read (Err e) within gives = inside bytes read e within gives

-- a fault that is in a payload of a record has an offset of 64 bits
pub near : (at : ℕ) (payload : List ℕ) (e : ReadError) → IsInPayload payload e → at + length payload < 2 ^ 64
    → IsWithin at e
near at payload read_error.NoMemory inside small = tt
near at payload (read_error.Form fault) inside small = omega (arith, inside)
