-- Decoding a script, or a payload of one, inverts encoding it.
use Rattle.std.proofs.Common.{◌≡◌, ℕ, ◌<◌, ◌≤◌, cond, eqb, ltb, List, [], ◌∷◌, ◌++◌, length, Result, Ok, Err, refl}
use Rattle.std.proofs.Common.{sym, ap, subst, ◌∙◌, append_assoc, arith}
use Rattle.std.specs.Prelude.{IfOk}
use Rattle.std.specs.List.{flat_map}
use Rattle.std.proofs.Math.Nat.{mod-eq_of_lt}
use Rattle.std.proofs.lemmas.Bool.{eqb-true, eq-eqb, ltb-true, lt-ltb}
use Rattle.std.proofs.lemmas.List.{append-nil, nil_from_length}
use Rattle.std.proofs.lemmas.List.Elements.{All-from_recursion, recursion_from_All}
use Rattle.byteorder.specs.Endian.{big_bytes}
use Rattle.sx_bytes.specs.declared.fault.Form.TheVariants as form
use Rattle.sx_bytes.specs.declared.fault.FormFault.{FormFault}
use Rattle.sx_bytes.specs.declared.fault.ReadError.{ReadError}
use Rattle.sx_bytes.specs.Field.{AreBytes}
use Rattle.sx_bytes.specs.Cursor.{Cursor, rest, left}
use Rattle.sx_bytes.specs.Grammar.{◌>>=◌, Gives, between, field_at, many_at}
use Rattle.sx_bytes.proofs.Grammar.{bind_ok, done, guard_ok, length-rest, field_takes, field_again, Takes, Takes-then}
use Rattle.sx_bytes.proofs.Grammar.{Again, many_takes, many_again}
use Rattle.sx_bytes.proofs.DecodingSteps.{bytes_after, range_takes, range_again, again_then}
use Rattle.sx_bytes.proofs.Parts.{TakesAll, ReadsAgain, made_is}
use Rattle.sx_outcome.specs.declared.script.Script.{Script}
use Rattle.sx_outcome.specs.Laws.{ScriptsFit}
use Rattle.sx_outcome.specs.ScriptDecoding.{turn_at, script_fields_at, script_at}
use Rattle.sx_outcome.specs.Scripts.{most_actors, most_turns, script_bytes, IsScript}

-- ---- a turn

abbrev one : ℕ → List ℕ
one turn = turn ∷ []

turn_takes : (a : ℕ) → TakesAll (turn_at a) one (λ turn. turn < a)
unfolding turn_at
turn_takes a c next x bytes e =
    let t = field_takes 1 (λ turn. ltb turn a) form.Actor c next x bytes e in
    (subst (λ (y : ℕ). Takes c (one y) next) (mod-eq_of_lt t.2) t.0, ltb-true x a t.1)

turn_again : (a : ℕ) → a ≤ 8 → ReadsAgain (turn_at a) one (λ turn. turn < a)
unfolding turn_at
turn_again a few c x after is within e =
    let byte : x < 256 = omega arith in
    let text : one x ≡ big_bytes 1 x = ap one (sym (mod-eq_of_lt byte)) in
    field_again 1 (λ turn. ltb turn a) form.Actor c x after byte (lt-ltb x a is) within
    (e ∙ ap (λ (t : List ℕ). t ++ after) text)

-- the turns, as their bytes
flat_map-one : (turns : List ℕ) → flat_map one turns ≡ turns
flat_map-one [] = refl
flat_map-one (turn ∷ turns) = ap (λ (ts : List ℕ). turn ∷ ts) (flat_map-one turns)

-- ---- a script

abbrev made : ℕ → List ℕ → Script
made actors turns = record { actors = actors; turns = turns }

abbrev at_turns : ℕ → ℕ × Cursor → Result (Script × Cursor) FormFault
at_turns actors count = many_at (turn_at actors) count.0 count.1 >>= λ turns. Ok (made actors turns.0, turns.1)

abbrev at_count : ℕ × Cursor → Result (Script × Cursor) FormFault
at_count actors = field_at 4 (between 0 most_turns) form.TooMany actors.1 >>= at_turns actors.0

pub script_takes : TakesAll script_fields_at script_bytes IsScript
unfolding script_fields_at
script_takes c next x bytes e =
    let a = bind_ok (field_at 1 (between 1 most_actors) form.Actor c) at_count (x, next) e in
    let actors = a.0.0 in
    let n = bind_ok (field_at 4 (between 0 most_turns) form.TooMany a.0.1) (at_turns actors) (x, next) a.2 in
    let t = bind_ok (many_at (turn_at actors) n.0.0 n.0.1) (λ turns. Ok (made actors turns.0, turns.1)) (x, next) n.2 in
    let turns = t.0.0 in
    let t0 = range_takes 1 1 most_actors form.Actor c a.0.1 actors bytes a.1 in
    let bytes1 = bytes_after c a.0.1 (big_bytes 1 actors) t0.0 bytes in
    let t1 = range_takes 4 0 most_turns form.TooMany a.0.1 n.0.1 n.0.0 bytes1 n.1 in
    let bytes2 = bytes_after a.0.1 n.0.1 (big_bytes 4 n.0.0) t1.0 bytes1 in
    let t2 = many_takes (turn_at actors) one (λ turn. turn < actors) (turn_takes actors) n.0.0 n.0.1 t.0.1 turns
    bytes2 t.1 in
    let text : Takes n.0.1 turns t.0.1 = subst (λ (s : List ℕ). Takes n.0.1 s t.0.1) (flat_map-one turns) t2.0 in
    let count : Takes a.0.1 (big_bytes 4 (length turns)) n.0.1 =
    subst (λ (m : ℕ). Takes a.0.1 (big_bytes 4 m) n.0.1) (sym t2.1) t1.0 in
    let few : length turns ≤ most_turns = subst (λ (m : ℕ). m ≤ most_turns) (sym t2.1) t1.2 in
    let counted = Takes-then a.0.1 n.0.1 t.0.1 (big_bytes 4 (length turns)) turns count text in
    let all : Takes c (script_bytes (made actors turns)) t.0.1 =
    Takes-then c a.0.1 t.0.1 (big_bytes 1 actors) (big_bytes 4 (length turns) ++ turns) t0.0 counted in
    let is : IsScript (made actors turns) = record {
      some_actor = t0.1;
      few_actors = t0.2;
      few_turns = few;
      each = All-from_recursion (λ turn. turn < actors) turns t2.2;
    } in
    let m = made_is (made actors turns) x t.0.1 next t.2 in
    subst (λ (y : Script). Takes c (script_bytes y) next × IsScript y) m.0
    (subst (λ (d : Cursor). Takes c (script_bytes (made actors turns)) d) m.1 all, is)

pub script_again : ReadsAgain script_fields_at script_bytes IsScript
unfolding script_fields_at
script_again c x after is within e =
    let actors = x.actors in
    let turns = x.turns in
    let count = big_bytes 4 (length turns) in
    let a =
    range_again 1 1 most_actors form.Actor c actors ((count ++ turns) ++ after) (omega arith) is.some_actor
    is.few_actors within (e ∙ append_assoc (big_bytes 1 actors) (count ++ turns) after) in
    let n =
    range_again 4 0 most_turns form.TooMany a.next (length turns) (turns ++ after) (omega arith) (omega arith)
    is.few_turns a.within (a.rest_is ∙ append_assoc count turns after) in
    let t =
    many_again (turn_at actors) one (λ turn. turn < actors) (turn_again actors is.few_actors) turns n.next after
    (recursion_from_All (λ turn. turn < actors) turns is.each) n.within
    (n.rest_is ∙ ap (λ (s : List ℕ). s ++ after) (sym (flat_map-one turns))) in
    let end : Again (done {A = Script × Cursor} (x, t.next)) t.next x after =
    record { next = t.next; is = refl; rest_is = t.rest_is; same = refl; within = t.within } in
    let some = many_at (turn_at actors) (length turns) n.next in
    let all = again_then some (λ turns. Ok (made actors turns.0, turns.1)) n.next turns x after after t end in
    let counted = field_at 4 (between 0 most_turns) form.TooMany a.next in
    again_then (field_at 1 (between 1 most_actors) form.Actor c) at_count c actors x ((count ++ turns) ++ after) after a
    (again_then counted (at_turns actors) a.next (length turns) x (turns ++ after) after n all)

-- ---- a whole payload

abbrev start : List ℕ → Cursor
start bytes = record { bytes = bytes; place = 0 }

abbrev at_end : Script × Cursor → Result Script FormFault
at_end x = cond (eqb (left x.1) 0) (Ok x.0) (Err (record { at = x.1.place; fault = form.Rest }))

payload_takes : (bytes : List ℕ) (x : Script) → AreBytes bytes → script_at bytes ≡ Ok x
    → IsScript x × (bytes ≡ script_bytes x)
unfolding script_at
payload_takes bytes x are e =
    let a = bind_ok (script_fields_at (start bytes)) at_end x e in
    let t = script_takes (start bytes) a.0.1 a.0.0 are a.1 in
    let g = guard_ok (eqb (left a.0.1) 0) a.0.0 x (record { at = a.0.1.place; fault = form.Rest }) a.2 in
    let ended : left a.0.1 ≡ 0 = eqb-true (left a.0.1) 0 g.0 in
    let none : rest a.0.1 ≡ [] = nil_from_length (rest a.0.1) (length-rest a.0.1 ∙ ended) in
    let text : bytes ≡ script_bytes a.0.0 =
    t.0.parts ∙ ap (λ (r : List ℕ). script_bytes a.0.0 ++ r) none ∙ append-nil (script_bytes a.0.0) in
    subst (λ (y : Script). IsScript y × (bytes ≡ script_bytes y)) g.1 (t.1, text)

payload_again : (x : Script) → IsScript x → script_at (script_bytes x) ≡ Ok x
unfolding script_at
payload_again x is =
    let a = script_again (start (script_bytes x)) x [] is (omega arith) (sym (append-nil (script_bytes x))) in
    let ended : left a.next ≡ 0 = sym (length-rest a.next) ∙ ap length a.rest_is in
    rw a.is (rw (eq-eqb (left a.next) 0 ended) refl)

-- ---- what the reader answers

pub found_in : (bytes : List ℕ) (r : Result Script ReadError) → AreBytes bytes
    → Gives (λ x. x) r (script_at bytes) → IfOk r (λ x. IsScript x × (bytes ≡ script_bytes x))
found_in bytes (Ok x) are e = payload_takes bytes x are e
found_in bytes (Err error) are e = tt

pub only_in : (bytes : List ℕ) (r : Result Script ReadError) (x : Script)
    → Gives (λ found. found) r (script_at bytes) → IsScript x → bytes ≡ script_bytes x
    → Gives (λ found. found) r (Ok x)
only_in bytes r x given is e =
    subst (λ (read : Result Script FormFault). Gives (λ found. found) r read) (ap script_at e ∙ payload_again x is)
    given

-- ---- lengths

pub scripts_fit : ScriptsFit
scripts_fit x few = omega arith
