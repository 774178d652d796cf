-- Pieces that are put one after the other.
use Rattle.std.proofs.Common.{◌≡◌, ◌≤◌, ◌<◌, ◌+◌, ℕ, Bool, List, ◌++◌, Option, Some, None, length, take, drop, get_or}
use Rattle.std.proofs.Common.{suc, add-one, sym, ap, ◌∙◌, arith, append_assoc}
use Rattle.std.specs.Prelude.{IsTrue, Result, Ok, Err, OnErr}
use Rattle.std.specs.List.{flat_map}
use Rattle.std.proofs.lemmas.Grind.{flat_map-append}
use Rattle.std.proofs.lemmas.List.{length-append, take-append-drop, take-append-le}
use Rattle.std.proofs.Math.Seq.{drop-cons, take-append-add}
use Rattle.sx_base.specs.Outside.{Appends, AppendsPrefix}

-- the pieces one behind the other
abbrev pub all : List (List ℕ) → List ℕ
all pieces = flat_map (λ bytes. bytes) pieces

-- how far it went between two of them
pub record PutSoFar (before after : Option (List ℕ)) (strict_before strict : Bool) (faults_before faults : ℕ)
    (bytes : List ℕ) : Type 0 where
  pub kept : strict ≡ strict_before
  pub steady : IsTrue strict_before → faults ≡ faults_before
  pub rises : faults_before ≤ faults
  pub written : Appends before after bytes

-- the pieces before a place, the one there, and those behind it
pub parted : (pieces : List (List ℕ)) (i : ℕ) (piece : List ℕ) → i < length pieces → piece ≡ get_or pieces i piece
    → all pieces ≡ all (take i pieces) ++ (piece ++ all (drop (i + 1) pieces))
parted pieces i piece within is =
    ap all (sym (take-append-drop i pieces)) ∙ flat_map-append (λ bytes. bytes) (take i pieces) (drop i pieces)
    ∙ ap (λ (rest : List (List ℕ)). all (take i pieces) ++ all rest) (drop-cons pieces i piece within)
    ∙ ap (λ (one : List ℕ). all (take i pieces) ++ (one ++ all (drop (suc i) pieces))) (sym is)
    ∙ ap (λ (n : ℕ). all (take i pieces) ++ (piece ++ all (drop n pieces))) (sym (add-one i))

-- a prefix of a piece, put behind those before it, is one of all
pub prefix_more : (before middle after : Option (List ℕ)) (done piece rest whole : List ℕ) → Appends before middle done
    → AppendsPrefix middle after piece → whole ≡ done ++ (piece ++ rest) → AppendsPrefix before after whole
prefix_more None middle after done piece rest whole written put is = tt
prefix_more (Some old) middle after done piece rest whole written put is =
    let more : AppendsPrefix (Some (old ++ done)) after piece = rw written at put in
    let n = more.0 in
    let within : n ≤ length piece = more.1 in
    let long : length whole ≡ length done + (length piece + length rest) =
    ap length is ∙ length-append done (piece ++ rest) ∙ ap (λ m. length done + m) (length-append piece rest) in
    let front : take (length done + n) whole ≡ done ++ take n piece =
    ap (take (length done + n)) is ∙ take-append-add done (piece ++ rest) n
    ∙ ap (λ (xs : List ℕ). done ++ xs) (take-append-le n piece rest within) in (
      length done + n,
      omega (arith, within, long),
      more.2 ∙ ap Some (append_assoc old done (take n piece)) ∙ ap (λ (xs : List ℕ). Some (old ++ xs)) (sym front),
    )

pub on_err : {T E P : Type 0} (r : Result T E) → P → OnErr r P
on_err (Ok x) p = tt
on_err (Err e) p = p
