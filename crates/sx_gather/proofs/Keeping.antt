-- Accepted candidates that are kept in place, as a loop finds them.
use Rattle.std.proofs.Common.{◌≡◌, ℕ, ◌+◌, ◌<◌, ◌≤◌, Bool, true, false, List, [], ◌∷◌, ◌++◌, length, get_or}
use Rattle.std.proofs.Common.{drop, set, take, Some, sym, ap, ◌∙◌, refl, arith}
use Rattle.std.specs.Prelude.{slice_get, if◌then◌else◌}
use Rattle.std.proofs.lemmas.List.{append-nil, drop-drop, drop-set-lt, drop_more, length-set, take_more_set}
use Rattle.std.proofs.lemmas.Option.{slice_get_read}
use Rattle.sx_outcome.specs.declared.outcome.Outcome.{Outcome}
use Rattle.sx_outcome.specs.Gathering.{accepted, decisions, is_accepted}
use Rattle.sx_tx.specs.declared.tx.Tx.{Tx}
use Rattle.sx_gather.proofs.Decided.{accepted_more}
use Rattle.sx_gather.proofs.Seats.{entry}

-- The list began as the candidates. Those of them before the place that are accepted stand in front, and from the
-- place on the list is as it was.
pub record KeepsInPlace (candidates : List Tx) (outcomes : List Outcome) (txs : List Tx) (kept place : ℕ) : Type 0 where
  pub front : take kept txs ≡ accepted (decisions candidates (take place outcomes))
  pub rest : drop place txs ≡ drop place candidates
  pub behind : kept ≤ place
  pub long : length txs ≡ length candidates

module _ {candidates : List Tx} {outcomes : List Outcome} {txs : List Tx} {kept place : ℕ}
    (is : KeepsInPlace candidates outcomes txs kept place) where
  tx_at : (tx : Tx) → place < length txs → tx ≡ get_or txs place tx → slice_get candidates place ≡ Some tx
  tx_at tx lt read =
      let inside : place < length candidates = omega (arith, lt, is.long) in
      slice_get_read candidates (length candidates) place tx refl inside
      (read ∙ ap (λ (list : List Tx). get_or list 0 tx)
      (sym (drop_more txs place tx lt) ∙ is.rest ∙ drop_more candidates place tx inside))

  front_more : (b : Bool) (tx : Tx) (said : Outcome) → slice_get candidates place ≡ Some tx
      → slice_get outcomes place ≡ Some said → is_accepted said ≡ b
      → take kept txs ++ (if b then tx ∷ [] else []) ≡ accepted (decisions candidates (take (place + 1) outcomes))
  front_more b tx said at there is_b =
      ap (λ (list : List Tx). list ++ (if b then tx ∷ [] else [])) is.front
      ∙ ap (λ (c : Bool). accepted (decisions candidates (take place outcomes)) ++ (if c then tx ∷ [] else []))
      (sym is_b)
      ∙ sym (accepted_more candidates outcomes place tx said at there)

  rest_more : drop (place + 1) txs ≡ drop (place + 1) candidates
  rest_more = sym (drop-drop 1 place txs) ∙ ap (drop 1) is.rest ∙ drop-drop 1 place candidates

  -- the next one is accepted
  pub kept_more : (tx : Tx) (said : Outcome) → place < length txs → tx ≡ get_or txs place tx
      → slice_get outcomes place ≡ Some said → is_accepted said ≡ true
      → KeepsInPlace candidates outcomes (set txs kept tx) (kept + 1) (place + 1)
  kept_more tx said lt read there taken = record {
    front =
        take_more_set txs kept tx (omega (arith, lt, is.behind))
        ∙ front_more true tx said (tx_at tx lt read) there taken;
    rest = drop-set-lt (place + 1) txs kept tx (omega (arith, is.behind)) ∙ rest_more;
    behind = omega (arith, is.behind);
    long = length-set txs kept tx ∙ is.long;
  }

  -- the next one is not
  pub left_out : (said : Outcome) → place < length txs → slice_get outcomes place ≡ Some said
      → is_accepted said ≡ false → KeepsInPlace candidates outcomes txs kept (place + 1)
  left_out said lt there refused =
      let one = entry candidates place (omega (arith, lt, is.long)) in
      record {
        front = sym (append-nil (take kept txs)) ∙ front_more false one.0 said one.1 there refused;
        rest = rest_more;
        behind = omega (arith, is.behind);
        long = is.long;
      }
