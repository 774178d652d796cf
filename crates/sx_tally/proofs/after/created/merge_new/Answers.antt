use Rattle.std.proofs.Common.{◌≡◌, ◌≤◌, ◌<◌, ◌+◌, ◌-◌, ℕ, List, [], ◌∷◌, ◌++◌, length, get_or, map, take, set}
use Rattle.std.proofs.Common.{ap, subst, sym, ◌∙◌, rules, arith}
use Rattle.std.specs.List.Sorted.{IsPermutation}
use Rattle.std.proofs.lemmas.List.{length-set}
use Rattle.std.proofs.lemmas.List.Sorted.{IsPermutation-trans}
use Rattle.sx_tally.specs.Accounts.{fresh}
use Rattle.sx_tally.proofs.Places.{known_placed_at, made_more, new_placed_at, parts}
use Rattle.sx_tally.proofs.after.created.merge_new.Goals as goal
use Rattle.sx_tally.proofs.after.created.merge_new.Goals.{then-known-gt0+then-accounts-known, else-known-gt0+in_ok-accounts}
use Rattle.sx_ledger.specs.declared.account.Account.{Account}

pub loop-filled-preserved : goal.loop-filled-preserved
loop-filled-preserved c =
    let holds = c.loop-filled.invariant in
    let ids : List ℕ = c.args.ids.now in
    let xs : List Account = c.loop-filled.accounts in
    let left : ℕ = c.loop-filled.left in
    let filled : ℕ = c.loop-filled.filled in
    let make : ℕ → Account = fresh c.args.assets in
    let free : left + filled ≤ length xs = holds.free in
    let more : filled < length xs = search (rules, arith) in
    let some : 1 ≤ left = search (rules, arith) in
    elim c.if-known-gt0.branch [
      | then-known-gt0+then-accounts-known w ↦
          let ys : List Account = w.swap.new.self in
          let some_known : 0 < length xs - 1 - filled + 1 - left = w.if-known-gt0.true in
          let same : length ys ≡ length xs = w.swap.ensures.len in
          let moved =
          known_placed_at xs ys (map make (take left ids)) (length xs - 1 - filled + 1 - left - 1)
          (length xs - 1 - filled) (length xs - filled - left) (length xs - filled)
          (length ys - (filled + 1) - left) (length ys - (filled + 1)) w.index-accounts-known.result
          (omega arith) (omega arith) w.swap.ensures.by_index
          (omega arith) (omega arith) (omega arith) (omega arith) in
          rw (w.accounts-is, w.left-is)
          (record {
            free = omega arith;
            fewer = holds.fewer;
            same = same ∙ holds.same;
            moves = IsPermutation-trans _ _ _ holds.moves moved;
          })
      | else-known-gt0+in_ok-accounts w ↦
          let account : Account = w.in_ok-accounts.field-0 in
          let place : ℕ = length xs - 1 - filled in
          let ys : List Account = set xs place account in
          let same : length ys ≡ length xs = length-set xs place account in
          let is : account ≡ make (get_or ids (left - 1) 0) = search rules in
          let all : left ≡ left - 1 + 1 = omega arith in
          let made : map make (take left ids) ≡ map make (take (left - 1) ids) ++ account ∷ [] =
          ap (λ (n : ℕ). map make (take n ids)) all
          ∙ made_more make ids (left - 1) 0 (omega (arith, holds.fewer))
          ∙ ap (λ (one : Account). map make (take (left - 1) ids) ++ one ∷ []) (sym is) in
          let given : List Account → List Account = λ new. parts xs (length xs - filled - left) new (length xs - filled) in
          let moved =
          new_placed_at xs (map make (take (left - 1) ids)) account (length xs - filled - left) place
          (length xs - filled - left) (length xs - filled)
          (length ys - (filled + 1) - (left - 1)) (length ys - (filled + 1))
          (omega arith) (omega arith) (omega arith) (omega arith) (omega arith) (omega arith) in
          rw (w.accounts-is, w.left-is)
          (record {
            free = omega arith;
            fewer = omega (arith, holds.fewer);
            same = same ∙ holds.same;
            moves = subst (IsPermutation _) (ap given made ∙ moved) holds.moves;
          })
    ]
