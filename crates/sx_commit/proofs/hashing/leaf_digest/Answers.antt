use Rattle.std.proofs.Common.{◌≡◌, ℕ, List, [], ◌∷◌, ◌++◌, take, ap, sym, ◌∙◌, append_assoc}
use Rattle.std.specs.List.{flat_map}
use Rattle.std.proofs.lemmas.Grind.{flat_map-append}
use Rattle.std.proofs.lemmas.List.{take-append-drop}
use Rattle.byteorder.specs.Endian.{big_bytes}
use Rattle.sha2.specs.Sha256.{sha256}
use Rattle.sx_commit.specs.Commitments.{leaf_bytes}
use Rattle.sx_commit.proofs.hashing.leaf_digest.Goals as goal
use Rattle.sx_state.specs.Encoding.{window_bytes}

pub returns-clause-hash : goal.returns-clause-hash
returns-clause-hash c =
    let version = c.args.version in
    let account = c.args.account.now in
    let first = c.split_at.result.0.now in
    let others = c.split_at.result.1.now in
    let units = flat_map (big_bytes 8) in
    let id = big_bytes 8 account.id.0 in
    let window = window_bytes version account.window in
    let text = take c.put_leaf-end.result c.put_leaf-end.new.text in
    let held = c.add_balances.ensures text (c.update.ensures [] c.new-hasher.ensures) in
    let whole : first ++ others ≡ account.balances =
    (λ i. c.split_at.ensures.front i ++ c.split_at.ensures.back i)
    ∙ take-append-drop c.min.result c.items-balances.result.now ∙ c.items-balances.ensures in
    let all : units first ++ units others ≡ units account.balances =
    sym (flat_map-append (big_bytes 8) first others) ∙ ap units whole in
    let pieces : text ++ units others ≡ leaf_bytes version account =
    ap (λ (laid : List ℕ). laid ++ units others) c.put_leaf-end.ensures.bytes
    ∙ ap (λ (after : List ℕ). 0 ∷ version ∷ after)
    (append_assoc id (window ++ units first) (units others)
    ∙ ap (λ (after : List ℕ). id ++ after)
    (append_assoc window (units first) (units others) ∙ ap (λ (after : List ℕ). window ++ after) all)) in
    c.of.ensures.bytes ∙ c.finalize.ensures (text ++ units others) held ∙ ap sha256 pieces
