use Rattle.std.proofs.Common.{◌≡◌, ◌≤◌, ◌*◌, ℕ, List, length, get_or, arith, subst, sym}
use Rattle.sx_commit.proofs.Levels.{above_is, node_in, written_is}
use Rattle.sx_commit.proofs.level.Level.above.Goals as goal

pub returns : goal.returns
returns c =
    let below = c.args.self.now.digests.items in
    let nothing = c.args.self.now.empty in
    let digests = c.make_nodes.new.digests in
    let empty = c.node_digest-empty.result in
    let made = c.in_ok-digests.digests in
    let as_many : length digests ≡ made.len = omega (arith, c.make_nodes.ensures.one_each, c.deref_mut.ensures.len) in
    let enough : length below ≤ 2 * length digests =
    omega (arith, as_many, c.len.ensures, c.div_ceil-count.ensures, c.in_ok-digests.ensures.len) in
    subst (λ (all : List (List ℕ)). (place : ℕ) → get_or all place empty ≡ node_in below nothing place)
    (sym (written_is made.len digests made.items as_many))
    (above_is below nothing digests empty enough c.make_nodes.ensures.nodes c.node_digest-empty.ensures.hash)
