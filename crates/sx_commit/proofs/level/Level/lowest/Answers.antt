use Rattle.std.proofs.Common.{◌≡◌, ◌∙◌, ℕ, ◌*◌, ◌≤◌, List, length, get_or, ap, arith, subst, sym}
use Rattle.sx_commit.specs.Commitments.{digest_at}
use Rattle.sx_commit.specs.Levels.{AreLowest, lowest}
use Rattle.sx_commit.proofs.Levels.{lowest_is, written_is}
use Rattle.sx_commit.proofs.level.Level.lowest.Goals as goal
use Rattle.sx_ledger.specs.declared.parts.Parts.{Parts}

pub returns : goal.returns
returns g c =
    let parts = c.args.ledger.now in
    let same = c.parts-parts.ensures.parts in
    let digests = c.make_lowest.new.digests in
    let empty = c.empty_lowest-empty.result in
    let made = c.in_ok-digests.digests in
    let as_many : length digests ≡ made.len =
    omega (arith, c.make_lowest.ensures.one_each, c.in_ok-digests.ensures.len) in
    let counted : length c.items.result.now ≡ length parts.accounts =
    ap length c.items.ensures ∙ ap (λ (p : Parts). length p.accounts) same in
    let enough : length parts.accounts ≤ 128 * length digests =
    omega (arith, as_many, counted, c.div_ceil-count.ensures, c.in_ok-digests.ensures.len) in
    subst (λ (all : List (List ℕ)). (place : ℕ) → get_or all place empty ≡ digest_at parts lowest place)
    (sym (written_is made.len digests made.items as_many))
    (lowest_is parts digests empty enough
    (subst (λ (p : Parts). AreLowest p digests) same c.make_lowest.ensures.digests)
    c.empty_lowest-empty.ensures)
