use Rattle.std.proofs.Common.{◌≡◌, ◌+◌, ℕ, length, sym, ap, subst, ◌∙◌, arith, rules}
use Rattle.sx_block.specs.Validity.{digest_of_ledger}
use Rattle.sx_follow.specs.Ahead.{AreAhead}
use Rattle.sx_follow.specs.Follower.{Followed, IsFollower}
use Rattle.sx_follow.proofs.Taking.{all_taken, few_taken}
use Rattle.sx_follow.proofs.follower.Follower.take_batch.Goals as goal
use Rattle.sx_ledger.specs.declared.parts.Parts.{Parts}

pub overflow_cast-self : goal.overflow_cast-self
overflow_cast-self c =
    let f = c.args.self.now in
    let claims = c.args.batch.claims in
    let count : c.len.result ≡ length claims.items = search rules in
    let few =
    few_taken c.validity_laws.ensures.named c.validity_laws.ensures.valid f.opening f.blocks f.steps f.head claims.items
    c.args.batch.ledger c.args.batch.digest c.requires.follows c.requires.ahead.ahead c.requires.right in
    omega (arith, count, few)

pub overflow_add-self : goal.overflow_add-self
overflow_add-self c =
    let f = c.args.self.now in
    let claims = c.args.batch.claims in
    let count : c.len.result ≡ length claims.items = search rules in
    let steps : c.self.inside.steps ≡ f.steps = ap (λ (s : Followed). s.steps) c.self.view_is in
    let few =
    few_taken c.validity_laws.ensures.named c.validity_laws.ensures.valid f.opening f.blocks f.steps f.head claims.items
    c.args.batch.ledger c.args.batch.digest c.requires.follows c.requires.ahead.ahead c.requires.right in
    omega (arith, count, steps, few)

pub invariant_of-self : goal.invariant_of-self
invariant_of-self c =
    let f = c.self.inside in
    let claims = c.args.batch.claims in
    let ledger = c.args.batch.ledger in
    let digest = c.args.batch.digest in
    let count : c.len.result ≡ length claims.items = search rules in
    let same : c.replace-earlier.new.dest ≡ ledger = cc in
    let ahead : AreAhead f.head (digest_of_ledger f.head) f.blocks.items claims.items ledger digest =
    subst (λ (s : Followed). AreAhead s.head (digest_of_ledger s.head) s.blocks claims.items ledger digest)
    (sym c.self.view_is) c.requires.ahead.ahead in
    let on =
    all_taken c.validity_laws.ensures.named c.validity_laws.ensures.valid f.opening f.blocks.items f.steps f.head
    claims.items ledger digest c.self.invariant.2 ahead c.requires.right in (
      on.0 ∙ ap (λ (l : Parts). digest_of_ledger l) (sym same),
      c.self.invariant.1,
      subst
          (λ (l : Parts). IsFollower (record {
            opening = f.opening;
            blocks = f.blocks.items;
            steps = f.steps + c.len.result;
            head = l;
          }))
          (sym same)
          (subst
          (λ (n : ℕ). IsFollower (record {
            opening = f.opening;
            blocks = f.blocks.items;
            steps = f.steps + n;
            head = ledger;
          }))
          (sym count) on.1),
    )

pub returns-clause-digest : goal.returns-clause-digest
returns-clause-digest c = sym (invariant_of-self c).0

pub returns-clause-follows : goal.returns-clause-follows
returns-clause-follows c = (invariant_of-self c).2
