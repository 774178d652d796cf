use Rattle.std.proofs.Common.{ℕ, List, ◌++◌, length, ap, ◌∙◌, arith}
use Rattle.sx_block.specs.declared.proof.Proof.{Proof}
use Rattle.sx_commit.specs.Commitments.{root_of}
use Rattle.sx_commit.specs.Encoding.{proof_bytes}
use Rattle.sx_record.specs.Frame.{record_bytes}
use Rattle.sx_record.specs.Tags.{proof_tag}
use Rattle.sx_run.proofs.ProvedAccounts.{claim_is, proof_is}
use Rattle.sx_run.proofs.commands.proving.proof_record.Goals as goal

pub write_record-requires : goal.write_record-requires
write_record-requires g c =
    let parts = c.args.ledger.now in
    let shown = c.in_ok-proof.proof in
    let of = c.in_ok-proof.ensures in
    let claim = claim_is parts shown c.args.place c.requires.ledger c.requires.place of.version of.place of.account
    of.siblings c.commitment_laws.ensures.true_is_claim in
    let root = c.commitment_laws.ensures.one_root shown c.leads_to-root.result (root_of parts) c.leads_to-root.ensures.good
    of.good in
    let written = c.bytes.ensures ∙ c.in_ok-write_proof.ensures.ok
    ∙ ap (λ (before : List ℕ). before ++ proof_bytes c.leads_to-root.result shown) c.new-payload.ensures
    ∙ ap (λ (r : List ℕ). proof_bytes r shown) root in
    omega (arith, ap (λ (bytes : List ℕ). length bytes) written, c.proof_laws.ensures.most (root_of parts, shown) claim)

pub returns : goal.returns
returns g c = λ account here.
    let parts = c.args.ledger.now in
    let shown = c.in_ok-proof.proof in
    let of = c.in_ok-proof.ensures in
    let root = c.commitment_laws.ensures.one_root shown c.leads_to-root.result (root_of parts) c.leads_to-root.ensures.good
    of.good in
    let written = c.bytes.ensures ∙ c.in_ok-write_proof.ensures.ok
    ∙ ap (λ (before : List ℕ). before ++ proof_bytes c.leads_to-root.result shown) c.new-payload.ensures
    ∙ ap (λ (r : List ℕ). proof_bytes r shown) root
    ∙ ap (λ (p : Proof). proof_bytes (root_of parts) p)
    (proof_is parts shown c.args.place c.requires.ledger c.requires.place of.version of.place of.account of.siblings
    account here) in
    c.in_ok-write_record.ensures.ok
    ∙ ap (λ (before : List ℕ). before ++ record_bytes proof_tag c.bytes.result.now) c.new-told.ensures
    ∙ ap (λ (payload : List ℕ). record_bytes proof_tag payload) written
