use Rattle.std.proofs.Common.{rules, ◌≡◌, List, ℕ, sym, ap, ◌∙◌}
use Rattle.std.specs.Prelude.{slice_get}
use Rattle.sha2.specs.Sha256.{sha256}
use Rattle.sx_commit.specs.Commitments.{bytes_of, folded, leaf_bytes, levels, siblings_of}
use Rattle.sx_commit.proofs.Clashes.{is_said, one_root, siblings_length, siblings_whole}
use Rattle.sx_commit.proofs.clashing.clash.Goals as goal

pub returns-then-eq : goal.returns-then-eq
returns-then-eq g c =
    let parts = c.args.ledger.now in
    let proof = c.args.proof.now in
    let own_is : c.bytes.result.now ≡ bytes_of parts.version (slice_get parts.accounts proof.place) = search rules in
    let said_is : c.bytes-2.result.now ≡ leaf_bytes proof.version proof.account = search rules in
    let same : c.bytes.result.now ≡ c.bytes-2.result.now = search rules in
    record { exact = is_said parts proof (sym own_is ∙ same ∙ said_is) }

pub climb-requires-clause-own_whole : goal.climb-requires-clause-own_whole
climb-requires-clause-own_whole g c =
    let is : c.items.result.now ≡ siblings_of c.args.ledger.now c.args.proof.now.place = search rules in
    siblings_length c.args.ledger.now c.args.proof.now.place c.items.result.now is

pub climb-requires-clause-own_digests : goal.climb-requires-clause-own_digests
climb-requires-clause-own_digests g c =
    let is : c.items.result.now ≡ siblings_of c.args.ledger.now c.args.proof.now.place = search rules in
    siblings_whole c.args.ledger.now c.args.proof.now.place c.items.result.now is

pub climb-requires-clause-one_root : goal.climb-requires-clause-one_root
climb-requires-clause-one_root g c =
    let parts = c.args.ledger.now in
    let proof = c.args.proof.now in
    let own_is : c.bytes-3.result.now ≡ bytes_of parts.version (slice_get parts.accounts proof.place) = search rules in
    let said_is : c.bytes-4.result.now ≡ leaf_bytes proof.version proof.account = search rules in
    let siblings_are : c.items.result.now ≡ siblings_of parts proof.place = search rules in
    let said_siblings : c.items-2.result.now ≡ proof.siblings = c.items-2.ensures in
    one_root parts proof c.bytes-3.result.now c.digest_of-own_leaf.result c.items.result.now
    c.digest_of-said_leaf.result c.requires.ranges.place own_is c.digest_of-own_leaf.ensures.hash siblings_are
    (c.digest_of-said_leaf.ensures.hash ∙ ap sha256 said_is) c.requires.good
    ∙ ap (λ (siblings : List (List ℕ)). folded proof.place siblings c.digest_of-said_leaf.result levels)
    (sym said_siblings)
