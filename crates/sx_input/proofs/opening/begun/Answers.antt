use Rattle.std.proofs.Common.{ℕ, List, sym, ap, ◌∙◌}
use Rattle.sha2.specs.Sha256.{sha256}
use Rattle.sx_input.proofs.opening.begun.Goals as goal
use Rattle.sx_record.specs.declared.frame.Record.{Record}
use Rattle.sx_record.specs.Frame.{record_bytes}
use Rattle.sx_record.specs.Tags.{state_tag}

pub returns-clause-head : goal.returns-clause-head
returns-clause-head g c = record {
  state = tt;
  digest = c.start-digest.ensures.hash
      ∙ ap (λ (found : Record). sha256 (record_bytes state_tag found.payload)) (sym c.deref.ensures)
      ∙ ap (λ (payload : List ℕ). sha256 (record_bytes state_tag payload)) c.in_ok-ledger.ensures.encoded;
  whole = c.start-digest.ensures.digest;
}
