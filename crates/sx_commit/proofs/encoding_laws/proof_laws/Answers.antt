use Rattle.sx_commit.proofs.Lengths.{proof_most, some_has_most}
use Rattle.sx_commit.proofs.Payload.{proofs_no_prefix, proofs_of_one_encoding}
use Rattle.sx_commit.proofs.ProofFaults.{faults_within}
use Rattle.sx_commit.proofs.encoding_laws.proof_laws.Goals as goal

pub returns : goal.returns
returns c = record {
  one = proofs_of_one_encoding;
  first = proofs_no_prefix;
  most = proof_most;
  some = some_has_most;
  within = faults_within;
}
