use Rattle.sx_ledger.proofs.Postings.{credits_append, credits_permuted, debits_append, debits_permuted}
use Rattle.sx_ledger.proofs.effect_laws.posting_laws.Goals as goal

pub returns-clause-debits_append : goal.returns-clause-debits_append
returns-clause-debits_append c = debits_append

pub returns-clause-credits_append : goal.returns-clause-credits_append
returns-clause-credits_append c = credits_append

pub returns-clause-debits_permuted : goal.returns-clause-debits_permuted
returns-clause-debits_permuted c = debits_permuted

pub returns-clause-credits_permuted : goal.returns-clause-credits_permuted
returns-clause-credits_permuted c = credits_permuted
