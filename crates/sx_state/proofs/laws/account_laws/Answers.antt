use Rattle.sx_bytes.proofs.Parts.{decodes_only_encodings, decodes_every_encoding, is_injective, is_prefix_free}
use Rattle.sx_ledger.specs.Ledger.{IsAccount}
use Rattle.sx_state.specs.Encoding.{account_bytes}
use Rattle.sx_state.specs.Decoding.{account_at}
use Rattle.sx_state.proofs.AccountLaws.{account_takes, account_again}
use Rattle.sx_state.proofs.FaultPlaces.{account_within}
use Rattle.sx_state.proofs.laws.account_laws.Goals as goal

pub returns-clause-decodes_only : goal.returns-clause-decodes_only
returns-clause-decodes_only c = λ version assets.
    decodes_only_encodings (account_at version assets) (account_bytes version) (IsAccount version assets)
    (account_takes version assets)

pub returns-clause-decodes_every : goal.returns-clause-decodes_every
returns-clause-decodes_every c = λ version assets.
    decodes_every_encoding (account_at version assets) (account_bytes version) (IsAccount version assets)
    (account_again version assets)

pub returns-clause-injective : goal.returns-clause-injective
returns-clause-injective c = λ version assets.
    is_injective (account_at version assets) (account_bytes version) (IsAccount version assets)
    (account_again version assets)

pub returns-clause-prefix_free : goal.returns-clause-prefix_free
returns-clause-prefix_free c = λ version assets.
    is_prefix_free (account_at version assets) (account_bytes version) (IsAccount version assets)
    (account_again version assets)

pub returns-clause-within : goal.returns-clause-within
returns-clause-within c = account_within
