-- Reading a root and a proof from left to right, with the first fault.
use Rattle.std.specs.Prelude.{ℕ, ◌-◌, List, Result, Ok, Err, ◌==◌, if◌then◌else◌}
use Rattle.sx_base.specs.Ranges.{most_assets}
use Rattle.sx_block.specs.Decoding.{digest_at}
use Rattle.sx_bytes.specs.declared.fault.Form.TheVariants as form
use Rattle.sx_bytes.specs.declared.fault.FormFault.{FormFault}
use Rattle.sx_bytes.specs.Cursor.{Cursor, left}
use Rattle.sx_bytes.specs.Grammar.{◌>>=◌, between, field_at, many_at}
use Rattle.sx_block.specs.declared.proof.Proof.{Proof}
use Rattle.sx_commit.specs.Claim.{Claim}
use Rattle.sx_commit.specs.Commitments.{levels, most_places}
use Rattle.sx_state.specs.Decoding.{account_at}
use Rattle.sx_ledger.specs.Ledger.{most_version}

-- what stands after the root
unfoldable pub fields_at : Cursor → Result (Proof × Cursor) FormFault
fields_at c = do
  version ← field_at 1 (between 1 most_version) form.Version c
  assets ← field_at 1 (between 1 most_assets) form.AssetCount version.1
  place ← field_at 4 (between 0 (most_places - 1)) form.PlaceRange assets.1
  account ← account_at version.0 assets.0 place.1
  siblings ← many_at digest_at levels account.1
  Ok (record { version = version.0; place = place.0; account = account.0; siblings = siblings.0 }, siblings.1)

unfoldable pub claim_at : Cursor → Result (Claim × Cursor) FormFault
claim_at c = do
  root ← digest_at c
  proof ← fields_at root.1
  Ok ((root.0, proof.0), proof.1)

-- a whole payload, from its first byte
unfoldable pub proof_at : List ℕ → Result Claim FormFault
proof_at bytes = do
  claim ← claim_at (record { bytes = bytes; place = 0 })
  if left claim.1 == 0 then Ok claim.0 else Err (record { at = claim.1.place; fault = form.Rest })
