-- What is decoded of small payloads, and which fault it is where there is one.
use Rattle.std.proofs.Common.{◌≡◌, ℕ, ◌^◌, List, [], ◌∷◌, ◌++◌, length, drop, take, Ok, Err, refl}
use Rattle.std.specs.Prelude.{replicate}
use Rattle.byteorder.specs.Endian.{big_bytes}
use Rattle.sx_bytes.specs.declared.fault.Form.{Form}
use Rattle.sx_bytes.specs.declared.fault.Form.TheVariants as form
use Rattle.sx_bytes.specs.declared.fault.FormFault.{FormFault}
use Rattle.sx_bytes.specs.Grammar.{many_at}
use Rattle.sx_block.specs.declared.proof.Proof.{Proof}
use Rattle.sx_commit.specs.Decoding.{claim_at, fields_at, proof_at}
use Rattle.sx_commit.specs.Encoding.{claim_bytes, proof_bytes}
use Rattle.sx_commit.proofs.Cases.{seven}
use Rattle.sx_state.specs.Decoding.{account_at}
use Rattle.sx_tx.specs.Window.{bit_length}

abbrev fault_at : ℕ → Form → FormFault
fault_at at fault = record { at = at; fault = fault }

-- a digest that is one byte again and again
abbrev all : ℕ → List ℕ
all byte = replicate 32 byte

-- sixteen siblings, each with bytes of its own
abbrev siblings : List (List ℕ)
siblings =
    all 1 ∷ all 2 ∷ all 3 ∷ all 4 ∷ all 5 ∷ all 6 ∷ all 7 ∷ all 8 ∷ all 9 ∷ all 10 ∷ all 11 ∷ all 12 ∷ all 13 ∷ all 14
    ∷ all 15 ∷ all 16 ∷ []

-- account 7 of version 1 with 100 units of one asset, said to stand at place 258
abbrev said : Proof
said = record {
  version = 1;
  place = 258;
  account = record { id = record { 0 = 7 }; window = record { last = 3; used = 0 }; balances = 100 ∷ [] };
  siblings = siblings;
}

abbrev text : List ℕ
text = proof_bytes (all 255) said

-- ---- its bytes

abbrev word : ℕ → List ℕ
word low = 0 ∷ 0 ∷ 0 ∷ 0 ∷ 0 ∷ 0 ∷ 0 ∷ low ∷ []

begins : take 62 text ≡ all 255 ++ 1 ∷ 1 ∷ 0 ∷ 0 ∷ 1 ∷ 2 ∷ word 7 ++ word 3 ++ word 100
begins = refl

goes_on : take 64 (drop 62 text) ≡ all 1 ++ all 2
goes_on = refl

ends : drop 542 text ≡ all 16
ends = refl

long : length text ≡ 574
long = refl

claimed : claim_bytes (all 255, said) ≡ text
claimed = refl

read : proof_at text ≡ Ok (all 255, said)
unfolding proof_at claim_at fields_at account_at many_at
read = refl

-- ---- in version 2 the map of used numbers stands after the last one

abbrev newer : Proof
newer = record said { version = 2; account = seven }

newer_begins : take 70 (proof_bytes (all 255) newer)
    ≡ all 255 ++ 2 ∷ 1 ∷ 0 ∷ 0 ∷ 1 ∷ 2 ∷ word 7 ++ word 3 ++ word 2 ++ word 100
newer_begins = refl

newer_long : length (proof_bytes (all 255) newer) ≡ 582
newer_long = refl

-- of three assets, at the last place
abbrev wide : Proof
wide = record said { version = 2; place = 65535; account = record seven { balances = 100 ∷ 9 ∷ 8 ∷ [] } }

wide_read : proof_at (proof_bytes (all 255) wide) ≡ Ok (all 255, wide)
unfolding proof_at claim_at fields_at account_at many_at bit_length
wide_read = refl

-- ---- faults: the first one from left to right

-- a payload with these three fields after the root, and all after them as above
abbrev with : ℕ → ℕ → List ℕ → List ℕ
with version assets place = all 255 ++ version ∷ assets ∷ place ++ drop 38 text

version_none : proof_at (with 0 0 (1 ∷ 0 ∷ 0 ∷ 0 ∷ [])) ≡ Err (fault_at 32 form.Version)
unfolding proof_at claim_at fields_at
version_none = refl

version_three : proof_at (with 3 1 (0 ∷ 0 ∷ 1 ∷ 2 ∷ [])) ≡ Err (fault_at 32 form.Version)
unfolding proof_at claim_at fields_at
version_three = refl

no_asset : proof_at (with 1 0 (0 ∷ 1 ∷ 0 ∷ 0 ∷ [])) ≡ Err (fault_at 33 form.AssetCount)
unfolding proof_at claim_at fields_at
no_asset = refl

assets_too_many : proof_at (with 2 33 (0 ∷ 0 ∷ 1 ∷ 2 ∷ [])) ≡ Err (fault_at 33 form.AssetCount)
unfolding proof_at claim_at fields_at
assets_too_many = refl

-- the place 65,536, also where the account that follows is out of range
place_too_great : proof_at (with 1 1 (0 ∷ 1 ∷ 0 ∷ 0 ∷ [])) ≡ Err (fault_at 34 form.PlaceRange)
unfolding proof_at claim_at fields_at
place_too_great = refl

-- the last sequence number 2 ^ 63
last_out_of_range : proof_at (all 255 ++ 1 ∷ 1 ∷ 0 ∷ 0 ∷ 1 ∷ 2 ∷ word 7 ++ big_bytes 8 (2 ^ 63))
    ≡ Err (fault_at 46 form.SeqRange)
unfolding proof_at claim_at fields_at account_at
last_out_of_range = refl

short : proof_at (take 573 text) ≡ Err (fault_at 573 form.Short)
unfolding proof_at claim_at fields_at account_at many_at
short = refl

no_root : proof_at (take 31 text) ≡ Err (fault_at 31 form.Short)
unfolding proof_at claim_at fields_at
no_root = refl

rest : proof_at (text ++ 0 ∷ []) ≡ Err (fault_at 574 form.Rest)
unfolding proof_at claim_at fields_at account_at many_at
rest = refl
