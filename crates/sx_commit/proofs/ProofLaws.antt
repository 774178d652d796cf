-- A root and a proof: what is read is encoded so, and what is encoded so is read.
use Rattle.std.proofs.Common.{◌≡◌, ℕ, ◌+◌, ◌-◌, ◌^◌, ◌≤◌, false, ltb, List, ◌++◌, length, take, drop, refl, sym, ap}
use Rattle.std.proofs.Common.{subst, ◌∙◌, arith}
use Rattle.std.specs.Prelude.{All}
use Rattle.std.specs.List.{flat_map}
use Rattle.std.proofs.lemmas.Bool.{ltb-false, le-ltb}
use Rattle.std.proofs.lemmas.List.{take_at, drop_at, length-append, length-take, length-drop, drop-drop}
use Rattle.std.proofs.lemmas.List.Elements.{All-from_recursion, recursion_from_All}
use Rattle.byteorder.specs.Endian.{big_bytes}
use Rattle.sx_block.specs.Decoding.{digest_at}
use Rattle.sx_block.specs.Digest.{IsDigest}
use Rattle.sx_bytes.specs.declared.fault.Form.TheVariants as form
use Rattle.sx_bytes.specs.Cursor.{Cursor, rest, left, moved, raw_at}
use Rattle.sx_bytes.specs.Grammar.{◌>>=◌, between, field_at, many_at}
use Rattle.sx_bytes.proofs.Grammar.{guard_short, or_fault_ok, AreBytes-take, AreBytes-drop, moved_takes, length-rest}
use Rattle.sx_bytes.proofs.Grammar.{Takes, Again, many_takes, many_again}
use Rattle.sx_bytes.proofs.Parts.{Reading, TakesAll, ReadsAgain, two_take, two_again, three_at, three_take}
use Rattle.sx_bytes.proofs.Parts.{three_again}
use Rattle.sx_bytes.proofs.DecodingSteps.{range_takes, range_again}
use Rattle.sx_block.specs.declared.proof.Proof.{Proof}
use Rattle.sx_commit.specs.Claim.{Claim, IsClaim}
use Rattle.sx_commit.specs.Clashes.{IsProof}
use Rattle.sx_commit.specs.Commitments.{levels}
use Rattle.sx_commit.specs.Decoding.{claim_at, fields_at}
use Rattle.sx_commit.specs.Encoding.{claim_bytes, digest_bytes, fields_bytes}
use Rattle.sx_ledger.specs.declared.account.Account.{Account}
use Rattle.sx_state.specs.Decoding.{account_at}
use Rattle.sx_state.specs.Encoding.{account_bytes}
use Rattle.sx_ledger.specs.Ledger.{IsAccount}
use Rattle.sx_state.proofs.AccountLaws.{account_takes, account_again}
use Rattle.sx_state.proofs.DependentParts.{chained_takes, chained_again}

-- ---- digests

digest_takes : TakesAll digest_at digest_bytes IsDigest
digest_takes c next x bytes e =
    let read = or_fault_ok (raw_at 32 c) (x, next) e in
    let g =
    guard_short (ltb (left c) 32) (record { at = length c.bytes }) (take 32 (rest c), moved 32 c) (x, next) read in
    let enough : 32 ≤ length c.bytes - c.place = ltb-false _ _ g.0 in
    let len : length (take 32 (rest c)) ≡ 32 = omega (arith, length-take 32 (rest c), length-drop c.place c.bytes) in
    let is : IsDigest (take 32 (rest c)) =
    record { whole = len; bytes = AreBytes-take 32 (rest c) (AreBytes-drop c.place c.bytes bytes) } in
    subst (λ (y : List ℕ × Cursor). Takes c y.0 y.1 × IsDigest y.0) g.1 (moved_takes 32 c enough, is)

digest_again : ReadsAgain digest_at digest_bytes IsDigest
digest_again c x after is within e =
    let len = is.whole in
    let all : length (rest c) ≡ 32 + length after = ap length e ∙ omega (arith, length-append x after) in
    let enough : 32 ≤ length c.bytes - c.place = omega (arith, length-rest c) in
    let long : ltb (left c) 32 ≡ false = le-ltb _ _ enough in
    let front : take 32 (rest c) ≡ x = ap (take 32) e ∙ take_at x after 32 len in
    record {
      next = moved 32 c;
      is = rw (long, front) refl;
      rest_is = sym (drop-drop 32 c.place c.bytes) ∙ ap (drop 32) e ∙ drop_at x after 32 len;
      same = refl;
      within = omega arith;
    }

-- one at each level
record AreSiblings (siblings : List (List ℕ)) : Type 0 where
  whole : length siblings ≡ levels
  are : All IsDigest siblings

siblings_take : TakesAll (many_at digest_at levels) (flat_map digest_bytes) AreSiblings
siblings_take c next siblings bytes e =
    let t = many_takes digest_at digest_bytes IsDigest digest_takes levels c next siblings bytes e in
    (t.0, record { whole = t.1; are = All-from_recursion IsDigest siblings t.2 })

siblings_again : ReadsAgain (many_at digest_at levels) (flat_map digest_bytes) AreSiblings
siblings_again c siblings after is within e =
    let read = many_again digest_at digest_bytes IsDigest digest_again siblings c after
    (recursion_from_All IsDigest siblings is.are) within e in
    subst (λ (k : ℕ). Again (many_at digest_at k c) c siblings after) is.whole read

-- ---- the fields before them

abbrev version_at : Reading ℕ
version_at = field_at 1 (between 1 2) form.Version

abbrev assets_at : Reading ℕ
assets_at = field_at 1 (between 1 32) form.AssetCount

abbrev place_at : Reading ℕ
place_at = field_at 4 (between 0 (2 ^ 16 - 1)) form.PlaceRange

abbrev IsVersion : ℕ → Type 0
IsVersion version = (1 ≤ version) × (version ≤ 2)

abbrev IsCount : ℕ → Type 0
IsCount n = (1 ≤ n) × (n ≤ 32)

abbrev IsPlace : ℕ → Type 0
IsPlace place = place ≤ 2 ^ 16 - 1

version_takes : TakesAll version_at (big_bytes 1) IsVersion
version_takes c next x bytes e = let t = range_takes 1 1 2 form.Version c next x bytes e in (t.0, (t.1, t.2))

version_again : ReadsAgain version_at (big_bytes 1) IsVersion
version_again c x after is within e = range_again 1 1 2 form.Version c x after (omega arith) is.0 is.1 within e

count_takes : TakesAll assets_at (big_bytes 1) IsCount
count_takes c next x bytes e = let t = range_takes 1 1 32 form.AssetCount c next x bytes e in (t.0, (t.1, t.2))

count_again : ReadsAgain assets_at (big_bytes 1) IsCount
count_again c x after is within e = range_again 1 1 32 form.AssetCount c x after (omega arith) is.0 is.1 within e

place_takes : TakesAll place_at (big_bytes 4) IsPlace
place_takes c next x bytes e = let t = range_takes 4 0 (2 ^ 16 - 1) form.PlaceRange c next x bytes e in (t.0, t.2)

place_again : ReadsAgain place_at (big_bytes 4) IsPlace
place_again c x after is within e =
    range_again 4 0 (2 ^ 16 - 1) form.PlaceRange c x after (omega arith) (omega arith) is within e

-- ---- what stands after the root

abbrev assets_of : Proof → ℕ
assets_of proof = length proof.account.balances

abbrev joined : ℕ → ℕ → Account → List (List ℕ) → Proof
joined version place account siblings =
    record { version = version; place = place; account = account; siblings = siblings }

abbrev from_place : ℕ → ℕ → Reading Proof
from_place version n = three_at place_at (account_at version n) (many_at digest_at levels) (joined version)

abbrev from_assets : ℕ → Reading Proof
from_assets version c = assets_at c >>= λ n. from_place version n.0 n.1

abbrev place_text : Proof → List ℕ
place_text proof =
    big_bytes 4 proof.place ++ (account_bytes proof.version proof.account ++ flat_map digest_bytes proof.siblings)

abbrev assets_text : Proof → List ℕ
assets_text proof = big_bytes 1 (assets_of proof) ++ place_text proof

-- a proof of this version, of an account with n assets
record IsFrom (version n : ℕ) (proof : Proof) : Type 0 where
  version_is : version ≡ proof.version
  place : IsPlace proof.place
  account : IsAccount version n proof.account
  siblings : AreSiblings proof.siblings

abbrev FromAssets : ℕ → Proof → Type 0
FromAssets version proof = IsCount (assets_of proof) × IsFrom version (assets_of proof) proof

place_takes_on : (version n : ℕ) → TakesAll (from_place version n) place_text (IsFrom version n)
place_takes_on version n c next proof bytes e =
    let t = three_take place_at (account_at version n) (many_at digest_at levels) (joined version) (big_bytes 4)
    (account_bytes version) (flat_map digest_bytes) IsPlace (IsAccount version n) AreSiblings
    place_takes (account_takes version n) siblings_take c next proof bytes e in
    let is : IsFrom version n (joined version t.0 t.1 t.2) =
    record { version_is = refl; place = t.5; account = t.6; siblings = t.7 } in
    subst (λ (p : Proof). Takes c (place_text p) next × IsFrom version n p) t.3 (t.4, is)

place_again_on : (version n : ℕ) → ReadsAgain (from_place version n) place_text (IsFrom version n)
place_again_on version n c proof after is within e =
    let text : rest c ≡ place_text (joined version proof.place proof.account proof.siblings) ++ after =
    rw is.version_is e in
    let read = three_again place_at (account_at version n) (many_at digest_at levels) (joined version) (big_bytes 4)
    (account_bytes version) (flat_map digest_bytes) IsPlace (IsAccount version n) AreSiblings
    place_again (account_again version n) siblings_again c proof.place proof.account proof.siblings after
    is.place is.account is.siblings within text in
    let same : joined version proof.place proof.account proof.siblings ≡ proof = rw is.version_is refl in
    subst (λ (p : Proof). Again (from_place version n c) c p after) same read

assets_take : (version : ℕ) → TakesAll (from_assets version) assets_text (FromAssets version)
assets_take version =
    chained_takes assets_at (from_place version) (big_bytes 1) place_text IsCount (IsFrom version) assets_of
    count_takes (λ n is. place_takes_on version n) (λ n proof is. sym is.account.balances)

assets_again : (version : ℕ) → ReadsAgain (from_assets version) assets_text (FromAssets version)
assets_again version =
    chained_again assets_at (from_place version) (big_bytes 1) place_text IsCount (IsFrom version) assets_of
    count_again (λ n is. place_again_on version n)

fields_take : TakesAll fields_at fields_bytes IsProof
unfolding fields_at
fields_take c next proof bytes e =
    let t =
    chained_takes version_at from_assets (big_bytes 1) assets_text IsVersion FromAssets (λ proof. proof.version)
    version_takes (λ version is. assets_take version) (λ version proof is. is.1.version_is) c next proof bytes e in
    let from = t.1.1.1 in (
      t.0,
      record {
        some_version = t.1.0.0;
        few_versions = t.1.0.1;
        place = omega (arith, from.place);
        some_asset = t.1.1.0.0;
        few_assets = t.1.1.0.1;
        account = from.account;
        whole = from.siblings.whole;
        siblings = from.siblings.are;
      },
    )

fields_again : ReadsAgain fields_at fields_bytes IsProof
unfolding fields_at
fields_again c proof after is within e =
    let from : IsFrom proof.version (assets_of proof) proof =
    record {
      version_is = refl;
      place = omega (arith, is.place);
      account = is.account;
      siblings = record { whole = is.whole; are = is.siblings };
    } in
    chained_again version_at from_assets (big_bytes 1) assets_text IsVersion FromAssets (λ proof. proof.version)
    version_again (λ version is. assets_again version) c proof after
    ((is.some_version, is.few_versions), ((is.some_asset, is.few_assets), from)) within e

-- ---- the root and what stands after it

abbrev claimed : List ℕ → Proof → Claim
claimed root proof = (root, proof)

pub claim_takes : TakesAll claim_at claim_bytes IsClaim
unfolding claim_at
claim_takes c next claim bytes e =
    let t = two_take digest_at fields_at claimed digest_bytes fields_bytes IsDigest IsProof digest_takes fields_take c
    next claim bytes e in
    subst (λ (y : Claim). Takes c (claim_bytes y) next × IsClaim y) t.2 (t.3, (t.4, t.5))

pub claim_again : ReadsAgain claim_at claim_bytes IsClaim
unfolding claim_at
claim_again c claim after is within e =
    two_again digest_at fields_at claimed digest_bytes fields_bytes IsDigest IsProof digest_again fields_again c
    claim.0 claim.1 after is.0 is.1 within e
