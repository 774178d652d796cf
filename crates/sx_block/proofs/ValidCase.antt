-- A block that is valid: two offers that cannot both trade in full, so that the lower bounds are dropped.
use Rattle.std.proofs.Common.{◌≡◌, ℕ, zero, suc, ◌-◌, ◌*◌, ◌^◌, ◌<◌, ◌≤◌, List, [], ◌∷◌, ◌++◌, length, Some, Ok, inl}
use Rattle.std.proofs.Common.{inr, refl, ap, arith}
use Rattle.std.specs.Int.{to_be_bytes, w32}
use Rattle.std.specs.List.{IsDistinct}
use Rattle.std.specs.Prelude.{slice_index}
use Rattle.std.proofs.lemmas.Bool.{cases_lt}
use Rattle.std.proofs.lemmas.Int.{ints}
use Rattle.std.proofs.lemmas.List.{get_or_append_left, get_or-append_right}
use Rattle.std.proofs.lemmas.List.Elements.{All-from_recursion, All-nil}
use Rattle.sha2.specs.Sha256.{digest_bytes, sha256}
use Rattle.sha2.proofs.Facts256.{length-sha256}
use Rattle.sx_block.specs.declared.header.Block.{Block}
use Rattle.sx_block.specs.Block.{IsBlock}
use Rattle.sx_block.specs.Digest.{IsDigest}
use Rattle.sx_block.specs.Rule.{Rule}
use Rattle.sx_block.specs.Rule as rule
use Rattle.sx_block.specs.Validity.{Holds, IsValid, digest_of_ledger, flow_of_block, high_in, ledger_after, low_in}
use Rattle.sx_block.specs.Validity.{offers_of, undropped_low_in}
use Rattle.sx_block.proofs.Cases.{account, offer, two_pairs}
use Rattle.sx_bytes.specs.Field.{AreBytes}
use Rattle.sx_bytes.proofs.Field.{AreBytes-big_bytes}
use Rattle.sx_dual.specs.Circulation.{IsBalanced, IsWithin}
use Rattle.sx_dual.specs.Cuts.{IsCut}
use Rattle.sx_dual.specs.Fit.{IsTight}
use Rattle.sx_dual.specs.Sums.{EachPair, sum_below}
use Rattle.sx_dual.specs.Tables.{IsFlow, potential_of, value_of}
use Rattle.sx_ledger.specs.declared.parts.Parts.{Parts}
use Rattle.sx_ledger.specs.Fills.{IsRounding}
use Rattle.sx_ledger.specs.Static.{static_of}
use Rattle.sx_price.specs.Limits.{IsPrice}
use Rattle.sx_record.specs.Frame.{record_bytes}
use Rattle.sx_state.specs.Encoding.{state_bytes}
use Rattle.sx_tx.specs.Transactions.{IsTx, list_bytes}
use Rattle.sx_tx.specs.Window.{bit_length}

-- ---- digests are 32 bytes

bytes_append : (xs ys : List ℕ) → AreBytes xs → AreBytes ys → AreBytes (xs ++ ys)
bytes_append xs ys are are' i =
    elim (cases_lt i (length xs)) [
      | inl front ↦ rw (get_or_append_left xs ys 0 i front) (are i)
      | inr back ↦ rw (get_or-append_right xs ys (length xs) i 0 refl back) (are' (i - length xs))
    ]

digest_bytes_are : (h : List ℕ) (n : ℕ) → AreBytes (digest_bytes h n)
unfolding digest_bytes
digest_bytes_are h zero i = omega arith
digest_bytes_are h (suc n) i =
    bytes_append (digest_bytes h n) (to_be_bytes w32 (slice_index h n)) (digest_bytes_are h n)
    (AreBytes-big_bytes 4 (slice_index h n)) i

is_digest : (message : List ℕ) → IsDigest (sha256 message)
unfolding sha256
is_digest message = record { whole = length-sha256 message; bytes = digest_bytes_are _ 8 }

-- ---- the ledgers before and after, and the block

abbrev prices : List ℕ
prices = 3 * 2 ^ 20 ∷ 2 * 2 ^ 20 ∷ []

abbrev pub before : Parts
before = record {
  version = 1;
  height = 0;
  prices = prices;
  rounding = 7 ∷ 9 ∷ [];
  accounts = account 1 1 (0 ∷ 0 ∷ []) ∷ account 2 1 (0 ∷ 0 ∷ []) ∷ [];
  offers = offer 0 1 (2 ^ 22) 1 1 5 ∷ offer 1 0 (2 ^ 22) 2 1 8 ∷ [];
}

abbrev after : Parts
after = record {
  version = 1;
  height = 1;
  prices = prices;
  rounding = 7 ∷ 10 ∷ [];
  accounts = account 1 1 (0 ∷ 7 ∷ []) ∷ account 2 1 (5 ∷ 0 ∷ []) ∷ [];
  offers = [];
}

abbrev pub block : Block
block = record {
  header = record {
    version = 1;
    height = 1;
    parent = digest_of_ledger before;
    body = sha256 (list_bytes []);
    mu = 10;
    prices = prices;
    trades = two_pairs (15 * 2 ^ 20) (15 * 2 ^ 20);
    dropped = Some (record { 0 = 1 });
    potentials = 1 ∷ 0 ∷ [];
    rounding = 0 ∷ 1 ∷ [];
    after = digest_of_ledger after;
  };
  txs = [];
}

-- ---- its form

no_diagonal : (asset : ℕ) → asset < 2 → value_of block.header.trades asset asset ≡ 0
no_diagonal zero lt = refl
no_diagonal (suc zero) lt = refl
no_diagonal (suc (suc asset)) lt = absurd (omega arith)

is_flow : IsFlow block.header.trades
is_flow = record {
  assets = record { some = omega arith; few = omega arith };
  values = record {
    full = refl;
    in_range =
        All-from_recursion (λ entry. entry ≤ 2 ^ 102) block.header.trades.values
        (omega arith, (omega arith, (omega arith, (omega arith, tt))));
    diagonal = no_diagonal;
  };
}

is_block : IsBlock block
is_block = record {
  header = record {
    some_version = omega arith;
    few_versions = omega arith;
    height = omega arith;
    parent = is_digest (record_bytes 1 (state_bytes before));
    body = is_digest (list_bytes []);
    some_mu = omega arith;
    most_mu = omega arith;
    some_asset = omega arith;
    few_assets = omega arith;
    prices = All-from_recursion IsPrice prices ((omega arith, omega arith), ((omega arith, omega arith), tt));
    same_assets = refl;
    trades = is_flow;
    cut = omega arith;
    one_potential = refl;
    potentials =
        All-from_recursion (λ potential. potential < 2 ^ 32) block.header.potentials (omega arith, (omega arith, tt));
    one_rounding = refl;
    rounding = All-from_recursion (λ units. units ≤ 2 ^ 62) block.header.rounding (omega arith, (omega arith, tt));
    after = is_digest (record_bytes 1 (state_bytes after));
  };
  few = omega arith;
  each = All-nil IsTx;
  ordered = refl;
}

-- ---- its trade

within : EachPair 2 (IsWithin (low_in before block) (high_in before block) (flow_of_block block))
within zero zero s b differ = absurd (differ refl)
within zero (suc zero) s b differ = record { at_least = omega arith; at_most = omega arith }
within zero (suc (suc buy)) s b differ = absurd (omega arith)
within (suc zero) zero s b differ = record { at_least = omega arith; at_most = omega arith }
within (suc zero) (suc zero) s b differ = absurd (differ refl)
within (suc zero) (suc (suc buy)) s b differ = absurd (omega arith)
within (suc (suc sell)) buy s b differ = absurd (omega arith)

tight : EachPair 2 (IsTight (low_in before block) (high_in before block) (flow_of_block block)
    (potential_of block.header.potentials))
tight zero zero s b differ = absurd (differ refl)
tight zero (suc zero) s b differ = record { gaining = λ gain. refl; losing = λ loss. absurd (omega (arith, ints)) }
tight zero (suc (suc buy)) s b differ = absurd (omega arith)
tight (suc zero) zero s b differ =
    record { gaining = λ gain. absurd (omega (arith, ints)); losing = λ loss. absurd (omega (arith, ints)) }
tight (suc zero) (suc zero) s b differ = absurd (differ refl)
tight (suc zero) (suc (suc buy)) s b differ = absurd (omega arith)
tight (suc (suc sell)) buy s b differ = absurd (omega arith)

balanced : (asset : ℕ) → asset < 2 → IsBalanced 2 (flow_of_block block) asset
unfolding sum_below
balanced zero lt = refl
balanced (suc zero) lt = refl
balanced (suc (suc asset)) lt = absurd (omega arith)

rounded : (asset : ℕ) → asset < 2
    → IsRounding prices (flow_of_block block) (offers_of before block) asset (slice_index block.header.rounding asset)
rounded zero lt = refl
rounded (suc zero) lt = refl
rounded (suc (suc asset)) lt = absurd (omega arith)

cuts : IsCut 2 (undropped_low_in before block) (high_in before block) 1
unfolding sum_below
cuts = omega arith

leaves : after ≡ ledger_after before block
unfolding bit_length
leaves = refl

valid : IsValid before block
unfolding IsDistinct
valid = record { form = is_block; rules = rules }
  where
    rules : (each : Rule) → Holds each before block
    rules rule.BelowLast = omega arith
    rules rule.NextHeight = refl
    rules rule.Parent = refl
    rules rule.Body = refl
    rules rule.Assets = refl
    rules rule.Passes = All-nil (λ tx. static_of before tx ≡ Ok tt)
    rules rule.CancelsOnce = tt
    rules rule.CreatesOnce = tt
    rules rule.Room = (omega arith, omega arith)
    rules rule.Covered = λ account asset. omega arith
    rules rule.Within = within
    rules rule.Balanced = balanced
    rules rule.Tight = tight
    rules rule.Cut = cuts
    rules rule.Rounded = rounded
    rules rule.After = ap digest_of_ledger leaves
