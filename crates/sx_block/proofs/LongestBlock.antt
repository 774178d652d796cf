-- A block of as many bytes as there may be: among 32 assets each pair trades, lower bounds were dropped, and 1,000,000
-- accounts make an offer each.
use Rattle.std.proofs.Common.{◌≡◌, ℕ, zero, suc, ◌+◌, ◌*◌, ◌%◌, ◌^◌, ◌<◌, ◌≤◌, ◌==◌, Bool, true, false, List, [], ◌∷◌}
use Rattle.std.proofs.Common.{length, Some, None, refl, ap, ◌∙◌, arith}
use Rattle.std.specs.Prelude.{if◌then◌else◌, nat_lt, replicate, slice_index}
use Rattle.std.specs.List.{flat_map, AllByRecursion}
use Rattle.std.proofs.lemmas.List.{length-append}
use Rattle.std.proofs.lemmas.List.Elements.{All-from_recursion, All-replicate}
use Rattle.std.proofs.lemmas.Nat.{mod-mul-add}
use Rattle.byteorder.specs.Endian.{big_bytes}
use Rattle.sx_block.specs.declared.header.Block.{Block}
use Rattle.sx_block.specs.declared.header.Header.{Header}
use Rattle.sx_block.specs.Block.{IsBlock, IsHeader}
use Rattle.sx_block.specs.Digest.{IsDigest}
use Rattle.sx_block.specs.Encoding.{header_bytes}
use Rattle.sx_block.specs.Laws.{SomeHasMostBytes}
use Rattle.sx_block.specs.Trades.{trades_of}
use Rattle.sx_block.proofs.Lengths.{length-header}
use Rattle.sx_bytes.specs.Grammar.{in_order}
use Rattle.sx_bytes.proofs.Field.{AreBytes-big_bytes, length-big_bytes}
use Rattle.sx_dual.specs.Tables.{FlowTable, IsFlow, entry_at}
use Rattle.sx_ledger.specs.Body.{tx_before}
use Rattle.sx_price.specs.Limits.{IsPrice}
use Rattle.sx_tx.specs.declared.kind.Kind.TheVariants as kind
use Rattle.sx_tx.specs.declared.tx.Tx.{Tx}
use Rattle.sx_tx.specs.Transactions.{IsTx, list_bytes, tx_bytes}

-- ---- offers

abbrev sells : ℕ → Tx
sells account = record { account = record { 0 = account }; seq = 1; kind = kind.Offer 0 1 1 1 }

-- one of each of so many accounts, from this one on
unfoldable offers : ℕ → ℕ → List Tx
offers first zero = []
offers first (suc n) = sells first ∷ offers (suc first) n

how_many : (first n : ℕ) → length (offers first n) ≡ n
unfolding offers
how_many first zero = refl
how_many first (suc n) = ap suc (how_many (suc first) n)

how_long : (first n : ℕ) → length (flat_map tx_bytes (offers first n)) ≡ 35 * n
unfolding offers
how_long first zero = refl
how_long first (suc n) =
    let others : length (flat_map tx_bytes (offers (suc first) n)) ≡ 35 * n = how_long (suc first) n in
    let one : length (tx_bytes (sells first)) ≡ 35 = refl in
    omega (arith, others, one, length-append (tx_bytes (sells first)) (flat_map tx_bytes (offers (suc first) n)))

each_is : (first n : ℕ) → first + n ≤ 2 ^ 64 → AllByRecursion IsTx (offers first n)
unfolding offers
each_is first zero fit = tt
each_is first (suc n) fit = (
  record {
    account = omega (arith, fit);
    seq = (omega arith, omega arith);
    kind = ((omega arith, omega arith, (omega arith, omega arith)), (omega arith, omega arith));
  },
  each_is (suc first) n (omega (arith, fit)),
)

next : (first : ℕ) → nat_lt first (suc first) ≡ true
next first = grind (arith)

follow : (first n : ℕ) → in_order tx_before (Some (sells first)) (offers (suc first) n) ≡ true
unfolding offers
follow first zero = refl
follow first (suc n) = rw (next first) (follow (suc first) n)

ordered : (n : ℕ) → in_order tx_before None (offers 0 n) ≡ true
unfolding offers
ordered zero = refl
ordered (suc n) = follow 0 n

-- ---- trades: a value of 1 of each pair

abbrev value : Bool → ℕ
value same = if same then 0 else 1

-- the places of an asset for itself are the multiples of 33
abbrev entry : ℕ → ℕ
entry place = value (place % 33 == 0)

unfoldable entries : ℕ → ℕ → List ℕ
entries place zero = []
entries place (suc n) = entry place ∷ entries (suc place) n

small : (same : Bool) → value same ≤ 2 ^ 102
small true = omega arith
small false = omega arith

in_range : (place n : ℕ) → AllByRecursion (λ it. it ≤ 2 ^ 102) (entries place n)
unfolding entries
in_range place zero = tt
in_range place (suc n) = (small (place % 33 == 0), in_range (suc place) n)

entry_is : (place n k : ℕ) → k < n → slice_index (entries place n) k ≡ entry (place + k)
unfolding entries
entry_is place zero k lt = absurd (omega (arith, lt))
entry_is place (suc n) zero lt = let e : place ≡ place + 0 = omega arith in ap entry e
entry_is place (suc n) (suc k) lt =
    let e : suc place + k ≡ place + suc k = omega arith in entry_is (suc place) n k (omega (arith, lt)) ∙ ap entry e

diagonal : (asset : ℕ) → asset < 32 → entry_at 32 (entries 0 1024) asset asset ≡ 0
diagonal asset lt =
    let place : 0 + (asset * 32 + asset) ≡ asset * 33 + 0 = omega arith in
    let none : entry (asset * 33 + 0) ≡ 0 = ap (λ rest. value (rest == 0)) (mod-mul-add asset 33 0 (omega arith)) in
    entry_is 0 1024 (asset * 32 + asset) (omega (arith, lt)) ∙ (ap entry place ∙ none)

abbrev trades : FlowTable
trades = record { assets = 32; values = entries 0 1024 }

full : length (entries 0 1024) ≡ 1024
unfolding entries
full = refl

is_flow : IsFlow trades
is_flow = record {
  assets = record { some = omega arith; few = omega arith };
  values = record {
    full = full;
    in_range = All-from_recursion (λ it. it ≤ 2 ^ 102) (entries 0 1024) (in_range 0 1024);
    diagonal = diagonal;
  };
}

all_trade : length (trades_of trades) ≡ 992
unfolding entries
all_trade = refl

-- ---- the block

digest : List ℕ
digest = big_bytes 32 0

is_digest : IsDigest digest
unfolding digest
is_digest = record { whole = length-big_bytes 32 0; bytes = AreBytes-big_bytes 32 0 }

abbrev header : Header
header = record {
  version = 1;
  height = 1;
  parent = digest;
  body = digest;
  mu = 1;
  prices = replicate 32 (2 ^ 24);
  trades = trades;
  dropped = Some (record { 0 = 1 });
  potentials = replicate 32 0;
  rounding = replicate 32 0;
  after = digest;
}

is_header : IsHeader header
is_header = record {
  some_version = omega arith;
  few_versions = omega arith;
  height = omega arith;
  parent = is_digest;
  body = is_digest;
  some_mu = omega arith;
  most_mu = omega arith;
  some_asset = omega arith;
  few_assets = omega arith;
  prices = All-replicate IsPrice 32 (2 ^ 24) (omega arith, omega arith);
  same_assets = refl;
  trades = is_flow;
  cut = omega arith;
  one_potential = refl;
  potentials = All-replicate (λ potential. potential < 2 ^ 32) 32 0 (omega arith);
  one_rounding = refl;
  rounding = All-replicate (λ units. units ≤ 2 ^ 62) 32 0 (omega arith);
  after = is_digest;
}

abbrev block : Block
block = record { header = header; txs = offers 0 1000000 }

is_block : IsBlock block
is_block = record {
  header = is_header;
  few = omega (arith, how_many 0 1000000);
  each = All-from_recursion IsTx (offers 0 1000000) (each_is 0 1000000 (omega arith));
  ordered = ordered 1000000;
}

header_long : length (header_bytes header) ≡ 18610
header_long = omega (arith, length-header header is_header, all_trade)

pub some_has_most : SomeHasMostBytes
some_has_most = (
  block,
  is_block,
  omega (
    arith,
    header_long,
    length-append (header_bytes header) (list_bytes block.txs),
    length-append (big_bytes 4 (length block.txs)) (flat_map tx_bytes block.txs),
    length-big_bytes 4 (length block.txs),
    how_long 0 1000000,
  ),
)
