-- Prices, units and accounts: decoding inverts encoding, and back.
use Rattle.std.proofs.Common.{◌≡◌, ℕ, zero, suc, ◌+◌, ◌^◌, ◌≤◌, true, List, [], ◌∷◌, ◌++◌, length, Option}
use Rattle.std.proofs.Common.{Some, None, Ok, All, refl, sym, subst, arith}
use Rattle.std.specs.Prelude.{nat_lt}
use Rattle.std.specs.List.{flat_map}
use Rattle.std.specs.List.Sorted.{IsStrictlyIncreasing}
use Rattle.std.proofs.lemmas.List.Elements.{All-from_recursion, recursion_from_All}
use Rattle.byteorder.specs.Endian.{big_bytes}
use Rattle.sx_bytes.specs.declared.fault.Form.TheVariants as form
use Rattle.sx_bytes.specs.Field.{AreBytes}
use Rattle.sx_bytes.specs.Cursor.{Cursor, rest}
use Rattle.sx_bytes.specs.Grammar.{between, field_at, many_at, may_follow}
use Rattle.sx_bytes.proofs.Grammar.{Takes, Again}
use Rattle.sx_bytes.proofs.Parts.{TakesAll, ReadsAgain, three_take, three_again}
use Rattle.sx_bytes.proofs.DecodingSteps.{range_takes, range_again}
use Rattle.sx_tx.specs.Transactions.{IsId}
use Rattle.sx_tx.specs.TransactionDecoding.{id_at}
use Rattle.sx_tx.proofs.FieldLaws.{id_takes, id_again}
use Rattle.sx_ledger.specs.declared.account.Account.{Account}
use Rattle.sx_price.specs.Limits.{IsPrice}
use Rattle.sx_ledger.specs.Ledger.{ids, IsAccount}
use Rattle.sx_ledger.proofs.IdsInOrder.{increasing_from_order, order_from_increasing}
use Rattle.sx_state.specs.Encoding.{window_bytes, account_bytes}
use Rattle.sx_state.specs.Decoding.{price_at, units_field_at, window_at, account_at, next_account_at, accounts_at}
use Rattle.sx_state.specs.Decoding.{account_list_at}
use Rattle.sx_state.proofs.DependentParts.{AreNumbers, numbers_take, numbers_again, guard_takes, guard_again}
use Rattle.sx_state.proofs.DependentParts.{chained_takes, chained_again}
use Rattle.sx_state.proofs.EntriesInOrder.{IsTaken, each_takes, each_again}
use Rattle.sx_state.proofs.WindowFields.{window_takes, window_again}
use Rattle.sx_tx.specs.declared.window.Window.{Window}
use Rattle.sx_tx.specs.Window.{IsWindow}

-- no more than 2 ^ 62 units
abbrev pub InRange : ℕ → Type 0
InRange units = units ≤ 2 ^ 62

pub price_takes : TakesAll price_at (big_bytes 8) IsPrice
price_takes c next x bytes e = let t = range_takes 8 (2 ^ 8) (2 ^ 40) form.PriceRange c next x bytes e in
    (t.0, (t.1, t.2))

pub price_again : ReadsAgain price_at (big_bytes 8) IsPrice
price_again c x after is within e =
    range_again 8 (2 ^ 8) (2 ^ 40) form.PriceRange c x after (omega arith) is.0 is.1 within e

pub units_takes : TakesAll units_field_at (big_bytes 8) InRange
units_takes c next x bytes e = let t = range_takes 8 0 (2 ^ 62) form.AmountRange c next x bytes e in (t.0, t.2)

pub units_again : ReadsAgain units_field_at (big_bytes 8) InRange
units_again c x after is within e =
    range_again 8 0 (2 ^ 62) form.AmountRange c x after (omega arith) (omega arith) is within e

-- ---- an account

abbrev made : ℕ → Window → List ℕ → Account
made id window balances = record { id = record { 0 = id }; window = window; balances = balances }

pub account_takes : (version assets : ℕ)
    → TakesAll (account_at version assets) (account_bytes version) (IsAccount version assets)
unfolding account_at
account_takes version assets c next account bytes e =
    let t = three_take id_at (window_at version) (many_at units_field_at assets) made (big_bytes 8)
    (window_bytes version) (flat_map (big_bytes 8)) IsId (IsWindow version) (AreNumbers InRange assets)
    id_takes (window_takes version) (numbers_take units_field_at InRange assets units_takes) c next account bytes e in
    let is : IsAccount version assets (made t.0 t.1 t.2) =
    record { id = t.5; window = t.6; balances = t.7.number; in_range = t.7.are } in
    subst (λ (a : Account). Takes c (account_bytes version a) next × IsAccount version assets a) t.3 (t.4, is)

pub account_again : (version assets : ℕ)
    → ReadsAgain (account_at version assets) (account_bytes version) (IsAccount version assets)
unfolding account_at
account_again version assets c account after is within e =
    let balances : AreNumbers InRange assets account.balances = record { number = is.balances; are = is.in_range } in
    three_again id_at (window_at version) (many_at units_field_at assets) made (big_bytes 8)
    (window_bytes version) (flat_map (big_bytes 8)) IsId (IsWindow version) (AreNumbers InRange assets)
    id_again (window_again version) (numbers_again units_field_at InRange assets units_again)
    c account.id.0 account.window account.balances after is.id is.window balances within e

-- ---- accounts by id

abbrev id_of : Account → ℕ
id_of account = account.id.0

next_takes : (version assets : ℕ) (before : Option ℕ) (c next : Cursor) (account : Account) → AreBytes c.bytes
    → next_account_at version assets before c ≡ Ok (account, next)
    → IsTaken (account_bytes version) id_of nat_lt (IsAccount version assets) before c next account
unfolding next_account_at
next_takes version assets before c next account bytes e =
    let g = guard_takes (account_at version assets c) (λ a. may_follow nat_lt before (id_of a))
    (record { at = c.place; fault = form.Order }) (account, next) e in
    let t = account_takes version assets c next account bytes g.0 in
    (t.0, t.1, g.1)

next_again : (version assets : ℕ) (before : Option ℕ) (c : Cursor) (account : Account) (after : List ℕ)
    → IsAccount version assets account → may_follow nat_lt before (id_of account) ≡ true
    → c.place ≤ length c.bytes → rest c ≡ account_bytes version account ++ after
    → Again (next_account_at version assets before c) c account after
unfolding next_account_at
next_again version assets before c account after is follows within e =
    guard_again (account_at version assets c) (λ a. may_follow nat_lt before (id_of a))
    (record { at = c.place; fault = form.Order }) c account after follows
    (account_again version assets c account after is within e)

-- ---- their number, and the accounts

-- accounts of a state of this version with `assets` assets
pub record AreAccounts (version assets : ℕ) (accounts : List Account) : Type 0 where
  pub few : length accounts ≤ 65536
  pub are : All (IsAccount version assets) accounts
  pub by_id : IsStrictlyIncreasing (ids accounts)

abbrev pub account_list_bytes : ℕ → List Account → List ℕ
account_list_bytes version accounts = big_bytes 4 (length accounts) ++ flat_map (account_bytes version) accounts

-- n accounts
record AreMany (version assets n : ℕ) (accounts : List Account) : Type 0 where
  number : n ≡ length accounts
  are : All (IsAccount version assets) accounts
  by_id : IsStrictlyIncreasing (ids accounts)

accounts_take : (version assets n : ℕ) → TakesAll (accounts_at version assets n None)
    (flat_map (account_bytes version)) (AreMany version assets n)
accounts_take version assets n c next accounts bytes e =
    let t = each_takes (next_account_at version assets) id_of (account_bytes version) nat_lt
    (IsAccount version assets) (next_takes version assets) n None c next accounts bytes e in (
      t.0,
      record {
        number = sym t.1;
        are = All-from_recursion (IsAccount version assets) accounts t.2;
        by_id = increasing_from_order None (ids accounts) t.3;
      },
    )

accounts_again : (version assets n : ℕ) → ReadsAgain (accounts_at version assets n None)
    (flat_map (account_bytes version)) (AreMany version assets n)
accounts_again version assets n c accounts after is within e =
    let read = each_again (next_account_at version assets) id_of (account_bytes version) nat_lt
    (IsAccount version assets) (next_again version assets) accounts None c after
    (recursion_from_All (IsAccount version assets) accounts is.are) (order_from_increasing (ids accounts) is.by_id)
    within e in
    subst (λ (k : ℕ). Again (accounts_at version assets k None c) c accounts after) (sym is.number) read

abbrev IsCount : ℕ → Type 0
IsCount n = n ≤ 65536

count_takes : TakesAll (field_at 4 (between 0 65536) form.TooMany) (big_bytes 4) IsCount
count_takes c next x bytes e = let t = range_takes 4 0 65536 form.TooMany c next x bytes e in (t.0, t.2)

count_again : ReadsAgain (field_at 4 (between 0 65536) form.TooMany) (big_bytes 4) IsCount
count_again c x after is within e =
    range_again 4 0 65536 form.TooMany c x after (omega arith) (omega arith) is within e

pub account_list_takes : (version assets : ℕ)
    → TakesAll (account_list_at version assets) (account_list_bytes version) (AreAccounts version assets)
unfolding account_list_at
account_list_takes version assets c next accounts bytes e =
    let t = chained_takes (field_at 4 (between 0 65536) form.TooMany) (λ n. accounts_at version assets n None)
    (big_bytes 4) (flat_map (account_bytes version)) IsCount (AreMany version assets) length
    count_takes (λ n is. accounts_take version assets n) (λ n xs is. is.number) c next accounts bytes e in
    (t.0, record { few = t.1.0; are = t.1.1.are; by_id = t.1.1.by_id })

pub account_list_again : (version assets : ℕ)
    → ReadsAgain (account_list_at version assets) (account_list_bytes version) (AreAccounts version assets)
unfolding account_list_at
account_list_again version assets c accounts after is within e =
    let many : AreMany version assets (length accounts) accounts =
    record { number = refl; are = is.are; by_id = is.by_id } in
    chained_again (field_at 4 (between 0 65536) form.TooMany) (λ n. accounts_at version assets n None)
    (big_bytes 4) (flat_map (account_bytes version)) IsCount (AreMany version assets) length
    count_again (λ n is. accounts_again version assets n) c accounts after (is.few, many) within e
