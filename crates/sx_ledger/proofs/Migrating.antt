-- A ledger is one in the newest version too.
use Rattle.std.proofs.Common.{◌≡◌, ℕ, ◌+◌, ◌≤◌, true, false, cond, eqb, IsTrue, arith}
use Rattle.std.specs.Prelude.{◌&&◌, nat_le, ◌==◌}
use Rattle.std.specs.Int.{bit_at}
use Rattle.std.proofs.lemmas.Bool.{eqb-true, le-leb}
use Rattle.sx_base.specs.Ranges.{most_seq}
use Rattle.sx_ledger.specs.declared.account.Account.{Account}
use Rattle.sx_ledger.specs.declared.parts.Parts.{Parts}
use Rattle.sx_ledger.specs.Ledger.{assets_of, migrated, IsAccount, IsLedger}
use Rattle.sx_tx.specs.declared.window.Window.{Window}
use Rattle.sx_tx.specs.Window.{bit_length, is_map, open_numbers, IsWindow}

no_bits : (last : ℕ) → last ≤ most_seq → IsTrue (is_map 2 last 0)
unfolding bit_length
no_bits last few = le-leb (last + 0) most_seq (omega (arith, few))

newer_map : (version last map : ℕ) → last ≤ most_seq → IsTrue (is_map version last map) → IsTrue (is_map 2 last map)
newer_map version last map few is =
    elim (eqb version 1) as (λ b. IsTrue (cond b (eqb map 0)
    ((bit_at map 0 == 0) && nat_le (last + bit_length open_numbers map) most_seq)) → IsTrue (is_map 2 last map)) [
      | true ↦ λ none. let zero_is : map ≡ 0 = eqb-true map 0 none in rw zero_is (no_bits last few)
      | false ↦ λ is. is
    ] is

newer_window : (version : ℕ) (window : Window) → IsWindow version window → IsWindow 2 window
newer_window version window is =
    record { last = is.last; fits = is.fits; map = newer_map version window.last window.used is.last is.map }

newer_account : (version assets : ℕ) (account : Account) → IsAccount version assets account → IsAccount 2 assets account
newer_account version assets account is = record {
  id = is.id;
  window = newer_window version account.window is.window;
  balances = is.balances;
  in_range = is.in_range;
}

pub migrated_is_ledger : (parts : Parts) → IsLedger parts → IsLedger (migrated parts)
migrated_is_ledger parts is = record {
  some_version = omega arith;
  few_versions = omega arith;
  height = is.height;
  some_asset = is.some_asset;
  few_assets = is.few_assets;
  prices = is.prices;
  one_rounding = is.one_rounding;
  rounding = is.rounding;
  few_accounts = is.few_accounts;
  accounts = λ k default lt. newer_account parts.version (assets_of parts) _ (is.accounts k default lt);
  by_id = is.by_id;
  few_offers = is.few_offers;
  offers = is.offers;
  by_key = is.by_key;
  totals = is.totals;
}
