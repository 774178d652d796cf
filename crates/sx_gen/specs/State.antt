-- The state before the demonstration.
use Rattle.std.specs.Prelude.{ℕ, ◌+◌, ◌^◌, List, [], replicate}
use Rattle.sx_gen.specs.Drawing.{listed}
use Rattle.sx_ledger.specs.declared.account.Account.{Account}
use Rattle.sx_ledger.specs.declared.parts.Parts.{Parts}

-- the account at place i, whose id is one greater
abbrev pub account_at : ℕ → Account
account_at i = record {
  id = record { 0 = 1 + i };
  window = record { last = 0; used = 0 };
  balances = replicate 8 1000000;
}

abbrev pub accounts_of : ℕ → List Account
accounts_of count = listed account_at count

unfoldable pub demo_parts : Parts
demo_parts = record {
  version = 1;
  height = 0;
  prices = replicate 8 (2 ^ 24);
  rounding = replicate 8 0;
  accounts = accounts_of 1000;
  offers = [];
}
