-- What is decoded of small payloads, and which of two faults it is.
use Rattle.std.proofs.Common.{◌≡◌, ℕ, ◌-◌, ◌^◌, List, [], ◌∷◌, ◌++◌, length, Some, None, Ok, Err, refl}
use Rattle.byteorder.specs.Endian.{big_bytes}
use Rattle.sx_bytes.specs.declared.fault.Form.TheVariants as form
use Rattle.sx_bytes.specs.Cursor.{Cursor}
use Rattle.sx_bytes.specs.Grammar.{many_at}
use Rattle.sx_ledger.specs.declared.parts.Parts.{Parts}
use Rattle.sx_state.specs.Decoding.{account_at, account_list_at, each_at, head_at, next_account_at, next_offer_at}
use Rattle.sx_state.specs.Decoding.{offer_at, offer_list_at, parts_at, state_at, totals_fit, window_at}
use Rattle.sx_state.specs.Encoding.{offer_bytes, state_bytes}
use Rattle.sx_ledger.specs.Ledger.{migrated}
use Rattle.sx_ledger.specs.Order.{key_of}
use Rattle.sx_ledger.proofs.CaseWords.{account, newer, offer, one, opening, with_gap}
use Rattle.sx_tx.specs.Window.{bit_length}

abbrev at : List ℕ → Cursor
at bytes = record { bytes = bytes; place = 0 }

-- ---- windows

abbrev window_text : ℕ → List ℕ
window_text map = big_bytes 8 7 ++ big_bytes 8 map

older_window : window_at 1 (at (window_text 6))
    ≡ Ok (record { last = 7; used = 0 }, record { bytes = window_text 6; place = 8 })
older_window = refl

newer_window : window_at 2 (at (window_text 6))
    ≡ Ok (record { last = 7; used = 6 }, record { bytes = window_text 6; place = 16 })
unfolding bit_length
newer_window = refl

-- the number after the last one is marked
first_marked : window_at 2 (at (window_text 1)) ≡ Err (record { at = 8; fault = form.UsedRange })
first_marked = refl

-- a number above the greatest one is marked
abbrev last_text : List ℕ
last_text = big_bytes 8 (2 ^ 63 - 2) ++ big_bytes 8 2

beyond_marked : window_at 2 (at last_text) ≡ Err (record { at = 8; fault = form.UsedRange })
unfolding bit_length
beyond_marked = refl

-- ---- offers

-- this offer is not after itself, and its account is not there
two_faults : next_offer_at [] 2 (Some (key_of (offer 0 1 one 1 7 5))) (at (offer_bytes (offer 0 1 one 1 7 5)))
    ≡ Err (record { at = 0; fault = form.Order })
unfolding next_offer_at offer_at
two_faults = refl

no_owner : next_offer_at [] 2 None (at (offer_bytes (offer 0 1 one 1 7 5)))
    ≡ Err (record { at = 0; fault = form.Owner })
unfolding next_offer_at offer_at
no_owner = refl

-- ---- states

-- one unit too many, and a byte too many
abbrev over : Parts
over = record {
  version = 1;
  height = 0;
  prices = one ∷ [];
  rounding = 2 ^ 62 ∷ [];
  accounts = account 1 0 (1 ∷ []) ∷ [];
  offers = [];
}

over_and_longer : state_at (state_bytes over ++ (0 ∷ [])) ≡ Err (record { at = 0; fault = form.Total })
unfolding state_at parts_at head_at account_list_at each_at next_account_at account_at many_at offer_list_at totals_fit
over_and_longer = refl

-- ---- the newest version

-- 16 bytes more for two accounts
longer : length (state_bytes opening) ≡ 82
longer = refl

longer_by_two_maps : length (state_bytes (migrated opening)) ≡ 98
longer_by_two_maps = refl

same_but_its_version : migrated opening ≡ newer (one ∷ []) (account 1 0 (100 ∷ []) ∷ account 2 0 (5 ∷ []) ∷ []) []
same_but_its_version = refl

newer_stays : migrated with_gap ≡ with_gap
newer_stays = refl
