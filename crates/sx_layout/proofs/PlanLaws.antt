-- The words of a plan are there, and have at the opening what belongs there.
use Rattle.std.proofs.Common.{◌≡◌, ℕ, suc, ◌+◌, ◌-◌, ◌*◌, ◌/◌, ◌%◌, ◌^◌, ◌<◌, ◌≤◌, List, [], ◌∷◌}
use Rattle.std.proofs.Common.{length, get_or, Bool, true, false, cond}
use Rattle.std.proofs.Common.{map, replicate, Some, sym, ap, ◌∙◌, arith, length-append}
use Rattle.std.specs.Prelude.{slice_get, nat_lt, ◌==◌}
use Rattle.std.specs.List.{AllByRecursion}
use Rattle.std.proofs.lemmas.Nat.{mod_below, mul-add-lt, mul-le}
use Rattle.std.proofs.lemmas.List.{length-map, length-replicate, get_or_append_left, get_or-append-add}
use Rattle.std.proofs.lemmas.List.Elements.{recursion_from_All}
use Rattle.std.proofs.lemmas.List.FromFn.{get_or-map-range_with_len}
use Rattle.std.proofs.lemmas.Option.{slice_get_within, get_or_from_slice_get}
use Rattle.sx_layout.specs.declared.spot.Spot.{Spot}
use Rattle.sx_layout.specs.Dealing.{dealt, words_for}
use Rattle.sx_layout.specs.NewIds.{new_ids, each_once, put_once}
use Rattle.sx_layout.specs.Plan.{Plan, plan_of, window_spot, offer_spot, name_spot, words_of}
use Rattle.sx_layout.specs.Plan.{window_words, offer_words, name_words, purses_at, bits_at}
use Rattle.sx_layout.specs.PlanLaws.{IsLaidOut, Thing, Number, AnOffer, AName, IsThing, HasBit}
use Rattle.sx_layout.specs.PlanLaws.{HasPurse, BitsThere, PursesThere, WordsFit}
use Rattle.sx_outcome.proofs.Counts.{length-filter_map}
use Rattle.sx_layout.proofs.Shares.{in_share, share_le, length-dealt, thing_dealt, all_dealt}
use Rattle.sx_layout.proofs.Shares.{map-dealt}
use Rattle.sx_layout.proofs.Shares.{length-rows, get_or-rows, zeros}
use Rattle.sx_ledger.specs.declared.account.Account.{Account}
use Rattle.sx_ledger.specs.declared.parts.Parts.{Parts}
use Rattle.sx_ledger.specs.Body.{created, created_by}
use Rattle.sx_ledger.specs.Ledger.{IsAccount, assets_of}
use Rattle.sx_tx.specs.declared.tx.Tx.{Tx}
use Rattle.sx_layout.proofs.SpotLaws.{in_windows, after_windows, in_offers, in_names}

-- ---- how many new ids

length-put : (id : ℕ) (ys : List ℕ) → length (put_once id ys) ≤ suc (length ys)
length-put id [] = omega arith
length-put id (y ∷ ys) = put (id == y) (nat_lt id y) (length-put id ys)
  where
    put : (b c : Bool) → length (put_once id ys) ≤ suc (length ys)
        → length (cond b (y ∷ ys) (cond c (id ∷ y ∷ ys) (y ∷ put_once id ys))) ≤ suc (suc (length ys))
    put true c le = omega arith
    put false true le = omega arith
    put false false le = omega (arith, le)

length-each_once : (ids : List ℕ) → length (each_once ids) ≤ length ids
length-each_once [] = omega arith
length-each_once (id ∷ ids) = omega (arith, length-put id (each_once ids), length-each_once ids)

few_names : (candidates : List Tx) → length (new_ids candidates) ≤ length candidates
few_names candidates =
    omega (arith, length-each_once (created candidates), length-filter_map (λ (tx : Tx). created_by tx.kind) candidates)

-- ---- words at the opening

module _ (parts : Parts) (candidates : List Tx) (shards : ℕ) (laid : IsLaidOut parts candidates shards) where
  abbrev names : List ℕ
  names = new_ids candidates

  abbrev plan : Plan
  plan = plan_of parts candidates shards

  abbrev used : Account → ℕ
  used account = account.window.used

  record Found (spot : Spot) (bit value : ℕ) : Type 0 where
    shard : spot.shard < shards
    word : spot.word < length (words_of plan.bits spot.shard)
    small : bit < 64
    opening : get_or (words_of plan.bits spot.shard) spot.word 0 ≡ value

  purse_words : (shard : ℕ) → shard < shards → words_of plan.purses shard ≡ purses_at parts shards shard
  purse_words shard lt = get_or-map-range_with_len (purses_at parts shards) 0 shards shard shard [] lt (omega arith)

  bit_words : (shard : ℕ) → shard < shards → words_of plan.bits shard ≡ bits_at parts names shards shard
  bit_words shard lt = get_or-map-range_with_len (bits_at parts names shards) 0 shards shard shard [] lt (omega arith)

  long : (shard : ℕ) → shard < shards → length (map used (dealt shards shard parts.accounts)) ≡ window_words plan shard
  long shard lt = length-map (dealt shards shard parts.accounts) used ∙ length-dealt shards shard parts.accounts lt

  length-bits : (shard : ℕ) → shard < shards
      → length (bits_at parts names shards shard)
      ≡ window_words plan shard + (offer_words plan shard + name_words plan shard)
  length-bits shard lt =
      length-append (map used (dealt shards shard parts.accounts))
      (replicate (offer_words plan shard + name_words plan shard) 0)
      ∙ ap (λ (n : ℕ). n + length {A = ℕ} (replicate (offer_words plan shard + name_words plan shard) 0))
      (long shard lt)
      ∙ ap (λ (n : ℕ). window_words plan shard + n)
      (length-replicate (offer_words plan shard + name_words plan shard) 0)

  -- after the words of sequence numbers all bits are clear
  clear : (shard word : ℕ) → shard < shards → window_words plan shard ≤ word
      → get_or (bits_at parts names shards shard) word 0 ≡ 0
  clear shard word lt le =
      let front = map used (dealt shards shard parts.accounts) in
      let rest = word - window_words plan shard in
      let same : length front + rest ≡ word = omega (arith, long shard lt) in
      ap (λ (n : ℕ). get_or (bits_at parts names shards shard) n 0) (sym same)
      ∙ get_or-append-add front (replicate (offer_words plan shard + name_words plan shard) 0) rest 0
      ∙ zeros (offer_words plan shard + name_words plan shard) rest

  used_there : (place : ℕ) → place < length parts.accounts
      → get_or (bits_at parts names shards (place % shards)) (place / shards) 0 ≡ get_or (map used parts.accounts)
      place 0
  used_there place lt =
      let shard = place % shards in
      let small = mod_below place shards laid.some_shard in
      let front = map used (dealt shards shard parts.accounts) in
      let inside : place / shards < length front =
      omega (arith, long shard small, in_share shards (length parts.accounts) place laid.some_shard lt) in
      get_or_append_left front (replicate (offer_words plan shard + name_words plan shard) 0) 0 (place / shards) inside
      ∙ ap (λ (ys : List ℕ). get_or ys (place / shards) 0) (map-dealt used shards shard parts.accounts)
      ∙ thing_dealt shards place (map used parts.accounts) 0 laid.some_shard

  -- a bit of a word that is there and has this value at the opening
  has_bit : (spot : Spot) (bit value : ℕ) → spot.shard < shards
      → spot.word < window_words plan spot.shard + offer_words plan spot.shard + name_words plan spot.shard → bit < 64
      → get_or (bits_at parts names shards spot.shard) spot.word 0 ≡ value → Found spot bit value
  has_bit spot bit value lt within small is = record {
    shard = lt;
    word = (let same = ap length (bit_words spot.shard lt) in omega (arith, same, within, length-bits spot.shard lt));
    small = small;
    opening = ap (λ (ws : List ℕ). get_or ws spot.word 0) (bit_words spot.shard lt) ∙ is;
  }

  bit_there : (thing : Thing) → IsThing plan thing → HasBit parts plan thing
  bit_there (Number place number) is =
      let small = mod_below place shards laid.some_shard in
      let found = has_bit (window_spot plan place) number (get_or (map used parts.accounts) place 0) small
      (omega (arith, in_windows plan laid.some_shard place is.0)) is.1 (used_there place is.0) in
      record { shard = found.shard; word = found.word; bit = found.small; opening = found.opening }
  bit_there (AnOffer place) is =
      let small = mod_below (place / 64) shards laid.some_shard in
      let spot = offer_spot plan place in
      let found = has_bit spot.0 spot.1 0 small
      (omega (arith, in_offers plan laid.some_shard place is)) (mod_below place 64 (omega arith))
      (clear spot.0.shard spot.0.word small (after_windows plan laid.some_shard place)) in
      record { shard = found.shard; word = found.word; bit = found.small; opening = found.opening }
  bit_there (AName index) is =
      let small = mod_below (index / 64) shards laid.some_shard in
      let spot = name_spot plan index in
      let found = has_bit spot.0 spot.1 0 small
      (in_names plan laid.some_shard index is) (mod_below index 64 (omega arith))
      (clear spot.0.shard spot.0.word small (omega arith)) in
      record { shard = found.shard; word = found.word; bit = found.small; opening = found.opening }

  widths : (accounts : List Account) → AllByRecursion (IsAccount parts.version (assets_of parts)) accounts
      → AllByRecursion (λ account. length account.balances ≡ assets_of parts) accounts
  widths [] are = tt
  widths (account ∷ accounts) are = (are.0.balances, widths accounts are.1)

  wide : (shard : ℕ)
      → AllByRecursion (λ account. length account.balances ≡ assets_of parts) (dealt shards shard parts.accounts)
  wide shard =
      all_dealt (λ account. length account.balances ≡ assets_of parts) shards shard parts.accounts
      (widths parts.accounts (recursion_from_All (IsAccount parts.version (assets_of parts)) parts.accounts laid.ledger.accounts))

  length-purses : (shard : ℕ) → shard < shards
      → length (purses_at parts shards shard) ≡ window_words plan shard * assets_of parts
  length-purses shard lt =
      length-rows (λ (account : Account). account.balances) (assets_of parts) (dealt shards shard parts.accounts)
      (wide shard)
      ∙ ap (λ (n : ℕ). n * assets_of parts) (length-dealt shards shard parts.accounts lt)

  purse_there : (place asset : ℕ) (account : Account) → slice_get parts.accounts place ≡ Some account
      → asset < assets_of parts → HasPurse plan place asset account
  purse_there place asset account at small =
      let shard = place % shards in
      let lt = mod_below place shards laid.some_shard in
      let row = in_share shards (length parts.accounts) place laid.some_shard
      (slice_get_within parts.accounts place account at) in
      let share = dealt shards shard parts.accounts in
      let inside : place / shards < length share = omega (arith, row, length-dealt shards shard parts.accounts lt) in
      let found : get_or share (place / shards) account ≡ account =
      thing_dealt shards place parts.accounts account laid.some_shard
      ∙ get_or_from_slice_get parts.accounts place account account at in
      let below = mul-add-lt (place / shards) (assets_of parts) asset (window_words plan shard) row small in
      record {
        shard = lt;
        word = (let same = ap length (purse_words shard lt) in omega (arith, same, below, length-purses shard lt));
        balance =
            ap (λ (ws : List ℕ). get_or ws (place / shards * assets_of parts + asset) 0) (purse_words shard lt)
            ∙ get_or-rows (λ (a : Account). a.balances) (assets_of parts) share (wide shard) (place / shards) asset
            account 0 inside small
            ∙ ap (λ (a : Account). get_or a.balances asset 0) found;
      }

  fits : (shard : ℕ) → shard < shards
      → length (words_of plan.purses shard) + length (words_of plan.bits shard) < 2 ^ 31
  fits shard lt =
      let accounts = share_le shards shard (length parts.accounts) laid.some_shard in
      let offers = share_le shards shard (words_for (length parts.offers)) laid.some_shard in
      let others = share_le shards shard (words_for (length names)) laid.some_shard in
      let purses = mul-le (window_words plan shard) (assets_of parts) 65536 32
      (omega (arith, accounts, laid.ledger.few_accounts)) laid.ledger.few_assets in
      omega (
        arith,
        ap length (purse_words shard lt),
        ap length (bit_words shard lt),
        length-purses shard lt,
        length-bits shard lt,
        accounts,
        offers,
        others,
        purses,
        laid.ledger.few_accounts,
        laid.ledger.few_offers,
        laid.few_candidates,
        few_names candidates,
      )

pub bits_are_there : BitsThere
bits_are_there parts candidates shards thing laid = bit_there parts candidates shards laid thing

pub purses_are_there : PursesThere
purses_are_there parts candidates shards place asset account laid =
    purse_there parts candidates shards laid place asset account

pub words_fit : WordsFit
words_fit parts candidates shards shard laid = fits parts candidates shards laid shard
