-- What bodies leave of ledgers of version 2, in which sequence numbers that were skipped stay open.
use Rattle.std.proofs.Common.{◌≡◌, ◌+◌, ◌^◌, true, false, [], ◌∷◌, refl}
use Rattle.std.proofs.Common.{Ok, Err}
use Rattle.sx_ledger.specs.declared.statics.Static.TheVariants as static
use Rattle.sx_ledger.specs.Body.{body_after, used_numbers, uses}
use Rattle.sx_ledger.specs.Ledger.{has_owner, migrated}
use Rattle.sx_ledger.specs.Static.{static_of, window_of}
use Rattle.sx_ledger.proofs.CaseWords.{account, cancel, create, gapped, newer, offer, one, pay, sell_for}
use Rattle.sx_ledger.proofs.CaseWords.{tx, with_gap, with_offer}
use Rattle.sx_tx.specs.Window.{low_run}

-- the version alone is another one
migration : migrated with_offer
    ≡ newer (one ∷ one ∷ []) (account 1 3 (0 ∷ 0 ∷ []) ∷ account 2 0 (7 ∷ 9 ∷ []) ∷ []) (offer 0 1 (2 ^ 25) 1 3 40 ∷ [])
migration = refl

newer_stays : migrated with_gap ≡ with_gap
newer_stays = refl

-- 9 and 10 are used, and 8 stays open
gap_opens : body_after (newer (one ∷ []) (account 1 7 (100 ∷ []) ∷ account 2 0 (5 ∷ []) ∷ []) [])
    (tx 1 9 (pay 2 0 1) ∷ tx 1 10 (pay 2 0 2) ∷ [])
    ≡ newer (one ∷ []) (gapped 1 7 6 (97 ∷ []) ∷ account 2 0 (8 ∷ []) ∷ []) []
unfolding low_run
gap_opens = refl

-- then 8 is used
gap_closes : body_after with_gap (tx 1 8 (pay 2 0 1) ∷ [])
    ≡ newer (one ∷ []) (account 1 10 (99 ∷ []) ∷ account 2 0 (6 ∷ []) ∷ []) []
unfolding low_run
gap_closes = refl

-- or 71, the last one that is open
gap_stays : body_after with_gap (tx 1 71 (pay 2 0 1) ∷ [])
    ≡ newer (one ∷ []) (gapped 1 7 (6 + 2 ^ 63) (99 ∷ []) ∷ account 2 0 (6 ∷ []) ∷ []) []
unfolding low_run
gap_stays = refl

-- what is open passes, and what was used does not
statics : (static_of with_gap (tx 1 7 (pay 2 0 1)) ≡ Err static.SeqBehind)
    × (static_of with_gap (tx 1 8 (pay 2 0 1)) ≡ Ok tt) × (static_of with_gap (tx 1 9 (pay 2 0 1)) ≡ Err static.SeqUsed)
    × (static_of with_gap (tx 1 10 (pay 2 0 1)) ≡ Err static.SeqUsed)
    × (static_of with_gap (tx 1 11 (pay 2 0 1)) ≡ Ok tt) × (static_of with_gap (tx 1 71 (pay 2 0 1)) ≡ Ok tt)
    × (static_of with_gap (tx 1 72 (pay 2 0 1)) ≡ Err static.SeqBeyond)
statics = (refl, refl, refl, refl, refl, refl, refl)

-- a created account used no number, and holds what the sums give it
creation : body_after with_gap (tx 1 8 (create 0) ∷ tx 2 1 (create 9) ∷ [])
    ≡ newer (one ∷ [])
    (account 0 0 (0 ∷ []) ∷ account 1 10 (100 ∷ []) ∷ account 2 1 (5 ∷ []) ∷ account 9 0 (0 ∷ []) ∷ []) []
unfolding low_run
creation = refl

-- account 2 makes an offer under 3, with 1 and 2 open, and then cancels it under 2
offer_above_a_gap : body_after (migrated with_offer) (tx 1 4 (cancel 0 1 (2 ^ 25) 3) ∷ tx 2 3 (sell_for 0 1 one 5) ∷ [])
    ≡ newer (one ∷ one ∷ []) (account 1 4 (40 ∷ 0 ∷ []) ∷ gapped 2 0 4 (2 ∷ 9 ∷ []) ∷ []) (offer 0 1 one 2 3 5 ∷ [])
unfolding low_run
offer_above_a_gap = refl

offer_ended_in_a_gap : body_after
    (newer (one ∷ one ∷ []) (account 1 4 (40 ∷ 0 ∷ []) ∷ gapped 2 0 4 (2 ∷ 9 ∷ []) ∷ []) (offer 0 1 one 2 3 5 ∷ []))
    (tx 2 2 (cancel 0 1 one 3) ∷ [])
    ≡ newer (one ∷ one ∷ []) (account 1 4 (40 ∷ 0 ∷ []) ∷ gapped 2 0 6 (7 ∷ 9 ∷ []) ∷ []) []
unfolding low_run
offer_ended_in_a_gap = refl

-- an offer is of a number that its account used
owners : (has_owner with_gap.accounts (offer 0 1 one 1 7 5) ≡ true)
    × (has_owner with_gap.accounts (offer 0 1 one 1 8 5) ≡ false)
    × (has_owner with_gap.accounts (offer 0 1 one 1 9 5) ≡ true)
    × (has_owner with_gap.accounts (offer 0 1 one 1 11 5) ≡ false)
    × (has_owner with_gap.accounts (offer 0 1 one 2 1 5) ≡ false)
    × (has_owner with_gap.accounts (offer 0 1 one 3 1 5) ≡ false)
owners = (refl, refl, refl, refl, refl, refl)

-- the window of an account, and of one that is not there
windows : (window_of with_gap.accounts 1 ≡ record { last = 7; used = 6 })
    × (window_of with_gap.accounts 9 ≡ record { last = 0; used = 0 })
windows = (refl, refl)

-- an account uses the numbers of its own transactions, and no other's
numbers : (uses (tx 1 9 (pay 2 0 1) ∷ []) 1 9 ≡ true) × (uses (tx 1 9 (pay 2 0 1) ∷ []) 1 8 ≡ false)
    × (uses (tx 1 9 (pay 2 0 1) ∷ []) 2 9 ≡ false) × (used_numbers (tx 1 8 (create 3) ∷ tx 1 9 (create 4) ∷ []) 1 7 ≡ 3)
    × (used_numbers (tx 1 71 (create 3) ∷ []) 1 7 ≡ 2 ^ 63) × (used_numbers (tx 1 72 (create 3) ∷ []) 1 7 ≡ 0)
numbers = (refl, refl, refl, refl, refl, refl)
