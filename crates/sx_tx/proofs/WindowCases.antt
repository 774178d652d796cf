-- Worked windows, by the definitions alone.
use Rattle.std.proofs.Common.{◌≡◌, ◌^◌, ◌-◌, true, false, refl}
use Rattle.std.specs.Prelude.{nat_lt, ◌+◌}
use Rattle.sx_tx.specs.declared.window.WindowFault.TheVariants as fault
use Rattle.sx_tx.specs.Window.{open_numbers, number_of, bit_length, low_run, is_map, is_used, Next}

-- 9 and 10 are used: 8 stays open
gap_stays : Next 2 (record { last = 7; used = 0 }) 6 ≡ record { last = 7; used = 6 }
unfolding low_run
gap_stays = refl

-- then 8 is
gap_closes : Next 2 (record { last = 7; used = 6 }) 1 ≡ record { last = 10; used = 0 }
unfolding low_run
gap_closes = refl

-- 71 is used, the last that is open, and 72 is beyond the window
last_open : Next 2 (record { last = 7; used = 0 }) (2 ^ 63) ≡ record { last = 7; used = 9223372036854775808 }
unfolding low_run
last_open = refl

next_is_beyond : nat_lt (7 + open_numbers) 72 ≡ true
next_is_beyond = refl

-- the whole word is used
all_used : Next 2 (record { last = 7; used = 2 ^ 64 - 2 }) 1 ≡ record { last = 71; used = 0 }
unfolding low_run
all_used = refl

-- in version 1 what was skipped is lost
gap_is_lost : Next 1 (record { last = 7; used = 0 }) 6 ≡ record { last = 10; used = 0 }
unfolding bit_length
gap_is_lost = refl

gap_is_lost_to_71 : Next 1 (record { last = 7; used = 0 }) (2 ^ 63) ≡ record { last = 71; used = 0 }
unfolding bit_length
gap_is_lost_to_71 = refl

-- which numbers of a window are used
seven_used : is_used (record { last = 7; used = 6 }) 7 ≡ true
seven_used = refl

eight_open : is_used (record { last = 7; used = 6 }) 8 ≡ false
eight_open = refl

nine_used : is_used (record { last = 7; used = 6 }) 9 ≡ true
nine_used = refl

eleven_open : is_used (record { last = 7; used = 6 }) 11 ≡ false
eleven_open = refl

-- which maps fit
first_bit : is_map 2 7 1 ≡ false
first_bit = refl

gap_fits : is_map 2 7 6 ≡ true
unfolding bit_length
gap_fits = refl

no_gap_in_version_1 : is_map 1 7 6 ≡ false
no_gap_in_version_1 = refl

-- 2 ^ 63 - 1 is the greatest sequence number
at_the_greatest : is_map 2 (2 ^ 63 - 3) 2 ≡ true
unfolding bit_length
at_the_greatest = refl

above_the_greatest : is_map 2 (2 ^ 63 - 2) 2 ≡ false
unfolding bit_length
above_the_greatest = refl

used_is_3 : number_of fault.Used ≡ 3
used_is_3 = refl
