-- Words that are read, and words that are not, worked out by hand.
use Rattle.std.proofs.Common.{◌≡◌, [], ◌∷◌, Some, None, refl}
use Rattle.std.specs.Prelude.{codes}
use Rattle.sx_words.specs.Commands.{command_of}
use Rattle.sx_words.specs.Numbers.{number_in}
use Rattle.sx_words.specs.declared.command.Command.TheVariants.{Seal, Replay, Check, Show, Interleave, Migrate, Filter}
use Rattle.sx_words.specs.declared.command.Command.TheVariants.{Prove, Verify, Follow, Demo}

-- ---- commands

defaults : command_of (codes "seal" ∷ []) ≡ Some (Seal 4 16 10 500 1)
unfolding command_of number_in
defaults = refl

two_words : command_of (codes "seal" ∷ codes "--workers" ∷ codes "8" ∷ codes "--mu" ∷ codes "10" ∷ [])
    ≡ Some (Seal 8 16 10 500 1)
unfolding command_of number_in
two_words = refl

one_word : command_of (codes "seal" ∷ codes "--workers=8" ∷ codes "--mu=10" ∷ []) ≡ Some (Seal 8 16 10 500 1)
unfolding command_of number_in
one_word = refl

any_order : command_of (codes "seal" ∷ codes "--rounds" ∷ codes "10000" ∷ codes "--shards=64" ∷
    codes "--workers" ∷ codes "1" ∷ [])
    ≡ Some (Seal 1 64 10 10000 1)
unfolding command_of number_in
any_order = refl

least_of_all : command_of (codes "seal" ∷ codes "--workers=1" ∷ codes "--shards=1" ∷ codes "--mu=1" ∷
    codes "--rounds=0" ∷ codes "--searches=1" ∷ [])
    ≡ Some (Seal 1 1 1 0 1)
unfolding command_of number_in
least_of_all = refl

most_of_all : command_of (codes "seal" ∷ codes "--workers=64" ∷ codes "--shards=64" ∷ codes "--mu=20" ∷
    codes "--rounds=10000" ∷ codes "--searches" ∷ codes "8" ∷ [])
    ≡ Some (Seal 64 64 20 10000 8)
unfolding command_of number_in
most_of_all = refl

replays_by_default : command_of (codes "replay" ∷ []) ≡ Some (Replay 4)
unfolding command_of number_in
replays_by_default = refl

replays : command_of (codes "replay" ∷ codes "--workers=64" ∷ []) ≡ Some (Replay 64)
unfolding command_of number_in
replays = refl

demonstrates : command_of (codes "demo" ∷ codes "18446744073709551615" ∷ []) ≡ Some (Demo 18446744073709551615 4)
unfolding command_of number_in
demonstrates = refl

from_zero : command_of (codes "demo" ∷ codes "0" ∷ codes "--workers" ∷ codes "1" ∷ []) ≡ Some (Demo 0 1)
unfolding command_of number_in
from_zero = refl

checks : command_of (codes "check" ∷ []) ≡ Some Check
unfolding command_of
checks = refl

shows : command_of (codes "show" ∷ []) ≡ Some Show
unfolding command_of
shows = refl

interleaves : command_of (codes "interleave" ∷ []) ≡ Some Interleave
unfolding command_of
interleaves = refl

migrates : command_of (codes "migrate" ∷ []) ≡ Some Migrate
unfolding command_of
migrates = refl

filters_by_default : command_of (codes "filter" ∷ []) ≡ Some (Filter 4)
unfolding command_of number_in
filters_by_default = refl

filters : command_of (codes "filter" ∷ codes "--workers" ∷ codes "64" ∷ []) ≡ Some (Filter 64)
unfolding command_of number_in
filters = refl

filters_by_one_word : command_of (codes "filter" ∷ codes "--workers=1" ∷ []) ≡ Some (Filter 1)
unfolding command_of number_in
filters_by_one_word = refl

proves_zero : command_of (codes "prove" ∷ codes "0" ∷ []) ≡ Some (Prove 0)
unfolding command_of number_in
proves_zero = refl

proves_the_last : command_of (codes "prove" ∷ codes "18446744073709551615" ∷ []) ≡ Some (Prove 18446744073709551615)
unfolding command_of number_in
proves_the_last = refl

verifies : command_of (codes "verify" ∷ []) ≡ Some Verify
unfolding command_of
verifies = refl

follows : command_of (codes "follow" ∷ []) ≡ Some Follow
unfolding command_of
follows = refl

-- ---- no commands

misspelt : command_of (codes "sael" ∷ []) ≡ None
unfolding command_of
misspelt = refl

no_workers : command_of (codes "seal" ∷ codes "--workers" ∷ codes "0" ∷ []) ≡ None
unfolding command_of number_in
no_workers = refl

too_many_workers : command_of (codes "replay" ∷ codes "--workers" ∷ codes "65" ∷ []) ≡ None
unfolding command_of number_in
too_many_workers = refl

too_many_rounds : command_of (codes "seal" ∷ codes "--rounds=10001" ∷ []) ≡ None
unfolding command_of number_in
too_many_rounds = refl

too_fine : command_of (codes "seal" ∷ codes "--mu" ∷ codes "21" ∷ []) ≡ None
unfolding command_of number_in
too_fine = refl

no_shards : command_of (codes "seal" ∷ codes "--shards=0" ∷ []) ≡ None
unfolding command_of number_in
no_shards = refl

too_many_shards : command_of (codes "seal" ∷ codes "--shards=65" ∷ []) ≡ None
unfolding command_of number_in
too_many_shards = refl

no_margin : command_of (codes "seal" ∷ codes "--mu=0" ∷ []) ≡ None
unfolding command_of number_in
no_margin = refl

no_search : command_of (codes "seal" ∷ codes "--searches=0" ∷ []) ≡ None
unfolding command_of number_in
no_search = refl

too_many_searches : command_of (codes "seal" ∷ codes "--searches=9" ∷ []) ≡ None
unfolding command_of number_in
too_many_searches = refl

above_64_bits : command_of (codes "demo" ∷ codes "18446744073709551616" ∷ []) ≡ None
unfolding command_of number_in
above_64_bits = refl

twice : command_of (codes "seal" ∷ codes "--mu=10" ∷ codes "--mu" ∷ codes "10" ∷ []) ≡ None
unfolding command_of number_in
twice = refl

leading_zero : command_of (codes "seal" ∷ codes "--workers" ∷ codes "08" ∷ []) ≡ None
unfolding command_of number_in
leading_zero = refl

sign : command_of (codes "seal" ∷ codes "--workers" ∷ codes "+8" ∷ []) ≡ None
unfolding command_of number_in
sign = refl

no_digits : command_of (codes "seal" ∷ codes "--workers=" ∷ []) ≡ None
unfolding command_of number_in
no_digits = refl

no_number : command_of (codes "seal" ∷ codes "--workers" ∷ []) ≡ None
unfolding command_of number_in
no_number = refl

no_number_of_demo : command_of (codes "demo" ∷ []) ≡ None
unfolding command_of
no_number_of_demo = refl

number_after_options : command_of (codes "demo" ∷ codes "--workers=1" ∷ codes "7" ∷ []) ≡ None
unfolding command_of number_in
number_after_options = refl

option_of_another : command_of (codes "replay" ∷ codes "--mu=10" ∷ []) ≡ None
unfolding command_of number_in
option_of_another = refl

option_of_seal : command_of (codes "demo" ∷ codes "1" ∷ codes "--rounds=10" ∷ []) ≡ None
unfolding command_of number_in
option_of_seal = refl

one_word_more : command_of (codes "check" ∷ codes "block" ∷ []) ≡ None
unfolding command_of
one_word_more = refl

more_to_show : command_of (codes "show" ∷ codes "--workers=4" ∷ []) ≡ None
unfolding command_of
more_to_show = refl

more_to_interleave : command_of (codes "interleave" ∷ codes "script" ∷ []) ≡ None
unfolding command_of
more_to_interleave = refl

more_to_migrate : command_of (codes "migrate" ∷ codes "state" ∷ []) ≡ None
unfolding command_of
more_to_migrate = refl

filter_without_workers : command_of (codes "filter" ∷ codes "--workers" ∷ []) ≡ None
unfolding command_of number_in
filter_without_workers = refl

filter_by_too_many : command_of (codes "filter" ∷ codes "--workers=65" ∷ []) ≡ None
unfolding command_of number_in
filter_by_too_many = refl

filter_by_a_leading_zero : command_of (codes "filter" ∷ codes "--workers=04" ∷ []) ≡ None
unfolding command_of number_in
filter_by_a_leading_zero = refl

filter_twice : command_of (codes "filter" ∷ codes "--workers=4" ∷ codes "--workers=4" ∷ []) ≡ None
unfolding command_of number_in
filter_twice = refl

filter_by_shards : command_of (codes "filter" ∷ codes "--shards=16" ∷ []) ≡ None
unfolding command_of number_in
filter_by_shards = refl

proof_of_no_account : command_of (codes "prove" ∷ []) ≡ None
unfolding command_of
proof_of_no_account = refl

proof_of_two : command_of (codes "prove" ∷ codes "1" ∷ codes "2" ∷ []) ≡ None
unfolding command_of number_in
proof_of_two = refl

proof_by_a_leading_zero : command_of (codes "prove" ∷ codes "01" ∷ []) ≡ None
unfolding command_of number_in
proof_by_a_leading_zero = refl

proof_above_64_bits : command_of (codes "prove" ∷ codes "18446744073709551616" ∷ []) ≡ None
unfolding command_of number_in
proof_above_64_bits = refl

proof_by_workers : command_of (codes "prove" ∷ codes "1" ∷ codes "--workers=4" ∷ []) ≡ None
unfolding command_of number_in
proof_by_workers = refl

proof_by_name : command_of (codes "prove" ∷ codes "--id=1" ∷ []) ≡ None
unfolding command_of number_in
proof_by_name = refl

more_to_verify : command_of (codes "verify" ∷ codes "1" ∷ []) ≡ None
unfolding command_of
more_to_verify = refl

verify_by_workers : command_of (codes "verify" ∷ codes "--workers=4" ∷ []) ≡ None
unfolding command_of
verify_by_workers = refl

more_to_follow : command_of (codes "follow" ∷ codes "block" ∷ []) ≡ None
unfolding command_of
more_to_follow = refl

follow_by_workers : command_of (codes "follow" ∷ codes "--workers=4" ∷ []) ≡ None
unfolding command_of
follow_by_workers = refl

help : command_of (codes "--help" ∷ []) ≡ None
unfolding command_of
help = refl

help_of_a_command : command_of (codes "seal" ∷ codes "--help" ∷ []) ≡ None
unfolding command_of number_in
help_of_a_command = refl

end_of_options : command_of (codes "seal" ∷ codes "--" ∷ []) ≡ None
unfolding command_of number_in
end_of_options = refl
