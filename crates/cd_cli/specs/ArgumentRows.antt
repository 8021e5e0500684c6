-- Words with what they are read as, by computation.
use Rattle.std.specs.Prelude.{◌≡◌, refl, [], ◌∷◌, codes, Some, None}
use Rattle.cd_cli.specs.declared.arguments.Command.TheVariants.{Run, Check, Show}
use Rattle.cd_cli.specs.Arguments.{command_of}

run_alone : command_of (codes "run" ∷ codes "s" ∷ []) ≡ Some (Run (codes "s") (record { chunk = 32768; limit = 1099511627776 }))
run_alone = refl

check_alone : command_of (codes "check" ∷ codes "s" ∷ []) ≡ Some (Check (codes "s"))
check_alone = refl

show_alone : command_of (codes "show" ∷ codes "s" ∷ []) ≡ Some (Show (codes "s"))
show_alone = refl

a_lone_minus : command_of (codes "run" ∷ codes "-" ∷ []) ≡ Some (Run (codes "-") (record { chunk = 32768; limit = 1099511627776 }))
a_lone_minus = refl

chunk_before : command_of (codes "run" ∷ codes "--chunk" ∷ codes "1" ∷ codes "s" ∷ []) ≡ Some (Run (codes "s") (record { chunk = 1; limit = 1099511627776 }))
chunk_before = refl

chunk_behind : command_of (codes "run" ∷ codes "s" ∷ codes "--chunk" ∷ codes "65536" ∷ []) ≡ Some (Run (codes "s") (record { chunk = 65536; limit = 1099511627776 }))
chunk_behind = refl

chunk_joined : command_of (codes "run" ∷ codes "--chunk=00010" ∷ codes "s" ∷ []) ≡ Some (Run (codes "s") (record { chunk = 10; limit = 1099511627776 }))
chunk_joined = refl

limit_before : command_of (codes "run" ∷ codes "--limit" ∷ codes "7" ∷ codes "s" ∷ []) ≡ Some (Run (codes "s") (record { chunk = 32768; limit = 7 }))
limit_before = refl

limit_joined_behind : command_of (codes "run" ∷ codes "s" ∷ codes "--limit=1099511627776" ∷ []) ≡ Some (Run (codes "s") (record { chunk = 32768; limit = 1099511627776 }))
limit_joined_behind = refl

both_options : command_of (codes "run" ∷ codes "--limit=5" ∷ codes "s" ∷ codes "--chunk" ∷ codes "3" ∷ []) ≡ Some (Run (codes "s") (record { chunk = 3; limit = 5 }))
both_options = refl

behind_two_minuses : command_of (codes "run" ∷ codes "--" ∷ codes "--chunk" ∷ []) ≡ Some (Run (codes "--chunk") (record { chunk = 32768; limit = 1099511627776 }))
behind_two_minuses = refl

two_minuses_behind : command_of (codes "run" ∷ codes "s" ∷ codes "--" ∷ []) ≡ Some (Run (codes "s") (record { chunk = 32768; limit = 1099511627776 }))
two_minuses_behind = refl

option_then_two_minuses : command_of (codes "run" ∷ codes "--chunk" ∷ codes "2" ∷ codes "--" ∷ codes "-s" ∷ []) ≡ Some (Run (codes "-s") (record { chunk = 2; limit = 1099511627776 }))
option_then_two_minuses = refl

check_behind_two_minuses : command_of (codes "check" ∷ codes "--" ∷ codes "-" ∷ []) ≡ Some (Check (codes "-"))
check_behind_two_minuses = refl

no_words : command_of ([]) ≡ None
no_words = refl

a_verb_alone : command_of (codes "run" ∷ []) ≡ None
a_verb_alone = refl

no_verb : command_of (codes "s" ∷ []) ≡ None
no_verb = refl

other_verb : command_of (codes "help" ∷ codes "s" ∷ []) ≡ None
other_verb = refl

help_option : command_of (codes "--help" ∷ []) ≡ None
help_option = refl

minuses_as_the_verb : command_of (codes "--" ∷ codes "run" ∷ codes "s" ∷ []) ≡ None
minuses_as_the_verb = refl

empty_script : command_of (codes "run" ∷ codes "" ∷ []) ≡ None
empty_script = refl

two_scripts : command_of (codes "run" ∷ codes "s" ∷ codes "t" ∷ []) ≡ None
two_scripts = refl

chunk_twice : command_of (codes "run" ∷ codes "--chunk" ∷ codes "1" ∷ codes "--chunk" ∷ codes "2" ∷ codes "s" ∷ []) ≡ None
chunk_twice = refl

limit_twice : command_of (codes "run" ∷ codes "--limit=1" ∷ codes "--limit" ∷ codes "1" ∷ codes "s" ∷ []) ≡ None
limit_twice = refl

chunk_zero : command_of (codes "run" ∷ codes "--chunk" ∷ codes "0" ∷ codes "s" ∷ []) ≡ None
chunk_zero = refl

chunk_too_large : command_of (codes "run" ∷ codes "--chunk" ∷ codes "65537" ∷ codes "s" ∷ []) ≡ None
chunk_too_large = refl

limit_too_large : command_of (codes "run" ∷ codes "--limit" ∷ codes "1099511627777" ∷ codes "s" ∷ []) ≡ None
limit_too_large = refl

chunk_without_a_number : command_of (codes "run" ∷ codes "s" ∷ codes "--chunk" ∷ []) ≡ None
chunk_without_a_number = refl

chunk_without_digits : command_of (codes "run" ∷ codes "--chunk=" ∷ codes "s" ∷ []) ≡ None
chunk_without_digits = refl

chunk_with_a_sign : command_of (codes "run" ∷ codes "--chunk" ∷ codes "+1" ∷ codes "s" ∷ []) ≡ None
chunk_with_a_sign = refl

option_as_a_number : command_of (codes "run" ∷ codes "--chunk" ∷ codes "--" ∷ codes "s" ∷ []) ≡ None
option_as_a_number = refl

long_number : command_of (codes "run" ∷ codes "--limit" ∷ codes "18446744073709551617" ∷ codes "s" ∷ []) ≡ None
long_number = refl

unknown_option : command_of (codes "run" ∷ codes "--journal" ∷ codes "s" ∷ []) ≡ None
unknown_option = refl

short_option : command_of (codes "run" ∷ codes "-c" ∷ codes "s" ∷ []) ≡ None
short_option = refl

options_of_check : command_of (codes "check" ∷ codes "--chunk" ∷ codes "1" ∷ codes "s" ∷ []) ≡ None
options_of_check = refl

options_of_show : command_of (codes "show" ∷ codes "s" ∷ codes "--limit=1" ∷ []) ≡ None
options_of_show = refl

two_minuses_twice : command_of (codes "run" ∷ codes "--" ∷ codes "--" ∷ codes "s" ∷ []) ≡ None
two_minuses_twice = refl
