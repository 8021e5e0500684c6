-- Classes and maps by their bounds, and tests of pieces.
use Rattle.std.specs.Prelude.{◌≡◌, ℕ, Bool, refl, List, [], ◌∷◌, map, codes, true, false}
use Rattle.std.specs.Str.{chars}
use Rattle.cd_elem.specs.declared.word.Class.{Class}
use Rattle.cd_meaning.specs.Stream.{Sort}
use Rattle.cd_meaning.specs.Classes.{is_in_class, element_mapped, passes_test, piece_mapped}
use Rattle.cd_meaning.specs.Rows.Short.{add, alnum, alpha, begins, below, digit, empty, ends, hexdigit, is_scalar, lower, newline, not_class, not_test, prefix, reversed, rot13, shorter, space, suffix, upper, xor}

-- The numbers at both ends of each range, and those just outside it: which of them are in the class.
abbrev Holds : Class → List ℕ → List Bool → Type 0
Holds c numbers answers = map (is_in_class c) numbers ≡ answers

digit_edges : Holds digit (47 ∷ 48 ∷ 57 ∷ 58 ∷ []) (false ∷ true ∷ true ∷ false ∷ [])
digit_edges = refl

upper_edges : Holds upper (64 ∷ 65 ∷ 90 ∷ 91 ∷ 97 ∷ []) (false ∷ true ∷ true ∷ false ∷ false ∷ [])
upper_edges = refl

lower_edges : Holds lower (96 ∷ 97 ∷ 122 ∷ 123 ∷ 65 ∷ []) (false ∷ true ∷ true ∷ false ∷ false ∷ [])
lower_edges = refl

alpha_edges : Holds alpha (64 ∷ 65 ∷ 90 ∷ 91 ∷ 96 ∷ 97 ∷ 122 ∷ 123 ∷ []) (false ∷ true ∷ true ∷ false ∷ false ∷ true ∷ true ∷ false ∷ [])
alpha_edges = refl

alpha_no_digit : Holds alpha (48 ∷ 57 ∷ []) (false ∷ false ∷ [])
alpha_no_digit = refl

alnum_edges : Holds alnum (47 ∷ 48 ∷ 57 ∷ 58 ∷ 64 ∷ 65 ∷ 90 ∷ 91 ∷ 96 ∷ 97 ∷ 122 ∷ 123 ∷ []) (false ∷ true ∷ true ∷ false ∷ false ∷ true ∷ true ∷ false ∷ false ∷ true ∷ true ∷ false ∷ [])
alnum_edges = refl

hexdigit_edges : Holds hexdigit (47 ∷ 48 ∷ 57 ∷ 58 ∷ 64 ∷ 65 ∷ 70 ∷ 71 ∷ 96 ∷ 97 ∷ 102 ∷ 103 ∷ []) (false ∷ true ∷ true ∷ false ∷ false ∷ true ∷ true ∷ false ∷ false ∷ true ∷ true ∷ false ∷ [])
hexdigit_edges = refl

space_edges : Holds space (8 ∷ 9 ∷ 10 ∷ 11 ∷ 12 ∷ 13 ∷ 14 ∷ 31 ∷ 32 ∷ 33 ∷ []) (false ∷ true ∷ true ∷ true ∷ true ∷ true ∷ false ∷ false ∷ true ∷ false ∷ [])
space_edges = refl

newline_edges : Holds newline (9 ∷ 10 ∷ 11 ∷ 13 ∷ []) (false ∷ true ∷ false ∷ false ∷ [])
newline_edges = refl

-- 321 is 65 modulo 256 alone
classes_are_of_ascii : map (λ c. is_in_class c 321) (upper ∷ alpha ∷ alnum ∷ hexdigit ∷ []) ≡ false ∷ false ∷ false ∷ false ∷ []
classes_are_of_ascii = refl

scalar_edges : Holds (is_scalar 8364) (8363 ∷ 8364 ∷ 8365 ∷ []) (false ∷ true ∷ false ∷ [])
scalar_edges = refl

below_edges : Holds (below 5) (0 ∷ 4 ∷ 5 ∷ 6 ∷ []) (true ∷ true ∷ false ∷ false ∷ [])
below_edges = refl

below_nothing : Holds (below 0) (0 ∷ 1 ∷ []) (false ∷ false ∷ [])
below_nothing = refl

class_not : Holds (not_class digit) (47 ∷ 48 ∷ 57 ∷ 58 ∷ []) (true ∷ false ∷ false ∷ true ∷ [])
class_not = refl

alpha_not : is_in_class alpha 95 ≡ false
alpha_not = refl

alnum_not : is_in_class alnum 95 ≡ false
alnum_not = refl

-- maps
xor_is : element_mapped (xor 255) 97 ≡ 158
xor_is = refl

add_within : element_mapped (add 5) 250 ≡ 255
add_within = refl

add_past : element_mapped (add 6) 250 ≡ 0
add_past = refl

rot13_a : element_mapped rot13 97 ≡ 110
rot13_a = refl

rot13_n : element_mapped rot13 110 ≡ 97
rot13_n = refl

rot13_upper_z : element_mapped rot13 90 ≡ 77
rot13_upper_z = refl

rot13_digit : element_mapped rot13 49 ≡ 49
rot13_digit = refl

rot13_edges : map (element_mapped rot13) (64 ∷ 65 ∷ 77 ∷ 78 ∷ 90 ∷ 91 ∷ 96 ∷ 97 ∷ 109 ∷ 110 ∷ 122 ∷ 123 ∷ []) ≡ 64 ∷ 78 ∷ 90 ∷ 65 ∷ 77 ∷ 91 ∷ 96 ∷ 110 ∷ 122 ∷ 97 ∷ 109 ∷ 123 ∷ []
rot13_edges = refl

map_numbers : map (λ f. element_mapped f 255) (xor 0 ∷ xor 255 ∷ add 0 ∷ add 1 ∷ add 255 ∷ []) ≡ 255 ∷ 0 ∷ 255 ∷ 0 ∷ 254 ∷ []
map_numbers = refl

-- tests; the euro sign is three bytes and one character
empty_is : passes_test empty Sort.Block [] ≡ true
empty_is = refl

empty_not : passes_test empty Sort.Block (0 ∷ []) ≡ false
empty_not = refl

begins_is : passes_test (begins (codes "ab")) Sort.Block (codes "abc") ≡ true
begins_is = refl

begins_same : passes_test (begins (codes "abc")) Sort.Block (codes "abc") ≡ true
begins_same = refl

begins_longer : passes_test (begins (codes "abcd")) Sort.Block (codes "abc") ≡ false
begins_longer = refl

begins_empty : passes_test (begins []) Sort.Block [] ≡ true
begins_empty = refl

begins_chars : passes_test (begins (226 ∷ 130 ∷ 172 ∷ [])) Sort.Text (8364 ∷ 97 ∷ []) ≡ true
unfolding chars
begins_chars = refl

begins_bytes : passes_test (begins (226 ∷ 130 ∷ 172 ∷ [])) Sort.Block (226 ∷ 130 ∷ 172 ∷ 97 ∷ []) ≡ true
begins_bytes = refl

ends_is : passes_test (ends (codes "bc")) Sort.Block (codes "abc") ≡ true
ends_is = refl

ends_not : passes_test (ends (codes "ab")) Sort.Block (codes "abc") ≡ false
ends_not = refl

ends_longer : passes_test (ends (codes "xabc")) Sort.Block (codes "abc") ≡ false
ends_longer = refl

ends_empty : passes_test (ends []) Sort.Block [] ≡ true
ends_empty = refl

shorter_is : passes_test (shorter 3) Sort.Block (codes "ab") ≡ true
shorter_is = refl

shorter_not : passes_test (shorter 2) Sort.Block (codes "ab") ≡ false
shorter_not = refl

test_not : passes_test (not_test empty) Sort.Block [] ≡ false
test_not = refl

-- maps of pieces
prefix_bytes : piece_mapped (prefix (226 ∷ 130 ∷ 172 ∷ [])) Sort.Block (codes "a") ≡ 226 ∷ 130 ∷ 172 ∷ 97 ∷ []
prefix_bytes = refl

prefix_chars : piece_mapped (prefix (226 ∷ 130 ∷ 172 ∷ [])) Sort.Text (codes "a") ≡ 8364 ∷ 97 ∷ []
unfolding chars
prefix_chars = refl

suffix_chars : piece_mapped (suffix (226 ∷ 130 ∷ 172 ∷ [])) Sort.Text (codes "a") ≡ 97 ∷ 8364 ∷ []
unfolding chars
suffix_chars = refl

reversed_is : piece_mapped reversed Sort.Block (codes "abc") ≡ codes "cba"
reversed_is = refl
