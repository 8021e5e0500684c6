-- Texts of the program's values.
use Rattle.std.specs.Prelude.{◌≡◌, [], ◌∷◌, codes, Some, None, true}
use lib.Utf8.{encode}
use Rattle.std.specs.Fmt.{digits}
use Rattle.cd_elem.specs.declared.value.Value.TheVariants as result
use Rattle.cd_meaning.specs.ValueText.{value_text}
use Rattle.cd_meaning.specs.Values.{value_meaning, values}

unit_text : value_text (value_meaning result.Unit) ≡ codes "()"
unit_text = simp values

bool_text : value_text (value_meaning (result.Bool true)) ≡ codes "true"
bool_text = simp values

none_text : value_text (value_meaning (result.Maybe None)) ≡ codes "none"
none_text = simp values

byte_text : value_text (value_meaning (result.Maybe (Some (result.Byte 104)))) ≡ codes "some 104"
unfolding encode digits
byte_text = simp values

char_text : value_text (value_meaning (result.Maybe (Some (result.Char 8364)))) ≡ 115 ∷ 111 ∷ 109 ∷ 101 ∷ 32 ∷ 34 ∷ 226 ∷ 130 ∷ 172 ∷ 34 ∷ []
unfolding encode digits
char_text = simp values

bytes_text : value_text (value_meaning (result.BytesV (97 ∷ 0 ∷ []))) ≡ codes "\"a\\x00\""
bytes_text = simp values

pair_text : value_text (value_meaning (result.Pair (result.Num 9) (result.TextV (codes "a")))) ≡ codes "(9, \"a\")"
unfolding encode digits
pair_text = simp values

list_text : value_text (value_meaning (result.ListV (result.BytesV (codes "a") ∷ result.BytesV [] ∷ []))) ≡ codes "[\"a\", \"\"]"
unfolding encode digits
list_text = simp values
