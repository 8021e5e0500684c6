-- Texts of values.
use Rattle.std.specs.Prelude.{◌≡◌, refl, [], ◌∷◌, codes, true, false}
use lib.Utf8.{encode}
use Rattle.std.specs.Fmt.{digits}
use Rattle.cd_meaning.specs.Stream.{Another, NoValues, Value, absent, present}
use Rattle.cd_meaning.specs.ValueText.{value_text}

unit_text : value_text Value.Unit ≡ codes "()"
unit_text = refl

zero_text : value_text (Value.Num 0) ≡ codes "0"
unfolding encode digits
zero_text = refl

num_text : value_text (Value.Num 18446744073709551615) ≡ codes "18446744073709551615"
unfolding encode digits
num_text = refl

true_text : value_text (Value.Bool true) ≡ codes "true"
true_text = refl

false_text : value_text (Value.Bool false) ≡ codes "false"
false_text = refl

byte_text : value_text (Value.Byte 104) ≡ codes "104"
unfolding encode digits
byte_text = refl

-- 8364 is the euro sign, of three bytes
char_text : value_text (Value.Char 8364) ≡ 34 ∷ 226 ∷ 130 ∷ 172 ∷ 34 ∷ []
unfolding encode
char_text = refl

char_newline : value_text (Value.Char 10) ≡ codes "\"\\u{a}\""
char_newline = refl

char_high : value_text (Value.Char 31) ≡ codes "\"\\u{1f}\""
char_high = refl

char_sixteen : value_text (Value.Char 16) ≡ codes "\"\\u{10}\""
char_sixteen = refl

char_fifteen : value_text (Value.Char 15) ≡ codes "\"\\u{f}\""
char_fifteen = refl

char_space : value_text (Value.Char 32) ≡ codes "\" \""
unfolding encode
char_space = refl

char_before_delete : value_text (Value.Char 126) ≡ codes "\"~\""
unfolding encode
char_before_delete = refl

char_delete : value_text (Value.Char 127) ≡ codes "\"\\u{7f}\""
char_delete = refl

-- U+0080, of two bytes
char_behind_delete : value_text (Value.Char 128) ≡ 34 ∷ 194 ∷ 128 ∷ 34 ∷ []
unfolding encode
char_behind_delete = refl

-- tab, newline and carriage return have no short escapes
text_controls : value_text (Value.TextV (1 ∷ 9 ∷ 10 ∷ 13 ∷ 15 ∷ 16 ∷ 31 ∷ 127 ∷ [])) ≡ codes "\"\\u{1}\\u{9}\\u{a}\\u{d}\\u{f}\\u{10}\\u{1f}\\u{7f}\""
text_controls = refl

char_null : value_text (Value.Char 0) ≡ codes "\"\\u{0}\""
char_null = refl

text_escapes : value_text (Value.TextV (97 ∷ 34 ∷ 92 ∷ 32 ∷ 126 ∷ [])) ≡ codes "\"a\\\"\\\\ ~\""
unfolding encode
text_escapes = refl

text_empty : value_text (Value.TextV []) ≡ codes "\"\""
text_empty = refl

bytes_escapes : value_text (Value.BytesV (97 ∷ 34 ∷ 92 ∷ 10 ∷ 31 ∷ 32 ∷ 126 ∷ 127 ∷ 200 ∷ [])) ≡ codes "\"a\\\"\\\\\\x0a\\x1f ~\\x7f\\xc8\""
bytes_escapes = refl

bytes_edges : value_text (Value.BytesV (0 ∷ 9 ∷ 15 ∷ 16 ∷ 31 ∷ 32 ∷ 126 ∷ 127 ∷ 128 ∷ 255 ∷ [])) ≡ codes "\"\\x00\\x09\\x0f\\x10\\x1f ~\\x7f\\x80\\xff\""
bytes_edges = refl

bytes_empty : value_text (Value.BytesV []) ≡ codes "\"\""
bytes_empty = refl

none_text : value_text absent ≡ codes "none"
none_text = refl

some_text : value_text (present (Value.Byte 7)) ≡ codes "some 7"
unfolding encode digits
some_text = refl

some_none : value_text (present absent) ≡ codes "some none"
some_none = refl

pair_text : value_text (Value.Pair Value.Unit (Value.Pair (Value.Num 9) (Value.Bool true))) ≡ codes "((), (9, true))"
unfolding encode digits
pair_text = refl

list_empty : value_text (Value.ListV NoValues) ≡ codes "[]"
list_empty = refl

list_one : value_text (Value.ListV (Another (Value.BytesV (codes "a")) NoValues)) ≡ codes "[\"a\"]"
list_one = refl

list_more : value_text (Value.ListV (Another (Value.BytesV (codes "a")) (Another (Value.BytesV []) (Another (Value.BytesV (codes "b")) NoValues)))) ≡ codes "[\"a\", \"\", \"b\"]"
list_more = refl
