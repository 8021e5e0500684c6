-- Base16 and base64, by RFC 4648, sections 8 and 4.
use Rattle.std.specs.Prelude.{ℕ, suc, ◌+◌, ◌-◌, ◌*◌, ◌/◌, ◌%◌, ◌==◌, nat_lt, Bool, false, if◌then◌else◌, List, [], ◌∷◌, Option, Some, None}
use Rattle.cd_elem.specs.Base16.{hex_digits, hex_value}
use Rattle.cd_meaning.specs.Stream.{Item, Value, Stopped, bad_hex, bad_base64, Stop, End, Ended, Halted, Halts}
use Rattle.cd_meaning.specs.Run.{stamp, Run, Ends, Component, acts_at, past}
use Rattle.cd_meaning.specs.RunShapes.{each_to_end, number, elements_out, as_count}

-- A whole group's bytes at its last character, behind which n characters stand, and what comes behind them; or its fault.
abbrev pub group_at : ℕ → Stopped → Option (List ℕ) → Run → Run
group_at n fault (Some bytes) r = acts_at (stamp n n) (elements_out bytes) r
group_at n fault None r = Ends (stamp n n) (Halts (Stop fault))

-- the input ends within a group, at n characters
abbrev pub group_rest : ℕ → Stopped → End → Run
group_rest n fault Ended = Ends (stamp (suc n) n) (Halts (Stop fault))
group_rest n fault (Halted h) = past n (Halted h) Value.Unit

-- ---- base16

abbrev pub hex_encode : Component
hex_encode = each_to_end (λ x. elements_out (hex_digits (number x)))

abbrev pub hex_byte : Option ℕ → Option ℕ → Option (List ℕ)
hex_byte (Some a) (Some b) = Some ((16 * a + b) ∷ [])
hex_byte (Some a) None = None
hex_byte None b = None

-- groups of two from the left, where i characters stand before
abbrev pub hex_from : ℕ → List Item → End → Run
hex_from i [] e = past i e Value.Unit
hex_from i (x ∷ []) e = group_rest (1 + i) (bad_hex (as_count i)) e
hex_from i (x ∷ y ∷ xs) e = group_at (2 + i) (bad_hex (as_count i)) (hex_byte (hex_value (number x)) (hex_value (number y))) (hex_from (2 + i) xs e)

abbrev pub hex_decode : Component
hex_decode = hex_from 0

-- ---- base64

-- the padding `=`
abbrev pub padding : ℕ
padding = 61

-- a character of the alphabet, and the value of one
abbrev pub base64_digit : ℕ → ℕ
base64_digit n = if nat_lt n 26 then 65 + n else (if nat_lt n 52 then 71 + n else (if nat_lt n 62 then n - 4 else (if n == 62 then 43 else 47)))

abbrev pub base64_value : ℕ → Option ℕ
base64_value c =
    if c == 43 then Some 62
    else (if c == 47 then Some 63
    else (if nat_lt c 48 then None
    else (if nat_lt c 58 then Some (c + 4)
    else (if nat_lt c 65 then None
    else (if nat_lt c 91 then Some (c - 65)
    else (if nat_lt c 97 then None
    else (if nat_lt c 123 then Some (c - 71) else None)))))))

-- the characters of a group of one, two and three bytes
abbrev pub base64_one : ℕ → List ℕ
base64_one a = base64_digit (a / 4) ∷ base64_digit (a % 4 * 16) ∷ padding ∷ padding ∷ []

abbrev pub base64_two : ℕ → ℕ → List ℕ
base64_two a b = base64_digit (a / 4) ∷ base64_digit (a % 4 * 16 + b / 16) ∷ base64_digit (b % 16 * 4) ∷ padding ∷ []

abbrev pub base64_three : ℕ → ℕ → ℕ → List ℕ
base64_three a b c = base64_digit (a / 4) ∷ base64_digit (a % 4 * 16 + b / 16) ∷ base64_digit (b % 16 * 4 + c / 64) ∷ base64_digit (c % 64) ∷ []

-- a short group at the end of the input, at n bytes
abbrev pub padded_at : ℕ → List ℕ → End → Run
padded_at n characters Ended = acts_at (stamp (suc n) n) (elements_out characters) (past n Ended Value.Unit)
padded_at n characters (Halted h) = past n (Halted h) Value.Unit

-- groups of three from the left, where i bytes stand before
abbrev pub base64_from : ℕ → List Item → End → Run
base64_from i [] e = past i e Value.Unit
base64_from i (x ∷ []) e = padded_at (1 + i) (base64_one (number x)) e
base64_from i (x ∷ y ∷ []) e = padded_at (2 + i) (base64_two (number x) (number y)) e
base64_from i (x ∷ y ∷ z ∷ xs) e = acts_at (stamp (3 + i) (3 + i)) (elements_out (base64_three (number x) (number y) (number z))) (base64_from (3 + i) xs e)

abbrev pub base64_encode : Component
base64_encode = base64_from 0

-- the bytes of four values, and of the three and the two before padding, whose last bits that stand for no byte are zero
abbrev pub of_four : Option ℕ → Option ℕ → Option ℕ → Option ℕ → Option (List ℕ)
of_four (Some a) (Some b) (Some c) (Some d) = Some ((a * 4 + b / 16) ∷ (b % 16 * 16 + c / 4) ∷ (c % 4 * 64 + d) ∷ [])
of_four (Some a) (Some b) (Some c) None = None
of_four (Some a) (Some b) None d = None
of_four (Some a) None c d = None
of_four None b c d = None

abbrev pub of_three : Option ℕ → Option ℕ → Option ℕ → Option (List ℕ)
of_three (Some a) (Some b) (Some c) = if c % 4 == 0 then Some ((a * 4 + b / 16) ∷ (b % 16 * 16 + c / 4) ∷ []) else None
of_three (Some a) (Some b) None = None
of_three (Some a) None c = None
of_three None b c = None

abbrev pub of_two : Option ℕ → Option ℕ → Option (List ℕ)
of_two (Some a) (Some b) = if b % 16 == 0 then Some ((a * 4 + b / 16) ∷ []) else None
of_two (Some a) None = None
of_two None b = None

-- the bytes of a group of four characters; none where it is bad
abbrev pub base64_group : ℕ → ℕ → ℕ → ℕ → Option (List ℕ)
base64_group a b c d =
    if d == padding
    then (if c == padding then of_two (base64_value a) (base64_value b) else of_three (base64_value a) (base64_value b) (base64_value c))
    else of_four (base64_value a) (base64_value b) (base64_value c) (base64_value d)

-- groups of four from the left, where i characters stand before; behind a padded group every group is bad
abbrev pub base64_groups : ℕ → Bool → List Item → End → Run
base64_groups i padded [] e = past i e Value.Unit
base64_groups i padded (x ∷ []) e = group_rest (1 + i) (bad_base64 (as_count i)) e
base64_groups i padded (x ∷ y ∷ []) e = group_rest (2 + i) (bad_base64 (as_count i)) e
base64_groups i padded (x ∷ y ∷ z ∷ []) e = group_rest (3 + i) (bad_base64 (as_count i)) e
base64_groups i padded (x ∷ y ∷ z ∷ u ∷ xs) e =
    group_at (4 + i) (bad_base64 (as_count i)) (if padded then None else base64_group (number x) (number y) (number z) (number u)) (base64_groups (4 + i) (number u == padding) xs e)

abbrev pub base64_decode : Component
base64_decode = base64_groups 0 false
