-- UTF-8 in both directions, by the Unicode Standard, Table 3-7 (well-formed UTF-8 byte sequences).
use Rattle.std.specs.Prelude.{ℕ, suc, ◌+◌, ◌-◌, ◌*◌, ◌==◌, nat_lt, nat_le, Bool, ◌&&◌, if◌then◌else◌, List, [], ◌∷◌, Option, Some, None, encode_utf8}
use Rattle.cd_meaning.specs.Stream.{Item, Elem, Value, bad_text, Stop, End, Ended, Halted, Halts, Out}
use Rattle.cd_meaning.specs.Run.{stamp, Run, Then, Ends, Component, past}
use Rattle.cd_meaning.specs.RunShapes.{each_to_end, number, elements_out, as_count}

-- the bytes from low to high
pub record Range : Type 0 where
  pub low : ℕ
  pub high : ℕ

abbrev pub range : ℕ → ℕ → Range
range low high = record { low = low; high = high }

abbrev pub is_in : Range → ℕ → Bool
is_in r b = nat_le r.low b && nat_le b r.high

-- any byte that goes on a sequence
abbrev pub tail : Range
tail = range 128 191

-- the ranges of the bytes behind this first one; none where no sequence begins with it
abbrev pub following : ℕ → Option (List Range)
following b =
    if nat_lt b 128 then Some []
    else (if nat_lt b 194 then None
    else (if nat_lt b 224 then Some (tail ∷ [])
    else (if b == 224 then Some (range 160 191 ∷ tail ∷ [])
    else (if b == 237 then Some (range 128 159 ∷ tail ∷ [])
    else (if nat_lt b 240 then Some (tail ∷ tail ∷ [])
    else (if b == 240 then Some (range 144 191 ∷ tail ∷ tail ∷ [])
    else (if nat_lt b 244 then Some (tail ∷ tail ∷ tail ∷ [])
    else (if b == 244 then Some (range 128 143 ∷ tail ∷ tail ∷ [])
    else None))))))))

-- the bits of a character that its first byte holds
abbrev pub first_bits : ℕ → ℕ
first_bits b = if nat_lt b 128 then b else (if nat_lt b 224 then b - 192 else (if nat_lt b 240 then b - 224 else b - 240))

-- a character's bits so far, and those of its next byte
abbrev pub more_bits : ℕ → ℕ → ℕ
more_bits bits b = bits * 64 + (b - 128)

-- the byte that i bytes end with: it ends a character, or these ranges are still to come
abbrev pub read_on : ℕ → List Range → ℕ → (List Range → ℕ → Run) → Run
read_on i [] bits next = Then (stamp i i) (Out (Elem bits)) (next [] 0)
read_on i (r ∷ ranges) bits next = next (r ∷ ranges) bits

-- the same, where a byte may be bad in a sequence before which at bytes stand
abbrev pub read_byte : ℕ → ℕ → Option (List Range) → ℕ → (List Range → ℕ → Run) → Run
read_byte at i None bits next = Ends (stamp i i) (Halts (Stop (bad_text (as_count at))))
read_byte at i (Some ranges) bits next = read_on i ranges bits next

-- i bytes stand before xs. Where ranges are to come, they end in the bits of a sequence before which at bytes stand.
abbrev pub utf8_from : ℕ → ℕ → List Range → ℕ → List Item → End → Run
utf8_from at i [] bits [] e = past i e Value.Unit
utf8_from at i (r ∷ ranges) bits [] Ended = Ends (stamp (suc i) i) (Halts (Stop (bad_text (as_count at))))
utf8_from at i (r ∷ ranges) bits [] (Halted h) = past i (Halted h) Value.Unit
utf8_from at i [] bits (x ∷ xs) e = read_byte i (suc i) (following (number x)) (first_bits (number x)) (λ more now. utf8_from i (suc i) more now xs e)
utf8_from at i (r ∷ ranges) bits (x ∷ xs) e =
    read_byte at (suc i) (if is_in r (number x) then Some ranges else None) (more_bits bits (number x)) (λ more now. utf8_from at (suc i) more now xs e)

abbrev pub utf8 : Component
utf8 = utf8_from 0 0 [] 0

-- U+FFFD
abbrev pub replacement : Item
replacement = Elem 65533

-- a first byte; one that begins no sequence is replaced
abbrev pub lenient_first : ℕ → Option (List Range) → ℕ → (List Range → ℕ → Run) → Run
lenient_first i None bits next = Then (stamp i i) (Out replacement) (next [] 0)
lenient_first i (Some ranges) bits next = read_on i ranges bits next

-- a byte within a sequence; where it is bad, what was read before it is replaced, and it is a first byte
abbrev pub lenient_byte : ℕ → Range → List Range → ℕ → ℕ → (List Range → ℕ → Run) → Run
lenient_byte i r ranges bits b next =
    if is_in r b then read_on i ranges (more_bits bits b) next else Then (stamp i i) (Out replacement) (lenient_first i (following b) (first_bits b) next)

-- the same without faults
abbrev pub lenient_from : ℕ → List Range → ℕ → List Item → End → Run
lenient_from i [] bits [] e = past i e Value.Unit
lenient_from i (r ∷ ranges) bits [] Ended = Then (stamp (suc i) i) (Out replacement) (past i Ended Value.Unit)
lenient_from i (r ∷ ranges) bits [] (Halted h) = past i (Halted h) Value.Unit
lenient_from i [] bits (x ∷ xs) e = lenient_first (suc i) (following (number x)) (first_bits (number x)) (λ more now. lenient_from (suc i) more now xs e)
lenient_from i (r ∷ ranges) bits (x ∷ xs) e = lenient_byte (suc i) r ranges bits (number x) (λ more now. lenient_from (suc i) more now xs e)

abbrev pub utf8_lenient : Component
utf8_lenient = lenient_from 0 [] 0

abbrev pub utf8_encode : Component
utf8_encode = each_to_end (λ x. elements_out (encode_utf8 (number x)))
