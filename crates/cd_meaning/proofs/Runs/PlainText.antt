-- A text of characters is read as these characters.
use Rattle.std.proofs.Common.{◌≡◌, ℕ, suc, ◌+◌, ◌/◌, ◌%◌, ◌<◌, ◌≤◌, ◌⊎◌, inl, inr, Bool, true, false, nat_le, ◌&&◌, if◌then◌else◌, List, [], ◌∷◌, ◌++◌, length, map, Option, Some, None, refl, ap, sym, ◌∙◌, subst, arith, append_assoc, length-append}
use Rattle.std.specs.Str.{encode_utf8_all, all_scalars}
use Rattle.std.proofs.lemmas.Bool.{cases_lt, cases_eq, le-ltb, lt-ltb, le-leb, leb-true, eq-eqb, ne_eqb}
use Rattle.std.proofs.lemmas.List.{append-nil, map-append}
use lib.Utf8.{encode, scalar, scalar_cases}
use Rattle.cd_meaning.specs.Stream.{Item, Elem, Value, bad_text, Stop, End, Ended, Halts, Out}
use Rattle.cd_meaning.specs.Run.{stamp, Run, Then, Ends, past}
use Rattle.cd_meaning.specs.RunShapes.{as_count}
use Rattle.cd_meaning.specs.Text.{Range, range, is_in, tail, following, first_bits, more_bits, read_on, read_byte, utf8_from, utf8, lenient_from, utf8_lenient}
use Rattle.cd_meaning.specs.PlainText.{characters_out, bytes_of, plain_text, IsUnfinished, BeginNone, refused_behind}
use Rattle.cd_meaning.proofs.Runs.ByteRows.{InRanges, AllSome, row_of}

-- these bytes are in the ranges, one for each, and end the bits of a character
abbrev Fits : List Range → ℕ → List ℕ → ℕ → Type 0
Fits [] bits [] c = bits ≡ c
Fits [] bits (b ∷ bs) c = ⊥
Fits (r ∷ ranges) bits [] c = ⊥
Fits (r ∷ ranges) bits (b ∷ bs) c = (is_in r b ≡ true) × Fits ranges (more_bits bits b) bs c

record IsSequence (c : ℕ) (bytes : List ℕ) : Type 0 where
  first : ℕ
  rest : List ℕ
  ranges : List Range
  are : bytes ≡ first ∷ rest
  begins : following first ≡ Some ranges
  fits : Fits ranges (first_bits first) rest c

in_range : (low high b : ℕ) → low ≤ b → b ≤ high → is_in (range low high) b ≡ true
in_range low high b h k = rw (le-leb low b h, le-leb b high k)

tail_in : (n : ℕ) → is_in tail (128 + n % 64) ≡ true
tail_in n = in_range 128 191 (128 + n % 64) (omega arith) (omega arith)

of_one : (c : ℕ) → c < 128 → IsSequence c (encode c)
unfolding encode
of_one c h = record {
  first = c;
  rest = [];
  ranges = [];
  are = rw (lt-ltb c 128 h);
  begins = rw (lt-ltb c 128 h);
  fits = rw (lt-ltb c 128 h);
}

of_two : (c : ℕ) → 128 ≤ c → c < 2048 → IsSequence c (encode c)
unfolding encode
of_two c h k =
    let b = 192 + c / 64 in
    let low : 194 ≤ b = omega arith in
    let high : b < 224 = omega arith in
    let no_one : 128 ≤ b = omega arith in
    record {
      first = b;
      rest = (128 + c % 64) ∷ [];
      ranges = tail ∷ [];
      are = rw (le-ltb c 128 h, lt-ltb c 2048 k);
      begins = rw (le-ltb b 128 no_one, le-ltb b 194 low, lt-ltb b 224 high);
      fits = (tail_in c, rw (le-ltb b 128 no_one, lt-ltb b 224 high) (omega arith));
    }

three_by : (c : ℕ) (r : Range) → 2048 ≤ c → c < 65536 → following (224 + c / 4096) ≡ Some (r ∷ tail ∷ []) → is_in r (128 + c / 64 % 64) ≡ true → IsSequence c (encode c)
unfolding encode
three_by c r h k f i =
    let b = 224 + c / 4096 in
    let high : b < 240 = omega arith in
    record {
      first = b;
      rest = (128 + c / 64 % 64) ∷ (128 + c % 64) ∷ [];
      ranges = r ∷ tail ∷ [];
      are = rw (le-ltb c 128 (omega arith), le-ltb c 2048 h, lt-ltb c 65536 k);
      begins = f;
      fits = (i, (tail_in c, rw (le-ltb b 128 (omega arith), le-ltb b 224 (omega arith), lt-ltb b 240 high) (omega arith)));
    }

of_three : (c : ℕ) → 2048 ≤ c → c < 65536 → (c < 55296) ⊎ ((57344 ≤ c) × (c < 1114112)) → IsSequence c (encode c)
of_three c h k s =
    let b = 224 + c / 4096 in
    let no_one : 128 ≤ b = omega arith in
    let low : 194 ≤ b = omega arith in
    let no_two : 224 ≤ b = omega arith in
    let high : b < 240 = omega arith in
    elim (cases_eq b 224) [
      | inl e ↦ three_by c (range 160 191) h k (rw (le-ltb b 128 no_one, le-ltb b 194 low, le-ltb b 224 no_two, eq-eqb b 224 e)) (in_range 160 191 (128 + c / 64 % 64) (omega (arith, e)) (omega arith))
      | inr n ↦ elim (cases_eq b 237) [
        | inl e ↦
            three_by c (range 128 159) h k (rw (le-ltb b 128 no_one, le-ltb b 194 low, le-ltb b 224 no_two, ne_eqb b 224 n, eq-eqb b 237 e)) (in_range 128 159 (128 + c / 64 % 64) (omega arith) (omega (arith, e, s)))
        | inr m ↦ three_by c tail h k (rw (le-ltb b 128 no_one, le-ltb b 194 low, le-ltb b 224 no_two, ne_eqb b 224 n, ne_eqb b 237 m, lt-ltb b 240 high)) (tail_in (c / 64))
      ]
    ]

four_by : (c : ℕ) (r : Range) → 65536 ≤ c → c < 1114112 → following (240 + c / 262144) ≡ Some (r ∷ tail ∷ tail ∷ []) → is_in r (128 + c / 4096 % 64) ≡ true → IsSequence c (encode c)
unfolding encode
four_by c r h k f i =
    let b = 240 + c / 262144 in
    record {
      first = b;
      rest = (128 + c / 4096 % 64) ∷ (128 + c / 64 % 64) ∷ (128 + c % 64) ∷ [];
      ranges = r ∷ tail ∷ tail ∷ [];
      are = rw (le-ltb c 128 (omega arith), le-ltb c 2048 (omega arith), le-ltb c 65536 h);
      begins = f;
      fits = (i, (tail_in (c / 64), (tail_in c, rw (le-ltb b 128 (omega arith), le-ltb b 224 (omega arith), le-ltb b 240 (omega arith)) (omega arith))));
    }

of_four : (c : ℕ) → 65536 ≤ c → c < 1114112 → IsSequence c (encode c)
of_four c h k =
    let b = 240 + c / 262144 in
    let no_one : 128 ≤ b = omega arith in
    let low : 194 ≤ b = omega arith in
    let no_two : 224 ≤ b = omega arith in
    let no_three : 240 ≤ b = omega arith in
    let n : b ≡ 224 → ⊥ = λ e. omega arith in
    let m : b ≡ 237 → ⊥ = λ e. omega arith in
    elim (cases_eq b 240) [
      | inl e ↦
          four_by c (range 144 191) h k (rw (le-ltb b 128 no_one, le-ltb b 194 low, le-ltb b 224 no_two, ne_eqb b 224 n, ne_eqb b 237 m, le-ltb b 240 no_three, eq-eqb b 240 e)) (in_range 144 191 (128 + c / 4096 % 64) (omega (arith, e)) (omega arith))
      | inr o ↦ elim (cases_lt b 244) [
        | inl l ↦ four_by c tail h k (rw (le-ltb b 128 no_one, le-ltb b 194 low, le-ltb b 224 no_two, ne_eqb b 224 n, ne_eqb b 237 m, le-ltb b 240 no_three, ne_eqb b 240 o, lt-ltb b 244 l)) (tail_in (c / 4096))
        | inr g ↦
            let e : b ≡ 244 = omega arith in
            four_by c (range 128 143) h k
            (rw (le-ltb b 128 no_one, le-ltb b 194 low, le-ltb b 224 no_two, ne_eqb b 224 n, ne_eqb b 237 m, le-ltb b 240 no_three, ne_eqb b 240 o, le-ltb b 244 g, eq-eqb b 244 e))
            (in_range 128 143 (128 + c / 4096 % 64) (omega arith) (omega (arith, e)))
      ]
    ]

-- the bytes of each character are a sequence of Table 3-7
sequence_of : (c : ℕ) → scalar c ≡ true → IsSequence c (encode c)
sequence_of c s =
    let k = scalar_cases c s in
    let top : c < 1114112 = omega (arith, k) in
    elim (cases_lt c 128) [
      | inl a ↦ of_one c a
      | inr a ↦ elim (cases_lt c 2048) [
        | inl b ↦ of_two c a b
        | inr b ↦ elim (cases_lt c 65536) [
          | inl d ↦ of_three c b d k
          | inr d ↦ of_four c d top
        ]
      ]
    ]

both_true : (a b : Bool) → (a && b) ≡ true → (a ≡ true) × (b ≡ true)
both_true true b h = (refl, h)
both_true false b h = (let f : ⊥ = cc in absurd f)

-- ---- `utf8`

-- what is left of a sequence, behind i bytes of it and before it
read_rest : (at i j : ℕ) (ranges : List Range) (bits : ℕ) (rest more : List ℕ) (c : ℕ) (e : End) → Fits ranges bits rest c → j ≡ i + length rest
    → read_on i ranges bits (λ left now. utf8_from at i left now (map Elem (rest ++ more)) e) ≡ Then (stamp j j) (Out (Elem c)) (utf8_from at j [] 0 (map Elem more) e)
read_rest at i j [] bits [] more c e f h = (let k : j ≡ i = omega (arith, h) in rw (k, f))
read_rest at i j [] bits (b ∷ rest) more c e f h = absurd f
read_rest at i j (r ∷ ranges) bits [] more c e f h = absurd f
read_rest at i j (r ∷ ranges) bits (b ∷ rest) more c e f h = rw f.0 (read_rest at (suc i) j ranges (more_bits bits b) rest more c e f.1 (omega (arith, h)))

reads_text : (at i n : ℕ) (cs : List ℕ) (e : End) → all_scalars cs ≡ true → n ≡ i + length (encode_utf8_all cs)
    → utf8_from at i [] 0 (map Elem (encode_utf8_all cs)) e ≡ characters_out i cs (past n e Value.Unit)
reads_text at i n [] e h k = (let m : n ≡ i = omega (arith, k) in rw m)
reads_text at i n (c ∷ cs) e h k =
    let both = both_true (scalar c) (all_scalars cs) h in
    let s = sequence_of c both.0 in
    let j = i + length (encode c) in
    let place : j ≡ suc i + length s.rest = omega (arith, ap length s.are) in
    ap (λ bytes. utf8_from at i [] 0 (map Elem (bytes ++ encode_utf8_all cs)) e) s.are
    ∙ rw s.begins (read_rest i (suc i) j s.ranges (first_bits s.first) s.rest (encode_utf8_all cs) c e s.fits place)
    ∙ ap (Then (stamp j j) (Out (Elem c))) (reads_text i j n cs e both.1 (omega (arith, k, length-append (encode c) (encode_utf8_all cs))))

pub utf8_reads_text : (cs : List ℕ) → all_scalars cs ≡ true → (e : End) → utf8 (bytes_of cs) e ≡ plain_text cs e
utf8_reads_text cs h e = reads_text 0 0 (length (encode_utf8_all cs)) cs e h (omega arith)

-- ---- what is bad

at_any : (at at' i : ℕ) (xs : List Item) (e : End) → utf8_from at i [] 0 xs e ≡ utf8_from at' i [] 0 xs e
at_any at at' i [] e = refl
at_any at at' i (x ∷ xs) e = refl

reads_before : (at i n : ℕ) (cs bytes : List ℕ) (e : End) → all_scalars cs ≡ true → n ≡ i + length (encode_utf8_all cs)
    → utf8_from at i [] 0 (map Elem (encode_utf8_all cs ++ bytes)) e ≡ characters_out i cs (utf8_from 0 n [] 0 (map Elem bytes) e)
reads_before at i n [] bytes e h k = (let m : n ≡ i = omega (arith, k) in rw m (at_any at 0 i (map Elem bytes) e))
reads_before at i n (c ∷ cs) bytes e h k =
    let both = both_true (scalar c) (all_scalars cs) h in
    let s = sequence_of c both.0 in
    let j = i + length (encode c) in
    let place : j ≡ suc i + length s.rest = omega (arith, ap length s.are) in
    let more = encode_utf8_all cs ++ bytes in
    ap (λ l. utf8_from at i [] 0 (map Elem l) e) (append_assoc (encode c) (encode_utf8_all cs) bytes)
    ∙ ap (λ l. utf8_from at i [] 0 (map Elem (l ++ more)) e) s.are
    ∙ rw s.begins (read_rest i (suc i) j s.ranges (first_bits s.first) s.rest more c e s.fits place)
    ∙ ap (Then (stamp j j) (Out (Elem c))) (reads_before i j n cs bytes e both.1 (omega (arith, k, length-append (encode c) (encode_utf8_all cs))))

lows : List Range → List ℕ
lows ranges = map (λ r. r.low) ranges

lows_in : (ranges : List Range) → AllSome ranges → InRanges ranges (lows ranges)
unfolding lows
lows_in [] h = tt
lows_in (r ∷ ranges) h = (omega arith, h.0, lows_in ranges h.1)

in_bounds : (r : Range) (b : ℕ) → is_in r b ≡ true → (r.low ≤ b) × (b ≤ r.high)
in_bounds r b h = (let k = both_true (nat_le r.low b) (nat_le b r.high) h in (leb-true r.low b k.0, leb-true b r.high k.1))

-- behind the front of a sequence, at k: the range of its next byte
record IsWithin (at i k : ℕ) (given : List Range) (bits : ℕ) (front behind : List ℕ) (e : End) : Type 0 where
  next : Range
  ranges : List Range
  now : ℕ
  is : read_on i given bits (λ left now. utf8_from at i left now (map Elem (front ++ behind)) e) ≡ utf8_from at k (next ∷ ranges) now (map Elem behind) e
  some : AllSome given → AllSome ranges
  goes_on : (b : ℕ) → is_in next b ≡ true → AllSome given → InRanges given (front ++ b ∷ lows ranges)

within : (at i k : ℕ) (given : List Range) (bits : ℕ) (front missing behind : List ℕ) (c : ℕ) (e : End) → Fits given bits (front ++ missing) c → 0 < length missing → k ≡ i + length front
    → IsWithin at i k given bits front behind e
within at i k [] bits [] [] behind c e f l h = absurd (omega arith)
within at i k [] bits [] (b ∷ missing) behind c e f l h = absurd f
within at i k [] bits (b ∷ front) missing behind c e f l h = absurd f
within at i k (r ∷ given) bits [] missing behind c e f l h = record {
  next = r;
  ranges = given;
  now = bits;
  is = (let m : k ≡ i = omega (arith, h) in rw m);
  some = λ s. s.1;
  goes_on = λ b q s. (let w = in_bounds r b q in (w.0, w.1, lows_in given s.1));
}
within at i k (r ∷ given) bits (b ∷ front) missing behind c e f l h =
    let w = within at (suc i) k given (more_bits bits b) front missing behind c e f.1 l (omega (arith, h)) in
    record {
      next = w.next;
      ranges = w.ranges;
      now = w.now;
      is = rw f.0 w.is;
      some = λ s. w.some s.1;
      goes_on = λ x q s. (let u = in_bounds r b f.0 in (u.0, u.1, w.goes_on x q s.1));
    }

-- the sequence of which these are the front
record IsFront (a : ℕ) (front missing : List ℕ) (c : ℕ) : Type 0 where
  ranges : List Range
  begins : following a ≡ Some ranges
  fits : Fits ranges (first_bits a) (front ++ missing) c

front_of : (a : ℕ) (front missing : List ℕ) (c : ℕ) → scalar c ≡ true → encode c ≡ a ∷ front ++ missing → IsFront a front missing c
front_of a front missing c h k =
    let s = sequence_of c h in
    let j : s.first ∷ s.rest ≡ a ∷ (front ++ missing) = sym s.are ∙ k in
    let same : s.first ≡ a = cc in
    let rest : s.rest ≡ front ++ missing = cc in
    record {
      ranges = s.ranges;
      begins = subst (λ b. following b ≡ Some s.ranges) same s.begins;
      fits = subst (λ b. Fits s.ranges (first_bits b) (front ++ missing) c) same (subst (λ l. Fits s.ranges (first_bits s.first) l c) rest s.fits);
    }

-- it ends the run, where at bytes stand before the sequence
abbrev stops : ℕ → ℕ → ℕ → Run
stops at need net = Ends (stamp need net) (Halts (Stop (bad_text (as_count at))))

pub utf8_unfinished : (cs bytes : List ℕ) → all_scalars cs ≡ true → 0 < length bytes → IsUnfinished bytes
    → utf8 (bytes_of cs ++ map Elem bytes) Ended ≡ refused_behind cs (stamp (length (encode_utf8_all cs) + length bytes + 1) (length (encode_utf8_all cs) + length bytes))
utf8_unfinished cs [] h l u = absurd (omega arith)
utf8_unfinished cs (a ∷ front) h l u =
    let n = length (encode_utf8_all cs) in
    let k = n + suc (length front) in
    let f = front_of a front u.missing u.character u.is_scalar u.front in
    let w = within n (suc n) k f.ranges (first_bits a) front u.missing [] u.character Ended f.fits u.some (omega arith) in
    let last : suc k ≡ k + 1 = omega arith in
    ap (λ l. utf8_from 0 0 [] 0 l Ended) (sym (map-append (λ x. Elem x) (encode_utf8_all cs) (a ∷ front)))
    ∙ reads_before 0 0 n cs (a ∷ front) Ended h (omega arith)
    ∙ ap (characters_out 0 cs) (ap (λ l. utf8_from 0 n [] 0 (map Elem l) Ended) (sym (append-nil (a ∷ front))) ∙ rw f.begins w.is ∙ ap (λ j. stops n j k) last)

-- a byte that begins no character
begins_none : (b n : ℕ) (o : Option (List Range)) (next : List Range → ℕ → Run) → BeginNone (b ∷ []) → following b ≡ o → read_byte n (suc n) o (first_bits b) next ≡ stops n (suc n) (suc n)
begins_none b n None next h e = refl
begins_none b n (Some ranges) next h e =
    let row = row_of b ranges e in
    let c = row.whole (lows ranges) (lows_in ranges row.some) in
    absurd (h c.character (lows ranges) c.is_scalar c.are)

-- a byte that goes on in no character
goes_on_none : (a : ℕ) (front : List ℕ) (given ranges : List Range) (next : Range) (b n k bits : ℕ) (goes : List Range → ℕ → Run) (t : Bool) → BeginNone (a ∷ front ++ b ∷ []) → following a ≡ Some given
    → ((b : ℕ) → is_in next b ≡ true → AllSome given → InRanges given (front ++ b ∷ lows ranges)) → is_in next b ≡ t
    → read_byte n (suc k) (if t then Some ranges else None) bits goes ≡ stops n (suc k) (suc k)
goes_on_none a front given ranges next b n k bits goes false h e g q = refl
goes_on_none a front given ranges next b n k bits goes true h e g q =
    let row = row_of a given e in
    let c = row.whole (front ++ b ∷ lows ranges) (g b q row.some) in
    absurd (h c.character (lows ranges) c.is_scalar (c.are ∙ ap (λ l. a ∷ l) (sym (append_assoc front (b ∷ []) (lows ranges)))))

bad_core : (n : ℕ) (bytes : List ℕ) (b : ℕ) (more : List ℕ) (e : End) → IsUnfinished bytes → BeginNone (bytes ++ b ∷ [])
    → utf8_from 0 n [] 0 (map Elem (bytes ++ b ∷ more)) e ≡ stops n (n + length bytes + 1) (n + length bytes + 1)
bad_core n [] b more e u h =
    let last : suc n ≡ n + length {A = ℕ} [] + 1 = omega arith in
    begins_none b n (following b) _ h refl ∙ ap (λ j. stops n j j) last
bad_core n (a ∷ front) b more e u h =
    let k = n + suc (length front) in
    let f = front_of a front u.missing u.character u.is_scalar u.front in
    let w = within n (suc n) k f.ranges (first_bits a) front u.missing (b ∷ more) u.character e f.fits u.some (omega arith) in
    let last : suc k ≡ k + 1 = omega arith in
    let read : utf8_from 0 n [] 0 (map Elem (a ∷ front ++ b ∷ more)) e ≡ utf8_from n k (w.next ∷ w.ranges) w.now (map Elem (b ∷ more)) e = rw f.begins w.is in
    read ∙ goes_on_none a front f.ranges w.ranges w.next b n k _ _ (is_in w.next b) h f.begins w.goes_on refl ∙ ap (λ j. stops n j j) last

pub utf8_bad : (cs bytes : List ℕ) (b : ℕ) (more : List ℕ) (e : End) → all_scalars cs ≡ true → IsUnfinished bytes → BeginNone (bytes ++ b ∷ [])
    → utf8 (bytes_of cs ++ map Elem (bytes ++ b ∷ more)) e ≡ refused_behind cs (stamp (length (encode_utf8_all cs) + length bytes + 1) (length (encode_utf8_all cs) + length bytes + 1))
utf8_bad cs bytes b more e h u n =
    let size = length (encode_utf8_all cs) in
    ap (λ l. utf8_from 0 0 [] 0 l e) (sym (map-append (λ x. Elem x) (encode_utf8_all cs) (bytes ++ b ∷ more)))
    ∙ reads_before 0 0 size cs (bytes ++ b ∷ more) e h (omega arith)
    ∙ ap (characters_out 0 cs) (bad_core size bytes b more e u n)

-- ---- `utf8Lenient`

lenient_rest : (i j : ℕ) (ranges : List Range) (bits : ℕ) (rest more : List ℕ) (c : ℕ) (e : End) → Fits ranges bits rest c → j ≡ i + length rest
    → read_on i ranges bits (λ left now. lenient_from i left now (map Elem (rest ++ more)) e) ≡ Then (stamp j j) (Out (Elem c)) (lenient_from j [] 0 (map Elem more) e)
lenient_rest i j [] bits [] more c e f h = (let k : j ≡ i = omega (arith, h) in rw (k, f))
lenient_rest i j [] bits (b ∷ rest) more c e f h = absurd f
lenient_rest i j (r ∷ ranges) bits [] more c e f h = absurd f
lenient_rest i j (r ∷ ranges) bits (b ∷ rest) more c e f h = rw f.0 (lenient_rest (suc i) j ranges (more_bits bits b) rest more c e f.1 (omega (arith, h)))

lenient_text : (i n : ℕ) (cs : List ℕ) (e : End) → all_scalars cs ≡ true → n ≡ i + length (encode_utf8_all cs)
    → lenient_from i [] 0 (map Elem (encode_utf8_all cs)) e ≡ characters_out i cs (past n e Value.Unit)
lenient_text i n [] e h k = (let m : n ≡ i = omega (arith, k) in rw m)
lenient_text i n (c ∷ cs) e h k =
    let both = both_true (scalar c) (all_scalars cs) h in
    let s = sequence_of c both.0 in
    let j = i + length (encode c) in
    let place : j ≡ suc i + length s.rest = omega (arith, ap length s.are) in
    ap (λ bytes. lenient_from i [] 0 (map Elem (bytes ++ encode_utf8_all cs)) e) s.are
    ∙ rw s.begins (lenient_rest (suc i) j s.ranges (first_bits s.first) s.rest (encode_utf8_all cs) c e s.fits place)
    ∙ ap (Then (stamp j j) (Out (Elem c))) (lenient_text j n cs e both.1 (omega (arith, k, length-append (encode c) (encode_utf8_all cs))))

pub lenient_reads_text : (cs : List ℕ) → all_scalars cs ≡ true → (e : End) → utf8_lenient (bytes_of cs) e ≡ plain_text cs e
lenient_reads_text cs h e = lenient_text 0 (length (encode_utf8_all cs)) cs e h (omega arith)
