-- The rows of Table 3-7 are the bytes of characters.
use Rattle.std.proofs.Common.{◌≡◌, ℕ, ◌+◌, ◌-◌, ◌*◌, ◌/◌, ◌%◌, ◌<◌, ◌≤◌, ◌⊎◌, inl, inr, true, ◌==◌, nat_lt, if◌then◌else◌, List, [], ◌∷◌, Some, None, subst, arith}
use Rattle.std.proofs.lemmas.Bool.{cases_lt, cases_eq, le-ltb, lt-ltb, le-leb, eq-eqb, ne_eqb}
use lib.Utf8.{encode, scalar, low_scalar}
use Rattle.cd_meaning.specs.Text.{Range, range, tail, following}

-- each byte is in its range
abbrev pub InRanges : List Range → List ℕ → Type 0
InRanges [] [] = Unit {0}
InRanges [] (b ∷ bs) = ⊥
InRanges (r ∷ ranges) [] = ⊥
InRanges (r ∷ ranges) (b ∷ bs) = (r.low ≤ b) × (b ≤ r.high) × InRanges ranges bs

-- no range is empty
abbrev pub AllSome : List Range → Type 0
AllSome [] = Unit {0}
AllSome (r ∷ ranges) = (r.low ≤ r.high) × AllSome ranges

pub record IsCharacter (bytes : List ℕ) : Type 0 where
  pub character : ℕ
  pub is_scalar : scalar character ≡ true
  pub are : encode character ≡ bytes

-- a first byte, and the ranges of those behind it
pub record IsRow (b : ℕ) (ranges : List Range) : Type 0 where
  pub some : AllSome ranges
  pub whole : (rest : List ℕ) → InRanges ranges rest → IsCharacter (b ∷ rest)

high_scalar : (c : ℕ) → 57344 ≤ c → c < 1114112 → scalar c ≡ true
high_scalar c h k = rw (le-ltb c 55296 (omega arith), le-leb 57344 c h, lt-ltb c 1114112 k)

is_character : (c : ℕ) (bytes : List ℕ) → scalar c ≡ true → encode c ≡ bytes → IsCharacter bytes
is_character c bytes s e = record { character = c; is_scalar = s; are = e }

one_bytes : (b : ℕ) → b < 128 → encode b ≡ b ∷ []
unfolding encode
one_bytes b h = rw (lt-ltb b 128 h)

two_bytes : (c b x : ℕ) → 128 ≤ c → c < 2048 → 192 + c / 64 ≡ b → 128 + c % 64 ≡ x → encode c ≡ b ∷ x ∷ []
unfolding encode
two_bytes c b x h k e f = rw (le-ltb c 128 h, lt-ltb c 2048 k, e, f)

three_bytes : (c b x y : ℕ) → 2048 ≤ c → c < 65536 → 224 + c / 4096 ≡ b → 128 + c / 64 % 64 ≡ x → 128 + c % 64 ≡ y → encode c ≡ b ∷ x ∷ y ∷ []
unfolding encode
three_bytes c b x y h k e f g = rw (le-ltb c 128 (omega arith), le-ltb c 2048 h, lt-ltb c 65536 k, e, f, g)

four_bytes : (c b x y z : ℕ) → 65536 ≤ c → 240 + c / 262144 ≡ b → 128 + c / 4096 % 64 ≡ x → 128 + c / 64 % 64 ≡ y → 128 + c % 64 ≡ z → encode c ≡ b ∷ x ∷ y ∷ z ∷ []
unfolding encode
four_bytes c b x y z h e f g i = rw (le-ltb c 128 (omega arith), le-ltb c 2048 (omega arith), le-ltb c 65536 h, e, f, g, i)

one_row : (b : ℕ) → b < 128 → IsRow b []
one_row b h = record { some = tt; whole = whole b h } where
  whole : (b : ℕ) → b < 128 → (rest : List ℕ) → InRanges [] rest → IsCharacter (b ∷ rest)
  whole b h [] i = is_character b (b ∷ []) (low_scalar b (omega arith)) (one_bytes b h)
  whole b h (x ∷ rest) i = absurd i

two_row : (b : ℕ) → 194 ≤ b → b < 224 → IsRow b (tail ∷ [])
two_row b h k = record { some = (omega arith, tt); whole = whole b h k } where
  whole : (b : ℕ) → 194 ≤ b → b < 224 → (rest : List ℕ) → InRanges (tail ∷ []) rest → IsCharacter (b ∷ rest)
  whole b h k [] i = absurd i
  whole b h k (x ∷ y ∷ rest) i = absurd i.2
  whole b h k (x ∷ []) i =
      let i0 = i.0 in
      let i1 = i.1 in
      let c = (b - 192) * 64 + (x - 128) in
      is_character c (b ∷ x ∷ []) (low_scalar c (omega arith)) (two_bytes c b x (omega arith) (omega arith) (omega arith) (omega arith))

three_row : (b low high : ℕ) → 224 ≤ b → b < 240 → 128 ≤ low → low ≤ high → high ≤ 191 → (225 ≤ b) ⊎ (160 ≤ low) → (b < 237) ⊎ ((238 ≤ b) ⊎ (high ≤ 159)) → IsRow b (range low high ∷ tail ∷ [])
three_row b low high h k l m n p q = record { some = (m, (omega arith, tt)); whole = whole b low high h k l n p q } where
  whole : (b low high : ℕ) → 224 ≤ b → b < 240 → 128 ≤ low → high ≤ 191 → (225 ≤ b) ⊎ (160 ≤ low) → (b < 237) ⊎ ((238 ≤ b) ⊎ (high ≤ 159)) → (rest : List ℕ)
      → InRanges (range low high ∷ tail ∷ []) rest → IsCharacter (b ∷ rest)
  whole b low high h k l n p q [] i = absurd i
  whole b low high h k l n p q (x ∷ []) i = absurd i.2
  whole b low high h k l n p q (x ∷ y ∷ z ∷ rest) i = absurd i.2.2
  whole b low high h k l n p q (x ∷ y ∷ []) i =
      let x0 = i.0 in
      let x1 = i.1 in
      let y0 = i.2.0 in
      let y1 = i.2.1 in
      let c = (b - 224) * 4096 + (x - 128) * 64 + (y - 128) in
      let s : scalar c ≡ true = elim (cases_lt b 238) [
        | inl g ↦ low_scalar c (omega (arith, q))
        | inr g ↦ high_scalar c (omega arith) (omega arith)
      ] in
      is_character c (b ∷ x ∷ y ∷ []) s (three_bytes c b x y (omega (arith, p)) (omega arith) (omega arith) (omega arith) (omega arith))

four_row : (b low high : ℕ) → 240 ≤ b → b < 245 → 128 ≤ low → low ≤ high → high ≤ 191 → (241 ≤ b) ⊎ (144 ≤ low) → (b < 244) ⊎ (high ≤ 143) → IsRow b (range low high ∷ tail ∷ tail ∷ [])
four_row b low high h k l m n p q = record { some = (m, (omega arith, (omega arith, tt))); whole = whole b low high h k l n p q } where
  whole : (b low high : ℕ) → 240 ≤ b → b < 245 → 128 ≤ low → high ≤ 191 → (241 ≤ b) ⊎ (144 ≤ low) → (b < 244) ⊎ (high ≤ 143) → (rest : List ℕ)
      → InRanges (range low high ∷ tail ∷ tail ∷ []) rest → IsCharacter (b ∷ rest)
  whole b low high h k l n p q [] i = absurd i
  whole b low high h k l n p q (x ∷ []) i = absurd i.2
  whole b low high h k l n p q (x ∷ y ∷ []) i = absurd i.2.2
  whole b low high h k l n p q (x ∷ y ∷ z ∷ w ∷ rest) i = absurd i.2.2.2
  whole b low high h k l n p q (x ∷ y ∷ z ∷ []) i =
      let x0 = i.0 in
      let x1 = i.1 in
      let y0 = i.2.0 in
      let y1 = i.2.1 in
      let z0 = i.2.2.0 in
      let z1 = i.2.2.1 in
      let c = (b - 240) * 262144 + (x - 128) * 4096 + (y - 128) * 64 + (z - 128) in
      is_character c (b ∷ x ∷ y ∷ z ∷ []) (high_scalar c (omega (arith, p)) (omega (arith, q))) (four_bytes c b x y z (omega (arith, p)) (omega arith) (omega arith) (omega arith) (omega arith))

-- what follows a byte in the table is one of these rows
same_row : (b : ℕ) (given ranges : List Range) → Some given ≡ Some ranges → IsRow b given → IsRow b ranges
same_row b given ranges h r = (let e : given ≡ ranges = cc in subst (IsRow b) e r)

no_row : (b : ℕ) (ranges : List Range) → None ≡ Some ranges → IsRow b ranges
no_row b ranges h = (let f : ⊥ = cc in absurd f)

four_left : (b : ℕ) (ranges : List Range) → 240 ≤ b
    → (if b == 240 then Some (range 144 191 ∷ tail ∷ tail ∷ []) else (if nat_lt b 244 then Some (tail ∷ tail ∷ tail ∷ []) else (if b == 244 then Some (range 128 143 ∷ tail ∷ tail ∷ []) else None))) ≡ Some ranges
    → IsRow b ranges
four_left b ranges k h = elim (cases_eq b 240) [
  | inl e ↦ same_row b (range 144 191 ∷ tail ∷ tail ∷ []) ranges (rw (eq-eqb b 240 e) at h) (four_row b 144 191 k (omega (arith, e)) (omega arith) (omega arith) (omega arith) (inr (omega arith)) (inl (omega (arith, e))))
  | inr n ↦ elim (cases_lt b 244) [
    | inl l ↦ same_row b (tail ∷ tail ∷ tail ∷ []) ranges (rw (ne_eqb b 240 n, lt-ltb b 244 l) at h) (four_row b 128 191 k (omega arith) (omega arith) (omega arith) (omega arith) (inl (omega (arith, n))) (inl l))
    | inr g ↦ elim (cases_eq b 244) [
      | inl e ↦
          same_row b (range 128 143 ∷ tail ∷ tail ∷ []) ranges (rw (ne_eqb b 240 n, le-ltb b 244 g, eq-eqb b 244 e) at h)
          (four_row b 128 143 k (omega (arith, e)) (omega arith) (omega arith) (omega arith) (inl (omega (arith, e))) (inr (omega arith)))
      | inr m ↦ no_row b ranges (rw (ne_eqb b 240 n, le-ltb b 244 g, ne_eqb b 244 m) at h)
    ]
  ]
]

three_or_four : (b : ℕ) (ranges : List Range) → 224 ≤ b
    → (if b == 224 then Some (range 160 191 ∷ tail ∷ []) else (if b == 237 then Some (range 128 159 ∷ tail ∷ []) else (if nat_lt b 240 then Some (tail ∷ tail ∷ [])
    else (if b == 240 then Some (range 144 191 ∷ tail ∷ tail ∷ []) else (if nat_lt b 244 then Some (tail ∷ tail ∷ tail ∷ []) else (if b == 244 then Some (range 128 143 ∷ tail ∷ tail ∷ []) else None)))))) ≡ Some ranges
    → IsRow b ranges
three_or_four b ranges k h = elim (cases_eq b 224) [
  | inl e ↦ same_row b (range 160 191 ∷ tail ∷ []) ranges (rw (eq-eqb b 224 e) at h) (three_row b 160 191 k (omega (arith, e)) (omega arith) (omega arith) (omega arith) (inr (omega arith)) (inl (omega (arith, e))))
  | inr n ↦ elim (cases_eq b 237) [
    | inl e ↦
        same_row b (range 128 159 ∷ tail ∷ []) ranges (rw (ne_eqb b 224 n, eq-eqb b 237 e) at h)
        (three_row b 128 159 k (omega (arith, e)) (omega arith) (omega arith) (omega arith) (inl (omega (arith, e))) (inr (inr (omega arith))))
    | inr m ↦ elim (cases_lt b 240) [
      | inl l ↦
          same_row b (tail ∷ tail ∷ []) ranges (rw (ne_eqb b 224 n, ne_eqb b 237 m, lt-ltb b 240 l) at h)
          (three_row b 128 191 k l (omega arith) (omega arith) (omega arith) (inl (omega (arith, n)))
          (elim (cases_lt b 237) [ inl o ↦ inl o | inr o ↦ inr (inl (omega (arith, m))) ]))
      | inr g ↦ four_left b ranges g (rw (ne_eqb b 224 n, ne_eqb b 237 m, le-ltb b 240 g) at h)
    ]
  ]
]

pub row_of : (b : ℕ) (ranges : List Range) → following b ≡ Some ranges → IsRow b ranges
row_of b ranges h = elim (cases_lt b 128) [
  | inl a1 ↦ same_row b [] ranges (rw (lt-ltb b 128 a1) at h) (one_row b a1)
  | inr b1 ↦ elim (cases_lt b 194) [
    | inl a2 ↦ no_row b ranges (rw (le-ltb b 128 b1, lt-ltb b 194 a2) at h)
    | inr b2 ↦ elim (cases_lt b 224) [
      | inl a3 ↦ same_row b (tail ∷ []) ranges (rw (le-ltb b 128 b1, le-ltb b 194 b2, lt-ltb b 224 a3) at h) (two_row b b2 a3)
      | inr b3 ↦ three_or_four b ranges b3 (rw (le-ltb b 128 b1, le-ltb b 194 b2, le-ltb b 224 b3) at h)
    ]
  ]
]
