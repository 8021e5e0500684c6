-- Which bytes stand behind a token so that no longer front is one.
use Rattle.std.proofs.Common.{◌≡◌, ℕ, Bool, true, false, not, ◌&&◌, ◌||◌, ◌==◌, if◌then◌else◌, List, [], ◌∷◌, ◌++◌, Option, Some, None, refl, ap, ◌∙◌, append_assoc}
use Rattle.std.specs.Char.{is_ascii_alphanumeric, is_ascii_digit}
use Rattle.cd_elem.specs.declared.script.Join.TheVariants as join
use Rattle.cd_elem.specs.declared.token.Sign.{Sign}
use Rattle.cd_elem.specs.declared.token.Sign.TheVariants as sign
use Rattle.cd_elem.specs.declared.token.Token.{Token}
use Rattle.cd_elem.specs.declared.token.Token.TheVariants as token
use Rattle.cd_grammar.specs.CanonicalText.{is_call, takes_no_blank_before, takes_no_blank_behind, is_paren, blank_between, spelled_behind}
use Rattle.cd_grammar.specs.Lexemes.{is_glued, is_zero}
use Rattle.cd_grammar.specs.Spelling.{spelled}
use Rattle.cd_grammar.specs.Tokens.{bar_sign}

abbrev pub no_sign : Option Sign → Bool
no_sign None = true
no_sign (Some s) = false

abbrev pub parts_sign : Sign → ℕ → Bool
parts_sign (sign.Operator join.Plain) c = no_sign (bar_sign c)
parts_sign _ c = true

-- whether a token goes on with this byte to no longer one
abbrev pub parts : Token → ℕ → Bool
parts (token.Word k) c = not (is_ascii_alphanumeric c)
parts (token.Sign s) c = parts_sign s c
parts (token.Number n) c = not (is_ascii_digit c)
parts (token.Text s) c = true
parts (token.Named n) c = not (is_ascii_alphanumeric c)

-- whether these bytes stand behind a token so that it ends before them
abbrev pub ends_before : Token → List ℕ → Bool
ends_before t [] = true
ends_before t (c ∷ cs) = parts t c

-- a byte that parts every token
record PartsAll (c : ℕ) : Type 0 where
  no_name : not (is_ascii_alphanumeric c) ≡ true
  no_digit : not (is_ascii_digit c) ≡ true
  no_bar : no_sign (bar_sign c) ≡ true

sign_parts : (s : Sign) (c : ℕ) → PartsAll c → parts_sign s c ≡ true
sign_parts (sign.Operator join.Plain) c a = a.no_bar
sign_parts s c a = refl

parts_each : (t : Token) (c : ℕ) → PartsAll c → parts t c ≡ true
parts_each (token.Word k) c a = a.no_name
parts_each (token.Sign s) c a = sign_parts s c a
parts_each (token.Number n) c a = a.no_digit
parts_each (token.Text s) c a = refl
parts_each (token.Named n) c a = a.no_name

abbrev BeginsApart : List ℕ → Type 0
BeginsApart [] = Unit {0}
BeginsApart (c ∷ cs) = PartsAll c

ends_apart : (t : Token) (cs : List ℕ) → BeginsApart cs → ends_before t cs ≡ true
ends_apart t [] a = refl
ends_apart t (c ∷ cs) a = parts_each t c a

untrue : false ≡ true → ⊥
untrue e = cc

-- Behind an opening sign anything stands, and a closing sign and a parenthesis stand behind anything.
opening_parts : (t : Token) (cs : List ℕ) → takes_no_blank_behind t ≡ true → ends_before t cs ≡ true
opening_parts t [] e = refl
opening_parts (token.Sign sign.OpenParen) (c ∷ cs) e = refl
opening_parts (token.Sign sign.OpenSquare) (c ∷ cs) e = refl
opening_parts t (c ∷ cs) e = absurd (untrue e)

closing_apart : (t : Token) (cs : List ℕ) → takes_no_blank_before t ≡ true → BeginsApart (spelled t ++ cs)
closing_apart (token.Sign sign.CloseParen) cs e = record { no_name = refl; no_digit = refl; no_bar = refl }
closing_apart (token.Sign sign.CloseSquare) cs e = record { no_name = refl; no_digit = refl; no_bar = refl }
closing_apart (token.Sign sign.Comma) cs e = record { no_name = refl; no_digit = refl; no_bar = refl }
closing_apart (token.Sign sign.Semicolon) cs e = record { no_name = refl; no_digit = refl; no_bar = refl }
closing_apart t cs e = absurd (untrue e)

paren_apart : (t : Token) (cs : List ℕ) → is_paren t ≡ true → BeginsApart (spelled t ++ cs)
paren_apart (token.Sign sign.OpenParen) cs e = record { no_name = refl; no_digit = refl; no_bar = refl }
paren_apart t cs e = absurd (untrue e)

by_space : (o c k p : Bool) (before t : Token) (cs : List ℕ) → takes_no_blank_behind before ≡ o → takes_no_blank_before t ≡ c → is_paren t ≡ p
    → ends_before before ((if o || (c || (k && p)) then [] else 32 ∷ []) ++ (spelled t ++ cs)) ≡ true
by_space true c k p before t cs e f g = opening_parts before (spelled t ++ cs) e
by_space false true k p before t cs e f g = ends_apart before (spelled t ++ cs) (closing_apart t cs f)
by_space false false true true before t cs e f g = ends_apart before (spelled t ++ cs) (paren_apart t cs g)
by_space false false true false before t cs e f g = parts_each before 32 (record { no_name = refl; no_digit = refl; no_bar = refl })
by_space false false false p before t cs e f g = parts_each before 32 (record { no_name = refl; no_digit = refl; no_bar = refl })

-- a token ends before what the canonical text has behind it
pub behind_parts : (t : Token) (ts : List Token) (more : List ℕ) → ends_before t (spelled_behind t ts ++ 10 ∷ more) ≡ true
behind_parts t [] more = parts_each t 10 (record { no_name = refl; no_digit = refl; no_bar = refl })
behind_parts t (u ∷ ts) more =
    ap (ends_before t) (append_assoc (blank_between t u) (spelled u ++ spelled_behind u ts) (10 ∷ more) ∙ ap (λ cs. blank_between t u ++ cs) (append_assoc (spelled u) (spelled_behind u ts) (10 ∷ more)))
    ∙ by_space (takes_no_blank_behind t) (takes_no_blank_before u) (is_call t) (is_paren u) t u (spelled_behind u ts ++ 10 ∷ more) refl refl refl

never_both : (a b : Bool) → not b ≡ true → (a && b) ≡ false
never_both true true e = let f : ⊥ = cc in absurd f
never_both true false e = refl
never_both false b e = refl

-- and no digit is glued to a zero there
pub unglued : (t : Token) (cs : List ℕ) → ends_before t cs ≡ true → is_glued (is_zero t) cs ≡ false
unglued t [] e = never_both (is_zero t) false refl
unglued (token.Word k) (c ∷ cs) e = refl
unglued (token.Sign s) (c ∷ cs) e = refl
unglued (token.Number None) (c ∷ cs) e = refl
unglued (token.Number (Some n)) (c ∷ cs) e = never_both (n == 0) (is_ascii_digit c) e
unglued (token.Text s) (c ∷ cs) e = refl
unglued (token.Named n) (c ∷ cs) e = refl
