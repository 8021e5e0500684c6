-- A script of 8,193 tokens: `release a;`, 2,731 times. Its last semicolon is one token too many.
use Rattle.std.proofs.Common.{◌≡◌, ℕ, zero, suc, ◌+◌, ◌≤◌, ◌<◌, Bool, true, false, ◌&&◌, ◌⊎◌, inl, inr, List, [], ◌∷◌, ◌++◌, length, take, drop, replicate, codes, None, refl, ap, sym, subst, ◌∙◌, arith}
use Rattle.std.proofs.lemmas.Bool.{le-ltb}
use Rattle.std.proofs.lemmas.List.{length-take}
use Rattle.std.proofs.Math.ListN.{take-append-drop}
use Rattle.cd_elem.specs.declared.token.Opening.TheVariants as opening
use Rattle.cd_elem.specs.declared.token.Keyword.TheVariants as keyword
use Rattle.cd_elem.specs.declared.token.Sign.TheVariants as sign
use Rattle.cd_elem.specs.declared.token.Token.{Token}
use Rattle.cd_elem.specs.declared.token.Token.TheVariants as token
use Rattle.cd_elem.specs.declared.token.Lexeme.{Lexeme}
use Rattle.cd_elem.specs.declared.token.LimitKind.TheVariants.{Tokens}
use Rattle.cd_grammar.specs.Grammar as g
use Rattle.cd_grammar.specs.Limits.{Bounds, opens_bracket, is_outside, is_too_long, limit_at, limit_behind, limit_here}
use Rattle.cd_grammar.specs.Refusals.{tokens, PassesLimit, PassesTo}

abbrev release : Token
release = token.Word (keyword.Opening opening.Release)

abbrev a : Token
a = token.Named (codes "a")

abbrev semicolon : Token
semicolon = token.Sign sign.Semicolon

-- so many times, and with their places from this one on
abbrev copies : ℕ → List Token
copies zero = []
copies (suc n) = release ∷ a ∷ semicolon ∷ copies n

abbrev lexemes : ℕ → ℕ → List Lexeme
lexemes zero at = []
lexemes (suc n) at = record { token = release; at = at } ∷ record { token = a; at = at + 8 } ∷ record { token = semicolon; at = at + 9 } ∷ lexemes n (at + 10)

same_tokens : (n at : ℕ) → tokens (lexemes n at) ≡ copies n
same_tokens zero at = refl
same_tokens (suc n) at = ap (λ ts. release ∷ a ∷ semicolon ∷ ts) (same_tokens n (at + 10))

-- ---- they are a script
one_more : (n : ℕ) → copies n ++ release ∷ a ∷ semicolon ∷ [] ≡ copies (suc n)
one_more zero = refl
one_more (suc n) = ap (λ ts. release ∷ a ∷ semicolon ∷ ts) (one_more n)

spelled : (n : ℕ) → g.script_tokens (replicate n (g.Release (codes "a"))) ≡ copies n
spelled zero = refl
spelled (suc n) = ap (λ ts. ts ++ release ∷ a ∷ semicolon ∷ []) (spelled n) ∙ one_more n

front : (n i : ℕ) → g.IsFront (take i (copies n))
front n i = record {
  more = drop i (copies n);
  tree = g.script_tree (replicate n (g.Release (codes "a")));
  script = record { derivation = replicate n (g.Release (codes "a")); spelled = spelled n ∙ sym (take-append-drop i (copies n)); stands_for = refl };
}

-- ---- each passes no limit behind at most 8,191 tokens
record IsPlain (t : Token) : Type 0 where
  opens : opens_bracket t ≡ false
  long : is_too_long t ≡ false
  outside : (r : Bounds) → is_outside r t ≡ false

plain_release : IsPlain release
plain_release = record { opens = refl; long = refl; outside = λ r. refl }

plain_name : IsPlain a
plain_name = record { opens = refl; long = refl; outside = λ r. refl }

plain_semicolon : IsPlain semicolon
plain_semicolon = record { opens = refl; long = refl; outside = λ r. refl }

record Stands (ts : List Token) : Type 0 where
  first : Token
  rest : List Token
  same : ts ≡ first ∷ rest
  plain : IsPlain first

stands : (n i : ℕ) → (drop i (copies n) ≡ []) ⊎ Stands (drop i (copies n))
stands zero zero = inl refl
stands zero (suc i) = inl refl
stands (suc n) zero = inr (record { first = release; rest = _; same = refl; plain = plain_release })
stands (suc n) (suc zero) = inr (record { first = a; rest = _; same = refl; plain = plain_name })
stands (suc n) (suc (suc zero)) = inr (record { first = semicolon; rest = _; same = refl; plain = plain_semicolon })
stands (suc n) (suc (suc (suc i))) = stands n i

never : (b : Bool) → (b && false) ≡ false
never true = refl
never false = refl

passes_none : (before : List Token) (t : Token) → IsPlain t → length before ≤ 8191 → limit_behind before t ≡ None
passes_none before t p l = simp (le-ltb 8191 (length before) l, p.opens, p.long, p.outside, never) refl

limits : (n i : ℕ) → i < 8192 → limit_at (copies n) i ≡ None
limits n i l = elim (stands n i) [
  | inl e ↦ ap (limit_here (take i (copies n))) e
  | inr s ↦ ap (limit_here (take i (copies n))) s.same ∙ passes_none (take i (copies n)) s.first s.plain (omega (arith, l, length-take i (copies n)))
]

before : (n : ℕ) → PassesTo (copies n) 8192
before n = record { front = front n 8192; limits = limits n }

pub passes_the_tokens : PassesLimit (lexemes 2731 0) Tokens 27309
passes_the_tokens = record {
  index = 8192;
  lexeme = record { token = semicolon; at = 27309 };
  stands = refl;
  place = refl;
  before = subst (λ ts. PassesTo ts 8192) (sym (same_tokens 2731 0)) (before 2731);
  goes_on = subst (λ ts. g.IsFront (take 8193 ts)) (sym (same_tokens 2731 0)) (front 2731 8193);
  limit = refl;
}
