-- Texts with their trees, and texts with their first refused token: a token before it passes, and it does not.
use Rattle.std.specs.Prelude.{◌≡◌, refl, ℕ, zero, suc, ◌+◌, Bool, true, false, List, [], ◌∷◌, ◌++◌, replicate, Some, None, codes}
use Rattle.std.proofs.Common.{inl, inr, ap, sym, ◌∙◌, append_assoc, append-nil}
use Rattle.cd_elem.specs.declared.script.Pipe.TheVariants as pipe
use Rattle.cd_elem.specs.declared.script.Stmt.{Stmt}
use Rattle.cd_elem.specs.declared.script.Stmt.TheVariants as stmt
use Rattle.cd_elem.specs.declared.word.Word.TheVariants as word
use Rattle.cd_elem.specs.declared.word.ElemWord.TheVariants as elem
use Rattle.cd_elem.specs.declared.token.CountedWord.TheVariants as counted
use Rattle.cd_elem.specs.declared.token.PlainWord.TheVariants as plain
use Rattle.cd_elem.specs.declared.token.Opening.TheVariants as opening
use Rattle.cd_elem.specs.declared.token.Keyword.TheVariants as keyword
use Rattle.cd_elem.specs.declared.token.Sign.TheVariants as sign
use Rattle.cd_elem.specs.declared.token.Token.{Token}
use Rattle.cd_elem.specs.declared.token.Token.TheVariants as token
use Rattle.cd_elem.specs.declared.token.Lexeme.{Lexeme}
use Rattle.cd_elem.specs.declared.token.LimitKind.TheVariants.{Depth, Literal, Number}
use Rattle.cd_grammar.specs.Grammar as g
use Rattle.cd_grammar.specs.Limits.{limit_at}
use Rattle.cd_grammar.specs.Refusals.{tokens, Refuses, EndsEarly, PassesLimit, IsText, IsSyntaxAt, IsLimitAt}
use Rattle.cd_grammar.proofs.Rows.Deciding.{next, at_the_end, at_no_token, passes_to, within_limits}

abbrev lexeme : Token → ℕ → Lexeme
lexeme t at = record { token = t; at = at }

abbrev release : Token
release = token.Word (keyword.Opening opening.Release)

abbrev a : Token
a = token.Named (codes "a")

abbrev semicolon : Token
semicolon = token.Sign sign.Semicolon

abbrev run : Token
run = token.Word keyword.Run

abbrev repeats : Token
repeats = token.Word (keyword.Counted counted.RepeatE)

abbrev counts : ℕ → Token
counts n = token.Number (Some n)

-- ---- What stands behind a `release` at the front: a name and a semicolon, in every script.
abbrev fits : List Token → Bool
fits (token.Word (keyword.Opening opening.Release) ∷ token.Named n ∷ token.Sign sign.Semicolon ∷ ts) = true
fits (token.Word (keyword.Opening opening.Release) ∷ ts) = false
fits ts = true

one_fits : (s : g.StatementForm) (rest : List Token) → fits (g.statement_tokens s ++ rest) ≡ true
one_fits (g.Run p) rest = refl
one_fits (g.Seal n p) rest = refl
one_fits (g.Feed n p) rest = refl
one_fits (g.CloseSeal n p) rest = refl
one_fits (g.Hold n f) rest = refl
one_fits (g.Release n) rest = refl

all_fit : (d : List g.StatementForm) (rest : List Token) → fits rest ≡ true → fits (g.script_tokens d ++ rest) ≡ true
all_fit [] rest e = e
all_fit (s ∷ before) rest e = ap fits (append_assoc (g.script_tokens before) (g.statement_tokens s) rest) ∙ all_fit before (g.statement_tokens s ++ rest) (one_fits s rest)

script_fits : (ts : List Token) (tree : List Stmt) → g.IsScript ts tree → fits ts ≡ true
script_fits ts tree i = ap fits (sym i.spelled) ∙ ap fits (sym (append-nil (g.script_tokens i.derivation))) ∙ all_fit i.derivation [] refl

apart : false ≡ true → ⊥
apart e = cc

-- ---- `release a;`, and the fronts of it
abbrev released : List g.StatementForm
released = g.Release (codes "a") ∷ []

is_script : g.IsScript (release ∷ a ∷ semicolon ∷ []) (stmt.Release (codes "a") ∷ [])
is_script = record { derivation = released; spelled = refl; stands_for = refl }

front_of_one : g.IsFront (release ∷ [])
front_of_one = record { more = a ∷ semicolon ∷ []; tree = stmt.Release (codes "a") ∷ []; script = is_script }

front_of_two : g.IsFront (release ∷ a ∷ [])
front_of_two = record { more = semicolon ∷ []; tree = stmt.Release (codes "a") ∷ []; script = is_script }

-- ---- the tree of a text
text_of_release : IsText (codes "release a;") (stmt.Release (codes "a") ∷ [])
text_of_release = record {
  lexemes = lexeme release 0 ∷ lexeme a 8 ∷ lexeme semicolon 9 ∷ [];
  stop = 10;
  lexes = (7, next _ _ _ _ _ refl refl refl refl refl, (1, next _ _ _ _ _ refl refl refl refl refl, (1, next _ _ _ _ _ refl refl refl refl refl, at_the_end _ _ _ _ refl refl)));
  script = is_script;
  within = within_limits _ refl;
}

-- with blanks, a comment and a pipe
text_of_run : IsText (codes " run passE # x\n;") (stmt.Run (pipe.Word (word.Elem elem.PassE)) ∷ [])
text_of_run = record {
  lexemes = lexeme run 1 ∷ lexeme (token.Word (keyword.Plain plain.PassE)) 5 ∷ lexeme semicolon 15 ∷ [];
  stop = 16;
  lexes = (3, next _ _ _ _ _ refl refl refl refl refl, (5, next _ _ _ _ _ refl refl refl refl refl, (1, next _ _ _ _ _ refl refl refl refl refl, at_the_end _ _ _ _ refl refl)));
  script = record { derivation = g.Run (g.One (g.OfWord (g.Plain plain.PassE))) ∷ []; spelled = refl; stands_for = refl };
  within = within_limits _ refl;
}

text_of_nothing : IsText (codes "#") []
text_of_nothing = record { lexemes = []; stop = 1; lexes = at_the_end _ _ _ _ refl refl; script = record { derivation = []; spelled = refl; stands_for = refl }; within = within_limits _ refl }

-- ---- Syntax
abbrev twice : List Lexeme
twice = lexeme release 0 ∷ lexeme release 8 ∷ []

-- `release release`: the second word is no name
refuses_the_second : Refuses twice 8
refuses_the_second = record {
  index = 1;
  lexeme = lexeme release 8;
  stands = refl;
  place = refl;
  before = passes_to _ 1 front_of_one refl;
  refused = λ f. apart (script_fits _ _ f.script);
}

syntax_at_the_second : IsSyntaxAt (codes "release release") 8
syntax_at_the_second = record {
  lexemes = twice;
  stop = 15;
  whole = true;
  lexes = (7, next _ _ _ _ _ refl refl refl refl refl, (7, next _ _ _ _ _ refl refl refl refl refl, at_the_end _ _ _ _ refl refl));
  refused = inl refuses_the_second;
}

-- `release 18446744073709551616`: it passes a limit too, but Syntax comes before Limit
abbrev too_great : List Lexeme
too_great = lexeme release 0 ∷ lexeme (token.Number None) 8 ∷ []

syntax_before_limit : (limit_at (tokens too_great) 1 ≡ Some Number) × Refuses too_great 8
syntax_before_limit = (
  refl,
  record { index = 1; lexeme = lexeme (token.Number None) 8; stands = refl; place = refl; before = passes_to _ 1 front_of_one refl; refused = λ f. apart (script_fits _ _ f.script) },
)

-- `release a`: it ends too early, at its end
ends_early : EndsEarly (lexeme release 0 ∷ lexeme a 8 ∷ []) true 9 9
ends_early = record { place = refl; before = passes_to _ 2 front_of_two refl; refused = λ _ tree i. apart (script_fits _ tree i) }

syntax_at_the_end : IsSyntaxAt (codes "release a") 9
syntax_at_the_end = record {
  lexemes = lexeme release 0 ∷ lexeme a 8 ∷ [];
  stop = 9;
  whole = true;
  lexes = (7, next _ _ _ _ _ refl refl refl refl refl, (1, next _ _ _ _ _ refl refl refl refl refl, at_the_end _ _ _ _ refl refl));
  refused = inr ends_early;
}

-- blanks at the end count
syntax_behind_blanks : IsSyntaxAt (codes "release a \n") 11
syntax_behind_blanks = record {
  lexemes = lexeme release 0 ∷ lexeme a 8 ∷ [];
  stop = 11;
  whole = true;
  lexes = (7, next _ _ _ _ _ refl refl refl refl refl, (1, next _ _ _ _ _ refl refl refl refl refl, at_the_end _ _ _ _ refl refl));
  refused = inr (record { place = refl; before = passes_to _ 2 front_of_two refl; refused = λ _ tree i. apart (script_fits _ tree i) });
}

-- `release a; :`: behind a whole script stands what is no token
syntax_at_no_token : IsSyntaxAt (codes "release a; :") 11
syntax_at_no_token = record {
  lexemes = lexeme release 0 ∷ lexeme a 8 ∷ lexeme semicolon 9 ∷ [];
  stop = 11;
  whole = false;
  lexes = (7, next _ _ _ _ _ refl refl refl refl refl, (1, next _ _ _ _ _ refl refl refl refl refl, (1, next _ _ _ _ _ refl refl refl refl refl, at_no_token _ _ _ _ refl refl refl)));
  refused = inr (record { place = refl; before = passes_to _ 3 (record { more = []; tree = stmt.Release (codes "a") ∷ []; script = is_script }) refl; refused = λ e tree i. apart e });
}

-- ---- Limit
-- `run repeatE 4097`: a script goes on with the number
repeated : g.IsScript (run ∷ repeats ∷ counts 4097 ∷ semicolon ∷ []) (stmt.Run (pipe.Word (word.Elem (elem.RepeatE 4097))) ∷ [])
repeated = record { derivation = g.Run (g.One (g.OfWord (g.Counted counted.RepeatE (Some 4097)))) ∷ []; spelled = refl; stands_for = refl }

abbrev many : List Lexeme
many = lexeme run 0 ∷ lexeme repeats 4 ∷ lexeme (counts 4097) 12 ∷ []

passes_the_range : PassesLimit many Number 12
passes_the_range = record {
  index = 2;
  lexeme = lexeme (counts 4097) 12;
  stands = refl;
  place = refl;
  before = passes_to _ 2 (record { more = counts 4097 ∷ semicolon ∷ []; tree = _; script = repeated }) refl;
  goes_on = record { more = semicolon ∷ []; tree = _; script = repeated };
  limit = refl;
}

limit_at_the_number : IsLimitAt (codes "run repeatE 4097") Number 12
limit_at_the_number = record {
  lexemes = many;
  stop = 16;
  whole = true;
  lexes = (3, next _ _ _ _ _ refl refl refl refl refl, (7, next _ _ _ _ _ refl refl refl refl refl, (4, next _ _ _ _ _ refl refl refl refl refl, at_the_end _ _ _ _ refl refl)));
  refused = passes_the_range;
}

-- `release`, and a name of 65 letters
abbrev long : List ℕ
long = replicate 65 120

long_is_script : g.IsScript (release ∷ token.Named long ∷ semicolon ∷ []) (stmt.Release long ∷ [])
long_is_script = record { derivation = g.Release long ∷ []; spelled = refl; stands_for = refl }

limit_at_the_name : IsLimitAt (codes "release " ++ long) Literal 8
limit_at_the_name = record {
  lexemes = lexeme release 0 ∷ lexeme (token.Named long) 8 ∷ [];
  stop = 73;
  whole = true;
  lexes = (7, next _ _ _ _ _ refl refl refl refl refl, (65, next _ _ _ _ _ refl refl refl refl refl, at_the_end _ _ _ _ refl refl));
  refused = record {
    index = 1;
    lexeme = lexeme (token.Named long) 8;
    stands = refl;
    place = refl;
    before = passes_to _ 1 front_of_one refl;
    goes_on = record { more = semicolon ∷ []; tree = _; script = long_is_script };
    limit = refl;
  };
}

-- `run` and 33 parentheses, the last at 36
abbrev nested : ℕ → g.PipeForm
nested zero = g.One (g.OfWord (g.Plain plain.PassE))
nested (suc n) = g.One (g.Parens (nested n))

-- so many parentheses from this place on
abbrev parens : ℕ → ℕ → List Lexeme
parens zero at = []
parens (suc n) at = lexeme (token.Sign sign.OpenParen) at ∷ parens n (at + 1)

abbrev closed : List Token
closed = token.Word (keyword.Plain plain.PassE) ∷ replicate 33 (token.Sign sign.CloseParen) ++ semicolon ∷ []

nested_is_script : g.IsScript (tokens (lexeme run 0 ∷ parens 33 4) ++ closed) (stmt.Run (pipe.Word (word.Elem elem.PassE)) ∷ [])
nested_is_script = record { derivation = g.Run (nested 33) ∷ []; spelled = refl; stands_for = refl }

passes_the_depth : PassesLimit (lexeme run 0 ∷ parens 33 4) Depth 36
passes_the_depth = record {
  index = 33;
  lexeme = lexeme (token.Sign sign.OpenParen) 36;
  stands = refl;
  place = refl;
  before = passes_to _ 33 (record { more = token.Sign sign.OpenParen ∷ closed; tree = _; script = nested_is_script }) refl;
  goes_on = record { more = closed; tree = _; script = nested_is_script };
  limit = refl;
}
