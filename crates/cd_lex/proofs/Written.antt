-- What is written is read back as the same tokens.
use Rattle.std.proofs.Common.{◌≡◌, ℕ, ◌+◌, ◌≤◌, ◌<◌, ◌^◌, Bool, true, false, not, ◌&&◌, ◌||◌, ◌==◌, if◌then◌else◌, List, [], ◌∷◌, ◌++◌, length, drop, map, Some, None, refl, ap, sym, ◌∙◌, arith, subst, append_assoc, append-nil, length-append, length-drop, flat_map}
use Rattle.std.specs.Char.{is_ascii_alphabetic, is_ascii_digit}
use Rattle.std.specs.List.{list_all}
use Rattle.std.proofs.Math.Seq.{drop-append_seam}
use Rattle.std.proofs.lemmas.List.{drop-drop}
use Rattle.std.proofs.lemmas.List.Folds.{flat_map-map, list_all-append}
use Rattle.cd_elem.specs.declared.script.Stmt.{Stmt}
use Rattle.cd_elem.specs.declared.token.Lexeme.{Lexeme}
use Rattle.cd_elem.specs.declared.token.Token.{Token}
use Rattle.cd_elem.specs.declared.token.Token.TheVariants as token
use Rattle.cd_grammar.specs.Canonical.{canonical, canonical_statement}
use Rattle.cd_grammar.specs.CanonicalText.{canonical_text, is_call, takes_no_blank_before, takes_no_blank_behind, is_paren, blank_between, spaced, spelled_behind}
use Rattle.cd_grammar.specs.Lexemes.{IsNext, Lexes, Stops, Tokenizes, comment_goes_on, gap_length, is_in_gap, is_glued, is_zero, next_at}
use Rattle.cd_grammar.specs.Refusals.{tokens}
use Rattle.cd_grammar.specs.Spelling.{spelled}
use Rattle.cd_grammar.specs.Tokens.{IsLongest, one_sign, whole_token}
use Rattle.cd_lex.proofs.Numbers.{number_is}
use Rattle.cd_lex.proofs.Parting.{behind_parts, ends_before, unglued}
use Rattle.cd_lex.proofs.Quotes.{text_is}
use Rattle.cd_lex.proofs.SpelledWords.{IsWritten, sign_is, word_is}
use Rattle.cd_lex.proofs.Utf8.{both, differs, never}
use Rattle.cd_lex.proofs.Whole.{longest}

pub named_is : (n : List ℕ) → whole_token n ≡ Some (token.Named n) → IsWritten (token.Named n)
named_is n e = record { whole = e }

-- what a token has to be so that it is read as it is written
abbrev pub CanBeWritten : Token → Type 0
CanBeWritten (token.Word k) = Unit {0}
CanBeWritten (token.Sign s) = Unit {0}
CanBeWritten (token.Number None) = ⊥
CanBeWritten (token.Number (Some n)) = n < 2 ^ 64
CanBeWritten (token.Text s) = Unit {0}
CanBeWritten (token.Named n) = whole_token n ≡ Some (token.Named n)

pub written : (t : Token) → CanBeWritten t → IsWritten t
written (token.Word k) h = word_is k
written (token.Sign s) h = sign_is s
written (token.Number None) h = absurd h
written (token.Number (Some n)) h = number_is n h
written (token.Text s) h = text_is s
written (token.Named n) h = named_is n h

abbrev pub AllWritten : List Token → Type 0
AllWritten [] = Unit {0}
AllWritten (t ∷ ts) = IsWritten t × AllWritten ts

pub written_append : (ts us : List Token) → AllWritten ts → AllWritten us → AllWritten (ts ++ us)
written_append [] us a b = b
written_append (t ∷ ts) us a b = (a.0, written_append ts us a.1 b)

pub written_apart : (ts us : List Token) → AllWritten (ts ++ us) → AllWritten ts × AllWritten us
written_apart [] us a = (tt, a)
written_apart (t ∷ ts) us a = let b = written_apart ts us a.1 in ((a.0, b.0), b.1)

-- No token begins with a blank or a comment.
no_token : (c : ℕ) (cs : List ℕ) → is_ascii_alphabetic c ≡ false → (c == 48) ≡ false → is_ascii_digit c ≡ false → (c == 34) ≡ false → (c == 124) ≡ false → one_sign c ≡ None
    → whole_token (c ∷ cs) ≡ None
no_token c [] a z n q b o = rw (a, z, n, q, o) refl
no_token c (d ∷ []) a z n q b o = rw (a, z, n, q, b) refl
no_token c (d ∷ e ∷ es) a z n q b o = rw (a, z, n, q) refl

not_this : (c d : ℕ) (cs : List ℕ) (t : Token) → whole_token (c ∷ cs) ≡ Some t → whole_token (d ∷ cs) ≡ None → (c == d) ≡ false
not_this c d cs t e n = differs c d (λ f. never (sym n ∙ ap (λ k. whole_token (k ∷ cs)) (sym f) ∙ e))

no_gap : (w rest : List ℕ) (t : Token) → whole_token w ≡ Some t → gap_length false (w ++ rest) ≡ 0
no_gap [] rest t e = absurd (never e)
no_gap (c ∷ cs) rest t e =
    rw (
      not_this c 32 cs t e (no_token 32 cs refl refl refl refl refl refl),
      not_this c 9 cs t e (no_token 9 cs refl refl refl refl refl refl),
      not_this c 13 cs t e (no_token 13 cs refl refl refl refl refl refl),
      not_this c 10 cs t e (no_token 10 cs refl refl refl refl refl refl),
      not_this c 35 cs t e (no_token 35 cs refl refl refl refl refl refl),
    ) refl

-- blanks that begin no comment
abbrev is_free : ℕ → Bool
is_free c = is_in_gap false c && not (comment_goes_on false c)

not_true : (b : Bool) → not b ≡ true → b ≡ false
not_true true e = let f : ⊥ = cc in absurd f
not_true false e = refl

blanks_gap : (bs rest : List ℕ) → list_all is_free bs ≡ true → gap_length false rest ≡ 0 → gap_length false (bs ++ rest) ≡ length bs
blanks_gap [] rest a g = g
blanks_gap (c ∷ cs) rest a g =
    let b = both (is_free c) (list_all is_free cs) a in
    let d = both (is_in_gap false c) (not (comment_goes_on false c)) b.0 in
    let i = blanks_gap cs rest b.1 g in
    ap (λ q. if q then 1 + gap_length (comment_goes_on false c) (cs ++ rest) else 0) d.0 ∙ ap (λ q. 1 + gap_length q (cs ++ rest)) (not_true (comment_goes_on false c) d.1) ∙ omega (arith, i)

-- these bytes stand in the text from this place on
record Stands (text : List ℕ) (at : ℕ) (rest : List ℕ) : Type 0 where
  within : at ≤ length text
  rest_is : drop at text ≡ rest

past : (text : List ℕ) (at : ℕ) (w rest : List ℕ) → Stands text at (w ++ rest) → Stands text (at + length w) rest
past text at w rest s =
    let w_in = s.within in
    let l = ap length s.rest_is in
    record {
      within = omega (arith, w_in, l, length-drop at text, length-append w rest);
      rest_is = sym (drop-drop (length w) at text) ∙ ap (drop (length w)) s.rest_is ∙ drop-append_seam w rest;
    }

-- from this place on the text has these tokens, up to its end
record Reads (text : List ℕ) (at : ℕ) (zero : Bool) (ts : List Token) : Type 0 where
  lexemes : List Lexeme
  stop : ℕ
  lexes : Lexes text at zero lexemes stop true
  same : tokens lexemes ≡ ts

reads_one : (text : List ℕ) (at : ℕ) (zero : Bool) (b w rest : List ℕ) (t : Token) (ts : List Token) → list_all is_free b ≡ true → Stands text at (b ++ (w ++ rest))
    → is_glued zero (b ++ (w ++ rest)) ≡ false → whole_token w ≡ Some t → ends_before t rest ≡ true → Reads text (at + length b + length w) (is_zero t) ts → Reads text at zero (t ∷ ts)
reads_one text at zero b w rest t ts f s g e k r =
    let P : List ℕ → Type 0 = λ cs. IsLongest cs t (length w) in
    let next : IsNext text at zero (record { token = t; at = at + length b }) (length w) = record {
      place = sym (ap (λ n. at + n) (ap (gap_length false) s.rest_is ∙ blanks_gap b (w ++ rest) f (no_gap w rest t e)));
      apart = ap (is_glued zero) s.rest_is ∙ g;
      longest = subst P (sym (past text at b (w ++ rest) s).rest_is) (longest w rest t e k);
    } in
    record {
      lexemes = record { token = t; at = at + length b } ∷ r.lexemes;
      stop = r.stop;
      lexes = (length w, next, r.lexes);
      same = ap (λ us. t ∷ us) r.same;
    }

by_space : (b : Bool) → list_all is_free (if b then [] else 32 ∷ []) ≡ true
by_space true = refl
by_space false = refl

-- the tokens of a line behind one of them, if those behind the line are these
reads_behind : (text : List ℕ) (at : ℕ) (before : Token) (ts us : List Token) (more : List ℕ) → AllWritten ts → Stands text at (spelled_behind before ts ++ 10 ∷ more)
    → ((i : ℕ) (t : Token) → Stands text i (10 ∷ more) → Reads text i (is_zero t) us) → Reads text at (is_zero before) (ts ++ us)
reads_behind text at before [] us more a s k = k at before s
reads_behind text at before (t ∷ ts) us more a s k =
    let rest = spelled_behind t ts ++ 10 ∷ more in
    let e : spelled_behind before (t ∷ ts) ++ 10 ∷ more ≡ blank_between before t ++ (spelled t ++ (spelled_behind t ts ++ 10 ∷ more)) =
    append_assoc (blank_between before t) (spelled t ++ spelled_behind t ts) (10 ∷ more) ∙ ap (λ cs. blank_between before t ++ cs) (append_assoc (spelled t) (spelled_behind t ts) (10 ∷ more)) in
    let P : List ℕ → Type 0 = λ cs. Stands text at cs in
    let here = subst P e s in
    let there = past text (at + length (blank_between before t)) (spelled t) rest (past text at (blank_between before t) (spelled t ++ rest) here) in
    reads_one text at (is_zero before) (blank_between before t) (spelled t) rest t (ts ++ us)
    (by_space (takes_no_blank_behind before || (takes_no_blank_before t || (is_call before && is_paren t)))) here
    (ap (is_glued (is_zero before)) (sym e) ∙ unglued before (spelled_behind before (t ∷ ts) ++ 10 ∷ more) (behind_parts before (t ∷ ts) more))
    a.0.whole (behind_parts t ts more)
    (reads_behind text (at + length (blank_between before t) + length (spelled t)) t ts us more a.1 there k)

abbrev lines_text : List (List Token) → List ℕ
lines_text lines = flat_map (λ ts. spaced ts ++ 10 ∷ []) lines

-- behind a newline no digit is glued to a zero
newline_unglued : (zero : Bool) (cs : List ℕ) → is_glued zero (10 ∷ cs) ≡ false
newline_unglued true cs = refl
newline_unglued false cs = refl

ends_here : (text : List ℕ) (at : ℕ) (zero : Bool) (b : List ℕ) → list_all is_free b ≡ true → Stands text at (b ++ []) → Stops text at zero (next_at text at) true
ends_here text at zero b f s =
    let g : gap_length false (drop at text) ≡ length b = ap (gap_length false) s.rest_is ∙ blanks_gap b [] f refl in
    let l : length (drop at text) ≡ length b = ap length s.rest_is ∙ ap length (append-nil b) in
    let w = s.within in
    record { place = refl; ends = λ e. omega (arith, g, l, w, length-drop at text); none = λ e. let h : ⊥ = cc in absurd h }

reads_lines : (text : List ℕ) (lines : List (List Token)) (at : ℕ) (zero : Bool) (b : List ℕ) → AllWritten (flat_map (λ ts. ts) lines) → list_all is_free b ≡ true
    → Stands text at (b ++ lines_text lines) → is_glued zero (b ++ lines_text lines) ≡ false → Reads text at zero (flat_map (λ ts. ts) lines)
reads_lines text [] at zero b a f s g = record { lexemes = []; stop = next_at text at; lexes = ends_here text at zero b f s; same = refl }
reads_lines text ([] ∷ lines) at zero b a f s g =
    let e : b ++ lines_text ([] ∷ lines) ≡ (b ++ 10 ∷ []) ++ lines_text lines = sym (append_assoc b (10 ∷ []) (lines_text lines)) in
    let P : List ℕ → Type 0 = λ cs. Stands text at cs in
    reads_lines text lines at zero (b ++ 10 ∷ []) a (list_all-append is_free b (10 ∷ []) ∙ ap (λ q. q && true) f) (subst P e s) (ap (is_glued zero) (sym e) ∙ g)
reads_lines text ((t ∷ ts) ∷ lines) at zero b a f s g =
    let w = written_apart (t ∷ ts) (flat_map (λ us. us) lines) a in
    let more = lines_text lines in
    let rest = spelled_behind t ts ++ 10 ∷ more in
    let e : b ++ lines_text ((t ∷ ts) ∷ lines) ≡ b ++ (spelled t ++ (spelled_behind t ts ++ 10 ∷ lines_text lines)) =
    ap (λ cs. b ++ cs) (append_assoc (spelled t ++ spelled_behind t ts) (10 ∷ []) (lines_text lines) ∙ append_assoc (spelled t) (spelled_behind t ts) (10 ∷ lines_text lines)) in
    let P : List ℕ → Type 0 = λ cs. Stands text at cs in
    let here = subst P e s in
    let there = past text (at + length b) (spelled t) rest (past text at b (spelled t ++ rest) here) in
    reads_one text at zero b (spelled t) rest t (ts ++ flat_map (λ us. us) lines) f here (ap (is_glued zero) (sym e) ∙ g) w.0.0.whole (behind_parts t ts more)
    (reads_behind text (at + length b + length (spelled t)) t ts (flat_map (λ us. us) lines) more w.0.1 there
    (λ i u h. reads_lines text lines i (is_zero u) (10 ∷ []) w.1 refl h (newline_unglued (is_zero u) more)))

pub tokenizes_lines : (lines : List (List Token)) → AllWritten (flat_map (λ ts. ts) lines)
    → (lexemes : List Lexeme) × (stop : ℕ) × Tokenizes (flat_map (λ ts. spaced ts ++ 10 ∷ []) lines) lexemes stop true × (tokens lexemes ≡ flat_map (λ ts. ts) lines)
tokenizes_lines lines a =
    let r = reads_lines (lines_text lines) lines 0 false [] a refl (record { within = omega arith; rest_is = refl }) refl in
    (r.lexemes, r.stop, r.lexes, r.same)

-- a script's canonical text has the tokens of its tree
pub tokenizes_canonical : (tree : List Stmt) → AllWritten (canonical tree)
    → (lexemes : List Lexeme) × (stop : ℕ) × Tokenizes (canonical_text tree) lexemes stop true × (tokens lexemes ≡ canonical tree)
tokenizes_canonical tree a =
    let e : lines_text (map canonical_statement tree) ≡ canonical_text tree = flat_map-map (λ ts. spaced ts ++ 10 ∷ []) canonical_statement tree in
    let f : flat_map (λ ts. ts) (map canonical_statement tree) ≡ canonical tree = flat_map-map (λ ts. ts) canonical_statement tree in
    let r = tokenizes_lines (map canonical_statement tree) (subst AllWritten (sym f) a) in
    let P : List ℕ → Type 0 = λ text. Tokenizes text r.0 r.1 true in
    (r.0, r.1, subst P e r.2, r.3 ∙ f)
