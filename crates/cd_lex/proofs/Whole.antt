-- A whole token is the longest one where it stands, if what is behind it parts it.
use Rattle.std.proofs.Common.{◌≡◌, ℕ, suc, ◌+◌, Bool, true, false, not, ◌==◌, if◌then◌else◌, cond, List, [], ◌∷◌, ◌++◌, length, take, Option, Some, None, refl, ap, sym, ◌∙◌, arith, add-one, subst, encode_utf8}
use Rattle.std.specs.List.{list_all, prefix_len}
use Rattle.std.specs.Char.{is_ascii_alphabetic, is_ascii_alphanumeric, is_ascii_digit}
use Rattle.std.proofs.Math.Seq.{take-append_seam}
use Rattle.cd_elem.specs.declared.script.Join.TheVariants as join
use Rattle.cd_elem.specs.declared.token.Keyword.{Keyword}
use Rattle.cd_elem.specs.declared.token.Sign.{Sign}
use Rattle.cd_elem.specs.declared.token.Sign.TheVariants as sign
use Rattle.cd_elem.specs.declared.token.Token.{Token}
use Rattle.cd_elem.specs.declared.token.Token.TheVariants as token
use Rattle.cd_grammar.specs.Literals.{literal_value, in_front, no_more}
use Rattle.cd_grammar.specs.Keywords.{reserved}
use Rattle.cd_grammar.specs.Tokens as x
use Rattle.cd_lex.specs.declared.literal.LiteralState.{LiteralState}
use Rattle.cd_lex.specs.declared.literal.LiteralState.TheVariants.{Plain}
use Rattle.cd_lex.specs.declared.literal.LiteralStep.{LiteralStep}
use Rattle.cd_lex.specs.declared.literal.LiteralStep.TheVariants.{Closes, Fails, Goes, Byte, Char}
use Rattle.cd_lex.specs.Quotes.{literal_from, longer, read_on, read_byte, literal_token}
use Rattle.cd_lex.specs.LongestToken as s
use Rattle.cd_lex.proofs.Closing.{follow, means, value_from}
use Rattle.cd_lex.proofs.Longest.{scans}
use Rattle.cd_lex.proofs.Parting.{ends_before, no_sign}
use Rattle.cd_lex.proofs.Utf8.{both, never, same_some}

-- Runs of bytes that pass a test.
module _ (p : ℕ → Bool) where
  abbrev halts : List ℕ → Bool
  halts [] = true
  halts (c ∷ cs) = not (p c)

  stop_now : (b : Bool) (n : ℕ) → not b ≡ true → cond b (1 + n) 0 ≡ 0
  stop_now true n e = let f : ⊥ = cc in absurd f
  stop_now false n e = refl

  prefix_at : (cs rest : List ℕ) → list_all p cs ≡ true → halts rest ≡ true → prefix_len p (cs ++ rest) ≡ length cs
  prefix_at [] [] a h = refl
  prefix_at [] (c ∷ cs) a h = stop_now (p c) (prefix_len p cs) h
  prefix_at (c ∷ cs) rest a h =
      let b = both (p c) (list_all p cs) a in
      let i = prefix_at cs rest b.1 h in
      ap (λ q. cond q (1 + prefix_len p (cs ++ rest)) 0) b.0 ∙ omega (arith, i)

  -- a token that goes on as far as its bytes pass
  run : (f : List ℕ → Token) (b : Bool) (c : ℕ) (cs rest : List ℕ) (t : Token) → list_all p cs ≡ b → (if b then Some (f (c ∷ cs)) else None) ≡ Some t → (f (c ∷ cs) ≡ t → halts rest ≡ true)
      → (let n = suc (prefix_len p (cs ++ rest)) in ◌≡◌ {A = s.FoundToken} (Some (f (take n (c ∷ (cs ++ rest))), n)) (Some (t, suc (length cs))))
  run f true c cs rest t a e h =
      let g = same_some e in
      let i = prefix_at cs rest a (h g) in
      ap (λ n. Some (f (c ∷ take n (cs ++ rest)), suc n)) i ∙ ap (λ ds. Some (f (c ∷ ds), suc (length cs))) (take-append_seam cs rest) ∙ ap (λ u. Some (u, suc (length cs))) g
  run f false c cs rest t a e h = absurd (never e)

name_halts : (name rest : List ℕ) (o : Option Keyword) → ends_before (x.name_or_keyword name o) rest ≡ true → halts is_ascii_alphanumeric rest ≡ true
name_halts name [] o e = refl
name_halts name (c ∷ cs) None e = e
name_halts name (c ∷ cs) (Some k) e = e

number_halts : (n : Option ℕ) (rest : List ℕ) → ends_before (token.Number n) rest ≡ true → halts is_ascii_digit rest ≡ true
number_halts n [] e = refl
number_halts n (c ∷ cs) e = e

zero_alone : (cs : List ℕ) (t : Token) → (if x.is_empty cs then Some (token.Number (Some 0)) else None) ≡ Some t → ◌≡◌ {A = s.FoundToken} (Some (token.Number (Some 0), 1)) (Some (t, suc (length cs)))
zero_alone [] t e = ap (λ u. Some (u, 1)) (same_some e)
zero_alone (c ∷ cs) t e = absurd (never e)

-- Literals.
put : (w : List ℕ) (o : Option (List ℕ)) (q : Option (List ℕ × ℕ)) (n : ℕ) (v : List ℕ) → in_front w o ≡ Some v → ((u : List ℕ) → o ≡ Some u → q ≡ Some (u, n)) → longer w q ≡ Some (v, suc n)
put w None q n v e h = absurd (never e)
put w (Some u) q n v e h = ap (longer w) (h u refl) ∙ rw (add-one n) (ap (λ y. Some (y, suc n)) (same_some e))

closed : (cs rest v : List ℕ) → no_more cs ≡ Some v → ◌≡◌ {A = Option (List ℕ × ℕ)} (Some ([], 1)) (Some (v, suc (length cs)))
closed [] rest v e = ap (λ y. Some (y, 1)) (same_some e)
closed (c ∷ cs) rest v e = absurd (never e)

picked : (y : LiteralStep) (cs rest v : List ℕ) → follow y cs (λ r. value_from r cs) ≡ Some v
    → ((r : LiteralState) (u : List ℕ) → value_from r cs ≡ Some u → literal_from r (cs ++ rest) ≡ Some (u, length cs))
    → read_on y (λ r. literal_from r (cs ++ rest)) ≡ Some (v, suc (length cs))
picked Closes cs rest v e h = closed cs rest v e
picked Fails cs rest v e h = absurd (never e)
picked (Goes r) cs rest v e h = put [] (value_from r cs) (literal_from r (cs ++ rest)) (length cs) v e (h r)
picked (Byte b) cs rest v e h = put (b ∷ []) (value_from Plain cs) (literal_from Plain (cs ++ rest)) (length cs) v e (h Plain)
picked (Char c) cs rest v e h = put (encode_utf8 c) (value_from Plain cs) (literal_from Plain (cs ++ rest)) (length cs) v e (h Plain)

closes : (cs rest : List ℕ) (r : LiteralState) (v : List ℕ) → value_from r cs ≡ Some v → literal_from r (cs ++ rest) ≡ Some (v, length cs)
closes [] rest r v e = absurd (never e)
closes (c ∷ cs) rest r v e = picked (read_byte r c) cs rest v e (λ q u. closes cs rest q u)

text : (o : Option (List ℕ)) (cs rest : List ℕ) (t : Token) → literal_value cs ≡ o → x.text_token o ≡ Some t → literal_token (literal_from Plain (cs ++ rest)) ≡ Some (t, suc (length cs))
text None cs rest t e h = absurd (never h)
text (Some v) cs rest t e h =
    ap literal_token (closes cs rest Plain v (means cs Plain ∙ e)) ∙ rw (add-one (length cs)) (ap (λ u. Some (u, suc (length cs))) (same_some h))

-- Signs.
some_sign : (o : Option Sign) (t : Token) (n : ℕ) → x.sign_token o ≡ Some t → s.sign_of_size n o ≡ Some (t, n)
some_sign None t n e = absurd (never e)
some_sign (Some g) t n e = ap (λ u. Some (u, n)) (same_some e)

alone_bar : (o : Option Sign) → no_sign o ≡ true → s.bar_found o ≡ Some (token.Sign (sign.Operator join.Plain), 1)
alone_bar None e = refl
alone_bar (Some g) e = let f : ⊥ = cc in absurd f

by_bar : (b : Bool) (c d : ℕ) (ds : List ℕ) (t : Token) → (c == 124) ≡ b
    → x.sign_token (if b then Some (sign.Operator join.Plain) else x.one_sign c) ≡ Some t → ends_before t (d ∷ ds) ≡ true
    → (if b then s.bar_found (x.bar_sign d) else s.sign_of_size 1 (x.one_sign c)) ≡ Some (t, 1)
by_bar true c d ds t e h k =
    let g = same_some h in
    let i = ap (λ u. ends_before u (d ∷ ds)) g ∙ k in
    alone_bar (x.bar_sign d) i ∙ ap (λ u. Some (u, 1)) g
by_bar false c d ds t e h k = some_sign (x.one_sign c) t 1 h

two_bytes : (b : Bool) (c d : ℕ) (t : Token) → x.sign_token (if b then x.bar_sign d else None) ≡ Some t
    → (if b then s.bar_found (x.bar_sign d) else s.sign_of_size 1 (x.one_sign c)) ≡ Some (t, 2)
two_bytes true c d t e = some_bar (x.bar_sign d) t e where
  some_bar : (o : Option Sign) (t : Token) → x.sign_token o ≡ Some t → s.bar_found o ≡ Some (t, 2)
  some_bar None t e = absurd (never e)
  some_bar (Some g) t e = ap (λ u. Some (u, 2)) (same_some e)
two_bytes false c d t e = absurd (never e)

one_bar : (b : Bool) (c : ℕ) → (c == 124) ≡ b → x.one_sign c ≡ (if b then Some (sign.Operator join.Plain) else x.one_sign c)
one_bar true c e = rw e refl
one_bar false c e = refl

signs : (c : ℕ) (cs rest : List ℕ) (t : Token) → x.sign_token (x.whole_sign (c ∷ cs)) ≡ Some t → ends_before t rest ≡ true → s.sign_found c (cs ++ rest) ≡ Some (t, suc (length cs))
signs c [] [] t e k = some_sign (x.one_sign c) t 1 e
signs c [] (d ∷ ds) t e k = by_bar (c == 124) c d ds t refl (ap x.sign_token (sym (one_bar (c == 124) c refl)) ∙ e) k
signs c (d ∷ []) rest t e k = two_bytes (c == 124) c d t e
signs c (d ∷ g ∷ gs) rest t e k = absurd (never e)

by_class : (a z n q : Bool) (c : ℕ) (cs rest : List ℕ) (t : Token)
    → (if a then (if list_all is_ascii_alphanumeric cs then Some (x.name_or_keyword (c ∷ cs) (reserved (c ∷ cs))) else None)
    else (if z then (if x.is_empty cs then Some (token.Number (Some 0)) else None)
    else (if n then (if list_all is_ascii_digit cs then Some (token.Number (x.number_value (c ∷ cs))) else None)
    else (if q then x.text_token (literal_value cs)
    else x.sign_token (x.whole_sign (c ∷ cs)))))) ≡ Some t
    → ends_before t rest ≡ true
    → (if a then s.name_found (c ∷ (cs ++ rest)) (suc (prefix_len is_ascii_alphanumeric (cs ++ rest)))
    else (if z then Some (token.Number (Some 0), 1)
    else (if n then s.number_found (c ∷ (cs ++ rest)) (suc (prefix_len is_ascii_digit (cs ++ rest)))
    else (if q then literal_token (literal_from Plain (cs ++ rest)) else s.sign_found c (cs ++ rest))))) ≡ Some (t, suc (length cs))
by_class true z n q c cs rest t e k =
    run is_ascii_alphanumeric (λ ds. x.name_or_keyword ds (reserved ds)) (list_all is_ascii_alphanumeric cs) c cs rest t refl e
    (λ g. name_halts (c ∷ cs) rest (reserved (c ∷ cs)) (ap (λ u. ends_before u rest) g ∙ k))
by_class false true n q c cs rest t e k = zero_alone cs t e
by_class false false true q c cs rest t e k =
    run is_ascii_digit (λ ds. token.Number (x.number_value ds)) (list_all is_ascii_digit cs) c cs rest t refl e
    (λ g. number_halts (x.number_value (c ∷ cs)) rest (ap (λ u. ends_before u rest) g ∙ k))
by_class false false false true c cs rest t e k = text (literal_value cs) cs rest t refl e
by_class false false false false c cs rest t e k = signs c cs rest t e k

found_whole : (w rest : List ℕ) (t : Token) → x.whole_token w ≡ Some t → ends_before t rest ≡ true → s.token_found (w ++ rest) ≡ Some (t, length w)
found_whole [] rest t e k = absurd (never e)
found_whole (c ∷ cs) rest t e k = by_class (is_ascii_alphabetic c) (c == 48) (is_ascii_digit c) (c == 34) c cs rest t e k

pub longest : (w rest : List ℕ) (t : Token) → x.whole_token w ≡ Some t → ends_before t rest ≡ true → x.IsLongest (w ++ rest) t (length w)
longest w rest t e k = let P : s.FoundToken → Type 0 = λ f. s.FindsLongest (w ++ rest) f in subst P (found_whole w rest t e k) (scans (w ++ rest))
