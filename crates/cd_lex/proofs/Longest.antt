-- What the scanner finds is the longest token.
use Rattle.std.proofs.Common.{◌≡◌, ℕ, zero, suc, ◌+◌, ◌≤◌, ◌<◌, Bool, true, false, ◌&&◌, ◌==◌, if◌then◌else◌, cond, List, [], ◌∷◌, length, take, Option, Some, None, Result, Ok, Err, IfOk, subst, refl, ap, sym, ◌∙◌, arith, add-one}
use Rattle.std.specs.List.{list_all, prefix_len}
use Rattle.std.specs.Char.{is_ascii_alphabetic, is_ascii_alphanumeric, is_ascii_digit}
use Rattle.std.proofs.lemmas.List.Sums.{prefix_len-le-length}
use Rattle.cd_elem.specs.declared.script.Join.TheVariants as join
use Rattle.cd_elem.specs.declared.token.Token.{Token}
use Rattle.cd_elem.specs.declared.token.Token.TheVariants as token
use Rattle.cd_elem.specs.declared.token.Sign.{Sign}
use Rattle.cd_elem.specs.declared.token.Sign.TheVariants as sign
use Rattle.cd_grammar.specs.Literals.{literal_value}
use Rattle.cd_grammar.specs.Keywords.{reserved}
use Rattle.cd_grammar.specs.Tokens as x
use Rattle.cd_lex.specs.Quotes.{literal_from, plain, literal_found, literal_token}
use Rattle.cd_lex.proofs.Closing.{ScanOk, inside_ok}
use Rattle.cd_lex.specs.LongestToken as s

module _ (p : ℕ → Bool) where
  passes-more : (b : Bool) (c : ℕ) (cs : List ℕ) → p c ≡ b → list_all p (take (prefix_len p cs) cs) ≡ true
      → list_all p (take (cond b (1 + prefix_len p cs) 0) (c ∷ cs)) ≡ true
  passes-more true c cs e h = let f : 1 + prefix_len p cs ≡ suc (prefix_len p cs) = omega arith in rw (f, e) h
  passes-more false c cs e h = refl

  front-passes : (cs : List ℕ) → list_all p (take (prefix_len p cs) cs) ≡ true
  front-passes [] = refl
  front-passes (c ∷ cs) = passes-more (p c) c cs refl (front-passes cs)

  fails-more : (b : Bool) (c : ℕ) (cs : List ℕ) (k : ℕ) → p c ≡ b → (prefix_len p cs < k → list_all p (take k cs) ≡ false)
      → cond b (1 + prefix_len p cs) 0 < suc k → (p c && list_all p (take k cs)) ≡ false
  fails-more true c cs k e h l = rw e (h (omega arith))
  fails-more false c cs k e h l = rw e refl

  longer-fails : (cs : List ℕ) (k : ℕ) → k ≤ length cs → prefix_len p cs < k → list_all p (take k cs) ≡ false
  longer-fails [] k l h = absurd (omega arith)
  longer-fails (c ∷ cs) zero l h = absurd (omega arith)
  longer-fails (c ∷ cs) (suc k) l h = fails-more (p c) c cs k refl (longer-fails cs k (omega arith)) h

  -- a token that goes on as far as its bytes pass
  run : (f : List ℕ → Token) (c : ℕ) (cs : List ℕ) → ((ds : List ℕ) → x.whole_token (c ∷ ds) ≡ (if list_all p ds then Some (f (c ∷ ds)) else None))
      → x.IsLongest (c ∷ cs) (f (take (suc (prefix_len p cs)) (c ∷ cs))) (suc (prefix_len p cs))
  run f c cs h = record {
    within = omega (arith, prefix_len-le-length p cs);
    token = h (take (prefix_len p cs) cs) ∙ ap (λ b. if b then Some (f (c ∷ take (prefix_len p cs) cs)) else None) (front-passes cs);
    longest = longer c cs h;
  } where
    longer : (c : ℕ) (cs : List ℕ) → ((ds : List ℕ) → x.whole_token (c ∷ ds) ≡ (if list_all p ds then Some (f (c ∷ ds)) else None))
        → (m : ℕ) → suc (prefix_len p cs) < m → m ≤ length (c ∷ cs) → x.whole_token (take m (c ∷ cs)) ≡ None
    longer c cs h zero l k = absurd (omega arith)
    longer c cs h (suc m) l k = h (take m cs) ∙ ap (λ b. if b then Some (f (c ∷ take m cs)) else None) (longer-fails cs m (omega arith) (omega arith))

-- a zero goes on no further
zero_alone : (c : ℕ) (cs : List ℕ) → ((ds : List ℕ) → x.whole_token (c ∷ ds) ≡ (if x.is_empty ds then Some (token.Number (Some 0)) else None))
    → x.IsLongest (c ∷ cs) (token.Number (Some 0)) 1
zero_alone c cs h = record { within = omega arith; token = h []; longest = longer cs } where
  longer : (cs : List ℕ) (m : ℕ) → 1 < m → m ≤ length (c ∷ cs) → x.whole_token (take m (c ∷ cs)) ≡ None
  longer cs zero l k = absurd (omega arith)
  longer cs (suc zero) l k = absurd (omega arith)
  longer [] (suc (suc m)) l k = absurd (omega arith)
  longer (d ∷ cs) (suc (suc m)) l k = h (d ∷ take m cs)

-- signs
module _ (c : ℕ) (h : (ds : List ℕ) → x.whole_token (c ∷ ds) ≡ x.sign_token (x.whole_sign (c ∷ ds))) where
  lone : (o : Option Sign) → x.one_sign c ≡ o → s.FindsLongest (c ∷ []) (s.sign_of_size 1 o)
  lone None e = none where
    none : x.HasNoToken (c ∷ [])
    none zero = refl
    none (suc zero) = h [] ∙ ap x.sign_token e
    none (suc (suc m)) = h [] ∙ ap x.sign_token e
  lone (Some t) e = record { within = omega arith; token = h [] ∙ ap x.sign_token e; longest = λ m l k. absurd (omega (arith, l, k)) }

  third : (d : ℕ) (ds : List ℕ) (m : ℕ) → suc (suc (suc m)) ≤ length (c ∷ d ∷ ds) → x.whole_token (take (suc (suc (suc m))) (c ∷ d ∷ ds)) ≡ None
  third d [] m k = absurd (omega arith)
  third d (e ∷ ds) m k = h (d ∷ e ∷ take m ds)

  second : (d : ℕ) (ds : List ℕ) → x.whole_sign (c ∷ d ∷ []) ≡ None → (m : ℕ) → 1 < m → m ≤ length (c ∷ d ∷ ds) → x.whole_token (take m (c ∷ d ∷ ds)) ≡ None
  second d ds e zero l k = absurd (omega arith)
  second d ds e (suc zero) l k = absurd (omega arith)
  second d ds e (suc (suc zero)) l k = h (d ∷ []) ∙ ap x.sign_token e
  second d ds e (suc (suc (suc m))) l k = third d ds m k

  no_third : (d : ℕ) (ds : List ℕ) (m : ℕ) → x.whole_sign (c ∷ d ∷ []) ≡ None → x.whole_token (take (suc (suc (suc m))) (c ∷ d ∷ ds)) ≡ None
  no_third d [] m e = h (d ∷ []) ∙ ap x.sign_token e
  no_third d (f ∷ ds) m e = h (d ∷ f ∷ take m ds)

  none_at : (d : ℕ) (ds : List ℕ) → x.one_sign c ≡ None → x.whole_sign (c ∷ d ∷ []) ≡ None → x.HasNoToken (c ∷ d ∷ ds)
  none_at d ds e f zero = refl
  none_at d ds e f (suc zero) = h [] ∙ ap x.sign_token e
  none_at d ds e f (suc (suc zero)) = h (d ∷ []) ∙ ap x.sign_token f
  none_at d ds e f (suc (suc (suc m))) = no_third d ds m f

  after_two : (d : ℕ) (ds : List ℕ) (m : ℕ) → 2 < m → m ≤ length (c ∷ d ∷ ds) → x.whole_token (take m (c ∷ d ∷ ds)) ≡ None
  after_two d ds zero l k = absurd (omega arith)
  after_two d ds (suc zero) l k = absurd (omega arith)
  after_two d ds (suc (suc zero)) l k = absurd (omega arith)
  after_two d ds (suc (suc (suc m))) l k = third d ds m k

  barred : (d : ℕ) (ds : List ℕ) (o : Option Sign) → x.one_sign c ≡ Some (sign.Operator join.Plain) → x.whole_sign (c ∷ d ∷ []) ≡ o → s.FindsLongest (c ∷ d ∷ ds) (s.bar_found o)
  barred d ds None e f = record { within = omega arith; token = h [] ∙ ap x.sign_token e; longest = second d ds f }
  barred d ds (Some t) e f = record { within = omega arith; token = h (d ∷ []) ∙ ap x.sign_token f; longest = after_two d ds }

  unbarred : (d : ℕ) (ds : List ℕ) (o : Option Sign) → x.one_sign c ≡ o → x.whole_sign (c ∷ d ∷ []) ≡ None → s.FindsLongest (c ∷ d ∷ ds) (s.sign_of_size 1 o)
  unbarred d ds None e f = none_at d ds e f
  unbarred d ds (Some t) e f = record { within = omega arith; token = h [] ∙ ap x.sign_token e; longest = second d ds f }

  by_bar : (b : Bool) (d : ℕ) (ds : List ℕ) → (c == 124) ≡ b → s.FindsLongest (c ∷ d ∷ ds) (if b then s.bar_found (x.bar_sign d) else s.sign_of_size 1 (x.one_sign c))
  by_bar true d ds e = barred d ds (x.bar_sign d) (rw e refl) (rw e refl)
  by_bar false d ds e = unbarred d ds (x.one_sign c) refl (rw e refl)

  signs : (cs : List ℕ) → s.FindsLongest (c ∷ cs) (s.sign_found c cs)
  signs [] = lone (x.one_sign c) refl
  signs (d ∷ ds) = by_bar (c == 124) d ds refl

-- literals
text : (c : ℕ) (cs : List ℕ) (o : Option (List ℕ × ℕ)) → ((ds : List ℕ) → x.whole_token (c ∷ ds) ≡ x.text_token (literal_value ds)) → ScanOk literal_value cs o → s.FindsLongest (c ∷ cs) (literal_token o)
text c cs None h a = none where
  none : s.FindsLongest (c ∷ cs) None
  none zero = refl
  none (suc m) = h (take m cs) ∙ ap x.text_token (a m)
text c cs (Some f) h a = record {
  within = omega (arith, a.within);
  token = rw (add-one f.1) (h (take f.1 cs) ∙ ap x.text_token a.value);
  longest = longer;
} where
  longer : (m : ℕ) → f.1 + 1 < m → m ≤ length (c ∷ cs) → x.whole_token (take m (c ∷ cs)) ≡ None
  longer zero l k = absurd (omega arith)
  longer (suc m) l k = h (take m cs) ∙ ap x.text_token (a.longer m (omega arith) (omega arith))

by_class : (a z n q : Bool) (c : ℕ) (cs : List ℕ) → is_ascii_alphabetic c ≡ a → (c == 48) ≡ z → is_ascii_digit c ≡ n → (c == 34) ≡ q
    → s.FindsLongest (c ∷ cs) (if a then s.name_found (c ∷ cs) (suc (prefix_len is_ascii_alphanumeric cs))
    else (if z then Some (token.Number (Some 0), 1)
    else (if n then s.number_found (c ∷ cs) (suc (prefix_len is_ascii_digit cs))
    else (if q then literal_found cs else s.sign_found c cs))))
by_class true z n q c cs e f g k = run is_ascii_alphanumeric (λ ds. x.name_or_keyword ds (reserved ds)) c cs (λ ds. rw e refl)
by_class false true n q c cs e f g k = zero_alone c cs (λ ds. rw (e, f) refl)
by_class false false true q c cs e f g k = run is_ascii_digit (λ ds. token.Number (x.number_value ds)) c cs (λ ds. rw (e, f, g) refl)
by_class false false false true c cs e f g k = text c cs (literal_from plain cs) (λ ds. rw (e, f, g, k) refl) (inside_ok cs)
by_class false false false false c cs e f g k = signs c (λ ds. rw (e, f, g, k) refl) cs

-- what is found is the longest token, and nothing is found only where there is no token
pub scans : (text : List ℕ) → s.FindsLongest text (s.token_found text)
scans [] = none where
  none : x.HasNoToken []
  none zero = refl
  none (suc m) = refl
scans (c ∷ cs) = by_class (is_ascii_alphabetic c) (c == 48) (is_ascii_digit c) (c == 34) c cs refl refl refl refl

pub scans_ok : {E : Type 0} (text : List ℕ) (r : Result s.FoundToken E) → IfOk r (λ f. f ≡ s.token_found text) → IfOk r (λ f. s.FindsLongest text f)
scans_ok text (Ok f) h = let P : s.FoundToken → Type 0 = λ g. s.FindsLongest text g in subst P (sym h) (scans text)
scans_ok text (Err e) h = tt
