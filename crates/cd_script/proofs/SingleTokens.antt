-- A text has one list of tokens.
use Rattle.std.proofs.Common.{◌≡◌, ℕ, zero, suc, ◌+◌, ◌<◌, Bool, true, false, List, [], ◌∷◌, take, drop, None, Some, Ok, Err, inl, inr, refl, ap, sym, ◌∙◌, subst, arith, length-drop}
use Rattle.std.proofs.lemmas.Bool.{cases_lt}
use Rattle.cd_elem.specs.declared.script.Stmt.{Stmt}
use Rattle.cd_elem.specs.declared.token.Token.{Token}
use Rattle.cd_elem.specs.declared.token.Lexeme.{Lexeme}
use Rattle.cd_script.specs.declared.refusal.ScriptRefusal.TheVariants.{Syntax, Limit, NoMemory}
use Rattle.cd_grammar.specs.Grammar.{IsScript}
use Rattle.cd_grammar.specs.Limits.{IsWithinLimits}
use Rattle.cd_grammar.specs.Refusals.{tokens, IsText}
use Rattle.cd_script.specs.Answers.{Answer, AnswersTokens, Parses, AnswersOnly}
use Rattle.cd_grammar.specs.Tokens.{IsLongest, HasNoToken, whole_token}
use Rattle.cd_grammar.specs.Lexemes.{Lexes, Tokenizes, IsNext, Stops, is_zero}

apart : {A : Type 0} {x : A} → None ≡ Some x → ⊥
apart e = cc

positive : (xs : List ℕ) (t : Token) (size : ℕ) → whole_token (take size xs) ≡ Some t → 0 < size
positive xs t zero e = let f : ⊥ = cc in absurd f
positive xs t (suc n) e = omega arith

no_longer : (xs : List ℕ) (t u : Token) (m n : ℕ) → IsLongest xs t m → IsLongest xs u n → m < n → ⊥
no_longer xs t u m n a b h = apart (sym (a.longest n h b.within) ∙ b.token)

same_size : (xs : List ℕ) (t u : Token) (m n : ℕ) → IsLongest xs t m → IsLongest xs u n → m ≡ n
same_size xs t u m n a b =
    elim (cases_lt m n) [
      | inl h ↦ absurd (no_longer xs t u m n a b h)
      | inr h ↦ elim (cases_lt n m) [ inl k ↦ absurd (no_longer xs u t n m b a k) | inr k ↦ omega (arith, h, k) ]
    ]

same_some : {A : Type 0} {x y : A} → Some x ≡ Some y → x ≡ y
same_some e = cc

same_token : (xs : List ℕ) (t u : Token) (m n : ℕ) → IsLongest xs t m → IsLongest xs u n → t ≡ u
same_token xs t u m n a b =
    let e = same_size xs t u m n a b in
    same_some (sym a.token ∙ ap (λ k. whole_token (take k xs)) e ∙ b.token)

-- where the tokens stop there is no next one
no_next : (text : List ℕ) (at : ℕ) (z : Bool) (stop : ℕ) (w : Bool) (l : Lexeme) (size : ℕ) → Stops text at z stop w → IsNext text at z l size → ⊥
no_next text at z stop true l size s n =
    let p = positive (drop l.at text) l.token size n.longest.token in
    let d = length-drop l.at text in
    let a = n.place in
    let b = s.place in
    let e = s.ends refl in
    let k = n.longest.within in
    omega (arith, p, d, a, b, e, k)
no_next text at z stop false l size s n =
    elim (s.none refl).1 [
      | inl g ↦ let e : true ≡ false = sym g ∙ n.apart in let f : ⊥ = cc in f
      | inr h ↦
          let P : ℕ → Type 0 = λ k. HasNoToken (drop k text) in
          apart (sym ((subst P (s.place ∙ sym n.place) h) size) ∙ n.longest.token)
    ]

record Same (ls ks : List Lexeme) (w v : Bool) : Type 0 where
  lexemes : ls ≡ ks
  whole : w ≡ v

same_end : (text : List ℕ) (at : ℕ) (z : Bool) (stop rest : ℕ) (w v : Bool) → Stops text at z stop w → Stops text at z rest v → w ≡ v
same_end text at z stop rest true true s r = refl
same_end text at z stop rest false false s r = refl
same_end text at z stop rest true false s r = absurd (omega (arith, s.place, r.place, s.ends refl, (r.none refl).0))
same_end text at z stop rest false true s r = absurd (omega (arith, s.place, r.place, r.ends refl, (s.none refl).0))

same : (ls ks : List Lexeme) (text : List ℕ) (at : ℕ) (z : Bool) (stop rest : ℕ) (w v : Bool) → Lexes text at z ls stop w → Lexes text at z ks rest v → Same ls ks w v
same [] [] text at z stop rest w v a b = record { lexemes = refl; whole = same_end text at z stop rest w v a b }
same [] (k ∷ ks) text at z stop rest w v a b = absurd (no_next text at z stop w k b.0 a b.1)
same (l ∷ ls) [] text at z stop rest w v a b = absurd (no_next text at z rest v l a.0 b a.1)
same (l ∷ ls) (k ∷ ks) text at z stop rest w v a b =
    let e : l.at ≡ k.at = a.1.place ∙ sym b.1.place in
    let Q : ℕ → Type 0 = λ i. IsLongest (drop i text) l.token a.0 in
    let m = subst Q e a.1.longest in
    let t = same_token (drop k.at text) l.token k.token a.0 b.0 m b.1.longest in
    let s = same_size (drop k.at text) l.token k.token a.0 b.0 m b.1.longest in
    let f : l.at + a.0 ≡ k.at + b.0 = omega (arith, e, s) in
    let P : ℕ → Type 0 = λ i. Lexes text i (is_zero l.token) ls stop w in
    let R : Token → Type 0 = λ u. Lexes text (k.at + b.0) (is_zero u) ls stop w in
    let r = same ls ks text (k.at + b.0) (is_zero k.token) stop rest w v (subst R t (subst P f a.2)) b.2 in
    let x : l ≡ k = ap (λ u. record { token = u; at = l.at }) t ∙ ap (λ i. record { token = k.token; at = i }) e in
    record { lexemes = cc (r.lexemes, x); whole = r.whole }

ends_whole : (text : List ℕ) (ls : List Lexeme) (stop : ℕ) (w : Bool) (tree : List Stmt) → Tokenizes text ls stop w → w ≡ true
    → IsScript (tokens ls) tree → IsWithinLimits (tokens ls) → IsText text tree
ends_whole text ls stop true tree l e s k = record { lexemes = ls; stop = stop; lexes = l; script = s; within = k }
ends_whole text ls stop false tree l e s k = let f : ⊥ = cc in absurd f

pub parses : (text : List ℕ) (ls : List Lexeme) (stop : ℕ) (w : Bool) (r : Answer) → Tokenizes text ls stop w → AnswersTokens ls w stop r → Parses text r
parses text ls stop w (Ok tree) l a = ends_whole text ls stop w tree l a.0 a.1 a.2
parses text ls stop w (Err (Syntax at)) l a = record { lexemes = ls; stop = stop; whole = w; lexes = l; refused = a }
parses text ls stop w (Err (Limit which at)) l a = record { lexemes = ls; stop = stop; whole = w; lexes = l; refused = a }
parses text ls stop w (Err NoMemory) l a = tt

pub gives : (text : List ℕ) (ls : List Lexeme) (stop : ℕ) (w : Bool) (r : Answer) → Tokenizes text ls stop w
    → ((tree : List Stmt) → w ≡ true → IsScript (tokens ls) tree → IsWithinLimits (tokens ls) → AnswersOnly tree r)
    → (tree : List Stmt) → IsText text tree → AnswersOnly tree r
gives text ls stop w r l h tree t =
    let s = same ls t.lexemes text 0 false stop t.stop w true l t.lexes in
    let P : List Lexeme → Type 0 = λ ks. IsScript (tokens ks) tree in
    let Q : List Lexeme → Type 0 = λ ks. IsWithinLimits (tokens ks) in
    h tree s.whole (subst P (sym s.lexemes) t.script) (subst Q (sym s.lexemes) t.within)
