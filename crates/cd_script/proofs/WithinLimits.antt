-- Tokens that pass no limit wherever others pass none.
use Rattle.std.proofs.Common.{◌≡◌, ℕ, ◌+◌, ◌-◌, ◌≤◌, false, List, [], ◌∷◌, ◌++◌, length, refl, ap, sym, ◌∙◌, subst, arith, length-append}
use Rattle.std.proofs.lemmas.List.Sums.{fold-append}
use Rattle.cd_elem.specs.declared.script.Join.{Join}
use Rattle.cd_elem.specs.declared.token.Keyword.{Keyword}
use Rattle.cd_elem.specs.declared.token.Sign.{Sign}
use Rattle.cd_elem.specs.declared.token.Sign.TheVariants as sign
use Rattle.cd_elem.specs.declared.token.Token.{Token}
use Rattle.cd_elem.specs.declared.token.Token.TheVariants as token
use Rattle.cd_grammar.specs.Limits.{Bounds, bounds_behind, brackets_with, brackets_with_sign, is_outside}
use Rattle.cd_script.proofs.LimitWalk.{Passes, Fits, brackets_behind, bounds_from, fewer_passes, fits_front, fits_behind, fits_append}

-- a token for another one, behind fewer tokens and open brackets; neither is a bracket
pub record Under (b b' : Bounds) (t u : Token) : Type 0 where
  pub passes : (c c' o o' : ℕ) → c' ≤ c → o' ≤ o → Passes c o b u → Passes c' o' b' t
  pub level : (o : ℕ) → brackets_with o t ≡ o
  pub level_other : (o : ℕ) → brackets_with o u ≡ o

-- the first tokens for the second ones, with each bracket that is opened closed
pub record Lighter (b b' : Bounds) (xs ys : List Token) : Type 0 where
  pub fits : (c c' o o' : ℕ) → c' ≤ c → o' ≤ o → Fits c o b ys → Fits c' o' b' xs
  pub short : length xs ≤ length ys
  pub level : (o : ℕ) → brackets_behind o xs ≡ o
  pub level_other : (o : ℕ) → brackets_behind o ys ≡ o

-- and behind any token
abbrev pub Anywhere : List Token → List Token → Type 0
Anywhere xs ys = (b b' : Bounds) → Lighter b b' xs ys

pub same_as : (xs xs' ys : List Token) → xs ≡ xs' → Anywhere xs' ys → Anywhere xs ys
same_as xs xs' ys e l = subst (λ (zs : List Token). Anywhere zs ys) (sym e) l

-- Tokens.
other_bounds : (c o : ℕ) (b b' : Bounds) (t : Token) → ((k : Bounds) → is_outside k t ≡ false) → Passes c o b t → Passes c o b' t
other_bounds c o b b' t h p = record { tokens = p.tokens; depth = p.depth; literal = p.literal; number = h b' }

stays : (b b' : Bounds) (t : Token) → ((k : Bounds) → is_outside k t ≡ false) → ((o : ℕ) → brackets_with o t ≡ o) → Under b b' t t
stays b b' t h l = record {
  passes = λ c c' o o' m n p. other_bounds c' o' b b' t h (fewer_passes c c' o o' b t m n p);
  level = l;
  level_other = l;
}

pub word : (b b' : Bounds) (k : Keyword) → Under b b' (token.Word k) (token.Word k)
word b b' k = stays b b' (token.Word k) (λ _. refl) (λ _. refl)

pub text : (b b' : Bounds) (s : List ℕ) → Under b b' (token.Text s) (token.Text s)
text b b' s = stays b b' (token.Text s) (λ _. refl) (λ _. refl)

pub named : (b b' : Bounds) (n : List ℕ) → Under b b' (token.Named n) (token.Named n)
named b b' n = stays b b' (token.Named n) (λ _. refl) (λ _. refl)

pub operator : (b b' : Bounds) (j : Join) → Under b b' (token.Sign (sign.Operator j)) (token.Sign (sign.Operator j))
operator b b' j = stays b b' (token.Sign (sign.Operator j)) (λ _. refl) (λ _. refl)

pub comma : (b b' : Bounds) → Under b b' (token.Sign sign.Comma) (token.Sign sign.Comma)
comma b b' = stays b b' (token.Sign sign.Comma) (λ _. refl) (λ _. refl)

pub semicolon : (b b' : Bounds) → Under b b' (token.Sign sign.Semicolon) (token.Sign sign.Semicolon)
semicolon b b' = stays b b' (token.Sign sign.Semicolon) (λ _. refl) (λ _. refl)

pub equals : (b b' : Bounds) → Under b b' (token.Sign sign.Equals) (token.Sign sign.Equals)
equals b b' = stays b b' (token.Sign sign.Equals) (λ _. refl) (λ _. refl)

-- Lists of tokens.
pub none : (b b' : Bounds) → Lighter b b' [] []
none b b' = record { fits = λ c c' o o' m n f. tt; short = omega arith; level = λ o. refl; level_other = λ o. refl }

pub more : (b b' : Bounds) (t u : Token) (xs ys : List Token) → Under b b' t u → Lighter (bounds_behind u) (bounds_behind t) xs ys → Lighter b b' (t ∷ xs) (u ∷ ys)
more b b' t u xs ys s l = record {
  fits = λ c c' o o' m n f.
      let k : brackets_with o' t ≤ brackets_with o u = rw (s.level, s.level_other) n in
      (s.passes c c' o o' m n f.0, l.fits (c + 1) (c' + 1) (brackets_with o u) (brackets_with o' t) (omega (arith, m)) k f.1);
  short = omega (arith, l.short);
  level = λ o. l.level (brackets_with o t) ∙ s.level o;
  level_other = λ o. l.level_other (brackets_with o u) ∙ s.level_other o;
}

pub one : (b b' : Bounds) (t u : Token) → Under b b' t u → Lighter b b' (t ∷ []) (u ∷ [])
one b b' t u s = more b b' t u [] [] s (none (bounds_behind u) (bounds_behind t))

level-append : (xs ys : List Token) (o : ℕ) → brackets_behind o xs ≡ o → brackets_behind o ys ≡ o → brackets_behind o (xs ++ ys) ≡ o
level-append xs ys o e f = fold-append brackets_with o xs ys ∙ ap (λ n. brackets_behind n ys) e ∙ f

pub both : (b b' : Bounds) (xs xs' ys ys' : List Token) → Lighter b b' xs ys → Anywhere xs' ys' → Lighter b b' (xs ++ xs') (ys ++ ys')
both b b' xs xs' ys ys' l r = record {
  fits = λ c c' o o' m n f.
      let k : brackets_behind o' xs ≤ brackets_behind o ys = rw (l.level, l.level_other) n in
      let s = l.short in
      fits_append c' o' b' xs xs' (l.fits c c' o o' m n (fits_front c o b ys ys' f))
      ((r (bounds_from b ys) (bounds_from b' xs)).fits (c + length ys) (c' + length xs) (brackets_behind o ys) (brackets_behind o' xs)
      (omega (arith, m, s)) k (fits_behind c o b ys ys' f));
  short =
      let s = l.short in
      let t = (r b b').short in
      simp length-append (omega (arith, s, t));
  level = λ o. level-append xs xs' o (l.level o) ((r b b').level o);
  level_other = λ o. level-append ys ys' o (l.level_other o) ((r b b').level_other o);
}

-- Brackets.
pub record Pairs (opening closing : Sign) : Type 0 where
  pub opens : (o : ℕ) → brackets_with_sign o opening ≡ o + 1
  pub closes : (o : ℕ) → brackets_with_sign o closing ≡ o - 1

pub parens : Pairs sign.OpenParen sign.CloseParen
parens = record { opens = λ o. refl; closes = λ o. refl }

pub braces : Pairs sign.OpenBrace sign.CloseBrace
braces = record { opens = λ o. refl; closes = λ o. refl }

pub squares : Pairs sign.OpenSquare sign.CloseSquare
squares = record { opens = λ o. refl; closes = λ o. refl }

abbrev pub inside : Sign → Sign → List Token → List Token
inside opening closing xs = token.Sign opening ∷ xs ++ token.Sign closing ∷ []

module _ (opening closing : Sign) (pair : Pairs opening closing) where
  level-inside : (xs : List Token) → ((o : ℕ) → brackets_behind o xs ≡ o) → (o : ℕ) → brackets_behind o (inside opening closing xs) ≡ o
  level-inside xs l o =
      let e : (o + 1) - 1 ≡ o = omega arith in
      fold-append brackets_with (brackets_with_sign o opening) xs (token.Sign closing ∷ [])
      ∙ ap (λ n. brackets_with_sign n closing) (l (brackets_with_sign o opening) ∙ pair.opens o) ∙ pair.closes (o + 1) ∙ e

  signed : (b b' : Bounds) (s : Sign) (c c' o o' : ℕ) → c' ≤ c → o' ≤ o → Passes c o b (token.Sign s) → Passes c' o' b' (token.Sign s)
  signed b b' s c c' o o' m n p = other_bounds c' o' b b' (token.Sign s) (λ _. refl) (fewer_passes c c' o o' b (token.Sign s) m n p)

  pub bracketed : (xs ys : List Token) → Anywhere xs ys → Anywhere (inside opening closing xs) (inside opening closing ys)
  bracketed xs ys l b b' =
      let d = bounds_behind (token.Sign opening) in
      let k = l d d in
      record {
        fits = λ c c' o o' m n f.
            let i : brackets_with_sign o' opening ≤ brackets_with_sign o opening = rw (pair.opens o', pair.opens o) (omega (arith, n)) in
            let j : brackets_behind (brackets_with_sign o' opening) xs ≤ brackets_behind (brackets_with_sign o opening) ys = rw (k.level, k.level_other) i in
            let s = k.short in
            let h : c' + 1 ≤ c + 1 = omega (arith, m) in (
              signed b b' opening c c' o o' m n f.0,
              fits_append (c' + 1) (brackets_with_sign o' opening) d xs (token.Sign closing ∷ [])
                  (k.fits (c + 1) (c' + 1) (brackets_with_sign o opening) (brackets_with_sign o' opening) h i (fits_front (c + 1) (brackets_with_sign o opening) d ys (token.Sign closing ∷ []) f.1)) (
                    signed (bounds_from d ys) (bounds_from d xs) closing (c + 1 + length ys) (c' + 1 + length xs) (brackets_behind (brackets_with_sign o opening) ys)
                        (brackets_behind (brackets_with_sign o' opening) xs) (omega (arith, m, s)) j
                        (fits_behind (c + 1) (brackets_with_sign o opening) d ys (token.Sign closing ∷ []) f.1).0,
                    tt,
                  ),
            );
        short = let s = k.short in simp length-append (omega (arith, s));
        level = level-inside xs k.level;
        level_other = level-inside ys k.level_other;
      }

  -- the brackets are left out
  pub unwrapped : (xs ys : List Token) → Anywhere xs ys → Anywhere xs (inside opening closing ys)
  unwrapped xs ys l b b' =
      let d = bounds_behind (token.Sign opening) in
      let k = l d b' in
      record {
        fits = λ c c' o o' m n f.
            let i : o' ≤ brackets_with_sign o opening = rw pair.opens (omega (arith, n)) in
            k.fits (c + 1) c' (brackets_with_sign o opening) o' (omega (arith, m)) i (fits_front (c + 1) (brackets_with_sign o opening) d ys (token.Sign closing ∷ []) f.1);
        short = let s = k.short in rw length-append (omega (arith, s));
        level = k.level;
        level_other = level-inside ys k.level_other;
      }
