-- The tokens of each form of a pipe, and when it is in range.
use Rattle.std.proofs.Common.{◌≡◌, ℕ, Bool, true, ◌&&◌, Some, List, [], ◌∷◌, ◌++◌, map, refl, ap, sym, ◌∙◌, append_assoc}
use Rattle.std.specs.List.{list_all}
use Rattle.cd_elem.specs.declared.script.Join.{Join}
use Rattle.cd_elem.specs.declared.script.Pipe.{Pipe, map-Pipe}
use Rattle.cd_elem.specs.declared.script.Pipe.TheVariants as pipe
use Rattle.cd_elem.specs.declared.script.Pipe.TheOpen.{Pipe-F}
use Rattle.cd_elem.specs.declared.script.Pipe.TheViews.{out-Pipe, roll-Pipe}
use Rattle.cd_elem.specs.declared.script.Pipe.TheFolds.{fold-roll-Pipe, fold_out-Pipe}
use Rattle.cd_elem.specs.declared.token.Section.TheVariants as section
use Rattle.cd_elem.specs.declared.token.Zip.TheVariants as zip
use Rattle.cd_elem.specs.declared.token.Keyword.TheVariants as keyword
use Rattle.cd_elem.specs.declared.token.Sign.TheVariants as sign
use Rattle.cd_elem.specs.declared.token.Token.{Token}
use Rattle.cd_elem.specs.declared.token.Token.TheVariants as token
use Rattle.cd_elem.specs.declared.word.Word.{Word}
use Rattle.cd_grammar.specs.Canonical.{PipeTokens, wrapped, braced, in_parens, pair, canonical_pipe, canonical_step, is_proper, proper_step}
use Rattle.cd_grammar.specs.CanonicalWords.{separated, canonical_word}
use Rattle.cd_grammar.specs.Grammar.{operator}
use Rattle.cd_script.specs.Ranges.{is_in_range, range_step, word as word_in_range}

pub piece-roll : (x : Pipe-F Pipe) → canonical_pipe (roll-Pipe x) ≡ canonical_step (map-Pipe Pipe PipeTokens canonical_pipe x)
unfolding canonical_pipe
piece-roll x = fold-roll-Pipe PipeTokens canonical_step x

pub piece-out : (p : Pipe) → canonical_pipe p ≡ canonical_step (map-Pipe Pipe PipeTokens canonical_pipe (out-Pipe p))
unfolding canonical_pipe
piece-out p = fold_out-Pipe PipeTokens canonical_step p

pub proper-roll : (x : Pipe-F Pipe) → is_proper (roll-Pipe x) ≡ proper_step (map-Pipe Pipe Bool is_proper x)
unfolding is_proper
proper-roll x = fold-roll-Pipe Bool proper_step x

pub range-roll : (x : Pipe-F Pipe) → is_in_range (roll-Pipe x) ≡ range_step (map-Pipe Pipe Bool is_in_range x)
unfolding is_in_range
range-roll x = fold-roll-Pipe Bool range_step x

pub all-map : {A : Type 0} (f : A → Bool) (xs : List A) → list_all (λ b. b) (map f xs) ≡ list_all f xs
all-map f [] = refl
all-map f (x ∷ xs) = ap (λ b. f x && b) (all-map f xs)

map-both : {A B C : Type 0} (f : A → B) (k : B → C) (xs : List A) → map k (map f xs) ≡ map (λ x. k (f x)) xs
map-both f k [] = refl
map-both f k (x ∷ xs) = ap (λ ys. k (f x) ∷ ys) (map-both f k xs)

-- The tokens of each form.
tokens-roll : (x : Pipe-F Pipe) (p : Pipe) → roll-Pipe x ≡ p → (canonical_pipe p).tokens ≡ (canonical_step (map-Pipe Pipe PipeTokens canonical_pipe x)).tokens
tokens-roll x p e = ap (λ q. (canonical_pipe q).tokens) (sym e) ∙ ap (λ q. q.tokens) (piece-roll x)

pub tokens-Word : (w : Word) → (canonical_pipe (pipe.Word w)).tokens ≡ canonical_word w
tokens-Word w = tokens-roll _ _ (pipe.rolls-Word w)

pub tokens-Chain : (j : Join) (ps : List Pipe) → (canonical_pipe (pipe.Chain j ps)).tokens ≡ separated (operator j) (map (λ p. wrapped (canonical_pipe p)) ps)
tokens-Chain j ps = tokens-roll _ _ (pipe.rolls-Chain j ps) ∙ ap (separated (operator j)) (map-both canonical_pipe wrapped ps)

pub tokens-Sequence : (ps : List Pipe) → (canonical_pipe (pipe.Sequence ps)).tokens ≡ braced (separated (token.Sign sign.Semicolon) (map (λ p. (canonical_pipe p).tokens) ps))
tokens-Sequence ps = tokens-roll _ _ (pipe.rolls-Sequence ps) ∙ ap (λ ts. braced (separated (token.Sign sign.Semicolon) ts)) (map-both canonical_pipe (λ p. p.tokens) ps)

pub tokens-Exactly : (n : ℕ) (p : Pipe)
    → (canonical_pipe (pipe.Exactly n p)).tokens ≡ token.Word (keyword.Section section.Exactly) ∷ token.Number (Some n) ∷ braced (canonical_pipe p).tokens
tokens-Exactly n p = tokens-roll _ _ (pipe.rolls-Exactly n p)

pub tokens-ExactlyE : (n : ℕ) (p : Pipe)
    → (canonical_pipe (pipe.ExactlyE n p)).tokens ≡ token.Word (keyword.Section section.ExactlyE) ∷ token.Number (Some n) ∷ braced (canonical_pipe p).tokens
tokens-ExactlyE n p = tokens-roll _ _ (pipe.rolls-ExactlyE n p)

pub tokens-LineE : (p : Pipe) → (canonical_pipe (pipe.LineE p)).tokens ≡ token.Word keyword.LineE ∷ braced (canonical_pipe p).tokens
tokens-LineE p = tokens-roll _ _ (pipe.rolls-LineE p)

pub tokens-Mark : (s : List ℕ) (p : Pipe) → (canonical_pipe (pipe.Mark s p)).tokens ≡ token.Word keyword.Mark ∷ token.Text s ∷ braced (canonical_pipe p).tokens
tokens-Mark s p = tokens-roll _ _ (pipe.rolls-Mark s p)

pub tokens-Tee : (p : Pipe) → (canonical_pipe (pipe.Tee p)).tokens ≡ token.Word keyword.Tee ∷ in_parens (canonical_pipe p).tokens
tokens-Tee p = tokens-roll _ _ (pipe.rolls-Tee p)

pub tokens-ZipSource : (p q : Pipe) (s : List ℕ)
    → (canonical_pipe (pipe.ZipSource p q s)).tokens ≡ token.Word (keyword.Zip zip.Source) ∷ in_parens (pair (canonical_pipe p) (canonical_pipe q) ++ token.Sign sign.Comma ∷ token.Text s ∷ [])
tokens-ZipSource p q s = tokens-roll _ _ (pipe.rolls-ZipSource p q s)

regroup : (base z xs m ys n t u : List Token) → base ++ (z ++ xs) ++ m ++ ys ++ n ++ t ++ u ≡ base ++ (z ++ (xs ++ (m ++ ys) ++ (n ++ t) ++ u))
regroup base z xs m ys n t u = simp append_assoc

-- these tokens with those of a `zipSource`, where a, b and d are each one step further
pub zip_source-behind : (base a b d : List Token) (w p q first second : Pipe) (s : List ℕ) → w ≡ pipe.ZipSource p q s → first ≡ p → second ≡ q
    → a ≡ base ++ token.Word (keyword.Zip zip.Source) ∷ token.Sign sign.OpenParen ∷ (canonical_pipe first).tokens ++ token.Sign sign.Comma ∷ []
    → b ≡ a ++ (canonical_pipe second).tokens ++ token.Sign sign.Comma ∷ [] → d ≡ b ++ token.Text s ∷ []
    → d ++ token.Sign sign.CloseParen ∷ [] ≡ base ++ (canonical_pipe w).tokens
zip_source-behind base a b d w p q first second s e f h i j k =
    rw (k, j, i, f, h, e, tokens-ZipSource p q s)
    (regroup base (token.Word (keyword.Zip zip.Source) ∷ token.Sign sign.OpenParen ∷ []) (canonical_pipe p).tokens (token.Sign sign.Comma ∷ [])
    (canonical_pipe q).tokens (token.Sign sign.Comma ∷ []) (token.Text s ∷ []) (token.Sign sign.CloseParen ∷ []))

pub tokens-ZipSink : (p q : Pipe) → (canonical_pipe (pipe.ZipSink p q)).tokens ≡ token.Word (keyword.Zip zip.Sink) ∷ in_parens (pair (canonical_pipe p) (canonical_pipe q))
tokens-ZipSink p q = tokens-roll _ _ (pipe.rolls-ZipSink p q)

pub tokens-ZipConduit : (p q : Pipe) → (canonical_pipe (pipe.ZipConduit p q)).tokens ≡ token.Word (keyword.Zip zip.Conduit) ∷ in_parens (pair (canonical_pipe p) (canonical_pipe q))
tokens-ZipConduit p q = tokens-roll _ _ (pipe.rolls-ZipConduit p q)

pub wrapped-Chain : (j : Join) (ps : List Pipe)
    → wrapped (canonical_pipe (pipe.Chain j ps)) ≡ token.Sign sign.OpenParen ∷ (canonical_pipe (pipe.Chain j ps)).tokens ++ token.Sign sign.CloseParen ∷ []
wrapped-Chain j ps =
    let e : (canonical_pipe (pipe.Chain j ps)).is_chain ≡ true = ap (λ q. (canonical_pipe q).is_chain) (sym (pipe.rolls-Chain j ps)) ∙ ap (λ q. q.is_chain) (piece-roll _) in
    rw e refl

-- Which forms are in range.
range-of : (x : Pipe-F Pipe) (p : Pipe) → roll-Pipe x ≡ p → is_in_range p ≡ range_step (map-Pipe Pipe Bool is_in_range x)
range-of x p e = ap is_in_range (sym e) ∙ range-roll x

pub range-Word : (w : Word) → is_in_range (pipe.Word w) ≡ word_in_range w
range-Word w = range-of _ _ (pipe.rolls-Word w)

pub range-Chain : (j : Join) (ps : List Pipe) → is_in_range (pipe.Chain j ps) ≡ list_all is_in_range ps
range-Chain j ps = range-of _ _ (pipe.rolls-Chain j ps) ∙ all-map is_in_range ps

pub range-Sequence : (ps : List Pipe) → is_in_range (pipe.Sequence ps) ≡ list_all is_in_range ps
range-Sequence ps = range-of _ _ (pipe.rolls-Sequence ps) ∙ all-map is_in_range ps

pub range-Exactly : (n : ℕ) (p : Pipe) → is_in_range (pipe.Exactly n p) ≡ is_in_range p
range-Exactly n p = range-of _ _ (pipe.rolls-Exactly n p)

pub range-ExactlyE : (n : ℕ) (p : Pipe) → is_in_range (pipe.ExactlyE n p) ≡ is_in_range p
range-ExactlyE n p = range-of _ _ (pipe.rolls-ExactlyE n p)

pub range-LineE : (p : Pipe) → is_in_range (pipe.LineE p) ≡ is_in_range p
range-LineE p = range-of _ _ (pipe.rolls-LineE p)

pub range-Mark : (s : List ℕ) (p : Pipe) → is_in_range (pipe.Mark s p) ≡ is_in_range p
range-Mark s p = range-of _ _ (pipe.rolls-Mark s p)

pub range-Tee : (p : Pipe) → is_in_range (pipe.Tee p) ≡ is_in_range p
range-Tee p = range-of _ _ (pipe.rolls-Tee p)

pub range-ZipSource : (p q : Pipe) (s : List ℕ) → is_in_range (pipe.ZipSource p q s) ≡ (is_in_range p && is_in_range q)
range-ZipSource p q s = range-of _ _ (pipe.rolls-ZipSource p q s)

pub range-ZipSink : (p q : Pipe) → is_in_range (pipe.ZipSink p q) ≡ (is_in_range p && is_in_range q)
range-ZipSink p q = range-of _ _ (pipe.rolls-ZipSink p q)

pub range-ZipConduit : (p q : Pipe) → is_in_range (pipe.ZipConduit p q) ≡ (is_in_range p && is_in_range q)
range-ZipConduit p q = range-of _ _ (pipe.rolls-ZipConduit p q)
