-- The canonical tokens of a tree pass no limit where those of its derivation pass none.
use Rattle.std.proofs.Common.{◌≡◌, ℕ, Bool, true, false, if◌then◌else◌, List, [], ◌∷◌, ◌++◌, map, Option, Some, refl, ap, sym, ◌∙◌, subst, arith, append_assoc, append-nil}
use Rattle.std.proofs.lemmas.List.{map-append}
use Rattle.std.proofs.lemmas.Grind.{flat_map-append}
use Rattle.cd_elem.specs.declared.script.Join.{Join}
use Rattle.cd_elem.specs.declared.script.Join.TheVariants as join
use Rattle.cd_elem.specs.declared.script.Pipe.{Pipe, map-Pipe}
use Rattle.cd_elem.specs.declared.script.Pipe.TheVariants as pipe
use Rattle.cd_elem.specs.declared.script.Pipe.TheOpen.{Pipe-F}
use Rattle.cd_elem.specs.declared.script.Pipe.TheViews.{roll-Pipe}
use Rattle.cd_elem.specs.declared.script.Pipe.TheFolds.{fold-roll-Pipe}
use Rattle.cd_elem.specs.declared.script.Stmt.{Stmt}
use Rattle.cd_elem.specs.declared.token.Opening.TheVariants as opening
use Rattle.cd_elem.specs.declared.token.Section.{Section}
use Rattle.cd_elem.specs.declared.token.Section.TheVariants as section
use Rattle.cd_elem.specs.declared.token.Zip.{Zip}
use Rattle.cd_elem.specs.declared.token.Zip.TheVariants as zip
use Rattle.cd_elem.specs.declared.token.Keyword.TheVariants as keyword
use Rattle.cd_elem.specs.declared.token.Sign.TheVariants as sign
use Rattle.cd_elem.specs.declared.token.Token.{Token}
use Rattle.cd_elem.specs.declared.token.Token.TheVariants as token
use Rattle.cd_elem.specs.declared.word.Word.{Word}
use Rattle.cd_grammar.specs.Limits.{Bounds, bounds_behind, every_number, length_bounds, IsWithinLimits}
use Rattle.cd_grammar.specs.WordTrees as tree
use Rattle.cd_grammar.specs.Grammar as g
use Rattle.cd_grammar.specs.CanonicalWords.{canonical_word, separated}
use Rattle.cd_grammar.specs.Canonical.{PipeTokens, canonical_pipe, canonical_step, simple, wrapped, canonical_statement, canonical}
use Rattle.cd_script.proofs.LimitWalk.{walks, within}
use Rattle.cd_script.proofs.WithinLimits.{Under, Anywhere, same_as, word, text, named, operator, comma, semicolon, equals, none, more, one, both, parens, braces, inside, bracketed, unwrapped}
use Rattle.cd_script.proofs.WithinLimitsWords.{number, behind_word, no_end, separated_more, word_form}

-- The piece of each form.
piece-roll : (x : Pipe-F Pipe) → canonical_pipe (roll-Pipe x) ≡ canonical_step (map-Pipe Pipe PipeTokens canonical_pipe x)
unfolding canonical_pipe
piece-roll x = fold-roll-Pipe PipeTokens canonical_step x

piece-word : (w : Word) → canonical_pipe (pipe.Word w) ≡ simple (canonical_word w)
piece-word w = ap canonical_pipe (sym (pipe.rolls-Word w)) ∙ piece-roll _

piece-chain : (j : Join) (ps : List Pipe) → canonical_pipe (pipe.Chain j ps) ≡ canonical_step (Pipe-F.Chain j (map canonical_pipe ps))
piece-chain j ps = ap canonical_pipe (sym (pipe.rolls-Chain j ps)) ∙ piece-roll _

piece-sequence : (ps : List Pipe) → canonical_pipe (pipe.Sequence ps) ≡ canonical_step (Pipe-F.Sequence (map canonical_pipe ps))
piece-sequence ps = ap canonical_pipe (sym (pipe.rolls-Sequence ps)) ∙ piece-roll _

piece-exactly : (n : ℕ) (p : Pipe) → canonical_pipe (pipe.Exactly n p) ≡ canonical_step (Pipe-F.Exactly n (canonical_pipe p))
piece-exactly n p = ap canonical_pipe (sym (pipe.rolls-Exactly n p)) ∙ piece-roll _

piece-exactly_e : (n : ℕ) (p : Pipe) → canonical_pipe (pipe.ExactlyE n p) ≡ canonical_step (Pipe-F.ExactlyE n (canonical_pipe p))
piece-exactly_e n p = ap canonical_pipe (sym (pipe.rolls-ExactlyE n p)) ∙ piece-roll _

piece-line_e : (p : Pipe) → canonical_pipe (pipe.LineE p) ≡ canonical_step (Pipe-F.LineE (canonical_pipe p))
piece-line_e p = ap canonical_pipe (sym (pipe.rolls-LineE p)) ∙ piece-roll _

piece-mark : (s : List ℕ) (p : Pipe) → canonical_pipe (pipe.Mark s p) ≡ canonical_step (Pipe-F.Mark s (canonical_pipe p))
piece-mark s p = ap canonical_pipe (sym (pipe.rolls-Mark s p)) ∙ piece-roll _

piece-tee : (p : Pipe) → canonical_pipe (pipe.Tee p) ≡ canonical_step (Pipe-F.Tee (canonical_pipe p))
piece-tee p = ap canonical_pipe (sym (pipe.rolls-Tee p)) ∙ piece-roll _

piece-zip_source : (p q : Pipe) (s : List ℕ) → canonical_pipe (pipe.ZipSource p q s) ≡ canonical_step (Pipe-F.ZipSource (canonical_pipe p) (canonical_pipe q) s)
piece-zip_source p q s = ap canonical_pipe (sym (pipe.rolls-ZipSource p q s)) ∙ piece-roll _

piece-zip_sink : (p q : Pipe) → canonical_pipe (pipe.ZipSink p q) ≡ canonical_step (Pipe-F.ZipSink (canonical_pipe p) (canonical_pipe q))
piece-zip_sink p q = ap canonical_pipe (sym (pipe.rolls-ZipSink p q)) ∙ piece-roll _

piece-zip_conduit : (p q : Pipe) → canonical_pipe (pipe.ZipConduit p q) ≡ canonical_step (Pipe-F.ZipConduit (canonical_pipe p) (canonical_pipe q))
piece-zip_conduit p q = ap canonical_pipe (sym (pipe.rolls-ZipConduit p q)) ∙ piece-roll _

-- A piece as a pipe and as a member of a chain.
record Replaces (p : PipeTokens) (ys : List Token) : Type 0 where
  alone : Anywhere p.tokens ys
  member : Anywhere (wrapped p) ys

replaces : (p : PipeTokens) (xs ys : List Token) → p ≡ simple xs → Anywhere xs ys → Replaces p ys
replaces p xs ys e l = subst (λ (q : PipeTokens). Replaces q ys) (sym e) (record { alone = l; member = l })

-- a part in parentheses, which are left out where they are not needed
in_parens : (p : PipeTokens) (ys : List Token) → Anywhere p.tokens ys → Replaces p (inside sign.OpenParen sign.CloseParen ys)
in_parens p ys l = record { alone = unwrapped sign.OpenParen sign.CloseParen parens p.tokens ys l; member = member_of p.is_chain }
  where
    member_of : (chain : Bool) → Anywhere (if chain then inside sign.OpenParen sign.CloseParen p.tokens else p.tokens) (inside sign.OpenParen sign.CloseParen ys)
    member_of true = bracketed sign.OpenParen sign.CloseParen parens p.tokens ys l
    member_of false = unwrapped sign.OpenParen sign.CloseParen parens p.tokens ys l

-- Lists of pieces.
pub some_mapped : {A B : Type 0} (f : A → B) (xs : List A) → (xs ≡ [] → ⊥) → map f xs ≡ [] → ⊥
some_mapped f [] h e = h refl
some_mapped f (x ∷ xs) h e = cc

pub some_parts : (ps : g.PartsForm) → g.parts_trees ps ≡ [] → ⊥
some_parts (g.First p) e = cc
some_parts (g.Then ps p) e = no_end _ _ e

pub some_wholes : (ps : g.PipesForm) → g.pipes_trees ps ≡ [] → ⊥
some_wholes (g.Only p) e = cc
some_wholes (g.And ps p) e = no_end _ _ e

abbrev each : (PipeTokens → List Token) → List Pipe → List (List Token)
each f ps = map f (map canonical_pipe ps)

each-more : (f : PipeTokens → List Token) (ps : List Pipe) (p : Pipe) → each f (ps ++ p ∷ []) ≡ each f ps ++ f (canonical_pipe p) ∷ []
each-more f ps p = ap (map f) (map-append canonical_pipe ps (p ∷ [])) ∙ map-append f (map canonical_pipe ps) (canonical_pipe p ∷ [])

-- one more piece behind a sign
one_more : (f : PipeTokens → List Token) (t : Token) (ps : List Pipe) (p : Pipe) (xs ys : List Token) → (ps ≡ [] → ⊥) → ((b b' : Bounds) → Under b b' t t)
    → Anywhere (separated t (each f ps)) xs → Anywhere (f (canonical_pipe p)) ys → Anywhere (separated t (each f (ps ++ p ∷ []))) (xs ++ t ∷ ys)
one_more f t ps p xs ys h u l r =
    same_as _ _ _ (ap (separated t) (each-more f ps p) ∙ separated_more t (each f ps) (f (canonical_pipe p)) (some_mapped f (map canonical_pipe ps) (some_mapped canonical_pipe ps h)))
    (λ b b'. both b b' _ _ _ _ (l b b') (λ d d'. more d d' t t _ _ (u d d') (r (bounds_behind t) (bounds_behind t))))

abbrev tokens_of : PipeTokens → List Token
tokens_of p = p.tokens

-- Forms with pipes in brackets.
counted : (s : Section) (n : Option ℕ) (xs ys : List Token) → Anywhere xs ys
    → Anywhere (token.Word (keyword.Section s) ∷ token.Number (Some (tree.number_of n)) ∷ inside sign.OpenBrace sign.CloseBrace xs)
    (token.Word (keyword.Section s) ∷ token.Number n ∷ inside sign.OpenBrace sign.CloseBrace ys)
counted s n xs ys l b b' =
    more b b' _ _ _ _ (word b b' (keyword.Section s)) (more _ _ _ _ _ _ (number every_number n) (bracketed sign.OpenBrace sign.CloseBrace braces xs ys l every_number every_number))

block_form : (b : g.BlockForm) (p : Pipe) (ys : List Token) → Anywhere (canonical_pipe p).tokens ys
    → Replaces (canonical_pipe (g.block_tree b p)) (g.block_tokens b ++ token.Sign sign.OpenBrace ∷ ys ++ token.Sign sign.CloseBrace ∷ [])
block_form (g.Counts section.Exactly n) p ys l = replaces _ _ _ (piece-exactly (tree.number_of n) p) (counted section.Exactly n _ _ l)
block_form (g.Counts section.ExactlyE n) p ys l = replaces _ _ _ (piece-exactly_e (tree.number_of n) p) (counted section.ExactlyE n _ _ l)
block_form g.LineE p ys l = replaces _ _ _ (piece-line_e p) (behind_word keyword.LineE _ _ (bracketed sign.OpenBrace sign.CloseBrace braces _ _ l))
block_form (g.Mark f) p ys l =
    replaces _ _ _ (piece-mark (g.file_name_text f) p)
    (behind_word keyword.Mark _ _ (λ b b'. more b b' _ _ _ _ (text b b' (g.file_name_text f)) (bracketed sign.OpenBrace sign.CloseBrace braces _ _ l length_bounds length_bounds)))

-- two pipes and a comma
pair_form : (xs xs' ys ys' : List Token) → Anywhere xs ys → Anywhere xs' ys' → Anywhere (xs ++ token.Sign sign.Comma ∷ xs') (ys ++ token.Sign sign.Comma ∷ ys')
pair_form xs xs' ys ys' l r b b' = both b b' xs _ ys _ (l b b') (λ d d'. more d d' _ _ _ _ (comma d d') (r every_number every_number))

zip_form : (z : Zip) (xs xs' ys ys' : List Token) → Anywhere xs ys → Anywhere xs' ys'
    → Anywhere (token.Word (keyword.Zip z) ∷ inside sign.OpenParen sign.CloseParen (xs ++ token.Sign sign.Comma ∷ xs'))
    (token.Word (keyword.Zip z) ∷ token.Sign sign.OpenParen ∷ ys ++ token.Sign sign.Comma ∷ ys' ++ token.Sign sign.CloseParen ∷ [])
zip_form z xs xs' ys ys' l r =
    behind_word (keyword.Zip z) _ _ (bracketed sign.OpenParen sign.CloseParen parens _ _ (pair_form xs xs' ys ys' l r))

-- two pipes and a literal
zip_source_form : (xs xs' ys ys' : List Token) (s : List ℕ) → Anywhere xs ys → Anywhere xs' ys'
    → Anywhere (token.Word (keyword.Zip zip.Source) ∷ inside sign.OpenParen sign.CloseParen ((xs ++ token.Sign sign.Comma ∷ xs') ++ token.Sign sign.Comma ∷ token.Text s ∷ []))
    (token.Word (keyword.Zip zip.Source) ∷ token.Sign sign.OpenParen ∷ ys ++ token.Sign sign.Comma ∷ ys' ++ token.Sign sign.Comma ∷ token.Text s ∷ token.Sign sign.CloseParen ∷ [])
zip_source_form xs xs' ys ys' s l r =
    let front = ys ++ token.Sign sign.Comma ∷ ys' in
    let e = append_assoc front (token.Sign sign.Comma ∷ token.Text s ∷ []) (token.Sign sign.CloseParen ∷ []) in
    let P : List Token → Type 0 = λ ts.
    Anywhere (token.Word (keyword.Zip zip.Source) ∷ inside sign.OpenParen sign.CloseParen ((xs ++ token.Sign sign.Comma ∷ xs') ++ token.Sign sign.Comma ∷ token.Text s ∷ []))
    (token.Word (keyword.Zip zip.Source) ∷ token.Sign sign.OpenParen ∷ ts) in
    subst P e
    (behind_word (keyword.Zip zip.Source) _ _ (bracketed sign.OpenParen sign.CloseParen parens _ _
    (pair_form _ _ _ _ (pair_form xs xs' ys ys' l r) (λ b b'. one b b' _ _ (text b b' s)))))

mutual
  part : (p : g.PartForm) → Replaces (canonical_pipe (g.part_tree p)) (g.part_tokens p)
  part (g.OfWord w) = replaces _ _ _ (piece-word (g.word_tree w)) (word_form w)
  part (g.Parens p) = in_parens _ _ (whole p)
  part (g.Braces ps) = replaces _ _ _ (piece-sequence (g.pipes_trees ps)) (bracketed sign.OpenBrace sign.CloseBrace braces _ _ (wholes ps))
  part (g.Block b p) = block_form b (g.pipe_tree p) _ (whole p)
  part (g.Tee p) = replaces _ _ _ (piece-tee (g.pipe_tree p)) (behind_word keyword.Tee _ _ (bracketed sign.OpenParen sign.CloseParen parens _ _ (whole p)))
  part (g.ZipSource p q s) = replaces _ _ _ (piece-zip_source (g.pipe_tree p) (g.pipe_tree q) s) (zip_source_form _ _ _ _ s (whole p) (whole q))
  part (g.ZipSink p q) = replaces _ _ _ (piece-zip_sink (g.pipe_tree p) (g.pipe_tree q)) (zip_form zip.Sink _ _ _ _ (whole p) (whole q))
  part (g.ZipConduit p q) = replaces _ _ _ (piece-zip_conduit (g.pipe_tree p) (g.pipe_tree q)) (zip_form zip.Conduit _ _ _ _ (whole p) (whole q))

  whole : (p : g.PipeForm) → Anywhere (canonical_pipe (g.pipe_tree p)).tokens (g.pipe_tokens p)
  whole (g.One p) = (part p).alone
  whole (g.Chain j ps p) =
      same_as _ _ _ (ap tokens_of (piece-chain j (g.parts_trees ps ++ g.part_tree p ∷ [])))
      (one_more wrapped (g.operator j) (g.parts_trees ps) (g.part_tree p) _ _ (some_parts ps) (λ b b'. operator b b' j) (parts j ps) (part p).member)

  parts : (j : Join) (ps : g.PartsForm) → Anywhere (separated (g.operator j) (each wrapped (g.parts_trees ps))) (g.parts_tokens j ps)
  parts j (g.First p) = same_as _ _ _ (append-nil (wrapped (canonical_pipe (g.part_tree p)))) (part p).member
  parts j (g.Then ps p) = one_more wrapped (g.operator j) (g.parts_trees ps) (g.part_tree p) _ _ (some_parts ps) (λ b b'. operator b b' j) (parts j ps) (part p).member

  wholes : (ps : g.PipesForm) → Anywhere (separated (token.Sign sign.Semicolon) (each tokens_of (g.pipes_trees ps))) (g.pipes_tokens ps)
  wholes (g.Only p) = same_as _ _ _ (append-nil (canonical_pipe (g.pipe_tree p)).tokens) (whole p)
  wholes (g.And ps p) = one_more tokens_of (token.Sign sign.Semicolon) (g.pipes_trees ps) (g.pipe_tree p) _ _ (some_wholes ps) semicolon (wholes ps) (whole p)

-- Statements and scripts.
ended : (xs ys : List Token) → Anywhere xs ys → Anywhere (xs ++ token.Sign sign.Semicolon ∷ []) (ys ++ token.Sign sign.Semicolon ∷ [])
ended xs ys l b b' = both b b' xs _ ys _ (l b b') (λ d d'. one d d' _ _ (semicolon d d'))

behind_name : (n : List ℕ) (t : Token) (xs ys : List Token) → ((b b' : Bounds) → Under b b' t t) → Anywhere xs ys → Anywhere (token.Named n ∷ t ∷ xs) (token.Named n ∷ t ∷ ys)
behind_name n t xs ys u l b b' = more b b' _ _ _ _ (named b b' n) (more _ _ t t xs ys (u every_number every_number) (l (bounds_behind t) (bounds_behind t)))

sentence : (s : g.StatementForm) → Anywhere (canonical_statement (g.statement_tree s)) (g.statement_tokens s)
sentence (g.Run p) = behind_word keyword.Run _ _ (ended _ _ (whole p))
sentence (g.Seal n p) = behind_word (keyword.Opening opening.Let) _ _ (behind_name n _ _ _ equals (behind_word keyword.Seal _ _ (ended _ _ (whole p))))
sentence (g.Feed n p) = behind_word (keyword.Opening opening.Feed) _ _ (behind_name n _ _ _ (λ b b'. operator b b' join.Plain) (ended _ _ (whole p)))
sentence (g.CloseSeal n p) = behind_word (keyword.Opening opening.Close) _ _ (behind_name n _ _ _ (λ b b'. operator b b' join.Plain) (ended _ _ (whole p)))
sentence (g.Hold n f) =
    behind_word (keyword.Opening opening.Hold) _ _
    (behind_name n _ _ _ equals (behind_word keyword.Mark _ _ (λ b b'. more b b' _ _ _ _ (text b b' (g.file_name_text f)) (one _ _ _ _ (semicolon length_bounds length_bounds)))))
sentence (g.Release n) = behind_word (keyword.Opening opening.Release) _ _ (behind_name n _ _ _ semicolon none)

script : (ss : List g.StatementForm) → Anywhere (canonical (g.script_tree ss)) (g.script_tokens ss)
script [] = none
script (s ∷ ss) =
    same_as _ _ _ (flat_map-append canonical_statement (g.script_tree ss) (g.statement_tree s ∷ []) ∙ ap (λ ts. canonical (g.script_tree ss) ++ ts) (append-nil (canonical_statement (g.statement_tree s))))
    (λ b b'. both b b' _ _ _ _ (script ss b b') (sentence s))

-- the canonical tokens of a script's tree are within the limits where those that were read are
pub canonical_within : (ts : List Token) (ss : List Stmt) → g.IsScript ts ss → IsWithinLimits ts → IsWithinLimits (canonical ss)
canonical_within ts ss s w =
    let P : List Token → Type 0 = λ us. IsWithinLimits us in
    let Q : List Stmt → Type 0 = λ rs. IsWithinLimits (canonical rs) in
    let f = walks (g.script_tokens s.derivation) (subst P (sym s.spelled) w) in
    let l = script s.derivation every_number every_number in
    subst Q s.stands_for (within (canonical (g.script_tree s.derivation)) (l.fits 0 0 0 0 (omega arith) (omega arith) f))
