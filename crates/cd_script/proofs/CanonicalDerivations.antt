-- The canonical tokens of a proper tree are a script with that tree.
use Rattle.std.proofs.Common.{◌≡◌, ℕ, Bool, true, false, ◌&&◌, if◌then◌else◌, List, [], ◌∷◌, ◌++◌, map, Some, refl, ap, sym, ◌∙◌, subst, append_assoc, append-nil}
use Rattle.std.specs.List.{list_all}
use Rattle.cd_elem.specs.declared.script.Join.{Join}
use Rattle.cd_elem.specs.declared.script.Pipe.{Pipe, map-Pipe}
use Rattle.cd_elem.specs.declared.script.Pipe.TheVariants as pipe
use Rattle.cd_elem.specs.declared.script.Pipe.TheOpen.{Pipe-F}
use Rattle.cd_elem.specs.declared.script.Pipe.TheViews.{roll-Pipe}
use Rattle.cd_elem.specs.declared.script.Pipe.TheFolds.{ind-Pipe}
use Rattle.cd_elem.specs.declared.script.Stmt.{Stmt}
use Rattle.cd_elem.specs.declared.script.Stmt.TheVariants as stmt
use Rattle.cd_elem.specs.declared.token.Section.TheVariants as section
use Rattle.cd_elem.specs.declared.token.Zip.TheVariants as zip
use Rattle.cd_elem.specs.declared.token.Keyword.TheVariants as keyword
use Rattle.cd_elem.specs.declared.token.Sign.TheVariants as sign
use Rattle.cd_elem.specs.declared.token.Token.{Token}
use Rattle.cd_elem.specs.declared.token.Token.TheVariants as token
use Rattle.cd_grammar.specs.Canonical.{PipeTokens, canonical_pipe, canonical_step, is_proper, wrapped, canonical, canonical_statement, is_proper_statement, is_file, is_name}
use Rattle.cd_grammar.specs.CanonicalWords.{behind_each}
use Rattle.cd_grammar.specs.Grammar as g
use Rattle.cd_script.specs.Ranges as ranges
use Rattle.cd_script.specs.Ranges.{is_in_range}
use Rattle.cd_script.proofs.CanonicalPipes.{piece-roll, proper-roll, range-roll}
use Rattle.cd_script.proofs.CanonicalWords.{word_form, file_form}

-- the form as a member of a chain
abbrev part_of : g.PipeForm → g.PartForm
part_of (g.One p) = p
part_of (g.Chain j ps p) = g.Parens (g.Chain j ps p)

abbrev is_chain : g.PipeForm → Bool
is_chain (g.One p) = false
is_chain (g.Chain j ps p) = true

part_of-tree : (q : g.PipeForm) → g.part_tree (part_of q) ≡ g.pipe_tree q
part_of-tree (g.One p) = refl
part_of-tree (g.Chain j ps p) = refl

wrapped_by : Bool → List Token → List Token
wrapped_by b ts = if b then token.Sign sign.OpenParen ∷ ts ++ token.Sign sign.CloseParen ∷ [] else ts

part_of-tokens : (q : g.PipeForm) (p : PipeTokens) → g.pipe_tokens q ≡ p.tokens → p.is_chain ≡ is_chain q → g.part_tokens (part_of q) ≡ wrapped p
unfolding wrapped_by
part_of-tokens (g.One r) p e f = e ∙ ap (λ b. wrapped_by b p.tokens) (sym f)
part_of-tokens (g.Chain j ps r) p e f = ap (wrapped_by true) e ∙ ap (λ b. wrapped_by b p.tokens) (sym f)

-- a chain of these parts
abbrev chain_form : Join → g.PartsForm → g.PartForm → List g.PartForm → g.PipeForm
chain_form j front p [] = g.Chain j front p
chain_form j front p (q ∷ qs) = chain_form j (g.Then front p) q qs

chain_form-tokens : (j : Join) (front : g.PartsForm) (p : g.PartForm) (qs : List g.PartForm)
    → g.pipe_tokens (chain_form j front p qs) ≡ g.parts_tokens j front ++ (g.operator j ∷ g.part_tokens p) ++ behind_each (g.operator j) (map g.part_tokens qs)
chain_form-tokens j front p [] = simp append-nil
chain_form-tokens j front p (q ∷ qs) = chain_form-tokens j (g.Then front p) q qs ∙ simp append_assoc

chain_form-tree : (j : Join) (front : g.PartsForm) (p : g.PartForm) (qs : List g.PartForm)
    → g.pipe_tree (chain_form j front p qs) ≡ pipe.Chain j (g.parts_trees front ++ g.part_tree p ∷ map g.part_tree qs)
chain_form-tree j front p [] = refl
chain_form-tree j front p (q ∷ qs) = chain_form-tree j (g.Then front p) q qs ∙ ap (λ ps. pipe.Chain j ps) (append_assoc (g.parts_trees front) (g.part_tree p ∷ []) (g.part_tree q ∷ map g.part_tree qs))

chain_form-is : (j : Join) (front : g.PartsForm) (p : g.PartForm) (qs : List g.PartForm) → is_chain (chain_form j front p qs) ≡ true
chain_form-is j front p [] = refl
chain_form-is j front p (q ∷ qs) = chain_form-is j (g.Then front p) q qs

abbrev wholes_form : g.PipesForm → List g.PipeForm → g.PipesForm
wholes_form front [] = front
wholes_form front (q ∷ qs) = wholes_form (g.And front q) qs

wholes_form-tokens : (front : g.PipesForm) (qs : List g.PipeForm)
    → g.pipes_tokens (wholes_form front qs) ≡ g.pipes_tokens front ++ behind_each (token.Sign sign.Semicolon) (map g.pipe_tokens qs)
wholes_form-tokens front [] = simp append-nil
wholes_form-tokens front (q ∷ qs) = wholes_form-tokens (g.And front q) qs ∙ simp append_assoc

wholes_form-trees : (front : g.PipesForm) (qs : List g.PipeForm) → g.pipes_trees (wholes_form front qs) ≡ g.pipes_trees front ++ map g.pipe_tree qs
wholes_form-trees front [] = simp append-nil
wholes_form-trees front (q ∷ qs) = wholes_form-trees (g.And front q) qs ∙ simp append_assoc

record Derives (p : Pipe) : Type 0 where
  form : g.PipeForm
  tokens : g.pipe_tokens form ≡ (canonical_pipe p).tokens
  tree : g.pipe_tree form ≡ p
  chain : (canonical_pipe p).is_chain ≡ is_chain form

abbrev P : Pipe → Type 0
P p = is_proper p ≡ true → is_in_range p ≡ true → Derives p

abbrev Proved : Type 0
Proved = (p : Pipe) × P p

made : (x : Pipe-F Pipe) (q : g.PipeForm) → g.pipe_tokens q ≡ (canonical_step (map-Pipe Pipe PipeTokens canonical_pipe x)).tokens → g.pipe_tree q ≡ roll-Pipe x
    → (canonical_step (map-Pipe Pipe PipeTokens canonical_pipe x)).is_chain ≡ is_chain q → Derives (roll-Pipe x)
made x q e f h = record {
  form = q;
  tokens = e ∙ ap (λ p. p.tokens) (sym (piece-roll x));
  tree = f;
  chain = ap (λ p. p.is_chain) (piece-roll x) ∙ h;
}

both : (a b : Bool) → (a && b) ≡ true → (a ≡ true) × (b ≡ true)
both true b e = (refl, e)
both false b e = let f : ⊥ = cc in absurd f

record Forms (es : List Proved) : Type 0 where
  forms : List g.PipeForm
  trees : map g.pipe_tree forms ≡ map (λ e. e.0) es
  part_trees : map g.part_tree (map part_of forms) ≡ map (λ e. e.0) es
  parts : map g.part_tokens (map part_of forms) ≡ map wrapped (map canonical_pipe (map (λ e. e.0) es))
  wholes : map g.pipe_tokens forms ≡ map (λ p. p.tokens) (map canonical_pipe (map (λ e. e.0) es))

forms_of : (es : List Proved) → list_all (λ b. b) (map is_proper (map (λ e. e.0) es)) ≡ true
    → list_all (λ b. b) (map is_in_range (map (λ e. e.0) es)) ≡ true → Forms es
forms_of [] h k = record { forms = []; trees = refl; part_trees = refl; parts = refl; wholes = refl }
forms_of (e ∷ es) h k =
    let b = both (is_proper e.0) _ h in
    let r = both (is_in_range e.0) _ k in
    let d = e.1 b.0 r.0 in
    let f = forms_of es b.1 r.1 in
    record {
      forms = d.form ∷ f.forms;
      trees = cc;
      part_trees = cc (part_of-tree d.form);
      parts = cc (part_of-tokens d.form (canonical_pipe e.0) d.tokens d.chain);
      wholes = cc;
    }

chains : (j : Join) (es : List Proved) → P (roll-Pipe (Pipe-F.Chain j (map (λ e. e.0) es)))
chains j [] h k = let f : false ≡ true = sym (proper-roll _) ∙ h in let x : ⊥ = cc in absurd x
chains j (e ∷ []) h k = let f : false ≡ true = sym (proper-roll _) ∙ h in let x : ⊥ = cc in absurd x
chains j (e ∷ e' ∷ es) h k =
    let b = both (is_proper e.0) _ (sym (proper-roll _) ∙ h) in
    let b' = both (is_proper e'.0) _ b.1 in
    let r = both (is_in_range e.0) _ (sym (range-roll _) ∙ k) in
    let r' = both (is_in_range e'.0) _ r.1 in
    let d = e.1 b.0 r.0 in
    let d' = e'.1 b'.0 r'.0 in
    let f = forms_of es b'.1 r'.1 in
    let t = part_of-tokens d.form (canonical_pipe e.0) d.tokens d.chain in
    let t' = part_of-tokens d'.form (canonical_pipe e'.0) d'.tokens d'.chain in
    let u = part_of-tree d.form ∙ d.tree in
    let u' = part_of-tree d'.form ∙ d'.tree in
    made _ (chain_form j (g.First (part_of d.form)) (part_of d'.form) (map part_of f.forms))
    (chain_form-tokens j (g.First (part_of d.form)) (part_of d'.form) (map part_of f.forms) ∙ rw (t, t', f.parts) (simp append_assoc))
    (chain_form-tree j (g.First (part_of d.form)) (part_of d'.form) (map part_of f.forms) ∙ rw (u, u', f.part_trees) (sym (pipe.rolls-Chain j (e.0 ∷ e'.0 ∷ map (λ e. e.0) es))))
    (sym (chain_form-is j (g.First (part_of d.form)) (part_of d'.form) (map part_of f.forms)))

sequences : (es : List Proved) → P (roll-Pipe (Pipe-F.Sequence (map (λ e. e.0) es)))
sequences [] h k = let f : false ≡ true = sym (proper-roll _) ∙ h in let x : ⊥ = cc in absurd x
sequences (e ∷ es) h k =
    let b = both (is_proper e.0) _ (sym (proper-roll _) ∙ h) in
    let r = both (is_in_range e.0) _ (sym (range-roll _) ∙ k) in
    let d = e.1 b.0 r.0 in
    let f = forms_of es b.1 r.1 in
    let t = wholes_form-tokens (g.Only d.form) f.forms in
    let u = wholes_form-trees (g.Only d.form) f.forms in
    made _ (g.One (g.Braces (wholes_form (g.Only d.form) f.forms)))
    (rw (t, d.tokens, f.wholes) refl)
    (ap pipe.Sequence u ∙ rw (d.tree, f.trees) (sym (pipe.rolls-Sequence (e.0 ∷ map (λ e. e.0) es))))
    refl

abbrev zip_source : List Token → List Token
zip_source ts = token.Word (keyword.Zip zip.Source) ∷ token.Sign sign.OpenParen ∷ ts

zip_source-tokens : (xs ys : List Token) (s : List ℕ)
    → zip_source (xs ++ token.Sign sign.Comma ∷ ys ++ token.Sign sign.Comma ∷ token.Text s ∷ token.Sign sign.CloseParen ∷ [])
    ≡ zip_source ((xs ++ token.Sign sign.Comma ∷ ys ++ token.Sign sign.Comma ∷ token.Text s ∷ []) ++ token.Sign sign.CloseParen ∷ [])
zip_source-tokens xs ys s = simp append_assoc

each : (y : Pipe-F Proved) → P (roll-Pipe (map-Pipe Proved Pipe (λ e. e.0) y))
each (Pipe-F.Word w) h k =
    let d = word_form w (sym (proper-roll _) ∙ h) (sym (range-roll _) ∙ k) in
    made _ (g.One (g.OfWord d.form)) d.spelled (ap pipe.Word d.stands_for ∙ sym (pipe.rolls-Word w)) refl
each (Pipe-F.Chain j es) h k = chains j es h k
each (Pipe-F.Sequence es) h k = sequences es h k
each (Pipe-F.Exactly n e) h k =
    let d = e.1 (sym (proper-roll _) ∙ h) (sym (range-roll _) ∙ k) in
    made _ (g.One (g.Block (g.Counts section.Exactly (Some n)) d.form)) (rw d.tokens refl) (ap (pipe.Exactly n) d.tree ∙ sym (pipe.rolls-Exactly n e.0)) refl
each (Pipe-F.ExactlyE n e) h k =
    let d = e.1 (sym (proper-roll _) ∙ h) (sym (range-roll _) ∙ k) in
    made _ (g.One (g.Block (g.Counts section.ExactlyE (Some n)) d.form)) (rw d.tokens refl) (ap (pipe.ExactlyE n) d.tree ∙ sym (pipe.rolls-ExactlyE n e.0)) refl
each (Pipe-F.LineE e) h k =
    let d = e.1 (sym (proper-roll _) ∙ h) (sym (range-roll _) ∙ k) in
    made _ (g.One (g.Block g.LineE d.form)) (rw d.tokens refl) (ap pipe.LineE d.tree ∙ sym (pipe.rolls-LineE e.0)) refl
each (Pipe-F.Mark s e) h k =
    let b = both (is_file s) (is_proper e.0) (sym (proper-roll _) ∙ h) in
    let f = file_form s b.0 in
    let d = e.1 b.1 (sym (range-roll _) ∙ k) in
    made _ (g.One (g.Block (g.Mark f.0) d.form)) (rw (d.tokens, f.1) refl) (ap (λ p. pipe.Mark (g.file_name_text f.0) p) d.tree ∙ ap (λ t. pipe.Mark t e.0) f.1 ∙ sym (pipe.rolls-Mark s e.0)) refl
each (Pipe-F.Tee e) h k =
    let d = e.1 (sym (proper-roll _) ∙ h) (sym (range-roll _) ∙ k) in
    made _ (g.One (g.Tee d.form)) (rw d.tokens refl) (ap pipe.Tee d.tree ∙ sym (pipe.rolls-Tee e.0)) refl
each (Pipe-F.ZipSource e f s) h k =
    let b = both (is_proper e.0) (is_proper f.0) (sym (proper-roll _) ∙ h) in
    let r = both (is_in_range e.0) (is_in_range f.0) (sym (range-roll _) ∙ k) in
    let d = e.1 b.0 r.0 in
    let i = f.1 b.1 r.1 in
    made _ (g.One (g.ZipSource d.form i.form s)) (rw (d.tokens, i.tokens) (zip_source-tokens (canonical_pipe e.0).tokens (canonical_pipe f.0).tokens s))
    (ap (λ p. pipe.ZipSource p (g.pipe_tree i.form) s) d.tree ∙ ap (λ p. pipe.ZipSource e.0 p s) i.tree ∙ sym (pipe.rolls-ZipSource e.0 f.0 s)) refl
each (Pipe-F.ZipSink e f) h k =
    let b = both (is_proper e.0) (is_proper f.0) (sym (proper-roll _) ∙ h) in
    let r = both (is_in_range e.0) (is_in_range f.0) (sym (range-roll _) ∙ k) in
    let d = e.1 b.0 r.0 in
    let i = f.1 b.1 r.1 in
    made _ (g.One (g.ZipSink d.form i.form)) (rw (d.tokens, i.tokens) refl)
    (ap (λ p. pipe.ZipSink p (g.pipe_tree i.form)) d.tree ∙ ap (λ p. pipe.ZipSink e.0 p) i.tree ∙ sym (pipe.rolls-ZipSink e.0 f.0)) refl
each (Pipe-F.ZipConduit e f) h k =
    let b = both (is_proper e.0) (is_proper f.0) (sym (proper-roll _) ∙ h) in
    let r = both (is_in_range e.0) (is_in_range f.0) (sym (range-roll _) ∙ k) in
    let d = e.1 b.0 r.0 in
    let i = f.1 b.1 r.1 in
    made _ (g.One (g.ZipConduit d.form i.form)) (rw (d.tokens, i.tokens) refl)
    (ap (λ p. pipe.ZipConduit p (g.pipe_tree i.form)) d.tree ∙ ap (λ p. pipe.ZipConduit e.0 p) i.tree ∙ sym (pipe.rolls-ZipConduit e.0 f.0)) refl

derives : (p : Pipe) → P p
derives = ind-Pipe P (λ x y is. subst (λ z. P (roll-Pipe z)) is (each y))

record Sentences (s : Stmt) : Type 0 where
  form : g.StatementForm
  tokens : g.statement_tokens form ≡ canonical_statement s
  tree : g.statement_tree form ≡ s

sentence : (s : Stmt) → is_proper_statement s ≡ true → ranges.statement s ≡ true → Sentences s
sentence (stmt.Run p) h k = let d = derives p h k in record { form = g.Run d.form; tokens = rw d.tokens refl; tree = ap stmt.Run d.tree }
sentence (stmt.Seal n p) h k =
    let d = derives p (both (is_name n) (is_proper p) h).1 k in
    record { form = g.Seal n d.form; tokens = rw d.tokens refl; tree = ap (stmt.Seal n) d.tree }
sentence (stmt.Feed n p) h k =
    let d = derives p (both (is_name n) (is_proper p) h).1 k in
    record { form = g.Feed n d.form; tokens = rw d.tokens refl; tree = ap (stmt.Feed n) d.tree }
sentence (stmt.CloseSeal n p) h k =
    let d = derives p (both (is_name n) (is_proper p) h).1 k in
    record { form = g.CloseSeal n d.form; tokens = rw d.tokens refl; tree = ap (stmt.CloseSeal n) d.tree }
sentence (stmt.Hold n s) h k =
    let f = file_form s (both (is_name n) (is_file s) h).1 in
    record { form = g.Hold n f.0; tokens = rw f.1 refl; tree = ap (stmt.Hold n) f.1 }
sentence (stmt.Release n) h k = record { form = g.Release n; tokens = refl; tree = refl }

onto : (ss : List Stmt) (ts : List Token) (trees : List Stmt) → g.IsScript ts trees → list_all is_proper_statement ss ≡ true → list_all ranges.statement ss ≡ true
    → g.IsScript (ts ++ canonical ss) (trees ++ ss)
onto [] ts trees i h k = record { derivation = i.derivation; spelled = i.spelled ∙ simp append-nil; stands_for = i.stands_for ∙ simp append-nil }
onto (s ∷ ss) ts trees i h k =
    let b = both (is_proper_statement s) _ h in
    let r = both (ranges.statement s) _ k in
    let d = sentence s b.0 r.0 in
    let j : g.IsScript (ts ++ canonical_statement s) (trees ++ s ∷ []) = record {
      derivation = d.form ∷ i.derivation;
      spelled = rw (i.spelled, d.tokens) refl;
      stands_for = rw (i.stands_for, d.tree) refl;
    } in
    let o = onto ss (ts ++ canonical_statement s) (trees ++ s ∷ []) j b.1 r.1 in
    record { derivation = o.derivation; spelled = o.spelled ∙ simp append_assoc; stands_for = o.stands_for ∙ simp append_assoc }

-- The canonical tokens are a script with the tree that they are made from. `statement_tokens` says that each statement of a program's tree is in range.
pub canonical_is_script : (tree : List Stmt) → list_all is_proper_statement tree ≡ true → list_all ranges.statement tree ≡ true
    → g.IsScript (canonical tree) tree
canonical_is_script tree h k = onto tree [] [] (record { derivation = []; spelled = refl; stands_for = refl }) h k
