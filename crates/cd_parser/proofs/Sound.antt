-- A state that the machine comes to spells the tokens that led to it.
use Rattle.std.proofs.Common.{◌≡◌, ℕ, Bool, true, false, List, [], ◌∷◌, ◌++◌, Option, Some, None, refl, ap, sym, ◌∙◌, append_assoc, subst, if◌then◌else◌, append-nil}
use Rattle.std.specs.List.{fold}
use Rattle.cd_elem.specs.declared.script.Join.{Join}
use Rattle.cd_elem.specs.declared.script.Join.TheVariants as join
use Rattle.cd_elem.specs.declared.script.Pipe.{Pipe}
use Rattle.cd_elem.specs.declared.script.Pipe.TheVariants as pipe
use Rattle.cd_elem.specs.declared.script.Stmt.{Stmt}
use Rattle.cd_elem.specs.declared.token.Opening.{Opening}
use Rattle.cd_elem.specs.declared.token.Opening.TheVariants as opening
use Rattle.cd_elem.specs.declared.token.Zip.{Zip}
use Rattle.cd_elem.specs.declared.token.Zip.TheVariants as zip
use Rattle.cd_elem.specs.declared.token.Keyword.{Keyword}
use Rattle.cd_elem.specs.declared.token.Keyword.TheVariants as keyword
use Rattle.cd_elem.specs.declared.token.Sign.{Sign}
use Rattle.cd_elem.specs.declared.token.Sign.TheVariants as sign
use Rattle.cd_elem.specs.declared.token.Token.{Token}
use Rattle.cd_elem.specs.declared.token.Token.TheVariants as token
use Rattle.cd_parser.specs.declared.state.Owner.{Owner}
use Rattle.cd_parser.specs.declared.state.Owner.TheVariants as owner
use Rattle.cd_parser.specs.declared.state.Chain.{Chain}
use Rattle.cd_parser.specs.declared.state.Chain.TheVariants as chain
use Rattle.cd_parser.specs.declared.state.Expected.TheVariants as expected
use Rattle.cd_parser.specs.declared.state.OpenPipe.{OpenPipe}
use Rattle.cd_parser.specs.declared.state.Progress.{Progress}
use Rattle.cd_parser.specs.declared.state.Progress.TheVariants as progress
use Rattle.cd_parser.specs.declared.state.ParserState.{ParserState}
use Rattle.cd_parser.specs.declared.state.Extension.{Extension}
use Rattle.cd_parser.specs.declared.state.Exit.{Exit}
use Rattle.cd_parser.specs.declared.state.Exit.TheVariants as exits
use Rattle.cd_grammar.specs.Grammar as g
use Rattle.cd_parser.specs.Machine as m
use Rattle.cd_parser.specs.Machine.{next, state_behind, start, done, is_same_join}
use Rattle.cd_parser.proofs.Complete.{block_of, state_within}
use Rattle.cd_parser.proofs.StateForms.{ChainForm, Alone, Joined, FrameForm, Parens, Braces, More, Blocked, InTee, ZipFirst, ZipSecond, LevelForm, ExpectedForm, Needs, Further, Ended, ZipText, ZipEnd, PositionForm, Between, Opened, Named, Sealing, Holding, Marking, Marked, Inside, ParserStateForm, chain_tree, frame_tree, levels_tree, expected_tree, position_tree, state_tree, chain_tokens, frame_tokens, levels_tokens, expected_tokens, owner_tokens, position_tokens, state_tokens, zip_source}
use Rattle.cd_parser.proofs.Extensions.{ExtensionForm, Goes, Ends, Opens, Extends, extension_tree, extension_tokens, never, begin_part, extend}

-- Ends of pipes.
data ExitForm : Type 0 where
  Stays : FrameForm → ExitForm
  Closes : g.PartForm → ExitForm
  Asks : g.PipeForm → g.PipeForm → ExitForm

abbrev exit_tree : ExitForm → Exit
exit_tree (Stays f) = exits.Stays (frame_tree f)
exit_tree (Closes p) = exits.Closes (g.part_tree p)
exit_tree (Asks p q) = exits.Asks (g.pipe_tree p) (g.pipe_tree q)

abbrev exit_tokens : ExitForm → List Token
exit_tokens (Stays f) = frame_tokens f
exit_tokens (Closes p) = g.part_tokens p
exit_tokens (Asks p q) = zip_source p q ++ token.Sign sign.Comma ∷ []

record Exits (exit : Exit) (ts : List Token) : Type 0 where
  form : ExitForm
  tree : exit_tree form ≡ exit
  tokens : exit_tokens form ≡ ts

leave_zip : (z : Zip) (p q : g.PipeForm) (s : Sign) (exit : Exit) → m.leave_zip z (g.pipe_tree p) (g.pipe_tree q) s ≡ Some exit
    → Exits exit (frame_tokens (ZipSecond z p) ++ g.pipe_tokens q ++ token.Sign s ∷ [])
leave_zip zip.Source p q sign.Comma exit e = record { form = Asks p q; tree = cc; tokens = simp append_assoc }
leave_zip zip.Sink p q sign.CloseParen exit e = record { form = Closes (g.ZipSink p q); tree = cc; tokens = simp append_assoc }
leave_zip zip.Conduit p q sign.CloseParen exit e = record { form = Closes (g.ZipConduit p q); tree = cc; tokens = simp append_assoc }
leave_zip _ p q _ exit e = absurd (never e)

close_block : (b : g.BlockForm) (p : Pipe) → g.block_tree b p ≡ m.close_block (block_of b) p
close_block (g.Counts s n) p = refl
close_block g.LineE p = refl
close_block (g.Mark f) p = refl

leave_bracket : (f : FrameForm) (q : g.PipeForm) (s : Sign) (exit : Exit) → m.leave_bracket (frame_tree f) (g.pipe_tree q) s ≡ Some exit
    → Exits exit (frame_tokens f ++ g.pipe_tokens q ++ token.Sign s ∷ [])
leave_bracket Parens q sign.CloseParen exit e = record { form = Closes (g.Parens q); tree = cc; tokens = simp append_assoc }
leave_bracket Braces q sign.Semicolon exit e = record { form = Stays (More (g.Only q)); tree = cc; tokens = simp append_assoc }
leave_bracket Braces q sign.CloseBrace exit e = record { form = Closes (g.Braces (g.Only q)); tree = cc; tokens = simp append_assoc }
leave_bracket (More ps) q sign.Semicolon exit e = record { form = Stays (More (g.And ps q)); tree = cc; tokens = simp append_assoc }
leave_bracket (More ps) q sign.CloseBrace exit e = record { form = Closes (g.Braces (g.And ps q)); tree = cc; tokens = simp append_assoc }
leave_bracket (Blocked b) q sign.CloseBrace exit e =
    let p = close_block b (g.pipe_tree q) in
    record { form = Closes (g.Block b q); tree = cc (p, e); tokens = simp append_assoc }
leave_bracket InTee q sign.CloseParen exit e = record { form = Closes (g.Tee q); tree = cc; tokens = simp append_assoc }
leave_bracket (ZipFirst z) q sign.Comma exit e = record { form = Stays (ZipSecond z q); tree = cc; tokens = simp append_assoc }
leave_bracket (ZipSecond z p) q s exit e = leave_zip z p q s exit e
leave_bracket _ q _ exit e = absurd (never e)

-- Operators.
record Joins (ch : Chain) (ts : List Token) : Type 0 where
  form : ChainForm
  tree : chain_tree form ≡ ch
  tokens : chain_tokens form ≡ ts

same_join-true : (i j : Join) → is_same_join i j ≡ true → i ≡ j
same_join-true join.Plain join.Plain e = refl
same_join-true join.Keep join.Keep e = refl
same_join-true join.Return join.Return e = refl
same_join-true join.Both join.Both e = refl
same_join-true join.Up join.Up e = refl
same_join-true join.Asked join.Asked e = refl
same_join-true _ _ e = let f : ⊥ = cc in absurd f

chosen : {A : Type 0} (b : Bool) (x y : A) → (if b then Some x else None) ≡ Some y → (b ≡ true) × (x ≡ y)
chosen true x y e = (refl, cc)
chosen false x y e = absurd (never e)

same_operator : (j : Join) (ps : g.PartsForm) (p : g.PartForm) (ch : Chain) → chain.Joined j (g.parts_trees ps ++ g.part_tree p ∷ []) ≡ ch
    → Joins ch ((g.parts_tokens j ps ++ g.operator j ∷ []) ++ g.part_tokens p ++ g.operator j ∷ [])
same_operator j ps p ch e = record { form = Joined j (g.Then ps p); tree = e; tokens = simp append_assoc }

join_part : (c : ChainForm) (p : g.PartForm) (j : Join) (ch : Chain) → m.join_part (chain_tree c) j (g.part_tree p) ≡ Some ch
    → Joins ch (chain_tokens c ++ g.part_tokens p ++ g.operator j ∷ [])
join_part Alone p j ch e = record { form = Joined j (g.First p); tree = cc; tokens = refl }
join_part (Joined i ps) p j ch e =
    let c = chosen (is_same_join i j) _ _ e in
    let P : Join → Type 0 = λ k. chain.Joined k (g.parts_trees ps ++ g.part_tree p ∷ []) ≡ ch
    → Joins ch ((g.parts_tokens k ps ++ g.operator k ∷ []) ++ g.part_tokens p ++ g.operator j ∷ []) in
    subst P (sym (same_join-true i j c.0)) (same_operator j ps p ch) c.1

-- States.
record After (s : ParserState) (ts : List Token) : Type 0 where
  form : ParserStateForm
  tree : state_tree form ≡ s
  tokens : state_tokens form ≡ ts

moved : {s : ParserState} {ts us : List Token} → After s ts → ts ≡ us → After s us
moved a e = record { form = a.form; tree = a.tree; tokens = a.tokens ∙ e }

-- the state behind this, with the statements before
abbrev advanced : List g.StatementForm → Option Progress → Option ParserState
advanced ss = m.advance (g.script_tree ss)

abbrev open_tree : Owner → List LevelForm → ChainForm → OpenPipe
open_tree o ls ch = m.open_pipe o (levels_tree ls) (chain_tree ch)

-- the state with this place behind these statements
placed : (ss : List g.StatementForm) (p : PositionForm) (ts : List Token) (s : ParserState) → Some (position_tree (g.script_tree ss) p) ≡ Some s → position_tokens p ≡ ts → After s (g.script_tokens ss ++ ts)
placed ss p ts s e f = record { form = record { before = ss; position = p }; tree = cc; tokens = ap (λ us. g.script_tokens ss ++ us) f }

-- the state behind one more statement
one_more : (ss : List g.StatementForm) (r : g.StatementForm) (s : ParserState) → advanced ss (Some (progress.Ends (g.statement_tree r))) ≡ Some s → After s (g.script_tokens ss ++ g.statement_tokens r)
one_more ss r s e = record { form = record { before = r ∷ ss; position = Between }; tree = cc; tokens = simp append-nil }

module _ (ss : List g.StatementForm) (o : Owner) where
  -- the tokens of a state in a statement, with what stands behind them
  abbrev inside : List LevelForm → ChainForm → List Token → List Token
  inside ls ch ts = g.script_tokens ss ++ (owner_tokens o ++ levels_tokens ls ++ chain_tokens ch ++ ts)

  after_extension : (u : ExtensionForm) (ls : List LevelForm) (ch : ChainForm) (s : ParserState)
      → advanced ss (Some (m.after_extension (open_tree o ls ch) (extension_tree u))) ≡ Some s → After s (inside ls ch (extension_tokens u))
  after_extension (Goes h) ls ch s e = record { form = record { before = ss; position = Inside o ls ch (Further h) }; tree = cc; tokens = refl }
  after_extension (Ends w) ls ch s e = record { form = record { before = ss; position = Inside o ls ch (Ended (g.OfWord w)) }; tree = cc; tokens = refl }
  after_extension (Opens f) ls ch s e = record { form = record { before = ss; position = Inside o (record { frame = f; outer = ch } ∷ ls) Alone Needs }; tree = cc; tokens = simp (append_assoc, append-nil) }

  after_extension_if_any : (ls : List LevelForm) (ch : ChainForm) (extension : Option Extension) (ts : List Token) (s : ParserState)
      → ((u : Extension) → extension ≡ Some u → Extends u ts)
      → advanced ss (m.after_extension_if_any (open_tree o ls ch) extension) ≡ Some s → After s (inside ls ch ts)
  after_extension_if_any ls ch None ts s h e = absurd (never e)
  after_extension_if_any ls ch (Some u) ts s h e =
      let x = h u refl in
      moved (after_extension x.form ls ch s (ap (λ v. advanced ss (Some (m.after_extension (open_tree o ls ch) v))) x.tree ∙ e)) (ap (inside ls ch) x.tokens)

  after_join_if_any : (ls : List LevelForm) (ch : Option Chain) (ts : List Token) (s : ParserState)
      → ((c : Chain) → ch ≡ Some c → Joins c ts)
      → advanced ss (m.after_join_if_any o (levels_tree ls) ch) ≡ Some s → After s (g.script_tokens ss ++ (owner_tokens o ++ levels_tokens ls ++ ts))
  after_join_if_any ls None ts s h e = absurd (never e)
  after_join_if_any ls (Some c) ts s h e =
      let x = h c refl in
      record {
        form = record { before = ss; position = Inside o ls x.form Needs };
        tree = ap (λ c. state_within (g.script_tree ss) o (levels_tree ls) c expected.Part) x.tree ∙ cc;
        tokens = rw x.tokens (simp append-nil);
      }

  exited : (x : ExitForm) (ls : List LevelForm) (outer : ChainForm) (s : ParserState)
      → advanced ss (m.after_exit_if_any (open_tree o ls outer) (Some (exit_tree x))) ≡ Some s → After s (inside ls outer (exit_tokens x))
  exited (Stays f) ls outer s e = record { form = record { before = ss; position = Inside o (record { frame = f; outer = outer } ∷ ls) Alone Needs }; tree = cc; tokens = simp (append_assoc, append-nil) }
  exited (Closes p) ls outer s e = record { form = record { before = ss; position = Inside o ls outer (Ended p) }; tree = cc; tokens = refl }
  exited (Asks p q) ls outer s e = record { form = record { before = ss; position = Inside o ls outer (ZipText p q) }; tree = cc; tokens = refl }

  after_exit_if_any : (ls : List LevelForm) (outer : ChainForm) (exit : Option Exit) (ts : List Token) (s : ParserState)
      → ((x : Exit) → exit ≡ Some x → Exits x ts)
      → advanced ss (m.after_exit_if_any (open_tree o ls outer) exit) ≡ Some s → After s (inside ls outer ts)
  after_exit_if_any ls outer None ts s h e = absurd (never e)
  after_exit_if_any ls outer (Some x) ts s h e =
      let y = h x refl in
      moved (exited y.form ls outer s (ap (λ v. advanced ss (m.after_exit_if_any (open_tree o ls outer) (Some v))) y.tree ∙ e)) (ap (inside ls outer) y.tokens)

-- the sentence of this owner
abbrev sentence : Owner → g.PipeForm → g.StatementForm
sentence owner.Run q = g.Run q
sentence (owner.Seal n) q = g.Seal n q
sentence (owner.Feed n) q = g.Feed n q
sentence (owner.CloseSeal n) q = g.CloseSeal n q

sentence-tree : (o : Owner) (q : g.PipeForm) → g.statement_tree (sentence o q) ≡ m.owned_statement o (g.pipe_tree q)
sentence-tree owner.Run q = refl
sentence-tree (owner.Seal n) q = refl
sentence-tree (owner.Feed n) q = refl
sentence-tree (owner.CloseSeal n) q = refl

sentence-tokens : (o : Owner) (q : g.PipeForm) → g.statement_tokens (sentence o q) ≡ owner_tokens o ++ g.pipe_tokens q ++ token.Sign sign.Semicolon ∷ []
sentence-tokens owner.Run q = refl
sentence-tokens (owner.Seal n) q = refl
sentence-tokens (owner.Feed n) q = refl
sentence-tokens (owner.CloseSeal n) q = refl

finish_statement : (ss : List g.StatementForm) (o : Owner) (q : g.PipeForm) (t : Sign) (s : ParserState)
    → advanced ss (m.finish_statement o (g.pipe_tree q) t) ≡ Some s → After s (g.script_tokens ss ++ (owner_tokens o ++ g.pipe_tokens q ++ token.Sign t ∷ []))
finish_statement ss o q sign.Semicolon s e =
    moved (one_more ss (sentence o q) s (ap (λ r. advanced ss (Some (progress.Ends r))) (sentence-tree o q) ∙ e)) (ap (λ ts. g.script_tokens ss ++ ts) (sentence-tokens o q))
finish_statement ss o q _ s e = absurd (never e)

end_pipe : (ls : List LevelForm) (ss : List g.StatementForm) (o : Owner) (q : g.PipeForm) (t : Sign) (s : ParserState)
    → advanced ss (m.end_pipe o (levels_tree ls) (g.pipe_tree q) t) ≡ Some s
    → After s (g.script_tokens ss ++ (owner_tokens o ++ levels_tokens ls ++ g.pipe_tokens q ++ token.Sign t ∷ []))
end_pipe [] ss o q t s e = moved (finish_statement ss o q t s e) (simp append-nil)
end_pipe (l ∷ ls) ss o q t s e = moved (after_exit_if_any ss o ls l.outer _ _ s (leave_bracket l.frame q t) e) (simp append_assoc)

-- the pipe that this part ends
abbrev whole_of : ChainForm → g.PartForm → g.PipeForm
whole_of Alone p = g.One p
whole_of (Joined j ps) p = g.Chain j ps p

whole_of-tree : (ch : ChainForm) (p : g.PartForm) → g.pipe_tree (whole_of ch p) ≡ m.close_chain (chain_tree ch) (g.part_tree p)
whole_of-tree Alone p = refl
whole_of-tree (Joined j ps) p = refl

whole_of-tokens : (ch : ChainForm) (p : g.PartForm) → g.pipe_tokens (whole_of ch p) ≡ chain_tokens ch ++ g.part_tokens p
whole_of-tokens Alone p = refl
whole_of-tokens (Joined j ps) p = simp append_assoc

closing : (ss : List g.StatementForm) (o : Owner) (ls : List LevelForm) (ch : ChainForm) (p : g.PartForm) (t : Sign) (s : ParserState)
    → advanced ss (m.end_pipe o (levels_tree ls) (m.close_chain (chain_tree ch) (g.part_tree p)) t) ≡ Some s
    → After s (g.script_tokens ss ++ (owner_tokens o ++ levels_tokens ls ++ chain_tokens ch ++ g.part_tokens p) ++ token.Sign t ∷ [])
closing ss o ls ch p t s e =
    moved (end_pipe ls ss o (whole_of ch p) t s (ap (λ q. advanced ss (m.end_pipe o (levels_tree ls) q t)) (whole_of-tree ch p) ∙ e))
    (rw (whole_of-tokens ch p) (simp append_assoc))

operator : (t : Sign) (j : Join) → m.operator_of t ≡ Some j → t ≡ sign.Operator j
operator (sign.Operator i) j e = ap sign.Operator (ap (λ o. get i o) e) where
  get : Join → Option Join → Join
  get i None = i
  get i (Some j) = j
operator _ j e = absurd (never e)

follow_part_by : (ss : List g.StatementForm) (o : Owner) (ls : List LevelForm) (ch : ChainForm) (p : g.PartForm) (t : Sign) (s : ParserState) (j : Option Join) → m.operator_of t ≡ j
    → advanced ss (m.follow_part_by (open_tree o ls ch) (g.part_tree p) t j) ≡ Some s
    → After s (g.script_tokens ss ++ (owner_tokens o ++ levels_tokens ls ++ chain_tokens ch ++ g.part_tokens p) ++ token.Sign t ∷ [])
follow_part_by ss o ls ch p t s None f e = closing ss o ls ch p t s e
follow_part_by ss o ls ch p t s (Some j) f e = moved (after_join_if_any ss o ls _ _ s (join_part ch p j) e) (rw (operator t j f) (simp append_assoc))

follow_part : (ss : List g.StatementForm) (o : Owner) (ls : List LevelForm) (ch : ChainForm) (p : g.PartForm) (t : Token) (s : ParserState)
    → advanced ss (m.follow_part (open_tree o ls ch) (g.part_tree p) t) ≡ Some s
    → After s (g.script_tokens ss ++ (owner_tokens o ++ levels_tokens ls ++ chain_tokens ch ++ g.part_tokens p) ++ t ∷ [])
follow_part ss o ls ch p (token.Sign t) s e = follow_part_by ss o ls ch p t s _ refl e
follow_part ss o ls ch p _ s e = absurd (never e)

read_zip_text : (ss : List g.StatementForm) (o : Owner) (ls : List LevelForm) (ch : ChainForm) (p q : g.PipeForm) (t : Token) (s : ParserState)
    → advanced ss (m.read_zip_text (open_tree o ls ch) (g.pipe_tree p) (g.pipe_tree q) t) ≡ Some s
    → After s (inside ss o ls ch (expected_tokens (ZipText p q) ++ t ∷ []))
read_zip_text ss o ls ch p q (token.Text r) s e = placed ss (Inside o ls ch (ZipEnd p q r)) _ s e (simp append_assoc)
read_zip_text ss o ls ch p q _ s e = absurd (never e)

close_zip : (ss : List g.StatementForm) (o : Owner) (ls : List LevelForm) (ch : ChainForm) (p q : g.PipeForm) (r : List ℕ) (t : Token) (s : ParserState)
    → advanced ss (m.close_zip (open_tree o ls ch) (pipe.ZipSource (g.pipe_tree p) (g.pipe_tree q) r) t) ≡ Some s
    → After s (inside ss o ls ch (expected_tokens (ZipEnd p q r) ++ t ∷ []))
close_zip ss o ls ch p q r (token.Sign sign.CloseParen) s e = placed ss (Inside o ls ch (Ended (g.ZipSource p q r))) _ s e (simp append_assoc)
close_zip ss o ls ch p q r _ s e = absurd (never e)

stepped_within : (n : ExpectedForm) (ss : List g.StatementForm) (o : Owner) (ls : List LevelForm) (ch : ChainForm) (t : Token) (s : ParserState)
    → advanced ss (m.step_within (open_tree o ls ch) (expected_tree n) t) ≡ Some s
    → After s (g.script_tokens ss ++ (owner_tokens o ++ levels_tokens ls ++ chain_tokens ch ++ expected_tokens n) ++ t ∷ [])
stepped_within Needs ss o ls ch t s e = moved (after_extension_if_any ss o ls ch _ _ s (begin_part t) e) (simp (append_assoc, append-nil))
stepped_within (Further h) ss o ls ch t s e = moved (after_extension_if_any ss o ls ch _ _ s (extend h t) e) (simp append_assoc)
stepped_within (Ended p) ss o ls ch t s e = follow_part ss o ls ch p t s e
stepped_within (ZipText p q) ss o ls ch t s e = moved (read_zip_text ss o ls ch p q t s e) (simp append_assoc)
stepped_within (ZipEnd p q r) ss o ls ch t s e = moved (close_zip ss o ls ch p q r t s e) (simp append_assoc)

begin_statement : (ss : List g.StatementForm) (k : Keyword) (s : ParserState) → advanced ss (m.begin_statement k) ≡ Some s → After s (g.script_tokens ss ++ token.Word k ∷ [])
begin_statement ss keyword.Run s e = placed ss (Inside owner.Run [] Alone Needs) _ s e (simp (append_assoc, append-nil))
begin_statement ss (keyword.Opening o) s e = placed ss (Opened o) _ s e refl
begin_statement ss _ s e = absurd (never e)

follow_name : (ss : List g.StatementForm) (o : Opening) (n : List ℕ) (t : Sign) (s : ParserState) → advanced ss (m.follow_name o n t) ≡ Some s
    → After s (g.script_tokens ss ++ (token.Word (keyword.Opening o) ∷ token.Named n ∷ token.Sign t ∷ []))
follow_name ss opening.Let n sign.Equals s e = placed ss (Sealing n) _ s e refl
follow_name ss opening.Feed n (sign.Operator join.Plain) s e = placed ss (Inside (owner.Feed n) [] Alone Needs) _ s e (simp (append_assoc, append-nil))
follow_name ss opening.Close n (sign.Operator join.Plain) s e = placed ss (Inside (owner.CloseSeal n) [] Alone Needs) _ s e (simp (append_assoc, append-nil))
follow_name ss opening.Hold n sign.Equals s e = placed ss (Holding n) _ s e refl
follow_name ss opening.Release n sign.Semicolon s e = one_more ss (g.Release n) s e
follow_name ss _ n _ s e = absurd (never e)

hold_file : (ss : List g.StatementForm) (n f : List ℕ) (s : ParserState) → advanced ss (m.hold_file n f) ≡ Some s → After s (g.script_tokens ss ++ (position_tokens (Marking n) ++ token.Text f ∷ []))
hold_file ss n [] s e = absurd (never e)
hold_file ss n (c ∷ cs) s e = placed ss (Marked n (record { first = c; rest = cs })) _ s e refl

stepped_at : (p : PositionForm) (ss : List g.StatementForm) (t : Token) (s : ParserState)
    → m.step (position_tree (g.script_tree ss) p) t ≡ Some s → After s (g.script_tokens ss ++ position_tokens p ++ t ∷ [])
stepped_at Between ss (token.Word k) s e = moved (begin_statement ss k s e) (simp append-nil)
stepped_at (Opened o) ss (token.Named n) s e = moved (placed ss (Named o n) _ s e refl) (simp append_assoc)
stepped_at (Named o n) ss (token.Sign t) s e = moved (follow_name ss o n t s e) (simp append_assoc)
stepped_at (Sealing n) ss (token.Word keyword.Seal) s e = moved (placed ss (Inside (owner.Seal n) [] Alone Needs) (position_tokens (Sealing n) ++ token.Word keyword.Seal ∷ []) s e (simp (append_assoc, append-nil))) (simp append_assoc)
stepped_at (Holding n) ss (token.Word keyword.Mark) s e = moved (placed ss (Marking n) _ s e refl) (simp append_assoc)
stepped_at (Marking n) ss (token.Text f) s e = moved (hold_file ss n f s e) (simp append_assoc)
stepped_at (Marked n f) ss (token.Sign sign.Semicolon) s e = moved (one_more ss (g.Hold n f) s e) (simp append_assoc)
stepped_at (Inside o ls ch n) ss t s e = stepped_within n ss o ls ch t s e
stepped_at _ ss _ s e = absurd (never e)

stuck : (ts : List Token) (s : ParserState) → fold next None ts ≡ Some s → ⊥
stuck [] s e = cc
stuck (t ∷ ts) s e = stuck ts s e

mutual_step : (t : Token) (ts : List Token) (c : ParserStateForm) (s : ParserState) (o : Option ParserState)
    → ((d : ParserStateForm) → fold next (Some (state_tree d)) ts ≡ Some s → After s (state_tokens d ++ ts))
    → m.step (state_tree c) t ≡ o → fold next o ts ≡ Some s → After s (state_tokens c ++ t ∷ ts)
mutual_step t ts c s None h e f = absurd (stuck ts s f)
mutual_step t ts c s (Some u) h e f =
    let a = stepped_at c.position c.before t u e in
    moved (h a.form (ap (λ v. fold next (Some v) ts) a.tree ∙ f)) (rw a.tokens (simp append_assoc))

-- over the tokens from such a state on
over : (ts : List Token) (c : ParserStateForm) (s : ParserState) → fold next (Some (state_tree c)) ts ≡ Some s → After s (state_tokens c ++ ts)
over [] c s e = record { form = c; tree = cc; tokens = simp append-nil }
over (t ∷ ts) c s e = mutual_step t ts c s _ (λ d. over ts d s) refl e

read : (ts : List Token) (s : ParserState) → state_behind ts ≡ Some s → After s ts
read ts s e = over ts (record { before = []; position = Between }) s e

script_of : (p : PositionForm) (ss : List g.StatementForm) (tree : List Stmt) (ts : List Token)
    → position_tree (g.script_tree ss) p ≡ done tree → g.script_tokens ss ++ position_tokens p ≡ ts → g.IsScript ts tree
script_of Between ss tree ts e f = record { derivation = ss; spelled = simp append-nil at f; stands_for = ap (λ s. s.statements) e }
script_of (Opened o) ss tree ts e f = let p = ap (λ s. s.position) e in let b : ⊥ = cc in absurd b
script_of (Named o n) ss tree ts e f = let p = ap (λ s. s.position) e in let b : ⊥ = cc in absurd b
script_of (Sealing n) ss tree ts e f = let p = ap (λ s. s.position) e in let b : ⊥ = cc in absurd b
script_of (Holding n) ss tree ts e f = let p = ap (λ s. s.position) e in let b : ⊥ = cc in absurd b
script_of (Marking n) ss tree ts e f = let p = ap (λ s. s.position) e in let b : ⊥ = cc in absurd b
script_of (Marked n g) ss tree ts e f = let p = ap (λ s. s.position) e in let b : ⊥ = cc in absurd b
script_of (Inside o ls ch n) ss tree ts e f = let p = ap (λ s. s.position) e in let b : ⊥ = cc in absurd b

-- where the machine ends between two statements, the tokens are a script
pub is_script : (ts : List Token) (tree : List Stmt) → state_behind ts ≡ Some (done tree) → g.IsScript ts tree
is_script ts tree e = let a = read ts (done tree) e in script_of a.form.position a.form.before tree ts a.tree a.tokens
