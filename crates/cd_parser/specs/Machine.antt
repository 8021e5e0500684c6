-- The parser's state behind each token.
use Rattle.std.specs.Prelude.{ℕ, Bool, true, false, if◌then◌else◌, List, [], ◌∷◌, ◌++◌, Option, Some, None}
use Rattle.std.specs.List.{fold}
use Rattle.cd_elem.specs.declared.script.Join.{Join}
use Rattle.cd_elem.specs.declared.script.Join.TheVariants as join
use Rattle.cd_elem.specs.declared.script.Pipe.{Pipe}
use Rattle.cd_elem.specs.declared.script.Pipe.TheVariants as pipe
use Rattle.cd_elem.specs.declared.script.Stmt.{Stmt}
use Rattle.cd_elem.specs.declared.script.Stmt.TheVariants as stmt
use Rattle.cd_elem.specs.declared.word.ClassName.{ClassName}
use Rattle.cd_elem.specs.declared.word.ClassName.TheVariants as name
use Rattle.cd_elem.specs.declared.word.TestName.{TestName}
use Rattle.cd_elem.specs.declared.word.TestName.TheVariants as test
use Rattle.cd_elem.specs.declared.word.ByteMap.TheVariants as byte_map
use Rattle.cd_elem.specs.declared.word.PieceMap.TheVariants as piece_map
use Rattle.cd_elem.specs.declared.token.ClassedWord.{ClassedWord}
use Rattle.cd_elem.specs.declared.token.TestedWord.{TestedWord}
use Rattle.cd_elem.specs.declared.token.FileWord.{FileWord}
use Rattle.cd_elem.specs.declared.token.Opening.{Opening}
use Rattle.cd_elem.specs.declared.token.Opening.TheVariants as opening
use Rattle.cd_elem.specs.declared.token.Zip.{Zip}
use Rattle.cd_elem.specs.declared.token.Zip.TheVariants as zip
use Rattle.cd_elem.specs.declared.token.Keyword.{Keyword}
use Rattle.cd_elem.specs.declared.token.Keyword.TheVariants as keyword
use Rattle.cd_elem.specs.declared.token.Sign.{Sign}
use Rattle.cd_elem.specs.declared.token.Sign.TheVariants as sign
use Rattle.cd_elem.specs.declared.token.Token.{Token}
use Rattle.cd_elem.specs.declared.token.Token.TheVariants as token
use Rattle.cd_grammar.specs.WordTrees as tree
use Rattle.cd_grammar.specs.Grammar.{one_scalar, section_tree}
use Rattle.cd_parser.specs.declared.state.Owner.{Owner}
use Rattle.cd_parser.specs.declared.state.Owner.TheVariants as owner
use Rattle.cd_parser.specs.declared.state.Chain.{Chain}
use Rattle.cd_parser.specs.declared.state.Chain.TheVariants as chain
use Rattle.cd_parser.specs.declared.state.Block.{Block}
use Rattle.cd_parser.specs.declared.state.Block.TheVariants as block
use Rattle.cd_parser.specs.declared.state.Frame.{Frame}
use Rattle.cd_parser.specs.declared.state.Frame.TheVariants as frame
use Rattle.cd_parser.specs.declared.state.Level.{Level}
use Rattle.cd_parser.specs.declared.state.OpenPipe.{OpenPipe}
use Rattle.cd_parser.specs.declared.state.Head.{Head}
use Rattle.cd_parser.specs.declared.state.Head.TheVariants as head
use Rattle.cd_parser.specs.declared.state.Expected.{Expected}
use Rattle.cd_parser.specs.declared.state.Expected.TheVariants as expected
use Rattle.cd_parser.specs.declared.state.Position.{Position}
use Rattle.cd_parser.specs.declared.state.Position.TheVariants as position
use Rattle.cd_parser.specs.declared.state.Progress.{Progress}
use Rattle.cd_parser.specs.declared.state.Progress.TheVariants as progress
use Rattle.cd_parser.specs.declared.state.ParserState.{ParserState}
use Rattle.cd_parser.specs.declared.state.Extension.{Extension}
use Rattle.cd_parser.specs.declared.state.Extension.TheVariants.{Goes, Ends, Opens}
use Rattle.cd_parser.specs.declared.state.Exit.{Exit}
use Rattle.cd_parser.specs.declared.state.Exit.TheVariants.{Stays, Closes, Asks}

-- what a word makes of the place where a part is to begin
abbrev pub begin_by_word : Keyword → Option Extension
begin_by_word (keyword.Plain w) = Some (Ends (tree.plain_word w))
begin_by_word (keyword.Counted w) = Some (Goes (head.Counted w))
begin_by_word (keyword.Classed w) = Some (Goes (head.Classed w))
begin_by_word (keyword.Tested w) = Some (Goes (head.Tested w))
begin_by_word (keyword.Literal w) = Some (Goes (head.Literal w))
begin_by_word (keyword.File w) = Some (Goes (head.File w))
begin_by_word (keyword.List w) = Some (Goes (head.List w))
begin_by_word keyword.MapE = Some (Goes head.MapE)
begin_by_word keyword.Map = Some (Goes head.Map)
begin_by_word keyword.Split = Some (Goes head.Split)
begin_by_word keyword.Replicate = Some (Goes head.Replicate)
begin_by_word keyword.Range = Some (Goes head.Range)
begin_by_word (keyword.Section s) = Some (Goes (head.Section s))
begin_by_word keyword.LineE = Some (Goes (head.Block block.LineE))
begin_by_word keyword.Mark = Some (Goes head.Mark)
begin_by_word keyword.Tee = Some (Goes head.Tee)
begin_by_word (keyword.Zip z) = Some (Goes (head.Zip z))
begin_by_word _ = None

abbrev pub begin_by_sign : Sign → Option Extension
begin_by_sign sign.OpenParen = Some (Opens frame.Parens)
begin_by_sign sign.OpenBrace = Some (Opens (frame.Braces []))
begin_by_sign _ = None

abbrev pub begin_part : Token → Option Extension
begin_part (token.Word k) = begin_by_word k
begin_part (token.Sign s) = begin_by_sign s
begin_part _ = None

abbrev pub end_with_class : ClassedWord → Bool → ClassName → Extension
end_with_class w negated what = Ends (tree.classed_word w (tree.class_of negated what))

abbrev pub end_with_test : TestedWord → Bool → TestName → Extension
end_with_test w negated what = Ends (tree.tested_word w (tree.test_of negated what))

-- what a number makes of a front
abbrev pub extend_by_number : Head → Option ℕ → Option Extension
extend_by_number (head.Counted w) n = Some (Ends (tree.counted_word w (tree.number_of n)))
extend_by_number (head.Below w negated) n = Some (end_with_class w negated (name.Below (tree.number_of n)))
extend_by_number (head.Shorter w negated) n = Some (end_with_test w negated (test.Shorter (tree.number_of n)))
extend_by_number (head.NumberMap m) n = Some (Ends (tree.element_map_word (tree.map_by_number m (tree.byte_of n))))
extend_by_number (head.SplitAt c) n = Some (Ends (tree.split_word c (tree.number_of n)))
extend_by_number head.Replicate n = Some (Goes (head.Replicated n))
extend_by_number head.Range n = Some (Goes (head.RangeFrom n))
extend_by_number (head.RangeFrom a) n = Some (Ends (tree.range_word (tree.number_of a) (tree.number_of n)))
extend_by_number (head.Section s) n = Some (Goes (head.Block (block.Counts s n)))
extend_by_number _ n = None

abbrev pub end_with_scalar : ClassedWord → Bool → Option ℕ → Option Extension
end_with_scalar w negated None = None
end_with_scalar w negated (Some c) = Some (end_with_class w negated (name.Is c))

abbrev pub split_at : Option ℕ → Option Extension
split_at None = None
split_at (Some c) = Some (Goes (head.SplitAt c))

-- the name of a file is not empty
abbrev pub end_with_file : FileWord → List ℕ → Option Extension
end_with_file w [] = None
end_with_file w (c ∷ cs) = Some (Ends (tree.file_word w (c ∷ cs)))

abbrev pub begin_mark : List ℕ → Option Extension
begin_mark [] = None
begin_mark (c ∷ cs) = Some (Goes (head.Block (block.Mark (c ∷ cs))))

-- what a literal makes of a front
abbrev pub extend_by_text : Head → List ℕ → Option Extension
extend_by_text (head.Is w negated) s = end_with_scalar w negated (one_scalar s)
extend_by_text (head.AtEnd w negated t) s = Some (end_with_test w negated (tree.test_of_end t s))
extend_by_text (head.EndMap m) s = Some (Ends (tree.piece_map_word (tree.map_by_text m s)))
extend_by_text (head.Literal w) s = Some (Ends (tree.literal_word w s))
extend_by_text (head.File w) s = end_with_file w s
extend_by_text head.Split s = split_at (one_scalar s)
extend_by_text (head.ListOpen w) s = Some (Goes (head.ListEnded w (s ∷ [])))
extend_by_text (head.ListGoes w ss) s = Some (Goes (head.ListEnded w (ss ++ s ∷ [])))
extend_by_text (head.Replicated n) s = Some (Ends (tree.replicate_word (tree.number_of n) s))
extend_by_text head.Mark s = begin_mark s
extend_by_text _ s = None

abbrev pub begin_class : ClassedWord → Bool → Keyword → Option Extension
begin_class w negated (keyword.Class c) = Some (end_with_class w negated (tree.plain_class c))
begin_class w negated keyword.Is = Some (Goes (head.Is w negated))
begin_class w negated keyword.Below = Some (Goes (head.Below w negated))
begin_class w negated _ = None

abbrev pub begin_class_or_not : ClassedWord → Keyword → Option Extension
begin_class_or_not w keyword.Not = Some (Goes (head.ClassedNot w))
begin_class_or_not w k = begin_class w false k

abbrev pub begin_test : TestedWord → Bool → Keyword → Option Extension
begin_test w negated keyword.Empty = Some (end_with_test w negated test.Empty)
begin_test w negated (keyword.EndTest t) = Some (Goes (head.AtEnd w negated t))
begin_test w negated keyword.Shorter = Some (Goes (head.Shorter w negated))
begin_test w negated _ = None

abbrev pub begin_test_or_not : TestedWord → Keyword → Option Extension
begin_test_or_not w keyword.Not = Some (Goes (head.TestedNot w))
begin_test_or_not w k = begin_test w false k

abbrev pub begin_element_map : Keyword → Option Extension
begin_element_map (keyword.NumberMap m) = Some (Goes (head.NumberMap m))
begin_element_map keyword.Rot13 = Some (Ends (tree.element_map_word byte_map.Rot13))
begin_element_map _ = None

abbrev pub begin_piece_map : Keyword → Option Extension
begin_piece_map (keyword.EndMap m) = Some (Goes (head.EndMap m))
begin_piece_map keyword.Reverse = Some (Ends (tree.piece_map_word piece_map.Reverse))
begin_piece_map _ = None

-- what a word makes of a front
abbrev pub extend_by_word : Head → Keyword → Option Extension
extend_by_word (head.Classed w) k = begin_class_or_not w k
extend_by_word (head.ClassedNot w) k = begin_class w true k
extend_by_word (head.Tested w) k = begin_test_or_not w k
extend_by_word (head.TestedNot w) k = begin_test w true k
extend_by_word head.MapE k = begin_element_map k
extend_by_word head.Map k = begin_piece_map k
extend_by_word _ k = None

-- what a sign makes of a front
abbrev pub extend_by_sign : Head → Sign → Option Extension
extend_by_sign (head.List w) sign.OpenSquare = Some (Goes (head.ListOpen w))
extend_by_sign (head.ListOpen w) sign.CloseSquare = Some (Ends (tree.list_word w []))
extend_by_sign (head.ListEnded w ss) sign.Comma = Some (Goes (head.ListGoes w ss))
extend_by_sign (head.ListEnded w ss) sign.CloseSquare = Some (Ends (tree.list_word w ss))
extend_by_sign (head.Block b) sign.OpenBrace = Some (Opens (frame.Block b))
extend_by_sign head.Tee sign.OpenParen = Some (Opens frame.Tee)
extend_by_sign (head.Zip z) sign.OpenParen = Some (Opens (frame.ZipFirst z))
extend_by_sign _ _ = None

abbrev pub extend : Head → Token → Option Extension
extend h (token.Word k) = extend_by_word h k
extend h (token.Sign s) = extend_by_sign h s
extend h (token.Number n) = extend_by_number h n
extend h (token.Text s) = extend_by_text h s
extend h (token.Named n) = None

abbrev pub open_pipe : Owner → List Level → Chain → OpenPipe
open_pipe o ls ch = record { owner = o; levels = ls; chain = ch }

-- the place in this pipe where this has to come next
abbrev pub reach : OpenPipe → Expected → Progress
reach i n = progress.Reaches (position.Inside i n)

-- a bracket opens in this pipe
abbrev pub enter_bracket : OpenPipe → Frame → Progress
enter_bracket i f = reach (open_pipe i.owner (record { frame = f; outer = i.chain } ∷ i.levels) chain.Alone) expected.Part

abbrev pub after_extension : OpenPipe → Extension → Progress
after_extension i (Goes h) = reach i (expected.Further h)
after_extension i (Ends w) = reach i (expected.Ended (pipe.Word w))
after_extension i (Opens f) = enter_bracket i f

abbrev pub after_extension_if_any : OpenPipe → Option Extension → Option Progress
after_extension_if_any i None = None
after_extension_if_any i (Some u) = Some (after_extension i u)

abbrev pub is_same_join : Join → Join → Bool
is_same_join join.Plain join.Plain = true
is_same_join join.Keep join.Keep = true
is_same_join join.Return join.Return = true
is_same_join join.Both join.Both = true
is_same_join join.Up join.Up = true
is_same_join join.Asked join.Asked = true
is_same_join _ _ = false

-- a part that has ended, with the operator behind it
abbrev pub join_part : Chain → Join → Pipe → Option Chain
join_part chain.Alone j p = Some (chain.Joined j (p ∷ []))
join_part (chain.Joined i ps) j p = if is_same_join i j then Some (chain.Joined i (ps ++ p ∷ [])) else None

abbrev pub after_join_if_any : Owner → List Level → Option Chain → Option Progress
after_join_if_any o ls None = None
after_join_if_any o ls (Some ch) = Some (reach (open_pipe o ls ch) expected.Part)

-- a pipe that ends with this part
abbrev pub close_chain : Chain → Pipe → Pipe
close_chain chain.Alone p = p
close_chain (chain.Joined j ps) p = pipe.Chain j (ps ++ p ∷ [])

abbrev pub owned_statement : Owner → Pipe → Stmt
owned_statement owner.Run p = stmt.Run p
owned_statement (owner.Seal n) p = stmt.Seal n p
owned_statement (owner.Feed n) p = stmt.Feed n p
owned_statement (owner.CloseSeal n) p = stmt.CloseSeal n p

abbrev pub close_block : Block → Pipe → Pipe
close_block (block.Counts s n) p = section_tree s (tree.number_of n) p
close_block block.LineE p = pipe.LineE p
close_block (block.Mark f) p = pipe.Mark f p

-- what a sign makes of a form with two pipes, where the second one has ended
abbrev pub leave_zip : Zip → Pipe → Pipe → Sign → Option Exit
leave_zip zip.Source q p sign.Comma = Some (Asks q p)
leave_zip zip.Sink q p sign.CloseParen = Some (Closes (pipe.ZipSink q p))
leave_zip zip.Conduit q p sign.CloseParen = Some (Closes (pipe.ZipConduit q p))
leave_zip _ q p _ = None

-- what a sign makes of the innermost bracket, where a pipe has ended in it
abbrev pub leave_bracket : Frame → Pipe → Sign → Option Exit
leave_bracket frame.Parens p sign.CloseParen = Some (Closes p)
leave_bracket (frame.Braces ps) p sign.Semicolon = Some (Stays (frame.Braces (ps ++ p ∷ [])))
leave_bracket (frame.Braces ps) p sign.CloseBrace = Some (Closes (pipe.Sequence (ps ++ p ∷ [])))
leave_bracket (frame.Block b) p sign.CloseBrace = Some (Closes (close_block b p))
leave_bracket frame.Tee p sign.CloseParen = Some (Closes (pipe.Tee p))
leave_bracket (frame.ZipFirst z) p sign.Comma = Some (Stays (frame.ZipSecond z p))
leave_bracket (frame.ZipSecond z q) p s = leave_zip z q p s
leave_bracket _ p _ = None

-- the pipe around the bracket
abbrev pub after_exit_if_any : OpenPipe → Option Exit → Option Progress
after_exit_if_any i None = None
after_exit_if_any i (Some (Stays f)) = Some (enter_bracket i f)
after_exit_if_any i (Some (Closes p)) = Some (reach i (expected.Ended p))
after_exit_if_any i (Some (Asks q p)) = Some (reach i (expected.ZipText q p))

-- the statement has ended, if this is its semicolon
abbrev pub finish_statement : Owner → Pipe → Sign → Option Progress
finish_statement o p sign.Semicolon = Some (progress.Ends (owned_statement o p))
finish_statement o p _ = None

-- a pipe has ended
abbrev pub end_pipe : Owner → List Level → Pipe → Sign → Option Progress
end_pipe o [] p s = finish_statement o p s
end_pipe o (l ∷ ls) p s = after_exit_if_any (open_pipe o ls l.outer) (leave_bracket l.frame p s)

abbrev pub operator_of : Sign → Option Join
operator_of (sign.Operator j) = Some j
operator_of _ = None

-- a part has ended, and this sign stands behind it
abbrev pub follow_part_by : OpenPipe → Pipe → Sign → Option Join → Option Progress
follow_part_by i p s None = end_pipe i.owner i.levels (close_chain i.chain p) s
follow_part_by i p s (Some j) = after_join_if_any i.owner i.levels (join_part i.chain j p)

abbrev pub follow_part : OpenPipe → Pipe → Token → Option Progress
follow_part i p (token.Sign s) = follow_part_by i p s (operator_of s)
follow_part i p _ = None

abbrev pub read_zip_text : OpenPipe → Pipe → Pipe → Token → Option Progress
read_zip_text i q p (token.Text s) = Some (reach i (expected.ZipEnd q p s))
read_zip_text i q p _ = None

abbrev pub close_zip : OpenPipe → Pipe → Token → Option Progress
close_zip i p (token.Sign sign.CloseParen) = Some (reach i (expected.Ended p))
close_zip i p _ = None

abbrev pub step_within : OpenPipe → Expected → Token → Option Progress
step_within i expected.Part t = after_extension_if_any i (begin_part t)
step_within i (expected.Further h) t = after_extension_if_any i (extend h t)
step_within i (expected.Ended p) t = follow_part i p t
step_within i (expected.ZipText q p) t = read_zip_text i q p t
step_within i (expected.ZipEnd q p s) t = close_zip i (pipe.ZipSource q p s) t

abbrev pub begin_pipe : Owner → Progress
begin_pipe o = reach (open_pipe o [] chain.Alone) expected.Part

-- a word between two statements
abbrev pub begin_statement : Keyword → Option Progress
begin_statement keyword.Run = Some (begin_pipe owner.Run)
begin_statement (keyword.Opening o) = Some (progress.Reaches (position.Opened o))
begin_statement _ = None

-- a sign behind the name of a statement
abbrev pub follow_name : Opening → List ℕ → Sign → Option Progress
follow_name opening.Let n sign.Equals = Some (progress.Reaches (position.Sealing n))
follow_name opening.Feed n (sign.Operator join.Plain) = Some (begin_pipe (owner.Feed n))
follow_name opening.Close n (sign.Operator join.Plain) = Some (begin_pipe (owner.CloseSeal n))
follow_name opening.Hold n sign.Equals = Some (progress.Reaches (position.Holding n))
follow_name opening.Release n sign.Semicolon = Some (progress.Ends (stmt.Release n))
follow_name _ n _ = None

abbrev pub hold_file : List ℕ → List ℕ → Option Progress
hold_file n [] = None
hold_file n (c ∷ cs) = Some (progress.Reaches (position.Marked n (c ∷ cs)))

-- what a token makes of the place in a statement
abbrev pub step_at : Position → Token → Option Progress
step_at position.Between (token.Word k) = begin_statement k
step_at (position.Opened o) (token.Named n) = Some (progress.Reaches (position.Named o n))
step_at (position.Named o n) (token.Sign s) = follow_name o n s
step_at (position.Sealing n) (token.Word keyword.Seal) = Some (begin_pipe (owner.Seal n))
step_at (position.Holding n) (token.Word keyword.Mark) = Some (progress.Reaches (position.Marking n))
step_at (position.Marking n) (token.Text f) = hold_file n f
step_at (position.Marked n f) (token.Sign sign.Semicolon) = Some (progress.Ends (stmt.Hold n f))
step_at (position.Inside i n) t = step_within i n t
step_at _ _ = None

-- behind whole statements
abbrev pub done : List Stmt → ParserState
done ss = record { statements = ss; position = position.Between }

-- with the statements before
abbrev pub advance : List Stmt → Option Progress → Option ParserState
advance ss None = None
advance ss (Some (progress.Reaches p)) = Some (record { statements = ss; position = p })
advance ss (Some (progress.Ends s)) = Some (done (ss ++ s ∷ []))

abbrev pub step : ParserState → Token → Option ParserState
step s t = advance s.statements (step_at s.position t)

abbrev pub start : ParserState
start = done []

abbrev pub next : Option ParserState → Token → Option ParserState
next None t = None
next (Some s) t = step s t

-- the state behind these tokens, None from the first refused one on
abbrev pub state_behind : List Token → Option ParserState
state_behind ts = fold next (Some start) ts
