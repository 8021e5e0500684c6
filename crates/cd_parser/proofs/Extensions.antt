-- What a token makes of the front of a word or of a form spells the tokens so far.
use Rattle.std.proofs.Common.{◌≡◌, ℕ, Bool, true, false, List, [], ◌∷◌, ◌++◌, Option, Some, None, refl, append_assoc}
use Rattle.cd_elem.specs.declared.token.ClassedWord.{ClassedWord}
use Rattle.cd_elem.specs.declared.token.TestedWord.{TestedWord}
use Rattle.cd_elem.specs.declared.token.FileWord.{FileWord}
use Rattle.cd_elem.specs.declared.token.Keyword.{Keyword}
use Rattle.cd_elem.specs.declared.token.Keyword.TheVariants as keyword
use Rattle.cd_elem.specs.declared.token.Sign.{Sign}
use Rattle.cd_elem.specs.declared.token.Sign.TheVariants as sign
use Rattle.cd_elem.specs.declared.token.Token.{Token}
use Rattle.cd_elem.specs.declared.token.Token.TheVariants as token
use Rattle.cd_parser.specs.declared.state.Extension.{Extension}
use Rattle.cd_parser.specs.declared.state.Extension.TheVariants as turns
use Rattle.cd_grammar.specs.Grammar as g
use Rattle.cd_parser.specs.Machine as m
use Rattle.cd_parser.proofs.StateForms.{FrameForm, Parens, Braces, Blocked, InTee, ZipFirst, HeadForm, frame_tree, frame_tokens, head_tree, head_tokens}
use Rattle.cd_parser.proofs.StateForms as f

pub data ExtensionForm : Type 0 where
  Goes : HeadForm → ExtensionForm
  Ends : g.WordForm → ExtensionForm
  Opens : FrameForm → ExtensionForm

abbrev pub extension_tree : ExtensionForm → Extension
extension_tree (Goes h) = turns.Goes (head_tree h)
extension_tree (Ends w) = turns.Ends (g.word_tree w)
extension_tree (Opens f) = turns.Opens (frame_tree f)

abbrev pub extension_tokens : ExtensionForm → List Token
extension_tokens (Goes h) = head_tokens h
extension_tokens (Ends w) = g.word_tokens w
extension_tokens (Opens f) = frame_tokens f

pub record Extends (extension : Extension) (ts : List Token) : Type 0 where
  pub form : ExtensionForm
  pub tree : extension_tree form ≡ extension
  pub tokens : extension_tokens form ≡ ts

pub never : {A : Type 0} {x : A} → None ≡ Some x → ⊥
never e = cc

begin_by_word : (k : Keyword) (extension : Extension) → m.begin_by_word k ≡ Some extension → Extends extension (token.Word k ∷ [])
begin_by_word (keyword.Plain w) extension e = record { form = Ends (g.Plain w); tree = cc; tokens = refl }
begin_by_word (keyword.Counted w) extension e = record { form = Goes (f.Counted w); tree = cc; tokens = refl }
begin_by_word (keyword.Classed w) extension e = record { form = Goes (f.Classed w); tree = cc; tokens = refl }
begin_by_word (keyword.Tested w) extension e = record { form = Goes (f.Tested w); tree = cc; tokens = refl }
begin_by_word (keyword.Literal w) extension e = record { form = Goes (f.Literal w); tree = cc; tokens = refl }
begin_by_word (keyword.File w) extension e = record { form = Goes (f.OfFile w); tree = cc; tokens = refl }
begin_by_word (keyword.List w) extension e = record { form = Goes (f.OfList w); tree = cc; tokens = refl }
begin_by_word keyword.MapE extension e = record { form = Goes f.MapE; tree = cc; tokens = refl }
begin_by_word keyword.Map extension e = record { form = Goes f.Map; tree = cc; tokens = refl }
begin_by_word keyword.Split extension e = record { form = Goes f.Split; tree = cc; tokens = refl }
begin_by_word keyword.Replicate extension e = record { form = Goes f.Replicate; tree = cc; tokens = refl }
begin_by_word keyword.Range extension e = record { form = Goes f.Range; tree = cc; tokens = refl }
begin_by_word (keyword.Section s) extension e = record { form = Goes (f.Counts s); tree = cc; tokens = refl }
begin_by_word keyword.LineE extension e = record { form = Goes (f.BlockHead g.LineE); tree = cc; tokens = refl }
begin_by_word keyword.Mark extension e = record { form = Goes f.Mark; tree = cc; tokens = refl }
begin_by_word keyword.Tee extension e = record { form = Goes f.TeeHead; tree = cc; tokens = refl }
begin_by_word (keyword.Zip z) extension e = record { form = Goes (f.ZipHead z); tree = cc; tokens = refl }
begin_by_word _ extension e = absurd (never e)

begin_by_sign : (s : Sign) (extension : Extension) → m.begin_by_sign s ≡ Some extension → Extends extension (token.Sign s ∷ [])
begin_by_sign sign.OpenParen extension e = record { form = Opens Parens; tree = cc; tokens = refl }
begin_by_sign sign.OpenBrace extension e = record { form = Opens Braces; tree = cc; tokens = refl }
begin_by_sign _ extension e = absurd (never e)

pub begin_part : (t : Token) (extension : Extension) → m.begin_part t ≡ Some extension → Extends extension (t ∷ [])
begin_part (token.Word k) extension e = begin_by_word k extension e
begin_part (token.Sign s) extension e = begin_by_sign s extension e
begin_part _ extension e = absurd (never e)

extend_by_number : (h : HeadForm) (n : g.Numeral) (extension : Extension) → m.extend_by_number (head_tree h) n ≡ Some extension → Extends extension (head_tokens h ++ token.Number n ∷ [])
extend_by_number (f.Counted w) n extension e = record { form = Ends (g.Counted w n); tree = cc; tokens = refl }
extend_by_number (f.Below w negated) n extension e = record { form = Ends (g.Classed w negated (g.Below n)); tree = cc; tokens = simp append_assoc }
extend_by_number (f.Shorter w negated) n extension e = record { form = Ends (g.Tested w negated (g.Shorter n)); tree = cc; tokens = simp append_assoc }
extend_by_number (f.ByNumber m) n extension e = record { form = Ends (g.MapE (g.ByNumber m n)); tree = cc; tokens = refl }
extend_by_number (f.SplitAt c) n extension e = record { form = Ends (g.Split c n); tree = cc; tokens = refl }
extend_by_number f.Replicate n extension e = record { form = Goes (f.Replicated n); tree = cc; tokens = refl }
extend_by_number f.Range n extension e = record { form = Goes (f.RangeFrom n); tree = cc; tokens = refl }
extend_by_number (f.RangeFrom a) n extension e = record { form = Ends (g.Range a n); tree = cc; tokens = refl }
extend_by_number (f.Counts s) n extension e = record { form = Goes (f.BlockHead (g.Counts s n)); tree = cc; tokens = refl }
extend_by_number _ n extension e = absurd (never e)

end_with_scalar : (w : ClassedWord) (negated : Bool) (s : List ℕ) (o : Option ℕ) (extension : Extension) → g.one_scalar s ≡ o → m.end_with_scalar w negated o ≡ Some extension
    → Extends extension ((token.Word (keyword.Classed w) ∷ g.not_tokens negated ++ token.Word keyword.Is ∷ []) ++ token.Text s ∷ [])
end_with_scalar w negated s None extension e h = absurd (never h)
end_with_scalar w negated s (Some c) extension e h =
    record { form = Ends (g.Classed w negated (g.Is (record { text = s; scalar = c; one = e }))); tree = cc; tokens = simp append_assoc }

split_at : (s : List ℕ) (o : Option ℕ) (extension : Extension) → g.one_scalar s ≡ o → m.split_at o ≡ Some extension
    → Extends extension (token.Word keyword.Split ∷ token.Text s ∷ [])
split_at s None extension e h = absurd (never h)
split_at s (Some c) extension e h = record { form = Goes (f.SplitAt (record { text = s; scalar = c; one = e })); tree = cc; tokens = refl }

end_with_file : (w : FileWord) (s : List ℕ) (extension : Extension) → m.end_with_file w s ≡ Some extension → Extends extension (token.Word (keyword.File w) ∷ token.Text s ∷ [])
end_with_file w [] extension e = absurd (never e)
end_with_file w (c ∷ cs) extension e = record { form = Ends (g.OfFile w (record { first = c; rest = cs })); tree = cc; tokens = refl }

begin_mark : (s : List ℕ) (extension : Extension) → m.begin_mark s ≡ Some extension → Extends extension (token.Word keyword.Mark ∷ token.Text s ∷ [])
begin_mark [] extension e = absurd (never e)
begin_mark (c ∷ cs) extension e = record { form = Goes (f.BlockHead (g.Mark (record { first = c; rest = cs }))); tree = cc; tokens = refl }

extend_by_text : (h : HeadForm) (s : List ℕ) (extension : Extension) → m.extend_by_text (head_tree h) s ≡ Some extension → Extends extension (head_tokens h ++ token.Text s ∷ [])
extend_by_text (f.Is w negated) s extension e = end_with_scalar w negated s _ extension refl e
extend_by_text (f.AtEnd w negated t) s extension e = record { form = Ends (g.Tested w negated (g.AtEnd t s)); tree = cc; tokens = simp append_assoc }
extend_by_text (f.ByText m) s extension e = record { form = Ends (g.Map (g.ByText m s)); tree = cc; tokens = refl }
extend_by_text (f.Literal w) s extension e = record { form = Ends (g.Literal w s); tree = cc; tokens = refl }
extend_by_text (f.OfFile w) s extension e = end_with_file w s extension e
extend_by_text f.Split s extension e = split_at s _ extension refl e
extend_by_text (f.ListOpen w) s extension e = record { form = Goes (f.ListEnded w (g.OneLiteral s)); tree = cc; tokens = refl }
extend_by_text (f.ListGoes w ss) s extension e = record { form = Goes (f.ListEnded w (g.AndLiteral ss s)); tree = cc; tokens = simp append_assoc }
extend_by_text (f.Replicated n) s extension e = record { form = Ends (g.Replicate n s); tree = cc; tokens = refl }
extend_by_text f.Mark s extension e = begin_mark s extension e
extend_by_text _ s extension e = absurd (never e)

begin_class : (w : ClassedWord) (negated : Bool) (k : Keyword) (extension : Extension) → m.begin_class w negated k ≡ Some extension
    → Extends extension (token.Word (keyword.Classed w) ∷ g.not_tokens negated ++ token.Word k ∷ [])
begin_class w negated (keyword.Class c) extension e = record { form = Ends (g.Classed w negated (g.Simple c)); tree = cc; tokens = refl }
begin_class w negated keyword.Is extension e = record { form = Goes (f.Is w negated); tree = cc; tokens = refl }
begin_class w negated keyword.Below extension e = record { form = Goes (f.Below w negated); tree = cc; tokens = refl }
begin_class w negated _ extension e = absurd (never e)

begin_class_or_not : (w : ClassedWord) (k : Keyword) (extension : Extension) → m.begin_class_or_not w k ≡ Some extension → Extends extension (token.Word (keyword.Classed w) ∷ token.Word k ∷ [])
begin_class_or_not w keyword.Not extension e = record { form = Goes (f.ClassedNot w); tree = cc; tokens = refl }
begin_class_or_not w (keyword.Class c) extension e = begin_class w false (keyword.Class c) extension e
begin_class_or_not w keyword.Is extension e = begin_class w false keyword.Is extension e
begin_class_or_not w keyword.Below extension e = begin_class w false keyword.Below extension e
begin_class_or_not w _ extension e = absurd (never e)

begin_test : (w : TestedWord) (negated : Bool) (k : Keyword) (extension : Extension) → m.begin_test w negated k ≡ Some extension
    → Extends extension (token.Word (keyword.Tested w) ∷ g.not_tokens negated ++ token.Word k ∷ [])
begin_test w negated keyword.Empty extension e = record { form = Ends (g.Tested w negated g.Empty); tree = cc; tokens = refl }
begin_test w negated (keyword.EndTest t) extension e = record { form = Goes (f.AtEnd w negated t); tree = cc; tokens = refl }
begin_test w negated keyword.Shorter extension e = record { form = Goes (f.Shorter w negated); tree = cc; tokens = refl }
begin_test w negated _ extension e = absurd (never e)

begin_test_or_not : (w : TestedWord) (k : Keyword) (extension : Extension) → m.begin_test_or_not w k ≡ Some extension → Extends extension (token.Word (keyword.Tested w) ∷ token.Word k ∷ [])
begin_test_or_not w keyword.Not extension e = record { form = Goes (f.TestedNot w); tree = cc; tokens = refl }
begin_test_or_not w keyword.Empty extension e = begin_test w false keyword.Empty extension e
begin_test_or_not w (keyword.EndTest t) extension e = begin_test w false (keyword.EndTest t) extension e
begin_test_or_not w keyword.Shorter extension e = begin_test w false keyword.Shorter extension e
begin_test_or_not w _ extension e = absurd (never e)

begin_element_map : (k : Keyword) (extension : Extension) → m.begin_element_map k ≡ Some extension → Extends extension (token.Word keyword.MapE ∷ token.Word k ∷ [])
begin_element_map (keyword.NumberMap m) extension e = record { form = Goes (f.ByNumber m); tree = cc; tokens = refl }
begin_element_map keyword.Rot13 extension e = record { form = Ends (g.MapE g.Rot13); tree = cc; tokens = refl }
begin_element_map _ extension e = absurd (never e)

begin_piece_map : (k : Keyword) (extension : Extension) → m.begin_piece_map k ≡ Some extension → Extends extension (token.Word keyword.Map ∷ token.Word k ∷ [])
begin_piece_map (keyword.EndMap m) extension e = record { form = Goes (f.ByText m); tree = cc; tokens = refl }
begin_piece_map keyword.Reverse extension e = record { form = Ends (g.Map g.Reverse); tree = cc; tokens = refl }
begin_piece_map _ extension e = absurd (never e)

extend_by_word : (h : HeadForm) (k : Keyword) (extension : Extension) → m.extend_by_word (head_tree h) k ≡ Some extension → Extends extension (head_tokens h ++ token.Word k ∷ [])
extend_by_word (f.Classed w) k extension e = begin_class_or_not w k extension e
extend_by_word (f.ClassedNot w) k extension e = begin_class w true k extension e
extend_by_word (f.Tested w) k extension e = begin_test_or_not w k extension e
extend_by_word (f.TestedNot w) k extension e = begin_test w true k extension e
extend_by_word f.MapE k extension e = begin_element_map k extension e
extend_by_word f.Map k extension e = begin_piece_map k extension e
extend_by_word _ k extension e = absurd (never e)

extend_by_sign : (h : HeadForm) (s : Sign) (extension : Extension) → m.extend_by_sign (head_tree h) s ≡ Some extension → Extends extension (head_tokens h ++ token.Sign s ∷ [])
extend_by_sign (f.OfList w) sign.OpenSquare extension e = record { form = Goes (f.ListOpen w); tree = cc; tokens = refl }
extend_by_sign (f.ListOpen w) sign.CloseSquare extension e = record { form = Ends (g.OfList w g.Nothing); tree = cc; tokens = refl }
extend_by_sign (f.ListEnded w ss) sign.Comma extension e = record { form = Goes (f.ListGoes w ss); tree = cc; tokens = refl }
extend_by_sign (f.ListEnded w ss) sign.CloseSquare extension e = record { form = Ends (g.OfList w (g.All ss)); tree = cc; tokens = refl }
extend_by_sign (f.BlockHead b) sign.OpenBrace extension e = record { form = Opens (Blocked b); tree = cc; tokens = refl }
extend_by_sign f.TeeHead sign.OpenParen extension e = record { form = Opens InTee; tree = cc; tokens = refl }
extend_by_sign (f.ZipHead z) sign.OpenParen extension e = record { form = Opens (ZipFirst z); tree = cc; tokens = refl }
extend_by_sign _ s extension e = absurd (never e)

pub extend : (h : HeadForm) (t : Token) (extension : Extension) → m.extend (head_tree h) t ≡ Some extension → Extends extension (head_tokens h ++ t ∷ [])
extend h (token.Word k) extension e = extend_by_word h k extension e
extend h (token.Sign s) extension e = extend_by_sign h s extension e
extend h (token.Number n) extension e = extend_by_number h n extension e
extend h (token.Text s) extension e = extend_by_text h s extension e
extend h (token.Named n) extension e = absurd (never e)
