-- Whether each character of a tree is a scalar value and each byte is below 256, as in every tree that a program holds.
use Rattle.std.specs.Prelude.{◌≡◌, ℕ, Bool, true, false, ◌&&◌, nat_lt, [], ◌∷◌, map, refl}
use Rattle.std.specs.List.{list_all}
use lib.Utf8.{scalar}
use Rattle.cd_elem.specs.declared.script.Pipe.{Pipe}
use Rattle.cd_elem.specs.declared.script.Pipe.TheOpen.{Pipe-F}
use Rattle.cd_elem.specs.declared.script.Pipe.TheFolds.{fold-Pipe}
use Rattle.cd_elem.specs.declared.script.Stmt.{Stmt}
use Rattle.cd_elem.specs.declared.script.Stmt.TheVariants as stmt
use Rattle.cd_elem.specs.declared.word.Word.{Word}
use Rattle.cd_elem.specs.declared.word.Word.TheVariants as words
use Rattle.cd_elem.specs.declared.word.ElemWord.{ElemWord}
use Rattle.cd_elem.specs.declared.word.ElemWord.TheVariants as elems
use Rattle.cd_elem.specs.declared.word.SplitWord.{SplitWord}
use Rattle.cd_elem.specs.declared.word.SplitWord.TheVariants as splits
use Rattle.cd_elem.specs.declared.word.ClassName.{ClassName}
use Rattle.cd_elem.specs.declared.word.ClassName.TheVariants as name
use Rattle.cd_elem.specs.declared.word.ByteMap.{ByteMap}
use Rattle.cd_elem.specs.declared.word.ByteMap.TheVariants as byte_map

abbrev pub is_char : ℕ → Bool
is_char c = scalar c

-- the surrogates, U+D800 to U+DFFF, are none, nor is any number past U+10FFFF
char_rows : map is_char (0xD7FF ∷ 0xD800 ∷ 0xDFFF ∷ 0xE000 ∷ 0x10FFFF ∷ 0x110000 ∷ []) ≡ true ∷ false ∷ false ∷ true ∷ true ∷ false ∷ []
char_rows = refl

abbrev pub is_byte : ℕ → Bool
is_byte n = nat_lt n 256

abbrev pub class_name : ClassName → Bool
class_name (name.Is c) = is_char c
class_name _ = true

abbrev pub element_map : ByteMap → Bool
element_map (byte_map.Xor k) = is_byte k
element_map (byte_map.Add k) = is_byte k
element_map byte_map.Rot13 = true

abbrev pub elem : ElemWord → Bool
elem (elems.TakeWhileE c) = class_name c.what
elem (elems.FilterE c) = class_name c.what
elem (elems.DropWhileE c) = class_name c.what
elem (elems.AllE c) = class_name c.what
elem (elems.AnyE c) = class_name c.what
elem (elems.MapE m) = element_map m
elem _ = true

abbrev pub split : SplitWord → Bool
split (splits.Split c n) = is_char c
split _ = true

abbrev pub word : Word → Bool
word (words.Elem w) = elem w
word (words.Split w) = split w
word _ = true

-- one level, with the answers for the pipes in it
abbrev pub range_step : Pipe-F Bool → Bool
range_step (Pipe-F.Word w) = word w
range_step (Pipe-F.Chain j ps) = list_all (λ p. p) ps
range_step (Pipe-F.Sequence ps) = list_all (λ p. p) ps
range_step (Pipe-F.Exactly n p) = p
range_step (Pipe-F.ExactlyE n p) = p
range_step (Pipe-F.LineE p) = p
range_step (Pipe-F.Mark s p) = p
range_step (Pipe-F.Tee p) = p
range_step (Pipe-F.ZipSource p q s) = p && q
range_step (Pipe-F.ZipSink p q) = p && q
range_step (Pipe-F.ZipConduit p q) = p && q

unfoldable pub is_in_range : Pipe → Bool
is_in_range p = fold-Pipe Bool range_step p

abbrev pub statement : Stmt → Bool
statement (stmt.Run p) = is_in_range p
statement (stmt.Seal n p) = is_in_range p
statement (stmt.Feed n p) = is_in_range p
statement (stmt.CloseSeal n p) = is_in_range p
statement _ = true
