-- Which trees are lawful: each member of a `|=` but the last is an invertible map.
use Rattle.std.specs.Prelude.{◌≡◌, Bool, true, false, ◌&&◌, List, [], ◌∷◌, map, IsTrue}
use Rattle.std.proofs.Common.{◌∙◌, ap, sym}
use Rattle.cd_elem.specs.declared.word.Word.{Word}
use Rattle.cd_elem.specs.declared.word.ElemWord.{ElemWord}
use Rattle.cd_elem.specs.declared.word.PieceWord.{PieceWord}
use Rattle.cd_elem.specs.declared.script.Join.{Join}
use Rattle.cd_elem.specs.declared.script.Pipe.{Pipe}
use Rattle.cd_elem.specs.declared.script.Pipe.TheVariants as pipe
use Rattle.cd_elem.specs.declared.script.Pipe.TheOpen.{Pipe-F}
use Rattle.cd_elem.specs.declared.script.Pipe.TheFolds.{fold-Pipe, fold-roll-Pipe}
use Rattle.cd_elem.specs.declared.script.Stmt.{Stmt}

-- what is judged of a tree: whether it is lawful, and whether it is an invertible map
pub record Lawfulness : Type 0 where
  pub lawful : Bool
  pub map : Bool

abbrev is_element_map : ElemWord → Bool
is_element_map ElemWord.PassE = true
is_element_map (ElemWord.MapE f) = true
is_element_map _ = false

abbrev is_piece_map : PieceWord → Bool
is_piece_map PieceWord.Pass = true
is_piece_map (PieceWord.Map f) = true
is_piece_map _ = false

abbrev pub is_map : Word → Bool
is_map (Word.Elem w) = is_element_map w
is_map (Word.Piece w) = is_piece_map w
is_map _ = false

abbrev pub all_lawful : List Lawfulness → Bool
all_lawful [] = true
all_lawful (a ∷ more) = a.lawful && all_lawful more

abbrev pub all_maps : List Lawfulness → Bool
all_maps [] = true
all_maps (a ∷ more) = a.map && all_maps more

abbrev pub maps_but_last : List Lawfulness → Bool
maps_but_last [] = true
maps_but_last (a ∷ []) = true
maps_but_last (a ∷ b ∷ more) = a.map && maps_but_last (b ∷ more)

-- maps in a row by `|` are a map
abbrev pub chain_judged : Join → List Lawfulness → Lawfulness
chain_judged Join.Plain parts = record { lawful = all_lawful parts; map = all_maps parts }
chain_judged Join.Keep parts = record { lawful = all_lawful parts && maps_but_last parts; map = false }
chain_judged Join.Return parts = record { lawful = all_lawful parts; map = false }
chain_judged Join.Both parts = record { lawful = all_lawful parts; map = false }
chain_judged Join.Up parts = record { lawful = all_lawful parts; map = false }
chain_judged Join.Asked parts = record { lawful = all_lawful parts; map = false }

-- a form of lawful parts
abbrev pub form_judged : Bool → Lawfulness
form_judged lawful = record { lawful = lawful; map = false }

abbrev pub node_judged : Pipe-F Lawfulness → Lawfulness
node_judged (Pipe-F.Word w) = record { lawful = true; map = is_map w }
node_judged (Pipe-F.Chain join parts) = chain_judged join parts
node_judged (Pipe-F.Sequence parts) = form_judged (all_lawful parts)
node_judged (Pipe-F.Exactly n a) = form_judged a.lawful
node_judged (Pipe-F.ExactlyE n a) = form_judged a.lawful
node_judged (Pipe-F.LineE a) = form_judged a.lawful
node_judged (Pipe-F.Mark name a) = form_judged a.lawful
node_judged (Pipe-F.Tee a) = form_judged a.lawful
node_judged (Pipe-F.ZipSource a b literal) = form_judged (a.lawful && b.lawful)
node_judged (Pipe-F.ZipSink a b) = form_judged (a.lawful && b.lawful)
node_judged (Pipe-F.ZipConduit a b) = form_judged (a.lawful && b.lawful)

abbrev pub judged : Pipe → Lawfulness
judged = fold-Pipe Lawfulness node_judged

abbrev pub IsLawfulTree : Pipe → Type 0
IsLawfulTree p = IsTrue (judged p).lawful

-- a statement of a lawful tree, if of any
abbrev pub OfLawfulTree : Stmt → Type 0
OfLawfulTree (Stmt.Run p) = IsLawfulTree p
OfLawfulTree (Stmt.Seal name p) = IsLawfulTree p
OfLawfulTree (Stmt.Feed name p) = IsLawfulTree p
OfLawfulTree (Stmt.CloseSeal name p) = IsLawfulTree p
OfLawfulTree (Stmt.Hold name file) = Unit {0}
OfLawfulTree (Stmt.Release name) = Unit {0}

abbrev pub IsLawfulScript : List Stmt → Type 0
IsLawfulScript [] = Unit {0}
IsLawfulScript (s ∷ more) = OfLawfulTree s × IsLawfulScript more

-- ---- what is judged at words and chains

pub word_judged : (w : Word) → judged (pipe.Word w) ≡ record { lawful = true; map = is_map w }
word_judged w = ap judged (sym (pipe.rolls-Word w)) ∙ fold-roll-Pipe Lawfulness node_judged _

pub chain_is_judged : (join : Join) (parts : List Pipe) → judged (pipe.Chain join parts) ≡ chain_judged join (map judged parts)
chain_is_judged join parts = ap judged (sym (pipe.rolls-Chain join parts)) ∙ fold-roll-Pipe Lawfulness node_judged _
