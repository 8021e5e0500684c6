-- UTF-8 by the characters of a text. `Text` has it byte by byte, in the form that proofs use.
use Rattle.std.specs.Prelude.{◌≡◌, ℕ, ◌+◌, ◌<◌, List, [], ◌∷◌, ◌++◌, length, map, encode_utf8}
use Rattle.std.specs.Char.{IsScalar}
use Rattle.std.specs.Str.{encode_utf8_all}
use Rattle.cd_meaning.specs.Stream.{Item, Elem, Value, bad_text, Stop, End, Halts, Out}
use Rattle.cd_meaning.specs.Run.{Stamp, stamp, Run, Then, Ends, past}
use Rattle.cd_meaning.specs.RunShapes.{as_count}

-- these characters, each at its last byte, where i bytes stand before, and what comes behind them
abbrev pub characters_out : ℕ → List ℕ → Run → Run
characters_out i [] r = r
characters_out i (c ∷ cs) r = let j = i + length (encode_utf8 c) in Then (stamp j j) (Out (Elem c)) (characters_out j cs r)

-- the bytes of a text of these characters
abbrev pub bytes_of : List ℕ → List Item
bytes_of cs = map Elem (encode_utf8_all cs)

-- what reads them: it gives each character, and ends at the end
abbrev pub plain_text : List ℕ → End → Run
plain_text cs e = characters_out 0 cs (past (length (encode_utf8_all cs)) e Value.Unit)

-- ---- what is bad

-- the front of the bytes of a character, of which some are missing
pub record IsUnfinished (bytes : List ℕ) : Type 0 where
  pub character : ℕ
  pub missing : List ℕ
  pub is_scalar : IsScalar character
  pub some : 0 < length missing
  pub front : encode_utf8 character ≡ bytes ++ missing

-- the bytes of no character begin so
abbrev pub BeginNone : List ℕ → Type 0
BeginNone bytes = (c : ℕ) (more : List ℕ) → IsScalar c → encode_utf8 c ≡ bytes ++ more → ⊥

-- `utf8` behind these characters, where it stops in what stands behind them
abbrev pub refused_behind : List ℕ → Stamp → Run
refused_behind cs s = characters_out 0 cs (Ends s (Halts (Stop (bad_text (as_count (length (encode_utf8_all cs)))))))
