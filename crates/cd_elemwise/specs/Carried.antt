-- The element words as scans, and what the typing asks of them.
use Rattle.std.specs.Prelude.{◌≡◌, ℕ, zero, suc, ◌+◌, ◌<◌, ◌≤◌, Bool, true, false, not, List, [], ◌∷◌, ◌++◌, length, replicate, Option, Some, None, IsTrue}
use Rattle.cd_elem.specs.Chunks.{is_cut}
use Rattle.cd_elem.specs.Limits.{repeat_limit, collect_limit}
use Rattle.cd_elem.specs.declared.kind.Kind.{Kind}
use Rattle.cd_elem.specs.declared.word.ByteMap.{ByteMap}
use Rattle.cd_elem.specs.declared.word.ByteMap.TheVariants.{Xor, Add, Rot13}
use Rattle.cd_elem.specs.declared.word.Class.{Class}
use Rattle.cd_elem.specs.declared.word.ClassName.{ClassName}
use Rattle.cd_elem.specs.declared.word.ElemWord.{ElemWord}
use Rattle.cd_meaning.specs.Stream.{Sort, Item, Value, absent, present, Ending, Done, Act, Out}
use Rattle.cd_meaning.specs.RunShapes.{number, as_count}
use Rattle.cd_meaning.specs.Classes.{of_class, of_element}
use Rattle.cd_meaning.specs.Sorts.{value_of}
use Rattle.cd_meaning.specs.ElementWords.{kept}
use Rattle.cd_meaning.specs.Scan.{Scan, Reply, Go, Back}
use Rattle.cd_step.specs.Parts.{Chunk}
pub use Rattle.cd_step.specs.CutChunks.{kind_of, IsChunkOf}
use Rattle.cd_elemwise.specs.declared.chunks.ElementSlice.{ElementSlice}
use Rattle.cd_elemwise.specs.declared.chunks.ElementSlice.TheVariants as elements
use Rattle.cd_elemwise.specs.declared.state.Single.{Single}
use Rattle.cd_elemwise.specs.declared.state.Single.TheVariants.{Byte, Char}
use Rattle.cd_elemwise.specs.declared.state.Gathered.{Gathered}
use Rattle.cd_elemwise.specs.declared.state.Gathered.TheVariants as gather
use Rattle.cd_elemwise.specs.declared.state.WordState.{WordState}
use Rattle.cd_elemwise.specs.declared.state.WordState.TheVariants as state

-- ---- elements

abbrev pub IsElements : ElementSlice → Chunk → Type 0
IsElements (elements.Bytes bytes) c = c ≡ (Sort.Bytes, bytes.now)
IsElements (elements.Chars chars) c = c ≡ (Sort.Chars, chars.now)

-- one element of a sort, it as a result, and as one that may be missing
abbrev pub single_of : Sort → ℕ → Single
single_of Sort.Bytes n = Byte n
single_of Sort.Chars n = Char n
single_of Sort.Block n = Byte n
single_of Sort.Text n = Char n

abbrev pub single_plain : Single → Value
single_plain (Byte byte) = Value.Byte byte
single_plain (Char character) = Value.Char character

abbrev pub single_value : Single → Value
single_value single = present (single_plain single)

abbrev pub last_value : Option Single → Value
last_value None = absent
last_value (Some single) = single_value single

-- ---- lists

abbrev pub gathered : Gathered → List ℕ
gathered (gather.Bytes bytes) = bytes
gathered (gather.Chars chars) = chars

abbrev pub list_sort : Gathered → Sort
list_sort (gather.Bytes bytes) = Sort.Bytes
list_sort (gather.Chars chars) = Sort.Chars

-- elements as a result
abbrev pub list_value : Sort → List ℕ → Value
list_value Sort.Bytes numbers = Value.BytesV numbers
list_value Sort.Chars numbers = Value.TextV numbers
list_value Sort.Block numbers = Value.Unit
list_value Sort.Text numbers = Value.Unit

-- ---- what the typing asks

-- a map that characters have too
abbrev pub IsLetters : ByteMap → Type 0
IsLetters Rot13 = Unit {0}
IsLetters (Xor k) = ⊥
IsLetters (Add k) = ⊥

abbrev pub MapFits : ByteMap → Sort → Type 0
MapFits by Sort.Bytes = Unit {0}
MapFits by Sort.Chars = IsLetters by
MapFits by Sort.Block = ⊥
MapFits by Sort.Text = ⊥

abbrev pub NameFits : ClassName → Sort → Type 0
NameFits (ClassName.Is one) Sort.Bytes = one ≤ 127
NameFits name k = IsTrue (is_cut k)

abbrev pub ClassFits : Class → Sort → Type 0
ClassFits c k = IsTrue (is_cut k) × NameFits c.what k

-- the word has a type on a stream of this sort, and its numbers are in their ranges
abbrev pub HasType : ElemWord → Sort → Type 0
HasType (ElemWord.TakeWhileE c) k = ClassFits c k
HasType (ElemWord.FilterE c) k = ClassFits c k
HasType (ElemWord.MapE by) k = MapFits by k
HasType (ElemWord.RepeatE n) k = IsTrue (is_cut k) × (n ≤ repeat_limit)
HasType (ElemWord.DropWhileE c) k = ClassFits c k
HasType ElemWord.SumE k = k ≡ Sort.Bytes
HasType (ElemWord.AllE c) k = ClassFits c k
HasType (ElemWord.AnyE c) k = ClassFits c k
HasType (ElemWord.CollectE n) k = IsTrue (is_cut k) × (n ≤ collect_limit)
HasType ElemWord.SinkNull k = Unit {0}
HasType _ k = IsTrue (is_cut k)

-- the bound of the word
abbrev pub bound_of : ElemWord → ℕ
bound_of ElemWord.LastE = 1
bound_of (ElemWord.CollectE n) = n
bound_of _ = 0

-- ---- states

abbrev pub opposite : Class → Class
opposite c = record { negated = not c.negated; what = c.what }

-- what a word carries at first
abbrev pub first_state : ElemWord → WordState
first_state ElemWord.PassE = state.Pass
first_state (ElemWord.TakeE n) = state.Take n
first_state (ElemWord.TakeWhileE c) = state.TakeWhile c
first_state (ElemWord.FilterE c) = state.Filter c
first_state (ElemWord.MapE by) = state.Map by
first_state (ElemWord.RepeatE n) = state.Repeat n
first_state (ElemWord.DropE n) = state.Drop n
first_state (ElemWord.DropWhileE c) = state.DropWhile c
first_state ElemWord.HeadE = state.Head
first_state ElemWord.PeekE = state.Peek
first_state ElemWord.LastE = state.Last None
first_state ElemWord.LengthE = state.Length 0
first_state ElemWord.SumE = state.Sum 0
first_state (ElemWord.AllE c) = state.All c false
first_state (ElemWord.AnyE c) = state.All (opposite c) true
first_state ElemWord.NullE = state.Null
first_state (ElemWord.CollectE n) = state.Collect n
first_state ElemWord.SinkNull = state.SinkNull

-- what it gives: elements of its input's kind, or nothing
abbrev pub gives_of : WordState → Sort → Option Kind
gives_of state.Pass k = Some (kind_of k)
gives_of (state.Take n) k = Some (kind_of k)
gives_of (state.TakeWhile c) k = Some (kind_of k)
gives_of (state.Filter c) k = Some (kind_of k)
gives_of (state.Map by) k = Some (kind_of k)
gives_of (state.Repeat n) k = Some (kind_of k)
gives_of _ k = None

-- a state beside the list that it keeps, or the answer of a word that has read the element which decides it
pub data Carried : Type 0 where
  Doing : WordState → List ℕ → Carried
  Answered : Value → Carried

-- the value, where no further element is asked for
abbrev pub state_ready : Sort → WordState → List ℕ → Option Value
state_ready k (state.Take zero) l = Some Value.Unit
state_ready k (state.Take (suc n)) l = None
state_ready k (state.Drop zero) l = Some Value.Unit
state_ready k (state.Drop (suc n)) l = None
state_ready k (state.Collect zero) l = Some (list_value k l)
state_ready k (state.Collect (suc n)) l = None
state_ready k _ l = None

-- it goes on where the element passes, and else ends so
abbrev pub or_back : Bool → List Act → Carried → Reply Carried
or_back true acts t = Go acts t
or_back false acts t = Back Value.Unit

abbrev pub or_answer : Bool → Carried → Value → Reply Carried
or_answer true t v = Go [] t
or_answer false t v = Go [] (Answered v)

abbrev pub state_step : Sort → WordState → List ℕ → Item → Reply Carried
state_step k state.Pass l x = Go (Out x ∷ []) (Doing state.Pass l)
state_step k (state.Take zero) l x = Go [] (Doing (state.Take zero) l)
state_step k (state.Take (suc n)) l x = Go (Out x ∷ []) (Doing (state.Take n) l)
state_step k (state.TakeWhile c) l x = or_back (of_class c x) (Out x ∷ []) (Doing (state.TakeWhile c) l)
state_step k (state.Filter c) l x = Go (kept (of_class c) x) (Doing (state.Filter c) l)
state_step k (state.Map by) l x = Go (Out (of_element by x) ∷ []) (Doing (state.Map by) l)
state_step k (state.Repeat n) l x = Go (replicate n (Out x)) (Doing (state.Repeat n) l)
state_step k (state.Drop zero) l x = Go [] (Doing (state.Drop zero) l)
state_step k (state.Drop (suc n)) l x = Go [] (Doing (state.Drop n) l)
state_step k (state.DropWhile c) l x = or_back (of_class c x) [] (Doing (state.DropWhile c) l)
state_step k state.Head l x = Go [] (Answered (present (value_of k x)))
state_step k state.Peek l x = Back (present (value_of k x))
state_step k (state.Last o) l x = Go [] (Doing (state.Last (Some (single_of k (number x)))) l)
state_step k (state.Length n) l x = Go [] (Doing (state.Length (as_count (n + 1))) l)
state_step k (state.Sum n) l x = Go [] (Doing (state.Sum (as_count (n + number x))) l)
state_step k (state.All c b) l x = or_answer (of_class c x) (Doing (state.All c b) l) (Value.Bool b)
state_step k state.Null l x = Back (Value.Bool false)
state_step k (state.Collect zero) l x = Go [] (Doing (state.Collect zero) l)
state_step k (state.Collect (suc n)) l x = Go [] (Doing (state.Collect n) (l ++ number x ∷ []))
state_step k state.SinkNull l x = Go [] (Doing state.SinkNull l)

-- the value at the end of the input
abbrev pub state_value : Sort → WordState → List ℕ → Value
state_value k state.Head l = absent
state_value k state.Peek l = absent
state_value k (state.Last o) l = last_value o
state_value k (state.Length n) l = Value.Num n
state_value k (state.Sum n) l = Value.Num n
state_value k (state.All c b) l = Value.Bool (not b)
state_value k state.Null l = Value.Bool true
state_value k (state.Collect n) l = list_value k l
state_value k _ l = Value.Unit

abbrev pub carried_ready : Sort → Carried → Option Value
carried_ready k (Doing st l) = state_ready k st l
carried_ready k (Answered v) = Some v

abbrev pub carried_step : Sort → Carried → Item → Reply Carried
carried_step k (Doing st l) x = state_step k st l x
carried_step k (Answered v) x = Go [] (Answered v)

abbrev pub carried_ending : Sort → Carried → Ending
carried_ending k (Doing st l) = Done (state_value k st l)
carried_ending k (Answered v) = Done Value.Unit

abbrev pub word_scan : Sort → Scan Carried
word_scan k = record { ready = carried_ready k; step = carried_step k; close = λ s. []; ending = carried_ending k }

-- the word gives elements
abbrev pub Emits : Sort → Carried → Type 0
Emits k (Doing st l) = gives_of st k ≡ Some (kind_of k)
Emits k (Answered v) = ⊥
