-- The program's values as values of the meaning.
use Rattle.std.specs.Prelude.{◌≡◌, ℕ, List, [], ◌∷◌, Option, Some, None, Bool as Truth, map}
use Rattle.std.proofs.Common.{◌∙◌, ap, sym}
use Rattle.cd_elem.specs.declared.value.Value.{Value as Result}
use Rattle.cd_elem.specs.declared.value.Value.TheVariants as result
use Rattle.cd_elem.specs.declared.value.Value.TheOpen.{Value-F}
use Rattle.cd_elem.specs.declared.value.Value.TheFolds.{fold-Value, fold-roll-Value}
use Rattle.cd_meaning.specs.Stream.{Value, MaybeValue, Absent, Present, absent, present, Values, NoValues, Another}

abbrev pub maybe_of : Option Value → MaybeValue
maybe_of None = Absent
maybe_of (Some v) = Present v

abbrev pub values_of : List Value → Values
values_of [] = NoValues
values_of (v ∷ vs) = Another v (values_of vs)

abbrev pub value_node : Value-F Value → Value
value_node Value-F.Unit = Value.Unit
value_node (Value-F.Num n) = Value.Num n
value_node (Value-F.Bool b) = Value.Bool b
value_node (Value-F.Byte b) = Value.Byte b
value_node (Value-F.Char c) = Value.Char c
value_node (Value-F.BytesV bytes) = Value.BytesV bytes
value_node (Value-F.TextV chars) = Value.TextV chars
value_node (Value-F.Maybe v) = Value.Maybe (maybe_of v)
value_node (Value-F.Pair u v) = Value.Pair u v
value_node (Value-F.ListV vs) = Value.ListV (values_of vs)

-- the value that a result of the program is
abbrev pub value_meaning : Result → Value
value_meaning = fold-Value Value value_node

-- ---- the fold at each node

pub unit_is : value_meaning result.Unit ≡ Value.Unit
unit_is = ap value_meaning (sym result.rolls-Unit) ∙ fold-roll-Value Value value_node _

pub num_is : (n : ℕ) → value_meaning (result.Num n) ≡ Value.Num n
num_is n = ap value_meaning (sym (result.rolls-Num n)) ∙ fold-roll-Value Value value_node _

pub bool_is : (b : Truth) → value_meaning (result.Bool b) ≡ Value.Bool b
bool_is b = ap value_meaning (sym (result.rolls-Bool b)) ∙ fold-roll-Value Value value_node _

pub byte_is : (b : ℕ) → value_meaning (result.Byte b) ≡ Value.Byte b
byte_is b = ap value_meaning (sym (result.rolls-Byte b)) ∙ fold-roll-Value Value value_node _

pub char_is : (c : ℕ) → value_meaning (result.Char c) ≡ Value.Char c
char_is c = ap value_meaning (sym (result.rolls-Char c)) ∙ fold-roll-Value Value value_node _

pub bytes_are : (bytes : List ℕ) → value_meaning (result.BytesV bytes) ≡ Value.BytesV bytes
bytes_are bytes = ap value_meaning (sym (result.rolls-BytesV bytes)) ∙ fold-roll-Value Value value_node _

pub text_is : (chars : List ℕ) → value_meaning (result.TextV chars) ≡ Value.TextV chars
text_is chars = ap value_meaning (sym (result.rolls-TextV chars)) ∙ fold-roll-Value Value value_node _

pub none_is : value_meaning (result.Maybe None) ≡ absent
none_is = ap value_meaning (sym (result.rolls-Maybe None)) ∙ fold-roll-Value Value value_node _

pub some_is : (v : Result) → value_meaning (result.Maybe (Some v)) ≡ present (value_meaning v)
some_is v = ap value_meaning (sym (result.rolls-Maybe (Some v))) ∙ fold-roll-Value Value value_node _

pub pair_is : (u v : Result) → value_meaning (result.Pair u v) ≡ Value.Pair (value_meaning u) (value_meaning v)
pair_is u v = ap value_meaning (sym (result.rolls-Pair u v)) ∙ fold-roll-Value Value value_node _

pub list_is : (vs : List Result) → value_meaning (result.ListV vs) ≡ Value.ListV (values_of (map value_meaning vs))
list_is vs = ap value_meaning (sym (result.rolls-ListV vs)) ∙ fold-roll-Value Value value_node _

-- what evaluates a result that is written out
pub ruleset values = (unit_is, num_is, bool_is, byte_is, char_is, bytes_are, text_is, none_is, some_is, pair_is, list_is)
