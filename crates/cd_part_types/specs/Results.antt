-- The program's results as results of the definitions.
use Rattle.std.specs.Prelude.{◌≡◌}
use Rattle.std.proofs.Common.{◌∙◌, ap, sym}
use Rattle.cd_part_types.specs.declared.part_type.ResultKind.{ResultKind}
use Rattle.cd_part_types.specs.declared.part_type.ResultKind.TheVariants as kind
use Rattle.cd_part_types.specs.declared.part_type.ResultKind.TheOpen.{ResultKind-F}
use Rattle.cd_part_types.specs.declared.part_type.ResultKind.TheFolds.{fold-ResultKind, fold-roll-ResultKind}
use Rattle.cd_types.specs.Flows.{Sort, ResultKind as ResultOf, Unit, Num, Truth, Byte, Char, BytesV, TextV, Maybe, Pair, ListV}

abbrev pub result_node : ResultKind-F ResultOf → ResultOf
result_node ResultKind-F.Unit = Unit
result_node ResultKind-F.Num = Num
result_node ResultKind-F.Bool = Truth
result_node ResultKind-F.Byte = Byte
result_node ResultKind-F.Char = Char
result_node ResultKind-F.BytesV = BytesV
result_node ResultKind-F.TextV = TextV
result_node (ResultKind-F.Maybe r) = Maybe r
result_node (ResultKind-F.Pair r s) = Pair r s
result_node (ResultKind-F.ListV k) = ListV k

unfoldable pub result_of : ResultKind → ResultOf
result_of r = fold-ResultKind ResultOf result_node r

pub unit_is : result_of kind.Unit ≡ Unit
unfolding result_of
unit_is = ap result_of (sym kind.rolls-Unit) ∙ fold-roll-ResultKind ResultOf result_node _

pub num_is : result_of kind.Num ≡ Num
unfolding result_of
num_is = ap result_of (sym kind.rolls-Num) ∙ fold-roll-ResultKind ResultOf result_node _

pub bool_is : result_of kind.Bool ≡ Truth
unfolding result_of
bool_is = ap result_of (sym kind.rolls-Bool) ∙ fold-roll-ResultKind ResultOf result_node _

pub byte_is : result_of kind.Byte ≡ Byte
unfolding result_of
byte_is = ap result_of (sym kind.rolls-Byte) ∙ fold-roll-ResultKind ResultOf result_node _

pub char_is : result_of kind.Char ≡ Char
unfolding result_of
char_is = ap result_of (sym kind.rolls-Char) ∙ fold-roll-ResultKind ResultOf result_node _

pub bytes_is : result_of kind.BytesV ≡ BytesV
unfolding result_of
bytes_is = ap result_of (sym kind.rolls-BytesV) ∙ fold-roll-ResultKind ResultOf result_node _

pub text_is : result_of kind.TextV ≡ TextV
unfolding result_of
text_is = ap result_of (sym kind.rolls-TextV) ∙ fold-roll-ResultKind ResultOf result_node _

pub maybe_is : (r : ResultKind) → result_of (kind.Maybe r) ≡ Maybe (result_of r)
unfolding result_of
maybe_is r = ap result_of (sym (kind.rolls-Maybe r)) ∙ fold-roll-ResultKind ResultOf result_node _

pub pair_is : (r s : ResultKind) → result_of (kind.Pair r s) ≡ Pair (result_of r) (result_of s)
unfolding result_of
pair_is r s = ap result_of (sym (kind.rolls-Pair r s)) ∙ fold-roll-ResultKind ResultOf result_node _

pub list_is : (k : Sort) → result_of (kind.ListV k) ≡ ListV k
unfolding result_of
list_is k = ap result_of (sym (kind.rolls-ListV k)) ∙ fold-roll-ResultKind ResultOf result_node _

pub ruleset results = (unit_is, num_is, bool_is, byte_is, char_is, bytes_is, text_is, maybe_is, pair_is, list_is)
