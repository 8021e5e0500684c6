-- The program's types as types of the definitions.
use Rattle.cd_part_types.specs.declared.part_type.PartType.{PartType}
use Rattle.cd_part_types.specs.Results.{result_of}
use Rattle.cd_types.specs.Flows.{PartType as PartTypeOf}

abbrev pub type_of : PartType → PartTypeOf
type_of t = record { from = t.from; to = t.to; result = result_of t.result; exact = t.exact; idle = t.idle; bound = t.bound }
