-- What a script that has a type is, with what the typing made of it.
use Rattle.std.specs.Prelude.{◌≡◌, List, map}
use Rattle.cd_elem.specs.declared.script.Stmt.{Stmt}
use Rattle.cd_part_types.specs.Types.{type_of}
use Rattle.cd_types.specs.Numbering.{script_sites}
use Rattle.cd_types.specs.Statements.{statement_of, script_types, bounds_of}
use Rattle.cd_types.specs.Typing.{HasType}
use Rattle.cd_typed.specs.declared.typed.Typed.{Typed}
use Rattle.cd_typed.specs.Knowing.{KnowsNames}
use Rattle.cd_typed.specs.Sites.{site_of}

-- The script has a type, and its sites, the types of its parts, the sum of their bounds, and its seals and keys are those of the rules.
pub record IsTyped (script : List Stmt) (typed : Typed) : Type 0 where
  pub same : typed.script ≡ script
  pub has_type : HasType script
  pub sites : map site_of typed.sites ≡ script_sites script
  pub parts : map (map type_of) typed.parts ≡ script_types script
  pub total : typed.total ≡ bounds_of (script_types script)
  pub names : KnowsNames (map statement_of script) typed.names
