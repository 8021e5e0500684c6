-- What `check` writes of a script that has a type.
use Rattle.std.specs.Prelude.{ℕ, List, [], ◌∷◌, ◌++◌, length, codes, decimal}
use Rattle.cd_elem.specs.declared.script.Stmt.{Stmt}
use Rattle.cd_meaning.specs.Scripts.{script_places}
use Rattle.cd_types.specs.Statements.{bounds_of, script_types}

-- so many statements and sites, and the sum of the bounds
abbrev pub summary : ℕ → ℕ → ℕ → List ℕ
summary statements sites bound =
    codes "ok " ++ (decimal statements ++ (codes " statements, " ++ (decimal sites ++ (codes " sites, bound " ++ (decimal bound ++ 10 ∷ [])))))

-- those of this script
abbrev pub check_text : List Stmt → List ℕ
check_text script = summary (length script) (length (script_places script)) (bounds_of (script_types script))
