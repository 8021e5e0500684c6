use Rattle.std.proofs.Common.{◌≡◌, true, string_bytes, take}
use Rattle.std.specs.List.{list_all}
use Rattle.cd_grammar.specs.CanonicalText.{canonical_text}
use Rattle.cd_script.specs.Ranges as ranges
use Rattle.cd_script.proofs.printing.print.Given as goal

abbrev pub invariant-loop-statement : goal.invariant-loop-statement
invariant-loop-statement l = (string_bytes l.text ≡ canonical_text (take l.statement-index l.script)) × (list_all ranges.statement (take l.statement-index l.script) ≡ true)
