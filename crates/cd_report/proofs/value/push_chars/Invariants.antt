use Rattle.std.proofs.Common.{◌≡◌, ◌++◌, string_bytes, take, flat_map}
use Rattle.cd_report.specs.ValueText.{char_text}
use Rattle.cd_report.proofs.value.push_chars.Given as goal

abbrev pub invariant-loop-one : goal.invariant-loop-one
invariant-loop-one l = string_bytes l.text ≡ string_bytes l.initial.text ++ flat_map char_text (take l.one-index l.chars)
