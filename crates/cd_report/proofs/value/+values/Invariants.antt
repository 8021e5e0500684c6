use Rattle.std.proofs.Common.{◌≡◌, ◌++◌, [], string_bytes, drop, map}
use Rattle.cd_report.specs.ValueText.{comma_before, separated, text_of}
use Rattle.cd_report.proofs.value.+values.Given as goal

abbrev pub invariant-push_values-loop-place : goal.invariant-push_values-loop-place
invariant-push_values-loop-place l = string_bytes l.initial.text ++ separated [] (map text_of l.values)
    ≡ string_bytes l.text ++ separated (comma_before l.place) (map text_of (drop l.place l.values))
