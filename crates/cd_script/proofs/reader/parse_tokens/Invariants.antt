use Rattle.std.proofs.Common.{◌≤◌}
use Rattle.cd_script.specs.Reader.{IsBehind}
use Rattle.cd_script.proofs.reader.parse_tokens.Given as goal

abbrev pub invariant-loop-count : goal.invariant-loop-count
invariant-loop-count l = record { behind : IsBehind l.lexemes l.count l.reader; few : l.reader.opened ≤ l.count }
