-- The status of a cause.
use Rattle.std.specs.Prelude.{ℕ}
use Rattle.cd_report.specs.declared.cause.Cause.{Cause}
use Rattle.cd_report.specs.declared.cause.Cause.TheVariants as cause

abbrev pub status_of : Cause → ℕ
status_of cause.Success = 0
status_of cause.Usage = 2
status_of cause.ScriptFault = 3
status_of cause.ScriptLimit = 4
status_of (cause.ScriptText at) = 4
status_of (cause.Syntax at) = 4
status_of (cause.Limit which at) = 4
status_of (cause.Refused refusal) = 5
status_of (cause.Decode fault) = 6
status_of (cause.AcquireFault site) = 7
status_of (cause.ReadFault site) = 7
status_of (cause.WriteFault site) = 7
status_of (cause.CloseFault site) = 7
status_of (cause.TooLong site) = 8
status_of cause.NoMemory = 9
status_of cause.NotBuilt = 10
