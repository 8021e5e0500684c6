-- How a run of the command ended.
use Rattle.std.specs.Prelude.{◌≡◌, ℕ, Result, Ok, Err}
use Rattle.cd_world.specs.Causes.{Rose}
use Rattle.cd_world.specs.declared.world.CloseFailed.{CloseFailed}
use Rattle.cd_world.specs.declared.world.WorldError.{WorldError}
use Rattle.cd_world.specs.declared.world.WorldError.TheVariants.{Failed, NoMemory}
use Rattle.cd_script.specs.declared.refusal.ScriptRefusal.{ScriptRefusal}
use Rattle.cd_script.specs.declared.refusal.ScriptRefusal.TheVariants as refusal
use Rattle.cd_typing.specs.declared.refusal.CheckRefusal.{CheckRefusal}
use Rattle.cd_typing.specs.declared.refusal.CheckRefusal.TheVariants as check
use Rattle.cd_run.specs.declared.fault.RunFault.{RunFault}
use Rattle.cd_run.specs.declared.fault.RunFault.TheVariants as fault
use Rattle.cd_report.specs.declared.cause.Cause.{Cause}
use Rattle.cd_cli.specs.declared.arguments.WordsRefusal.{WordsRefusal}
use Rattle.cd_cli.specs.declared.arguments.WordsRefusal.TheVariants as words
use Rattle.cd_report.specs.declared.cause.Cause.TheVariants as cause

-- the cause that a refused call is while the script is read
abbrev pub script_cause : WorldError → Cause
script_cause Failed = cause.ScriptFault
script_cause NoMemory = cause.NoMemory

-- a write of a text of `show` or `check` that failed: it stands where results are printed, at site 0
abbrev pub output_fault : Cause
output_fault = cause.WriteFault (record { 0 = 0 })

abbrev pub text_cause : WorldError → Cause
text_cause Failed = output_fault
text_cause NoMemory = cause.NoMemory

-- the cause that refused words are
abbrev pub words_cause : WordsRefusal → Cause
words_cause words.Usage = cause.Usage
words_cause words.NoMemory = cause.NoMemory

-- the cause that a refused script is
abbrev pub cause_of_refusal : ScriptRefusal → Cause
cause_of_refusal (refusal.Syntax at) = cause.Syntax at
cause_of_refusal (refusal.Limit which at) = cause.Limit which at
cause_of_refusal refusal.NoMemory = cause.NoMemory

-- the cause that a script without types is
abbrev pub cause_of_check : CheckRefusal → Cause
cause_of_check (check.Refused first) = cause.Refused first
cause_of_check check.NoMemory = cause.NoMemory

-- the cause with which a script ended that was run
abbrev pub cause_of_fault : RunFault → Cause
cause_of_fault (fault.Decode f) = cause.Decode f
cause_of_fault (fault.AcquireFault site) = cause.AcquireFault site
cause_of_fault (fault.ReadFault site) = cause.ReadFault site
cause_of_fault (fault.WriteFault site) = cause.WriteFault site
cause_of_fault (fault.CloseFault site) = cause.CloseFault site
cause_of_fault (fault.TooLong site) = cause.TooLong site
cause_of_fault fault.NoMemory = cause.NoMemory

abbrev pub cause_of_run : {T : Type 0} → Result T RunFault → Cause
cause_of_run (Ok done) = cause.Success
cause_of_run (Err f) = cause_of_fault f

-- The count of failed calls rose where a failed call is the cause. Behind a fault of a decoder, a source that is too long
-- and want of memory closes may have failed. With each other cause the count stays.
abbrev pub HasOrigin : ℕ → ℕ → Cause → Type 0
HasOrigin before now cause.ScriptFault = Rose before now
HasOrigin before now (cause.AcquireFault site) = Rose before now
HasOrigin before now (cause.ReadFault site) = Rose before now
HasOrigin before now (cause.WriteFault site) = Rose before now
HasOrigin before now (cause.CloseFault site) = Rose before now
HasOrigin before now (cause.Decode f) = Unit {0}
HasOrigin before now (cause.TooLong site) = Unit {0}
HasOrigin before now cause.NoMemory = Unit {0}
HasOrigin before now cause.Success = now ≡ before
HasOrigin before now cause.Usage = now ≡ before
HasOrigin before now cause.ScriptLimit = now ≡ before
HasOrigin before now (cause.ScriptText at) = now ≡ before
HasOrigin before now (cause.Syntax at) = now ≡ before
HasOrigin before now (cause.Limit which at) = now ≡ before
HasOrigin before now (cause.Refused first) = now ≡ before
HasOrigin before now cause.NotBuilt = now ≡ before

-- A close that fails is the answer, whatever was answered before it.
abbrev pub answer_of : {T U : Type 0} → Result T WorldError → Result U CloseFailed → Result T WorldError
answer_of answer (Ok done) = answer
answer_of answer (Err refused) = Err Failed
