-- The line of a cause on standard error.
use Rattle.std.specs.Prelude.{ℕ, List, [], ◌∷◌, ◌++◌, codes, decimal}
use Rattle.cd_elem.specs.declared.fault.Fault.{Fault}
use Rattle.cd_elem.specs.declared.fault.Fault.TheVariants.{BadText, BadHex, BadBase64}
use Rattle.cd_elem.specs.declared.site.Site.{Site}
use Rattle.cd_elem.specs.declared.token.LimitKind.{LimitKind}
use Rattle.cd_elem.specs.declared.token.LimitKind.TheVariants as limit
use Rattle.cd_types.specs.declared.refusal.Refusal.{Refusal}
use Rattle.cd_types.specs.declared.refusal.RefusalKind.{RefusalKind}
use Rattle.cd_types.specs.declared.refusal.RefusalKind.TheVariants as kind
use Rattle.cd_report.specs.declared.cause.Cause.{Cause}
use Rattle.cd_report.specs.declared.cause.Cause.TheVariants as cause

-- a line says whose it is, and ends with a newline
abbrev pub line : List ℕ → List ℕ
line what = codes "conduit: " ++ (what ++ 10 ∷ [])

-- the same of a byte of the script
abbrev pub line_at : List ℕ → ℕ → List ℕ
line_at what at = line (what ++ (codes " at byte " ++ decimal at))

abbrev pub limit_passed : LimitKind → List ℕ
limit_passed limit.Tokens = codes "limit of tokens passed"
limit_passed limit.Depth = codes "limit of depth passed"
limit_passed limit.Literal = codes "limit of literal passed"
limit_passed limit.Number = codes "limit of number passed"

-- a kind of refusal by its number and its name
abbrev pub kind_number : RefusalKind → ℕ
kind_number kind.KindMismatch = 1
kind_number kind.SeesChunks = 2
kind_number kind.NeedsElements = 3
kind_number kind.DropsRest = 4
kind_number kind.NotInvertible = 5
kind_number kind.NameTwice = 6
kind_number kind.Seal = 7
kind_number kind.BoundTooLarge = 8
kind_number kind.ResultLost = 9
kind_number kind.TooMany = 10
kind_number kind.OpenEnd = 11
kind_number kind.Key = 12

abbrev pub kind_name : RefusalKind → List ℕ
kind_name kind.KindMismatch = codes "KindMismatch"
kind_name kind.SeesChunks = codes "SeesChunks"
kind_name kind.NeedsElements = codes "NeedsElements"
kind_name kind.DropsRest = codes "DropsRest"
kind_name kind.NotInvertible = codes "NotInvertible"
kind_name kind.NameTwice = codes "NameTwice"
kind_name kind.Seal = codes "Seal"
kind_name kind.BoundTooLarge = codes "BoundTooLarge"
kind_name kind.ResultLost = codes "ResultLost"
kind_name kind.TooMany = codes "TooMany"
kind_name kind.OpenEnd = codes "OpenEnd"
kind_name kind.Key = codes "Key"

-- a refusal says its kind, by number and name, and its place
abbrev pub line_of_kind : ℕ → List ℕ → ℕ → ℕ → List ℕ
line_of_kind number name statement part =
    codes "conduit: refused " ++ (decimal number ++ (codes " " ++ (name ++ (codes " at statement " ++ (decimal statement ++ (codes ", part " ++ (decimal part ++ 10 ∷ [])))))))

abbrev pub refusal_line : Refusal → List ℕ
refusal_line x = line_of_kind (kind_number x.kind) (kind_name x.kind) x.statement x.part

-- an input that is not in this encoding, from this offset on
abbrev pub bad_line : List ℕ → ℕ → List ℕ
bad_line encoding at = codes "conduit: bad " ++ (encoding ++ (codes " at offset " ++ (decimal at ++ 10 ∷ [])))

abbrev pub fault_line : Fault → List ℕ
fault_line (BadText at) = bad_line (codes "UTF-8") at
fault_line (BadHex at) = bad_line (codes "base16") at
fault_line (BadBase64 at) = bad_line (codes "base64") at

-- a call on a site's file that failed
abbrev pub failed_line : List ℕ → Site → List ℕ
failed_line call site = codes "conduit: " ++ (call ++ (codes " failed at site " ++ (decimal site.0 ++ 10 ∷ [])))

abbrev pub long_line : Site → List ℕ
long_line site = codes "conduit: site " ++ (decimal site.0 ++ (codes " is longer than the limit" ++ 10 ∷ []))

-- success has no line
abbrev pub cause_text : Cause → List ℕ
cause_text cause.Success = []
cause_text cause.Usage = line (codes "usage: conduit (run [--chunk N] [--limit N] SCRIPT | check SCRIPT | show SCRIPT)")
cause_text cause.ScriptFault = line (codes "the script could not be read")
cause_text cause.ScriptLimit = line (codes "the script is longer than 65536 bytes")
cause_text (cause.ScriptText at) = line_at (codes "the script is not UTF-8") at
cause_text (cause.Syntax at) = line_at (codes "syntax error") at
cause_text (cause.Limit which at) = line_at (limit_passed which) at
cause_text (cause.Refused refusal) = refusal_line refusal
cause_text cause.NotBuilt = line (codes "this form is not built yet")
cause_text (cause.Decode fault) = fault_line fault
cause_text (cause.AcquireFault site) = failed_line (codes "open") site
cause_text (cause.ReadFault site) = failed_line (codes "read") site
cause_text (cause.WriteFault site) = failed_line (codes "write") site
cause_text (cause.CloseFault site) = failed_line (codes "close") site
cause_text (cause.TooLong site) = long_line site
cause_text cause.NoMemory = line (codes "out of memory")
