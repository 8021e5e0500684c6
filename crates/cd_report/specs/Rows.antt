-- Each cause with its line, by computation.
use Rattle.std.specs.Prelude.{◌≡◌, refl, [], codes}
use Rattle.std.specs.Fmt.{digits}
use Rattle.cd_elem.specs.declared.fault.Fault.TheVariants as fault
use Rattle.cd_elem.specs.declared.token.LimitKind.TheVariants as limit
use Rattle.cd_types.specs.declared.refusal.RefusalKind.TheVariants as kind
use Rattle.cd_report.specs.declared.cause.Cause.TheVariants as cause
use Rattle.cd_report.specs.CauseText.{cause_text}
use Rattle.cd_report.specs.CheckText.{check_text, summary}

success_is_silent : cause_text cause.Success ≡ []
success_is_silent = refl

usage : cause_text cause.Usage ≡ codes "conduit: usage: conduit (run [--chunk N] [--limit N] SCRIPT | check SCRIPT | show SCRIPT)\n"
usage = refl

unread_script : cause_text cause.ScriptFault ≡ codes "conduit: the script could not be read\n"
unread_script = refl

long_script : cause_text cause.ScriptLimit ≡ codes "conduit: the script is longer than 65536 bytes\n"
long_script = refl

bad_text_at_once : cause_text (cause.ScriptText 0) ≡ codes "conduit: the script is not UTF-8 at byte 0\n"
unfolding digits
bad_text_at_once = refl

bad_text_at_the_end : cause_text (cause.ScriptText 65535) ≡ codes "conduit: the script is not UTF-8 at byte 65535\n"
unfolding digits
bad_text_at_the_end = refl

syntax_at_once : cause_text (cause.Syntax 0) ≡ codes "conduit: syntax error at byte 0\n"
unfolding digits
syntax_at_once = refl

syntax_within : cause_text (cause.Syntax 107) ≡ codes "conduit: syntax error at byte 107\n"
unfolding digits
syntax_within = refl

syntax_at_the_end : cause_text (cause.Syntax 65536) ≡ codes "conduit: syntax error at byte 65536\n"
unfolding digits
syntax_at_the_end = refl

tokens_passed : cause_text (cause.Limit limit.Tokens 16384) ≡ codes "conduit: limit of tokens passed at byte 16384\n"
unfolding digits
tokens_passed = refl

depth_passed : cause_text (cause.Limit limit.Depth 36) ≡ codes "conduit: limit of depth passed at byte 36\n"
unfolding digits
depth_passed = refl

literal_passed : cause_text (cause.Limit limit.Literal 65536) ≡ codes "conduit: limit of literal passed at byte 65536\n"
unfolding digits
literal_passed = refl

number_passed : cause_text (cause.Limit limit.Number 0) ≡ codes "conduit: limit of number passed at byte 0\n"
unfolding digits
number_passed = refl

sees_chunks : cause_text (cause.Refused (record { kind = kind.SeesChunks; statement = 1; part = 3 })) ≡ codes "conduit: refused 2 SeesChunks at statement 1, part 3\n"
unfolding digits
sees_chunks = refl

too_many_statements : cause_text (cause.Refused (record { kind = kind.TooMany; statement = 257; part = 0 })) ≡ codes "conduit: refused 10 TooMany at statement 257, part 0\n"
unfolding digits
too_many_statements = refl

spent_key : cause_text (cause.Refused (record { kind = kind.Key; statement = 3; part = 0 })) ≡ codes "conduit: refused 12 Key at statement 3, part 0\n"
unfolding digits
spent_key = refl

not_built : cause_text cause.NotBuilt ≡ codes "conduit: this form is not built yet\n"
not_built = refl

bad_text : cause_text (cause.Decode (fault.BadText 18446744073709551615)) ≡ codes "conduit: bad UTF-8 at offset 18446744073709551615\n"
unfolding digits
bad_text = refl

bad_hex : cause_text (cause.Decode (fault.BadHex 0)) ≡ codes "conduit: bad base16 at offset 0\n"
unfolding digits
bad_hex = refl

bad_base64 : cause_text (cause.Decode (fault.BadBase64 4)) ≡ codes "conduit: bad base64 at offset 4\n"
unfolding digits
bad_base64 = refl

open_failed : cause_text (cause.AcquireFault (record { 0 = 1 })) ≡ codes "conduit: open failed at site 1\n"
unfolding digits
open_failed = refl

read_failed : cause_text (cause.ReadFault (record { 0 = 128 })) ≡ codes "conduit: read failed at site 128\n"
unfolding digits
read_failed = refl

write_failed : cause_text (cause.WriteFault (record { 0 = 0 })) ≡ codes "conduit: write failed at site 0\n"
unfolding digits
write_failed = refl

close_failed : cause_text (cause.CloseFault (record { 0 = 12 })) ≡ codes "conduit: close failed at site 12\n"
unfolding digits
close_failed = refl

long_source : cause_text (cause.TooLong (record { 0 = 2 })) ≡ codes "conduit: site 2 is longer than the limit\n"
unfolding digits
long_source = refl

no_memory : cause_text cause.NoMemory ≡ codes "conduit: out of memory\n"
no_memory = refl

nothing_checked : check_text [] ≡ codes "ok 0 statements, 0 sites, bound 0\n"
unfolding digits
nothing_checked = refl

greatest_summary : summary 256 128 268435456 ≡ codes "ok 256 statements, 128 sites, bound 268435456\n"
unfolding digits
greatest_summary = refl
