-- What the command does in all, from what it does before it tells its cause.
use Rattle.std.proofs.Common.{◌≡◌, ℕ, List, [], ◌++◌, refl, sym, ◌∙◌, ap, subst, append_assoc}
use Rattle.std.proofs.lemmas.List.{append-nil}
use Rattle.cd_world.specs.declared.event.Event.{Event}
use Rattle.cd_world.specs.Files.{Files}
use Rattle.cd_report.specs.declared.cause.Cause.{Cause}
use Rattle.cd_report.specs.declared.cause.Cause.TheVariants.{Success}
use Rattle.cd_report.specs.declared.cause.Said.{Said}
use Rattle.cd_report.specs.declared.cause.Said.TheVariants.{Whole, WriteFailed, NoMemory}
use Rattle.cd_elem.specs.declared.fault.Fault.TheVariants.{BadText, BadHex, BadBase64}
use Rattle.cd_report.specs.CauseText.{cause_text}
use Rattle.cd_report.specs.declared.cause.Cause.TheVariants as cause
use Rattle.cd_world.specs.Events.{IsWriteOn}
use Rattle.cd_cli.specs.Cause.{HasOrigin}
use Rattle.cd_cli.specs.Command.{Called, Sent}
use Rattle.cd_cli.specs.Report.{IsReported, IsTold, LogsReport, Tells, CalledAndTold, SentAndTold}
use Rattle.cd_cli.specs.Streams.{IsCalm}
use Rattle.cd_cli.proofs.WriteSteps.{nothing_more}

pub called_and_told : (Answer : List Event → List Event → Type 0) (line : List ℕ) (said : Said) (l l1 l2 : List Event) → Called Answer l l1 → LogsReport line said l1 l2 → CalledAndTold Answer line said l l2
called_and_told Answer line said l l1 l2 called told = record {
  reading = called.reading;
  calls = called.calls;
  report = told.report;
  log = told.log ∙ ap (λ (k : List Event). k ++ told.report) called.log ∙ append_assoc l (called.reading ++ called.calls) told.report
      ∙ ap (λ (k : List Event). l ++ k) (append_assoc called.reading called.calls told.report);
  answer = called.answer;
  reports = told.reports;
}

pub sent_and_told : (Answer : List ℕ → Type 0) (line : List ℕ) (said : Said) (f f1 f2 : Files) → Sent Answer f f1 → Tells line said f1 f2 → SentAndTold Answer line said f f2
sent_and_told Answer line said f f1 f2 sends tells = record {
  sent = sends.sent;
  output = ap (λ (g : Files). g.output) tells.files ∙ sends.output;
  answer = sends.answer;
  told = tells.told;
  errors = ap (λ (g : Files). g.errors) tells.files ∙ ap (λ (g : Files). g.errors ++ tells.told) sends.rest;
  is_told = tells.is_told;
  rest = tells.files ∙ ap (λ (g : Files). record g { output = f1.output; errors = f1.errors ++ tells.told; given = f1.given }) sends.rest
      ∙ sym (ap (λ (g : Files). record f { output = g.output; errors = g.errors; given = g.given }) tells.files);
}

whole_is_not_failed : Whole ≡ WriteFailed → ⊥
whole_is_not_failed is = absurd cc

-- with Success no call failed before its line, and its line is none
pub success_unfailed : (before middle now : ℕ) (cause : Cause) (said : Said) → HasOrigin before middle cause → IsReported middle now said → (cause ≡ Success → said ≡ Whole) → cause ≡ Success → now ≡ before
success_unfailed before middle now cause said origin reported silent success =
    reported.calm (λ failed. whole_is_not_failed (sym (silent success) ∙ failed))
    ∙ subst (HasOrigin before middle) success origin

-- ---- where there is no memory for a line, nothing is told

no_whole : NoMemory ≡ Whole → ⊥
no_whole is = absurd cc

no_failure : NoMemory ≡ WriteFailed → ⊥
no_failure is = absurd cc

none_is_told : (line : List ℕ) → (line ≡ [] → ⊥) → IsTold line NoMemory []
none_is_told line some = record { behind = line; front = refl; whole = λ is. absurd (no_whole is); only = λ none. absurd (some none) }

pub none_told : (line : List ℕ) (f : Files) → (line ≡ [] → ⊥) → Tells line NoMemory f f
none_told line f some = record { told = []; is_told = none_is_told line some; files = ap (λ (e : List ℕ). record f { errors = e }) (sym (append-nil f.errors)) }

pub none_logged : (line : List ℕ) (l : List Event) → (line ≡ [] → ⊥) → LogsReport line NoMemory l l
none_logged line l some = record {
  report = [];
  log = sym (append-nil l);
  reports = record { writes = nothing_more (IsWriteOn 2); is_told = none_is_told line some; failed = λ is. absurd (no_failure is); calm = λ other. nothing_more IsCalm };
}

-- each cause but success has a line
pub silent_only : (cause : Cause) → cause_text cause ≡ [] → cause ≡ Success
silent_only Success none = refl
silent_only cause.Usage none = absurd cc
silent_only cause.ScriptFault none = absurd cc
silent_only cause.ScriptLimit none = absurd cc
silent_only (cause.ScriptText at) none = absurd cc
silent_only (cause.Syntax at) none = absurd cc
silent_only (cause.Limit which at) none = absurd cc
silent_only (cause.Refused refusal) none = absurd cc
silent_only cause.NotBuilt none = absurd cc
silent_only (cause.Decode (BadText at)) none = absurd cc
silent_only (cause.Decode (BadHex at)) none = absurd cc
silent_only (cause.Decode (BadBase64 at)) none = absurd cc
silent_only (cause.AcquireFault site) none = absurd cc
silent_only (cause.ReadFault site) none = absurd cc
silent_only (cause.WriteFault site) none = absurd cc
silent_only (cause.CloseFault site) none = absurd cc
silent_only (cause.TooLong site) none = absurd cc
silent_only cause.NoMemory none = absurd cc
