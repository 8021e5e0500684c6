-- What the command does, from what its steps do.
use Rattle.std.proofs.Common.{◌≡◌, ◌≢◌, ◌⊎◌, inl, inr, ℕ, ◌≤◌, ◌<◌, Bool, List, [], ◌∷◌, ◌++◌, length, length-take, take, Result, Ok, Err, refl, sym, ◌∙◌, ap, subst, arith, append_assoc, Option, Some, None}
use Rattle.std.specs.Prelude.{IsTrue}
use Rattle.std.proofs.lemmas.List.{append-nil, take_all}
use Rattle.std.proofs.lemmas.Bool.{cases_lt}
use Rattle.cd_grammar.specs.Limits.{text_limit}
use Rattle.cd_elem.specs.declared.script.Stmt.{Stmt}
use Rattle.cd_world.specs.declared.event.Event.{Event}
use Rattle.cd_world.specs.declared.world.WorldError.{WorldError}
use Rattle.cd_world.specs.declared.world.WorldError.TheVariants.{Failed, NoMemory}
use Rattle.cd_world.specs.Causes.{Rose}
use Rattle.cd_world.specs.Files.{Files}
use Rattle.cd_types.specs.declared.refusal.Refusal.{Refusal}
use Rattle.cd_types.specs.Typing.{HasType, IsRefused as IsFirst}
use Rattle.cd_types.proofs.Verdicts.{never_both_so}
use Rattle.cd_report.specs.CheckText.{check_text}
use Rattle.cd_report.specs.declared.cause.Cause.{Cause}
use Rattle.cd_report.specs.declared.cause.Cause.TheVariants.{Success, Refused, NoMemory as WithoutMemory}
use Rattle.cd_cli.specs.Cause.{HasOrigin, output_fault, script_cause, text_cause, words_cause}
use Rattle.cd_cli.specs.Judge.{read_limit, IsScriptOf, HasTree, HasNone, IsRefused, too_long, no_utf8, syntax, limit}
use Rattle.cd_cli.specs.declared.arguments.Command.{Command}
use Rattle.cd_cli.specs.declared.arguments.Command.TheVariants.{Run, Check, Show}
use Rattle.cd_cli.specs.declared.arguments.WordsRefusal.{WordsRefusal}
use Rattle.cd_cli.specs.declared.arguments.WordsRefusal.TheVariants as words_refusal
use Rattle.cd_cli.specs.Arguments.{IsCommand, AreArguments, command_of, script_of}
use Rattle.cd_cli.specs.Command.{IsTextCause, IsUnread, Does, Judges, no_memory, no_script, of_tree, Logs, FindsTypes, untyped, refused, has_type, ReadsAndJudges, unread, read, Calls, other_words, of_command, Called, SendsText, SendsFor, Sends, SendsScript, AnswersCommand, Sent, IsNoRun, RunNothing, HasTaken, IsTaken, IsTakenTree, EndsUnlessFailed}
use Rattle.cd_cli.specs.Script.{ReadsWhole, TriesRead, ReadsFront, LogsRead}
use Rattle.cd_cli.specs.Streams.{KeepsRest}
use Rattle.cd_cli.proofs.RestSteps.{keeps_on, contents_kept, sources_kept}
use Rattle.cd_cli.proofs.RunSteps.{SameSources, runs_over}
use Rattle.cd_cli.proofs.WriteSteps.{IsUnfailed, no_memory_unfailed}

-- ---- the types of a tree

module _ {X : Type 0} (DoesSo : Cause → List X → Type 0) (tree : List Stmt) where
  finds_none : (cause : Cause) → (cause ≡ WithoutMemory) ⊎ ((refusal : Refusal) × IsFirst tree refusal × (cause ≡ Refused refusal)) → FindsTypes DoesSo tree cause []
  finds_none cause (inl none) = untyped none
  finds_none cause (inr (refusal, first, is)) = refused refusal first is

module _ (tree : List Stmt) where
  module _ (DoesSo : Cause → List Event → Type 0) where
    pub typed_logs : (cause : Cause) (l l' : List Event) → HasType tree → Logs DoesSo cause l l' → Logs (FindsTypes DoesSo tree) cause l l'
    typed_logs cause l l' typed logs = record { calls = logs.calls; log = logs.log; does = has_type logs.calls typed logs.does }

    pub untyped_logs : (cause : Cause) (l : List Event) → (cause ≡ WithoutMemory) ⊎ ((refusal : Refusal) × IsFirst tree refusal × (cause ≡ Refused refusal)) → Logs (FindsTypes DoesSo tree) cause l l
    untyped_logs cause l none = record { calls = []; log = sym (append-nil l); does = finds_none DoesSo tree cause none }

  module _ (SendsSo : Cause → List ℕ → Type 0) where
    pub typed_sends : (cause : Cause) (f f' : Files) → HasType tree → Sent (SendsSo cause) f f' → Sent (FindsTypes SendsSo tree cause) f f'
    typed_sends cause f f' typed sends = record { sent = sends.sent; output = sends.output; rest = sends.rest; answer = has_type sends.sent typed sends.answer }

    pub untyped_sends : (cause : Cause) (f : Files) → (cause ≡ WithoutMemory) ⊎ ((refusal : Refusal) × IsFirst tree refusal × (cause ≡ Refused refusal)) → Sent (FindsTypes SendsSo tree cause) f f
    untyped_sends cause f none = record { sent = []; output = sym (append-nil f.output); rest = refl; answer = finds_none SendsSo tree cause none }

-- ---- a text that is written

-- a refused write is the cause, and no success
pub text_ran : (e : WorldError) → IsTextCause (text_cause e)
text_ran Failed = inr (inl refl)
text_ran NoMemory = inr (inr refl)

pub not_success : (e : WorldError) → text_cause e ≡ Success → ⊥
not_success Failed h = absurd cc
not_success NoMemory h = absurd cc

pub no_other : (T : Type 0) (e : WorldError) → text_cause e ≢ output_fault → IsUnfailed {T = T} (Err e)
no_other T Failed other = absurd (other refl)
no_other T NoMemory other = no_memory_unfailed T

-- ---- a text

module _ (text : List ℕ) where
  module _ (DoesTree : List Stmt → Cause → List Event → Type 0) where
    pub tree_logs : (tree : List Stmt) (cause : Cause) (l l' : List Event) → HasTree text tree → Logs (DoesTree tree) cause l l' → Logs (Judges DoesTree text) cause l l'
    tree_logs tree cause l l' has logs = record { calls = logs.calls; log = logs.log; does = of_tree tree logs.calls has logs.does }

    judges_none : (cause : Cause) → (cause ≡ WithoutMemory) ⊎ HasNone text cause → Judges DoesTree text cause []
    judges_none cause (inl is) = no_memory is
    judges_none cause (inr none) = no_script none

    pub none_logs : (cause : Cause) (l : List Event) → (cause ≡ WithoutMemory) ⊎ HasNone text cause → Logs (Judges DoesTree text) cause l l
    none_logs cause l none = record { calls = []; log = sym (append-nil l); does = judges_none cause none }

  module _ (SendsSo : List Stmt → Cause → List ℕ → Type 0) where
    pub tree_sends : (tree : List Stmt) (cause : Cause) (f f' : Files) → HasTree text tree → Sent (SendsSo tree cause) f f' → Sent (Sends SendsSo text cause) f f'
    tree_sends tree cause f f' has sends = record { sent = sends.sent; output = sends.output; rest = sends.rest; answer = of_tree tree sends.sent has sends.answer }

    sends_none : (cause : Cause) → (cause ≡ WithoutMemory) ⊎ HasNone text cause → Sends SendsSo text cause []
    sends_none cause (inl is) = no_memory is
    sends_none cause (inr none) = no_script none

    pub none_sends : (cause : Cause) (f : Files) → (cause ≡ WithoutMemory) ⊎ HasNone text cause → Sent (Sends SendsSo text cause) f f
    none_sends cause f none = record { sent = []; output = sym (append-nil f.output); rest = refl; answer = sends_none cause none }

-- what is judged is the whole text, for one of more bytes is too long, as its front is
still_too_long : (text : List ℕ) (cause : Cause) → text_limit < length text → HasNone (take read_limit text) cause → HasNone text cause
still_too_long text cause long none = record { why = why_long cause none.why; none = λ tree is. absurd (omega (arith, long, is.fit.few)) } where
  front_long : text_limit < length (take read_limit text)
  front_long = omega (arith, long, length-take read_limit text)

  why_long : (cause : Cause) → IsRefused (take read_limit text) cause → IsRefused text cause
  why_long _ (too_long h) = too_long long
  why_long _ (no_utf8 at few bad valid) = absurd (omega (arith, front_long, few))
  why_long _ (syntax at fit token) = absurd (omega (arith, front_long, fit.few))
  why_long _ (limit which at fit token) = absurd (omega (arith, front_long, fit.few))

judged_whole : (SendsSo : List Stmt → Cause → List ℕ → Type 0) (text : List ℕ) (cause : Cause) (sent : List ℕ) → Sends SendsSo (take read_limit text) cause sent → Sends SendsSo text cause sent
judged_whole SendsSo text cause sent sends = by_length (cases_lt text_limit (length text)) sends where
  long_sends : (sent : List ℕ) → text_limit < length text → Sends SendsSo (take read_limit text) cause sent → Sends SendsSo text cause sent
  long_sends _ long (no_memory is) = no_memory is
  long_sends _ long (no_script none) = no_script (still_too_long text cause long none)
  long_sends _ long (of_tree tree sent has sends) = absurd (omega (arith, long, length-take read_limit text, has.is.fit.few))

  by_length : (text_limit < length text) ⊎ (length text ≤ text_limit) → Sends SendsSo (take read_limit text) cause sent → Sends SendsSo text cause sent
  by_length (inl long) s = long_sends sent long s
  by_length (inr short) s = subst (λ (t : List ℕ). Sends SendsSo t cause sent) (take_all read_limit text (omega (arith, short))) s

-- ---- over files that hold the same

finds_over : {X : Type 0} (D E : Cause → List X → Type 0) (tree : List Stmt) (cause : Cause) → ((xs : List X) → D cause xs → E cause xs) → (xs : List X) → FindsTypes D tree cause xs → FindsTypes E tree cause xs
finds_over D E tree cause over _ (untyped is) = untyped is
finds_over D E tree cause over _ (refused refusal first is) = refused refusal first is
finds_over D E tree cause over _ (has_type xs typed does) = has_type xs typed (over xs does)

judges_over : (D E : List Stmt → Cause → List Event → Type 0) (text : List ℕ) (cause : Cause) → ((tree : List Stmt) (calls : List Event) → D tree cause calls → E tree cause calls) → (calls : List Event)
    → Judges D text cause calls → Judges E text cause calls
judges_over D E text cause over _ (no_memory is) = no_memory is
judges_over D E text cause over _ (no_script none) = no_script none
judges_over D E text cause over _ (of_tree tree calls has does) = of_tree tree calls has (over tree calls does)

module _ (tells : Bool) (f f' : Files) (same : IsTrue tells → SameSources f f') where
  does_over : (command : Command) (tree : List Stmt) (cause : Cause) (calls : List Event) → Does command tells f' tree cause calls → Does command tells f tree cause calls
  does_over (Run script options) tree cause calls does = finds_over _ _ tree cause (λ xs. runs_over tells f f' same options tree cause xs) calls does
  does_over (Check script) tree cause calls does = does
  does_over (Show script) tree cause calls does = does

-- ---- a script

-- which is that of a command
module _ (command : Command) (name : List ℕ) (named : name ≡ script_of command) where
  module _ {T : Type 0} (items : T → List ℕ) (t : T) (text : List ℕ) (cause : Cause) (is : text ≡ items t) where
    pub script_sends : (f f1 f2 : Files) → ReadsFront {E = WorldError} name read_limit items (Ok t) f f1 → Sent (Sends (SendsFor command) text cause) f1 f2
        → Sent (SendsScript (SendsFor command) f.contents (script_of command) cause) f f2
    script_sends f f1 f2 reads sends = record {
      sent = sends.sent;
      output = sends.output ∙ ap (λ (o : List ℕ). o ++ sends.sent) reads.output;
      rest = keeps_on f f1 f2 reads.rest sends.rest;
      answer = read sends.sent (judged_whole (SendsFor command) (f.contents (script_of command)) cause sends.sent
          (subst (λ (b : List ℕ). Sends (SendsFor command) b cause sends.sent) (is ∙ sym reads.front ∙ ap (λ (n : List ℕ). take read_limit (f.contents n)) named)
          sends.answer));
    }

    pub script_logs : (tells : Bool) (f f1 : Files) (l l1 l2 : List Event) → (IsTrue tells → ReadsFront {E = WorldError} name read_limit items (Ok t) f f1) → LogsRead name read_limit items (Ok t) l l1
        → Logs (Judges (Does command tells f1) text) cause l1 l2 → Called (ReadsAndJudges (Does command tells f) (script_of command) cause) l l2
    script_logs tells f f1 l l1 l2 front reads judged = record {
      reading = reads.part;
      calls = judged.calls;
      log = judged.log ∙ ap (λ (l : List Event). l ++ judged.calls) reads.log ∙ append_assoc l reads.part judged.calls;
      answer = read text reads.part judged.calls (subst (λ (n : List ℕ). ReadsWhole n read_limit text reads.part) named (subst (λ (b : List ℕ). ReadsWhole name read_limit b reads.part) (sym is) reads.whole))
          (judges_over _ _ text cause (λ tree calls. does_over tells f f1 (λ told. sources_kept f f1 (front told).rest) command tree cause calls) judged.calls judged.does);
    }

  unread_cause : (e : WorldError) → IsUnread (script_cause e)
  unread_cause Failed = inl refl
  unread_cause NoMemory = inr refl

  module _ {T : Type 0} (items : T → List ℕ) (e : WorldError) where
    pub unread_sends : (f f1 : Files) → ReadsFront name read_limit items (Err e) f f1
        → Sent (SendsScript (SendsFor command) f.contents (script_of command) (script_cause e)) f f1
    unread_sends f f1 reads = record {
      sent = [];
      output = reads.output ∙ sym (append-nil f.output);
      rest = reads.rest;
      answer = unread (unread_cause e);
    }

    pub unread_logs : (tells : Bool) (f : Files) (l l1 : List Event) → LogsRead name read_limit items (Err e) l l1 → Called (ReadsAndJudges (Does command tells f) (script_of command) (script_cause e)) l l1
    unread_logs tells f l l1 reads = record {
      reading = reads.part;
      calls = [];
      log = reads.log ∙ ap (λ (p : List Event). l ++ p) (sym (append-nil reads.part));
      answer = unread e reads.part (subst (λ (n : List ℕ). TriesRead n read_limit e reads.part) named reads.tries) refl;
    }

-- ---- when a command comes to its end

module _ (before now : ℕ) (cause : Cause) (origin : HasOrigin before now cause) where
  -- a text that is written is a success, unless a call failed
  text_ends : IsTextCause cause → EndsUnlessFailed before now cause
  text_ends (inl success) quiet = inl success
  text_ends (inr (inl fault)) quiet = absurd (quiet (subst (HasOrigin before now) fault origin))
  text_ends (inr (inr none)) quiet = inr none

  pub shown_ends : (text sent : List ℕ) → SendsText text cause sent → EndsUnlessFailed before now cause
  shown_ends text sent sends = text_ends sends.ran

  pub checked_ends : (text : List ℕ) (tree : List Stmt) (sent : List ℕ) → HasType tree → FindsTypes (SendsText text) tree cause sent → EndsUnlessFailed before now cause
  checked_ends text tree _ typed (untyped none) quiet = inr none
  checked_ends text tree _ typed (refused refusal first is) quiet = absurd (never_both_so tree refusal typed first)
  checked_ends text tree _ typed (has_type sent same sends) quiet = text_ends sends.ran quiet

-- a tree that has none is not taken
pub untyped_ends : (tree : List Stmt) (before now : ℕ) (cause : Cause) → HasType tree → (cause ≡ WithoutMemory) ⊎ ((refusal : Refusal) × IsFirst tree refusal × (cause ≡ Refused refusal)) → EndsUnlessFailed before now cause
untyped_ends tree before now cause typed (inl none) quiet = inr none
untyped_ends tree before now cause typed (inr (refusal, first, is)) quiet = absurd (never_both_so tree refusal typed first)

module _ (P : List Stmt → Type 0) (text : List ℕ) (before now : ℕ) (cause : Cause) where
  -- the tree of a text that is taken is the one that is found
  pub tree_ends : (tree : List Stmt) → HasTree text tree → (P tree → EndsUnlessFailed before now cause) → HasTaken P text → EndsUnlessFailed before now cause
  tree_ends tree has ends (other, is, taken) = ends (subst P (has.only other is) taken)

  pub none_ends : (cause ≡ WithoutMemory) ⊎ HasNone text cause → HasTaken P text → EndsUnlessFailed before now cause
  none_ends (inl none) taken quiet = inr none
  none_ends (inr has) (tree, is, taken) quiet = absurd (has.none tree is)

-- a text that is taken is read whole
pub read_taken : (P : List Stmt → Type 0) (whole text : List ℕ) → take read_limit whole ≡ text → HasTaken P whole → HasTaken P text
read_taken P whole text is (tree, has, taken) = (tree, subst (λ (t : List ℕ). IsScriptOf t tree) (sym (take_all read_limit whole (let few = has.fit.few in omega (arith, few))) ∙ is) has, taken)

-- the files that a tree is run over hold what they held
pub taken_over : (told : Bool) (f f' : Files) → KeepsRest f f' → (command : Command) (tree : List Stmt) → IsTakenTree told f command tree → IsTakenTree told f' command tree
taken_over told f f' keeps command tree taken = subst (λ (h : Files). IsTakenTree told h command tree) (sym keeps) (kept command taken) where
  kept : (command : Command) → IsTakenTree told f command tree → IsTakenTree told (record f { output = f'.output; given = f'.given }) command tree
  kept (Run script options) taken = record { told = taken.told; has_type = taken.has_type; is_built = taken.is_built; is_done = taken.is_done }
  kept (Check script) taken = taken
  kept (Show script) taken = taken

-- and its tree is taken still once it was read
pub taken_text : (told : Bool) (f f' : Files) → KeepsRest f f' → (command : Command) (name : List ℕ) → name ≡ script_of command → {T : Type 0} (items : T → List ℕ) (t : T) (text : List ℕ) → text ≡ items t
    → ReadsFront {E = WorldError} name read_limit items (Ok t) f f' → IsTaken told f command (f.contents (script_of command)) → IsTaken told f' command text
taken_text told f f' keeps command name named items t text is reads taken =
    let read = read_taken (IsTakenTree told f command) (f.contents (script_of command)) text (ap (λ (n : List ℕ). take read_limit (f.contents n)) (sym named) ∙ reads.front ∙ sym is) taken in
    (read.0, read.1, taken_over told f f' keeps command read.0 read.2)

pub unread_ends : (e : WorldError) (before now : ℕ) → HasOrigin before now (script_cause e) → EndsUnlessFailed before now (script_cause e)
unread_ends Failed before now rose quiet = absurd (quiet rose)
unread_ends NoMemory before now origin quiet = inr refl

-- ---- the words

-- the words are those of one command
pub same_command : (words : List (List ℕ)) (c d : Command) → IsCommand words c → IsCommand words d → c ≡ d
same_command words c d first second = some_same (sym first ∙ second) where
  some_same : Some c ≡ Some d → c ≡ d
  some_same is = ap (λ (o : Option Command). of o) is where
    of : Option Command → Command
    of (Some x) = x
    of _ = c

module _ (words : List (List ℕ)) where
  pub words_send : (command : Command) (cause : Cause) (f f' : Files) → IsCommand words command → Sent (SendsScript (SendsFor command) f.contents (script_of command) cause) f f'
      → Sent (AnswersCommand words f.contents cause) f f'
  words_send command cause f f' is sends = record { sent = sends.sent; output = sends.output; rest = sends.rest; answer = of_command command sends.sent is sends.answer }

  pub words_log : (tells : Bool) (files : Files) (command : Command) (cause : Cause) (l l' : List Event) → IsCommand words command → Called (ReadsAndJudges (Does command tells files) (script_of command) cause) l l' → Called (Calls tells files words cause) l l'
  words_log tells files command cause l l' is called = record { reading = called.reading; calls = called.calls; log = called.log; answer = of_command command called.reading called.calls is called.answer }

  refused_answer : (refusal : WordsRefusal) (contents : List ℕ → List ℕ) → AreArguments words (Err refusal) → AnswersCommand words contents (words_cause refusal) []
  refused_answer words_refusal.Usage contents none = other_words none refl
  refused_answer words_refusal.NoMemory contents none = no_memory refl

  refused_calls : (tells : Bool) (files : Files) (refusal : WordsRefusal) → AreArguments words (Err refusal) → Calls tells files words (words_cause refusal) [] []
  refused_calls tells files words_refusal.Usage none = other_words none refl
  refused_calls tells files words_refusal.NoMemory none = no_memory refl

  pub refused_send : (refusal : WordsRefusal) (f : Files) → AreArguments words (Err refusal) → Sent (AnswersCommand words f.contents (words_cause refusal)) f f
  refused_send refusal f is = record { sent = []; output = sym (append-nil f.output); rest = refl; answer = refused_answer refusal f.contents is }

  pub refused_log : (tells : Bool) (files : Files) (refusal : WordsRefusal) (l : List Event) → AreArguments words (Err refusal) → Called (Calls tells files words (words_cause refusal)) l l
  refused_log tells files refusal l is = record { reading = []; calls = []; log = sym (append-nil l); answer = refused_calls tells files refusal is }

  pub refused_ends : (refusal : WordsRefusal) (command : Command) (before now : ℕ) → AreArguments words (Err refusal) → IsCommand words command → EndsUnlessFailed before now (words_cause refusal)
  refused_ends words_refusal.Usage command before now none is quiet = absurd (none_some (sym none ∙ is)) where
    none_some : None ≡ Some command → ⊥
    none_some e = absurd cc
  refused_ends words_refusal.NoMemory command before now none is quiet = inr refl
