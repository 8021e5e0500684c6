-- How a run of writes to a standard stream goes on.
use Rattle.std.proofs.Common.{◌≡◌, ◌≢◌, ◌⊎◌, inl, inr, ℕ, ◌<◌, ◌+◌, ◌-◌, ◌≤◌, length-drop, List, [], ◌∷◌, ◌++◌, length, take, drop, Result, Ok, Err, refl, sym, ◌∙◌, ap, arith, append_assoc}
use Rattle.std.proofs.lemmas.List.{append-nil, take_all, drop_all, take-append-drop}
use Rattle.std.proofs.Math.Seq.{take-add}
use Rattle.std.proofs.lemmas.List.Elements.{All-append, All-cons}
use Rattle.std.proofs.lemmas.List.Concat.{flat_map-append}
use Rattle.std.specs.Prelude.{All, OnOk, OnErr}
use Rattle.std.specs.Result.{IsErrAnd}
use Rattle.cd_world.specs.declared.event.Descriptor.{Descriptor}
use Rattle.cd_world.specs.declared.event.Event.{Event}
use Rattle.cd_world.specs.declared.event.Event.TheVariants.{Wrote, WriteFailed}
use Rattle.cd_world.specs.declared.world.WorldError.{WorldError}
use Rattle.cd_world.specs.declared.world.WorldError.TheVariants.{Failed, NoMemory}
use Rattle.cd_world.specs.Events.{wrote, written_to, IsWriteOn}
use Rattle.cd_world.specs.Files.{Files, with_output, with_errors, WritesOutput, WritesErrors}
use Rattle.cd_cli.specs.declared.streams.Stream.{Stream}
use Rattle.cd_cli.specs.declared.streams.Stream.TheVariants.{Output, Errors}
use Rattle.cd_cli.specs.Streams.{descriptor_of, with_sent, WritesFront, LogsFront}
use Rattle.cd_cli.specs.Streams.{IsCalm, NoneFailed}

pub nothing_more : (P : Event → Type 0) → All P []
nothing_more P k e lt = absurd (omega (arith, lt))

-- a front, and then a front of what is behind it
pub front_more : (bytes : List ℕ) (done count : ℕ) → take done bytes ++ take count (take (length bytes - done) (drop done bytes)) ≡ take (done + count) bytes
front_more bytes done count =
    ap (λ (l : List ℕ). take done bytes ++ take count l) (take_all (length bytes - done) (drop done bytes) (omega (arith, length-drop done bytes)))
    ∙ sym (take-add done count bytes)

pub on_ok : {T E P Q : Type 0} (result : Result T E) → (P → Q) → OnOk result P → OnOk result Q
on_ok (Ok done) f p = f p
on_ok (Err error) f p = tt

-- ---- what the exit of a `?` answers

pub answered : {T : Type 0} (result : Result T WorldError) (e : WorldError) → IsErrAnd result (λ y. y ≡ e) → result ≡ Err e
answered (Ok x) e is = absurd is
answered (Err y) e is = ap Err is

pub on_refused : {T : Type 0} (result : Result T WorldError) (e : WorldError) → IsErrAnd result (λ y. y ≡ e) → (P : Type 0) → OnOk result P
on_refused (Ok x) e is P = absurd is
on_refused (Err y) e is P = tt

-- ---- what holds unless a call failed

abbrev pub IsUnfailed : {T : Type 0} → Result T WorldError → Type 0
IsUnfailed result = result ≢ Err Failed

pub ok_unfailed : {T : Type 0} (x : T) → IsUnfailed (Ok x)
ok_unfailed x is = absurd cc

pub no_memory_unfailed : (T : Type 0) → IsUnfailed {T = T} (Err NoMemory)
no_memory_unfailed T is = absurd cc

pub unless_failed : {T : Type 0} (result : Result T WorldError) (P : Type 0) → (IsUnfailed result → P) → OnOk result P
unless_failed (Ok x) P p = p (ok_unfailed x)
unless_failed (Err e) P p = tt

-- a refusal is handed on
pub handed_on : (T : Type 0) {U : Type 0} (result : Result U WorldError) (e : WorldError) → IsErrAnd result (λ y. y ≡ e) → IsUnfailed result → IsUnfailed {T = T} (Err e)
handed_on T result Failed is unfailed = absurd (unfailed (answered result Failed is))
handed_on T result NoMemory is unfailed = no_memory_unfailed T

-- what is behind a front that is no whole is something
pub some_behind : (done : ℕ) (bytes : List ℕ) → done < length bytes → drop done bytes ≢ []
some_behind done bytes less none =
    let size : length (drop done bytes) ≡ 0 = ap length none in
    absurd (omega (arith, less, size, length-drop done bytes))

pub on_error : {T E P : Type 0} (result : Result T E) → P → OnErr result P
on_error (Ok x) p = tt
on_error (Err e) p = p

-- ---- the stream

pub stream_writable : {P : Type 0} (to : Stream) (d : Descriptor) → d ≡ descriptor_of to → (d.0 ≡ 1) ⊎ ((d.0 ≡ 2) ⊎ P)
stream_writable Output d is = inl (ap (λ (e : Descriptor). e.0) is)
stream_writable Errors d is = inr (inl (ap (λ (e : Descriptor). e.0) is))

abbrev pub WritesSent : Stream → List ℕ → Result ℕ WorldError → Files → Files → Type 0
WritesSent to bytes (Ok count) f f' = f' ≡ with_sent to (take count bytes) f
WritesSent to bytes (Err e) f f' = f' ≡ f

-- what the world says of a write to it
pub written_on : (to : Stream) (d : Descriptor) (bytes : List ℕ) (result : Result ℕ WorldError) (f f' : Files) → d ≡ descriptor_of to → (d.0 ≡ 1 → WritesOutput bytes result f f')
    → (d.0 ≡ 2 → WritesErrors bytes result f f') → WritesSent to bytes result f f'
written_on Output d bytes (Ok count) f f' is output errors = output (ap (λ (e : Descriptor). e.0) is)
written_on Output d bytes (Err e) f f' is output errors = output (ap (λ (e : Descriptor). e.0) is)
written_on Errors d bytes (Ok count) f f' is output errors = errors (ap (λ (e : Descriptor). e.0) is)
written_on Errors d bytes (Err e) f f' is output errors = errors (ap (λ (e : Descriptor). e.0) is)

-- ---- the files

pub files_none : (to : Stream) (f : Files) → f ≡ with_sent to [] f
files_none Output f = ap (λ (o : List ℕ). record f { output = o }) (sym (append-nil f.output))
files_none Errors f = ap (λ (o : List ℕ). record f { errors = o }) (sym (append-nil f.errors))

pub files_more : (to : Stream) (a b : List ℕ) (f f' f'' : Files) → f' ≡ with_sent to a f → f'' ≡ with_sent to b f' → f'' ≡ with_sent to (a ++ b) f
files_more Output a b f f' f'' so_far more = more ∙ ap (with_output b) so_far ∙ ap (λ (o : List ℕ). record f { output = o }) (append_assoc f.output a b)
files_more Errors a b f f' f'' so_far more = more ∙ ap (with_errors b) so_far ∙ ap (λ (o : List ℕ). record f { errors = o }) (append_assoc f.errors a b)

module _ {T : Type 0} (to : Stream) (bytes : List ℕ) (done : ℕ) (f f' : Files) (so_far : f' ≡ with_sent to (take done bytes) f) where
  pub writes_whole : (x : T) → length bytes ≤ done → WritesFront {T = T} {E = WorldError} to bytes (Ok x) f f'
  writes_whole x all = record { sent = take done bytes; behind = drop done bytes; front = sym (take-append-drop done bytes); whole = drop_all done bytes all; cut = tt; files = so_far }

  pub writes_refused : (result : Result T WorldError) (e : WorldError) (slice : List ℕ) (f'' : Files) → IsErrAnd result (λ y. y ≡ e) → done < length bytes → WritesSent to slice (Err e) f' f'' → WritesFront to bytes result f f''
  writes_refused result e slice f'' is less same = record {
    sent = take done bytes;
    behind = drop done bytes;
    front = sym (take-append-drop done bytes);
    whole = on_refused result e is _;
    cut = on_error result (some_behind done bytes less);
    files = same ∙ so_far;
  }

-- ---- the calls

-- These bytes were written to the stream, and nothing else was called. No call failed.
pub record LogsSent (to : Stream) (bytes : List ℕ) (l l' : List Event) : Type 0 where
  pub part : List Event
  pub log : l' ≡ l ++ part
  pub writes : All (IsWriteOn (descriptor_of to).0) part
  pub written : written_to (descriptor_of to).0 part ≡ bytes
  pub calm : NoneFailed part

pub log_none : (to : Stream) (l : List Event) → LogsSent to [] l l
log_none to l = record { part = []; log = sym (append-nil l); writes = nothing_more (IsWriteOn (descriptor_of to).0); written = refl; calm = nothing_more IsCalm }

one_written : (to : Stream) (bytes : List ℕ) → written_to (descriptor_of to).0 (Wrote (descriptor_of to) bytes ∷ []) ≡ bytes
one_written Output bytes = append-nil bytes
one_written Errors bytes = append-nil bytes

-- a write that took so many bytes
pub log_wrote : (to : Stream) (a slice : List ℕ) (l l' l'' : List Event) (so_far : LogsSent to a l l') (d : Descriptor) (k : ℕ) → d ≡ descriptor_of to → l'' ≡ l' ++ wrote d slice (Ok k)
    → LogsSent to (a ++ take k slice) l l''
log_wrote to a slice l l' l'' so_far d k is told = let log : l'' ≡ l' ++ wrote (descriptor_of to) slice (Ok k) = told ∙ ap (λ (e : Descriptor). l' ++ wrote e slice (Ok k)) is in record {
  part = so_far.part ++ Wrote (descriptor_of to) (take k slice) ∷ [];
  log = log ∙ ap (λ (l : List Event). l ++ Wrote (descriptor_of to) (take k slice) ∷ []) so_far.log ∙ append_assoc l so_far.part (Wrote (descriptor_of to) (take k slice) ∷ []);
  writes = All-append (IsWriteOn (descriptor_of to).0) so_far.part _ so_far.writes (All-cons (IsWriteOn (descriptor_of to).0) _ [] refl (nothing_more (IsWriteOn (descriptor_of to).0)));
  written = flat_map-append _ so_far.part (Wrote (descriptor_of to) (take k slice) ∷ []) ∙ (λ i. so_far.written i ++ one_written to (take k slice) i);
  calm = All-append IsCalm so_far.part _ so_far.calm (All-cons IsCalm _ [] refl (nothing_more IsCalm));
}

module _ {T : Type 0} (to : Stream) (bytes : List ℕ) (done : ℕ) (l l' : List Event) (so_far : LogsSent to (take done bytes) l l') where
  pub log_whole : (x : T) → length bytes ≤ done → LogsFront {T = T} to bytes (Ok x) l l'
  log_whole x all = record {
    part = so_far.part;
    log = so_far.log;
    writes = so_far.writes;
    behind = drop done bytes;
    front = sym (ap (λ (w : List ℕ). w ++ drop done bytes) so_far.written ∙ take-append-drop done bytes);
    whole = drop_all done bytes all;
    cut = tt;
    calm = λ unfailed. so_far.calm;
    last = λ failed. absurd (ok_unfailed x failed);
  }

  refused : (result : Result T WorldError) (e : WorldError) (slice : List ℕ) (l'' : List Event) → IsErrAnd result (λ y. y ≡ e) → done < length bytes
      → l'' ≡ l' ++ wrote (descriptor_of to) slice (Err e) → LogsFront to bytes result l l''
  refused result Failed slice l'' is less log = record {
    part = so_far.part ++ WriteFailed (descriptor_of to) ∷ [];
    log = log ∙ ap (λ (l : List Event). l ++ WriteFailed (descriptor_of to) ∷ []) so_far.log ∙ append_assoc l so_far.part (WriteFailed (descriptor_of to) ∷ []);
    writes = All-append (IsWriteOn (descriptor_of to).0) so_far.part _ so_far.writes (All-cons (IsWriteOn (descriptor_of to).0) _ [] refl (nothing_more (IsWriteOn (descriptor_of to).0)));
    behind = drop done bytes;
    front = sym (ap (λ (w : List ℕ). w ++ drop done bytes) (flat_map-append _ so_far.part (WriteFailed (descriptor_of to) ∷ []) ∙ append-nil (written_to (descriptor_of to).0 so_far.part) ∙ so_far.written) ∙ take-append-drop done bytes);
    whole = on_refused result Failed is _;
    cut = on_error result (some_behind done bytes less);
    calm = λ unfailed. absurd (unfailed (answered result Failed is));
    last = λ failed. record { before = so_far.part; calm = so_far.calm; events_are = refl };
  }
  refused result NoMemory slice l'' is less log = record {
    part = so_far.part;
    log = log ∙ append-nil l' ∙ so_far.log;
    writes = so_far.writes;
    behind = drop done bytes;
    front = sym (ap (λ (w : List ℕ). w ++ drop done bytes) so_far.written ∙ take-append-drop done bytes);
    whole = on_refused result NoMemory is _;
    cut = on_error result (some_behind done bytes less);
    calm = λ unfailed. so_far.calm;
    last = λ failed. absurd (no_memory_unfailed T (sym (answered result NoMemory is) ∙ failed));
  }

  -- a write that was refused
  pub log_refused : (result : Result T WorldError) (e : WorldError) (slice : List ℕ) (l'' : List Event) (d : Descriptor) → IsErrAnd result (λ y. y ≡ e) → done < length bytes → d ≡ descriptor_of to
      → l'' ≡ l' ++ wrote d slice (Err e) → LogsFront to bytes result l l''
  log_refused result e slice l'' d is less d_is told = refused result e slice l'' is less (told ∙ ap (λ (f : Descriptor). l' ++ wrote f slice (Err e)) d_is)
