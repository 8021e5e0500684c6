-- How the reads that fill a buffer go on.
use Rattle.std.proofs.Common.{◌≡◌, ◌≢◌, ◌⊎◌, inl, inr, ℕ, ◌+◌, ◌-◌, ◌≤◌, min, length, length-take, length-drop, List, [], ◌∷◌, ◌++◌, take, drop, Result, Ok, Err, refl, sym, ◌∙◌, ap, subst, arith, append_assoc, Bool, if◌then◌else◌, ◌==◌, true}
use Rattle.std.specs.Prelude.{All, IfOk, IfErr}
use Rattle.std.specs.Result.{IsErrAnd}
use Rattle.std.proofs.lemmas.List.{append-nil, take-take}
use Rattle.std.proofs.lemmas.Slice.{take-put_mid, take-put_mid_below}
use borrow.Rule.Slice.PartMut.{put_mid, same_len_mid}
use Rattle.std.proofs.lemmas.List.Elements.{All-append, All-cons}
use Rattle.std.proofs.lemmas.List.Concat.{flat_map-append}
use Rattle.std.proofs.lemmas.Bool.Decides.{nat_tests}
use Rattle.std.proofs.Math.Seq.{take-nil, take-append-add}
use Rattle.cd_world.specs.declared.event.Descriptor.{Descriptor}
use Rattle.cd_world.specs.declared.event.Event.{Event}
use Rattle.cd_world.specs.declared.event.Event.TheVariants.{OpenedRead, OpenFailed, Gave, GaveEnd, ReadFailed, Closed, CloseFailed as CloseFailing}
use Rattle.cd_world.specs.declared.event.Use.TheVariants.{Reading}
use Rattle.cd_world.specs.declared.world.WorldError.{WorldError}
use Rattle.cd_world.specs.declared.world.WorldError.TheVariants.{Failed, NoMemory}
use Rattle.cd_world.specs.declared.world.CloseFailed.{CloseFailed}
use Rattle.cd_world.specs.Events.{opened, closed, gave, given_by, bytes_given}
use Rattle.cd_world.specs.Live.{open_as}
use Rattle.cd_world.specs.Files.{Files, left_at, with_given, after_open, ReadsFile, ClosesFile}
use Rattle.cd_cli.specs.Script.{StopsIn, ComesFrom, TriesRead, Fills, IsGaveOn, ScriptReads, LogsFill, ReadsWhole, none_called, open_failed, opened_closed, ReadsFront, LogsRead}
use Rattle.cd_cli.specs.Cause.{answer_of}
use Rattle.cd_cli.specs.Streams.{KeepsRest}
use Rattle.cd_cli.proofs.RestSteps.{keeps_on, keeps_by}
use Rattle.cd_cli.proofs.ByteFronts.{take-given, left_after_read}
use Rattle.cd_cli.proofs.WriteSteps.{nothing_more, answered}

-- the files once so much of a buffer is filled
pub record Filling (d : ℕ) (name : List ℕ) (filled : ℕ) (buffer : List ℕ) (f f' : Files) : Type 0 where
  pub output : f'.output ≡ f.output
  pub rest : KeepsRest f f'
  pub front : take (length buffer) (left_at d name f) ≡ take filled buffer ++ take (length buffer - filled) (left_at d name f')

-- the calls once so much of a buffer is filled
pub record LogsFilling (d : Descriptor) (filled : ℕ) (buffer : List ℕ) (l l' : List Event) : Type 0 where
  pub gives : List Event
  pub log : l' ≡ l ++ gives
  pub gave : All (IsGaveOn d) gives
  pub given : bytes_given gives ≡ take filled buffer

-- the buffer after a read behind its front

module _ (filled k count : ℕ) (buffer into : List ℕ) (fits : filled ≤ length buffer) (k_is : k ≡ length buffer - filled) (size : length into ≡ k) (within : count ≤ k) where
  pub filled_is : take (filled + count) (put_mid filled k buffer into) ≡ take filled buffer ++ take count into
  filled_is =
      let front : length (take filled buffer) ≡ filled = omega (arith, length-take filled buffer) in
      let at : length (take filled buffer) + count ≡ filled + count = ap (λ (n : ℕ). n + count) front in
      sym (take-take (filled + count) (filled + k) (put_mid filled k buffer into) (omega arith))
      ∙ ap (take (filled + count)) (take-put_mid filled k buffer into (filled + k) (omega arith) fits)
      ∙ subst (λ (n : ℕ). take n (take filled buffer ++ into) ≡ take filled buffer ++ take count into) at (take-append-add (take filled buffer) into count)

  pub size_is : length (put_mid filled k buffer into) ≡ length buffer
  size_is = same_len_mid filled k buffer into (omega (arith, length-take k (drop filled buffer), length-drop filled buffer))

  pub front_is : take filled (put_mid filled k buffer into) ≡ take filled buffer
  front_is = take-put_mid_below filled k buffer into filled (omega arith) fits

-- the files

pub fill_none : (d : ℕ) (name buffer : List ℕ) (f : Files) → Filling d name 0 buffer f f
fill_none d name buffer f = let all : length buffer ≡ length buffer - 0 = omega arith in record { output = refl; rest = refl; front = ap (λ (n : ℕ). take n (left_at d name f)) all }

module _ (d : ℕ) (name : List ℕ) (filled k : ℕ) (buffer into : List ℕ) (f f1 f2 : Files) (so_far : Filling d name filled buffer f f1)
    (fits : filled ≤ length buffer) (k_is : k ≡ length buffer - filled) (size : length into ≡ k) where
  -- a read that was refused
  pub fill_refused : (result : Result ℕ WorldError) (e : WorldError) → IfOk result (λ n. take (length (put_mid filled k buffer into)) (left_at d name f) ≡ take n (put_mid filled k buffer into))
      → ReadsFile d name into (Err e) f1 f2 → Fills d name (put_mid filled k buffer into) result f f2
  fill_refused result e front files = record {
    output = ap (λ (f : Files). f.output) files ∙ so_far.output;
    rest = keeps_on f f1 f2 so_far.rest (keeps_by f1 f2 f1 files refl);
    front = front;
  }

  -- a read that gave bytes, or told the end
  pub fill_more : (count : ℕ) → count ≤ k → ReadsFile d name into (Ok count) f1 f2 → Filling d name (filled + count) (put_mid filled k buffer into) f f2
  fill_more count within read = record {
    output = ap (λ (f : Files). f.output) read.1 ∙ so_far.output;
    rest = keeps_on f f1 f2 so_far.rest (keeps_by f1 f2 _ read.1 refl);
    front =
        let least : count ≡ min (length buffer - filled) count = omega arith in
        let rest : length buffer - filled - count ≡ length (put_mid filled k buffer into) - (filled + count) = omega (arith, size_is filled k count buffer into fits k_is size within) in
        ap (λ (n : ℕ). take n (left_at d name f)) (size_is filled k count buffer into fits k_is size within)
        ∙ so_far.front
        ∙ ap (λ (b : List ℕ). take filled buffer ++ take (length buffer - filled) b) read.0.bytes
        ∙ ap (λ (b : List ℕ). take filled buffer ++ b) (take-given (length buffer - filled) count count into (drop count (left_at d name f1)) (omega arith) least)
        ∙ sym (append_assoc (take filled buffer) (take count into) (take (length buffer - filled - count) (drop count (left_at d name f1))))
        ∙ (λ i. sym (filled_is filled k count buffer into fits k_is size within) i
        ++ take (rest i) ((sym (left_after_read d name count f1) ∙ ap (λ (f : Files). left_at d name f) (sym read.1)) i));
  }

  -- a read that told the end
  pub fill_end : (count : ℕ) → count ≡ 0 → ReadsFile d name into (Ok count) f1 f2 → Fills {E = WorldError} d name (put_mid filled k buffer into) (Ok filled) f f2
  fill_end count zero read = record {
    output = ap (λ (f : Files). f.output) read.1 ∙ so_far.output;
    rest = keeps_on f f1 f2 so_far.rest (keeps_by f1 f2 _ read.1 refl);
    front = ap (λ (n : ℕ). take n (left_at d name f)) (size_is filled k 0 buffer into fits k_is size (omega arith))
        ∙ so_far.front
        ∙ ap (λ (b : List ℕ). take filled buffer ++ take (length buffer - filled) b) (read.0.end zero)
        ∙ ap (λ (b : List ℕ). take filled buffer ++ b) (take-nil (length buffer - filled))
        ∙ append-nil (take filled buffer)
        ∙ sym (front_is filled k 0 buffer into fits k_is size (omega arith));
  }

-- the buffer is full
pub fill_full : (d : ℕ) (name : List ℕ) (filled : ℕ) (buffer : List ℕ) (f f' : Files) → Filling d name filled buffer f f' → length buffer ≤ filled → Fills {E = WorldError} d name buffer (Ok filled) f f'
fill_full d name filled buffer f f' so_far full =
    let none : length buffer - filled ≡ 0 = omega arith in record {
      output = so_far.output;
      rest = so_far.rest;
      front = so_far.front ∙ ap (λ (n : ℕ). take filled buffer ++ take n (left_at d name f')) none ∙ append-nil (take filled buffer);
    }

-- the calls

pub log_fill_none : (d : Descriptor) (buffer : List ℕ) (l : List Event) → LogsFilling d 0 buffer l l
log_fill_none d buffer l = record { gives = []; log = sym (append-nil l); gave = nothing_more (IsGaveOn d); given = refl }

-- the buffer is full
pub log_fill_full : (d : Descriptor) (filled : ℕ) (buffer : List ℕ) (l l' : List Event) → LogsFilling d filled buffer l l' → filled ≡ length buffer → LogsFill d buffer (Ok filled) l l'
log_fill_full d filled buffer l l' so_far full =
    let size : length (bytes_given so_far.gives) ≡ length buffer = ap length so_far.given ∙ length-take filled buffer ∙ omega arith in record {
      gives = so_far.gives;
      last = [];
      log = so_far.log ∙ ap (λ (p : List Event). l ++ p) (sym (append-nil so_far.gives));
      reads = record { gave = so_far.gave; within = omega (arith, size); ending = inl refl };
      whole = (so_far.given, inr (refl, size));
      stopped = tt;
    }

module _ (d : Descriptor) (filled k : ℕ) (buffer into : List ℕ) (l l1 l2 : List Event) (so_far : LogsFilling d filled buffer l l1)
    (fits : filled ≤ length buffer) (k_is : k ≡ length buffer - filled) (size : length into ≡ k) where
  -- the reads so far, and one more that gave nothing
  stopped : (last : List Event) → (last ≡ []) ⊎ ((last ≡ GaveEnd d ∷ []) ⊎ (last ≡ ReadFailed d ∷ [])) → ScriptReads d (length (put_mid filled k buffer into)) so_far.gives last
  stopped last ending = record {
    gave = so_far.gave;
    within = omega (arith, ap length so_far.given, length-take filled buffer, size_is filled k 0 buffer into fits k_is size (omega arith));
    ending = ending;
  }

  -- a read that was refused
  refused : (e : WorldError) → l2 ≡ l1 ++ gave d into (Err e) → LogsFill d (put_mid filled k buffer into) (Err e) l l2
  refused Failed log = record {
    gives = so_far.gives;
    last = ReadFailed d ∷ [];
    log = log ∙ ap (λ (l : List Event). l ++ ReadFailed d ∷ []) so_far.log ∙ append_assoc l so_far.gives (ReadFailed d ∷ []);
    reads = stopped (ReadFailed d ∷ []) (inr (inr refl));
    whole = tt;
    stopped = refl;
  }
  refused NoMemory log = record {
    gives = so_far.gives;
    last = [];
    log = log ∙ append-nil l1 ∙ so_far.log ∙ ap (λ (p : List Event). l ++ p) (sym (append-nil so_far.gives));
    reads = stopped [] (inl refl);
    whole = tt;
    stopped = refl;
  }

  pub log_fill_refused : (result : Result ℕ WorldError) (e : WorldError) → IsErrAnd result (λ y. y ≡ e) → l2 ≡ l1 ++ gave d into (Err e) → LogsFill d (put_mid filled k buffer into) result l l2
  log_fill_refused result e is log = subst (λ (r : Result ℕ WorldError). LogsFill d (put_mid filled k buffer into) r l l2) (sym (answered result e is)) (refused e log)

  -- a read that told the end
  pub log_fill_end : (count : ℕ) → count ≡ 0 → l2 ≡ l1 ++ gave d into (Ok count) → LogsFill d (put_mid filled k buffer into) (Ok filled) l l2
  log_fill_end count zero log = record {
    gives = so_far.gives;
    last = GaveEnd d ∷ [];
    log = subst (λ (m : ℕ). l2 ≡ l1 ++ gave d into (Ok m)) zero log ∙ ap (λ (l : List Event). l ++ GaveEnd d ∷ []) so_far.log ∙ append_assoc l so_far.gives (GaveEnd d ∷ []);
    reads = stopped (GaveEnd d ∷ []) (inr (inl refl));
    whole = (so_far.given ∙ sym (front_is filled k 0 buffer into fits k_is size (omega arith)), inl refl);
    stopped = tt;
  }

  -- a read that gave bytes
  pub log_fill_more : (count : ℕ) → count ≢ 0 → count ≤ k → l2 ≡ l1 ++ gave d into (Ok count) → LogsFilling d (filled + count) (put_mid filled k buffer into) l l2
  log_fill_more count some within log =
      let gave_is : gave d into (Ok count) ≡ Gave d (take count into) ∷ [] = grind (arith, nat_tests) in record {
        gives = so_far.gives ++ Gave d (take count into) ∷ [];
        log = log ∙ (λ i. so_far.log i ++ gave_is i) ∙ append_assoc l so_far.gives (Gave d (take count into) ∷ []);
        gave = All-append (IsGaveOn d) so_far.gives (Gave d (take count into) ∷ []) so_far.gave (All-cons (IsGaveOn d) _ [] refl (nothing_more (IsGaveOn d)));
        given = flat_map-append given_by so_far.gives (Gave d (take count into) ∷ []) ∙ (λ i. so_far.given i ++ append-nil (take count into) i)
            ∙ sym (filled_is filled k count buffer into fits k_is size within);
      }

-- a file that is opened, read and closed

kept_if : {T U : Type 0} (answer : Result T WorldError) (closing : Result U CloseFailed) (P : T → Type 0) → IfOk answer P → IfOk (answer_of answer closing) P
kept_if answer (Ok shut) P p = p
kept_if answer (Err failed) P p = tt

module _ (name : List ℕ) (size : ℕ) (f : Files) where
  -- nothing was read
  pub front_none : {T : Type 0} (text : T → List ℕ) (result : Result T WorldError) (f' : Files) → IfOk result (λ t. take size (f.contents name) ≡ text t) → f' ≡ f → ReadsFront name size text result f f'
  front_none text result f' front same = record { output = ap (λ (f : Files). f.output) same; rest = keeps_by f f' f same refl; front = front }

-- the file was opened, and a buffer filled
module _ (name buffer : List ℕ) (d : Descriptor) (f f1 f2 f3 : Files) (answer : Result ℕ WorldError) (fills : Fills d.0 name buffer answer f1 f2) (opens : f1 ≡ after_open Reading name (Ok d) f) where
  contents_are : left_at d.0 name f1 ≡ f.contents name
  contents_are =
      let same : (d.0 == d.0) ≡ true = grind (arith, nat_tests) in
      ap (λ (f : Files). left_at d.0 name f) opens ∙ ap (λ (b : Bool). drop (if b then 0 else f.given d.0) (f.contents name)) same

  front_of : (result : Result ℕ WorldError) → IfOk result (λ n. take (length buffer) (left_at d.0 name f1) ≡ take n buffer) → IfOk result (λ n. take (length buffer) (f.contents name) ≡ take n buffer)
  front_of (Ok n) front = ap (take (length buffer)) (sym contents_are) ∙ front
  front_of (Err e) front = tt

  front_end : {U : Type 0} (closing : Result U CloseFailed) (result : Result ℕ WorldError) → result ≡ answer_of answer closing → f3 ≡ with_given d.0 0 f2 → ReadsFront name (length buffer) (λ n. take n buffer) result f f3
  front_end closing result is files = record {
    output = ap (λ (f : Files). f.output) files ∙ fills.output ∙ ap (λ (f : Files). f.output) opens;
    rest = keeps_on f f1 f3 (keeps_by f f1 _ opens refl) (keeps_on f1 f2 f3 fills.rest (keeps_by f2 f3 _ files refl));
    front = subst (λ (r : Result ℕ WorldError). IfOk r (λ n. take (length buffer) (f.contents name) ≡ take n buffer)) (sym is)
        (kept_if answer closing _ (front_of answer fills.front));
  }

  pub front_closed : {U : Type 0} (closing : Result U CloseFailed) (result : Result ℕ WorldError) → result ≡ answer_of answer closing → ClosesFile (open_as Reading d name) closing f2 f3
      → ReadsFront name (length buffer) (λ n. take n buffer) result f f3
  front_closed closing result is files = front_end closing result is files

-- the calls

module _ {T : Type 0} (name : List ℕ) (size : ℕ) (text : T → List ℕ) (l : List Event) where
  -- nothing was called
  pub log_front_none : (result : Result T WorldError) → IsErrAnd result (λ y. y ≡ NoMemory) → LogsRead name size text result l l
  log_front_none result is = subst (λ (r : Result T WorldError). LogsRead name size text r l l) (sym (answered result NoMemory is))
      (record { part = []; log = sym (append-nil l); whole = tt; tries = none_called })

  -- the open was refused
  not_opened : (l' : List Event) (e : WorldError) → l' ≡ l ++ opened Reading name (Err e) → LogsRead name size text (Err e) l l'
  not_opened l' Failed log = record { part = OpenFailed name ∷ []; log = log; whole = tt; tries = open_failed }
  not_opened l' NoMemory log = record { part = []; log = log; whole = tt; tries = none_called }

  pub log_front_refused : (result : Result T WorldError) (l' : List Event) (e : WorldError) → IsErrAnd result (λ y. y ≡ e) → l' ≡ l ++ opened Reading name (Err e) → LogsRead name size text result l l'
  log_front_refused result l' e is log = subst (λ (r : Result T WorldError). LogsRead name size text r l l') (sym (answered result e is)) (not_opened l' e log)

-- the last call of a fill that was refused, behind which the close went well
stops_from : (d : Descriptor) (last : List Event) (e : WorldError) → StopsIn d last e → ComesFrom d last (Closed d) e
stops_from d last Failed stops = inl stops
stops_from d last NoMemory stops = (stops, refl)

module _ (name buffer : List ℕ) (d : Descriptor) (l l1 l2 l3 : List Event) (opens : l1 ≡ l ++ opened Reading name (Ok d)) where
  log_front_end : (answer result : Result ℕ WorldError) (fills : LogsFill d buffer answer l1 l2) (end : Event) → l3 ≡ l2 ++ end ∷ []
      → IfOk result (λ n. ReadsWhole name (length buffer) (take n buffer) (OpenedRead name d ∷ (fills.gives ++ fills.last) ++ end ∷ []))
      → IfErr result (λ e. TriesRead name (length buffer) e (OpenedRead name d ∷ (fills.gives ++ fills.last) ++ end ∷ []))
      → LogsRead name (length buffer) (λ n. take n buffer) result l l3
  log_front_end answer result fills end log whole tries = record {
    part = OpenedRead name d ∷ (fills.gives ++ fills.last) ++ end ∷ [];
    log = log ∙ ap (λ (l : List Event). l ++ end ∷ []) (fills.log ∙ ap (λ (l : List Event). l ++ (fills.gives ++ fills.last)) opens ∙ append_assoc l (OpenedRead name d ∷ []) (fills.gives ++ fills.last))
        ∙ append_assoc l (OpenedRead name d ∷ (fills.gives ++ fills.last)) (end ∷ []);
    whole = whole;
    tries = tries;
  }

  pub log_front_closed : {U : Type 0} (answer : Result ℕ WorldError) (closing : Result U CloseFailed) → LogsFill d buffer answer l1 l2 → l3 ≡ l2 ++ closed d closing
      → LogsRead name (length buffer) (λ n. take n buffer) (answer_of answer closing) l l3
  log_front_closed (Ok n) (Ok shut) fills log = log_front_end (Ok n) (Ok n) fills (Closed d) log (record {
    d = d;
    gives = fills.gives;
    last = fills.last;
    calls = refl;
    reads = fills.reads;
    whole = fills.whole.1;
    text_is = sym fills.whole.0;
  }) tt
  log_front_closed (Ok n) (Err failed) fills log = log_front_end (Ok n) (Err Failed) fills (CloseFailing d) log tt (opened_closed Failed d fills.gives fills.last (CloseFailing d) fills.reads refl (inr refl))
  log_front_closed (Err e) (Ok shut) fills log = log_front_end (Err e) (Err e) fills (Closed d) log tt
      (opened_closed e d fills.gives fills.last (Closed d) fills.reads refl (stops_from d fills.last e fills.stopped))
  log_front_closed (Err e) (Err failed) fills log = log_front_end (Err e) (Err Failed) fills (CloseFailing d) log tt
      (opened_closed Failed d fills.gives fills.last (CloseFailing d) fills.reads refl (inr refl))
