-- A file's first bytes to standard output.
use Rattle.std.proofs.Common.{◌≤◌, ◌<◌, ◌⊎◌, inl, inr, ◌≡◌, ℕ, zero, suc, List, [], ◌∷◌, ◌++◌, length, take, map, refl, ap, sym, ◌∙◌, Bool, true, false, nat_le, if◌then◌else◌, arith}
use Rattle.std.proofs.lemmas.Bool.{cases_lt, le-leb, lt-leb}
use Rattle.std.proofs.lemmas.List.{append-nil, length-append, take_all, length-take, take-take, take-append-le}
use Rattle.cd_meaning.specs.Stream.{Item, Elem, Value, Ended, Done, Act, Do, Effect, Open, Put, Close, Halts, More, Reading}
use Rattle.cd_meaning.specs.Run.{Stamp, start, Run, Then, Ends, Component, outs, end_of, outs_at, effects, ending, acts_at}
use Rattle.cd_meaning.specs.RunShapes.{passes, unit_of, Mark, AtEnd, MayGoOn, Broken, TooLong, Told, Seen}
use Rattle.cd_meaning.specs.ElementWords.{taken}
use Rattle.cd_meaning.specs.Sources.{source_file, source_end, puts, stdout}
use Rattle.cd_meaning.specs.Fusion.{fuse, fuse_at, fed}
use Rattle.cd_meaning.specs.Places.{Reads, WritesOutput, Place, sent_to, told_whole, whole}
use Rattle.cd_meaning.specs.Pipes.{nodes}
use Rattle.cd_meaning.specs.Scripts.{goes_on, value_puts, script_run, script_places, statement_places, standard_output, whole_files}
use Rattle.cd_meaning.specs.TakeForm.{take_script, close_of, ending_of, front_effects, front_ending}
use Rattle.cd_meaning.specs.Scan.{scan}
use Rattle.cd_meaning.proofs.Weaves.Laws.{fuse_assoc}
use Rattle.cd_meaning.proofs.Weaves.Through.{through, fuse_scan}
use Rattle.cd_meaning.proofs.Runs.Shapes.{each_scan, each_is_scan, each_is_run, first_scan, first_is_scan, first_is_run, nat_le_suc}

-- any run into takeE, and any run into stdout
pub fuse_taken : (s : Stamp) (n : ℕ) (r : Run) → fuse_at s r (fed r (taken n)) ≡ through (first_scan passes unit_of) s (n, []) r
fuse_taken s n r = ap (fuse_at s r) (first_is_scan n passes unit_of (outs r) (end_of r)) ∙ fuse_scan (first_scan passes unit_of) s (n, []) r

pub fuse_each : (s : Stamp) (f : Item → List Act) (r : Run) → fuse_at s r (scan (each_scan f) 0 tt (outs r) (end_of r)) ≡ through (each_scan f) s tt r
fuse_each s f r = fuse_scan (each_scan f) s tt r

pub fuse_puts : (s : Stamp) (site : ℕ) (r : Run) → fuse_at s r (fed r (stdout site)) ≡ through (each_scan (puts site)) s tt r
fuse_puts s site r = ap (fuse_at s r) (each_is_scan (puts site) (outs r) (end_of r)) ∙ fuse_each s (puts site) r

-- what comes behind the open
abbrev pub front_run : List ℕ → Mark → ℕ → Run
front_run bytes mark zero = Ends start (Done Value.Unit)
front_run [] mark (suc n) = source_end 1 (Do (Close 1) ∷ []) mark
front_run (b ∷ bytes) mark (suc n) = Then start (Do (Put 2 b)) (front_run bytes mark n)

abbrev pub both_words : ℕ → List Item → Run → Run
both_words n l r = through (each_scan (puts 2)) start tt (through (first_scan passes unit_of) start (n, l) r)

source_front : (bytes : List ℕ) (mark : Mark) (n : ℕ) (l : List Item) → both_words n l (outs_at start (map Elem bytes) (source_end 1 (Do (Close 1) ∷ []) mark)) ≡ front_run bytes mark n
source_front [] AtEnd zero l = refl
source_front [] MayGoOn zero l = refl
source_front [] Broken zero l = refl
source_front [] TooLong zero l = refl
source_front (b ∷ bytes) mark zero l = refl
source_front [] AtEnd (suc n) l = refl
source_front [] MayGoOn (suc n) l = refl
source_front [] Broken (suc n) l = refl
source_front [] TooLong (suc n) l = refl
source_front (b ∷ bytes) mark (suc n) l = ap (λ r. Then start (Do (Put 2 b)) r) (source_front bytes mark n (l ++ Elem b ∷ []))

abbrev pub form_pipe : ℕ → Told → Component
form_pipe n told = fuse (source_file 1 told) (fuse (taken n) (stdout 2))

pub pipe_is : (n : ℕ) (told : Told) → form_pipe n told [] Ended ≡ both_words n [] (source_file 1 told [] Ended)
pipe_is n told =
    let a = source_file 1 told [] Ended in
    sym (fuse_assoc (source_file 1 told) (taken n) (stdout 2) (first_is_run n passes unit_of) (each_is_run (puts 2)) [] Ended)
    ∙ ap (λ r. fuse_at start r (fed r (stdout 2))) (fuse_taken start n a)
    ∙ fuse_puts start 2 (through (first_scan passes unit_of) start (n, []) a)

abbrev pub asked_run : Told → ℕ → Run
asked_run told zero = Ends start (Done Value.Unit)
asked_run told (suc n) = Then start (Do (Open 1)) (front_run told.bytes told.mark (suc n))

pub form_pipe_is : (n : ℕ) (told : Told) → form_pipe n told [] Ended ≡ asked_run told n
form_pipe_is zero told = pipe_is zero told
form_pipe_is (suc n) told = pipe_is (suc n) told ∙ ap (λ r. Then start (Do (Open 1)) r) (source_front told.bytes told.mark (suc n) [])

-- ---- the statement

abbrev last_line : Stamp → Value → Run
last_line s v = acts_at start (value_puts v) (Ends start (Done Value.Unit))

pub form_is : (name : List ℕ) (seen : Seen) (n : ℕ) → script_run (take_script name n) seen ≡ goes_on (asked_run (seen 1) n) last_line
form_is name seen n = simp nodes (ap (λ r. goes_on r last_line) (form_pipe_is n (seen 1)))

all_effects : (bytes : List ℕ) (mark : Mark) (n : ℕ) → effects (goes_on (front_run bytes mark n) last_line) ≡ map (Put 2) (take n bytes) ++ (if nat_le n (length bytes) then [] else close_of mark)
all_effects bytes mark zero = (rw (le-leb zero (length bytes) (omega arith)))
all_effects [] AtEnd (suc n) = rw (lt-leb (suc n) zero (omega arith))
all_effects [] MayGoOn (suc n) = rw (lt-leb (suc n) zero (omega arith))
all_effects [] Broken (suc n) = rw (lt-leb (suc n) zero (omega arith))
all_effects [] TooLong (suc n) = rw (lt-leb (suc n) zero (omega arith))
all_effects (b ∷ bytes) mark (suc n) = rw (nat_le_suc n (length bytes), all_effects bytes mark n)

its_ending : (bytes : List ℕ) (mark : Mark) (n : ℕ) → ending (goes_on (front_run bytes mark n) last_line) ≡ front_ending bytes mark n
its_ending bytes mark zero = (rw (le-leb zero (length bytes) (omega arith)))
its_ending [] AtEnd (suc n) = rw (lt-leb (suc n) zero (omega arith))
its_ending [] MayGoOn (suc n) = rw (lt-leb (suc n) zero (omega arith))
its_ending [] Broken (suc n) = rw (lt-leb (suc n) zero (omega arith))
its_ending [] TooLong (suc n) = rw (lt-leb (suc n) zero (omega arith))
its_ending (b ∷ bytes) mark (suc n) = rw (nat_le_suc n (length bytes)) (its_ending bytes mark n)

-- what the form does, and how it ends
pub form_effects : (name : List ℕ) (seen : Seen) (n : ℕ) → effects (script_run (take_script name n) seen) ≡ front_effects (seen 1).bytes (seen 1).mark n
form_effects name seen zero = ap effects (form_is name seen zero)
form_effects name seen (suc n) = ap effects (form_is name seen (suc n)) ∙ ap (λ l. Open 1 ∷ l) (all_effects (seen 1).bytes (seen 1).mark (suc n))

pub form_ending : (name : List ℕ) (seen : Seen) (n : ℕ) → ending (script_run (take_script name n) seen) ≡ front_ending (seen 1).bytes (seen 1).mark n
form_ending name seen zero = ap ending (form_is name seen zero) ∙ its_ending (seen 1).bytes (seen 1).mark zero
form_ending name seen (suc n) = ap ending (form_is name seen (suc n)) ∙ its_ending (seen 1).bytes (seen 1).mark (suc n)

-- ---- the bytes put

abbrev form_places : List ℕ → List Place
form_places name = Reads name ∷ WritesOutput ∷ []

pub form_places_are : (name : List ℕ) (n : ℕ) → script_places (take_script name n) ≡ form_places name
form_places_are name n = simp (nodes, script_places, statement_places)

puts_first : (name bytes : List ℕ) (more : List Effect) → sent_to (form_places name) 0 (map (Put 2) bytes ++ more) ≡ bytes ++ sent_to (form_places name) 0 more
puts_first name [] more = refl
puts_first name (b ∷ bytes) more = ap (λ l. b ∷ l) (puts_first name bytes more)

no_puts : (name : List ℕ) (mark : Mark) (b : Bool) → sent_to (form_places name) 0 (if b then [] else close_of mark) ≡ []
no_puts name mark true = refl
no_puts name AtEnd false = refl
no_puts name MayGoOn false = refl
no_puts name Broken false = refl
no_puts name TooLong false = refl

front_puts : (name bytes : List ℕ) (mark : Mark) (n : ℕ) → sent_to (form_places name) 0 (front_effects bytes mark n) ≡ take n bytes
front_puts name bytes mark zero = refl
front_puts name bytes mark (suc n) =
    puts_first name (take (suc n) bytes) _ ∙ ap (λ l. take (suc n) bytes ++ l) (no_puts name mark (nat_le (suc n) (length bytes))) ∙ append-nil (take (suc n) bytes)

pub form_puts : (name : List ℕ) (seen : Seen) (n : ℕ) → standard_output (take_script name n) seen ≡ take n (seen 1).bytes
unfolding standard_output
form_puts name seen n =
    ap (λ (places : List Place). sent_to places 0 (effects (script_run (take_script name n) seen))) (form_places_are name n)
    ∙ ap (sent_to (form_places name) 0) (form_effects name seen n)
    ∙ front_puts name (seen 1).bytes (seen 1).mark n

-- ---- over whole files

module _ (files : List ℕ → List ℕ) (input : List ℕ) (limit : ℕ) (name : List ℕ) (n : ℕ) (fits : n ≤ limit) where
  abbrev whole_seen : Seen
  whole_seen = whole_files files input limit (take_script name n)

  seen_whole : whole_seen 1 ≡ told_whole limit (files name)
  seen_whole = ap (λ (places : List Place). whole files input limit places 1) (form_places_are name n)

  first_of_whole : (bytes : List ℕ) → take n (told_whole limit bytes).bytes ≡ take n bytes
  first_of_whole bytes = by_length (cases_lt limit (length bytes)) where
    by_length : (limit < length bytes) ⊎ (length bytes ≤ limit) → take n (told_whole limit bytes).bytes ≡ take n bytes
    by_length (inl long) = rw (lt-leb (length bytes) limit long) (take-take n limit bytes fits)
    by_length (inr short) = rw (le-leb (length bytes) limit short)

  ends_whole : (bytes : List ℕ) → front_ending (told_whole limit bytes).bytes (told_whole limit bytes).mark n ≡ Done Value.Unit
  ends_whole bytes = by_length (cases_lt limit (length bytes)) where
    by_length : (limit < length bytes) ⊎ (length bytes ≤ limit) → front_ending (told_whole limit bytes).bytes (told_whole limit bytes).mark n ≡ Done Value.Unit
    by_length (inl long) = rw (lt-leb (length bytes) limit long, le-leb n (length (take limit bytes)) (omega (arith, length-take limit bytes)))
    by_length (inr short) = rw (le-leb (length bytes) limit short) (either (nat_le n (length bytes))) where
      either : (b : Bool) → (if b then Done Value.Unit else ending_of AtEnd) ≡ Done Value.Unit
      either true = refl
      either false = refl

  pub whole_puts : standard_output (take_script name n) whole_seen ≡ take n (files name)
  whole_puts = form_puts name whole_seen n ∙ ap (λ (t : Told). take n t.bytes) seen_whole ∙ first_of_whole (files name)

  pub whole_ends : ending (script_run (take_script name n) whole_seen) ≡ Done Value.Unit
  whole_ends = form_ending name whole_seen n ∙ ap (λ (t : Told). front_ending t.bytes t.mark n) seen_whole ∙ ends_whole (files name)

-- ---- what a run reads of it

-- where enough was given, nothing that may follow changes anything
pub front_enough : (bytes more : List ℕ) (mark mark' : Mark) (n : ℕ) → n ≤ length bytes
    → (front_effects bytes mark n ≡ front_effects (bytes ++ more) mark' n) × (front_ending bytes mark n ≡ Done Value.Unit) × (front_ending (bytes ++ more) mark' n ≡ Done Value.Unit)
front_enough bytes more mark mark' n h =
    let longer : n ≤ length (bytes ++ more) = omega (arith, h, length-append bytes more) in
    (by_count n h longer, (rw (le-leb n (length bytes) h)), (rw (le-leb n (length (bytes ++ more)) longer))) where
      by_count : (n : ℕ) → n ≤ length bytes → n ≤ length (bytes ++ more) → front_effects bytes mark n ≡ front_effects (bytes ++ more) mark' n
      by_count zero h k = refl
      by_count (suc n) h k = rw (le-leb (suc n) (length bytes) h, le-leb (suc n) (length (bytes ++ more)) k, take-append-le (suc n) bytes more h)

-- where less was given and nothing more is known, it waits, and all that was given was put
pub front_waits : (bytes : List ℕ) (n : ℕ) → length bytes < n
    → (front_effects bytes MayGoOn n ≡ Open 1 ∷ map (Put 2) bytes) × (front_ending bytes MayGoOn n ≡ Halts (More (Reading 1)))
front_waits bytes zero h = absurd (omega arith)
front_waits bytes (suc n) h =
    ((rw (lt-leb (suc n) (length bytes) h, take_all (suc n) bytes (omega (arith, h)), append-nil (map (Put 2) bytes))), (rw (lt-leb (suc n) (length bytes) h)))

-- where less was given and the end was told, it has closed, and is done
pub front_ends : (bytes : List ℕ) (n : ℕ) → length bytes < n
    → (front_effects bytes AtEnd n ≡ Open 1 ∷ map (Put 2) bytes ++ Close 1 ∷ []) × (front_ending bytes AtEnd n ≡ Done Value.Unit)
front_ends bytes zero h = absurd (omega arith)
front_ends bytes (suc n) h =
    ((rw (lt-leb (suc n) (length bytes) h, take_all (suc n) bytes (omega (arith, h)))), (rw (lt-leb (suc n) (length bytes) h)))
