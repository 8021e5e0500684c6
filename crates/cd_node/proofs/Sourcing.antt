-- A source that reads a site: each of its moves is the next step of its run.
use Rattle.std.proofs.Common.{◌≡◌, ℕ, ◌≤◌, ◌<◌, ◌==◌, Bool, true, false, List, [], ◌∷◌, ◌++◌, length, map, refl, ap, sym, ◌∙◌, subst, Option, Some, None, arith}
use Rattle.std.proofs.lemmas.Bool.{eqb-true, eq-eqb}
use Rattle.std.proofs.lemmas.List.{length-map}
use Rattle.cd_elem.specs.Limits.{chunk_limit}
use Rattle.cd_elem.specs.declared.kind.Kind.TheVariants as kind
use Rattle.cd_elem.specs.declared.value.Value.TheVariants as result
use Rattle.cd_meaning.specs.Known.{before, known, no_more, pick, unknown}
use Rattle.cd_meaning.specs.Laws.{Rising}
use Rattle.cd_meaning.specs.Places.{Place}
use Rattle.cd_meaning.specs.Rest.{Grade, Moves, view, past_by}
use Rattle.cd_meaning.specs.Run.{start, Run, Then, Ends, acts_at, outs_at}
use Rattle.cd_meaning.specs.RunShapes.{Mark, AtEnd, MayGoOn, Broken, TooLong, Told, Seen}
use Rattle.cd_meaning.specs.Sources.{source_end}
use Rattle.cd_meaning.specs.Stream.{Sort, Item, Elem, Halt, More, Stop, Reading as ReadingOf, ReadBad, Long, Done as IsDoneBy, Halts, Act, Out, Do, Open, Close}
use Rattle.cd_meaning.specs.Values.{value_meaning, unit_is}
use Rattle.cd_meaning.proofs.Moves.Laws.{past_by_0}
use Rattle.cd_meaning.proofs.Restamp.{restamp_id}
use Rattle.cd_scope.specs.Uses.{HasFile, ReadsAt}
use Rattle.cd_scope.specs.declared.table.Ticket.{Ticket}
use Rattle.cd_step.specs.declared.protocol.Move.TheVariants.{Emit as PlainEmit, Done as PlainDone}
use Rattle.cd_step.specs.Parts.{Chunk, At, Part, IsChunk, IsReads, IsSound, Goes, Goes_on, rest, items_at, outs_of, site}
use Rattle.cd_step.specs.Parts as parts
use Rattle.cd_step.specs.Sites.{told, got}
use Rattle.cd_node.specs.Nodes.{Opening as OpensNext, Waiting, Closing as ClosesNext, GoesNode, halted}
use Rattle.cd_node.specs.Ports.{IsDescriptorAt, IsOpenAt, closing_acts, ticket_of, with_ticket_of}
use Rattle.cd_node.specs.Sources.{IsReadOf, IsSourcePlace, SourceFits, SourceReads, ended_run, open_run, seen_source, source_at, source_part, source_run, standing}
use Rattle.cd_node.specs.declared.port.Medium.{Medium}
use Rattle.cd_node.specs.declared.port.Medium.TheVariants.{File, Standard}
use Rattle.cd_node.specs.declared.protocol.NodeMove.{NodeMove}
use Rattle.cd_node.specs.declared.protocol.NodeMove.TheVariants.{Emit, Need, Acquire, Read, Write, Release, Done, Fault}
use Rattle.cd_node.specs.declared.source.Source.{Source}
use Rattle.cd_node.specs.declared.source.SourceStand.{SourceStand}
use Rattle.cd_node.specs.declared.source.SourceStand.TheVariants.{Fresh, Opening, Reading, Gave, Closing, Over}
use Rattle.cd_node.proofs.Tickets.{ticket_own, open_site, ticket_site}

-- ---- where it stands

pub stand_fresh : (t : SourceStand) (s : ℕ) → source_at t s ≡ parts.Fresh → t ≡ Fresh
stand_fresh Fresh s e = refl
stand_fresh Opening s e = cc
stand_fresh Reading s e = cc
stand_fresh Gave s e = cc
stand_fresh Closing s e = cc
stand_fresh Over s e = cc

pub stand_gave : (t : SourceStand) (s : ℕ) → source_at t s ≡ parts.Gave → t ≡ Gave
stand_gave Fresh s e = cc
stand_gave Opening s e = cc
stand_gave Reading s e = cc
stand_gave Gave s e = refl
stand_gave Closing s e = cc
stand_gave Over s e = cc

pub stand_opening : (t : SourceStand) (s n : ℕ) → source_at t s ≡ parts.Opens n → (t ≡ Opening) × (s ≡ n)
stand_opening Fresh s n e = (cc, cc)
stand_opening Opening s n e = (refl, let k : parts.Opens s ≡ parts.Opens n = e in cc)
stand_opening Reading s n e = (cc, cc)
stand_opening Gave s n e = (cc, cc)
stand_opening Closing s n e = (cc, cc)
stand_opening Over s n e = (cc, cc)

pub stand_reading : (t : SourceStand) (s : ℕ) → IsReads (source_at t s) → t ≡ Reading
stand_reading Fresh s e = absurd e
stand_reading Opening s e = absurd e
stand_reading Reading s e = refl
stand_reading Gave s e = absurd e
stand_reading Closing s e = absurd e
stand_reading Over s e = absurd e

pub stand_closing : (t : SourceStand) (s : ℕ) → source_at t s ≡ parts.Closes → t ≡ Closing
stand_closing Fresh s e = cc
stand_closing Opening s e = cc
stand_closing Reading s e = cc
stand_closing Gave s e = cc
stand_closing Closing s e = refl
stand_closing Over s e = cc

pub never_waits : (t : SourceStand) (s : ℕ) → source_at t s ≡ parts.Wait → ⊥
never_waits Fresh s e = cc
never_waits Opening s e = cc
never_waits Reading s e = cc
never_waits Gave s e = cc
never_waits Closing s e = cc
never_waits Over s e = cc

pub never_writes : (t : SourceStand) (s : ℕ) → source_at t s ≡ parts.Writes → ⊥
never_writes Fresh s e = cc
never_writes Opening s e = cc
never_writes Reading s e = cc
never_writes Gave s e = cc
never_writes Closing s e = cc
never_writes Over s e = cc

-- ---- runs

abbrev grade : Grade
grade = record { pieces = true; exact = true }

-- a run that asks for nothing does these acts, and goes on
run_moves : (acts : List Act) (r r1 : Run) → r ≡ acts_at start acts r1
    → Moves grade acts (record { unread = []; floor = 0; run = λ ys e. r }) (record { unread = []; floor = 0; run = λ ys e. r1 })
run_moves acts r r1 h = record {
  read = [];
  unread = refl;
  floor = refl;
  run = λ ys e i. ap (view grade) (h ∙ ap (acts_at start acts) (sym (restamp_id (past_by 0) r1 past_by_0)));
}

known_own : (s : ℕ) (w : Told) (z : Seen) → known s w z s ≡ w
known_own s w z = ap (λ b. pick b w (z s)) (eq-eqb s s refl)

outs_append : (xs ys : List ℕ) (r : Run) → outs_at start (map Elem (xs ++ ys)) r ≡ acts_at start (map Out (map Elem xs)) (outs_at start (map Elem ys) r)
outs_append [] ys r = refl
outs_append (x ∷ xs) ys r = ap (Then start (Out (Elem x))) (outs_append xs ys r)

-- ---- it opens its file

has_file : (m : Medium) (p : Place) → m ≡ File → IsSourcePlace m p → HasFile p
has_file File p e h = rw h.1 tt
has_file Standard p e h = absurd (let k = e in cc)

opens : (place : ℕ → Place) (m : Medium) (s : ℕ) (k : Option Ticket) → m ≡ File → IsSourcePlace m (place s) → OpensNext place s (source_part m Fresh s k) (source_part m Opening s k)
opens place m s k e h = record {
  own = eq-eqb s s refl;
  file = has_file m (place s) e h;
  acts = record { is_at = refl; goes = λ z. run_moves (Do (Open s) ∷ []) (source_run m Fresh s (z s)) (open_run m s (z s)) (rw e refl) };
}

pub opens_first : (place : ℕ → Place) (m : Medium) (t : SourceStand) (s : ℕ) (k : Option Ticket) → t ≡ Fresh → m ≡ File → IsSourcePlace m (place s)
    → OpensNext place s (source_part m t s k) (source_part m Opening s k)
opens_first place m t s k f e h = subst (λ x. OpensNext place s (source_part m x s k) (source_part m Opening s k)) (sym f) (opens place m s k e h)

-- ---- it asks for bytes

readable : (m : Medium) (p : Place) (k : Option Ticket) (s d : ℕ) → IsSourcePlace m p → IsDescriptorAt m k s 0 d → ReadsAt p d (ticket_of k s d ≡ true)
readable File p k s d h i = rw h.1 i
readable Standard p k s d h i = rw h i

stops_as : (m : Medium) (s : ℕ) (mark : Mark) (h : Halt) → halted s mark ≡ Some h → open_run m s (unknown mark) ≡ Ends start (Halts h)
stops_as m s AtEnd h e = absurd (let k : None ≡ Some h = e in cc)
stops_as m s MayGoOn h e = let k : Some (More (ReadingOf s)) ≡ Some h = e in let j : More (ReadingOf s) ≡ h = cc in ap (λ x. Ends start (Halts x)) j
stops_as m s Broken h e = let k : Some (Stop (ReadBad s)) ≡ Some h = e in let j : Stop (ReadBad s) ≡ h = cc in ap (λ x. Ends start (Halts x)) j
stops_as m s TooLong h e = let k : Some (Stop (Long s)) ≡ Some h = e in let j : Stop (Long s) ≡ h = cc in ap (λ x. Ends start (Halts x)) j

waits : (place : ℕ → Place) (m : Medium) (s : ℕ) (k : Option Ticket) (d : ℕ) (p : Part) → IsSourcePlace m (place s) → IsDescriptorAt m k s 0 d → Goes_on [] p (source_part m Reading s k)
    → Waiting place s d p (source_part m Reading s k)
waits place m s k d p h i g = record {
  is_at = refl;
  own = eq-eqb s s refl;
  readable = readable m (place s) k s d h i;
  goes = g;
  stops = λ z mark halt e x. record { run = λ ys end i. (0, ap (open_run m s) e ∙ stops_as m s mark halt x) };
}

pub read_goes : (place : ℕ → Place) (l : Source) (x : NodeMove) (p : Part) → SourceReads l place → IsReadOf l x → Goes_on [] p (seen_source (standing Reading l)) → GoesNode place x p (seen_source (standing Reading l))
read_goes place l (Read s d) p h i g = rw i.0 (waits place l.port.medium l.port.site.0 l.port.ticket d.0 p h i.1 g)
read_goes place l (Emit d) p h i g = absurd i
read_goes place l Need p h i g = absurd i
read_goes place l (Acquire s) p h i g = absurd i
read_goes place l (Write s d c) p h i g = absurd i
read_goes place l (Release t) p h i g = absurd i
read_goes place l (Done v r) p h i g = absurd i
read_goes place l (Fault f) p h i g = absurd i

pub reads_on : (l : Source) → ((t : Told) → source_run l.port.medium l.stand l.port.site.0 t ≡ open_run l.port.medium l.port.site.0 t) → Goes_on [] (seen_source l) (seen_source (standing Reading l))
reads_on l h z = run_moves [] (source_run l.port.medium l.stand l.port.site.0 (z l.port.site.0)) (open_run l.port.medium l.port.site.0 (z l.port.site.0)) (h (z l.port.site.0))

-- a standard stream is read at once
pub standard_opened : (m : Medium) (t : SourceStand) (s : ℕ) → t ≡ Fresh → m ≡ Standard → (w : Told) → source_run m t s w ≡ open_run m s w
standard_opened m t s e f w = rw (e, f) refl

pub gave_opened : (m : Medium) (t : SourceStand) (s : ℕ) → t ≡ Gave → (w : Told) → source_run m t s w ≡ open_run m s w
gave_opened m t s e w = rw e refl

pub opening_opened : (m : Medium) (t : SourceStand) (s : ℕ) → t ≡ Opening → (w : Told) → source_run m t s w ≡ open_run m s w
opening_opened m t s e w = rw e refl

-- its file is open, and it reads
pub acquired_reads : (place : ℕ → Place) (l : Source) (t : Ticket) (x : NodeMove) → l.stand ≡ Opening → SourceReads l place → IsReadOf (record l { port = with_ticket_of t l.port }) x
    → GoesNode place x (got t.site.0 t.descriptor.0 (seen_source l)) (seen_source (standing Reading (record l { port = with_ticket_of t l.port })))
acquired_reads place l t x e h i =
    read_goes place (record l { port = with_ticket_of t l.port }) x (got t.site.0 t.descriptor.0 (seen_source l)) h i
    (λ z. run_moves [] (source_run l.port.medium l.stand l.port.site.0 (z l.port.site.0)) (open_run l.port.medium l.port.site.0 (z l.port.site.0)) (opening_opened l.port.medium l.stand l.port.site.0 e (z l.port.site.0)))

-- ---- it gives what a read gave

of_bytes : (x : Sort) (numbers : List ℕ) → x ≡ Sort.Bytes → 0 < length numbers → length numbers ≤ chunk_limit → IsChunk kind.Bytes (x, numbers)
of_bytes Sort.Bytes numbers e a b = (subst (λ n. 0 < n) (sym (length-map numbers Elem)) a, refl, b)
of_bytes Sort.Chars numbers e a b = absurd (let k = e in cc)
of_bytes Sort.Block numbers e a b = absurd (let k = e in cc)
of_bytes Sort.Text numbers e a b = absurd (let k = e in cc)

gives_first : (m : Medium) (s : ℕ) (x : Sort) (numbers : List ℕ) (w : Told) → x ≡ Sort.Bytes → open_run m s (before numbers w) ≡ acts_at start (map Out (items_at x numbers)) (open_run m s w)
gives_first m s Sort.Bytes numbers w e = outs_append numbers w.bytes (source_end s (closing_acts m s) w.mark)
gives_first m s Sort.Chars numbers w e = outs_append numbers w.bytes (source_end s (closing_acts m s) w.mark)
gives_first m s Sort.Block numbers w e = absurd (let k = e in cc)
gives_first m s Sort.Text numbers w e = absurd (let k = e in cc)

gives : (m : Medium) (s : ℕ) (k : Option Ticket) (c : Chunk) → c.0 ≡ Sort.Bytes → 0 < length c.1 → length c.1 ≤ chunk_limit
    → Goes (PlainEmit c) (told s (λ z. before c.1 (z s)) (source_part m Reading s k)) (source_part m Gave s k)
gives m s k c e a b = (
  of_bytes c.0 c.1 e a b,
  record {
    is_at = refl;
    goes = λ z. run_moves (outs_of c) (open_run m s (known s (before c.1 (z s)) z s)) (open_run m s (z s))
        (ap (open_run m s) (known_own s (before c.1 (z s)) z) ∙ gives_first m s c.0 c.1 (z s) e);
  },
)

pub gives_read : (m : Medium) (t : SourceStand) (s : ℕ) (k : Option Ticket) (c : Chunk) → t ≡ Reading → c.0 ≡ Sort.Bytes → 0 < length c.1 → length c.1 ≤ chunk_limit
    → Goes (PlainEmit c) (told (site (source_at t s)) (λ z. before c.1 (z (site (source_at t s)))) (source_part m t s k)) (source_part m Gave s k)
gives_read m t s k c f e a b = subst (λ x. Goes (PlainEmit c) (told (site (source_at x s)) (λ z. before c.1 (z (site (source_at x s)))) (source_part m x s k)) (source_part m Gave s k)) (sym f) (gives m s k c e a b)

-- ---- it was told the end

pub closes : (m : Medium) (s : ℕ) (k : Option Ticket) (t : Ticket) → m ≡ File → k ≡ Some t → IsOpenAt m k s → ClosesNext t (told s (λ z. no_more) (source_part m Reading s k)) (source_part m Closing s None)
closes m s k t e h o =
    let i = open_site m k t s e h o in
    record {
      own = eq-eqb t.site.0 s i;
      live = rw h (ticket_own t);
      gone = λ d. refl;
      acts = record {
        is_at = refl;
        goes = λ z. run_moves (Do (Close t.site.0) ∷ []) (open_run m s (known s no_more z s)) ended_run (ap (open_run m s) (known_own s no_more z) ∙ rw (e, i) refl);
      };
    }

standard_ends : (m : Medium) (s : ℕ) → m ≡ Standard → open_run m s no_more ≡ Ends start (IsDoneBy (value_meaning result.Unit))
standard_ends m s e = rw (e, unit_is) refl

pub ends : (m : Medium) (s : ℕ) (k : Option Ticket) → m ≡ Standard → Goes (PlainDone result.Unit None) (told s (λ z. no_more) (source_part m Reading s k)) (source_part m Over s k)
ends m s k e = record {
  is_at = refl;
  floor = refl;
  given = tt;
  left = omega arith;
  finishes = λ z. record {
    read = [];
    unread = refl;
    run = λ ys end i. ap (view grade) (ap (open_run m s) (known_own s no_more z) ∙ standard_ends m s e);
  };
}

pub closed_ends : (m : Medium) (s : ℕ) (k : Option Ticket) → Goes (PlainDone result.Unit None) (source_part m Closing s k) (source_part m Over s k)
closed_ends m s k = record {
  is_at = refl;
  floor = refl;
  given = tt;
  left = omega arith;
  finishes = λ z. record { read = []; unread = refl; run = λ ys end i. rw unit_is refl };
}

-- ---- its facts

known_other : (b : Bool) (w t : Told) → b ≡ false → pick b w t ≡ t
known_other b w t h = rw h refl

other_site : (a b : ℕ) → (a == b) ≡ false → (b == a) ≡ false
other_site a b h = flip (b == a) refl where
  flip : (x : Bool) → (b == a) ≡ x → x ≡ false
  flip false e = refl
  flip true e = absurd (let k : (a == b) ≡ true = eq-eqb a b (sym (eqb-true b a e)) in let y : true ≡ false = sym k ∙ h in cc)

outs_rising : (xs : List Item) (s : ℕ) (m : Medium) (t : Mark) → Rising 0 (outs_at start xs (source_end s (closing_acts m s) t))
outs_rising [] s File AtEnd = (omega arith, omega arith)
outs_rising [] s Standard AtEnd = omega arith
outs_rising [] s m MayGoOn = omega arith
outs_rising [] s m Broken = omega arith
outs_rising [] s m TooLong = omega arith
outs_rising (x ∷ xs) s m t = (omega arith, outs_rising xs s m t)

run_rising : (m : Medium) (t : SourceStand) (s : ℕ) (w : Told) → Rising 0 (source_run m t s w)
run_rising File Fresh s w = (omega arith, outs_rising (map Elem w.bytes) s File w.mark)
run_rising Standard Fresh s w = outs_rising (map Elem w.bytes) s Standard w.mark
run_rising m Opening s w = outs_rising (map Elem w.bytes) s m w.mark
run_rising m Reading s w = outs_rising (map Elem w.bytes) s m w.mark
run_rising m Gave s w = outs_rising (map Elem w.bytes) s m w.mark
run_rising m Closing s w = omega arith
run_rising m Over s w = omega arith

fit_own : (t : SourceStand) (m : Medium) (k : Option Ticket) (s : ℕ) → SourceFits t m k s → (r d : ℕ) → ticket_of k r d ≡ true → (r == s) ≡ true
fit_own t m None s f r d h = absurd (let x : false ≡ true = h in cc)
fit_own t m (Some y) s f r d h = eq-eqb r s (ticket_site y r d h ∙ is_open t m f) where
  is_open : (t : SourceStand) (m : Medium) → SourceFits t m (Some y) s → y.site.0 ≡ s
  is_open Reading File f = f
  is_open Reading Standard f = absurd f
  is_open Gave File f = f
  is_open Gave Standard f = absurd f
  is_open Fresh m f = cc
  is_open Opening m f = let x = f.1 in cc
  is_open Closing m f = cc
  is_open Over m f = cc

pub source_sound : (m : Medium) (t : SourceStand) (s : ℕ) (k : Option Ticket) → SourceFits t m k s → IsSound (source_part m t s k)
source_sound m t s k f = record {
  local = λ r h w z. ap (λ x ys e. source_run m t s x) (known_other (s == r) w (z s) (other_site r s h));
  counts = omega arith;
  graded = refl;
  rising = λ z ys e. run_rising m t s (z s);
  own = λ r d h. fit_own t m k s f r d h;
}
