-- A sink that writes a site: each of its moves is the next step of its run.
use Rattle.std.proofs.Common.{◌≡◌, ℕ, ◌<◌, ◌==◌, true, false, List, [], ◌∷◌, length, map, refl, ap, sym, ◌∙◌, subst, Option, Some, None, arith}
use Rattle.std.proofs.lemmas.Bool.{eq-eqb}
use Rattle.std.proofs.lemmas.List.{append-nil}
use Rattle.cd_elem.specs.declared.kind.Kind.TheVariants as kind
use Rattle.cd_elem.specs.declared.value.Value.TheVariants as result
use Rattle.cd_meaning.specs.Laws.{Rising}
use Rattle.cd_meaning.specs.Places.{Place}
use Rattle.cd_meaning.specs.Rest.{Grade, Moves, view, past_by, fresh}
use Rattle.cd_meaning.specs.Run.{start, Run, Then, acts_at}
use Rattle.cd_meaning.specs.Scan.{scan}
use Rattle.cd_meaning.specs.Sources.{sink_file, stdout}
use Rattle.cd_meaning.specs.Stream.{Sort, Item, Elem, End, Do, Open, Put, Close}
use Rattle.cd_meaning.specs.Values.{unit_is}
use Rattle.cd_meaning.proofs.Moves.Laws.{past_by_0}
use Rattle.cd_meaning.proofs.Moves.Own.{scan_fresh}
use Rattle.cd_meaning.proofs.Moves.Scans.{pending_more, scan_needs, scan_ends}
use Rattle.cd_meaning.proofs.Restamp.{restamp_id}
use Rattle.cd_meaning.proofs.Runs.Scans.{scan_rising}
use Rattle.cd_meaning.proofs.Runs.Sources.{sink_file_is_scan, stdout_is_scan}
use Rattle.cd_scope.specs.Uses.{HasFile, WritesAt}
use Rattle.cd_scope.specs.declared.table.Ticket.{Ticket}
use Rattle.cd_step.specs.declared.protocol.Input.TheVariants.{Chunk as PlainChunk, End as PlainEnd}
use Rattle.cd_step.specs.declared.protocol.Move.TheVariants.{Need as PlainNeed, Done as PlainDone}
use Rattle.cd_step.specs.Flows.{Same}
use Rattle.cd_step.specs.Parts.{Chunk, At, Part, IsChunk, IsReads, IsSound, Goes, Goes_on, rest, items, items_at, fed}
use Rattle.cd_step.specs.Parts as parts
use Rattle.cd_step.specs.Reading.{scan_rest, IsRead}
use Rattle.cd_step.proofs.Moving.{moves_none, moves_gets, moves_gets_end, goes_after, after_acts}
use Rattle.cd_step.proofs.Reading.{read_moves}
use Rattle.cd_step.specs.Sites.{got}
use Rattle.cd_node.specs.Nodes.{Opening as OpensNext, Writing as WritesNext, Closing as ClosesNext, puts_of}
use Rattle.cd_node.specs.Ports.{IsDescriptorAt, IsOpenAt, opening_acts, ticket_of, with_ticket_of}
use Rattle.cd_node.specs.Sinks.{IsSinkPlace, SinkFits, ended_rest, open_rest, seen_sink, unopened_rest, sink_at, sink_part, sink_rest, sink_scan}
use Rattle.cd_node.specs.declared.port.Medium.{Medium}
use Rattle.cd_node.specs.declared.port.Medium.TheVariants.{File, Standard}
use Rattle.cd_node.specs.declared.sink.Sink.{Sink}
use Rattle.cd_node.specs.declared.sink.SinkStand.{SinkStand}
use Rattle.cd_node.specs.declared.sink.SinkStand.TheVariants.{Fresh, Opening, Waiting, Writing, Closing, Over}
use Rattle.cd_node.proofs.Tickets.{ticket_own, open_site, ticket_site}

-- ---- where it stands

pub stand_fresh : (t : SinkStand) (s : ℕ) → sink_at t s ≡ parts.Fresh → t ≡ Fresh
stand_fresh Fresh s e = refl
stand_fresh Opening s e = cc
stand_fresh Waiting s e = cc
stand_fresh Writing s e = cc
stand_fresh Closing s e = cc
stand_fresh Over s e = cc

pub stand_opening : (t : SinkStand) (s n : ℕ) → sink_at t s ≡ parts.Opens n → (t ≡ Opening) × (s ≡ n)
stand_opening Fresh s n e = (cc, cc)
stand_opening Opening s n e = (refl, let k : parts.Opens s ≡ parts.Opens n = e in cc)
stand_opening Waiting s n e = (cc, cc)
stand_opening Writing s n e = (cc, cc)
stand_opening Closing s n e = (cc, cc)
stand_opening Over s n e = (cc, cc)

pub stand_waiting : (t : SinkStand) (s : ℕ) → sink_at t s ≡ parts.Wait → t ≡ Waiting
stand_waiting Fresh s e = cc
stand_waiting Opening s e = cc
stand_waiting Waiting s e = refl
stand_waiting Writing s e = cc
stand_waiting Closing s e = cc
stand_waiting Over s e = cc

pub stand_writing : (t : SinkStand) (s : ℕ) → sink_at t s ≡ parts.Writes → t ≡ Writing
stand_writing Fresh s e = cc
stand_writing Opening s e = cc
stand_writing Waiting s e = cc
stand_writing Writing s e = refl
stand_writing Closing s e = cc
stand_writing Over s e = cc

pub stand_closing : (t : SinkStand) (s : ℕ) → sink_at t s ≡ parts.Closes → t ≡ Closing
stand_closing Fresh s e = cc
stand_closing Opening s e = cc
stand_closing Waiting s e = cc
stand_closing Writing s e = cc
stand_closing Closing s e = refl
stand_closing Over s e = cc

pub never_gave : (t : SinkStand) (s : ℕ) → sink_at t s ≡ parts.Gave → ⊥
never_gave Fresh s e = cc
never_gave Opening s e = cc
never_gave Waiting s e = cc
never_gave Writing s e = cc
never_gave Closing s e = cc
never_gave Over s e = cc

pub never_reads : (t : SinkStand) (s : ℕ) → IsReads (sink_at t s) → ⊥
never_reads Fresh s e = e
never_reads Opening s e = e
never_reads Waiting s e = e
never_reads Writing s e = e
never_reads Closing s e = e
never_reads Over s e = e

-- ---- it opens its file

abbrev grade : Grade
grade = record { pieces = false; exact = true }

has_file : (m : Medium) (p : Place) → m ≡ File → IsSinkPlace m p → HasFile p
has_file File p e h = rw h.1 tt
has_file Standard p e h = absurd (let k = e in cc)

opening_is : (m : Medium) (s : ℕ) (r : Run) → m ≡ File → acts_at start (opening_acts m s) r ≡ Then start (Do (Open s)) r
opening_is m s r e = rw e refl

opens_moves : (m : Medium) (s : ℕ) → m ≡ File → Moves grade (Do (Open s) ∷ []) (unopened_rest m s) (open_rest m s)
opens_moves m s e = record {
  read = [];
  unread = refl;
  floor = refl;
  run = λ ys end i. let r = (open_rest m s).run ys end in ap (view grade) (opening_is m s r e ∙ ap (Then start (Do (Open s))) (sym (restamp_id (past_by 0) r past_by_0)));
}

opens : (place : ℕ → Place) (m : Medium) (s : ℕ) (k : Option Ticket) → m ≡ File → IsSinkPlace m (place s)
    → OpensNext place s (sink_part parts.Fresh s k (unopened_rest m s)) (sink_part (parts.Opens s) s k (open_rest m s))
opens place m s k e h = record { own = eq-eqb s s refl; file = has_file m (place s) e h; acts = record { is_at = refl; goes = λ z. opens_moves m s e } }

pub opens_first : (place : ℕ → Place) (m : Medium) (t : SinkStand) (s : ℕ) (k : Option Ticket) → t ≡ Fresh → m ≡ File → IsSinkPlace m (place s)
    → OpensNext place s (sink_part (sink_at t s) s k (sink_rest m t s)) (sink_part (parts.Opens s) s k (open_rest m s))
opens_first place m t s k f e h = subst (λ x. OpensNext place s (sink_part (sink_at x s) s k (sink_rest m x s)) (sink_part (parts.Opens s) s k (open_rest m s))) (sym f) (opens place m s k e h)

-- ---- it asks

needs : (at : At) (m : Medium) (s : ℕ) (k j : Option Ticket) → Goes PlainNeed (sink_part at s k (open_rest m s)) (sink_part parts.Wait s j (open_rest m s))
needs at m s k j = record { is_at = refl; takes = tt; goes = λ z. moves_none grade (open_rest m s); none_unread = refl; asks = λ z. scan_needs (sink_scan m s) tt refl }

unopened : (m : Medium) (s : ℕ) → m ≡ Standard → unopened_rest m s ≡ open_rest m s
unopened m s e = rw e refl

-- a standard stream is open
pub asks_first : (m : Medium) (t : SinkStand) (s : ℕ) (k : Option Ticket) → t ≡ Fresh → m ≡ Standard → Goes PlainNeed (sink_part (sink_at t s) s k (sink_rest m t s)) (sink_part parts.Wait s k (open_rest m s))
asks_first m t s k f e = rw f (subst (λ p. Goes PlainNeed (sink_part parts.Fresh s k p) (sink_part parts.Wait s k (open_rest m s))) (sym (unopened m s e)) (needs parts.Fresh m s k k))

asks_opened : (m : Medium) (t : SinkStand) (s : ℕ) (k j : Option Ticket) (n d : ℕ) → t ≡ Opening
    → Goes PlainNeed (got n d (sink_part (sink_at t s) s k (sink_rest m t s))) (sink_part parts.Wait s j (open_rest m s))
asks_opened m t s k j n d e = rw e (let h = needs (parts.Opens s) m s k j in record { is_at = refl; takes = tt; goes = h.goes; none_unread = refl; asks = h.asks })

pub asks_acquired : (l : Sink) (t : Ticket) → l.stand ≡ Opening → Goes PlainNeed (got t.site.0 t.descriptor.0 (seen_sink l)) (seen_sink (record { port = with_ticket_of t l.port; stand = Waiting }))
asks_acquired l t e = asks_opened l.port.medium l.stand l.port.site.0 l.port.ticket (Some t) t.site.0 t.descriptor.0 e

pub asks_written : (m : Medium) (t : SinkStand) (s : ℕ) (k : Option Ticket) → t ≡ Writing → Goes PlainNeed (sink_part (sink_at t s) s k (sink_rest m t s)) (sink_part parts.Wait s k (open_rest m s))
asks_written m t s k e = rw e (needs parts.Writes m s k k)

-- ---- it writes what it is given

read_puts : (m : Medium) (s : ℕ) (u : List ℕ) → IsRead (sink_scan m s) tt (map Elem u) (puts_of s u) tt
read_puts m s [] = (refl, refl)
read_puts m s (x ∷ u) = (Do (Put s x) ∷ [], puts_of s u, tt, refl, refl, refl, read_puts m s u)

puts_all : (m : Medium) (s : ℕ) (x : Sort) (u : List ℕ) → x ≡ Sort.Bytes → Moves grade (puts_of s u) (scan_rest (sink_scan m s) false tt (items_at x u)) (open_rest m s)
puts_all m s Sort.Bytes u e = subst (λ l. Moves grade (puts_of s u) (scan_rest (sink_scan m s) false tt l) (open_rest m s)) (append-nil (map Elem u)) (read_moves (sink_scan m s) grade (map Elem u) [] tt tt (puts_of s u) refl (read_puts m s u))
puts_all m s Sort.Chars u e = absurd (let k = e in cc)
puts_all m s Sort.Block u e = absurd (let k = e in cc)
puts_all m s Sort.Text u e = absurd (let k = e in cc)

taken : (m : Medium) (s : ℕ) (k : Option Ticket) (c : Chunk)
    → Same (fed (PlainChunk c) (sink_part parts.Wait s k (open_rest m s))) (sink_part parts.Wait s k (scan_rest (sink_scan m s) false tt (items c)))
taken m s k c = record {
  goes = λ z. moves_gets grade c (sink_part parts.Wait s k (open_rest m s)) z (scan_rest (sink_scan m s) false tt (items c)) (pending_more grade [] (items c) (fresh (scan (sink_scan m s) 0 tt)));
  kept = (refl, refl, refl, refl, refl, λ r d h. h);
}

writable : (m : Medium) (p : Place) (k : Option Ticket) (s d : ℕ) → IsSinkPlace m p → IsDescriptorAt m k s 1 d → WritesAt p d (ticket_of k s d ≡ true)
writable File p k s d h i = rw h.1 i
writable Standard p k s d h i = rw h i

some_bytes : (x : Sort) (u : List ℕ) → x ≡ Sort.Bytes → 0 < length (items_at x u) → 0 < length u
some_bytes Sort.Bytes [] e h = h
some_bytes Sort.Bytes (x ∷ u) e h = omega arith
some_bytes Sort.Chars u e h = absurd (let k = e in cc)
some_bytes Sort.Block u e h = absurd (let k = e in cc)
some_bytes Sort.Text u e h = absurd (let k = e in cc)

writes_part : (place : ℕ → Place) (m : Medium) (s : ℕ) (k : Option Ticket) (d : ℕ) (c : Chunk) → IsSinkPlace m (place s) → IsDescriptorAt m k s 1 d → IsChunk kind.Bytes c
    → WritesNext place s d c (fed (PlainChunk c) (sink_part parts.Wait s k (open_rest m s))) (sink_part parts.Writes s k (open_rest m s))
writes_part place m s k d c h i b = record {
  own = eq-eqb s s refl;
  writable = writable m (place s) k s d h i;
  bytes = b.1;
  some = some_bytes c.0 c.1 b.1 b.0;
  acts = record {
    is_at = refl;
    goes = after_acts (puts_of s c.1) (fed (PlainChunk c) (sink_part parts.Wait s k (open_rest m s))) (sink_part parts.Wait s k (scan_rest (sink_scan m s) false tt (items c))) (sink_part parts.Writes s k (open_rest m s))
        (taken m s k c) (λ z. puts_all m s c.0 c.1 b.1);
  };
}

pub writes : (place : ℕ → Place) (m : Medium) (t : SinkStand) (s : ℕ) (k : Option Ticket) (d : ℕ) (c : Chunk) → t ≡ Waiting → IsSinkPlace m (place s) → IsDescriptorAt m k s 1 d → IsChunk kind.Bytes c
    → WritesNext place s d c (fed (PlainChunk c) (sink_part (sink_at t s) s k (sink_rest m t s))) (sink_part parts.Writes s k (open_rest m s))
writes place m t s k d c e h i b = subst (λ x. WritesNext place s d c (fed (PlainChunk c) (sink_part (sink_at x s) s k (sink_rest m x s))) (sink_part parts.Writes s k (open_rest m s))) (sym e) (writes_part place m s k d c h i b)

-- ---- it was told the end

told_end : (m : Medium) (s : ℕ) (k : Option Ticket)
    → Same (fed PlainEnd (sink_part parts.Wait s k (open_rest m s))) (sink_part parts.Wait s k (scan_rest (sink_scan m s) true tt []))
told_end m s k = record {
  goes = λ z. moves_gets_end grade (sink_part parts.Wait s k (open_rest m s)) z (scan_rest (sink_scan m s) true tt []) (scan_ends (sink_scan m s) grade tt refl);
  kept = (refl, refl, refl, refl, refl, λ r d h. h);
}

closes_last : (m : Medium) (s n : ℕ) → m ≡ File → n ≡ s → Moves grade (Do (Close n) ∷ []) (scan_rest (sink_scan m s) true tt []) ended_rest
closes_last m s n e h = record { read = []; unread = refl; floor = refl; run = λ ys end i. rw (e, h) refl }

closes_part : (m : Medium) (s : ℕ) (k : Option Ticket) (t : Ticket) → m ≡ File → k ≡ Some t → IsOpenAt m k s
    → ClosesNext t (fed PlainEnd (sink_part parts.Wait s k (open_rest m s))) (sink_part parts.Closes s None ended_rest)
closes_part m s k t e h o =
    let i = open_site m k t s e h o in
    record {
      own = eq-eqb t.site.0 s i;
      live = rw h (ticket_own t);
      gone = λ d. refl;
      acts = record {
        is_at = refl;
        goes = after_acts (Do (Close t.site.0) ∷ []) (fed PlainEnd (sink_part parts.Wait s k (open_rest m s))) (sink_part parts.Wait s k (scan_rest (sink_scan m s) true tt [])) (sink_part parts.Closes s None ended_rest)
            (told_end m s k) (λ z. closes_last m s t.site.0 e i);
      };
    }

pub closes : (m : Medium) (x : SinkStand) (s : ℕ) (k : Option Ticket) (t : Ticket) → x ≡ Waiting → m ≡ File → k ≡ Some t → IsOpenAt m k s
    → ClosesNext t (fed PlainEnd (sink_part (sink_at x s) s k (sink_rest m x s))) (sink_part parts.Closes s None ended_rest)
closes m x s k t w e h o = subst (λ y. ClosesNext t (fed PlainEnd (sink_part (sink_at y s) s k (sink_rest m y s))) (sink_part parts.Closes s None ended_rest)) (sym w) (closes_part m s k t e h o)

ends_part : (m : Medium) (s : ℕ) (k : Option Ticket) → m ≡ Standard → Goes (PlainDone result.Unit None) (sink_part parts.Wait s k (scan_rest (sink_scan m s) true tt [])) (sink_part parts.Over s k ended_rest)
ends_part m s k e = record {
  is_at = refl;
  floor = refl;
  given = tt;
  left = omega arith;
  finishes = λ z. record { read = []; unread = refl; run = λ ys end i. rw (e, unit_is) refl };
}

pub ends : (m : Medium) (x : SinkStand) (s : ℕ) (k : Option Ticket) → x ≡ Waiting → m ≡ Standard
    → Goes (PlainDone result.Unit None) (fed PlainEnd (sink_part (sink_at x s) s k (sink_rest m x s))) (sink_part parts.Over s k ended_rest)
ends m x s k w e =
    subst (λ y. Goes (PlainDone result.Unit None) (fed PlainEnd (sink_part (sink_at y s) s k (sink_rest m y s))) (sink_part parts.Over s k ended_rest)) (sym w)
    (goes_after (PlainDone result.Unit None) (fed PlainEnd (sink_part parts.Wait s k (open_rest m s))) (sink_part parts.Wait s k (scan_rest (sink_scan m s) true tt [])) (sink_part parts.Over s k ended_rest)
    (told_end m s k) (ends_part m s k e))

-- ---- its run is the word's

pub file_run : (m : Medium) (s n : ℕ) (xs : List Item) (e : End) → m ≡ File → s ≡ n → (unopened_rest m s).run xs e ≡ sink_file n xs e
file_run m s n xs e h i = rw (h, i) (ap (Then start (Do (Open n))) (scan_fresh (sink_scan File n) tt xs e) ∙ sym (sink_file_is_scan n xs e))

pub stdout_run : (m : Medium) (s n : ℕ) (xs : List Item) (e : End) → m ≡ Standard → s ≡ n → (unopened_rest m s).run xs e ≡ stdout n xs e
stdout_run m s n xs e h i = rw (h, i) (scan_fresh (sink_scan Standard n) tt xs e ∙ sym (stdout_is_scan n xs e))

-- ---- its facts

none_unread : (m : Medium) (t : SinkStand) (s : ℕ) → (sink_rest m t s).unread ≡ []
none_unread m Fresh s = refl
none_unread m Opening s = refl
none_unread m Waiting s = refl
none_unread m Writing s = refl
none_unread m Closing s = refl
none_unread m Over s = refl

pub all_read : (m : Medium) (t : SinkStand) (s : ℕ) → [] ≡ (sink_rest m t s).unread
all_read m t s = sym (none_unread m t s)

open_rising : (m : Medium) (s : ℕ) (ys : List Item) (e : End) → Rising 0 ((open_rest m s).run ys e)
open_rising m s ys e = subst (Rising 0) (sym (scan_fresh (sink_scan m s) tt ys e)) (scan_rising (sink_scan m s) 0 tt ys e)

sink_rising : (m : Medium) (t : SinkStand) (s : ℕ) (ys : List Item) (e : End) → Rising (sink_rest m t s).floor ((sink_rest m t s).run ys e)
sink_rising File Fresh s ys e = (omega arith, open_rising File s ys e)
sink_rising Standard Fresh s ys e = open_rising Standard s ys e
sink_rising m Opening s ys e = open_rising m s ys e
sink_rising m Waiting s ys e = open_rising m s ys e
sink_rising m Writing s ys e = open_rising m s ys e
sink_rising m Closing s ys e = omega arith
sink_rising m Over s ys e = omega arith

fit_own : (t : SinkStand) (m : Medium) (k : Option Ticket) (s : ℕ) → SinkFits t m k s → (r d : ℕ) → ticket_of k r d ≡ true → (r == s) ≡ true
fit_own t m None s f r d h = absurd (let x : false ≡ true = h in cc)
fit_own t m (Some y) s f r d h = eq-eqb r s (ticket_site y r d h ∙ is_open t m f) where
  is_open : (t : SinkStand) (m : Medium) → SinkFits t m (Some y) s → y.site.0 ≡ s
  is_open Waiting File f = f
  is_open Waiting Standard f = absurd f
  is_open Writing File f = f
  is_open Writing Standard f = absurd f
  is_open Fresh m f = cc
  is_open Opening m f = let x = f.1 in cc
  is_open Closing m f = cc
  is_open Over m f = cc

pub sink_sound : (m : Medium) (t : SinkStand) (s : ℕ) (k : Option Ticket) → SinkFits t m k s → IsSound (sink_part (sink_at t s) s k (sink_rest m t s))
sink_sound m t s k f = record {
  local = λ r h w z. refl;
  rising = λ z ys e. sink_rising m t s ys e;
  counts = rw (none_unread m t s) (omega arith);
  graded = refl;
  own = λ r d h. fit_own t m k s f r d h;
}
