-- What a move of a node makes of a run, of its tickets and of the measure.
use Rattle.std.proofs.Common.{◌≡◌, ℕ, ◌+◌, ◌-◌, ◌*◌, ◌<◌, List, [], ◌∷◌, ◌++◌, length, map, refl, ap, sym, ◌∙◌, subst, arith}
use Rattle.std.specs.Prelude.{Contains, Option, Some, None}
use Rattle.std.proofs.lemmas.List.{length-map}
use Rattle.cd_elem.specs.declared.kind.Kind.{Kind}
use Rattle.cd_elem.specs.declared.site.Site.{Site}
use Rattle.cd_elem.specs.declared.value.Value.{Value as Answer}
use Rattle.cd_elem.specs.declared.fault.Fault.{Fault as Node_fault}
use Rattle.cd_meaning.specs.Stream.{Value, Ended, Stop, Decode as DecodeStop, Act, Out, Do, Effect, Put, Open, Close}
use Rattle.cd_meaning.specs.Run.{Run, Then, Ends}
use Rattle.cd_meaning.specs.RunShapes.{Seen}
use Rattle.cd_meaning.specs.Places.{Place, Reads, ReadsInput, Writes, WritesOutput, Marks}
use Rattle.cd_meaning.specs.Known.{nothing_known}
use Rattle.cd_meaning.specs.Values.{value_meaning}
use Rattle.cd_meaning.proofs.Moves.Laws.{end_to_come}
use Rattle.cd_meaning.proofs.Moves.Work.{count, count_view, count_restamp, count_acts}
use Rattle.cd_step.specs.Parts.{Part, Goes_on, items, rest_items, Opens, Kept}
use Rattle.cd_step.specs.Parts as parts
use Rattle.cd_world.specs.declared.event.Descriptor.{Descriptor}
use Rattle.cd_scope.specs.declared.table.Held.{Held}
use Rattle.cd_scope.specs.declared.table.Ticket.{Ticket}
use Rattle.cd_scope.specs.Calls.{does, held_at}
use Rattle.cd_scope.specs.Due.{Setting}
use Rattle.cd_scope.specs.Table.{IsOpen}
use Rattle.cd_scope.specs.Uses.{ReadsAt, WritesAt}
use Rattle.cd_world.specs.Live.{Open as OpenFile}
use Rattle.cd_node.specs.Nodes.{AnswersNode, AreHeld, GoesNode, fed_node}
use Rattle.cd_node.specs.declared.protocol.NodeInput.{NodeInput}
use Rattle.cd_node.specs.declared.protocol.NodeInput.TheVariants.{Start, Chunk, End, Next, Acquired, Gave, GaveEnd, Wrote, Closed}
use Rattle.cd_node.specs.declared.protocol.NodeMove.{NodeMove}
use Rattle.cd_node.specs.declared.protocol.NodeMove.TheVariants.{Emit, Need, Acquire, Read, Write, Release, Done as IsDone, Fault as HasFault}
use Rattle.cd_run.specs.declared.fault.RunFault.TheVariants.{Decode}
use Rattle.cd_run.specs.Going.{Outside, Going}
use Rattle.cd_run.specs.Ends.{Faulted}
use Rattle.cd_run.specs.Statements.{left_run, within, behind}
use Rattle.cd_run.specs.Paused.{Forgets, IsAtRead}
use Rattle.cd_node.proofs.Held.{held_acquired}
use Rattle.cd_scope.proofs.Further.{does_does}
use Rattle.cd_run.specs.Gathers.{waits_on}
use Rattle.cd_run.proofs.Steps.{going_same, stopped}
use Rattle.cd_run.proofs.Goes.{moves_does, moves_outs, finishes, stuck_goes}

-- ---- what is still to be done

-- where the move is answered by a call that is no write, nothing waits
none_on : (mv x : NodeMove) (ws wn : List Effect) → wn ≡ waits_on mv ws → mv ≡ x → waits_on x ws ≡ [] → wn ≡ []
none_on mv x ws wn waits is none = waits ∙ ap (λ y. waits_on y ws) is ∙ none

module _ {t : List Held} {left : List ℕ} (g : Setting) (m : Seen → Run) (k : Seen → Value → Run) (w0 w : Outside) (place : ℕ → Place) (p q : Part) (mv : NodeMove) (goes_by : GoesNode place mv p q)
    (ws wn : List Effect) (waits : wn ≡ waits_on mv ws) (G : Going g m t left (λ all z. does wn (within (left_run p) k all z)) w0 w) where
  none_before : (x : NodeMove) → mv ≡ x → waits_on x ws ≡ [] → Going g m t left (within (left_run p) k) w0 w
  none_before x is none = subst (λ es. Going g m t left (λ all z. does es (within (left_run p) k all z)) w0 w) (none_on mv x ws wn waits is none) G

  made_ready : (x : NodeMove) → mv ≡ x → waits_on x ws ≡ [] → (es : List Effect) → Goes_on (map Do es) p q → Going g m t left (λ all z. does es (within (left_run q) k all z)) w0 w
  made_ready x is none es go = going_same g m t (within (left_run p) k) w0 w (λ all z. does es (within (left_run q) k all z)) (λ all z. moves_does es p q go z (k all)) (none_before x is none)

  pub emits : (d : parts.Chunk) → mv ≡ Emit d → Going g m t left (λ all z. does wn (within (left_run q) k all z)) w0 w
  emits d is =
      going_same g m t (λ all z. does wn (within (left_run p) k all z)) w0 w (λ all z. does wn (within (left_run q) k all z))
      (λ all z. ap (does wn) (moves_outs (items d) p q (subst (λ x. GoesNode place x p q) is goes_by).1.goes z (k all))) G

  pub needs : mv ≡ Need → Going g m t left (λ all z. does wn (within (left_run q) k all z)) w0 w
  needs is =
      going_same g m t (λ all z. does wn (within (left_run p) k all z)) w0 w (λ all z. does wn (within (left_run q) k all z))
      (λ all z. ap (does wn) (moves_does [] p q (subst (λ x. GoesNode place x p q) is goes_by).goes z (k all))) G

  pub acquires : (s : Site) → mv ≡ Acquire s → Going g m t left (λ all z. does (Open s.0 ∷ []) (within (left_run q) k all z)) w0 w
  acquires s is = made_ready (Acquire s) is refl (Open s.0 ∷ []) (subst (λ x. GoesNode place x p q) is goes_by).acts.goes

  pub reads : (s : Site) (d : Descriptor) → mv ≡ Read s d → Going g m t left (within (left_run q) k) w0 w
  reads s d is = made_ready (Read s d) is refl [] (subst (λ x. GoesNode place x p q) is goes_by).goes

  pub writes : (s : Site) (d : Descriptor) (c : parts.Chunk) → mv ≡ Write s d c → Going g m t left (λ all z. does (wn ++ map (Put s.0) c.1) (within (left_run q) k all z)) w0 w
  writes s d c is =
      let es = map (Put s.0) c.1 in
      going_same g m t (λ all z. does wn (within (left_run p) k all z)) w0 w (λ all z. does (wn ++ es) (within (left_run q) k all z))
      (λ all z. ap (does wn) (moves_does es p q (subst (λ x. GoesNode place x p q) is goes_by).acts.goes z (k all)) ∙ sym (does_does wn es (within (left_run q) k all z))) G

  pub releases : (ticket : Ticket) → mv ≡ Release ticket → Going g m t left (λ all z. does (Close ticket.site.0 ∷ []) (within (left_run q) k all z)) w0 w
  releases ticket is = made_ready (Release ticket) is refl (Close ticket.site.0 ∷ []) (subst (λ x. GoesNode place x p q) is goes_by).acts.goes

  pub is_done : (v : Answer) (r : Option parts.Chunk) → mv ≡ IsDone v r → Going g m t left (behind (λ all. k all (value_meaning v))) w0 w
  is_done v r is = going_same g m t (within (left_run p) k) w0 w (behind (λ all. k all (value_meaning v)))
      (λ all z. finishes (value_meaning v) (rest_items r) p z (k all) ((subst (λ x. GoesNode place x p q) is goes_by).finishes z)) (none_before (IsDone v r) is refl)

  pub faults : (f : Node_fault) → mv ≡ HasFault f → Faulted g m (Decode f) t w0 w
  faults f is = stopped g m t (within (left_run p) k) w0 w (Decode f) (Stop (DecodeStop f)) (λ cs clean. clean) (λ cs all. all) (λ r cs same. same)
      (λ all z. stuck_goes (Stop (DecodeStop f)) p z (k all) ((subst (λ x. GoesNode place x p q) is goes_by).stuck z)) (none_before (HasFault f) is refl)

-- nothing waits behind a call that is no write
pub acquires_waits : (mv : NodeMove) (ws wn : List Effect) → wn ≡ waits_on mv ws → (s : Site) → mv ≡ Acquire s → wn ≡ []
acquires_waits mv ws wn waits s is = none_on mv (Acquire s) ws wn waits is refl

pub releases_waits : (mv : NodeMove) (ws wn : List Effect) → wn ≡ waits_on mv ws → (ticket : Ticket) → mv ≡ Release ticket → wn ≡ []
releases_waits mv ws wn waits ticket is = none_on mv (Release ticket) ws wn waits is refl

-- ---- the measure

moves_count : (acts : List Act) (p q : Part) → Goes_on acts p q → (z : Seen) → count (left_run p z) ≡ length acts + count (left_run q z)
moves_count acts p q go z =
    sym (count_view p.grade _) ∙ ap count ((go z).run [] Ended (end_to_come p.floor)) ∙ count_view p.grade _ ∙ count_acts _ acts _ ∙ ap (λ n. length acts + n) (count_restamp _ (left_run q z))

-- twice the acts that are left, and one while the end was not told
abbrev pub turns : Part → ℕ
turns p = 2 * count (left_run p nothing_known) + (1 - p.floor)

falls : (acts : List Act) (p q : Part) → Goes_on acts p q → 0 < length acts → turns q < turns p
falls acts p q go some = let c = moves_count acts p q go nothing_known in let f = (go nothing_known).floor in omega (arith, c, f, some)

-- ---- the sites of a node

pub fed_sites : (i : NodeInput) (p : Part) → (fed_node i p).sites ≡ p.sites
fed_sites Start p = refl
fed_sites (Chunk c) p = refl
fed_sites End p = refl
fed_sites Next p = refl
fed_sites (Acquired t) p = refl
fed_sites (Gave c) p = refl
fed_sites GaveEnd p = refl
fed_sites Wrote p = refl
fed_sites Closed p = refl

-- ---- a site that is forgotten

undo : List Effect → Run → Run
undo [] r = r
undo (e ∷ es) (Then s a r) = undo es r
undo (e ∷ es) (Ends s x) = Ends s x

undone : (es : List Effect) (r : Run) → undo es (does es r) ≡ r
unfolding undo
undone [] r = refl
undone (e ∷ es) r = undone es r

moves_forgets : (es : List Effect) (p q : Part) → Goes_on (map Do es) p q → (s : ℕ) → Forgets s p → Forgets s q
moves_forgets es p q go s ig w z next =
    sym (undone es _)
    ∙ ap (undo es) (sym (moves_does es p q go _ next) ∙ ig w z next ∙ moves_does es p q go z next)
    ∙ undone es _

module _ (place : ℕ → Place) (p q : Part) (mv : NodeMove) (goes_by : GoesNode place mv p q) where
  pub emits_falls : (d : parts.Chunk) → mv ≡ Emit d → turns q < turns p
  emits_falls d is = let go = subst (λ w. GoesNode place w p q) is goes_by in falls (map Out (items d)) p q go.1.goes (some_outs d p.gives go.0) where
    some_outs : (d : parts.Chunk) (k : Option Kind) → parts.IsOf k d → 0 < length (map Out (items d))
    some_outs d None of = absurd of
    some_outs d (Some k) of = omega (arith, of.0, length-map (items d) Out)

  pub needs_falls : mv ≡ Need → turns (fed_node End q) < turns p
  needs_falls is =
      let go = subst (λ w. GoesNode place w p q) is goes_by in
      let c = moves_count [] p q go.goes nothing_known in let f = (go.goes nothing_known).floor in let a = (go.asks nothing_known).not_told in omega (arith, c, f, a)

  pub acquires_falls : (s : Site) → mv ≡ Acquire s → turns q < turns p
  acquires_falls s is = falls (Do (Open s.0) ∷ []) p q (subst (λ w. GoesNode place w p q) is goes_by).acts.goes (omega arith)

  pub writes_falls : (s : Site) (d : Descriptor) (c : parts.Chunk) → mv ≡ Write s d c → turns q < turns p
  writes_falls s d c is =
      let go = subst (λ w. GoesNode place w p q) is goes_by in
      falls (map Do (map (Put s.0) c.1)) p q go.acts.goes (omega (arith, go.some, length-map (map (Put s.0) c.1) Do, length-map c.1 (Put s.0)))

  pub releases_falls : (ticket : Ticket) → mv ≡ Release ticket → turns q < turns p
  releases_falls ticket is = falls (Do (Close ticket.site.0) ∷ []) p q (subst (λ w. GoesNode place w p q) is goes_by).acts.goes (omega arith)

  pub next_answers : (d : parts.Chunk) → mv ≡ Emit d → AnswersNode q Next
  next_answers d is = (subst (λ w. GoesNode place w p q) is goes_by).1.is_at

  pub end_answers : mv ≡ Need → AnswersNode q End
  end_answers is = (subst (λ w. GoesNode place w p q) is goes_by).is_at

  pub acquired_answers : (s : Site) (ticket : Ticket) → mv ≡ Acquire s → ticket.site.0 ≡ s.0 → AnswersNode q (Acquired ticket)
  acquired_answers s ticket is same = (subst (λ w. GoesNode place w p q) is goes_by).acts.is_at ∙ ap Opens (sym same)

  pub wrote_answers : (s : Site) (d : Descriptor) (c : parts.Chunk) → mv ≡ Write s d c → AnswersNode q Wrote
  wrote_answers s d c is = (subst (λ w. GoesNode place w p q) is goes_by).acts.is_at

  pub closed_answers : (ticket : Ticket) → mv ≡ Release ticket → AnswersNode q Closed
  closed_answers ticket is = (subst (λ w. GoesNode place w p q) is goes_by).acts.is_at

  -- on the descriptors of its tickets
  pub at_read : (s : Site) (d : Descriptor) → mv ≡ Read s d → (t : List Held) → AreHeld t q → IsAtRead place s.0 d t q
  at_read s d is t held =
      let go = subst (λ w. GoesNode place w p q) is goes_by in
      record { is_at = go.is_at; own = go.own; readable = readable_with (place s.0) d.0 (λ live. held s.0 d.0 live) go.readable; stops = go.stops } where
        readable_with : {A B : Type 0} (x : Place) (n : ℕ) → (A → B) → ReadsAt x n A → ReadsAt x n B
        readable_with (Reads name) n go at = go at
        readable_with ReadsInput n go at = at
        readable_with (Writes name) n go at = absurd at
        readable_with WritesOutput n go at = absurd at
        readable_with (Marks name) n go at = absurd at

  pub writes_at : (s : Site) (d : Descriptor) (c : parts.Chunk) → mv ≡ Write s d c → (t : List Held) → AreHeld t q → WritesAt (place s.0) d.0 (Contains t (held_at s.0 d))
  writes_at s d c is t held =
      let go = subst (λ w. GoesNode place w p q) is goes_by in
      writable_with (place s.0) d.0 (λ live. held s.0 d.0 live) go.writable where
        writable_with : {A B : Type 0} (x : Place) (n : ℕ) → (A → B) → WritesAt x n A → WritesAt x n B
        writable_with (Writes name) n go at = go at
        writable_with WritesOutput n go at = at
        writable_with (Reads name) n go at = absurd at
        writable_with ReadsInput n go at = absurd at
        writable_with (Marks name) n go at = absurd at

  module _ (site : ℕ) (ig : Forgets site p) where
    pub emits_forgets : (d : parts.Chunk) → mv ≡ Emit d → Forgets site q
    emits_forgets d is w z next =
        let go = (subst (λ w. GoesNode place w p q) is goes_by).1.goes in sym (moves_outs (items d) p q go _ next) ∙ ig w z next ∙ moves_outs (items d) p q go z next

    pub needs_forgets : mv ≡ Need → Forgets site q
    needs_forgets is = moves_forgets [] p q (subst (λ w. GoesNode place w p q) is goes_by).goes site ig

    pub acquires_forgets : (s : Site) → mv ≡ Acquire s → Forgets site q
    acquires_forgets s is = moves_forgets (Open s.0 ∷ []) p q (subst (λ w. GoesNode place w p q) is goes_by).acts.goes site ig

    pub reads_forgets : (s : Site) (d : Descriptor) → mv ≡ Read s d → Forgets site q
    reads_forgets s d is = moves_forgets [] p q (subst (λ w. GoesNode place w p q) is goes_by).goes site ig

    pub writes_forgets : (s : Site) (d : Descriptor) (c : parts.Chunk) → mv ≡ Write s d c → Forgets site q
    writes_forgets s d c is = moves_forgets (map (Put s.0) c.1) p q (subst (λ w. GoesNode place w p q) is goes_by).acts.goes site ig

    pub releases_forgets : (ticket : Ticket) → mv ≡ Release ticket → Forgets site q
    releases_forgets ticket is = moves_forgets (Close ticket.site.0 ∷ []) p q (subst (λ w. GoesNode place w p q) is goes_by).acts.goes site ig

-- the ticket of a file that was opened is of the scope
pub acquired_there : (t t' : List Held) (s : Site) (ticket : Ticket) (q : Part) → ticket.site.0 ≡ s.0 → t' ≡ t ++ held_at s.0 ticket.descriptor ∷ [] → AreHeld t q → AreHeld t' (fed_node (Acquired ticket) q)
acquired_there t t' s ticket q same more held =
    subst (λ l. AreHeld l (fed_node (Acquired ticket) q)) (sym more) (subst (λ n. AreHeld (t ++ held_at n ticket.descriptor ∷ []) (fed_node (Acquired ticket) q)) same (held_acquired t ticket q held))

-- the same places
pub as_open : (f h : ℕ → Place) → h ≡ f → (base live : List OpenFile) (t : List Held) → IsOpen f base t live → IsOpen h base t live
as_open f h same base live t o = subst (λ x. IsOpen x base t live) (sym same) o
