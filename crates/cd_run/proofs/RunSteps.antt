-- A turn of a statement's run: up to a read, and the read.
use Rattle.std.proofs.Common.{◌≡◌, ◌≢◌, ℕ, zero, suc, ◌<◌, ◌⊎◌, inl, inr, Bool, true, false, List, [], ◌∷◌, ◌++◌, length, get_or, Ok, refl, ap, sym, ◌∙◌, subst, arith}
use Rattle.std.specs.Prelude.{Contains}
use Rattle.std.proofs.lemmas.List.Elements.{Contains-append_left}
use Rattle.cd_elem.specs.declared.site.Site.{Site}
use Rattle.cd_elem.specs.declared.value.Value.{Value as Answer}
use Rattle.cd_meaning.specs.Stream.{Value}
use Rattle.cd_meaning.specs.Run.{Run}
use Rattle.cd_meaning.specs.RunShapes.{Seen}
use Rattle.cd_meaning.specs.Places.{Place}
use Rattle.cd_meaning.specs.Values.{value_meaning}
use Rattle.cd_step.specs.Parts.{Part, Reads, IsReads}
use Rattle.cd_world.specs.declared.event.Descriptor.{Descriptor}
use Rattle.cd_scope.specs.declared.table.Held.{Held}
use Rattle.cd_scope.specs.declared.table.Ticket.{Ticket}
use Rattle.cd_scope.specs.Calls.{held_at}
use Rattle.cd_scope.specs.Due.{Setting}
use Rattle.cd_run.specs.Going.{Outside, Going}
use Rattle.cd_node.specs.Nodes.{AreHeld, AnswersNode, GoesNode, fed_node}
use Rattle.cd_node.specs.declared.protocol.NodeMove.{NodeMove}
use Rattle.cd_node.specs.declared.protocol.NodeMove.TheVariants.{Release}
use Rattle.cd_node.specs.declared.protocol.NodeInput.{NodeInput}
use Rattle.cd_node.specs.declared.protocol.NodeInput.TheVariants.{Start, Chunk, End, Next, Acquired, Gave, GaveEnd, Wrote, Closed}
use Rattle.cd_run.specs.declared.drive.Pause.{Pause}
use Rattle.cd_run.specs.declared.drive.Pause.TheVariants.{Waits, Done}
use Rattle.cd_run.specs.Statements.{Spends, left_run, within, behind}
use Rattle.cd_run.specs.Paused.{IsAtRead, IsPaused, PausedAt, PausedSpends, Forgets, StillForgets, IsTelling, Falls}
use Rattle.cd_run.proofs.FileReads.{same_or}
use Rattle.cd_run.proofs.ReadSteps.{end_forgotten, gave_forgets, end_forgets, not_forgotten}

module _ (p : Pause) (s : Site) (d : Descriptor) (is : p ≡ Waits s d) where
  pub at_read : (place : ℕ → Place) (t : List Held) (q : Part) → IsPaused place (Ok p) t q → IsAtRead place s.0 d t q
  at_read place t q h = subst (λ x. IsPaused place (Ok x) t q) is h

  pub going_at : (g : Setting) (m : Seen → Run) (t : List Held) (left : List ℕ) (q : Part) (k : Seen → Value → Run) (w0 w : Outside) → PausedAt g m (Ok p) t left q k w0 w → Going g m t left (within (left_run q) k) w0 w
  going_at g m t left q k w0 w h = subst (λ x. PausedAt g m (Ok x) t left q k w0 w) is h

  pub forgotten_at : (x : ℕ) (q : Part) → StillForgets x (Ok p) q → Forgets x q
  forgotten_at x q h = subst (λ y. StillForgets x (Ok y) q) is h

  pub spends_at : (r : Part) (a : ℕ) (q : Part) (b : ℕ) → PausedSpends r a (Ok p) q b → Spends r a q b
  spends_at r a q b h = subst (λ x. PausedSpends r a (Ok x) q b) is h

  -- a site of which nothing may be read is not read
  pub some_left : (place : ℕ → Place) (t : List Held) (q : Part) (left : ℕ) → IsPaused place (Ok p) t q → (left ≡ 0 → StillForgets s.0 (Ok p) q) → 0 < left
  some_left place t q zero h ended = absurd (not_forgotten s.0 q (at_read place t q h).stops (forgotten_at s.0 q (ended refl)))
  some_left place t q (suc n) h ended = omega arith

pub done_at : (p : Pause) (v : Answer) → p ≡ Done v → (g : Setting) (m : Seen → Run) (t : List Held) (left : List ℕ) (q : Part) (k : Seen → Value → Run) (w0 w : Outside) → PausedAt g m (Ok p) t left q k w0 w
    → Going g m t left (behind (λ all. k all (value_meaning v))) w0 w
done_at p v is g m t left q k w0 w h = subst (λ x. PausedAt g m (Ok x) t left q k w0 w) is h

pub told_answers : (i : NodeInput) (s : ℕ) (q : Part) → q.at ≡ Reads s → IsTelling i → AnswersNode q i
told_answers (Gave c) s q at h = (subst IsReads (sym at) tt, h.0, h.1, h.2)
told_answers GaveEnd s q at h = subst IsReads (sym at) tt
told_answers Start s q at h = absurd h
told_answers (Chunk c) s q at h = absurd h
told_answers End s q at h = absurd h
told_answers Next s q at h = absurd h
told_answers (Acquired t) s q at h = absurd h
told_answers Wrote s q at h = absurd h
told_answers Closed s q at h = absurd h

pub told_held : (i : NodeInput) (t : List Held) (q : Part) → IsTelling i → AreHeld t q → AreHeld t (fed_node i q)
told_held (Gave c) t q h held = held
told_held GaveEnd t q h held = held
told_held Start t q h held = absurd h
told_held (Chunk c) t q h held = absurd h
told_held End t q h held = absurd h
told_held Next t q h held = absurd h
told_held (Acquired x) t q h held = absurd h
told_held Wrote t q h held = absurd h
told_held Closed t q h held = absurd h

told_forgets : (i : NodeInput) (s t : ℕ) (q : Part) → q.at ≡ Reads s → IsTelling i → s ≢ t → Forgets t q → Forgets t (fed_node i q)
told_forgets (Gave c) s t q at h e ig = gave_forgets s t q c at e ig
told_forgets GaveEnd s t q at h e ig = end_forgets s t q at e ig
told_forgets Start s t q at h e ig = absurd h
told_forgets (Chunk c) s t q at h e ig = absurd h
told_forgets End s t q at h e ig = absurd h
told_forgets Next s t q at h e ig = absurd h
told_forgets (Acquired d) s t q at h e ig = absurd h
told_forgets Wrote s t q at h e ig = absurd h
told_forgets Closed s t q at h e ig = absurd h

pub still_ended : (i : NodeInput) (s : ℕ) (q : Part) (left left' : List ℕ) → q.at ≡ Reads s → IsTelling i → Falls s i left left' → length left' ≡ length left
    → ((t : ℕ) → t < length left → get_or left t 0 ≡ 0 → Forgets t q) → (t : ℕ) → t < length left' → get_or left' t 0 ≡ 0 → Forgets t (fed_node i q)
still_ended i s q left left' at h falls len ended t lt none = by (same_or t s) where
  by : (t ≡ s) ⊎ (t ≢ s) → Forgets t (fed_node i q)
  by (inl e) = subst (λ x. Forgets x (fed_node i q)) (sym e) (subst (λ x. Forgets s (fed_node x q)) (sym (falls.here (subst (λ x. get_or left' x 0 ≡ 0) e none))) (end_forgotten s q at))
  by (inr e) = told_forgets i s t q at h (λ (x : s ≡ t). e (sym x)) (ended t (subst (λ n. t < n) len lt) (sym (falls.others t e) ∙ none))

pub other_site : (sites : ℕ → Bool) (s x : ℕ) → sites s ≡ true → sites x ≡ false → x ≢ s
other_site sites s x own none = λ (e : x ≡ s). subst is_false (sym none ∙ ap sites e ∙ own) tt where
  is_false : Bool → Type 0
  is_false true = ⊥
  is_false false = Unit {0}

-- ---- what is held of other sites stays

pub acquire_stays : (s : ℕ) (d : Descriptor) (t t' : List Held) → t' ≡ t ++ held_at s d ∷ [] → (h : Held) → Contains t h → Contains t' h
acquire_stays s d t t' more h has = subst (λ (l : List Held). Contains l h) (sym more) (Contains-append_left t (held_at s d ∷ []) h has)

pub release_stays : (place : ℕ → Place) (p q : Part) (mv : NodeMove) → GoesNode place mv p q → (ticket : Ticket) → mv ≡ Release ticket → (sites : ℕ → Bool) → q.sites ≡ sites → (t t' : List Held)
    → ((h : Held) → h.site.0 ≢ ticket.site.0 → Contains t h → Contains t' h) → (h : Held) → sites h.site.0 ≡ false → Contains t h → Contains t' h
release_stays place p q mv goes_by ticket is sites same t t' others h none has =
    others h (other_site sites ticket.site.0 h.site.0 (sym (ap (λ (f : ℕ → Bool). f ticket.site.0) same) ∙ (subst (λ x. GoesNode place x p q) is goes_by).own) none) has
