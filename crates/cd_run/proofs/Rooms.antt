-- The room of a scope for what a node still opens.
use Rattle.std.proofs.Common.{◌≡◌, ℕ, suc, ◌+◌, ◌-◌, ◌≤◌, ◌<◌, List, [], ◌∷◌, ◌++◌, map, refl, ap, sym, ◌∙◌, subst, arith}
use Rattle.cd_elem.specs.declared.site.Site.{Site}
use Rattle.cd_meaning.specs.Known.{nothing_known}
use Rattle.cd_meaning.specs.Opens.{openings_in}
use Rattle.cd_meaning.specs.Places.{Place}
use Rattle.cd_meaning.specs.Rest.{Grade, view}
use Rattle.cd_meaning.specs.Run.{Stamp, Run, Then, Ends, acts_at, effects, restamp}
use Rattle.cd_meaning.specs.RunShapes.{Seen}
use Rattle.cd_meaning.specs.Stream.{Item, Ended, Out, Do, Done, Halts, Effect, Open, Put, Close}
use Rattle.cd_meaning.proofs.Moves.Laws.{end_to_come}
use Rattle.cd_world.specs.declared.event.Descriptor.{Descriptor}
use Rattle.cd_step.specs.Parts.{Part, Goes_on, items}
use Rattle.cd_step.specs.Parts as parts
use Rattle.cd_scope.specs.declared.table.Ticket.{Ticket}
use Rattle.cd_node.specs.Nodes.{GoesNode, fed_node}
use Rattle.cd_node.specs.declared.protocol.NodeInput.{NodeInput}
use Rattle.cd_node.specs.declared.protocol.NodeInput.TheVariants.{Start, Chunk, End, Next, Acquired, Gave, GaveEnd, Wrote, Closed}
use Rattle.cd_node.specs.declared.protocol.NodeMove.{NodeMove}
use Rattle.cd_node.specs.declared.protocol.NodeMove.TheVariants.{Emit, Need, Acquire, Read, Write, Release}
use Rattle.cd_run.specs.Paused.{IsTelling}
use Rattle.cd_run.specs.Statements.{OpensAtMost, Spends, left_run}

-- ---- the effects of what is left

effects_restamp : (f : Stamp → Stamp) (r : Run) → effects (restamp f r) ≡ effects r
effects_restamp f (Then s (Out x) r) = effects_restamp f r
effects_restamp f (Then s (Do e) r) = ap (λ l. e ∷ l) (effects_restamp f r)
effects_restamp f (Ends s e) = refl

effects_view : (g : Grade) (r : Run) → effects (view g r) ≡ effects r
effects_view g (Then s (Out x) r) = effects_view g r
effects_view g (Then s (Do e) r) = ap (λ l. e ∷ l) (effects_view g r)
effects_view g (Ends s (Done v)) = refl
effects_view g (Ends s (Halts h)) = refl

same_effects : (g : Grade) (r q : Run) → view g r ≡ view g q → effects r ≡ effects q
same_effects g r q e = sym (effects_view g r) ∙ ap effects e ∙ effects_view g q

effects_does : (s : Stamp) (es : List Effect) (r : Run) → effects (acts_at s (map Do es) r) ≡ es ++ effects r
effects_does s [] r = refl
effects_does s (e ∷ es) r = ap (λ l. e ∷ l) (effects_does s es r)

effects_outs : (s : Stamp) (xs : List Item) (r : Run) → effects (acts_at s (map Out xs) r) ≡ effects r
effects_outs s [] r = refl
effects_outs s (x ∷ xs) r = effects_outs s xs r

moves_effects : (es : List Effect) (p q : Part) → Goes_on (map Do es) p q → (z : Seen) → effects (left_run p z) ≡ es ++ effects (left_run q z)
moves_effects es p q m z =
    same_effects p.grade _ _ ((m z).run [] Ended (end_to_come p.floor)) ∙ effects_does _ es _ ∙ ap (λ l. es ++ l) (effects_restamp _ (left_run q z))

outs_effects : (xs : List Item) (p q : Part) → Goes_on (map Out xs) p q → (z : Seen) → effects (left_run p z) ≡ effects (left_run q z)
outs_effects xs p q m z = same_effects p.grade _ _ ((m z).run [] Ended (end_to_come p.floor)) ∙ effects_outs _ xs _ ∙ effects_restamp _ (left_run q z)

puts_none : (s : ℕ) (bytes : List ℕ) (l : List Effect) → openings_in (map (Put s) bytes ++ l) ≡ openings_in l
puts_none s [] l = refl
puts_none s (b ∷ bytes) l = puts_none s bytes l

-- ---- what is spent

pub spends_none : (p : Part) (room : ℕ) → Spends p room p room
spends_none p room n h = (n, h, omega arith)

pub spends_after : (p q r : Part) (a b c : ℕ) → Spends p a q b → Spends q b r c → Spends p a r c
spends_after p q r a b c f g n h = let x = f n h in let y = g x.0 x.1 in (y.0, y.1, let e = x.2 in let d = y.2 in omega (arith, e, d))

-- what was spent in all
pub spent : (p q : Part) (a b : ℕ) → Spends p a q b → (most : ℕ) → OpensAtMost p most → a ≤ b + most
spent p q a b f most h = let x = f most h in let e = x.2 in omega (arith, e)

-- and where more was spent behind it
pub spends_then : (p q : Part) (a b c : ℕ) → Spends p a q b → ((most : ℕ) → OpensAtMost q most → b ≤ c + most) → (most : ℕ) → OpensAtMost p most → a ≤ c + most
spends_then p q a b c f g most h = let x = f most h in let e = x.2 in let d = g x.0 x.1 in omega (arith, e, d)

same_spends : (p q : Part) (room : ℕ) → ((z : Seen) → openings_in (effects (left_run p z)) ≡ openings_in (effects (left_run q z))) → Spends p room q room
same_spends p q room e n h = (n, λ z. subst (λ x. x ≤ n) (e z) (h z), omega arith)

opened_spends : (s : ℕ) (p q : Part) (a b : ℕ) → b + 1 ≡ a → ((z : Seen) → effects (left_run p z) ≡ Open s ∷ effects (left_run q z)) → Spends p a q b
opened_spends s p q a b r e n h =
    let one : (z : Seen) → suc (openings_in (effects (left_run q z))) ≤ n = λ z. subst (λ l. openings_in l ≤ n) (e z) (h z) in
    (n - 1, λ z. let o = one z in omega (arith, o), let o = one nothing_known in omega (arith, o, r))

module _ (place : ℕ → Place) (p q : Part) (mv : NodeMove) (goes_by : GoesNode place mv p q) (room : ℕ) where
  pub emits_spends : (d : parts.Chunk) → mv ≡ Emit d → Spends p room q room
  emits_spends d is = same_spends p q room (λ z. ap openings_in (outs_effects (items d) p q (subst (λ w. GoesNode place w p q) is goes_by).1.goes z))

  pub needs_spends : mv ≡ Need → Spends p room (fed_node End q) room
  needs_spends is = same_spends p (fed_node End q) room (λ z. ap openings_in (moves_effects [] p q (subst (λ w. GoesNode place w p q) is goes_by).goes z))

  pub reads_spends : (s : Site) (d : Descriptor) → mv ≡ Read s d → Spends p room q room
  reads_spends s d is = same_spends p q room (λ z. ap openings_in (moves_effects [] p q (subst (λ w. GoesNode place w p q) is goes_by).goes z))

  pub writes_spends : (s : Site) (d : Descriptor) (c : parts.Chunk) → mv ≡ Write s d c → Spends p room q room
  writes_spends s d c is =
      same_spends p q room (λ z. ap openings_in (moves_effects (map (Put s.0) c.1) p q (subst (λ w. GoesNode place w p q) is goes_by).acts.goes z) ∙ puts_none s.0 c.1 (effects (left_run q z)))

  pub releases_spends : (ticket : Ticket) → mv ≡ Release ticket → Spends p room q room
  releases_spends ticket is = same_spends p q room (λ z. ap openings_in (moves_effects (Close ticket.site.0 ∷ []) p q (subst (λ w. GoesNode place w p q) is goes_by).acts.goes z))

  opens_first : (s : Site) → mv ≡ Acquire s → (z : Seen) → effects (left_run p z) ≡ Open s.0 ∷ effects (left_run q z)
  opens_first s is = moves_effects (Open s.0 ∷ []) p q (subst (λ w. GoesNode place w p q) is goes_by).acts.goes

  pub acquires_spends : (s : Site) (ticket : Ticket) (b : ℕ) → mv ≡ Acquire s → b + 1 ≡ room → Spends p room (fed_node (Acquired ticket) q) b
  acquires_spends s ticket b is less = opened_spends s.0 p (fed_node (Acquired ticket) q) room b less (opens_first s is)

  -- where its file was refused, nothing more is said of what is left
  pub refused_spends : (s : Site) → mv ≡ Acquire s → Spends p room q room
  refused_spends s is n h = (n, λ z. let o = subst (λ l. openings_in l ≤ n) (opens_first s is z) (h z) in omega (arith, o), omega arith)

  -- there is room where it opens a file
  pub acquires_room : (s : Site) → mv ≡ Acquire s → (first : Part) (most : ℕ) → OpensAtMost first most → Spends first most p room → 0 < room
  acquires_room s is first most h f =
      let x = f most h in
      let o : suc (openings_in (effects (left_run q nothing_known))) ≤ x.0 = subst (λ l. openings_in l ≤ x.0) (opens_first s is nothing_known) (x.1 nothing_known) in
      let e = x.2 in omega (arith, o, e)

-- what a read told changes nothing of that
pub told_spends : (p q : Part) (i : NodeInput) (a b : ℕ) → IsTelling i → Spends p a q b → Spends p a (fed_node i q) b
told_spends p q (Gave c) a b t f n h = let x = f n h in (x.0, λ z. x.1 _, x.2)
told_spends p q GaveEnd a b t f n h = let x = f n h in (x.0, λ z. x.1 _, x.2)
told_spends p q Start a b t f n h = absurd t
told_spends p q (Chunk c) a b t f n h = absurd t
told_spends p q End a b t f n h = absurd t
told_spends p q Next a b t f n h = absurd t
told_spends p q (Acquired x) a b t f n h = absurd t
told_spends p q Wrote a b t f n h = absurd t
told_spends p q Closed a b t f n h = absurd t

-- what is left opens no more than there is room for
pub room_left : (p q : Part) (a b : ℕ) → OpensAtMost p a → Spends p a q b → OpensAtMost q b
room_left p q a b h f z = let x = f a h in let o = x.1 z in let e = x.2 in omega (arith, o, e)
