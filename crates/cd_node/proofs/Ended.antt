-- A site of which the end was told.
use Rattle.std.proofs.Common.{◌≡◌, ℕ, zero, suc, ◌==◌, Bool, true, false, [], refl, ap, sym, ◌∙◌}
use Rattle.std.proofs.lemmas.Bool.{eq-eqb}
use Rattle.cd_meaning.specs.Known.{known, no_more, nothing_known, pick, unknown}
use Rattle.cd_meaning.specs.Places.{Place}
use Rattle.cd_meaning.specs.Rest.{IsToCome, Stuck}
use Rattle.cd_meaning.specs.Run.{Run, Ends}
use Rattle.cd_meaning.specs.RunShapes.{Mark, MayGoOn, Broken, Told, Seen}
use Rattle.cd_meaning.specs.Stream.{Halt, More, Stop, Reading, ReadBad, Ended, Halts}
use Rattle.cd_step.specs.Parts.{Part, rest, site}
use Rattle.cd_step.proofs.Moving.{stuck_after}
use Rattle.cd_node.specs.Nodes.{Ignores, Waiting, fed_node}
use Rattle.cd_node.specs.declared.protocol.NodeInput.TheVariants.{GaveEnd}

-- what is known later of a site tells nothing that was known before
pick_over : (b : Bool) (v w t : Told) → pick b v (pick b w t) ≡ pick b v t
pick_over true v w t = refl
pick_over false v w t = refl

known_over : (s : ℕ) (v w : Told) (z : Seen) → known s v (known s w z) ≡ known s v z
known_over s v w z i t = pick_over (t == s) v w (z t) i

pub ignores_ended : (p : Part) → Ignores (site p.at) (fed_node GaveEnd p)
ignores_ended p w z = ap p.run (known_over (site p.at) no_more w z)

known_own : (s : ℕ) (w : Told) (z : Seen) → known s w z s ≡ w
known_own s w z = ap (λ b. pick b w (z s)) (eq-eqb s s refl)

nothing_comes : (f : ℕ) → IsToCome f [] Ended
nothing_comes zero = tt
nothing_comes (suc n) = (refl, refl)

-- a run that halts so on nothing
halts_so : (place : ℕ → Place) (s d : ℕ) (p q : Part) → Ignores s p → (w : Waiting place s d p q) → (mark : Mark) (h : Halt) → Stuck h (rest q (known s (unknown mark) nothing_known)) → Stuck h (rest p nothing_known)
halts_so place s d p q k w mark h e =
    let z = known s (unknown mark) nothing_known in
    let x = (stuck_after p.grade h (rest p z) (rest q z) (w.goes z) e).run in
    record { run = λ ys end i. let y = x ys end i in (y.0, ap (λ r. r ys end) (sym (k (unknown mark) nothing_known)) ∙ y.1) }

apart : (r : Run) (f n m s : ℕ) → r ≡ Ends (record { need = f; net = n }) (Halts (More (Reading s))) → r ≡ Ends (record { need = f; net = m }) (Halts (Stop (ReadBad s))) → ⊥
apart r f n m s e h = let x : Ends (record { need = f; net = n }) (Halts (More (Reading s))) ≡ Ends (record { need = f; net = m }) (Halts (Stop (ReadBad s))) = sym e ∙ h in cc

pub never_read : (place : ℕ → Place) (s d : ℕ) (p q : Part) → Ignores s p → Waiting place s d p q → ⊥
never_read place s d p q k w =
    let a = halts_so place s d p q k w MayGoOn (More (Reading s)) (w.stops (known s (unknown MayGoOn) nothing_known) MayGoOn (More (Reading s)) (known_own s (unknown MayGoOn) nothing_known) refl) in
    let b = halts_so place s d p q k w Broken (Stop (ReadBad s)) (w.stops (known s (unknown Broken) nothing_known) Broken (Stop (ReadBad s)) (known_own s (unknown Broken) nothing_known) refl) in
    let x = a.run [] Ended (nothing_comes p.floor) in
    let y = b.run [] Ended (nothing_comes p.floor) in
    apart (p.run nothing_known [] Ended) p.floor x.0 y.0 s x.1 y.1
