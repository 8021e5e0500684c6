use Rattle.std.proofs.Common.{◌≡◌, ℕ, List, [], ◌∷◌, refl, ◌∙◌}
use Rattle.cd_meaning.specs.Places.{Place, place_in}
use Rattle.cd_typed.specs.Sites.{place_of}
use Rattle.cd_world.specs.Live.{Open}
use Rattle.cd_world.specs.Memory.{live_in}
use Rattle.test_callers.proofs.OpenMarks.{HasOpen, none_open, same_open}
use Rattle.tests.proofs.marks.two_marks.Goals as goal
use Rattle.tests.proofs.marks.two_marks.Goals.{in-Ok, in_default, in-Ok-one, in_default-one}

pub give_back-requires-clause-open : goal.give_back-requires-clause-open
give_back-requires-clause-open c =
    let place : ℕ → Place = place_in (place_of c.in_ok-first.first ∷ place_of c.in_ok-second.second ∷ []) in
    let base : List Open = live_in c.in_ok-world.world in
    let both : HasOpen place base c.acquire-two.new.self c.acquire-two.new.world = c.acquire-two.ensures.open place base refl (c.acquire-one.ensures.open place base refl (none_open place c.in_ok-scope.scope c.in_ok-world.world c.in_ok-scope.ensures.held)) in
    let same : c.match-two.scope ≡ c.acquire-two.new.self = elim c.match-two.branch [ in-Ok w ↦ w.scope-is ∙ w.leave.ensures | in_default w ↦ w.scope-is ] in
    (place, base, same_open place base c.acquire-two.new.self c.match-two.scope c.acquire-two.new.world c.acquire-two.new.world same refl both)

pub finish-finished-requires : goal.finish-finished-requires
finish-finished-requires c =
    let place : ℕ → Place = place_in (place_of c.in_ok-first.first ∷ place_of c.in_ok-second.second ∷ []) in
    let base : List Open = live_in c.in_ok-world.world in
    let both : HasOpen place base c.acquire-two.new.self c.acquire-two.new.world = c.acquire-two.ensures.open place base refl (c.acquire-one.ensures.open place base refl (none_open place c.in_ok-scope.scope c.in_ok-world.world c.in_ok-scope.ensures.held)) in
    let same : c.match-two.scope ≡ c.acquire-two.new.self = elim c.match-two.branch [ in-Ok w ↦ w.scope-is ∙ w.leave.ensures | in_default w ↦ w.scope-is ] in
    let here : HasOpen place base c.match-two.scope c.acquire-two.new.world = same_open place base c.acquire-two.new.self c.match-two.scope c.acquire-two.new.world c.acquire-two.new.world same refl both in
    let end : HasOpen place base c.match-one.scope c.match-one.world = elim c.match-one.branch [
      | in-Ok-one w ↦ same_open place base w.give_back.new.scope c.match-one.scope w.give_back.new.world c.match-one.world w.scope-is w.world-is (w.give_back.ensures place base here)
      | in_default-one w ↦ same_open place base c.match-two.scope c.match-one.scope c.acquire-two.new.world c.match-one.world w.scope-is w.world-is here
    ] in
    record { «open» = (place, base, end) }
