use Rattle.std.proofs.Common.{List, ◌++◌, take, get_or, slice_set, ◌-◌, refl, ap, ◌∙◌, subst, arith, length-take}
use Rattle.std.specs.Prelude.{Contains, IsTrue}
use Rattle.cd_meaning.specs.Places.{Place, Reads}
use Rattle.cd_world.specs.declared.event.Event.{Event}
use Rattle.cd_step.specs.Parts.{Chunk}
use Rattle.cd_scope.specs.Uses.{ReadsAt}
use Rattle.cd_scope.specs.Calls.{held_at}
use Rattle.cd_run.specs.Going.{outside}
use Rattle.cd_run.proofs.Steps.{refused}
use Rattle.cd_run.specs.Statements.{within, left_run}
use Rattle.cd_run.proofs.FileReads.{give_filed, end_filed, some_left}
use Rattle.cd_run.proofs.ReadSteps.{given, ended, broke, passed, read_refused, lists_end, lists_some}
use Rattle.cd_run.proofs.WriteSteps.{count_failed, count_none, count_ok, live_as}
use Rattle.cd_run.proofs.Slices.{front_back, set_here, set_other, set_length}
use Rattle.cd_run.proofs.read.read_site.Goals as goal

pub returns-in_default-clause-told : goal.returns-in_default-clause-told
returns-in_default-clause-told g c = λ tells s base t q same size o open_at at stops m k w0 go. refused s m t (within (left_run q) k) w0 (outside (g.W.World.log c.args.world.now) (g.W.World.files c.args.world.now)) (outside (g.W.World.log c.args.world.now) (g.W.World.files c.args.world.now)) go refl

pub returns-then-count-eq0-clause-told : goal.returns-then-count-eq0-clause-told
returns-then-count-eq0-clause-told g c = λ tells s base t q same size o open_at at stops m k w0 go.
    ended s m k w0 (outside (g.W.World.log c.args.world.now) (g.W.World.files c.args.world.now)) (outside (g.W.World.log c.read.new.self) (g.W.World.files c.read.new.self)) c.args.site c.args.from q at stops open_at c.requires.within c.requires.more go (slice_set c.args.left.now c.args.site.0 0)
    (c.in-Ok-read.ensures.log tells ∙ ap (λ (l : List Event). g.W.World.log c.args.world.now ++ l) (lists_end _ _ c.in-Ok-read.count c.if-count-eq0.true))
    (set_here c.args.left.now c.args.site.0 0 c.requires.within) (λ x e. set_other c.args.left.now c.args.site.0 x 0 e) (set_length c.args.left.now c.args.site.0 0)
    (λ ft old. end_filed go.calls c.args.site.0 c.args.from s t w0.files (g.W.World.files c.args.world.now) (g.W.World.files c.read.new.self) old c.in-Ok-read.count c.read.new.into c.if-count-eq0.true (s.place c.args.site.0) refl open_at
    (λ name is. c.in-Ok-read.ensures.file (subst IsTrue same ft) name (live_as s.place base (g.W.World.live c.args.world.now) t o c.args.site.0 c.args.from (Reads name) is (subst (λ (p : Place). ReadsAt p c.args.from.0 (Contains t (held_at c.args.site.0 c.args.from))) is open_at)))
    (c.in-Ok-read.ensures.input (subst IsTrue same ft)))

pub returns-then-more-eq1-clause-told : goal.returns-then-more-eq1-clause-told
returns-then-more-eq1-clause-told g c = λ tells s base t q same size o open_at at stops m k w0 go.
    passed s m k w0 (outside (g.W.World.log c.args.world.now) (g.W.World.files c.args.world.now)) (outside (g.W.World.log c.read.new.self) (g.W.World.files c.read.new.self)) c.args.site c.args.from q at stops open_at c.requires.within c.requires.more go (take c.in-Ok-read.count c.read.new.into) (omega (arith, c.in-Ok-read.ensures.within, c.if-count-eq0.false, c.read.auto.into, c.deref_mut.ensures.len, c.in-Ok.ensures, length-take c.in-Ok-read.count c.read.new.into, c.room.ensures.last c.if-more-eq1.true)) c.if-more-eq1.true
    (c.in-Ok-read.ensures.log tells ∙ ap (λ (l : List Event). g.W.World.log c.args.world.now ++ l) (lists_some _ _ c.in-Ok-read.count c.if-count-eq0.false))
    (λ ft. some_left go.calls c.args.site.0 c.args.from (take c.in-Ok-read.count c.read.new.into) s t w0.files (g.W.World.files c.args.world.now) (g.W.World.files c.read.new.self) (go.filed ft) c.in-Ok-read.count c.read.new.into refl
    (omega (arith, c.in-Ok-read.ensures.within, c.if-count-eq0.false, c.read.auto.into, c.deref_mut.ensures.len, c.in-Ok.ensures, length-take c.in-Ok-read.count c.read.new.into)) (s.place c.args.site.0) refl open_at
    (λ name is. c.in-Ok-read.ensures.file (subst IsTrue same ft) name (live_as s.place base (g.W.World.live c.args.world.now) t o c.args.site.0 c.args.from (Reads name) is (subst (λ (p : Place). ReadsAt p c.args.from.0 (Contains t (held_at c.args.site.0 c.args.from))) is open_at)))
    (c.in-Ok-read.ensures.input (subst IsTrue same ft)))

pub returns-in-Ok-read-clause-told : goal.returns-in-Ok-read-clause-told
returns-in-Ok-read-clause-told g c = λ tells s base t q same size o open_at at stops m k w0 go.
    given s m k w0 (outside (g.W.World.log c.args.world.now) (g.W.World.files c.args.world.now)) (outside (g.W.World.log c.read.new.self) (g.W.World.files c.read.new.self)) c.args.site c.args.from q at stops open_at c.requires.within c.requires.more go (slice_set c.args.left.now c.args.site.0 (get_or c.args.left.now c.args.site.0 0 - c.in-Ok-read.count)) c.bytes_of.result (take c.in-Ok-read.count c.read.new.into)
    (ap (λ (x : Chunk). x.1) c.bytes_of.ensures ∙ c.from_vec.ensures ∙ c.given-items.ensures ∙ front_back c.in-Ok-read.count c.in-Ok.list.len c.read.new.into _ c.in-Ok-read.ensures.within (omega (arith, c.read.auto.into, c.deref_mut.ensures.len, c.in-Ok-read.ensures.within)))
    (c.in-Ok-read.ensures.log tells ∙ ap (λ (l : List Event). g.W.World.log c.args.world.now ++ l) (lists_some _ _ c.in-Ok-read.count c.if-count-eq0.false))
    (omega (arith, c.in-Ok-read.ensures.within, c.if-count-eq0.false, c.read.auto.into, c.deref_mut.ensures.len, c.in-Ok.ensures, length-take c.in-Ok-read.count c.read.new.into)) (omega (arith, c.in-Ok-read.ensures.within, c.if-count-eq0.false, c.read.auto.into, c.deref_mut.ensures.len, c.in-Ok.ensures, length-take c.in-Ok-read.count c.read.new.into, size, c.room.ensures.some.1))
    (omega (arith, c.in-Ok-read.ensures.within, c.if-count-eq0.false, c.read.auto.into, c.deref_mut.ensures.len, c.in-Ok.ensures, length-take c.in-Ok-read.count c.read.new.into, (let first = c.requires.more in let other = c.if-more-eq1.false in c.room.ensures.within (omega (arith, first, other))), set_here c.args.left.now c.args.site.0 (get_or c.args.left.now c.args.site.0 0 - c.in-Ok-read.count) c.requires.within))
    (omega (arith, c.in-Ok-read.ensures.within, c.if-count-eq0.false, c.read.auto.into, c.deref_mut.ensures.len, c.in-Ok.ensures, length-take c.in-Ok-read.count c.read.new.into, (let first = c.requires.more in let other = c.if-more-eq1.false in c.room.ensures.within (omega (arith, first, other))), set_here c.args.left.now c.args.site.0 (get_or c.args.left.now c.args.site.0 0 - c.in-Ok-read.count) c.requires.within)) (λ x e. set_other c.args.left.now c.args.site.0 x _ e) (set_length c.args.left.now c.args.site.0 _)
    (λ ft few old. give_filed go.calls c.args.site.0 c.args.from (take c.in-Ok-read.count c.read.new.into) s t w0.files (g.W.World.files c.args.world.now) (g.W.World.files c.read.new.self) old c.in-Ok-read.count c.read.new.into refl c.in-Ok-read.ensures.within few (s.place c.args.site.0) refl open_at
    (λ name is. c.in-Ok-read.ensures.file (subst IsTrue same ft) name (live_as s.place base (g.W.World.live c.args.world.now) t o c.args.site.0 c.args.from (Reads name) is (subst (λ (p : Place). ReadsAt p c.args.from.0 (Contains t (held_at c.args.site.0 c.args.from))) is open_at)))
    (c.in-Ok-read.ensures.input (subst IsTrue same ft)))

pub returns-in-Err-Failed-clause-told : goal.returns-in-Err-Failed-clause-told
returns-in-Err-Failed-clause-told g c = λ tells s base t q same size o open_at at stops m k w0 go.
    broke s m k w0 (outside (g.W.World.log c.args.world.now) (g.W.World.files c.args.world.now)) (outside (g.W.World.log c.read.new.self) (g.W.World.files c.read.new.self)) c.args.site c.args.from q at stops open_at c.requires.within c.requires.more go c.read.new.into c.in-Err-Failed.field-0 c.in-Err-Failed.field-0-is (c.in-Err-Failed.ensures.log tells)

pub returns-clause-told : goal.returns-clause-told
returns-clause-told g c = λ tells s base t q same size o open_at at stops m k w0 go.
    read_refused s m k w0 (outside (g.W.World.log c.args.world.now) (g.W.World.files c.args.world.now)) (outside (g.W.World.log c.read.new.self) (g.W.World.files c.read.new.self)) c.args.site c.args.from q at stops open_at c.requires.within c.requires.more go c.read.new.into c.in-Err-NoMemory.field-0 c.in-Err-NoMemory.field-0-is (c.in-Err-NoMemory.ensures.log tells)

pub returns-then-count-eq0-clause-cause : goal.returns-then-count-eq0-clause-cause
returns-then-count-eq0-clause-cause g c = count_ok _ _ c.in-Ok-read.count c.in-Ok-read.ensures.count

pub returns-then-more-eq1-clause-cause : goal.returns-then-more-eq1-clause-cause
returns-then-more-eq1-clause-cause g c = count_ok _ _ c.in-Ok-read.count c.in-Ok-read.ensures.count

pub returns-in-Ok-read-clause-cause : goal.returns-in-Ok-read-clause-cause
returns-in-Ok-read-clause-cause g c = count_ok _ _ c.in-Ok-read.count c.in-Ok-read.ensures.count

pub returns-in-Err-Failed-clause-cause : goal.returns-in-Err-Failed-clause-cause
returns-in-Err-Failed-clause-cause g c = count_failed _ _ c.in-Err-Failed.field-0 c.in-Err-Failed.field-0-is c.in-Err-Failed.ensures.count

pub returns-clause-cause : goal.returns-clause-cause
returns-clause-cause g c = count_none _ _ c.in-Err-NoMemory.field-0 c.in-Err-NoMemory.field-0-is c.in-Err-NoMemory.ensures.count
