use Rattle.std.proofs.Common.{ap, sym}
use Rattle.cd_scope.specs.declared.table.Held.{Held}
use Rattle.cd_scope.specs.Calls.{held_at}
use Rattle.cd_scope.specs.Table.{open_of}
use Rattle.cd_scope.proofs.TableSteps.{taken, taken_out, closes_open, closes_live, held_live}
use Rattle.cd_scope.proofs.scope.Scope.close.Goals as goal

pub close-requires : goal.close-requires
close-requires g c =
    let t = c.args.self.now.held.items in
    let is = taken t c.deref.result.now c.position_of-place.result c.remove-held.result c.args.site.0 c.args.descriptor c.deref.ensures.value c.remove-held.ensures.value c.position_of-place.ensures.is in
    let out = taken_out t c.deref.result.now c.remove-held.new.self.items c.position_of-place.result c.args.site.0 c.args.descriptor c.deref.ensures.value c.remove-held.ensures.items c.position_of-place.ensures.first in
    record { «open» = closes_live c.requires.open.0 c.requires.open.1 (g.W.World.live c.args.world.now) t c.remove-held.new.self.items c.args.site.0 c.args.descriptor c.remove-held.result is out c.requires.there c.requires.open.2 }

pub returns-in-Ok-clause-open : goal.returns-in-Ok-clause-open
returns-in-Ok-clause-open g c = λ place base o.
    let t = c.args.self.now.held.items in
    let is = taken t c.deref.result.now c.position_of-place.result c.remove-held.result c.args.site.0 c.args.descriptor c.deref.ensures.value c.remove-held.ensures.value c.position_of-place.ensures.is in
    let out = taken_out t c.deref.result.now c.remove-held.new.self.items c.position_of-place.result c.args.site.0 c.args.descriptor c.deref.ensures.value c.remove-held.ensures.items c.position_of-place.ensures.first in
    closes_open place base (g.W.World.live c.args.world.now) t c.remove-held.new.self.items c.args.site.0 c.args.descriptor c.remove-held.result is out c.requires.there o _ c.close.ensures.live

pub returns-in-Err-clause-open : goal.returns-in-Err-clause-open
returns-in-Err-clause-open g c = λ place base o.
    let t = c.args.self.now.held.items in
    let is = taken t c.deref.result.now c.position_of-place.result c.remove-held.result c.args.site.0 c.args.descriptor c.deref.ensures.value c.remove-held.ensures.value c.position_of-place.ensures.is in
    let out = taken_out t c.deref.result.now c.remove-held.new.self.items c.position_of-place.result c.args.site.0 c.args.descriptor c.deref.ensures.value c.remove-held.ensures.items c.position_of-place.ensures.first in
    closes_open place base (g.W.World.live c.args.world.now) t c.remove-held.new.self.items c.args.site.0 c.args.descriptor c.remove-held.result is out c.requires.there o _ c.close.ensures.live

pub returns-in-Ok-clause-files : goal.returns-in-Ok-clause-files
returns-in-Ok-clause-files g c = λ tells place base o.
    let t = c.args.self.now.held.items in
    let is = taken t c.deref.result.now c.position_of-place.result c.remove-held.result c.args.site.0 c.args.descriptor c.deref.ensures.value c.remove-held.ensures.value c.position_of-place.ensures.is in
    c.in-Ok.ensures.files tells (open_of place (held_at c.args.site.0 c.args.descriptor)) (held_live place base (g.W.World.live c.args.world.now) t o (held_at c.args.site.0 c.args.descriptor) c.requires.there) (ap (λ (h : Held). h.descriptor) (sym is))

pub returns-in-Err-clause-files : goal.returns-in-Err-clause-files
returns-in-Err-clause-files g c = λ tells place base o.
    let t = c.args.self.now.held.items in
    let is = taken t c.deref.result.now c.position_of-place.result c.remove-held.result c.args.site.0 c.args.descriptor c.deref.ensures.value c.remove-held.ensures.value c.position_of-place.ensures.is in
    (_, c.in-Err.ensures.files tells (open_of place (held_at c.args.site.0 c.args.descriptor)) (held_live place base (g.W.World.live c.args.world.now) t o (held_at c.args.site.0 c.args.descriptor) c.requires.there) (ap (λ (h : Held). h.descriptor) (sym is)))
