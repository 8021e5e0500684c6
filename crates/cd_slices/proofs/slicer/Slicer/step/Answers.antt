use Rattle.std.proofs.Common.{◌≡◌, ◌+◌, ◌++◌, inl, inr, length, take, refl, ap₂, sym, arith, length-append}
use Rattle.std.proofs.lemmas.List.{length-take-le}
use Rattle.cd_slices.specs.Slicing.{sieved}
use Rattle.cd_slices.specs.Stages.{cut_rule, stands}
use Rattle.cd_slices.proofs.SliceReads.{reads_piece, room_after, silent_slices}
use Rattle.cd_slices.proofs.slicer.Slicer.step.Goals as goal

pub returns-in-Rest-clause-law : goal.returns-in-Rest-clause-law
returns-in-Rest-clause-law c =
    let e = c.args.self.now in
    let n = c.in-Rest.ensures e.open (sym c.len.ensures) in
    (refl, refl, (c.requires.ready, silent_slices (cut_rule e.rule) (stands e.tail) c.requires.ready (e.fresh, e.open) (e.fresh, e.open ++ c.args.bytes.now) _ n.0, n.1))

pub returns-in_ok-piece-in-Piece-clause-law : goal.returns-in_ok-piece-in-Piece-clause-law
returns-in_ok-piece-in-Piece-clause-law c =
    let e = c.args.self.now in
    let xs = c.args.bytes.now in
    let n = c.in-Piece.ensures e.open (sym c.len.ensures) in
    let f = c.piece.new.self in
    let done = c.in_ok-piece-in-Piece.ensures in (
      n.0,
      n.1,
      reads_piece e (record f { fresh = c.in-Piece.fresh }) (take c.in-Piece.used xs) c.args.out.now c.piece.new.out (e.open ++ take c.in-Piece.len xs) c.in-Piece.fresh c.requires.ready n.4 done.gives
          (ap₂ (λ l t. ((c.in-Piece.fresh, l), t)) done.open done.after),
    )

pub returns-in_ok-piece-in-Piece-clause-room : goal.returns-in_ok-piece-in-Piece-clause-room
returns-in_ok-piece-in-Piece-clause-room c =
    let e = c.args.self.now in
    let xs = c.args.bytes.now in
    let len = c.in-Piece.len in
    let n = c.in-Piece.ensures e.open (sym c.len.ensures) in
    let p = e.open ++ take len xs in
    let used = n.1 in
    let within = n.2 in
    let most = n.3 in
    let a = length-append e.open (take len xs) in
    let b = length-take-le len xs (omega (arith, used, within)) in
    let k : length p ≡ length e.open + len = omega (arith, a, b) in
    let done = c.in_ok-piece-in-Piece.ensures in
    let room = c.if-is_full.ensures.room refl in
    room_after e.tail.end c.piece.new.self.tail.end (sieved e.tail.sieves.items p) c.args.out.now p c.piece.new.out e.rule.most done.same c.requires.room c.requires.open.2 (omega (arith, k, most))
    (elim room [ inl z ↦ inl z | inr z ↦ inr (omega (arith, k, z)) ]) done.gives
