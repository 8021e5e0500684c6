use Rattle.std.proofs.Common.{◌<◌, ◌^◌, subst, arith}
use Rattle.cd_pieces.proofs.StageLaws.{on_err, state_reads}
use Rattle.cd_pieces.proofs.stage.PieceStage.take_in.Goals as goal

pub read-requires-clause-reads : goal.read-requires-clause-reads
read-requires-clause-reads c =
    let e = c.args.self.now in
    state_reads e.takes c.args.piece e.state e.most c.requires.well.pieces c.requires.piece c.requires.well.state c.requires.asks c.requires.well.within (subst (λ n. n < 2 ^ 64) c.room-room.ensures.value c.room-room.ensures.fits)

pub returns-in_err-made-clause-less : goal.returns-in_err-made-clause-less
returns-in_err-made-clause-less c =
    on_err c.from_residual-in_err-made.result _ (
    let less = c.in_err-made.ensures.less in
    let law = c.in_ok-reply.ensures.law c.args.self.now.takes c.requires.piece in
    let more = law.more in
    omega (arith, less, more)
    )
