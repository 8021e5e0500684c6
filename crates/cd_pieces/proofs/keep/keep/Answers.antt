use Rattle.std.proofs.Common.{subst, sym, true, ◌≡◌}
use Rattle.cd_pieces.specs.Stages.{asks_of, Replies}
use Rattle.cd_pieces.specs.declared.reply.PieceReply.TheVariants.{Skip}
use Rattle.cd_pieces.specs.declared.state.Keeping.TheVariants as keep
use Rattle.cd_pieces.specs.declared.state.WordState.TheVariants as state
use Rattle.cd_pieces.proofs.WordLaws.{collect_reply}
use Rattle.cd_pieces.proofs.keep.keep.Goals as goal

pub returns-in_ok-push-in-Collect-clause-law : goal.returns-in_ok-push-in-Collect-clause-law
returns-in_ok-push-in-Collect-clause-law c k i =
    let kept = c.in-Collect.collected in
    let asks = subst (λ w. asks_of (state.Keep w) ≡ true) c.in-Collect.is c.requires.asks in
    subst (λ w. Replies k (state.Keep w) c.args.piece Skip (state.Keep (keep.Collect c.push.new.self))) (sym c.in-Collect.is)
    (subst (λ v. Replies k (state.Keep (keep.Collect kept)) c.args.piece Skip (state.Keep (keep.Collect v))) (sym c.in_ok-push-in-Collect.ensures.ok)
    (collect_reply k c.args.piece kept.0 kept.1 asks c.requires.pieces i))
