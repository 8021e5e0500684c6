use Rattle.std.proofs.Common.{◌+◌, ◌==◌, map, drop, None, Some, refl, ap, sym, ◌∙◌, subst, length}
use Rattle.cd_meaning.specs.Places.{Marks}
use Rattle.cd_types.specs.Conditions.{none_fails, lowest}
use Rattle.cd_part_types.specs.Types.{type_of}
use Rattle.cd_types.specs.Forms.{none_asked, mark_part, mark_type, piece_section, element_section, tee_part, zip_source_part, zip_sink_part, zip_conduit_part}
use Rattle.cd_types.specs.Chains.{chain_part}
use Rattle.cd_types.specs.Sequences.{sequence_part}
use Rattle.cd_types.specs.Rows.Trees.{word_is, chain_is, sequence_is, exactly_is, exactly_e_is, line_e_is, mark_is, tee_is, zip_source_is, zip_sink_is, zip_conduit_is}
use Rattle.cd_types.specs.Trees.{part}
use Rattle.cd_typing.specs.declared.forms.TwoForm.{TwoForm}
use Rattle.cd_typing.specs.PartForms.{one_type, one_conditions, one_asked, two_conditions, sink_whole, FirstTypes, FirstAnswers}
use Rattle.cd_typing.specs.Spots.{Stops}
use Rattle.cd_typing.specs.Walking.{spot, start, start_at, types_of, Start, NextTypes}
use Rattle.cd_typing.proofs.ChainSteps as chain
use Rattle.cd_typing.proofs.PartSteps as steps
use Rattle.cd_typing.proofs.SequenceSteps as sequence
use Rattle.cd_typing.proofs.TwoParts as two
use Rattle.cd_typing.proofs.ZipParts as zips
use Rattle.cd_typing.proofs.walk.Walk.+typing.Goals as goal

-- ---- the next part

pub type_next-returns-in_err-part : goal.type_next-returns-in_err-part
type_next-returns-in_err-part t c = steps.next-memory (part c.args.pipe.now) _ _ c.from_residual.result c.from_residual.ensures.1

pub type_next-returns-in_err-typed : goal.type_next-returns-in_err-typed
type_next-returns-in_err-typed t c =
    steps.next-err (part c.args.pipe.now) _ _ c.from_residual-in_err-typed.result c.in_err-typed.field-0.0 c.from_residual-in_err-typed.ensures.1
    (steps.next-stops (part c.args.pipe.now) c.args.statement c.args.flow c.args.self.now c.next_part.new.self c.in_ok-part.part _ c.in_ok-part.ensures.number c.next_part.ensures.spot
    c.in_err-typed.ensures)

pub type_next-returns-in_err-place : goal.type_next-returns-in_err-place
type_next-returns-in_err-place t c = steps.next-memory (part c.args.pipe.now) _ _ c.from_residual-in_err-place.result c.from_residual-in_err-place.ensures.1

pub type_next-returns : goal.type_next-returns
type_next-returns t c =
    steps.next-typed (part c.args.pipe.now) c.args.statement c.args.flow c.args.self.now c.next_part.new.self c.type_pipe.new.self c.place.new.self c.in_ok-part.part c.in_ok-place.field-0.0
    c.in_ok-typed.typed c.in_ok-place.field-0.1 c.in_ok-part.ensures.number c.in_ok-part.ensures.types c.next_part.ensures.spot c.in_ok-typed.ensures c.in_ok-place.ensures.written
    c.in_ok-place.ensures.count c.place.ensures.spot (ap (λ next. next.0) c.in_ok-place.ensures.given) (ap (λ next. next.1) c.in_ok-place.ensures.given)

-- ---- forms of one part

pub type_inside-returns-in_err-number : goal.type_inside-returns-in_err-number
type_inside-returns-in_err-number t c = λ conditions site from b.
    let a = part c.args.inner.now in
    let p : Start = record { statement = c.args.statement; part = c.args.part; flow = c.args.flow; from = from; types = types_of c.args.self.now } in
    steps.answers-err _ p _ c.from_residual.result c.in_err-number.field-0.0 c.from_residual.ensures.1
    (steps.one-inside (one_type c.args.form a) conditions site (one_asked c.args.form) a p c.args.self.now _ b c.requires c.in_err-number.ensures)

pub type_inside-returns : goal.type_inside-returns
type_inside-returns t c = λ conditions site from b.
    let a = part c.args.inner.now in
    let p : Start = record { statement = c.args.statement; part = c.args.part; flow = c.args.flow; from = from; types = types_of c.args.self.now } in
    steps.one-answers (one_type c.args.form a) conditions site (one_asked c.args.form) a p c.args.self.now c.type_next.new.self c.in_ok-number.number c.in_ok-number.inside b c.requires
    (steps.no-bound c.args.form a c.args.flow) c.in_ok-number.ensures refl c.end_one.new.self c.end_one.result (c.end_one.ensures a c.in_ok-number.ensures.typed)

pub type_one-returns-in_err-ask : goal.type_one-returns-in_err-ask
type_one-returns-in_err-ask t c =
    let a = part c.args.inner.now in
    let p = start c.args.statement c.args.part c.args.flow c.args.self.now in
    steps.answers-err _ p _ c.from_residual.result c.in_err-ask.field-0.0 c.from_residual.ensures.1
    (steps.one-begins (one_type c.args.form a) (one_conditions c.args.form) None (one_asked c.args.form) a p _
    (c.in_err-ask.ensures.moves (one_conditions c.args.form c.args.flow) (spot c.args.self.now) c.refused_at_one.ensures))

pub type_one-returns : goal.type_one-returns
type_one-returns t c =
    c.type_inside.ensures (one_conditions c.args.form) None (spot c.args.self.now)
    (c.in_ok-ask.ensures.moves (one_conditions c.args.form c.args.flow) (spot c.args.self.now) c.refused_at_one.ensures)

pub type_mark-returns-in_err-begin_mark : goal.type_mark-returns-in_err-begin_mark
type_mark-returns-in_err-begin_mark t c =
    let a = part c.args.inner.now in
    let p = start c.args.statement c.args.part c.args.flow c.args.self.now in
    steps.answers-err (mark_part c.args.name.now a) p _ c.from_residual.result c.in_err-begin_mark.field-0.0 c.from_residual.ensures.1
    (steps.one-begins (mark_type a) (λ f. none_fails) (Some (Marks c.args.name.now)) none_asked a p _
    (steps.unmarked-stops (spot c.args.self.now) c.args.statement c.args.part c.args.name.now _ c.in_err-begin_mark.ensures.moves))

pub type_mark-returns : goal.type_mark-returns
type_mark-returns t c =
    steps.same-table (mark_part c.args.name.now (part c.args.inner.now)) c.args.statement c.args.part c.args.flow (spot c.args.self.now) c.args.self.now c.begin_mark.new.self c.type_inside.new.self
    c.type_inside.result c.begin_mark.ensures.parts
    (c.type_inside.ensures (λ f. none_fails) (Some (Marks c.args.name.now)) (spot c.args.self.now)
    (steps.unmarked (spot c.args.self.now) (spot c.begin_mark.new.self) c.args.statement c.args.part c.args.name.now c.in_ok-begin_mark.ensures.moves))

-- ---- a part by its form

pub type_pipe-returns-in-Word : goal.type_pipe-returns-in-Word
type_pipe-returns-in-Word t c =
    steps.as-part _ _ (start c.args.statement c.args.part c.args.flow c.args.self.now) _ c.type_word.result (ap part c.in-Word.is ∙ word_is c.in-Word.word) c.type_word.ensures

pub type_pipe-returns-in-Exactly : goal.type_pipe-returns-in-Exactly
type_pipe-returns-in-Exactly t c =
    steps.as-part _ (piece_section (part c.get.result.now)) (start c.args.statement c.args.part c.args.flow c.args.self.now) _ c.type_one.result
    (ap part c.in-Exactly.is ∙ exactly_is c.in-Exactly.field-0 c.in-Exactly.inner ∙ ap (λ p. piece_section (part p)) (sym c.get.ensures)) c.type_one.ensures

pub type_pipe-returns-in-ExactlyE : goal.type_pipe-returns-in-ExactlyE
type_pipe-returns-in-ExactlyE t c =
    steps.as-part _ (element_section (part c.get-in-ExactlyE.result.now)) (start c.args.statement c.args.part c.args.flow c.args.self.now) _ c.type_one-in-ExactlyE.result
    (ap part c.in-ExactlyE.is ∙ exactly_e_is c.in-ExactlyE.field-0 c.in-ExactlyE.inner ∙ ap (λ p. element_section (part p)) (sym c.get-in-ExactlyE.ensures)) c.type_one-in-ExactlyE.ensures

pub type_pipe-returns-in-LineE : goal.type_pipe-returns-in-LineE
type_pipe-returns-in-LineE t c =
    steps.as-part _ (element_section (part c.get-in-LineE.result.now)) (start c.args.statement c.args.part c.args.flow c.args.self.now) _ c.type_one-in-LineE.result
    (ap part c.in-LineE.is ∙ line_e_is c.in-LineE.inner ∙ ap (λ p. element_section (part p)) (sym c.get-in-LineE.ensures)) c.type_one-in-LineE.ensures

pub type_pipe-returns-in-Tee : goal.type_pipe-returns-in-Tee
type_pipe-returns-in-Tee t c =
    steps.as-part _ (tee_part (part c.get-in-Tee.result.now)) (start c.args.statement c.args.part c.args.flow c.args.self.now) _ c.type_one-in-Tee.result
    (ap part c.in-Tee.is ∙ tee_is c.in-Tee.inner ∙ ap (λ p. tee_part (part p)) (sym c.get-in-Tee.ensures)) c.type_one-in-Tee.ensures

pub type_pipe-returns-in-Mark : goal.type_pipe-returns-in-Mark
type_pipe-returns-in-Mark t c =
    steps.as-part _ (mark_part c.in-Mark.name (part c.get-in-Mark.result.now)) (start c.args.statement c.args.part c.args.flow c.args.self.now) _ c.type_mark.result
    (ap part c.in-Mark.is ∙ mark_is c.in-Mark.name c.in-Mark.inner ∙ ap (λ p. mark_part c.in-Mark.name (part p)) (sym c.get-in-Mark.ensures)) c.type_mark.ensures

pub type_pipe-returns-in-Sequence : goal.type_pipe-returns-in-Sequence
type_pipe-returns-in-Sequence t c =
    steps.as-part _ (sequence_part (map part c.as_slice.result.now)) (start c.args.statement c.args.part c.args.flow c.args.self.now) _ c.type_sequence.result
    (ap part c.in-Sequence.is ∙ sequence_is c.in-Sequence.pipes ∙ ap (λ ps. sequence_part (map part ps)) (sym c.as_slice.ensures)) c.type_sequence.ensures

pub type_pipe-returns-in-Chain : goal.type_pipe-returns-in-Chain
type_pipe-returns-in-Chain t c =
    steps.as-part _ (chain_part c.in-Chain.operator (map part c.as_slice-in-Chain.result.now)) (start c.args.statement c.args.part c.args.flow c.args.self.now) _ c.type_chain.result
    (ap part c.in-Chain.is ∙ chain_is c.in-Chain.operator c.in-Chain.pipes ∙ ap (λ ps. chain_part c.in-Chain.operator (map part ps)) (sym c.as_slice-in-Chain.ensures)) c.type_chain.ensures

pub type_pipe-returns-in-ZipSource : goal.type_pipe-returns-in-ZipSource
type_pipe-returns-in-ZipSource t c =
    let p = start c.args.statement c.args.part c.args.flow c.args.self.now in
    let a = part c.get-in-ZipSource.result.now in
    let b = part c.get-in-ZipSource-2.result.now in
    steps.as-part _ (zip_source_part a b c.in-ZipSource.between) p _ c.type_zip_source.result
    (ap part c.in-ZipSource.is ∙ zip_source_is c.in-ZipSource.first c.in-ZipSource.second c.in-ZipSource.between ∙ ap (λ q. zip_source_part (part q) (part c.in-ZipSource.second) c.in-ZipSource.between) (sym c.get-in-ZipSource.ensures)
    ∙ ap (λ q. zip_source_part a (part q) c.in-ZipSource.between) (sym c.get-in-ZipSource-2.ensures))
    (c.type_zip_source.ensures a (spot c.args.self.now) (types_of c.args.self.now) c.type_first-first.ensures)

pub type_pipe-returns-in-ZipSink : goal.type_pipe-returns-in-ZipSink
type_pipe-returns-in-ZipSink t c =
    let p = start c.args.statement c.args.part c.args.flow c.args.self.now in
    let a = part c.get-in-ZipSink-3.result.now in
    let b = part c.get-in-ZipSink-4.result.now in
    steps.as-part _ (zip_sink_part a b) p _ c.type_zip_sink.result
    (ap part c.in-ZipSink.is ∙ zip_sink_is c.in-ZipSink.first c.in-ZipSink.second ∙ ap (λ q. zip_sink_part (part q) (part c.in-ZipSink.second)) (sym c.get-in-ZipSink-3.ensures)
    ∙ ap (λ q. zip_sink_part a (part q)) (sym c.get-in-ZipSink-4.ensures))
    (c.type_zip_sink.ensures a (spot c.args.self.now) (types_of c.args.self.now) c.type_first-first-in-ZipSink.ensures
    (c.refused_by_cuts-whole.ensures ∙ ap (λ q. lowest (sink_whole (part q) (part c.get-in-ZipSink-2.result.now) c.args.flow)) (c.get-in-ZipSink.ensures ∙ sym c.get-in-ZipSink-3.ensures)
    ∙ ap (λ q. lowest (sink_whole a (part q) c.args.flow)) (c.get-in-ZipSink-2.ensures ∙ sym c.get-in-ZipSink-4.ensures)))

pub type_pipe-returns-in-ZipConduit : goal.type_pipe-returns-in-ZipConduit
type_pipe-returns-in-ZipConduit t c =
    let p = start c.args.statement c.args.part c.args.flow c.args.self.now in
    let a = part c.get-in-ZipConduit.result.now in
    let b = part c.get-in-ZipConduit-2.result.now in
    steps.as-part _ (zip_conduit_part a b) p _ c.type_zip_conduit.result
    (ap part c.in-ZipConduit.is ∙ zip_conduit_is c.in-ZipConduit.first c.in-ZipConduit.second ∙ ap (λ q. zip_conduit_part (part q) (part c.in-ZipConduit.second)) (sym c.get-in-ZipConduit.ensures)
    ∙ ap (λ q. zip_conduit_part a (part q)) (sym c.get-in-ZipConduit-2.ensures))
    (c.type_zip_conduit.ensures a (spot c.args.self.now) (types_of c.args.self.now) c.type_first-first-in-ZipConduit.ensures)

-- ---- forms of two parts

pub type_first-returns-in_err-ask : goal.type_first-returns-in_err-ask
type_first-returns-in_err-ask t c =
    let p = start c.args.statement c.args.part c.args.flow c.args.self.now in
    two.first-err c.args.form (part c.args.pipe.now) p _ c.from_residual.result c.in_err-ask.field-0.0 c.from_residual.ensures.1
    (two.first-begins c.args.form (part c.args.pipe.now) p _ (c.in_err-ask.ensures.moves (two_conditions c.args.form c.args.flow) (spot c.args.self.now) c.refused_at_two.ensures))

pub type_first-returns-in_err-number : goal.type_first-returns-in_err-number
type_first-returns-in_err-number t c =
    let p = start c.args.statement c.args.part c.args.flow c.args.self.now in
    let b = c.in_ok-ask.ensures.moves (two_conditions c.args.form c.args.flow) (spot c.args.self.now) c.refused_at_two.ensures in
    two.first-err c.args.form (part c.args.pipe.now) p _ c.from_residual-in_err-number.result c.in_err-number.field-0.0 c.from_residual-in_err-number.ensures.1
    (two.first-inside c.args.form (part c.args.pipe.now) p c.args.self.now b c.requires _
    (subst (λ f. Stops (spot c.args.self.now) ((part c.args.pipe.now).moments c.args.statement (length c.args.self.now.parts.items + 1) f) c.in_err-number.field-0.0) c.input_of_two.ensures c.in_err-number.ensures))

pub type_first-returns : goal.type_first-returns
type_first-returns t c =
    let p = start c.args.statement c.args.part c.args.flow c.args.self.now in
    let b = c.in_ok-ask.ensures.moves (two_conditions c.args.form c.args.flow) (spot c.args.self.now) c.refused_at_two.ensures in
    two.first-answers c.args.form (part c.args.pipe.now) p c.args.self.now b c.requires c.type_next.new.self c.in_ok-number.number c.in_ok-number.typed
    (subst (λ f. NextTypes (part c.args.pipe.now) (start c.args.statement (length c.args.self.now.parts.items + 1) f c.args.self.now) c.type_next.new.self c.in_ok-number.number c.in_ok-number.typed)
    c.input_of_two.ensures c.in_ok-number.ensures)
    refl c.ask_first.result (c.ask_first.ensures.moves (spot c.type_next.new.self)) c.ask_first.ensures.same

pub type_zip_source-returns-in_err-first : goal.type_zip_source-returns-in_err-first
type_zip_source-returns-in_err-first t c = λ a from types w.
    let p = start_at c.args.statement c.args.part c.args.flow from types in
    let b = part c.args.pipe.now in
    steps.answers-err (zip_source_part a b c.args.between.now) p _ c.from_residual.result c.in_err-first.field-0.0 c.from_residual.ensures.1
    (zips.source-first a b c.args.between.now p _ (subst (FirstAnswers TwoForm.Source a p c.args.self.now) c.in_err-first.was w))

pub type_zip_source-returns-in-Ok : goal.type_zip_source-returns-in-Ok
type_zip_source-returns-in-Ok t c = λ a from types w.
    let p = start_at c.args.statement c.args.part c.args.flow from types in
    let b = part c.args.pipe.now in
    let v : FirstTypes TwoForm.Source a p c.args.self.now c.in_ok-first.first = subst (FirstAnswers TwoForm.Source a p c.args.self.now) c.in_ok-first.was w in
    zips.source-answers a b c.args.between.now p c.args.self.now c.in_ok-first.first v c.type_next.new.self c.in-Ok.number c.in-Ok.second c.in-Ok.ensures c.end_zip_source.new.self c.end_zip_source.result
    (c.end_zip_source.ensures a b v.typed c.in-Ok.ensures.typed)

pub type_zip_source-returns-in-Err : goal.type_zip_source-returns-in-Err
type_zip_source-returns-in-Err t c = λ a from types w.
    let p = start_at c.args.statement c.args.part c.args.flow from types in
    let b = part c.args.pipe.now in
    let v : FirstTypes TwoForm.Source a p c.args.self.now c.in_ok-first.first = subst (FirstAnswers TwoForm.Source a p c.args.self.now) c.in_ok-first.was w in
    zips.source-second a b c.args.between.now p c.args.self.now c.in_ok-first.first v c.in-Err.refusal c.in-Err.ensures

pub type_zip_sink-returns-in_err-first : goal.type_zip_sink-returns-in_err-first
type_zip_sink-returns-in_err-first t c = λ a from types w k.
    let p = start_at c.args.statement c.args.part c.args.flow from types in
    let b = part c.args.pipe.now in
    steps.answers-err (zip_sink_part a b) p _ c.from_residual.result c.in_err-first.field-0.0 c.from_residual.ensures.1
    (zips.sink-first a b p _ (subst (FirstAnswers TwoForm.Sink a p c.args.self.now) c.in_err-first.was w))

pub type_zip_sink-returns-in-Ok : goal.type_zip_sink-returns-in-Ok
type_zip_sink-returns-in-Ok t c = λ a from types w k.
    let p = start_at c.args.statement c.args.part c.args.flow from types in
    let b = part c.args.pipe.now in
    let v : FirstTypes TwoForm.Sink a p c.args.self.now c.in_ok-first.first = subst (FirstAnswers TwoForm.Sink a p c.args.self.now) c.in_ok-first.was w in
    zips.sink-answers a b p c.args.self.now c.in_ok-first.first v c.type_next.new.self c.in-Ok.number c.in-Ok.second c.in-Ok.ensures c.end_zip_sink.new.self c.end_zip_sink.result
    (c.end_zip_sink.ensures a b (sink_whole a b c.args.flow) v.typed c.in-Ok.ensures.typed k)

pub type_zip_sink-returns-in-Err : goal.type_zip_sink-returns-in-Err
type_zip_sink-returns-in-Err t c = λ a from types w k.
    let p = start_at c.args.statement c.args.part c.args.flow from types in
    let b = part c.args.pipe.now in
    let v : FirstTypes TwoForm.Sink a p c.args.self.now c.in_ok-first.first = subst (FirstAnswers TwoForm.Sink a p c.args.self.now) c.in_ok-first.was w in
    zips.sink-second a b p c.args.self.now c.in_ok-first.first v c.in-Err.refusal c.in-Err.ensures

pub type_zip_conduit-returns-in_err-first : goal.type_zip_conduit-returns-in_err-first
type_zip_conduit-returns-in_err-first t c = λ a from types w.
    let p = start_at c.args.statement c.args.part c.args.flow from types in
    let b = part c.args.pipe.now in
    steps.answers-err (zip_conduit_part a b) p _ c.from_residual.result c.in_err-first.field-0.0 c.from_residual.ensures.1
    (zips.conduit-first a b p _ (subst (FirstAnswers TwoForm.Conduit a p c.args.self.now) c.in_err-first.was w))

pub type_zip_conduit-returns-in-Ok : goal.type_zip_conduit-returns-in-Ok
type_zip_conduit-returns-in-Ok t c = λ a from types w.
    let p = start_at c.args.statement c.args.part c.args.flow from types in
    let b = part c.args.pipe.now in
    let v : FirstTypes TwoForm.Conduit a p c.args.self.now c.in_ok-first.first = subst (FirstAnswers TwoForm.Conduit a p c.args.self.now) c.in_ok-first.was w in
    zips.conduit-answers a b p c.args.self.now c.in_ok-first.first v c.type_next.new.self c.in-Ok.number c.in-Ok.second c.in-Ok.ensures c.end_zip_conduit.new.self c.end_zip_conduit.result
    (c.end_zip_conduit.ensures a b v.typed c.in-Ok.ensures.typed)

pub type_zip_conduit-returns-in-Err : goal.type_zip_conduit-returns-in-Err
type_zip_conduit-returns-in-Err t c = λ a from types w.
    let p = start_at c.args.statement c.args.part c.args.flow from types in
    let b = part c.args.pipe.now in
    let v : FirstTypes TwoForm.Conduit a p c.args.self.now c.in_ok-first.first = subst (FirstAnswers TwoForm.Conduit a p c.args.self.now) c.in_ok-first.was w in
    zips.conduit-second a b p c.args.self.now c.in_ok-first.first v c.in-Err.refusal c.in-Err.ensures

-- ---- sequences

pub type_sequence-loop-place-init : goal.type_sequence-loop-place-init
type_sequence-loop-place-init t c =
    sequence.begun c.args.statement c.args.part c.args.flow (map part c.args.pipes.now) c.args.self.now c.new-joined.result c.requires c.new-joined.ensures.to c.new-joined.ensures.unit
    c.new-joined.ensures.exact c.new-joined.ensures.idle

pub type_sequence-returns-in_err-number : goal.type_sequence-returns-in_err-number
type_sequence-returns-in_err-number t c =
    let p = start c.args.statement c.args.part c.args.flow c.args.self.now in
    let all = map part c.args.pipes.now in
    let more = map part (drop (c.loop-place.place + 1) c.args.pipes.now) in
    let a = part c.index-pipes-place.result in
    let w = sequence.opened p all c.args.pipes.now c.loop-place.place c.index-pipes-place.result c.loop-place.self c.loop-place.joined c.loop-place-test.true c.index-pipes-place.is c.loop-place.invariant in
    steps.answers-err (sequence_part all) p _ c.from_residual.result c.in_err-number.field-0.0 c.from_residual.ensures.1
    (sequence.part_stops p all more a c.loop-place.self c.loop-place.joined w _ c.in_err-number.ensures)

pub type_sequence-returns-in_err-joined : goal.type_sequence-returns-in_err-joined
type_sequence-returns-in_err-joined t c =
    let p = start c.args.statement c.args.part c.args.flow c.args.self.now in
    let all = map part c.args.pipes.now in
    let more = map part (drop (c.loop-place.place + 1) c.args.pipes.now) in
    let a = part c.index-pipes-place.result in
    let w = sequence.opened p all c.args.pipes.now c.loop-place.place c.index-pipes-place.result c.loop-place.self c.loop-place.joined c.loop-place-test.true c.index-pipes-place.is c.loop-place.invariant in
    let l = sequence.is_last_so c.args.pipes.now c.loop-place.place c.index-pipes-place.result c.loop-place-test.true in
    steps.answers-err (sequence_part all) p _ c.from_residual-in_err-joined.result c.in_err-joined.field-0.0 c.from_residual-in_err-joined.ensures.1
    (sequence.ask_stops p all more a c.loop-place.self c.loop-place.joined w c.type_next.new.self c.in_ok-number.number c.in_ok-number.inside c.in_ok-number.ensures _ l _
    (c.in_err-joined.ensures.moves (spot c.type_next.new.self)))

pub type_sequence-loop-place-preserved : goal.type_sequence-loop-place-preserved
type_sequence-loop-place-preserved t c =
    let p = start c.args.statement c.args.part c.args.flow c.args.self.now in
    let all = map part c.args.pipes.now in
    let more = map part (drop (c.loop-place.place + 1) c.args.pipes.now) in
    let a = part c.index-pipes-place.result in
    let w = sequence.opened p all c.args.pipes.now c.loop-place.place c.index-pipes-place.result c.loop-place.self c.loop-place.joined c.loop-place-test.true c.index-pipes-place.is c.loop-place.invariant in
    let l = sequence.is_last_so c.args.pipes.now c.loop-place.place c.index-pipes-place.result c.loop-place-test.true in
    sequence.walked_on p all more a c.loop-place.self c.loop-place.joined w c.type_next.new.self c.in_ok-number.number c.in_ok-number.inside c.in_ok-number.ensures _ l c.in_ok-joined.joined
    c.in_ok-joined.ensures.joins (c.in_ok-joined.ensures.moves (spot c.type_next.new.self))

pub type_sequence-returns : goal.type_sequence-returns
type_sequence-returns t c =
    let p = start c.args.statement c.args.part c.args.flow c.args.self.now in
    let all = map part c.args.pipes.now in
    let w = sequence.at_end p all c.args.pipes.now c.loop-place.place c.loop-place.self c.loop-place.joined c.loop-place-test.false c.loop-place.invariant in
    sequence.answers p all c.loop-place.self c.loop-place.joined w c.end_sequence.new.self c.end_sequence.result
    (c.end_sequence.ensures all (sequence.is_joined p all c.loop-place.self c.loop-place.joined w) (c.is_empty.ensures ∙ sequence.empty_so c.args.pipes.now))

-- ---- chains

pub type_chain-loop-place-init : goal.type_chain-loop-place-init
type_chain-loop-place-init t c =
    chain.begun c.args.statement c.args.part c.args.operator c.args.flow (map part c.args.pipes.now) c.args.self.now c.new-members.result c.requires c.new-members.ensures

pub type_chain-returns-in_err-number : goal.type_chain-returns-in_err-number
type_chain-returns-in_err-number t c =
    let p = start c.args.statement c.args.part c.args.flow c.args.self.now in
    let all = map part c.args.pipes.now in
    let more = map part (drop (c.loop-place.place + 1) c.args.pipes.now) in
    let a = part c.index-pipes-place.result in
    let w = chain.opened p c.args.operator all c.args.pipes.now c.loop-place.place c.index-pipes-place.result c.loop-place.self (map type_of c.loop-place.members) c.loop-place.to (c.loop-place.place == 0) c.loop-place-test.true c.index-pipes-place.is c.loop-place.invariant in
    steps.answers-err (chain_part c.args.operator all) p _ c.from_residual.result c.in_err-number.field-0.0 c.from_residual.ensures.1
    (chain.part_stops p c.args.operator all more a c.loop-place.self (map type_of c.loop-place.members) c.loop-place.to (c.loop-place.place == 0) w _ c.in_err-number.ensures)

pub type_chain-returns-in_err-put_member : goal.type_chain-returns-in_err-put_member
type_chain-returns-in_err-put_member t c =
    let p = start c.args.statement c.args.part c.args.flow c.args.self.now in
    let all = map part c.args.pipes.now in
    let more = map part (drop (c.loop-place.place + 1) c.args.pipes.now) in
    let a = part c.index-pipes-place.result in
    let w = chain.opened p c.args.operator all c.args.pipes.now c.loop-place.place c.index-pipes-place.result c.loop-place.self (map type_of c.loop-place.members) c.loop-place.to (c.loop-place.place == 0) c.loop-place-test.true c.index-pipes-place.is c.loop-place.invariant in
    let l = sequence.is_last_so c.args.pipes.now c.loop-place.place c.index-pipes-place.result c.loop-place-test.true in
    steps.answers-err (chain_part c.args.operator all) p _ c.from_residual-in_err-put_member.result c.in_err-put_member.field-0.0 c.from_residual-in_err-put_member.ensures.1
    (chain.ask_stops p c.args.operator all more a c.loop-place.self (map type_of c.loop-place.members) c.loop-place.to (c.loop-place.place == 0) w c.type_next.new.self c.in_ok-number.number c.in_ok-number.inside c.in_ok-number.ensures _ l _
    (c.in_err-put_member.ensures.moves _ (spot c.type_next.new.self) c.refused_in_chain-condition.ensures))

pub type_chain-loop-place-preserved : goal.type_chain-loop-place-preserved
type_chain-loop-place-preserved t c =
    let p = start c.args.statement c.args.part c.args.flow c.args.self.now in
    let all = map part c.args.pipes.now in
    let more = map part (drop (c.loop-place.place + 1) c.args.pipes.now) in
    let a = part c.index-pipes-place.result in
    let w = chain.opened p c.args.operator all c.args.pipes.now c.loop-place.place c.index-pipes-place.result c.loop-place.self (map type_of c.loop-place.members) c.loop-place.to (c.loop-place.place == 0) c.loop-place-test.true c.index-pipes-place.is c.loop-place.invariant in
    let l = sequence.is_last_so c.args.pipes.now c.loop-place.place c.index-pipes-place.result c.loop-place-test.true in
    chain.chained_on p c.args.operator all more a c.loop-place.self (map type_of c.loop-place.members) c.loop-place.to (c.loop-place.place == 0) w c.type_next.new.self c.in_ok-number.number c.in_ok-number.inside c.in_ok-number.ensures _ l c.loop-place.members c.put_member.new.members (c.loop-place.place + 1 == 0)
    refl c.in_ok-put_member.ensures.put (chain.not_first c.loop-place.place) (c.in_ok-put_member.ensures.moves _ (spot c.type_next.new.self) c.refused_in_chain-condition.ensures)

pub type_chain-returns : goal.type_chain-returns
type_chain-returns t c =
    let p = start c.args.statement c.args.part c.args.flow c.args.self.now in
    let all = map part c.args.pipes.now in
    let w = chain.at_end p c.args.operator all c.args.pipes.now c.loop-place.place c.loop-place.self (map type_of c.loop-place.members) c.loop-place.to (c.loop-place.place == 0) c.loop-place-test.false c.loop-place.invariant in
    chain.answers p c.args.operator all c.loop-place.self (map type_of c.loop-place.members) c.loop-place.to (c.loop-place.place == 0) w c.end_chain.new.self c.end_chain.result c.end_chain.ensures
