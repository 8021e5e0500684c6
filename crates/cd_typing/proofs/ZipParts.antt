-- `zipSource`, `zipSink` and `zipConduit` as forms of two parts.
use Rattle.std.proofs.Common.{ℕ, ◌+◌, not, nat_lt, List, [], ◌∷◌, length, None, refl}
use Rattle.std.specs.Prelude.{Result}
use Rattle.cd_elem.specs.Limits.{piece_limit}
use Rattle.cd_types.specs.declared.refusal.RefusalKind.TheVariants.{KindMismatch, BoundTooLarge}
use Rattle.cd_types.specs.Conditions.{none_fails, fails_where}
use Rattle.cd_types.specs.Flows.{piece_bound, agree}
use Rattle.cd_types.specs.Forms.{zip_source_part, zip_source_type, zip_source_second_fails, zipped, zip_sink_part, zip_sink_type, zip_sink_fails, zip_conduit_part, zip_conduit_type}
use Rattle.cd_types.specs.Moments.{ask, end_part}
use Rattle.cd_types.specs.Parts.{Part}
use Rattle.cd_part_types.specs.declared.part_type.PartType.{PartType}
use Rattle.cd_typing.specs.declared.forms.TwoForm.{TwoForm}
use Rattle.cd_typing.specs.declared.refusal.CheckRefusal.{CheckRefusal}
use Rattle.cd_typing.specs.declared.walk.Walk.{Walk}
use Rattle.cd_typing.specs.PartForms.{first_moments, FirstTypes, sink_whole}
use Rattle.cd_typing.specs.Spots.{Stops}
use Rattle.cd_typing.specs.Walking.{spot, Start, start, moments_of, Answers, NextTypes, EndAnswers}
use Rattle.cd_typing.proofs.BothParts.{two-first-stops, two-second-stops, two-answers}

module _ (a b : Part) (literal : List ℕ) (p : Start) where
  pub source-first : (x : CheckRefusal) → Stops p.from (first_moments TwoForm.Source a p) x → Stops p.from (moments_of (zip_source_part a b literal) p) x
  source-first x h = two-first-stops TwoForm.Source (zip_source_type a b literal) (zip_source_second_fails) (λ f. fails_where BoundTooLarge (nat_lt piece_limit (piece_bound (zipped a b literal)))) a b p x h

  module _ (mid : Walk) (t : PartType) (w : FirstTypes TwoForm.Source a p mid t) where
    pub source-second : (x : CheckRefusal) → Stops (spot mid) (b.moments p.statement (length mid.parts.items + 1) None) x → Stops p.from (moments_of (zip_source_part a b literal) p) x
    source-second x h = two-second-stops TwoForm.Source (zip_source_type a b literal) (zip_source_second_fails) (λ f. fails_where BoundTooLarge (nat_lt piece_limit (piece_bound (zipped a b literal)))) a b p mid t w x h

    pub source-answers : (last : Walk) (number : ℕ) (u : PartType) → NextTypes b (start p.statement (length mid.parts.items + 1) None mid) last number u → (new : Walk) (o : Result PartType CheckRefusal)
        → EndAnswers (zip_source_type a b literal p.flow) (ask p.statement number (zip_source_second_fails (a.type None) (b.type None)) ∷ ask p.statement p.part (fails_where BoundTooLarge (nat_lt piece_limit (piece_bound (zipped a b literal)))) ∷ end_part p.statement p.part (zip_source_type a b literal p.flow).bound ∷ []) last new o
        → Answers (zip_source_part a b literal) p new o
    source-answers last number u next new o h = two-answers TwoForm.Source (zip_source_type a b literal) (zip_source_second_fails) (λ f. fails_where BoundTooLarge (nat_lt piece_limit (piece_bound (zipped a b literal)))) a b p mid t w last number u next (zip_source_type a b literal p.flow).bound refl new o h

module _ (a b : Part) (p : Start) where
  pub sink-first : (x : CheckRefusal) → Stops p.from (first_moments TwoForm.Sink a p) x → Stops p.from (moments_of (zip_sink_part a b) p) x
  sink-first x h = two-first-stops TwoForm.Sink (zip_sink_type a b) (λ t u. zip_sink_fails u) (λ f. sink_whole a b f) a b p x h

  module _ (mid : Walk) (t : PartType) (w : FirstTypes TwoForm.Sink a p mid t) where
    pub sink-second : (x : CheckRefusal) → Stops (spot mid) (b.moments p.statement (length mid.parts.items + 1) p.flow) x → Stops p.from (moments_of (zip_sink_part a b) p) x
    sink-second x h = two-second-stops TwoForm.Sink (zip_sink_type a b) (λ t u. zip_sink_fails u) (λ f. sink_whole a b f) a b p mid t w x h

    pub sink-answers : (last : Walk) (number : ℕ) (u : PartType) → NextTypes b (start p.statement (length mid.parts.items + 1) p.flow mid) last number u → (new : Walk) (o : Result PartType CheckRefusal)
        → EndAnswers (zip_sink_type a b p.flow) (ask p.statement number (zip_sink_fails (b.type p.flow)) ∷ ask p.statement p.part (sink_whole a b p.flow) ∷ end_part p.statement p.part 0 ∷ []) last new o
        → Answers (zip_sink_part a b) p new o
    sink-answers last number u next new o h = two-answers TwoForm.Sink (zip_sink_type a b) (λ t u. zip_sink_fails u) (λ f. sink_whole a b f) a b p mid t w last number u next 0 refl new o h

module _ (a b : Part) (p : Start) where
  pub conduit-first : (x : CheckRefusal) → Stops p.from (first_moments TwoForm.Conduit a p) x → Stops p.from (moments_of (zip_conduit_part a b) p) x
  conduit-first x h = two-first-stops TwoForm.Conduit (zip_conduit_type a b) (λ t u. fails_where KindMismatch (not (agree t.to u.to))) (λ f. none_fails) a b p x h

  module _ (mid : Walk) (t : PartType) (w : FirstTypes TwoForm.Conduit a p mid t) where
    pub conduit-second : (x : CheckRefusal) → Stops (spot mid) (b.moments p.statement (length mid.parts.items + 1) p.flow) x → Stops p.from (moments_of (zip_conduit_part a b) p) x
    conduit-second x h = two-second-stops TwoForm.Conduit (zip_conduit_type a b) (λ t u. fails_where KindMismatch (not (agree t.to u.to))) (λ f. none_fails) a b p mid t w x h

    pub conduit-answers : (last : Walk) (number : ℕ) (u : PartType) → NextTypes b (start p.statement (length mid.parts.items + 1) p.flow mid) last number u → (new : Walk) (o : Result PartType CheckRefusal)
        → EndAnswers (zip_conduit_type a b p.flow) (ask p.statement number (fails_where KindMismatch (not (agree (a.type p.flow).to (b.type p.flow).to))) ∷ ask p.statement p.part (none_fails) ∷ end_part p.statement p.part 0 ∷ []) last new o
        → Answers (zip_conduit_part a b) p new o
    conduit-answers last number u next new o h = two-answers TwoForm.Conduit (zip_conduit_type a b) (λ t u. fails_where KindMismatch (not (agree t.to u.to))) (λ f. none_fails) a b p mid t w last number u next 0 refl new o h
