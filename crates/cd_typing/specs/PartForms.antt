-- The forms of one part and of two, by what they share.
use Rattle.std.specs.Prelude.{◌≡◌, ◌+◌, ◌&&◌, ◌||◌, List, [], ◌∷◌, ◌++◌, length, None, Result, Ok, Err}
use Rattle.cd_types.specs.declared.refusal.RefusalKind.TheVariants.{NeedsElements, SeesChunks, OpenEnd}
use Rattle.cd_types.specs.Flows.{Flow, PartType as PartTypeOf, is_nothing, is_cut, is_pieces}
use Rattle.cd_types.specs.Conditions.{Fails, none_fails, fails_where}
use Rattle.cd_types.specs.Moments.{Moment, ask}
use Rattle.cd_types.specs.Parts.{Part}
use Rattle.cd_types.specs.Forms.{none_asked, input_fails, section_type, mark_type, tee_type, tee_fails, zip_source_fails, zip_sink_fails}
use Rattle.cd_part_types.specs.declared.part_type.PartType.{PartType}
use Rattle.cd_part_types.specs.Types.{type_of}
use Rattle.cd_typing.specs.declared.forms.OneForm.{OneForm}
use Rattle.cd_typing.specs.declared.forms.TwoForm.{TwoForm}
use Rattle.cd_typing.specs.declared.refusal.CheckRefusal.{CheckRefusal}
use Rattle.cd_typing.specs.declared.walk.Walk.{Walk}
use Rattle.cd_typing.specs.Spots.{Passes, Stops}
use Rattle.cd_typing.specs.Walking.{Start, spot, types_of}

-- ---- of one part: its type, what it asks of its input, and of its part

abbrev pub one_type : OneForm → Part → Flow → PartTypeOf
one_type OneForm.Elements a = section_type a
one_type OneForm.Pieces a = section_type a
one_type OneForm.Mark a = mark_type a
one_type OneForm.Tee a = tee_type

abbrev pub one_conditions : OneForm → Flow → Fails
one_conditions OneForm.Elements = input_fails NeedsElements is_pieces
one_conditions OneForm.Pieces = input_fails SeesChunks is_cut
one_conditions OneForm.Mark = λ f. none_fails
one_conditions OneForm.Tee = input_fails SeesChunks is_cut

abbrev pub one_asked : OneForm → PartTypeOf → Fails
one_asked OneForm.Elements = none_asked
one_asked OneForm.Pieces = none_asked
one_asked OneForm.Mark = none_asked
one_asked OneForm.Tee = tee_fails

-- ---- of two parts: what comes to them, what it asks of its input, and of its first part

abbrev pub two_input : TwoForm → Flow → Flow
two_input TwoForm.Source = λ f. None
two_input TwoForm.Sink = λ f. f
two_input TwoForm.Conduit = λ f. f

abbrev pub two_conditions : TwoForm → Flow → Fails
two_conditions TwoForm.Source = λ f. none_fails
two_conditions TwoForm.Sink = λ f. fails_where OpenEnd (is_nothing f)
two_conditions TwoForm.Conduit = input_fails SeesChunks is_cut

abbrev pub two_first : TwoForm → PartTypeOf → Fails
two_first TwoForm.Source = zip_source_fails
two_first TwoForm.Sink = zip_sink_fails
two_first TwoForm.Conduit = none_asked

-- the moments up to what is asked of the first part
abbrev pub first_moments : TwoForm → Part → Start → List Moment
first_moments form a p =
    ask p.statement p.part (two_conditions form p.flow)
    ∷ a.moments p.statement (p.part + 1) (two_input form p.flow) ++ ask p.statement (p.part + 1) (two_first form (a.type (two_input form p.flow))) ∷ []

-- the first part of such a form has its type
pub record FirstTypes (form : TwoForm) (a : Part) (p : Start) (new : Walk) (t : PartType) : Type 0 where
  pub typed : type_of t ≡ a.type (two_input form p.flow)
  pub passed : Passes p.from (first_moments form a p) (spot new)
  pub types : types_of new ≡ p.types ++ a.types (two_input form p.flow)
  pub counted : length new.parts.items + 1 ≡ p.part + 1 + a.size

abbrev pub FirstAnswers : TwoForm → Part → Start → Walk → Result PartType CheckRefusal → Type 0
FirstAnswers form a p new (Ok t) = FirstTypes form a p new t
FirstAnswers form a p new (Err x) = Stops p.from (first_moments form a p) x

-- what `zipSink` asks of both parts
abbrev pub sink_whole : Part → Part → Flow → Fails
sink_whole a b f = fails_where SeesChunks (is_cut f && (a.shows_cuts || b.shows_cuts || (a.has_site && b.has_site)))
