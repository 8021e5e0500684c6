-- Forms: sections, marks, `tee` and the zips.
use Rattle.std.specs.Prelude.{ℕ, ◌+◌, Bool, true, false, ◌&&◌, ◌||◌, not, nat_lt, List, [], ◌∷◌, ◌++◌, Option, Some, None, is_some}
use Rattle.cd_elem.specs.Limits.{piece_limit}
use Rattle.cd_meaning.specs.Places.{Place, Marks}
use Rattle.cd_types.specs.declared.refusal.RefusalKind.{RefusalKind}
use Rattle.cd_types.specs.declared.refusal.RefusalKind.TheVariants.{KindMismatch, SeesChunks, NeedsElements, BoundTooLarge, ResultLost, OpenEnd}
use Rattle.cd_types.specs.Flows.{Flow, Unit, PartType, is_nothing, is_cut, is_pieces, piece_bound, with_bound, agree, join, is_unit, both_results}
use Rattle.cd_types.specs.Conditions.{Fails, none_fails, fails_where, or_fails}
use Rattle.cd_types.specs.Moments.{begin_part, ask, end_part}
use Rattle.cd_types.specs.Parts.{Part}
use Rattle.cd_types.specs.WordTypes.{length_in}

-- a form of one part, which it types for its own input
abbrev pub form_of_one : (Flow → PartType) → (Flow → Fails) → Option Place → (PartType → Fails) → Part → Part
form_of_one type conditions site asked a = record {
  size = 1 + a.size;
  invertible = false;
  shows_cuts = a.shows_cuts;
  has_site = is_some site || a.has_site;
  type = type;
  types = λ f. type f ∷ a.types f;
  moments = λ s n f. begin_part s n (conditions f) site ∷ a.moments s (n + 1) f ++ ask s (n + 1) (asked (a.type f)) ∷ end_part s n (type f).bound ∷ [];
}

abbrev pub none_asked : PartType → Fails
none_asked t = none_fails

-- 11 on nothing, and this on such an input
abbrev pub input_fails : RefusalKind → (Flow → Bool) → Flow → Fails
input_fails kind wrong f = or_fails (fails_where OpenEnd (is_nothing f)) (fails_where kind (wrong f))

abbrev pub section_type : Part → Flow → PartType
section_type a f = record { from = f; to = (a.type f).to; result = (a.type f).result; exact = true; idle = false; bound = 0 }

abbrev pub element_section : Part → Part
element_section a = form_of_one (section_type a) (input_fails NeedsElements is_pieces) None none_asked a

abbrev pub piece_section : Part → Part
piece_section a = form_of_one (section_type a) (input_fails SeesChunks is_cut) None none_asked a

abbrev pub mark_type : Part → Flow → PartType
mark_type a f = record { from = f; to = (a.type f).to; result = (a.type f).result; exact = (a.type f).exact; idle = (a.type f).idle; bound = 0 }

abbrev pub mark_part : List ℕ → Part → Part
mark_part name a = form_of_one (mark_type a) (λ f. none_fails) (Some (Marks name)) none_asked a

abbrev pub tee_type : Flow → PartType
tee_type f = record { from = f; to = f; result = Unit; exact = true; idle = false; bound = 0 }

-- its part gives nothing and has no result
abbrev pub tee_fails : PartType → Fails
tee_fails t = or_fails (fails_where KindMismatch (not (is_nothing t.to))) (fails_where ResultLost (not (is_unit t.result)))

abbrev pub tee_part : Part → Part
tee_part a = form_of_one tee_type (input_fails SeesChunks is_cut) None tee_fails a

-- A form of two parts, which it types for this input of its own: what is asked where it begins, behind the first, behind the second, and at its end.
abbrev pub form_of_two : (Flow → PartType) → (Flow → Flow) → (Flow → Fails) → (PartType → Fails) → (PartType → PartType → Fails) → (Flow → Fails) → Part → Part → Part
form_of_two type input conditions first second whole a b = record {
  size = 1 + a.size + b.size;
  invertible = false;
  shows_cuts = a.shows_cuts || b.shows_cuts;
  has_site = a.has_site || b.has_site;
  type = type;
  types = λ f. type f ∷ a.types (input f) ++ b.types (input f);
  moments = λ s n f. ask s n (conditions f)
      ∷ a.moments s (n + 1) (input f) ++ ask s (n + 1) (first (a.type (input f)))
      ∷ b.moments s (n + 1 + a.size) (input f) ++ ask s (n + 1 + a.size) (second (a.type (input f)) (b.type (input f)))
      ∷ ask s n (whole f) ∷ end_part s n (type f).bound ∷ [];
}

-- `zipSource`: both parts give pieces of nothing
abbrev pub zip_source_fails : PartType → Fails
zip_source_fails t = or_fails (fails_where SeesChunks (is_cut t.to)) (or_fails (fails_where OpenEnd (is_nothing t.to)) (fails_where ResultLost (not (is_unit t.result))))

abbrev pub zip_source_second_fails : PartType → PartType → Fails
zip_source_second_fails t u = or_fails (zip_source_fails u) (fails_where KindMismatch (is_pieces u.to && not (agree t.to u.to)))

abbrev pub zipped : Part → Part → List ℕ → Flow
zipped a b literal =
    let f = (a.type None).to in
    with_bound f (piece_bound f + piece_bound (b.type None).to + length_in f literal)

abbrev pub zip_source_type : Part → Part → List ℕ → Flow → PartType
zip_source_type a b literal f = record { from = f; to = zipped a b literal; result = Unit; exact = true; idle = true; bound = piece_bound (a.type None).to + 1 }

abbrev pub zip_source_part : Part → Part → List ℕ → Part
zip_source_part a b literal =
    form_of_two (zip_source_type a b literal) (λ f. None) (λ f. none_fails) zip_source_fails zip_source_second_fails
    (λ f. fails_where BoundTooLarge (nat_lt piece_limit (piece_bound (zipped a b literal)))) a b

-- `zipSink`: both parts take all
abbrev pub zip_sink_fails : PartType → Fails
zip_sink_fails t = fails_where KindMismatch (not (is_nothing t.to))

abbrev pub zip_sink_type : Part → Part → Flow → PartType
zip_sink_type a b f = record { from = f; to = None; result = both_results (a.type f).result (b.type f).result; exact = is_pieces f; idle = false; bound = 0 }

abbrev pub zip_sink_part : Part → Part → Part
zip_sink_part a b =
    form_of_two (zip_sink_type a b) (λ f. f) (λ f. fails_where OpenEnd (is_nothing f)) zip_sink_fails (λ t u. zip_sink_fails u)
    (λ f. fails_where SeesChunks (is_cut f && (a.shows_cuts || b.shows_cuts || (a.has_site && b.has_site)))) a b

-- `zipConduit`: both parts give what agrees
abbrev pub zip_conduit_type : Part → Part → Flow → PartType
zip_conduit_type a b f = record {
  from = f;
  to = join (a.type f).to (b.type f).to;
  result = both_results (a.type f).result (b.type f).result;
  exact = true;
  idle = false;
  bound = 0;
}

abbrev pub zip_conduit_part : Part → Part → Part
zip_conduit_part a b =
    form_of_two (zip_conduit_type a b) (λ f. f) (input_fails SeesChunks is_cut) none_asked (λ t u. fails_where KindMismatch (not (agree t.to u.to))) (λ f. none_fails) a b
