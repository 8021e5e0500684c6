-- What is said of forms and of trees, against their meanings.
use Rattle.std.proofs.Common.{◌≡◌, ℕ, ◌+◌, false, ◌&&◌, ◌||◌, not, nat_lt, List, [], ◌∷◌, ◌++◌, length, map, Option, Some, None, refl, ap, sym, ◌∙◌, subst, arith}
use Rattle.std.specs.List.{fold}
use Rattle.std.proofs.lemmas.List.{append-nil, length-append}
use Rattle.cd_elem.specs.Limits.{piece_limit}
use Rattle.cd_elem.specs.declared.script.Pipe.{Pipe, map-Pipe}
use Rattle.cd_elem.specs.declared.script.Pipe.TheOpen.{Pipe-F}
use Rattle.cd_elem.specs.declared.script.Pipe.TheViews.{roll-Pipe}
use Rattle.cd_elem.specs.declared.script.Pipe.TheFolds.{fold-roll-Pipe, ind-Pipe}
use Rattle.cd_meaning.specs.Meaning.{Meaning, exactly_form, exactly_e_form, line_e_form, mark_form, tee_form, zip_source_form, zip_sink_form, zip_conduit_form}
use Rattle.cd_meaning.specs.Places.{Place, Marks}
use Rattle.cd_meaning.specs.Pipes.{node_meaning, pipe_meaning}
use Rattle.cd_meaning.specs.Sorts.{join as join_sorts}
use Rattle.cd_meaning.specs.Stream as stream
use Rattle.cd_types.specs.declared.refusal.RefusalKind.{RefusalKind}
use Rattle.cd_types.specs.declared.refusal.RefusalKind.TheVariants.{KindMismatch, SeesChunks, NeedsElements, BoundTooLarge, OpenEnd}
use Rattle.cd_types.specs.Conditions.{Fails, none_fails, fails_where}
use Rattle.cd_types.specs.Flows.{Flow, PartType, bound_of, sort_in, is_nothing, is_cut, is_pieces, agree, piece_bound}
use Rattle.cd_types.specs.Forms.{form_of_one, form_of_two, input_fails, none_asked, section_type, element_section, piece_section, mark_type, mark_part, tee_type, tee_fails, tee_part, zip_source_fails, zip_source_second_fails, zip_sink_fails, zipped, zip_source_type, zip_sink_type, zip_conduit_type, zip_source_part, zip_sink_part, zip_conduit_part}
use Rattle.cd_types.specs.Moments.{Moment, Reached, reach, begin_part, ask, end_part, AllPass}
use Rattle.cd_types.specs.Parts.{Part}
use Rattle.cd_types.specs.Trees.{part, part_step}
use Rattle.cd_types.proofs.Passing.{left_false, own_passes, split}
use Rattle.cd_types.proofs.PartFacts.{Facts, AllFacts, word_facts, sequence_facts, chain_facts, sorts_joined}
use Rattle.cd_types.proofs.Sums.{site_list, sites_in, adds_in, sites_append, adds_append, bounds_append}
use Rattle.cd_types.proofs.WordFacts.{keeps_sort}

-- ---- forms of one part

module _ (type : Flow → PartType) (conditions : Flow → Fails) (site : Option Place) (asked : PartType → Fails) (a : Part) (m : Meaning) (o : Facts a m) where
  abbrev one : Part
  one = form_of_one type conditions site asked a

  one_places : (s n : ℕ) (f : Flow) → sites_in (one.moments s n f) ≡ site_list site ++ m.places
  one_places s n f = ap (λ l. site_list site ++ l) (sites_append (a.moments s (n + 1) f) _ ∙ append-nil _ ∙ o.places s (n + 1) f)

  one_bounds : (s n : ℕ) (f : Flow) → adds_in (one.moments s n f) ≡ bound_of (one.types f)
  one_bounds s n f =
      let e = adds_append (a.moments s (n + 1) f) (ask s (n + 1) (asked (a.type f)) ∷ end_part s n (type f).bound ∷ []) in
      let b = o.bounds s (n + 1) f in
      omega arith

  one_size : (f : Flow) → length (one.types f) ≡ one.size
  one_size f = let e = o.size f in omega arith

  one_gives : (r : Reached) (s n : ℕ) (f : Flow) → AllPass r (one.moments s n f) → m.gives (sort_in f) ≡ sort_in (a.type f).to
  one_gives r s n f h = o.gives _ s (n + 1) f (split (reach r (begin_part s n (conditions f) site)) (a.moments s (n + 1) f) _ h.1).0

exactly_facts : (k : ℕ) (a : Part) (m : Meaning) → Facts a m → Facts (piece_section a) (exactly_form k m)
exactly_facts k a m o = record {
  places = one_places (section_type a) (input_fails SeesChunks is_cut) None none_asked a m o;
  bounds = one_bounds (section_type a) (input_fails SeesChunks is_cut) None none_asked a m o;
  size = one_size (section_type a) (input_fails SeesChunks is_cut) None none_asked a m o;
  first = λ f. refl;
  gives = one_gives (section_type a) (input_fails SeesChunks is_cut) None none_asked a m o;
}

exactly_e_facts : (k : ℕ) (a : Part) (m : Meaning) → Facts a m → Facts (element_section a) (exactly_e_form k m)
exactly_e_facts k a m o = record {
  places = one_places (section_type a) (input_fails NeedsElements is_pieces) None none_asked a m o;
  bounds = one_bounds (section_type a) (input_fails NeedsElements is_pieces) None none_asked a m o;
  size = one_size (section_type a) (input_fails NeedsElements is_pieces) None none_asked a m o;
  first = λ f. refl;
  gives = one_gives (section_type a) (input_fails NeedsElements is_pieces) None none_asked a m o;
}

line_e_facts : (a : Part) (m : Meaning) → Facts a m → Facts (element_section a) (line_e_form m)
line_e_facts a m o = record {
  places = one_places (section_type a) (input_fails NeedsElements is_pieces) None none_asked a m o;
  bounds = one_bounds (section_type a) (input_fails NeedsElements is_pieces) None none_asked a m o;
  size = one_size (section_type a) (input_fails NeedsElements is_pieces) None none_asked a m o;
  first = λ f. refl;
  gives = one_gives (section_type a) (input_fails NeedsElements is_pieces) None none_asked a m o;
}

mark_facts : (name : List ℕ) (a : Part) (m : Meaning) → Facts a m → Facts (mark_part name a) (mark_form name m)
mark_facts name a m o = record {
  places = one_places (mark_type a) (λ f. none_fails) (Some (Marks name)) none_asked a m o;
  bounds = one_bounds (mark_type a) (λ f. none_fails) (Some (Marks name)) none_asked a m o;
  size = one_size (mark_type a) (λ f. none_fails) (Some (Marks name)) none_asked a m o;
  first = λ f. refl;
  gives = one_gives (mark_type a) (λ f. none_fails) (Some (Marks name)) none_asked a m o;
}

tee_facts : (a : Part) (m : Meaning) → Facts a m → Facts (tee_part a) (tee_form m)
tee_facts a m o = record {
  places = one_places tee_type (input_fails SeesChunks is_cut) None tee_fails a m o;
  bounds = one_bounds tee_type (input_fails SeesChunks is_cut) None tee_fails a m o;
  size = one_size tee_type (input_fails SeesChunks is_cut) None tee_fails a m o;
  first = λ f. refl;
  gives = λ r s n f h. refl;
}

-- ---- forms of two parts

module _ (type : Flow → PartType) (input : Flow → Flow) (conditions : Flow → Fails) (first : PartType → Fails) (second : PartType → PartType → Fails) (whole : Flow → Fails)
    (a b : Part) (m k : Meaning) (o : Facts a m) (u : Facts b k) where
  abbrev two : Part
  two = form_of_two type input conditions first second whole a b

  abbrev first_moment : ℕ → ℕ → Flow → Moment
  first_moment s n f = ask s (n + 1) (first (a.type (input f)))

  abbrev second_moment : ℕ → ℕ → Flow → Moment
  second_moment s n f = ask s (n + 1 + a.size) (second (a.type (input f)) (b.type (input f)))

  abbrev left_moments : ℕ → ℕ → Flow → List Moment
  left_moments s n f = a.moments s (n + 1) (input f)

  abbrev right_moments : ℕ → ℕ → Flow → List Moment
  right_moments s n f = b.moments s (n + 1 + a.size) (input f)

  abbrev end_moments : ℕ → ℕ → Flow → List Moment
  end_moments s n f = second_moment s n f ∷ ask s n (whole f) ∷ end_part s n (type f).bound ∷ []

  two_places : (s n : ℕ) (f : Flow) → sites_in (two.moments s n f) ≡ m.places ++ k.places
  two_places s n f =
      sites_append (left_moments s n f ++ first_moment s n f ∷ right_moments s n f) (end_moments s n f) ∙ append-nil _
      ∙ sites_append (left_moments s n f) (first_moment s n f ∷ right_moments s n f)
      ∙ ap (λ l. l ++ sites_in (right_moments s n f)) (o.places s (n + 1) (input f))
      ∙ ap (λ l. m.places ++ l) (u.places s (n + 1 + a.size) (input f))

  two_bounds : (s n : ℕ) (f : Flow) → adds_in (two.moments s n f) ≡ bound_of (two.types f)
  two_bounds s n f =
      let e = adds_append (left_moments s n f ++ first_moment s n f ∷ right_moments s n f) (end_moments s n f) in
      let g = adds_append (left_moments s n f) (first_moment s n f ∷ right_moments s n f) in
      let c = o.bounds s (n + 1) (input f) in
      let d = u.bounds s (n + 1 + a.size) (input f) in
      let i = bounds_append (a.types (input f)) (b.types (input f)) in
      omega arith

  two_size : (f : Flow) → length (two.types f) ≡ two.size
  two_size f =
      let e = length-append (a.types (input f)) (b.types (input f)) in
      let c = o.size (input f) in
      let d = u.size (input f) in
      omega arith

  -- what is known of the two where nothing fails
  record Passed (f : Flow) : Type 0 where
    left : m.gives (sort_in (input f)) ≡ sort_in (a.type (input f)).to
    right : k.gives (sort_in (input f)) ≡ sort_in (b.type (input f)).to
    first_asked : (c : RefusalKind) → first (a.type (input f)) c ≡ false
    second_asked : (c : RefusalKind) → second (a.type (input f)) (b.type (input f)) c ≡ false

  two_passed : (r : Reached) (s n : ℕ) (f : Flow) → AllPass r (two.moments s n f) → Passed f
  two_passed r s n f h =
      let p = split (reach r (ask s n (conditions f))) (left_moments s n f ++ first_moment s n f ∷ right_moments s n f) (end_moments s n f) h.1 in
      let q = split (reach r (ask s n (conditions f))) (left_moments s n f) (first_moment s n f ∷ right_moments s n f) p.0 in
      record {
        left = o.gives _ s (n + 1) (input f) q.0;
        right = u.gives _ s (n + 1 + a.size) (input f) q.1.1;
        first_asked = own_passes (fold reach (reach r (ask s n (conditions f))) (left_moments s n f)) (first_moment s n f) q.1.0;
        second_asked = own_passes (fold reach (reach r (ask s n (conditions f))) (left_moments s n f ++ first_moment s n f ∷ right_moments s n f)) (second_moment s n f) p.1.0;
      }

-- of a flow that is something, the join is its sort
some_joined : (g : Flow) (x : stream.Flow) → is_nothing g ≡ false → join_sorts (sort_in g) x ≡ sort_in g
some_joined None x e = let f : ⊥ = cc in absurd f
some_joined (Some g) x e = refl

nothing_given : (g : Flow) → not (is_nothing g) ≡ false → sort_in g ≡ None
nothing_given None e = refl
nothing_given (Some g) e = let f : ⊥ = cc in absurd f

module _ (a b : Part) (m k : Meaning) (o : Facts a m) (u : Facts b k) where
  zip_source_facts : (literal : List ℕ) → Facts (zip_source_part a b literal) (zip_source_form literal m k)
  zip_source_facts literal = record {
    places = two_places (zip_source_type a b literal) (λ f. None) (λ f. none_fails) zip_source_fails zip_source_second_fails
        (λ f. fails_where BoundTooLarge (nat_lt piece_limit (piece_bound (zipped a b literal)))) a b m k o u;
    bounds = two_bounds (zip_source_type a b literal) (λ f. None) (λ f. none_fails) zip_source_fails zip_source_second_fails
        (λ f. fails_where BoundTooLarge (nat_lt piece_limit (piece_bound (zipped a b literal)))) a b m k o u;
    size = two_size (zip_source_type a b literal) (λ f. None) (λ f. none_fails) zip_source_fails zip_source_second_fails
        (λ f. fails_where BoundTooLarge (nat_lt piece_limit (piece_bound (zipped a b literal)))) a b m k o u;
    first = λ f. refl;
    gives = λ r s n f h.
        let p = two_passed (zip_source_type a b literal) (λ f. None) (λ f. none_fails) zip_source_fails zip_source_second_fails
        (λ f. fails_where BoundTooLarge (nat_lt piece_limit (piece_bound (zipped a b literal)))) a b m k o u r s n f h
        in
        ap (λ x. join_sorts x (k.gives None)) p.left ∙ some_joined (a.type None).to (k.gives None) (left_false _ _ (p.first_asked OpenEnd))
        ∙ keeps_sort (a.type None).to _;
  }

  zip_sink_facts : Facts (zip_sink_part a b) (zip_sink_form m k)
  zip_sink_facts = record {
    places = two_places (zip_sink_type a b) (λ f. f) (λ f. fails_where OpenEnd (is_nothing f)) zip_sink_fails (λ t u. zip_sink_fails u)
        (λ f. fails_where SeesChunks (is_cut f && (a.shows_cuts || b.shows_cuts || (a.has_site && b.has_site)))) a b m k o u;
    bounds = two_bounds (zip_sink_type a b) (λ f. f) (λ f. fails_where OpenEnd (is_nothing f)) zip_sink_fails (λ t u. zip_sink_fails u)
        (λ f. fails_where SeesChunks (is_cut f && (a.shows_cuts || b.shows_cuts || (a.has_site && b.has_site)))) a b m k o u;
    size = two_size (zip_sink_type a b) (λ f. f) (λ f. fails_where OpenEnd (is_nothing f)) zip_sink_fails (λ t u. zip_sink_fails u)
        (λ f. fails_where SeesChunks (is_cut f && (a.shows_cuts || b.shows_cuts || (a.has_site && b.has_site)))) a b m k o u;
    first = λ f. refl;
    gives = λ r s n f h.
        let p = two_passed (zip_sink_type a b) (λ f. f) (λ f. fails_where OpenEnd (is_nothing f)) zip_sink_fails (λ t u. zip_sink_fails u)
        (λ f. fails_where SeesChunks (is_cut f && (a.shows_cuts || b.shows_cuts || (a.has_site && b.has_site)))) a b m k o u r s n f h
        in
        ap (λ x. join_sorts x (k.gives (sort_in f))) (p.left ∙ nothing_given (a.type f).to (p.first_asked KindMismatch))
        ∙ p.right ∙ nothing_given (b.type f).to (p.second_asked KindMismatch);
  }

  zip_conduit_facts : Facts (zip_conduit_part a b) (zip_conduit_form m k)
  zip_conduit_facts = record {
    places = two_places (zip_conduit_type a b) (λ f. f) (input_fails SeesChunks is_cut) none_asked (λ t u. fails_where KindMismatch (not (agree t.to u.to))) (λ f. none_fails) a b m k o u;
    bounds = two_bounds (zip_conduit_type a b) (λ f. f) (input_fails SeesChunks is_cut) none_asked (λ t u. fails_where KindMismatch (not (agree t.to u.to))) (λ f. none_fails) a b m k o u;
    size = two_size (zip_conduit_type a b) (λ f. f) (input_fails SeesChunks is_cut) none_asked (λ t u. fails_where KindMismatch (not (agree t.to u.to))) (λ f. none_fails) a b m k o u;
    first = λ f. refl;
    gives = λ r s n f h.
        let p = two_passed (zip_conduit_type a b) (λ f. f) (input_fails SeesChunks is_cut) none_asked (λ t u. fails_where KindMismatch (not (agree t.to u.to))) (λ f. none_fails) a b m k o u
        r s n f h
        in
        ap (λ x. join_sorts x (k.gives (sort_in f))) p.left ∙ ap (λ x. join_sorts (sort_in (a.type f).to) x) p.right ∙ sym (sorts_joined (a.type f).to (b.type f).to);
  }

-- ---- trees

abbrev P : Pipe → Type 0
P p = Facts (part p) (pipe_meaning p)

abbrev Each : Type 0
Each = (p : Pipe) × P p

abbrev first_of : Each → Pipe
first_of e = e.0

parts_facts : (parts : List Each) → AllFacts (map part (map first_of parts)) (map pipe_meaning (map first_of parts))
parts_facts [] = tt
parts_facts (e ∷ parts) = (e.1, parts_facts parts)

at_node : (x : Pipe-F Pipe) → Facts (part_step (map-Pipe Pipe Part part x)) (node_meaning (map-Pipe Pipe Meaning pipe_meaning x)) → P (roll-Pipe x)
unfolding part
at_node x o =
    subst (λ (a : Part). Facts a (pipe_meaning (roll-Pipe x))) (sym (fold-roll-Pipe Part part_step x))
    (subst (λ (m : Meaning). Facts (part_step (map-Pipe Pipe Part part x)) m) (sym (fold-roll-Pipe Meaning node_meaning x)) o)

each : (y : Pipe-F Each) → P (roll-Pipe (map-Pipe Each Pipe first_of y))
each (Pipe-F.Word w) = at_node (Pipe-F.Word w) (word_facts w)
each (Pipe-F.Chain j parts) = at_node (Pipe-F.Chain j (map first_of parts)) (chain_facts j _ _ (parts_facts parts))
each (Pipe-F.Sequence parts) = at_node (Pipe-F.Sequence (map first_of parts)) (sequence_facts _ _ (parts_facts parts))
each (Pipe-F.Exactly k a) = at_node (Pipe-F.Exactly k a.0) (exactly_facts k _ _ a.1)
each (Pipe-F.ExactlyE k a) = at_node (Pipe-F.ExactlyE k a.0) (exactly_e_facts k _ _ a.1)
each (Pipe-F.LineE a) = at_node (Pipe-F.LineE a.0) (line_e_facts _ _ a.1)
each (Pipe-F.Mark name a) = at_node (Pipe-F.Mark name a.0) (mark_facts name _ _ a.1)
each (Pipe-F.Tee a) = at_node (Pipe-F.Tee a.0) (tee_facts _ _ a.1)
each (Pipe-F.ZipSource a b literal) = at_node (Pipe-F.ZipSource a.0 b.0 literal) (zip_source_facts _ _ _ _ a.1 b.1 literal)
each (Pipe-F.ZipSink a b) = at_node (Pipe-F.ZipSink a.0 b.0) (zip_sink_facts _ _ _ _ a.1 b.1)
each (Pipe-F.ZipConduit a b) = at_node (Pipe-F.ZipConduit a.0 b.0) (zip_conduit_facts _ _ _ _ a.1 b.1)

pub pipe_facts : (p : Pipe) → Facts (part p) (pipe_meaning p)
pipe_facts = ind-Pipe P (λ x y is. subst (λ z. P (roll-Pipe z)) is (each y))
