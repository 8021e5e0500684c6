-- A script that has a type is lawful.
use Rattle.std.proofs.Common.{◌≡◌, ℕ, ◌+◌, Bool, true, false, ◌&&◌, ◌||◌, not, nat_lt, IsTrue, List, [], ◌∷◌, ◌++◌, map, None, refl, ap, sym, ◌∙◌, subst}
use Rattle.cd_elem.specs.declared.script.Join.{Join}
use Rattle.cd_elem.specs.declared.script.Stmt.{Stmt}
use Rattle.cd_elem.specs.declared.script.Pipe.{Pipe, map-Pipe}
use Rattle.cd_elem.specs.declared.script.Pipe.TheOpen.{Pipe-F}
use Rattle.cd_elem.specs.declared.script.Pipe.TheViews.{roll-Pipe}
use Rattle.cd_elem.specs.declared.script.Pipe.TheFolds.{fold-roll-Pipe, ind-Pipe}
use Rattle.cd_meaning.specs.LawfulTrees.{Lawfulness, all_lawful, all_maps as maps_of, maps_but_last, chain_judged, form_judged, node_judged, judged, IsLawfulTree, OfLawfulTree, IsLawfulScript}
use Rattle.cd_types.specs.Chains.{member_fails, chain_moments, chain_part}
use Rattle.cd_types.specs.Conditions.{Fails, none_fails, fails_where, lowest}
use Rattle.cd_types.specs.Flows.{Flow, PartType, is_cut, is_nothing, agree, piece_bound}
use Rattle.cd_types.specs.Forms.{form_of_two, input_fails, none_asked, zip_sink_fails, zip_source_fails, zip_source_second_fails, zipped, zip_source_type, zip_sink_type, zip_conduit_type}
use Rattle.cd_types.specs.Moments.{Moment, ask, Reached, reach, nothing_reached, AllPass}
use Rattle.cd_types.specs.Parts.{Part, all_invertible}
use Rattle.cd_types.specs.Sequences.{sequence_moments, sequence_part}
use Rattle.cd_types.specs.Statements.{Statement, statement_of, moments_behind, statement_moments}
use Rattle.cd_types.specs.Trees.{part, part_step}
use Rattle.cd_types.specs.Typing.{HasType}
use Rattle.cd_elem.specs.Limits.{piece_limit}
use Rattle.cd_types.specs.declared.refusal.RefusalKind.TheVariants.{KindMismatch, SeesChunks, BoundTooLarge, OpenEnd}
use Rattle.cd_types.proofs.Passing.{split}

-- what is judged of a part that passes
record Fits (a : Part) (j : Lawfulness) : Type 0 where
  maps : a.invertible ≡ j.map
  lawful : (r : Reached) (s n : ℕ) (f : Flow) → AllPass r (a.moments s n f) → IsTrue j.lawful

abbrev FitAll : List Part → List Lawfulness → Type 0
FitAll [] [] = Unit {0}
FitAll [] (j ∷ js) = ⊥
FitAll (a ∷ parts) [] = ⊥
FitAll (a ∷ parts) (j ∷ js) = Fits a j × FitAll parts js

both : (a b : Bool) → IsTrue a → IsTrue b → IsTrue (a && b)
both true b h k = k
both false b h k = let f : ⊥ = cc in absurd f

same_maps : (parts : List Part) (js : List Lawfulness) → FitAll parts js → all_invertible parts ≡ maps_of js
same_maps [] [] o = refl
same_maps [] (j ∷ js) o = absurd o
same_maps (a ∷ parts) [] o = absurd o
same_maps (a ∷ parts) (j ∷ js) o = ap (λ b. b && all_invertible parts) o.0.maps ∙ ap (λ b. j.map && b) (same_maps parts js o.1)

in_sequence : (s n : ℕ) (g f : Flow) (r : Reached) (parts : List Part) (js : List Lawfulness) → FitAll parts js → AllPass r (sequence_moments s n g f parts) → IsTrue (all_lawful js)
in_sequence s n g f r [] [] o h = refl
in_sequence s n g f r [] (j ∷ js) o h = absurd o
in_sequence s n g f r (a ∷ parts) [] o h = absurd o
in_sequence s n g f r (a ∷ parts) (j ∷ js) o h =
    let p = split r (a.moments s n f) _ h in
    both j.lawful (all_lawful js) (o.0.lawful r s n f p.0) (in_sequence s (n + a.size) _ f _ parts js o.1 p.1.1)

in_chain : (s n : ℕ) (j : Join) (first : Bool) (f : Flow) (r : Reached) (parts : List Part) (js : List Lawfulness) → FitAll parts js → AllPass r (chain_moments s n j first f parts)
    → IsTrue (all_lawful js)
in_chain s n j first f r [] [] o h = refl
in_chain s n j first f r [] (k ∷ js) o h = absurd o
in_chain s n j first f r (a ∷ parts) [] o h = absurd o
in_chain s n j first f r (a ∷ parts) (k ∷ js) o h =
    let p = split r (a.moments s n f) _ h in
    both k.lawful (all_lawful js) (o.0.lawful r s n f p.0) (in_chain s (n + a.size) j false (a.type f).to _ parts js o.1 p.1.1)

-- a member of a `|=` that is not the last is a map
is_kept_map : (m : Bool) (t : PartType) (first : Bool) → lowest (member_fails Join.Keep m t first false) ≡ None → m ≡ true
is_kept_map true t first e = refl
is_kept_map false t first e = let f : ⊥ = cc in absurd f

in_kept : (s n : ℕ) (first : Bool) (f : Flow) (r : Reached) (parts : List Part) (js : List Lawfulness) → FitAll parts js → AllPass r (chain_moments s n Join.Keep first f parts)
    → IsTrue (maps_but_last js)
in_kept s n first f r [] [] o h = refl
in_kept s n first f r [] (k ∷ js) o h = absurd o
in_kept s n first f r (a ∷ parts) [] o h = absurd o
in_kept s n first f r (a ∷ []) (k ∷ []) o h = refl
in_kept s n first f r (a ∷ []) (k ∷ l ∷ js) o h = absurd o.1
in_kept s n first f r (a ∷ b ∷ parts) (k ∷ []) o h = absurd o.1
in_kept s n first f r (a ∷ b ∷ parts) (k ∷ l ∷ js) o h =
    let p = split r (a.moments s n f) _ h in
    both k.map (maps_but_last (l ∷ js)) (sym o.0.maps ∙ is_kept_map a.invertible (a.type f) first p.1.0)
    (in_kept s (n + a.size) false (a.type f).to _ (b ∷ parts) (l ∷ js) o.1 p.1.1)

module _ (parts : List Part) (js : List Lawfulness) (o : FitAll parts js) where
  members : (j : Join) (r : Reached) (s n : ℕ) (f : Flow) → AllPass r ((chain_part j parts).moments s n f) → IsTrue (all_lawful js)
  members j r s n f h = in_chain s (n + 1) j true f r parts js o (split r (chain_moments s (n + 1) j true f parts) _ h).0

  chain_fits : (j : Join) → Fits (chain_part j parts) (chain_judged j js)
  chain_fits Join.Plain = record { maps = same_maps parts js o; lawful = members Join.Plain }
  chain_fits Join.Keep = record {
    maps = refl;
    lawful = λ r s n f h.
        both (all_lawful js) (maps_but_last js) (members Join.Keep r s n f h)
        (in_kept s (n + 1) true f r parts js o (split r (chain_moments s (n + 1) Join.Keep true f parts) _ h).0);
  }
  chain_fits Join.Return = record { maps = refl; lawful = members Join.Return }
  chain_fits Join.Both = record { maps = refl; lawful = members Join.Both }
  chain_fits Join.Up = record { maps = refl; lawful = members Join.Up }
  chain_fits Join.Asked = record { maps = refl; lawful = members Join.Asked }

  sequence_fits : Fits (sequence_part parts) (form_judged (all_lawful js))
  sequence_fits = record {
    maps = refl;
    lawful = λ r s n f h. in_sequence s (n + 1) None f r parts js o (split r (sequence_moments s (n + 1) None f parts) _ h).0;
  }

-- ---- trees

abbrev P : Pipe → Type 0
P p = Fits (part p) (judged p)

abbrev Each : Type 0
Each = (p : Pipe) × P p

abbrev first_of : Each → Pipe
first_of e = e.0

parts_fit : (parts : List Each) → FitAll (map part (map first_of parts)) (map judged (map first_of parts))
parts_fit [] = tt
parts_fit (e ∷ parts) = (e.1, parts_fit parts)

at_node : (x : Pipe-F Pipe) → Fits (part_step (map-Pipe Pipe Part part x)) (node_judged (map-Pipe Pipe Lawfulness judged x)) → P (roll-Pipe x)
unfolding part
at_node x o =
    subst (λ (a : Part). Fits a (judged (roll-Pipe x))) (sym (fold-roll-Pipe Part part_step x))
    (subst (λ (j : Lawfulness). Fits (part_step (map-Pipe Pipe Part part x)) j) (sym (fold-roll-Pipe Lawfulness node_judged x)) o)

-- a form of two parts
of_two : (type : Flow → PartType) (input : Flow → Flow) (conditions : Flow → Fails) (first : PartType → Fails) (second : PartType → PartType → Fails) (whole : Flow → Fails) (a b : Part)
    (j k : Lawfulness) → Fits a j → Fits b k → Fits (form_of_two type input conditions first second whole a b) (form_judged (j.lawful && k.lawful))
of_two type input conditions first second whole a b j k o u = record {
  maps = refl;
  lawful = λ r s n f h.
      let asked : Moment = ask s (n + 1) (first (a.type (input f))) in
      let p = split (reach r (ask s n (conditions f))) (a.moments s (n + 1) (input f) ++ asked ∷ b.moments s (n + 1 + a.size) (input f)) _ h.1 in
      let q = split (reach r (ask s n (conditions f))) (a.moments s (n + 1) (input f)) (asked ∷ b.moments s (n + 1 + a.size) (input f)) p.0 in
      both j.lawful k.lawful (o.lawful _ s (n + 1) (input f) q.0) (u.lawful _ s (n + 1 + a.size) (input f) q.1.1);
}

each : (y : Pipe-F Each) → P (roll-Pipe (map-Pipe Each Pipe first_of y))
each (Pipe-F.Word w) = at_node (Pipe-F.Word w) (record { maps = refl; lawful = λ r s n f h. refl })
each (Pipe-F.Chain j parts) = at_node (Pipe-F.Chain j (map first_of parts)) (chain_fits _ _ (parts_fit parts) j)
each (Pipe-F.Sequence parts) = at_node (Pipe-F.Sequence (map first_of parts)) (sequence_fits _ _ (parts_fit parts))
each (Pipe-F.Exactly k a) = at_node (Pipe-F.Exactly k a.0) (record { maps = refl; lawful = λ r s n f h. a.1.lawful _ s (n + 1) f (split _ ((part a.0).moments s (n + 1) f) _ h.1).0 })
each (Pipe-F.ExactlyE k a) = at_node (Pipe-F.ExactlyE k a.0) (record { maps = refl; lawful = λ r s n f h. a.1.lawful _ s (n + 1) f (split _ ((part a.0).moments s (n + 1) f) _ h.1).0 })
each (Pipe-F.LineE a) = at_node (Pipe-F.LineE a.0) (record { maps = refl; lawful = λ r s n f h. a.1.lawful _ s (n + 1) f (split _ ((part a.0).moments s (n + 1) f) _ h.1).0 })
each (Pipe-F.Mark name a) = at_node (Pipe-F.Mark name a.0) (record { maps = refl; lawful = λ r s n f h. a.1.lawful _ s (n + 1) f (split _ ((part a.0).moments s (n + 1) f) _ h.1).0 })
each (Pipe-F.Tee a) = at_node (Pipe-F.Tee a.0) (record { maps = refl; lawful = λ r s n f h. a.1.lawful _ s (n + 1) f (split _ ((part a.0).moments s (n + 1) f) _ h.1).0 })
each (Pipe-F.ZipSource a b literal) = at_node (Pipe-F.ZipSource a.0 b.0 literal) (of_two (zip_source_type (part a.0) (part b.0) literal) (λ f. None) (λ f. none_fails) zip_source_fails zip_source_second_fails
    (λ f. fails_where BoundTooLarge (nat_lt piece_limit (piece_bound (zipped (part a.0) (part b.0) literal)))) (part a.0) (part b.0) (judged a.0) (judged b.0) a.1 b.1)
each (Pipe-F.ZipSink a b) = at_node (Pipe-F.ZipSink a.0 b.0) (of_two (zip_sink_type (part a.0) (part b.0)) (λ f. f) (λ f. fails_where OpenEnd (is_nothing f)) zip_sink_fails (λ t u. zip_sink_fails u)
    (λ f. fails_where SeesChunks (is_cut f && ((part a.0).shows_cuts || (part b.0).shows_cuts || ((part a.0).has_site && (part b.0).has_site)))) (part a.0) (part b.0) (judged a.0) (judged b.0) a.1 b.1)
each (Pipe-F.ZipConduit a b) = at_node (Pipe-F.ZipConduit a.0 b.0) (of_two (zip_conduit_type (part a.0) (part b.0)) (λ f. f) (input_fails SeesChunks is_cut) none_asked
    (λ t u. fails_where KindMismatch (not (agree t.to u.to))) (λ f. none_fails) (part a.0) (part b.0) (judged a.0) (judged b.0) a.1 b.1)

fits : (p : Pipe) → P p
fits = ind-Pipe P (λ x y is. subst (λ z. P (roll-Pipe z)) is (each y))

-- ---- scripts

of_pipe : (p : Pipe) (s : ℕ) (f : Flow) (r : Reached) (more : List Moment) → AllPass r ((part p).moments s 1 f ++ more) → IsLawfulTree p
of_pipe p s f r more h = (fits p).lawful r s 1 f (split r ((part p).moments s 1 f) more h).0

of_statement : (s : Stmt) (k : ℕ) (before : List Statement) (r : Reached) → AllPass r (statement_moments k before (statement_of s)) → OfLawfulTree s
of_statement (Stmt.Run p) k before r h = of_pipe p k _ _ _ h.1.1
of_statement (Stmt.Seal name p) k before r h = of_pipe p k _ _ _ h.1.1
of_statement (Stmt.Feed name p) k before r h = of_pipe p k _ _ _ h.1.1
of_statement (Stmt.CloseSeal name p) k before r h = of_pipe p k _ _ _ h.1.1
of_statement (Stmt.Hold name file) k before r h = tt
of_statement (Stmt.Release name) k before r h = tt

of_statements : (before : List Statement) (script : List Stmt) (r : Reached) → AllPass r (moments_behind before (map statement_of script)) → IsLawfulScript script
of_statements before [] r h = tt
of_statements before (s ∷ more) r h =
    let p = split r (statement_moments _ before (statement_of s)) _ h in
    (of_statement s _ before r p.0, of_statements (before ++ statement_of s ∷ []) more _ p.1)

pub script_is_lawful : (script : List Stmt) → HasType script → IsLawfulScript script
script_is_lawful script h = of_statements [] script nothing_reached h
