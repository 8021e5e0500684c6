-- Trees that are built are lawful, and each tree has a part.
use Rattle.std.proofs.Common.{◌≡◌, ◌<◌, ◌+◌, Bool, true, false, ◌&&◌, IsTrue, List, [], ◌∷◌, ◌++◌, length, map, refl, sym, subst, arith}
use Rattle.cd_elem.specs.declared.script.Join.{Join}
use Rattle.cd_elem.specs.declared.script.Pipe.{Pipe, map-Pipe}
use Rattle.cd_elem.specs.declared.script.Pipe.TheOpen.{Pipe-F}
use Rattle.cd_elem.specs.declared.script.Pipe.TheViews.{roll-Pipe}
use Rattle.cd_elem.specs.declared.script.Pipe.TheFolds.{fold-roll-Pipe, ind-Pipe}
use Rattle.cd_meaning.specs.LawfulTrees.{Lawfulness, all_lawful, chain_judged, node_judged, judged, IsLawfulTree}
use Rattle.cd_meaning.specs.Pipes.{pipe_meaning}
use Rattle.cd_meaning.proofs.Halves.{AllLawful}
use Rattle.cd_meaning.proofs.Lawful.Trees.{tree_is_lawful}
use Rattle.cd_types.specs.Parts.{Part, sizes}
use Rattle.cd_types.specs.Trees.{part, part_step}
use Rattle.cd_build.specs.Built.{is_built, built_step, is_plain, all_true, are_built, IsBuilt}
use Rattle.cd_build.specs.Builds.{AreBuilt}

pub both : (a b : Bool) → IsTrue (a && b) → IsTrue a × IsTrue b
both true b h = (refl, h)
both false b h = let no : ⊥ = cc in absurd no

and_both : (a b : Bool) → IsTrue a → IsTrue b → IsTrue (a && b)
and_both true b h k = k
and_both false b h k = h

-- ---- lawful trees

abbrev P : Pipe → Type 0
P p = IsBuilt p → IsLawfulTree p

abbrev Each : Type 0
Each = (p : Pipe) × P p

abbrev first_of : Each → Pipe
first_of e = e.0

at_node : (x : Pipe-F Pipe) → (IsTrue (built_step (map-Pipe Pipe Bool is_built x)) → IsTrue (node_judged (map-Pipe Pipe Lawfulness judged x)).lawful) → P (roll-Pipe x)
at_node x h b = subst (λ (j : Lawfulness). IsTrue j.lawful) (sym (fold-roll-Pipe Lawfulness node_judged x)) (h (subst IsTrue (fold-roll-Pipe Bool built_step x) b))

members_lawful : (parts : List Each) → IsTrue (all_true (map is_built (map first_of parts))) → IsTrue (all_lawful (map judged (map first_of parts)))
members_lawful [] h = refl
members_lawful (e ∷ parts) h =
    let b = both (is_built e.0) (all_true (map is_built (map first_of parts))) h in
    and_both (judged e.0).lawful (all_lawful (map judged (map first_of parts))) (e.1 b.0) (members_lawful parts b.1)

some_lawful : (parts : List Each) → IsTrue (are_built (map is_built (map first_of parts))) → IsTrue (all_lawful (map judged (map first_of parts)))
some_lawful [] h = let no : ⊥ = cc in absurd no
some_lawful (e ∷ parts) h = members_lawful (e ∷ parts) h

chain_lawful : (join : Join) (parts : List Each) → IsTrue (is_plain join && are_built (map is_built (map first_of parts))) → IsTrue (chain_judged join (map judged (map first_of parts))).lawful
chain_lawful Join.Plain parts h = some_lawful parts h
chain_lawful Join.Keep parts h = let no : ⊥ = cc in absurd no
chain_lawful Join.Return parts h = let no : ⊥ = cc in absurd no
chain_lawful Join.Both parts h = let no : ⊥ = cc in absurd no
chain_lawful Join.Up parts h = let no : ⊥ = cc in absurd no
chain_lawful Join.Asked parts h = let no : ⊥ = cc in absurd no

never : {A : Type 0} → false ≡ true → A
never e = let no : ⊥ = cc in absurd no

each : (y : Pipe-F Each) → P (roll-Pipe (map-Pipe Each Pipe first_of y))
each (Pipe-F.Word w) = at_node (Pipe-F.Word w) (λ h. refl)
each (Pipe-F.Chain join parts) = at_node (Pipe-F.Chain join (map first_of parts)) (chain_lawful join parts)
each (Pipe-F.Sequence parts) = at_node (Pipe-F.Sequence (map first_of parts)) (some_lawful parts)
each (Pipe-F.Exactly k a) = at_node (Pipe-F.Exactly k a.0) (λ h. never h)
each (Pipe-F.ExactlyE k a) = at_node (Pipe-F.ExactlyE k a.0) (λ h. never h)
each (Pipe-F.LineE a) = at_node (Pipe-F.LineE a.0) (λ h. never h)
each (Pipe-F.Mark name a) = at_node (Pipe-F.Mark name a.0) (λ h. a.1 h)
each (Pipe-F.Tee a) = at_node (Pipe-F.Tee a.0) (λ h. never h)
each (Pipe-F.ZipSource a b literal) = at_node (Pipe-F.ZipSource a.0 b.0 literal) (λ h. never h)
each (Pipe-F.ZipSink a b) = at_node (Pipe-F.ZipSink a.0 b.0) (λ h. never h)
each (Pipe-F.ZipConduit a b) = at_node (Pipe-F.ZipConduit a.0 b.0) (λ h. never h)

pub built_is_lawful : (p : Pipe) → IsBuilt p → IsLawfulTree p
built_is_lawful = ind-Pipe P (λ x y is. subst (λ z. P (roll-Pipe z)) is (each y))

pub members_are_lawful : (ps : List Pipe) → AreBuilt ps → AllLawful (map pipe_meaning ps)
members_are_lawful [] h = tt
members_are_lawful (p ∷ ps) h =
    let b = both (is_built p) (all_true (map is_built ps)) h in
    (tree_is_lawful p (built_is_lawful p b.0), members_are_lawful ps b.1)

-- ---- sizes

step_has_size : (x : Pipe-F Part) → 0 < (part_step x).size
step_has_size (Pipe-F.Word w) = omega arith
step_has_size (Pipe-F.Chain join parts) = omega arith
step_has_size (Pipe-F.Sequence parts) = omega arith
step_has_size (Pipe-F.Exactly k a) = omega arith
step_has_size (Pipe-F.ExactlyE k a) = omega arith
step_has_size (Pipe-F.LineE a) = omega arith
step_has_size (Pipe-F.Mark name a) = omega arith
step_has_size (Pipe-F.Tee a) = omega arith
step_has_size (Pipe-F.ZipSource a b literal) = omega arith
step_has_size (Pipe-F.ZipSink a b) = omega arith
step_has_size (Pipe-F.ZipConduit a b) = omega arith

abbrev HasSize : Pipe → Type 0
HasSize p = 0 < (part p).size

node_has_size : (x : Pipe-F Pipe) → HasSize (roll-Pipe x)
unfolding part
node_has_size x = subst (λ (a : Part). 0 < a.size) (sym (fold-roll-Pipe Part part_step x)) (step_has_size (map-Pipe Pipe Part part x))

pub has_size : (p : Pipe) → 0 < (part p).size
has_size = ind-Pipe HasSize (λ x y is. node_has_size x)

pub sizes_of_halves : (ps qs : List Pipe) → sizes (map part (ps ++ qs)) ≡ sizes (map part ps) + sizes (map part qs)
sizes_of_halves [] qs = omega arith
sizes_of_halves (p ∷ ps) qs = let e = sizes_of_halves ps qs in omega arith

pub some_size : (ps : List Pipe) → 0 < length ps → 0 < sizes (map part ps)
some_size [] h = absurd (omega arith)
some_size (p ∷ ps) h = let e = has_size p in omega arith
