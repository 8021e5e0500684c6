-- What a tree is at a node: as a part, as a meaning, and whether it is built.
use Rattle.std.proofs.Common.{◌≡◌, ◌<◌, IsTrue, List, [], ◌∷◌, length, map, refl, ap, sym, ◌∙◌, subst, arith}
use Rattle.cd_elem.specs.declared.script.Join.{Join}
use Rattle.cd_elem.specs.declared.script.Pipe.{Pipe}
use Rattle.cd_elem.specs.declared.script.Pipe.TheVariants as pipe
use Rattle.cd_elem.specs.declared.word.Word.{Word}
use Rattle.cd_meaning.specs.Pipes.{pipe_meaning}
use Rattle.cd_meaning.specs.Pipes as meanings
use Rattle.cd_types.specs.Parts.{word_part}
use Rattle.cd_types.specs.Rows.Trees as typed
use Rattle.cd_types.specs.Trees.{part}
use Rattle.cd_build.specs.Built.{is_built, is_plain, are_built, chain_is, sequence_is, IsBuilt}
use Rattle.cd_build.specs.Builds.{AreBuilt, chain_of, chain_meaning, sequence_of, sequence_meaning}
use Rattle.cd_build.proofs.Trees.{both}

pub typed_word : (w : Word) → part (pipe.Word w) ≡ word_part w
typed_word w = typed.word_is w

plain_so : (j : Join) → IsTrue (is_plain j) → j ≡ Join.Plain
plain_so Join.Plain h = refl
plain_so Join.Keep h = let no : ⊥ = cc in absurd no
plain_so Join.Return h = let no : ⊥ = cc in absurd no
plain_so Join.Both h = let no : ⊥ = cc in absurd no
plain_so Join.Up h = let no : ⊥ = cc in absurd no
plain_so Join.Asked h = let no : ⊥ = cc in absurd no

some_built : (ps : List Pipe) → IsTrue (are_built (map is_built ps)) → (0 < length ps) × AreBuilt ps
some_built [] h = let no : ⊥ = cc in absurd no
some_built (p ∷ ps) h = (omega arith, h)

-- a chain that is built is one by `|`, and each of its members is built
pub chain_is_built : (p : Pipe) (j : Join) (members ps : List Pipe) → p ≡ pipe.Chain j members → ps ≡ members → IsBuilt p → (j ≡ Join.Plain) × (0 < length ps) × AreBuilt ps
chain_is_built p j members ps e k h =
    let b = both (is_plain j) (are_built (map is_built ps)) (subst IsTrue (ap is_built (e ∙ ap (pipe.Chain j) (sym k)) ∙ chain_is j ps) h) in
    let some = some_built ps b.1 in
    (plain_so j b.0, some.0, some.1)

pub chain_so : (p : Pipe) (j : Join) (members ps : List Pipe) → p ≡ pipe.Chain j members → ps ≡ members → j ≡ Join.Plain → (part p ≡ chain_of ps) × (pipe_meaning p ≡ chain_meaning ps)
chain_so p j members ps e k plain =
    let same : p ≡ pipe.Chain Join.Plain ps = e ∙ ap (pipe.Chain j) (sym k) ∙ ap (λ (i : Join). pipe.Chain i ps) plain in
    (ap part same ∙ typed.chain_is Join.Plain ps, ap pipe_meaning same ∙ meanings.chain_is Join.Plain ps)

pub sequence_is_built : (p : Pipe) (parts ps : List Pipe) → p ≡ pipe.Sequence parts → ps ≡ parts → IsBuilt p → (0 < length ps) × AreBuilt ps
sequence_is_built p parts ps e k h = some_built ps (subst IsTrue (ap is_built (e ∙ ap pipe.Sequence (sym k)) ∙ sequence_is ps) h)

pub sequence_so : (p : Pipe) (parts ps : List Pipe) → p ≡ pipe.Sequence parts → ps ≡ parts → (part p ≡ sequence_of ps) × (pipe_meaning p ≡ sequence_meaning ps)
sequence_so p parts ps e k =
    let same : p ≡ pipe.Sequence ps = e ∙ ap pipe.Sequence (sym k) in
    (ap part same ∙ typed.sequence_is ps, ap pipe_meaning same ∙ meanings.sequence_is ps)
