-- Plain chains, however they are grouped.
use Rattle.std.proofs.Common.{◌≡◌, ℕ, ◌+◌, List, [], ◌∷◌, ◌++◌, length, ap, sym, ◌∙◌, arith}
use Rattle.std.proofs.lemmas.List.{length-append}
use Rattle.cd_elem.specs.declared.script.Join.{Join}
use Rattle.cd_elem.specs.declared.script.Pipe.{Pipe}
use Rattle.cd_elem.specs.declared.script.Pipe.TheVariants as pipe
use Rattle.cd_meaning.specs.Stream.{Flow, Item, End}
use Rattle.cd_meaning.specs.RunShapes.{Seen}
use Rattle.cd_meaning.specs.Fusion.{fuse}
use Rattle.cd_meaning.specs.Meaning.{Meaning, piped}
use Rattle.cd_meaning.specs.Pipes.{pipe_meaning, chain_is}
use Rattle.cd_meaning.specs.Lawful.{IsLawful}
use Rattle.cd_meaning.specs.LawfulTrees.{IsLawfulTree}
use Rattle.cd_meaning.proofs.Weaves.Laws.{fuse_assoc}
use Rattle.cd_meaning.proofs.Lawful.Trees.{tree_is_lawful}

-- the third part's first site is the same
third_site : (s : ℕ) (a b : Meaning) → s + length (a.places ++ b.places) ≡ (s + length a.places) + length b.places
third_site s a b = omega (arith, length-append a.places b.places)

pub piped_grouped : (a b c : Meaning) → IsLawful b → IsLawful c → (flow : Flow) (site : ℕ) (seen : Seen) (xs : List Item) (e : End)
    → (piped (piped a b) c).run flow site seen xs e ≡ (piped a (piped b c)).run flow site seen xs e
piped_grouped a b c kb kc flow site seen xs e =
    let first = a.run flow site seen in
    let second = b.run (a.gives flow) (site + length a.places) seen in
    let third = λ (n : ℕ). c.run (b.gives (a.gives flow)) n seen in
    ap (λ n. fuse (fuse first second) (third n) xs e) (third_site site a b)
    ∙ fuse_assoc first second (third (site + length a.places + length b.places)) (kb.runs (a.gives flow) (site + length a.places) seen)
    (kc.runs (b.gives (a.gives flow)) (site + length a.places + length b.places) seen) xs e

-- two parts, or more, as a chain
two_are : (p q : Pipe) → pipe_meaning (pipe.Chain Join.Plain (p ∷ q ∷ [])) ≡ piped (pipe_meaning p) (pipe_meaning q)
two_are p q = chain_is Join.Plain (p ∷ q ∷ [])

pub chain_grouped : (p q r : Pipe) → IsLawfulTree q → IsLawfulTree r → (flow : Flow) (site : ℕ) (seen : Seen) (xs : List Item) (e : End)
    → (pipe_meaning (pipe.Chain Join.Plain (pipe.Chain Join.Plain (p ∷ q ∷ []) ∷ r ∷ []))).run flow site seen xs e
    ≡ (pipe_meaning (pipe.Chain Join.Plain (p ∷ pipe.Chain Join.Plain (q ∷ r ∷ []) ∷ []))).run flow site seen xs e
chain_grouped p q r kq kr flow site seen xs e =
    let run = λ (m : Meaning). m.run flow site seen xs e in
    ap run (two_are (pipe.Chain Join.Plain (p ∷ q ∷ [])) r ∙ ap (λ m. piped m (pipe_meaning r)) (two_are p q))
    ∙ piped_grouped (pipe_meaning p) (pipe_meaning q) (pipe_meaning r) (tree_is_lawful q kq) (tree_is_lawful r kr) flow site seen xs e
    ∙ sym (ap run (two_are p (pipe.Chain Join.Plain (q ∷ r ∷ [])) ∙ ap (λ m. piped (pipe_meaning p) m) (two_are q r)))

pub chain_in_a_row : (p q r : Pipe) → pipe_meaning (pipe.Chain Join.Plain (p ∷ q ∷ r ∷ [])) ≡ pipe_meaning (pipe.Chain Join.Plain (p ∷ pipe.Chain Join.Plain (q ∷ r ∷ []) ∷ []))
chain_in_a_row p q r =
    chain_is Join.Plain (p ∷ q ∷ r ∷ [])
    ∙ sym (two_are p (pipe.Chain Join.Plain (q ∷ r ∷ [])) ∙ ap (λ m. piped (pipe_meaning p) m) (two_are q r))
