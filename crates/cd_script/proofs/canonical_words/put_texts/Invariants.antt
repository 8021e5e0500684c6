use Rattle.std.proofs.Common.{◌≡◌, [], ◌∷◌, ◌++◌, map, take}
use Rattle.cd_elem.specs.declared.token.Sign.TheVariants as sign
use Rattle.cd_elem.specs.declared.token.Token.TheVariants as token
use Rattle.cd_grammar.specs.CanonicalWords.{separated}
use Rattle.cd_script.proofs.canonical_words.put_texts.Given as goal

abbrev pub invariant-loop-place : goal.invariant-loop-place
invariant-loop-place l = l.out ≡ l.initial.out ++ separated (token.Sign sign.Comma) (map (λ s. token.Text s ∷ []) (take l.place l.texts))
