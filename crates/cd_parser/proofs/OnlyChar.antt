-- The only character of a text.
use Rattle.std.proofs.Common.{◌≡◌, ℕ, List, [], ◌∷◌, ◌++◌, Option, Some, None, refl, ap, sym, ◌∙◌}
use Rattle.std.specs.Prelude.{slice_get}
use Rattle.std.specs.Str.{chars, IsUtf8}
use Rattle.std.specs.Char.{encode_utf8}
use Rattle.std.proofs.lemmas.Str.{chars_past_char}
use Rattle.cd_grammar.specs.Grammar.{only_member, one_scalar}

none_behind : (c : ℕ) (cs : List ℕ) → slice_get cs 0 ≡ None → Some c ≡ only_member (c ∷ cs)
none_behind c [] e = refl
none_behind c (d ∷ cs) e = let f : ⊥ = cc in absurd f

some_behind : (c d : ℕ) (cs : List ℕ) → slice_get cs 0 ≡ Some d → None ≡ only_member (c ∷ cs)
some_behind c d [] e = let f : ⊥ = cc in absurd f
some_behind c d (x ∷ cs) e = refl

module _ (text bs rest : List ℕ) (c : ℕ) (u : IsUtf8 text) (s : bs ≡ text) (e : bs ≡ encode_utf8 c ++ rest) where
  split : only_member (c ∷ chars rest) ≡ one_scalar text
  split = ap only_member (sym (chars_past_char text rest c u (sym s ∙ e)))

  pub single : (r : Option ℕ) → r ≡ None → r ≡ slice_get (chars rest) 0 → Some c ≡ one_scalar text
  single r n f = none_behind c (chars rest) (sym f ∙ n) ∙ split

  pub several : (r : Option ℕ) (d : ℕ) → r ≡ Some d → r ≡ slice_get (chars rest) 0 → None ≡ one_scalar text
  several r d n f = some_behind c d (chars rest) (sym f ∙ n) ∙ split
