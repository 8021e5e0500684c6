-- What is said of a part, and of a part that is one word.
use Rattle.std.specs.Prelude.{ℕ, ◌+◌, Bool, true, false, ◌&&◌, ◌||◌, List, [], ◌∷◌, is_some}
use Rattle.cd_elem.specs.declared.word.Word.{Word}
use Rattle.cd_meaning.specs.LawfulTrees.{is_map}
use Rattle.cd_types.specs.Flows.{Flow, PartType}
use Rattle.cd_types.specs.Moments.{Moment, begin_part, end_part}
use Rattle.cd_types.specs.WordTypes.{word_type, word_fails, word_site, shows_cuts}

-- What is said of a part: the number of parts in it with itself; whether it is an invertible map, whether some word in it shows how its input is cut, and whether some part in it is a site;
-- its type for an input, the types of all parts in it for that input, and its moments in a statement, as this part, for that input.
pub record Part : Type 0 where
  pub size : ℕ
  pub invertible : Bool
  pub shows_cuts : Bool
  pub has_site : Bool
  pub type : Flow → PartType
  pub types : Flow → List PartType
  pub moments : ℕ → ℕ → Flow → List Moment

-- the parts of a list
abbrev pub sizes : List Part → ℕ
sizes [] = 0
sizes (a ∷ more) = a.size + sizes more

abbrev pub all_invertible : List Part → Bool
all_invertible [] = true
all_invertible (a ∷ more) = a.invertible && all_invertible more

abbrev pub any_shows : List Part → Bool
any_shows [] = false
any_shows (a ∷ more) = a.shows_cuts || any_shows more

abbrev pub any_site : List Part → Bool
any_site [] = false
any_site (a ∷ more) = a.has_site || any_site more

abbrev pub is_last : List Part → Bool
is_last [] = true
is_last (a ∷ more) = false

-- ---- words

abbrev pub word_part : Word → Part
word_part w = record {
  size = 1;
  invertible = is_map w;
  shows_cuts = shows_cuts w;
  has_site = is_some (word_site w);
  type = word_type w;
  types = λ f. word_type w f ∷ [];
  moments = λ s n f. begin_part s n (word_fails w f) (word_site w) ∷ end_part s n (word_type w f).bound ∷ [];
}
