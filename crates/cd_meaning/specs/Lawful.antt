-- What pipes and scripts obey.
use Rattle.std.specs.Prelude.{Bool, ◌≡◌, ℕ, ◌+◌, ◌≤◌, ◌<◌, List, [], ◌∷◌, length}
use Rattle.cd_meaning.specs.Stream.{Flow}
use Rattle.cd_meaning.specs.Run.{Run}
use Rattle.cd_meaning.specs.RunShapes.{Seen}
use Rattle.cd_meaning.specs.Laws.{Rising, IsRun}
use Rattle.cd_meaning.specs.Further.{Begins, GoesOn, Further}
use Rattle.cd_meaning.specs.Meaning.{Meaning}
use Rattle.cd_meaning.specs.Scripts.{ScriptState, Statement}

-- its runs obey the laws, read what is known of its own sites alone, and go on as they began where sites give further bytes
pub record IsLawful (m : Meaning) : Type 0 where
  pub runs : (f : Flow) (s : ℕ) (seen : Seen) → IsRun (m.run f s seen)
  pub local : (f : Flow) (s : ℕ) (seen seen' : Seen) → ((k : ℕ) → s ≤ k → k < s + length m.places → seen k ≡ seen' k) → m.run f s seen ≡ m.run f s seen'
  pub goes_on : (sites : ℕ → Bool) (seen seen' : Seen) → Further sites seen seen' → (f : Flow) (s : ℕ) → GoesOn sites (m.run f s seen) (m.run f s seen')

-- ---- scripts

-- sealed sources go on, and their needs never fall
abbrev pub SealsGoOn : (ℕ → Bool) → (List ℕ → Run) → (List ℕ → Run) → Type 0
SealsGoOn sites f g = (name : List ℕ) → Begins sites (f name) (g name) × Rising 0 (f name)

abbrev pub with_seals : ScriptState → (List ℕ → Run) → ScriptState
with_seals st sealed = record { site = st.site; sealed = sealed; flow = st.flow; key = st.key }

pub record IsLawfulStatement (statement : Statement) : Type 0 where
  pub rising : (seen : Seen) (st : ScriptState) (next : ScriptState → Run) → ((t : ScriptState) → Rising 0 (next t)) → Rising 0 (statement seen st next)
  -- it goes on where its sealed sources do, and what stands behind it
  pub goes_on : (sites : ℕ → Bool) (seen seen' : Seen) → Further sites seen seen'
      → (st : ScriptState) (sealed : List ℕ → Run) → SealsGoOn sites st.sealed sealed
      → (next next' : ScriptState → Run) → ((t : ScriptState) → Rising 0 (next' t))
      → ((t : ScriptState) (other : List ℕ → Run) → SealsGoOn sites t.sealed other → Begins sites (next t) (next' (with_seals t other)))
      → Begins sites (statement seen st next) (statement seen' (with_seals st sealed) next')

abbrev pub AreLawful : List Statement → Type 0
AreLawful [] = Unit {0}
AreLawful (s ∷ more) = IsLawfulStatement s × AreLawful more
