-- What stands beside each open file, after one more, a read, and a close.
use Rattle.std.proofs.Common.{◌≡◌, ℕ, zero, suc, ◌<◌, length, List, [], ◌∷◌, ◌++◌, get_or, refl, sym, ◌∙◌, ap, subst, arith, slice_set, IsTrue, if◌then◌else◌, ◌==◌}
use Rattle.std.specs.Prelude.{map, remove, Contains}
use Rattle.std.proofs.lemmas.List.{map-append, map-set, length-map}
use Rattle.std.proofs.Math.ListN.{get_or-map}
use Rattle.std.proofs.Math.Seq.{map-set_same}
use Rattle.cd_world.specs.declared.event.Descriptor.{Descriptor}
use Rattle.cd_world.specs.declared.event.Use.{Use}
use Rattle.cd_world.specs.declared.memory.OpenMember.{OpenMember}
use Rattle.cd_world.specs.declared.table.OpenFile.{OpenFile}
use Rattle.cd_world.specs.Live.{Open, open_as, rises}
use Rattle.cd_world.specs.Memory.{counts_of}
use Rattle.cd_world.specs.Store.{member_name}
use Rattle.cd_world.specs.Table.{given_in, live_of}
use Rattle.cd_world.proofs.GivenSteps.{given-at, given-set}
use Rattle.cd_world.proofs.TableSteps.{map-remove, found-is}

abbrev pub beside : OpenMember → List ℕ
beside side = side.member

abbrev pub its_member : OpenFile → List ℕ
its_member entry = member_name entry.name

at_any : (xs : List (List ℕ)) (place : ℕ) (c d : List ℕ) → place < length xs → get_or xs place c ≡ get_or xs place d
at_any [] place c d lt = absurd (omega (arith, lt))
at_any (x ∷ xs) zero c d lt = refl
at_any (x ∷ xs) (suc place) c d lt = at_any xs place c d (omega (arith, lt))

module _ (sides : List OpenMember) (entries : List OpenFile) (paired : map beside sides ≡ map its_member entries) where
  pub paired-length : length sides ≡ length entries
  paired-length = sym (length-map sides beside) ∙ ap length paired ∙ length-map entries its_member

  pub paired-push : (side : OpenMember) (entry : OpenFile) → side.member ≡ member_name entry.name → map beside (sides ++ side ∷ []) ≡ map its_member (entries ++ entry ∷ [])
  paired-push side entry is = map-append beside sides (side ∷ []) ∙ (λ i. paired i ++ is i ∷ []) ∙ sym (map-append its_member entries (entry ∷ []))

  pub paired-remove : (place : ℕ) → map beside (remove sides place) ≡ map its_member (remove entries place)
  paired-remove place = map-remove beside sides place ∙ ap (λ (l : List (List ℕ)). remove l place) paired ∙ sym (map-remove its_member entries place)

  -- the file at a place has its member beside it
  pub paired-at : (place : ℕ) (side : OpenMember) (entry : OpenFile) → place < length entries → (get_or sides place side).member ≡ member_name (get_or entries place entry).name
  paired-at place side entry lt =
      sym (get_or-map beside sides place side)
      ∙ (λ i. get_or (paired i) place (beside side))
      ∙ at_any (map its_member entries) place (beside side) (its_member entry) (omega (arith, lt, length-map entries its_member))
      ∙ get_or-map its_member entries place entry

  -- a number that is written beside a file
  pub paired-set : (place : ℕ) (old : OpenMember) (given : ℕ) → old ≡ get_or sides place old → map beside (slice_set sides place (record old { given = given })) ≡ map its_member entries
  paired-set place old given is = map-set_same beside sides place (record old { given = given }) old (ap beside is) ∙ paired

pub counts-push : (sides : List OpenMember) (side : OpenMember) → counts_of (sides ++ side ∷ []) ≡ counts_of sides ++ side.given ∷ []
counts-push sides side = map-append (λ (s : OpenMember). s.given) sides (side ∷ [])

pub counts-remove : (sides : List OpenMember) (place : ℕ) → counts_of (remove sides place) ≡ remove (counts_of sides) place
counts-remove sides place = map-remove (λ (s : OpenMember). s.given) sides place

pub counts-set : (sides : List OpenMember) (place : ℕ) (side : OpenMember) → counts_of (slice_set sides place side) ≡ slice_set (counts_of sides) place side.given
counts-set sides place side = map-set (λ (s : OpenMember). s.given) sides place side

pub counts-at : (sides : List OpenMember) (place : ℕ) (side : OpenMember) → get_or (counts_of sides) place side.given ≡ (get_or sides place side).given
counts-at sides place side = get_or-map (λ (s : OpenMember). s.given) sides place side

pub counts-length : (sides : List OpenMember) → length (counts_of sides) ≡ length sides
counts-length sides = length-map sides (λ (s : OpenMember). s.given)

-- what a descriptor that is open reaches
module _ (sides : List OpenMember) (entries : List OpenFile) (paired : map beside sides ≡ map its_member entries) (high : ℕ) (rising : IsTrue (rises 2 (live_of entries) high))
    (place : ℕ) (lt : place < length entries) (from : Descriptor) (entry : OpenFile) (found : (get_or entries place entry).descriptor ≡ from) where
  same_length : length (counts_of sides) ≡ length entries
  same_length = counts-length sides ∙ paired-length sides entries paired

  pub member-is : (side : OpenMember) (use_of : Use) (name : List ℕ) → Contains (live_of entries) (open_as use_of from name) → (get_or sides place side).member ≡ member_name name
  member-is side use_of name has =
      paired-at sides entries paired place side entry lt
      ∙ ap (λ (o : Open). member_name o.name) (found-is entries high place entry (open_as use_of from name) rising lt has found)

  pub given-is : (side : OpenMember) → given_in entries (counts_of sides) from.0 ≡ (get_or sides place side).given
  given-is side =
      ap (λ (d : Descriptor). given_in entries (counts_of sides) d.0) (sym found)
      ∙ given-at entries (counts_of sides) 2 high place entry side.given rising same_length lt
      ∙ counts-at sides place side

  pub given-now : (side : OpenMember) (other : ℕ) → given_in entries (counts_of (slice_set sides place side)) other ≡ (if from.0 == other then side.given else given_in entries (counts_of sides) other)
  given-now side other =
      ap (λ (counts : List ℕ). given_in entries counts other) (counts-set sides place side)
      ∙ given-set entries (counts_of sides) 2 high place entry side.given other rising same_length lt
      ∙ ap (λ (d : Descriptor). if d.0 == other then side.given else given_in entries (counts_of sides) other) found
