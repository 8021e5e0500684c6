-- Parts in a row are cut in two anywhere: chains of lawful parts, and sequences.
use Rattle.std.proofs.Common.{◌≡◌, ℕ, ◌+◌, List, [], ◌∷◌, ◌++◌, length, drop, refl, ap, sym, ◌∙◌}
use Rattle.std.proofs.lemmas.List.{append-nil}
use Rattle.cd_meaning.specs.Stream.{Flow, Item, End}
use Rattle.cd_meaning.specs.Run.{start, Component, outs, end_of, restamp, follow}
use Rattle.cd_meaning.specs.RunShapes.{Seen}
use Rattle.cd_meaning.specs.Fusion.{fuse, fuse_at}
use Rattle.cd_meaning.specs.Sections.{behind, sequence}
use Rattle.cd_meaning.specs.Places.{Place}
use Rattle.cd_meaning.specs.Meaning.{Meaning, piped, sequence_form}
use Rattle.cd_meaning.specs.Pipes.{all_of}
use Rattle.cd_meaning.specs.Lawful.{IsLawful}
use Rattle.cd_meaning.proofs.Lawful.Forms.{piped_is_lawful}
use Rattle.cd_meaning.proofs.Runs.SequenceGroups.{follow_same, forms_grouped}
use Rattle.cd_meaning.proofs.Weaves.Grouped.{piped_grouped}

-- two components that do the same on each input
abbrev pub IsSame : Component → Component → Type 0
IsSame a b = (xs : List Item) (e : End) → a xs e ≡ b xs e

pub same_fused : (a a' b b' : Component) → IsSame a a' → IsSame b b' → IsSame (fuse a b) (fuse a' b')
same_fused a a' b b' h k xs e =
    ap (λ r. fuse_at start r (b (outs r) (end_of r))) (h xs e)
    ∙ ap (λ r. fuse_at start (a' xs e) r) (k (outs (a' xs e)) (end_of (a' xs e)))

pub same_in_turn : (a a' b b' : Component) → IsSame a a' → IsSame b b' → IsSame (sequence a b) (sequence a' b')
same_in_turn a a' b b' h k xs e =
    ap (λ r. follow r (λ s v. restamp (behind s) (b (drop s.net xs) e))) (h xs e)
    ∙ follow_same (a' xs e) _ _ (λ s v. ap (restamp (behind s)) (k (drop s.net xs) e))

abbrev pub AllLawful : List Meaning → Type 0
AllLawful [] = Unit {0}
AllLawful (m ∷ ms) = IsLawful m × AllLawful ms

pub row_is_lawful : (m : Meaning) (ms : List Meaning) → IsLawful m → AllLawful ms → IsLawful (all_of piped (m ∷ ms))
row_is_lawful m [] k ks = k
row_is_lawful m (n ∷ ms) k ks = piped_is_lawful m (all_of piped (n ∷ ms)) k (row_is_lawful n ms ks.0 ks.1)

pub chain_halves : (a : Meaning) (before : List Meaning) (b : Meaning) (behind : List Meaning) → AllLawful before → IsLawful b → AllLawful behind → (flow : Flow) (site : ℕ) (seen : Seen)
    → IsSame ((all_of piped (a ∷ before ++ b ∷ behind)).run flow site seen) ((piped (all_of piped (a ∷ before)) (all_of piped (b ∷ behind))).run flow site seen)
chain_halves a [] b behind ks k ls flow site seen xs e = refl
chain_halves a (c ∷ before) b behind ks k ls flow site seen xs e =
    let first = a.run flow site seen in
    let front = all_of piped (c ∷ before) in
    let back = all_of piped (b ∷ behind) in
    same_fused first first ((all_of piped (c ∷ before ++ b ∷ behind)).run (a.gives flow) (site + length a.places) seen) ((piped front back).run (a.gives flow) (site + length a.places) seen)
    (λ ys f. refl) (chain_halves c before b behind ks.1 k ls (a.gives flow) (site + length a.places) seen) xs e
    ∙ sym (piped_grouped a front back (row_is_lawful c before ks.0 ks.1) (row_is_lawful b behind k ls) flow site seen xs e)

pub sequence_halves : (a : Meaning) (before : List Meaning) (b : Meaning) (behind : List Meaning) → (flow : Flow) (site : ℕ) (seen : Seen)
    → IsSame ((all_of sequence_form (a ∷ before ++ b ∷ behind)).run flow site seen) ((sequence_form (all_of sequence_form (a ∷ before)) (all_of sequence_form (b ∷ behind))).run flow site seen)
sequence_halves a [] b behind flow site seen xs e = refl
sequence_halves a (c ∷ before) b behind flow site seen xs e =
    let first = a.run flow site seen in
    let front = all_of sequence_form (c ∷ before) in
    let back = all_of sequence_form (b ∷ behind) in
    same_in_turn first first ((all_of sequence_form (c ∷ before ++ b ∷ behind)).run flow (site + length a.places) seen) ((sequence_form front back).run flow (site + length a.places) seen)
    (λ ys f. refl) (sequence_halves c before b behind flow (site + length a.places) seen) xs e
    ∙ sym (forms_grouped a front back flow site seen xs e)

-- ---- the places and the output of a row

abbrev pub places_of : List Meaning → List Place
places_of [] = []
places_of (m ∷ ms) = m.places ++ places_of ms

pub row_places : (m : Meaning) (ms : List Meaning) → (all_of piped (m ∷ ms)).places ≡ places_of (m ∷ ms)
row_places m [] = sym (append-nil m.places)
row_places m (n ∷ ms) = ap (λ l. m.places ++ l) (row_places n ms)

pub sequence_places : (m : Meaning) (ms : List Meaning) → (all_of sequence_form (m ∷ ms)).places ≡ places_of (m ∷ ms)
sequence_places m [] = sym (append-nil m.places)
sequence_places m (n ∷ ms) = ap (λ l. m.places ++ l) (sequence_places n ms)
