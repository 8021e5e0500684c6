-- What is said of a part, against its meaning: its sites are the places, in their order; the sum of its bounds is what its moments add; there is a type for
-- each part in it; and where nothing fails in it, it gives what its meaning gives.
use Rattle.std.proofs.Common.{◌≡◌, ℕ, ◌+◌, Bool, true, false, List, [], ◌∷◌, ◌++◌, length, Some, None, refl, ap, sym, ◌∙◌, arith}
use Rattle.std.specs.List.{fold}
use Rattle.std.proofs.lemmas.List.{append-nil, length-append}
use Rattle.cd_elem.specs.declared.kind.Kind.{Kind}
use Rattle.cd_elem.specs.declared.word.Word.{Word}
use Rattle.cd_elem.specs.declared.script.Join.{Join}
use Rattle.cd_meaning.specs.Meaning.{Meaning, sequence_form}
use Rattle.cd_meaning.specs.Places.{Place}
use Rattle.cd_meaning.specs.Pipes.{joined, all_of}
use Rattle.cd_meaning.specs.Sorts.{join as join_sorts}
use Rattle.cd_meaning.specs.Stream as stream
use Rattle.cd_meaning.specs.WordMeanings.{word_meaning}
use Rattle.cd_types.specs.Chains.{first_type, member_types, chain_type, chain_types, chain_moments, chain_part, last_output, member_fails}
use Rattle.cd_types.specs.Flows.{Flow, bound_of, sort_in, join}
use Rattle.cd_types.specs.Moments.{Moment, Reached, reach, begin_part, ask, end_part, AllPass}
use Rattle.cd_types.specs.Parts.{Part, sizes, is_last, word_part}
use Rattle.cd_types.specs.Sequences.{sequence_types, sequence_moments, sequence_part, sequence_fails, joined_from, joined_outputs}
use Rattle.cd_types.specs.WordTypes.{word_site, word_fails}
use Rattle.cd_types.proofs.Passing.{own_passes, split}
use Rattle.cd_types.proofs.Sums.{site_list, sites_in, adds_in, sites_append, adds_append, bounds_append}
use Rattle.cd_types.proofs.WordFacts.{word_place, word_output}

pub record Facts (a : Part) (m : Meaning) : Type 0 where
  pub places : (s n : ℕ) (f : Flow) → sites_in (a.moments s n f) ≡ m.places
  pub bounds : (s n : ℕ) (f : Flow) → adds_in (a.moments s n f) ≡ bound_of (a.types f)
  pub size : (f : Flow) → length (a.types f) ≡ a.size
  pub first : (f : Flow) → first_type (a.types f) ≡ a.type f
  pub gives : (r : Reached) (s n : ℕ) (f : Flow) → AllPass r (a.moments s n f) → m.gives (sort_in f) ≡ sort_in (a.type f).to

abbrev pub AllFacts : List Part → List Meaning → Type 0
AllFacts [] [] = Unit {0}
AllFacts [] (m ∷ ms) = ⊥
AllFacts (a ∷ parts) [] = ⊥
AllFacts (a ∷ parts) (m ∷ ms) = Facts a m × AllFacts parts ms

-- ---- words

pub word_facts : (w : Word) → Facts (word_part w) (word_meaning w)
word_facts w = record {
  places = λ s n f. append-nil (site_list (word_site w)) ∙ word_place w;
  bounds = λ s n f. omega arith;
  size = λ f. refl;
  first = λ f. refl;
  gives = λ r s n f h. word_output w f (own_passes r (begin_part s n (word_fails w f) (word_site w)) h.0);
}

-- ---- the places of parts that are joined

abbrev places_of : List Meaning → List Place
places_of [] = []
places_of (m ∷ ms) = m.places ++ places_of ms

all_places : (op : Meaning → Meaning → Meaning) → ((a b : Meaning) → (op a b).places ≡ a.places ++ b.places) → (ms : List Meaning) → (all_of op ms).places ≡ places_of ms
all_places op h [] = refl
all_places op h (m ∷ []) = sym (append-nil m.places)
all_places op h (m ∷ k ∷ ms) = h m (all_of op (k ∷ ms)) ∙ ap (λ l. m.places ++ l) (all_places op h (k ∷ ms))

joined_places : (j : Join) (a b : Meaning) → (joined j a b).places ≡ a.places ++ b.places
joined_places Join.Plain a b = refl
joined_places Join.Keep a b = refl
joined_places Join.Return a b = refl
joined_places Join.Both a b = refl
joined_places Join.Up a b = refl
joined_places Join.Asked a b = refl

-- a last moment that is no site
ended_places : (ms : List Moment) (s n bound : ℕ) (l : List Place) → sites_in ms ≡ l → sites_in (ms ++ end_part s n bound ∷ []) ≡ l
ended_places ms s n bound l e = sites_append ms _ ∙ append-nil (sites_in ms) ∙ e

ended_adds : (ms : List Moment) (s n bound sum : ℕ) → adds_in ms ≡ sum → adds_in (ms ++ end_part s n bound ∷ []) ≡ bound + sum
ended_adds ms s n bound sum e = let f = adds_append ms (end_part s n bound ∷ []) in omega arith

-- ---- sequences

sequence_places : (s n : ℕ) (g f : Flow) (parts : List Part) (ms : List Meaning) → AllFacts parts ms → sites_in (sequence_moments s n g f parts) ≡ places_of ms
sequence_places s n g f [] [] o = refl
sequence_places s n g f [] (m ∷ ms) o = absurd o
sequence_places s n g f (a ∷ parts) [] o = absurd o
sequence_places s n g f (a ∷ parts) (m ∷ ms) o =
    sites_append (a.moments s n f) _ ∙ ap (λ l. l ++ sites_in (sequence_moments s (n + a.size) (join g (a.type f).to) f parts)) (o.0.places s n f)
    ∙ ap (λ l. m.places ++ l) (sequence_places s (n + a.size) (join g (a.type f).to) f parts ms o.1)

sequence_adds : (s n : ℕ) (g f : Flow) (parts : List Part) (ms : List Meaning) → AllFacts parts ms → adds_in (sequence_moments s n g f parts) ≡ bound_of (sequence_types f parts)
sequence_adds s n g f [] [] o = refl
sequence_adds s n g f [] (m ∷ ms) o = absurd o
sequence_adds s n g f (a ∷ parts) [] o = absurd o
sequence_adds s n g f (a ∷ parts) (m ∷ ms) o =
    let e = adds_append (a.moments s n f) (ask s n (sequence_fails g f (a.type f) (is_last parts)) ∷ sequence_moments s (n + a.size) (join g (a.type f).to) f parts) in
    let b = o.0.bounds s n f in
    let c = sequence_adds s (n + a.size) (join g (a.type f).to) f parts ms o.1 in
    let d = bounds_append (a.types f) (sequence_types f parts) in
    omega arith

sequence_sizes : (f : Flow) (parts : List Part) (ms : List Meaning) → AllFacts parts ms → length (sequence_types f parts) ≡ sizes parts
sequence_sizes f [] [] o = refl
sequence_sizes f [] (m ∷ ms) o = absurd o
sequence_sizes f (a ∷ parts) [] o = absurd o
sequence_sizes f (a ∷ parts) (m ∷ ms) o =
    let e = length-append (a.types f) (sequence_types f parts) in
    let b = o.0.size f in
    let c = sequence_sizes f parts ms o.1 in
    omega arith

pub sorts_joined : (g h : Flow) → sort_in (join g h) ≡ join_sorts (sort_in g) (sort_in h)
sorts_joined None h = refl
sorts_joined (Some Kind.Bytes) None = refl
sorts_joined (Some Kind.Chars) None = refl
sorts_joined (Some (Kind.Blocks m)) None = refl
sorts_joined (Some (Kind.Texts m)) None = refl
sorts_joined (Some Kind.Bytes) (Some k) = refl
sorts_joined (Some Kind.Chars) (Some k) = refl
sorts_joined (Some (Kind.Blocks m)) (Some k) = refl
sorts_joined (Some (Kind.Texts m)) (Some k) = refl

join_assoc : (g h k : stream.Flow) → join_sorts (join_sorts g h) k ≡ join_sorts g (join_sorts h k)
join_assoc None h k = refl
join_assoc (Some x) h k = refl

join_none : (g : stream.Flow) → join_sorts g None ≡ g
join_none None = refl
join_none (Some x) = refl

-- what parts give together, of which the first gives this
abbrev given_from : stream.Flow → stream.Flow → List Meaning → stream.Flow
given_from g f [] = g
given_from g f (m ∷ ms) = given_from (join_sorts g (m.gives f)) f ms

given_all : (g f : stream.Flow) (m : Meaning) (ms : List Meaning) → given_from g f (m ∷ ms) ≡ join_sorts g ((all_of sequence_form (m ∷ ms)).gives f)
given_all g f m [] = refl
given_all g f m (k ∷ ms) =
    given_all (join_sorts g (m.gives f)) f k ms
    ∙ join_assoc g (m.gives f) ((all_of sequence_form (k ∷ ms)).gives f)

sequence_given : (r : Reached) (s n : ℕ) (g f : Flow) (parts : List Part) (ms : List Meaning) → AllFacts parts ms → AllPass r (sequence_moments s n g f parts)
    → given_from (sort_in g) (sort_in f) ms ≡ sort_in (joined_from g f parts)
sequence_given r s n g f [] [] o h = refl
sequence_given r s n g f [] (m ∷ ms) o h = absurd o
sequence_given r s n g f (a ∷ parts) [] o h = absurd o
sequence_given r s n g f (a ∷ parts) (m ∷ ms) o h =
    let p = split r (a.moments s n f) _ h in
    ap (λ x. given_from (join_sorts (sort_in g) x) (sort_in f) ms) (o.0.gives r s n f p.0)
    ∙ ap (λ x. given_from x (sort_in f) ms) (sym (sorts_joined g (a.type f).to))
    ∙ sequence_given (reach (fold reach r (a.moments s n f)) (ask s n (sequence_fails g f (a.type f) (is_last parts)))) s (n + a.size) (join g (a.type f).to) f parts ms o.1 p.1.1

sequence_gives : (r : Reached) (s n : ℕ) (f : Flow) (parts : List Part) (ms : List Meaning) → AllFacts parts ms → AllPass r (sequence_moments s n None f parts)
    → (all_of sequence_form ms).gives (sort_in f) ≡ sort_in (joined_outputs f parts)
sequence_gives r s n f [] [] o h = refl
sequence_gives r s n f [] (m ∷ ms) o h = absurd o
sequence_gives r s n f (a ∷ parts) [] o h = absurd o
sequence_gives r s n f (a ∷ parts) (m ∷ ms) o h =
    sym (given_all None (sort_in f) m ms)
    ∙ sequence_given r s n None f (a ∷ parts) (m ∷ ms) o h

pub sequence_facts : (parts : List Part) (ms : List Meaning) → AllFacts parts ms → Facts (sequence_part parts) (all_of sequence_form ms)
sequence_facts parts ms o = record {
  places = λ s n f.
      ended_places (sequence_moments s (n + 1) None f parts) s n 0 (places_of ms) (sequence_places s (n + 1) None f parts ms o)
      ∙ sym (all_places sequence_form (λ a b. refl) ms);
  bounds = λ s n f. ended_adds (sequence_moments s (n + 1) None f parts) s n 0 (bound_of (sequence_types f parts)) (sequence_adds s (n + 1) None f parts ms o);
  size = λ f. let e = sequence_sizes f parts ms o in omega arith;
  first = λ f. refl;
  gives = λ r s n f h. sequence_gives r s (n + 1) f parts ms o (split r (sequence_moments s (n + 1) None f parts) _ h).0;
}

-- ---- chains

chain_places : (s n : ℕ) (j : Join) (first : Bool) (f : Flow) (parts : List Part) (ms : List Meaning) → AllFacts parts ms
    → sites_in (chain_moments s n j first f parts) ≡ places_of ms
chain_places s n j first f [] [] o = refl
chain_places s n j first f [] (m ∷ ms) o = absurd o
chain_places s n j first f (a ∷ parts) [] o = absurd o
chain_places s n j first f (a ∷ parts) (m ∷ ms) o =
    sites_append (a.moments s n f) _ ∙ ap (λ l. l ++ sites_in (chain_moments s (n + a.size) j false (a.type f).to parts)) (o.0.places s n f)
    ∙ ap (λ l. m.places ++ l) (chain_places s (n + a.size) j false (a.type f).to parts ms o.1)

chain_adds : (s n : ℕ) (j : Join) (first : Bool) (f : Flow) (parts : List Part) (ms : List Meaning) → AllFacts parts ms
    → adds_in (chain_moments s n j first f parts) ≡ bound_of (chain_types f parts)
chain_adds s n j first f [] [] o = refl
chain_adds s n j first f [] (m ∷ ms) o = absurd o
chain_adds s n j first f (a ∷ parts) [] o = absurd o
chain_adds s n j first f (a ∷ parts) (m ∷ ms) o =
    let e = adds_append (a.moments s n f) (ask s n (member_fails j a.invertible (a.type f) first (is_last parts)) ∷ chain_moments s (n + a.size) j false (a.type f).to parts) in
    let b = o.0.bounds s n f in
    let c = chain_adds s (n + a.size) j false (a.type f).to parts ms o.1 in
    let d = bounds_append (a.types f) (chain_types (a.type f).to parts) in
    omega arith

chain_sizes : (f : Flow) (parts : List Part) (ms : List Meaning) → AllFacts parts ms → length (chain_types f parts) ≡ sizes parts
chain_sizes f [] [] o = refl
chain_sizes f [] (m ∷ ms) o = absurd o
chain_sizes f (a ∷ parts) [] o = absurd o
chain_sizes f (a ∷ parts) (m ∷ ms) o =
    let e = length-append (a.types f) (chain_types (a.type f).to parts) in
    let b = o.0.size f in
    let c = chain_sizes (a.type f).to parts ms o.1 in
    omega arith

-- what each gives that takes what the one before gives
abbrev given_along : stream.Flow → List Meaning → stream.Flow
given_along f [] = f
given_along f (m ∷ ms) = given_along (m.gives f) ms

joined_gives : (j : Join) (a b : Meaning) (f : stream.Flow) → (joined j a b).gives f ≡ b.gives (a.gives f)
joined_gives Join.Plain a b f = refl
joined_gives Join.Keep a b f = refl
joined_gives Join.Return a b f = refl
joined_gives Join.Both a b f = refl
joined_gives Join.Up a b f = refl
joined_gives Join.Asked a b f = refl

all_along : (j : Join) (f : stream.Flow) (ms : List Meaning) → (all_of (joined j) ms).gives f ≡ given_along f ms
all_along j f [] = refl
all_along j f (m ∷ []) = refl
all_along j f (m ∷ k ∷ ms) = joined_gives j m (all_of (joined j) (k ∷ ms)) f ∙ all_along j (m.gives f) (k ∷ ms)

chain_given : (r : Reached) (s n : ℕ) (j : Join) (first : Bool) (f : Flow) (parts : List Part) (ms : List Meaning) → AllFacts parts ms
    → AllPass r (chain_moments s n j first f parts) → given_along (sort_in f) ms ≡ sort_in (last_output f (member_types f parts))
chain_given r s n j first f [] [] o h = refl
chain_given r s n j first f [] (m ∷ ms) o h = absurd o
chain_given r s n j first f (a ∷ parts) [] o h = absurd o
chain_given r s n j first f (a ∷ parts) (m ∷ ms) o h =
    let p = split r (a.moments s n f) _ h in
    ap (λ x. given_along x ms) (o.0.gives r s n f p.0) ∙ chain_given (reach (fold reach r (a.moments s n f)) (ask s n (member_fails j a.invertible (a.type f) first (is_last parts)))) s (n + a.size) j false (a.type f).to parts ms o.1 p.1.1

pub chain_facts : (j : Join) (parts : List Part) (ms : List Meaning) → AllFacts parts ms → Facts (chain_part j parts) (all_of (joined j) ms)
chain_facts j parts ms o = record {
  places = λ s n f.
      ended_places (chain_moments s (n + 1) j true f parts) s n (chain_type j parts f).bound (places_of ms) (chain_places s (n + 1) j true f parts ms o)
      ∙ sym (all_places (joined j) (joined_places j) ms);
  bounds = λ s n f.
      ended_adds (chain_moments s (n + 1) j true f parts) s n (chain_type j parts f).bound (bound_of (chain_types f parts)) (chain_adds s (n + 1) j true f parts ms o);
  size = λ f. let e = chain_sizes f parts ms o in omega arith;
  first = λ f. refl;
  gives = λ r s n f h. all_along j (sort_in f) ms ∙ chain_given r s (n + 1) j true f parts ms o (split r (chain_moments s (n + 1) j true f parts) _ h).0;
}
