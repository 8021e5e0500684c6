-- What a part of a pipe means, by the sort of what it takes, and what operators and forms make of parts.
use Rattle.std.specs.Prelude.{ℕ, suc, ◌+◌, List, [], ◌∷◌, ◌++◌, length, Some, None}
use Rattle.cd_meaning.specs.Stream.{Sort, Flow}
use Rattle.cd_meaning.specs.Run.{Component}
use Rattle.cd_meaning.specs.RunShapes.{Seen}
use Rattle.cd_meaning.specs.Places.{Place, Marks}
use Rattle.cd_meaning.specs.Sources.{marked}
use Rattle.cd_meaning.specs.Sorts.{sort_of, join, list_of, literal_at}
use Rattle.cd_meaning.specs.Fusion.{fuse, fuse_keep, fuse_return, fuse_both, fuse_up, fuse_asked}
use Rattle.cd_meaning.specs.Sections.{exactly, line, sequence}
use Rattle.cd_meaning.specs.Zips.{zip_source, zip_sink, tee}

-- What a part stands for: what it does at each of its sites, in their order, what it gives where this comes to it,
-- and its run on that, where its first site has this number.
pub record Meaning : Type 0 where
  pub places : List Place
  pub gives : Flow → Flow
  pub run : Flow → ℕ → Seen → Component

-- what a word gives: what it takes, nothing, or always values of one sort
abbrev pub same : Flow → Flow
same f = f

abbrev pub nothing : Flow → Flow
nothing f = None

abbrev pub always : Sort → Flow → Flow
always k f = Some k

-- a word with no site, by the sort of what it takes
abbrev pub plain : (Flow → Flow) → (Sort → Component) → Meaning
plain gives c = record { places = []; gives = gives; run = λ f s seen. c (sort_of f) }

-- a word with a site
abbrev pub at_site : Place → (Flow → Flow) → (ℕ → Seen → Component) → Meaning
at_site place gives c = record { places = place ∷ []; gives = gives; run = λ f s seen. c s seen }

-- Two parts, of which the first has the first sites. The second takes what the first gives.
abbrev pub chained : (Flow → Component → Component → Component) → Meaning → Meaning → Meaning
chained op a b = record {
  places = a.places ++ b.places;
  gives = λ f. b.gives (a.gives f);
  run = λ f s seen. op (a.gives f) (a.run f s seen) (b.run (a.gives f) (s + length a.places) seen);
}

-- Two parts that take the same, of which the first has the first sites.
abbrev pub beside : (Component → Component → Component) → Meaning → Meaning → Meaning
beside op a b = record {
  places = a.places ++ b.places;
  gives = λ f. join (a.gives f) (b.gives f);
  run = λ f s seen. op (a.run f s seen) (b.run f (s + length a.places) seen);
}

-- one part within a form that has no site and gives what the part gives
abbrev pub within : (Component → Component) → Meaning → Meaning
within op a = record { places = a.places; gives = a.gives; run = λ f s seen. op (a.run f s seen) }

-- ---- operators, between two parts

-- `|`
abbrev pub piped : Meaning → Meaning → Meaning
piped = chained (λ f. fuse)

-- `|=`
abbrev pub piped_keep : Meaning → Meaning → Meaning
piped_keep = chained (λ f. fuse_keep)

-- `|+`: the sort of the list is that of what the first part gives
abbrev pub piped_return : Meaning → Meaning → Meaning
piped_return = chained (λ f. fuse_return (list_of (sort_of f)))

-- `|&`
abbrev pub piped_both : Meaning → Meaning → Meaning
piped_both = chained (λ f. fuse_both)

-- `|<`
abbrev pub piped_up : Meaning → Meaning → Meaning
piped_up = chained (λ f. fuse_up)

-- `|?`
abbrev pub piped_asked : Meaning → Meaning → Meaning
piped_asked = chained (λ f. fuse_asked)

-- ---- forms

-- `{ a; b }`
abbrev pub sequence_form : Meaning → Meaning → Meaning
sequence_form = beside sequence

abbrev pub exactly_form : ℕ → Meaning → Meaning
exactly_form n = within (exactly n)

-- `exactlyE` counts elements as `exactly` counts pieces
abbrev pub exactly_e_form : ℕ → Meaning → Meaning
exactly_e_form = exactly_form

abbrev pub line_e_form : Meaning → Meaning
line_e_form = within line

-- the marked file is the first site
abbrev pub mark_form : List ℕ → Meaning → Meaning
mark_form name a = record { places = Marks name ∷ a.places; gives = a.gives; run = λ f s seen. marked s (a.run f (suc s) seen) }

abbrev pub tee_form : Meaning → Meaning
tee_form a = record { places = a.places; gives = same; run = λ f s seen. tee (a.run f s seen) }

-- the literal stands between pieces of the sort that both parts give on nothing
abbrev pub zip_source_form : List ℕ → Meaning → Meaning → Meaning
zip_source_form literal a b =
    let flow = join (a.gives None) (b.gives None) in
    record {
      places = a.places ++ b.places;
      gives = λ f. flow;
      run = λ f s seen. zip_source (literal_at (sort_of flow) literal) (a.run None s seen) (b.run None (s + length a.places) seen);
    }

abbrev pub zip_sink_form : Meaning → Meaning → Meaning
zip_sink_form = beside zip_sink

-- `zipConduit` is the same of parts that give values
abbrev pub zip_conduit_form : Meaning → Meaning → Meaning
zip_conduit_form = zip_sink_form
