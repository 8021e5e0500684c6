-- A run that is on its way.
use Rattle.std.specs.Prelude.{◌≡◌, ◌≢◌, ◌<◌, ◌⊎◌, ℕ, ◌+◌, ◌-◌, List, [], ◌∷◌, ◌++◌, map, length, drop, get_or, Contains, IsTrue}
use Rattle.cd_meaning.specs.Opens.{OpensOnce}
use Rattle.cd_meaning.specs.Places.{Place, Reads, ReadsInput, Writes, Marks, bytes_at, place_in, told_whole}
use Rattle.cd_meaning.specs.Run.{Run}
use Rattle.cd_meaning.specs.RunShapes.{AtEnd, Mark, MayGoOn, Seen}
use Rattle.cd_typed.specs.declared.site.SiteInfo.{SiteInfo}
use Rattle.cd_typed.specs.Sites.{place_of}
use Rattle.cd_world.specs.declared.event.Event.{Event}
use Rattle.cd_world.specs.Files.{Files}
use Rattle.cd_scope.specs.declared.table.Held.{Held}
use Rattle.cd_scope.specs.Calls.{Call, did, event, given_of, left_open, mark_of, over}
use Rattle.cd_scope.specs.Due.{Clean, Due, Each, Fits, Setting}

-- the places of a script's sites, which count from 1; site 0 is where results are printed
abbrev pub places_of : List SiteInfo → ℕ → Place
places_of sites = place_in (map place_of sites)

-- what an outside tells: what was called, and what its files hold
pub record Outside : Type 0 where
  pub log : List Event
  pub files : Files

abbrev pub outside : List Event → Files → Outside
outside log files = record { log = log; files = files }

-- Over what the calls tell and any z behind it, m is what they did, and then what is still to be done: `todo` of all
-- that is seen, and of what is still to come.
abbrev pub Stands : (Seen → Run) → (Seen → Seen → Run) → List Call → Type 0
Stands m todo calls = (z : Seen) → m (over calls z) ≡ did calls (todo (over calls z) z)

-- so many bytes may still be read of a site, and one more, where so many were given; none where its end was told
abbrev pub MayBeRead : Setting → Mark → ℕ → ℕ → Type 0
MayBeRead g mark given left = ((mark ≡ AtEnd) × (left ≡ 0)) ⊎ ((mark ≡ MayGoOn) × (given + left ≡ g.limit + 1))

-- how much may still be read of each site
pub record Counted (g : Setting) (left : List ℕ) (calls : List Call) : Type 0 where
  pub counts : (s : ℕ) → s < length left → MayBeRead g (mark_of s calls) (length (given_of s calls)) (get_or left s 0)
  -- of a site that was not read, nothing was seen
  pub unread : (s : ℕ) → get_or left s 0 ≡ g.limit + 1 → (z : Seen) → over calls z s ≡ z s

-- ---- what the reads gave, by what the files held

-- the reads of a site gave a front of the file, before these bytes; all of it where its end was told
pub record IsFront (file more : List ℕ) (calls : List Call) (s : ℕ) : Type 0 where
  pub front : file ≡ given_of s calls ++ more
  pub whole : mark_of s calls ≡ AtEnd → more ≡ []

-- what is still to come of files that are seen up to the limit
abbrev pub to_come : Setting → List Call → (ℕ → List ℕ) → Seen
to_come g calls more s = told_whole (g.limit - length (given_of s calls)) (more s)

-- all that the files held before, up to the limit
abbrev pub files_seen : Setting → Outside → Seen
files_seen g w s = told_whole g.limit (bytes_at w.files.contents w.files.input (g.place s))

-- each descriptor and each site stands once
abbrev pub AreApart : List Held → Type 0
AreApart [] = Unit {0}
AreApart (h ∷ t) = ((k : Held) → Contains t k → (k.descriptor.0 ≢ h.descriptor.0) × (k.site.0 ≢ h.site.0)) × AreApart t

-- A name that is read is neither written nor marked, and one site at most reads standard input.
pub record AreSeparate (place : ℕ → Place) : Type 0 where
  pub names : (s t : ℕ) (name other : List ℕ) → place s ≡ Reads name → (place t ≡ Writes other) ⊎ (place t ≡ Marks other) → other ≢ name
  pub one_input : (s t : ℕ) → place s ≡ ReadsInput → place t ≡ ReadsInput → s ≡ t

-- f0 is what the files held before the calls, f what they hold now
pub record Filed (g : Setting) (calls : List Call) (t : List Held) (f0 f : Files) : Type 0 where
  pub more : ℕ → List ℕ
  pub fronts : (s : ℕ) → IsFront (bytes_at f0.contents f0.input (g.place s)) (more s) calls s
  -- with what is still to come, all is seen that the files held, up to the limit
  pub comes : (s : ℕ) → over calls (to_come g calls more) s ≡ told_whole g.limit (bytes_at f0.contents f0.input (g.place s))
  pub here : (h : Held) → Contains t h → (name : List ℕ) → g.place h.site.0 ≡ Reads name → f.given h.descriptor.0 ≡ length (given_of h.site.0 calls)
  pub contents : (s : ℕ) (name : List ℕ) → g.place s ≡ Reads name → f.contents name ≡ f0.contents name
  pub input : (s : ℕ) → g.place s ≡ ReadsInput → f.input ≡ drop (length (given_of s calls)) f0.input
  pub apart : AreApart t
  pub separate : AreSeparate g.place

-- A run from w0 to w: t is what it has open, left what it may read, m what is meant, and todo what of that is still to
-- be done, by all that is seen and by what is still to come.
pub record Going (g : Setting) (m : Seen → Run) (t : List Held) (left : List ℕ) (todo : Seen → Seen → Run) (w0 w : Outside) : Type 0 where
  pub calls : List Call
  pub log : w.log ≡ w0.log ++ map (event g.place) calls
  pub due : Each (Due m) calls
  pub fits : Each (Fits g) calls
  pub clean : Clean calls
  pub standing : left_open calls ≡ t
  pub stands : Stands m todo calls
  pub once : OpensOnce m
  pub counted : Counted g left calls
  pub filed : IsTrue g.tells → Filed g calls t w0.files w.files
