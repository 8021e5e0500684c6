-- The moments of typing a script.
--
-- Typing a script has an order: a part is begun, then the parts in it are typed from the left, and behind each of them stands what the part around it asks;
-- at last the part has its type. Each of these is a moment. It has a place, the conditions that fail there whatever stands before, the site that the part is, and
-- what its bound adds. Three conditions speak of the moments before: the name of a site, the number of sites and the sum of the bounds.
use Rattle.std.specs.Prelude.{ℕ, ◌+◌, ◌≡◌, Bool, true, false, nat_lt, nat_le, bytes_eq, List, [], ◌∷◌, ◌++◌, length, Option, Some, None}
use Rattle.std.specs.List.{fold, list_any}
use Rattle.cd_meaning.specs.Places.{Place, Reads, ReadsInput, Writes, Marks}
use Rattle.cd_types.specs.declared.refusal.RefusalKind.TheVariants.{NameTwice, BoundTooLarge, TooMany}
use Rattle.cd_types.specs.Conditions.{Fails, none_fails, fails_where, or_fails, lowest}
use Rattle.cd_types.specs.Limits.{site_limit, total_limit}

pub record Moment : Type 0 where
  pub statement : ℕ
  pub part : ℕ
  pub fails : Fails
  pub site : Option Place
  pub adds : Option ℕ

-- a part begins, which may be a site
abbrev pub begin_part : ℕ → ℕ → Fails → Option Place → Moment
begin_part statement part fails site = record { statement = statement; part = part; fails = fails; site = site; adds = None }

-- these conditions are asked at a part
abbrev pub ask : ℕ → ℕ → Fails → Moment
ask statement part fails = begin_part statement part fails None

-- a part has its type, and its bound is added
abbrev pub end_part : ℕ → ℕ → ℕ → Moment
end_part statement part bound = record { statement = statement; part = part; fails = none_fails; site = None; adds = Some bound }

-- ---- what the moments before have reached: their sites, and the sum of their bounds

pub record Reached : Type 0 where
  pub sites : List Place
  pub total : ℕ

abbrev pub nothing_reached : Reached
nothing_reached = record { sites = []; total = 0 }

abbrev pub with_site : List Place → Option Place → List Place
with_site sites None = sites
with_site sites (Some p) = sites ++ p ∷ []

abbrev pub with_adds : ℕ → Option ℕ → ℕ
with_adds total None = total
with_adds total (Some bound) = total + bound

-- behind a moment
abbrev pub reach : Reached → Moment → Reached
reach r m = record { sites = with_site r.sites m.site; total = with_adds r.total m.adds }

-- Two sites clash where both have one name and one of them writes or marks it, or both are standard input.
abbrev pub clash : Place → Place → Bool
clash (Reads a) (Writes b) = bytes_eq a b
clash (Reads a) (Marks b) = bytes_eq a b
clash (Writes a) (Reads b) = bytes_eq a b
clash (Writes a) (Writes b) = bytes_eq a b
clash (Writes a) (Marks b) = bytes_eq a b
clash (Marks a) (Reads b) = bytes_eq a b
clash (Marks a) (Writes b) = bytes_eq a b
clash (Marks a) (Marks b) = bytes_eq a b
clash ReadsInput ReadsInput = true
clash _ _ = false

-- of a site behind these: a name that clashes, and the 129th
abbrev pub site_fails : List Place → Option Place → Fails
site_fails sites None = none_fails
site_fails sites (Some p) = or_fails (fails_where NameTwice (list_any (clash p) sites)) (fails_where TooMany (nat_le site_limit (length sites)))

-- of a bound behind this sum
abbrev pub total_fails : ℕ → Option ℕ → Fails
total_fails total None = none_fails
total_fails total (Some bound) = fails_where BoundTooLarge (nat_lt total_limit (total + bound))

-- The conditions that fail at a moment. They speak of what stands before it alone.
abbrev pub fails_at : Reached → Moment → Fails
fails_at r m = or_fails (site_fails r.sites m.site) (or_fails (total_fails r.total m.adds) m.fails)

-- what these moments reach
abbrev pub reached_by : List Moment → Reached
reached_by ms = fold reach nothing_reached ms

-- no condition fails at any of these moments, behind what was reached
abbrev pub AllPass : Reached → List Moment → Type 0
AllPass r [] = Unit {0}
AllPass r (m ∷ more) = (lowest (fails_at r m) ≡ None) × AllPass (reach r m) more
