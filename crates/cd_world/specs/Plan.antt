-- How the calls on a member of a world in memory are cut, and which of them fail.
use Rattle.std.specs.Prelude.{◌≡◌, ℕ, zero, suc, ◌+◌, ◌-◌, ◌^◌, ◌==◌, min, max, Bool, true, false, List, [], ◌∷◌, Option, Some, None, option_map, Result, Ok, Err, if◌then◌else◌}
use Rattle.std.specs.List.{list_any}
use Rattle.std.specs.Str.{bytes_eq}
use Rattle.cd_world.specs.declared.plan.Call.{Call}
use Rattle.cd_world.specs.declared.plan.Call.TheVariants.{Opening, Reading, Writing, Closing}
use Rattle.cd_world.specs.declared.plan.Fail.{Fail}
use Rattle.cd_world.specs.declared.plan.Fail.TheVariants.{Opening as FailOpening, Reading as FailReading, Writing as FailWriting, Closing as FailClosing}
use Rattle.cd_world.specs.declared.plan.Plan.{Plan}
use Rattle.cd_world.specs.declared.world.WorldError.{WorldError}
use Rattle.cd_world.specs.declared.world.WorldError.TheVariants.{Failed, NoMemory}

-- this failure is the call of this sort with this number
abbrev pub is_call : Call → ℕ → Fail → Bool
is_call Opening number (FailOpening k) = k == number
is_call Opening number (FailReading k) = false
is_call Opening number (FailWriting k) = false
is_call Opening number (FailClosing k) = false
is_call Reading number (FailOpening k) = false
is_call Reading number (FailReading k) = k == number
is_call Reading number (FailWriting k) = false
is_call Reading number (FailClosing k) = false
is_call Writing number (FailOpening k) = false
is_call Writing number (FailReading k) = false
is_call Writing number (FailWriting k) = k == number
is_call Writing number (FailClosing k) = false
is_call Closing number (FailOpening k) = false
is_call Closing number (FailReading k) = false
is_call Closing number (FailWriting k) = false
is_call Closing number (FailClosing k) = k == number

-- how many calls of this sort there were
abbrev pub calls_of : Call → Plan → ℕ
calls_of Opening p = p.opens
calls_of Reading p = p.reads
calls_of Writing p = p.writes
calls_of Closing p = p.closes

-- one call more, where a count stays at its end
abbrev pub one_more : ℕ → ℕ
one_more n = min (n + 1) (2 ^ 64 - 1)

abbrev pub with_call : Call → Plan → Plan
with_call Opening p = record p { opens = one_more p.opens }
with_call Reading p = record p { reads = one_more p.reads }
with_call Writing p = record p { writes = one_more p.writes }
with_call Closing p = record p { closes = one_more p.closes }

-- the next call of this sort fails
abbrev pub is_failing : Call → Plan → Bool
is_failing call p = list_any (is_call call (one_more (calls_of call p))) p.fails

-- so many bytes, cut by the cut at this place, of which 0 counts as 1; behind the list there is no cut
abbrev pub cut : List ℕ → ℕ → ℕ → ℕ
cut [] place count = count
cut (most ∷ cuts) zero count = min count (max most 1)
cut (most ∷ cuts) (suc place) count = cut cuts place count

-- the same of a name that may have no plan: its calls are not cut, and none of them fails

abbrev pub fails_next : Call → Option Plan → Bool
fails_next call None = false
fails_next call (Some p) = is_failing call p

abbrev pub read_cut : Option Plan → ℕ → ℕ
read_cut None count = count
read_cut (Some p) count = cut p.read_cuts p.reads count

abbrev pub write_cut : Option Plan → ℕ → ℕ
write_cut None count = count
write_cut (Some p) count = cut p.write_cuts p.writes count

-- one call more on this name
abbrev pub counted : Call → List ℕ → (List ℕ → Option Plan) → List ℕ → Option Plan
counted call name plans other = if bytes_eq name other then option_map (with_call call) (plans other) else plans other

-- what an answered call leaves: one that was refused for memory leaves all
abbrev pub after : {A T : Type 0} → Result T WorldError → (A → A) → A → A
after (Ok x) change a = change a
after (Err Failed) change a = change a
after (Err NoMemory) change a = a

-- a call fails exactly where this is so, and memory is found
abbrev pub FailsWhere : {T : Type 0} → Bool → Result T WorldError → Type 0
FailsWhere fails (Ok x) = fails ≡ false
FailsWhere fails (Err Failed) = fails ≡ true
FailsWhere fails (Err NoMemory) = Unit {0}
