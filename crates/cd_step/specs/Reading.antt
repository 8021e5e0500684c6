-- Stages that are scans: the state that is carried, and the unread values.
use Rattle.std.specs.Prelude.{◌≡◌, ℕ, ◌⊎◌, Bool, true, false, List, [], ◌∷◌, ◌++◌, Option, Some, None}
use Rattle.cd_elem.specs.declared.kind.Kind.{Kind}
use Rattle.cd_meaning.specs.Stream.{Item, Value, Act}
use Rattle.cd_meaning.specs.Run.{stamp, Ends, acts_at}
use Rattle.cd_meaning.specs.Rest.{Rest, Grade, pending, fresh}
use Rattle.cd_meaning.specs.Scan.{Scan, Go, Back, scan}
use Rattle.cd_step.specs.Parts.{At, Part}

-- what is left of a scan, with u unread; and once the end was told
abbrev pub scan_rest : {S : Type 0} → Scan S → Bool → S → List Item → Rest
scan_rest w false st u = pending u 0 (fresh (scan w 0 st))
scan_rest w true st u = record { unread = []; floor = 1; run = λ ys e. acts_at (stamp 1 0) (w.close st) (Ends (stamp 1 0) (w.ending st)) }

-- what is left of a part that gives these acts before all else
abbrev pub acting : List Act → Rest → Rest
acting acts p = record { unread = p.unread; floor = p.floor; run = λ ys e. acts_at (stamp p.floor 0) acts (p.run ys e) }

-- a part without sites of which this is left, and which holds n
abbrev pub part_of : At → Grade → Option Kind → Option Kind → ℕ → ℕ → Rest → Part
part_of at g gives takes room n p = record {
  at = at;
  grade = g;
  sites = λ s. false;
  gives = gives;
  takes = takes;
  room = room;
  held = n;
  tickets = λ s d. false;
  unread = p.unread;
  floor = p.floor;
  run = λ z. p.run;
}

-- from st the values are read, with these acts, up to the state t
abbrev pub IsRead : {S : Type 0} → Scan S → S → List Item → List Act → S → Type 0
IsRead w st [] acts t = (acts ≡ []) × (st ≡ t)
IsRead w st (x ∷ xs) acts t = (a : List Act) × (b : List Act) × (m : _) × (w.ready st ≡ None) × (w.step st x ≡ Go a m) × (acts ≡ a ++ b) × IsRead w m xs b t

-- the same with no act
abbrev pub IsSilent : {S : Type 0} → Scan S → S → List Item → S → Type 0
IsSilent w st [] t = st ≡ t
IsSilent w st (x ∷ xs) t = (m : _) × (w.ready st ≡ None) × (w.step st x ≡ Go [] m) × IsSilent w m xs t

-- in the state t it ends with v: it asks for no further value, or it gives back the value that is next
abbrev pub IsLast : {S : Type 0} → Scan S → S → List Item → Value → Type 0
IsLast w t rest v = (w.ready t ≡ Some v) ⊎ ((x : Item) × (u : List Item) × (rest ≡ x ∷ u) × (w.ready t ≡ None) × (w.step t x ≡ Back v))

-- from st the values are read with no act, and behind them it ends with v
pub record IsDone {S : Type 0} (w : Scan S) (st : S) (read rest : List Item) (v : Value) : Type 0 where
  pub last : S
  pub silent : IsSilent w st read last
  pub ends : IsLast w last rest v
