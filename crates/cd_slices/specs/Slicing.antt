-- Pieces that are sifted as they are cut, and counted or joined: the scan.
use Rattle.std.specs.Prelude.{ℕ, zero, suc, ◌+◌, ◌-◌, ◌||◌, Bool, true, false, if◌then◌else◌, List, [], ◌∷◌, Option, Some, None}
use Rattle.cd_meaning.specs.Stream.{Sort, Piece, Value, Done, Act, Out, Do}
use Rattle.cd_meaning.specs.RunShapes.{as_count, elements}
use Rattle.cd_meaning.specs.Classes.{passes_test}
use Rattle.cd_meaning.specs.Scan.{Scan, Reply, Go, Back, Fail}
use Rattle.cd_split.specs.declared.rule.CutRule.{CutRule}
use Rattle.cd_split.specs.Cutting.{Line, cut_scan}
use Rattle.cd_split.specs.Joining.{joined}
use Rattle.cd_slices.specs.declared.sieve.Sieve.{Sieve}
use Rattle.cd_slices.specs.declared.sieve.Sieve.TheVariants as sieve
use Rattle.cd_slices.specs.declared.sieve.Verdict.{Verdict}
use Rattle.cd_slices.specs.declared.sieve.Verdict.TheVariants.{Keeps, Drops, Refuses}
use Rattle.cd_slices.specs.declared.tail.SliceEnd.{SliceEnd}
use Rattle.cd_slices.specs.declared.tail.SliceEnd.TheVariants as last

-- ---- sieves

-- what becomes of a piece
abbrev pub verdict : Sieve → List ℕ → Verdict
verdict sieve.Pass p = Keeps
verdict (sieve.Take zero) p = Drops
verdict (sieve.Take (suc n)) p = Keeps
verdict (sieve.TakeWhile t) p = if passes_test t Sort.Block p then Keeps else Refuses
verdict (sieve.Filter t) p = if passes_test t Sort.Block p then Keeps else Drops

-- the sieve behind a piece that came to it
abbrev pub behind : Sieve → Sieve
behind sieve.Pass = sieve.Pass
behind (sieve.Take n) = sieve.Take (n - 1)
behind (sieve.TakeWhile t) = sieve.TakeWhile t
behind (sieve.Filter t) = sieve.Filter t

-- it takes no further piece
abbrev pub takes_none : Sieve → Bool
takes_none (sieve.Take zero) = true
takes_none _ = false

-- ---- sieves in a row

abbrev pub then_by : Verdict → Verdict → Verdict
then_by Keeps v = v
then_by Drops v = Drops
then_by Refuses v = Refuses

abbrev pub sieved : List Sieve → List ℕ → Verdict
sieved [] p = Keeps
sieved (w ∷ ws) p = then_by (verdict w p) (sieved ws p)

-- those behind a sieve meet what it keeps
abbrev pub met : Verdict → List Sieve → List Sieve → List Sieve
met Keeps ws vs = vs
met Drops ws vs = ws
met Refuses ws vs = ws

-- the sieves behind a piece
abbrev pub left_of : List Sieve → List ℕ → List Sieve
left_of [] p = []
left_of (w ∷ ws) p = behind w ∷ met (verdict w p) ws (left_of ws p)

abbrev pub is_spent : List Sieve → Bool
is_spent [] = false
is_spent (w ∷ ws) = takes_none w || is_spent ws

-- ---- what is made of the pieces that come through

-- they are given as they are, counted, or joined to elements with line ends or without
pub data Sink : Type 0 where
  Pieces : Sink
  Count : ℕ → Sink
  Join : Bool → Sink

abbrev pub sink_acts : Sink → List ℕ → List Act
sink_acts Pieces p = Out (Piece p) ∷ []
sink_acts (Count n) p = []
sink_acts (Join lines) p = joined lines p

abbrev pub sink_next : Sink → Sink
sink_next Pieces = Pieces
sink_next (Count n) = Count (as_count (n + 1))
sink_next (Join lines) = Join lines

abbrev pub sink_value : Sink → Value
sink_value Pieces = Value.Unit
sink_value (Count n) = Value.Num n
sink_value (Join lines) = Value.Unit

abbrev pub sink_of : SliceEnd → Sink
sink_of (last.Count n) = Count n
sink_of (last.Join lines) = Join lines

-- ---- the words behind the splitter

pub record Standing : Type 0 where
  pub sieves : List Sieve
  -- a piece was refused
  pub over : Bool
  pub sink : Sink

abbrev pub standing : List Sieve → Bool → Sink → Standing
standing ws over k = record { sieves = ws; over = over; sink = k }

-- no further piece is taken
abbrev pub is_ready : Standing → Bool
is_ready s = s.over || is_spent s.sieves

-- what they do with a piece
abbrev pub judged : Verdict → List Sieve → Sink → List ℕ → List Act × Standing
judged Keeps ws k p = (sink_acts k p, standing ws false (sink_next k))
judged Drops ws k p = ([], standing ws false k)
judged Refuses ws k p = ([], standing ws true k)

abbrev pub taken_in : Standing → List ℕ → List Act × Standing
taken_in s p = judged (sieved s.sieves p) (left_of s.sieves p) s.sink p

-- what they do with what the splitter gives at once, at most one piece
abbrev pub sifted : Standing → List Act → List Act × Standing
sifted s [] = ([], s)
sifted s (Out x ∷ more) = taken_in s (elements x)
sifted s (Do e ∷ more) = ([], s)

-- ---- the scan

abbrev pub sift_reply : Standing → Reply Line → Reply (Line × Standing)
sift_reply s (Go acts l) = Go (sifted s acts).0 (l, (sifted s acts).1)
sift_reply s (Back v) = Back v
sift_reply s (Fail f) = Fail f

-- the value, where no further piece is taken
abbrev pub value_if : Bool → Sink → Option Value
value_if true k = Some (sink_value k)
value_if false k = None

abbrev pub slice_scan : CutRule → Scan (Line × Standing)
slice_scan r = record {
  ready = λ s. value_if (is_ready s.1) s.1.sink;
  step = λ s x. sift_reply s.1 ((cut_scan r).step s.0 x);
  close = λ s. (sifted s.1 ((cut_scan r).close s.0)).0;
  ending = λ s. Done (sink_value (sifted s.1 ((cut_scan r).close s.0)).1.sink);
}
