-- Sources, sinks and `mark`: the words with sites, and lists that are given.
use Rattle.std.specs.Prelude.{ℕ, zero, suc, ◌-◌, List, [], ◌∷◌, length, map, decimal}
use Rattle.cd_meaning.specs.Stream.{Item, Elem, Piece, Value, More, Stop, Reading, ReadBad, Long, End, Ended, Halted, Done, Halts, Act, Do, Open, Put, Close}
use Rattle.cd_meaning.specs.Run.{stamp, start, Run, Then, Ends, Component, acts_at, outs_at, past, follow}
use Rattle.cd_meaning.specs.RunShapes.{each, each_to_end, Mark, AtEnd, MayGoOn, Broken, TooLong, Told}

-- behind the bytes of a source at site s, which does these acts at its end
abbrev pub source_end : ℕ → List Act → Mark → Run
source_end s acts AtEnd = acts_at start acts (Ends start (Done Value.Unit))
source_end s acts MayGoOn = Ends start (Halts (More (Reading s)))
source_end s acts Broken = Ends start (Halts (Stop (ReadBad s)))
source_end s acts TooLong = Ends start (Halts (Stop (Long s)))

-- it opens the file, gives its bytes, and closes it at its end
abbrev pub source_file : ℕ → Told → Component
source_file s t xs e = Then start (Do (Open s)) (outs_at start (map Elem t.bytes) (source_end s (Do (Close s) ∷ []) t.mark))

-- the same, but it neither opens nor closes
abbrev pub stdin : ℕ → Told → Component
stdin s t xs e = outs_at start (map Elem t.bytes) (source_end s [] t.mark)

-- values that stand in the script
abbrev pub given : List Item → Component
given ys xs e = outs_at start ys (Ends start (Done Value.Unit))

-- n numbers from a on
abbrev pub count_from : ℕ → ℕ → List ℕ
count_from a zero = []
count_from a (suc n) = a ∷ count_from (suc a) n

-- the decimal texts of a to b
abbrev pub decimals : ℕ → ℕ → List Item
decimals a b = map (λ n. Piece (decimal n)) (count_from a (suc b - a))

-- the site s puts each element; the typing lets no piece come to a sink
abbrev pub puts : ℕ → Item → List Act
puts s (Elem x) = Do (Put s x) ∷ []
puts s (Piece xs) = []

abbrev pub stdout : ℕ → Component
stdout s = each_to_end (puts s)

-- the site s is closed at the end of n values
abbrev pub closing : ℕ → ℕ → End → Run
closing s n Ended = Then (stamp (suc n) n) (Do (Close s)) (past n Ended Value.Unit)
closing s n (Halted h) = past n (Halted h) Value.Unit

-- it opens the file before it asks for a value, and closes it at the end
abbrev pub sink_file : ℕ → Component
sink_file s xs e = Then start (Do (Open s)) (each (puts s) 0 xs (closing s (length xs) e))

-- the body between the opening of site s and its closing
abbrev pub marked : ℕ → Component → Component
marked s body xs e = Then start (Do (Open s)) (follow (body xs e) (λ t v. Then t (Do (Close s)) (Ends t (Done v))))
