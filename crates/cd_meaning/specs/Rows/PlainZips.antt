-- Two parts on one input as the rule says it: whose act comes first, how they end, and where one stops.
use Rattle.std.specs.Prelude.{◌≡◌, List, ℕ, refl, [], codes, map}
use Rattle.cd_meaning.specs.Stream.{Item, Elem, Ended, Value, bad_hex}
use Rattle.cd_meaning.specs.ElementWords.{counted, passed, taken}
use Rattle.cd_meaning.specs.Base.{hex_decode}
use Rattle.cd_meaning.specs.PlainZips.{plain_zip}
use Rattle.cd_meaning.specs.Rows.Given.{at_end, done_at, gives_elem, stops_at, waiting, waits_past}

abbrev of : List ℕ → List Item
of = map Elem

zip_empty : plain_zip passed passed [] Ended ≡ at_end 0
zip_empty = refl

-- at one need the first part's act comes first
zip_first : plain_zip hex_decode passed (of (codes "41")) Ended ≡ gives_elem 1 52 (gives_elem 2 65 (gives_elem 2 49 (at_end 2)))
zip_first = refl

zip_second : plain_zip passed hex_decode (of (codes "41")) Ended ≡ gives_elem 1 52 (gives_elem 2 49 (gives_elem 2 65 (at_end 2)))
zip_second = refl

-- both are done at the larger need, with both values
zip_values : plain_zip (taken 1) counted (of (codes "ab")) Ended ≡ gives_elem 1 97 (done_at 3 2 (Value.Pair Value.Unit (Value.Num 2)))
zip_values = refl

zip_done_early : plain_zip (taken 1) (taken 2) (of (codes "abc")) waiting ≡ gives_elem 1 97 (gives_elem 1 97 (gives_elem 2 98 (done_at 2 2 Value.Unit)))
zip_done_early = refl

-- a part stops behind what it did, and ahead of what the second does at that need
zip_stops : plain_zip hex_decode passed (of (codes "zz")) Ended ≡ gives_elem 1 122 (stops_at 2 2 (bad_hex 0))
zip_stops = refl

zip_second_stops : plain_zip passed hex_decode (of (codes "zz")) Ended ≡ gives_elem 1 122 (gives_elem 2 122 (stops_at 2 2 (bad_hex 0)))
zip_second_stops = refl

zip_waits : plain_zip passed (taken 9) (of (codes "a")) waiting ≡ gives_elem 1 97 (gives_elem 1 97 (waits_past 1))
zip_waits = refl
