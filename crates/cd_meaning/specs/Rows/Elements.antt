-- The words on elements, each on an empty input, an input that ends before the word does, one that waits, and where the word ends by itself.
use Rattle.std.specs.Prelude.{◌≡◌, refl, [], ◌∷◌, ◌+◌, codes, true, false}
use Rattle.cd_meaning.specs.Stream.{bad_hex, Ended, Halted, Stop, Value, absent, present}
use Rattle.cd_meaning.specs.RunShapes.{as_count}
use Rattle.cd_meaning.specs.Rows.Short.{add, all_e, any_e, collect_e, digit, drop_e, drop_while_e, filter_e, head_e, last_e, length_e, map_e, null_e, pass_e, peek_e, repeat_e, rot13, sink_null, space, sum_e, take_e, take_while_e, xor}
use Rattle.cd_meaning.specs.Rows.Given.{rows, at_end, done_at, gives_elem, on_blocks, on_bytes, on_chars, stops_at, waiting, waits_past}

-- `passE`
pass_e_empty : on_bytes pass_e [] Ended ≡ at_end 0
pass_e_empty = simp rows

pass_e_short : on_bytes pass_e (codes "ab") Ended ≡ gives_elem 1 97 (gives_elem 2 98 (at_end 2))
pass_e_short = simp rows

pass_e_waits : on_bytes pass_e (codes "ab") waiting ≡ gives_elem 1 97 (gives_elem 2 98 (waits_past 2))
pass_e_waits = simp rows

pass_e_fault : on_bytes pass_e (codes "a") (Halted (Stop (bad_hex 7))) ≡ gives_elem 1 97 (stops_at 2 1 (bad_hex 7))
pass_e_fault = simp rows

-- `takeE`: of three values it does not ask for the fourth
take_e_empty : on_bytes (take_e 3) [] Ended ≡ at_end 0
take_e_empty = simp rows

take_e_short : on_bytes (take_e 3) (codes "ab") Ended ≡ gives_elem 1 97 (gives_elem 2 98 (at_end 2))
take_e_short = simp rows

take_e_waits : on_bytes (take_e 3) (codes "ab") waiting ≡ gives_elem 1 97 (gives_elem 2 98 (waits_past 2))
take_e_waits = simp rows

take_e_ends : on_bytes (take_e 3) (codes "abc") waiting ≡ gives_elem 1 97 (gives_elem 2 98 (gives_elem 3 99 (done_at 3 3 Value.Unit)))
take_e_ends = simp rows

take_e_none : on_bytes (take_e 0) (codes "abc") waiting ≡ done_at 0 0 Value.Unit
take_e_none = simp rows

-- `takeWhileE`: the first value that fails is given back
take_while_e_empty : on_bytes (take_while_e digit) [] Ended ≡ at_end 0
take_while_e_empty = simp rows

take_while_e_short : on_bytes (take_while_e digit) (codes "12") Ended ≡ gives_elem 1 49 (gives_elem 2 50 (at_end 2))
take_while_e_short = simp rows

take_while_e_waits : on_bytes (take_while_e digit) (codes "12") waiting ≡ gives_elem 1 49 (gives_elem 2 50 (waits_past 2))
take_while_e_waits = simp rows

take_while_e_ends : on_bytes (take_while_e digit) (codes "1x2") waiting ≡ gives_elem 1 49 (done_at 2 1 Value.Unit)
take_while_e_ends = simp rows

-- `filterE`
filter_e_empty : on_bytes (filter_e digit) [] Ended ≡ at_end 0
filter_e_empty = simp rows

filter_e_short : on_bytes (filter_e digit) (codes "a1b") Ended ≡ gives_elem 2 49 (at_end 3)
filter_e_short = simp rows

filter_e_waits : on_bytes (filter_e digit) (codes "a1b2") waiting ≡ gives_elem 2 49 (gives_elem 4 50 (waits_past 4))
filter_e_waits = simp rows

-- `mapE`: `add` counts modulo 256
map_e_empty : on_bytes (map_e (xor 1)) [] Ended ≡ at_end 0
map_e_empty = simp rows

map_e_short : on_bytes (map_e (xor 1)) (codes "ab") Ended ≡ gives_elem 1 96 (gives_elem 2 99 (at_end 2))
map_e_short = simp rows

map_e_waits : on_bytes (map_e (add 200)) (codes "ad") waiting ≡ gives_elem 1 41 (gives_elem 2 44 (waits_past 2))
map_e_waits = simp rows

map_e_chars : on_chars (map_e rot13) (97 ∷ 8364 ∷ 90 ∷ []) Ended ≡ gives_elem 1 110 (gives_elem 2 8364 (gives_elem 3 77 (at_end 3)))
map_e_chars = simp rows

-- `repeatE`
repeat_e_empty : on_bytes (repeat_e 2) [] Ended ≡ at_end 0
repeat_e_empty = simp rows

repeat_e_short : on_bytes (repeat_e 2) (codes "ab") Ended ≡ gives_elem 1 97 (gives_elem 1 97 (gives_elem 2 98 (gives_elem 2 98 (at_end 2))))
repeat_e_short = simp rows

repeat_e_waits : on_bytes (repeat_e 2) (codes "a") waiting ≡ gives_elem 1 97 (gives_elem 1 97 (waits_past 1))
repeat_e_waits = simp rows

repeat_e_none : on_bytes (repeat_e 0) (codes "ab") Ended ≡ at_end 2
repeat_e_none = simp rows

-- `dropE`
drop_e_empty : on_bytes (drop_e 3) [] Ended ≡ at_end 0
drop_e_empty = simp rows

drop_e_short : on_bytes (drop_e 3) (codes "ab") Ended ≡ at_end 2
drop_e_short = simp rows

drop_e_waits : on_bytes (drop_e 3) (codes "ab") waiting ≡ waits_past 2
drop_e_waits = simp rows

drop_e_ends : on_bytes (drop_e 3) (codes "abcd") waiting ≡ done_at 3 3 Value.Unit
drop_e_ends = simp rows

drop_e_none : on_bytes (drop_e 0) [] waiting ≡ done_at 0 0 Value.Unit
drop_e_none = simp rows

-- `dropWhileE`
drop_while_e_empty : on_bytes (drop_while_e space) [] Ended ≡ at_end 0
drop_while_e_empty = simp rows

drop_while_e_short : on_bytes (drop_while_e space) (codes "  ") Ended ≡ at_end 2
drop_while_e_short = simp rows

drop_while_e_waits : on_bytes (drop_while_e space) (codes "  ") waiting ≡ waits_past 2
drop_while_e_waits = simp rows

drop_while_e_ends : on_bytes (drop_while_e space) (codes "  a ") waiting ≡ done_at 3 2 Value.Unit
drop_while_e_ends = simp rows

-- `headE` takes a value, `peekE` gives it back
head_e_empty : on_bytes head_e [] Ended ≡ done_at 1 0 absent
head_e_empty = simp rows

head_e_waits : on_bytes head_e [] waiting ≡ waits_past 0
head_e_waits = simp rows

head_e_bytes : on_bytes head_e (codes "ab") waiting ≡ done_at 1 1 (present (Value.Byte 97))
head_e_bytes = simp rows

head_e_chars : on_chars head_e (8364 ∷ 97 ∷ []) Ended ≡ done_at 1 1 (present (Value.Char 8364))
head_e_chars = simp rows

peek_e_empty : on_bytes peek_e [] Ended ≡ done_at 1 0 absent
peek_e_empty = simp rows

peek_e_waits : on_bytes peek_e [] waiting ≡ waits_past 0
peek_e_waits = simp rows

peek_e_bytes : on_bytes peek_e (codes "ab") waiting ≡ done_at 1 0 (present (Value.Byte 97))
peek_e_bytes = simp rows

peek_e_chars : on_chars peek_e (8364 ∷ []) Ended ≡ done_at 1 0 (present (Value.Char 8364))
peek_e_chars = simp rows

-- `lastE`
last_e_empty : on_bytes last_e [] Ended ≡ done_at 1 0 absent
last_e_empty = simp rows

last_e_short : on_bytes last_e (codes "abc") Ended ≡ done_at 4 3 (present (Value.Byte 99))
last_e_short = simp rows

last_e_waits : on_bytes last_e (codes "abc") waiting ≡ waits_past 3
last_e_waits = simp rows

-- `lengthE`
length_e_empty : on_bytes length_e [] Ended ≡ done_at 1 0 (Value.Num 0)
length_e_empty = simp rows

length_e_short : on_chars length_e (97 ∷ 8364 ∷ []) Ended ≡ done_at 3 2 (Value.Num 2)
length_e_short = simp rows

length_e_waits : on_bytes length_e (codes "ab") waiting ≡ waits_past 2
length_e_waits = simp rows

-- `sumE`: 250 and 10 are 260
sum_e_empty : on_bytes sum_e [] Ended ≡ done_at 1 0 (Value.Num 0)
sum_e_empty = simp rows

sum_e_short : on_bytes sum_e (250 ∷ 10 ∷ []) Ended ≡ done_at 3 2 (Value.Num 260)
sum_e_short = simp rows

sum_e_waits : on_bytes sum_e (250 ∷ 10 ∷ []) waiting ≡ waits_past 2
sum_e_waits = simp rows

-- sums and counts stay at the greatest number that there is
sum_e_below_greatest : on_bytes sum_e (18446744073709551612 ∷ 1 ∷ 1 ∷ []) Ended ≡ done_at 4 3 (Value.Num 18446744073709551614)
sum_e_below_greatest = simp rows

sum_e_past_greatest : on_bytes sum_e (18446744073709551612 ∷ 1 ∷ 1 ∷ 200 ∷ 7 ∷ []) Ended ≡ done_at 6 5 (Value.Num 18446744073709551615)
sum_e_past_greatest = simp rows

sum_e_one_past : on_bytes sum_e (18446744073709551615 ∷ 1 ∷ []) Ended ≡ done_at 3 2 (Value.Num 18446744073709551615)
sum_e_one_past = simp rows

count_below_greatest : as_count (18446744073709551611 + 3) ≡ 18446744073709551614
count_below_greatest = refl

count_past_greatest : as_count (18446744073709551614 + 3) ≡ 18446744073709551615
count_past_greatest = refl

count_one_past : as_count 18446744073709551616 ≡ 18446744073709551615
count_one_past = refl

-- `allE`: the first value that fails decides
all_e_empty : on_bytes (all_e digit) [] Ended ≡ done_at 1 0 (Value.Bool true)
all_e_empty = simp rows

all_e_short : on_bytes (all_e digit) (codes "12") Ended ≡ done_at 3 2 (Value.Bool true)
all_e_short = simp rows

all_e_waits : on_bytes (all_e digit) (codes "12") waiting ≡ waits_past 2
all_e_waits = simp rows

all_e_ends : on_bytes (all_e digit) (codes "1x2") waiting ≡ done_at 2 2 (Value.Bool false)
all_e_ends = simp rows

-- `anyE`: the first value that passes decides
any_e_empty : on_bytes (any_e digit) [] Ended ≡ done_at 1 0 (Value.Bool false)
any_e_empty = simp rows

any_e_short : on_bytes (any_e digit) (codes "ab") Ended ≡ done_at 3 2 (Value.Bool false)
any_e_short = simp rows

any_e_waits : on_bytes (any_e digit) (codes "ab") waiting ≡ waits_past 2
any_e_waits = simp rows

any_e_ends : on_bytes (any_e digit) (codes "ab3c") waiting ≡ done_at 3 3 (Value.Bool true)
any_e_ends = simp rows

-- `nullE` gives the value back
null_e_empty : on_bytes null_e [] Ended ≡ done_at 1 0 (Value.Bool true)
null_e_empty = simp rows

null_e_short : on_bytes null_e (codes "a") Ended ≡ done_at 1 0 (Value.Bool false)
null_e_short = simp rows

null_e_waits : on_bytes null_e [] waiting ≡ waits_past 0
null_e_waits = simp rows

null_e_ends : on_bytes null_e (codes "ab") waiting ≡ done_at 1 0 (Value.Bool false)
null_e_ends = simp rows

-- `collectE`
collect_e_empty : on_bytes (collect_e 3) [] Ended ≡ done_at 1 0 (Value.BytesV [])
collect_e_empty = simp rows

collect_e_short : on_chars (collect_e 3) (97 ∷ 8364 ∷ []) Ended ≡ done_at 3 2 (Value.TextV (97 ∷ 8364 ∷ []))
collect_e_short = simp rows

collect_e_waits : on_bytes (collect_e 3) (codes "ab") waiting ≡ waits_past 2
collect_e_waits = simp rows

collect_e_ends : on_bytes (collect_e 3) (codes "abcd") waiting ≡ done_at 3 3 (Value.BytesV (codes "abc"))
collect_e_ends = simp rows

collect_e_none : on_bytes (collect_e 0) (codes "ab") waiting ≡ done_at 0 0 (Value.BytesV [])
collect_e_none = simp rows

-- `sinkNull`, on pieces too
sink_null_empty : on_bytes sink_null [] Ended ≡ at_end 0
sink_null_empty = simp rows

sink_null_short : on_blocks sink_null (codes "ab" ∷ [] ∷ []) Ended ≡ at_end 2
sink_null_short = simp rows

sink_null_waits : on_bytes sink_null (codes "ab") waiting ≡ waits_past 2
sink_null_waits = simp rows
