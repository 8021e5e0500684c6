-- Words open and close nothing but their own site.
use Rattle.std.proofs.Common.{ℕ, zero, suc, ◌+◌, ◌==◌, Bool, true, false, if◌then◌else◌, not, nat_le, List, [], ◌∷◌, ◌++◌, Option, Some, None, length, map, take, replicate, arith}
use Rattle.cd_elem.specs.Base16.{hex_value}
use Rattle.cd_meaning.specs.Stream.{Item, Elem, Piece, Value, Stopped, End, Ended, Halted, Done, Act, Out, Do, Close}
use Rattle.cd_meaning.specs.Run.{stamp, start, Run, Then, Ends, Component, past}
use Rattle.cd_meaning.specs.RunShapes.{each, each_to_end, passes, drops, first, unit_of, front, while, whole, number, piece, elements_out, Mark, AtEnd, MayGoOn, Broken, TooLong, Told}
use Rattle.cd_meaning.specs.ElementWords.{passed, taken, kept, filtered, mapped, repeated, ignored, head, peek, all_from, any_from, none}
use Rattle.cd_meaning.specs.PieceWords.{interspersed}
use Rattle.cd_meaning.specs.Splitters.{short_piece, grouped, line_end, lines_from}
use Rattle.cd_meaning.specs.Text.{Range, is_in, following, first_bits, more_bits, read_on, read_byte, utf8_from, replacement, lenient_first, lenient_from}
use Rattle.cd_meaning.specs.Base.{group_at, group_rest, hex_byte, hex_from, padded_at, base64_one, base64_two, base64_three, base64_from, padding, base64_group, base64_groups}
use Rattle.cd_meaning.specs.Sections.{one_line}
use Rattle.cd_meaning.specs.Sources.{source_end, source_file, stdin, given, puts, stdout, closing, sink_file}
use Rattle.cd_meaning.proofs.Opens.Spends.{Whatever, Within, outs_spend, Harmless, acts_spend, either}
use Rattle.cd_meaning.proofs.Opens.FormSpends.{Opens, own}

-- ---- acts

pub past_within : (k o d n : ℕ) (e : End) (v : Value) → Within k o d (past n e v)
past_within k o d n Ended v = tt
past_within k o d n (Halted h) v = tt

pub each_within : (k o d : ℕ) (f : Item → List Act) (i : ℕ) (xs : List Item) (r : Run) → ((x : Item) → Harmless (f x)) → Within k o d r → Within k o d (each f i xs r)
each_within k o d f i [] r h w = w
each_within k o d f i (x ∷ xs) r h w = acts_spend k Whatever o d _ (f x) _ (h x) (each_within k o d f (suc i) xs r h w)

elements_harmless : (ns : List ℕ) → Harmless (elements_out ns)
elements_harmless [] = tt
elements_harmless (n ∷ ns) = elements_harmless ns

copies_harmless : (n : ℕ) (x : Item) → Harmless (replicate n (Out x))
copies_harmless zero x = tt
copies_harmless (suc n) x = copies_harmless n x

kept_harmless : (p : Item → Bool) (x : Item) → Harmless (kept p x)
kept_harmless p x = by (p x) where
  by : (c : Bool) → Harmless (if c then Out x ∷ [] else [])
  by true = tt
  by false = tt

pub puts_harmless : (s : ℕ) (x : Item) → Harmless (puts s x)
puts_harmless s (Elem x) = tt
puts_harmless s (Piece xs) = tt

-- ---- words with no site

-- it opens and closes nothing
abbrev Quiet : Component → Type 0
Quiet f = (k o d : ℕ) → Opens k o d f

pub record Nothing (f : Component) : Type 0 where
  pub within : Quiet f

each_quiet : (f : Item → List Act) → ((x : Item) → Harmless (f x)) → Quiet (each_to_end f)
each_quiet f h k o d xs e = each_within k o d f 0 xs _ h (past_within k o d (length xs) e Value.Unit)

first_quiet : (n : ℕ) (f : Item → List Act) (v : List Item → Value) → ((x : Item) → Harmless (f x)) → Quiet (first n f v)
first_quiet n f v h k o d xs e = each_within k o d f 0 (take n xs) _ h (either k o d (nat_le n (length xs)) _ _ tt (past_within k o d (length xs) e (v xs)))

while_quiet : (p : Item → Bool) (f : Item → List Act) → ((x : Item) → Harmless (f x)) → Quiet (while p f)
while_quiet p f h k o d xs e =
    each_within k o d f 0 (front p xs) _ h (either k o d (length (front p xs) == length xs) _ (Ends _ (Done Value.Unit)) (past_within k o d (length (front p xs)) e Value.Unit) tt)

whole_quiet : (v : List Item → Value) → Quiet (whole v)
whole_quiet v k o d xs e = past_within k o d (length xs) e (v xs)

passed_quiet : Quiet passed
passed_quiet = each_quiet passes (λ x. tt)

taken_quiet : (n : ℕ) → Quiet (taken n)
taken_quiet n = first_quiet n passes unit_of (λ x. tt)

filtered_quiet : (p : Item → Bool) → Quiet (filtered p)
filtered_quiet p = each_quiet (kept p) (kept_harmless p)

mapped_quiet : (f : Item → Item) → Quiet (mapped f)
mapped_quiet f = each_quiet (λ x. Out (f x) ∷ []) (λ x. tt)

repeated_quiet : (n : ℕ) → Quiet (repeated n)
repeated_quiet n = each_quiet (λ x. replicate n (Out x)) (copies_harmless n)

ignored_quiet : Quiet ignored
ignored_quiet = each_quiet drops (λ x. tt)

-- of each value, these elements
elements_quiet : (f : Item → List ℕ) → Quiet (each_to_end (λ x. elements_out (f x)))
elements_quiet f = each_quiet (λ x. elements_out (f x)) (λ x. elements_harmless (f x))

one_line_quiet : Quiet one_line
one_line_quiet k o d xs e =
    let line = front (λ x. not (number x == 10)) xs in
    each_within k o d passes 0 line _ (λ x. tt) (either k o d (length line == length xs) _ (Ends _ (Done Value.Unit)) (past_within k o d (length line) e Value.Unit) tt)

head_quiet : (v : Item → Value) → Quiet (head v)
head_quiet v k o d [] e = past_within k o d 0 e _
head_quiet v k o d (x ∷ xs) e = tt

peek_quiet : (v : Item → Value) → Quiet (peek v)
peek_quiet v k o d [] e = past_within k o d 0 e _
peek_quiet v k o d (x ∷ xs) e = tt

all_quiet : (p : Item → Bool) (i : ℕ) → Quiet (all_from p i)
all_quiet p i k o d [] e = past_within k o d i e _
all_quiet p i k o d (x ∷ xs) e = either k o d (p x) _ (Ends _ _) (all_quiet p (suc i) k o d xs e) tt

any_quiet : (p : Item → Bool) (i : ℕ) → Quiet (any_from p i)
any_quiet p i k o d [] e = past_within k o d i e _
any_quiet p i k o d (x ∷ xs) e = either k o d (p x) (Ends _ _) _ tt (any_quiet p (suc i) k o d xs e)

none_quiet : Quiet none
none_quiet k o d [] e = past_within k o d 0 e _
none_quiet k o d (x ∷ xs) e = tt

interspersed_quiet : (y : Item) → Quiet (interspersed y)
interspersed_quiet y k o d [] e = past_within k o d 0 e _
interspersed_quiet y k o d (x ∷ xs) e = each_within k o d (λ z. Out y ∷ Out z ∷ []) 1 xs (past (suc (length xs)) e Value.Unit) (λ z. tt) (past_within k o d (suc (length xs)) e Value.Unit)

grouped_quiet : (short : List Item → List Item) (n i : ℕ) (held : List Item) → Quiet (grouped short n i held)
grouped_quiet short n i held k o d [] Ended = outs_spend k Whatever o d _ (short held) _ tt
grouped_quiet short n i held k o d [] (Halted h) = tt
grouped_quiet short n i held k o d (x ∷ xs) e =
    either k o d (length held + 1 == n) (Then (stamp (suc i) (suc i)) (Out (piece (held ++ x ∷ []))) (grouped short n (suc i) [] xs e)) _
    (grouped_quiet short n (suc i) [] k o d xs e) (grouped_quiet short n (suc i) (held ++ x ∷ []) k o d xs e)

lines_quiet : (separator n i : ℕ) (fresh : Bool) (held : List Item) → Quiet (lines_from separator n i fresh held)
lines_quiet separator n i fresh held k o d [] Ended = outs_spend k Whatever o d _ (short_piece held) _ tt
lines_quiet separator n i fresh held k o d [] (Halted h) = tt
lines_quiet separator n i fresh held k o d (x ∷ xs) e =
    either k o d (number x == separator) _ _
    (outs_spend k Whatever o d _ (line_end fresh held) _ (lines_quiet separator n (suc i) true [] k o d xs e))
    (either k o d (length held + 1 == n) (Then (stamp (suc i) (suc i)) (Out (piece (held ++ x ∷ []))) (lines_from separator n (suc i) false [] xs e)) _
    (lines_quiet separator n (suc i) false [] k o d xs e) (lines_quiet separator n (suc i) fresh (held ++ x ∷ []) k o d xs e))

-- what is read next does nothing
abbrev Next : ℕ → ℕ → ℕ → (List Range → ℕ → Run) → Type 0
Next k o d next = (more : List Range) (bits : ℕ) → Within k o d (next more bits)

read_on_within : (k o d i : ℕ) (ranges : List Range) (bits : ℕ) (next : List Range → ℕ → Run) → Next k o d next → Within k o d (read_on i ranges bits next)
read_on_within k o d i [] bits next h = h [] 0
read_on_within k o d i (r ∷ ranges) bits next h = h (r ∷ ranges) bits

read_byte_within : (k o d at i : ℕ) (ranges : Option (List Range)) (bits : ℕ) (next : List Range → ℕ → Run) → Next k o d next → Within k o d (read_byte at i ranges bits next)
read_byte_within k o d at i None bits next h = tt
read_byte_within k o d at i (Some ranges) bits next h = read_on_within k o d i ranges bits next h

utf8_quiet : (at i : ℕ) (ranges : List Range) (bits : ℕ) → Quiet (utf8_from at i ranges bits)
utf8_quiet at i [] bits k o d [] e = past_within k o d i e _
utf8_quiet at i (r ∷ ranges) bits k o d [] Ended = tt
utf8_quiet at i (r ∷ ranges) bits k o d [] (Halted h) = tt
utf8_quiet at i [] bits k o d (x ∷ xs) e = read_byte_within k o d i (suc i) (following (number x)) (first_bits (number x)) _ (λ more now. utf8_quiet i (suc i) more now k o d xs e)
utf8_quiet at i (r ∷ ranges) bits k o d (x ∷ xs) e =
    read_byte_within k o d at (suc i) (if is_in r (number x) then Some ranges else None) (more_bits bits (number x)) _ (λ more now. utf8_quiet at (suc i) more now k o d xs e)

lenient_first_within : (k o d i : ℕ) (ranges : Option (List Range)) (bits : ℕ) (next : List Range → ℕ → Run) → Next k o d next → Within k o d (lenient_first i ranges bits next)
lenient_first_within k o d i None bits next h = h [] 0
lenient_first_within k o d i (Some ranges) bits next h = read_on_within k o d i ranges bits next h

lenient_quiet : (i : ℕ) (ranges : List Range) (bits : ℕ) → Quiet (lenient_from i ranges bits)
lenient_quiet i [] bits k o d [] e = past_within k o d i e _
lenient_quiet i (r ∷ ranges) bits k o d [] Ended = tt
lenient_quiet i (r ∷ ranges) bits k o d [] (Halted h) = tt
lenient_quiet i [] bits k o d (x ∷ xs) e = lenient_first_within k o d (suc i) (following (number x)) (first_bits (number x)) _ (λ more now. lenient_quiet (suc i) more now k o d xs e)
lenient_quiet i (r ∷ ranges) bits k o d (x ∷ xs) e =
    let next = λ (more : List Range) (now : ℕ). lenient_from (suc i) more now xs e in
    either k o d (is_in r (number x)) (read_on (suc i) ranges (more_bits bits (number x)) next) (Then (stamp (suc i) (suc i)) (Out replacement) (lenient_first (suc i) (following (number x)) (first_bits (number x)) next))
    (read_on_within k o d (suc i) ranges (more_bits bits (number x)) _ (λ more now. lenient_quiet (suc i) more now k o d xs e))
    (lenient_first_within k o d (suc i) (following (number x)) (first_bits (number x)) _ (λ more now. lenient_quiet (suc i) more now k o d xs e))

group_within : (k o d n : ℕ) (fault : Stopped) (bytes : Option (List ℕ)) (r : Run) → Within k o d r → Within k o d (group_at n fault bytes r)
group_within k o d n fault (Some bytes) r w = acts_spend k Whatever o d _ (elements_out bytes) r (elements_harmless bytes) w
group_within k o d n fault None r w = tt

rest_within : (k o d n : ℕ) (fault : Stopped) (e : End) → Within k o d (group_rest n fault e)
rest_within k o d n fault Ended = tt
rest_within k o d n fault (Halted h) = tt

padded_within : (k o d n : ℕ) (characters : List ℕ) (e : End) → Within k o d (padded_at n characters e)
padded_within k o d n characters Ended = acts_spend k Whatever o d _ (elements_out characters) _ (elements_harmless characters) tt
padded_within k o d n characters (Halted h) = tt

hex_quiet : (i : ℕ) → Quiet (hex_from i)
hex_quiet i k o d [] e = past_within k o d i e _
hex_quiet i k o d (x ∷ []) e = rest_within k o d (1 + i) _ e
hex_quiet i k o d (x ∷ y ∷ xs) e = group_within k o d (2 + i) _ (hex_byte (hex_value (number x)) (hex_value (number y))) _ (hex_quiet (2 + i) k o d xs e)

base64_quiet : (i : ℕ) → Quiet (base64_from i)
base64_quiet i k o d [] e = past_within k o d i e _
base64_quiet i k o d (x ∷ []) e = padded_within k o d (1 + i) (base64_one (number x)) e
base64_quiet i k o d (x ∷ y ∷ []) e = padded_within k o d (2 + i) (base64_two (number x) (number y)) e
base64_quiet i k o d (x ∷ y ∷ z ∷ xs) e =
    let threes = base64_three (number x) (number y) (number z) in
    acts_spend k Whatever o d (stamp (3 + i) (3 + i)) (elements_out threes) (base64_from (3 + i) xs e) (elements_harmless threes) (base64_quiet (3 + i) k o d xs e)

groups_quiet : (i : ℕ) (padded : Bool) → Quiet (base64_groups i padded)
groups_quiet i padded k o d [] e = past_within k o d i e _
groups_quiet i padded k o d (x ∷ []) e = rest_within k o d (1 + i) _ e
groups_quiet i padded k o d (x ∷ y ∷ []) e = rest_within k o d (2 + i) _ e
groups_quiet i padded k o d (x ∷ y ∷ z ∷ []) e = rest_within k o d (3 + i) _ e
groups_quiet i padded k o d (x ∷ y ∷ z ∷ u ∷ xs) e =
    group_within k o d (4 + i) _ (if padded then None else base64_group (number x) (number y) (number z) (number u)) _ (groups_quiet (4 + i) (number u == padding) k o d xs e)

given_quiet : (ys : List Item) → Quiet (given ys)
given_quiet ys k o d xs e = outs_spend k Whatever o d start ys _ tt

-- ---- words with a site

closed_end_within : (k s : ℕ) (mark : Mark) → Within k 0 (own k s 1) (source_end s (Do (Close s) ∷ []) mark)
closed_end_within k s AtEnd = (0, 0, omega arith, omega arith, tt)
closed_end_within k s MayGoOn = tt
closed_end_within k s Broken = tt
closed_end_within k s TooLong = tt

pub source_file_opens : (k s : ℕ) (t : Told) → Opens k (own k s 1) 0 (source_file s t)
source_file_opens k s t xs e = (0, own k s 1, omega arith, omega arith, outs_spend k Whatever 0 (own k s 1) start (map Elem t.bytes) _ (closed_end_within k s t.mark))

stdin_quiet : (s : ℕ) (t : Told) → Quiet (stdin s t)
stdin_quiet s t k o d xs e = outs_spend k Whatever o d start (map Elem t.bytes) _ (by t.mark) where
  by : (mark : Mark) → Within k o d (source_end s [] mark)
  by AtEnd = tt
  by MayGoOn = tt
  by Broken = tt
  by TooLong = tt

stdout_quiet : (s : ℕ) → Quiet (stdout s)
stdout_quiet s = each_quiet (puts s) (puts_harmless s)

closing_within : (k s n : ℕ) (e : End) → Within k 0 (own k s 1) (closing s n e)
closing_within k s n Ended = (0, 0, omega arith, omega arith, tt)
closing_within k s n (Halted h) = tt

pub sink_file_opens : (k s : ℕ) → Opens k (own k s 1) 0 (sink_file s)
sink_file_opens k s xs e =
    (0, own k s 1, omega arith, omega arith, each_within k 0 (own k s 1) (puts s) 0 xs _ (puts_harmless s) (closing_within k s (length xs) e))

-- ---- the same of each word

pub each_nothing : (f : Item → List Act) → ((x : Item) → Harmless (f x)) → Nothing (each_to_end f)
each_nothing f h = record { within = each_quiet f h }

pub first_nothing : (n : ℕ) (f : Item → List Act) (v : List Item → Value) → ((x : Item) → Harmless (f x)) → Nothing (first n f v)
first_nothing n f v h = record { within = first_quiet n f v h }

pub while_nothing : (p : Item → Bool) (f : Item → List Act) → ((x : Item) → Harmless (f x)) → Nothing (while p f)
while_nothing p f h = record { within = while_quiet p f h }

pub whole_nothing : (v : List Item → Value) → Nothing (whole v)
whole_nothing v = record { within = whole_quiet v }

pub passed_nothing : Nothing passed
passed_nothing = record { within = passed_quiet }

pub taken_nothing : (n : ℕ) → Nothing (taken n)
taken_nothing n = record { within = taken_quiet n }

pub filtered_nothing : (p : Item → Bool) → Nothing (filtered p)
filtered_nothing p = record { within = filtered_quiet p }

pub mapped_nothing : (f : Item → Item) → Nothing (mapped f)
mapped_nothing f = record { within = mapped_quiet f }

pub repeated_nothing : (n : ℕ) → Nothing (repeated n)
repeated_nothing n = record { within = repeated_quiet n }

pub ignored_nothing : Nothing ignored
ignored_nothing = record { within = ignored_quiet }

pub elements_nothing : (f : Item → List ℕ) → Nothing (each_to_end (λ x. elements_out (f x)))
elements_nothing f = record { within = elements_quiet f }

pub one_line_nothing : Nothing one_line
one_line_nothing = record { within = one_line_quiet }

pub head_nothing : (v : Item → Value) → Nothing (head v)
head_nothing v = record { within = head_quiet v }

pub peek_nothing : (v : Item → Value) → Nothing (peek v)
peek_nothing v = record { within = peek_quiet v }

pub all_nothing : (p : Item → Bool) (i : ℕ) → Nothing (all_from p i)
all_nothing p i = record { within = all_quiet p i }

pub any_nothing : (p : Item → Bool) (i : ℕ) → Nothing (any_from p i)
any_nothing p i = record { within = any_quiet p i }

pub none_nothing : Nothing none
none_nothing = record { within = none_quiet }

pub interspersed_nothing : (y : Item) → Nothing (interspersed y)
interspersed_nothing y = record { within = interspersed_quiet y }

pub grouped_nothing : (short : List Item → List Item) (n i : ℕ) (held : List Item) → Nothing (grouped short n i held)
grouped_nothing short n i held = record { within = grouped_quiet short n i held }

pub lines_nothing : (separator n i : ℕ) (fresh : Bool) (held : List Item) → Nothing (lines_from separator n i fresh held)
lines_nothing separator n i fresh held = record { within = lines_quiet separator n i fresh held }

pub utf8_nothing : (at i : ℕ) (ranges : List Range) (bits : ℕ) → Nothing (utf8_from at i ranges bits)
utf8_nothing at i ranges bits = record { within = utf8_quiet at i ranges bits }

pub lenient_nothing : (i : ℕ) (ranges : List Range) (bits : ℕ) → Nothing (lenient_from i ranges bits)
lenient_nothing i ranges bits = record { within = lenient_quiet i ranges bits }

pub hex_nothing : (i : ℕ) → Nothing (hex_from i)
hex_nothing i = record { within = hex_quiet i }

pub base64_nothing : (i : ℕ) → Nothing (base64_from i)
base64_nothing i = record { within = base64_quiet i }

pub groups_nothing : (i : ℕ) (padded : Bool) → Nothing (base64_groups i padded)
groups_nothing i padded = record { within = groups_quiet i padded }

pub given_nothing : (ys : List Item) → Nothing (given ys)
given_nothing ys = record { within = given_quiet ys }

pub stdin_nothing : (s : ℕ) (t : Told) → Nothing (stdin s t)
stdin_nothing s t = record { within = stdin_quiet s t }

pub stdout_nothing : (s : ℕ) → Nothing (stdout s)
stdout_nothing s = record { within = stdout_quiet s }

-- of words with nothing behind them
pub ruleset plain_nothing = (passed_nothing, whole_nothing, head_nothing, peek_nothing, none_nothing, ignored_nothing)
