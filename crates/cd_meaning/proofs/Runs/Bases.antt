-- Base16 and base64 are runs.
use Rattle.std.proofs.Common.{◌≡◌, ℕ, suc, ◌+◌, ◌==◌, List, [], ◌∷◌, refl, ap, ◌∙◌, Bool, false, if◌then◌else◌, Option, Some, None, arith}
use Rattle.cd_meaning.specs.Stream.{Item, Value, Stopped, bad_hex, bad_base64, Stop, End, Ended, Halted, Ending, Done, Halts, Act}
use Rattle.cd_meaning.specs.Run.{stamp, Run, acts_at, past}
use Rattle.cd_meaning.specs.RunShapes.{number, elements_out, as_count}
use Rattle.cd_elem.specs.Base16.{hex_digits, hex_value}
use Rattle.cd_meaning.specs.Base.{group_at, group_rest, hex_encode, hex_byte, hex_from, hex_decode, padding, base64_one, base64_two, base64_three, padded_at, base64_from, base64_encode, base64_group, base64_groups, base64_decode}
use Rattle.cd_meaning.specs.Laws.{IsRun}
use Rattle.cd_meaning.specs.Scan.{Reply, Go, Fail, Scan, replied, closed, scan}
use Rattle.cd_meaning.proofs.Runs.Shapes.{is_run_as, never, past_closed, each_is_run, each_scan, each_is_scan}

-- ---- groups

-- a whole group's bytes, or its fault
abbrev pub group_reply : {S : Type 0} → Stopped → S → Option (List ℕ) → Reply S
group_reply fault st (Some bytes) = Go (elements_out bytes) st
group_reply fault st None = Fail fault

group_at_is : {S : Type 0} (n i : ℕ) (fault : Stopped) (o : Option (List ℕ)) (st : S) (r : Run) (k : S → Run) → n ≡ suc i → r ≡ k st
    → group_at n fault o r ≡ replied i (group_reply fault st o) k
group_at_is n i fault (Some bytes) st r k h e = rw (h, e)
group_at_is n i fault None st r k h e = rw h

past_at : (n i : ℕ) (e : End) → n ≡ i → past n e Value.Unit ≡ closed i [] (Done Value.Unit) e
past_at n i e h = rw h (past_closed i Value.Unit e)

group_rest_is : (n i : ℕ) (fault : Stopped) (e : End) → n ≡ i → group_rest n fault e ≡ closed i [] (Halts (Stop fault)) e
group_rest_is n i fault Ended h = rw h
group_rest_is n i fault (Halted x) h = rw h

-- the group is whole, or the input ends within it
abbrev pub group_ending : Stopped → List Item → Ending
group_ending fault [] = Done Value.Unit
group_ending fault (x ∷ held) = Halts (Stop fault)

-- ---- base16

pub hex_encode_is_scan : (xs : List Item) (e : End) → hex_encode xs e ≡ scan (each_scan (λ x. elements_out (hex_digits (number x)))) 0 tt xs e
hex_encode_is_scan = each_is_scan (λ x. elements_out (hex_digits (number x)))

pub hex_encode_is_run : IsRun hex_encode
hex_encode_is_run = each_is_run (λ x. elements_out (hex_digits (number x)))

-- where i characters stand before the group, of which these are held
abbrev pub hex_reply : ℕ → List Item → Item → Reply (ℕ × List Item)
hex_reply i [] x = Go [] (i, x ∷ [])
hex_reply i (a ∷ held) x = group_reply (bad_hex (as_count i)) (2 + i, []) (hex_byte (hex_value (number a)) (hex_value (number x)))

abbrev pub hex_decode_scan : Scan (ℕ × List Item)
hex_decode_scan = record { ready = never; step = λ s x. hex_reply s.0 s.1 x; close = λ s. []; ending = λ s. group_ending (bad_hex (as_count s.0)) s.1 }

hex_is : (n i : ℕ) (xs : List Item) (e : End) → n ≡ i → hex_from n xs e ≡ scan hex_decode_scan i (n, []) xs e
hex_is n i [] e h = past_at n i e h
hex_is n i (x ∷ []) e h = group_rest_is (1 + n) (suc i) (bad_hex (as_count n)) e (omega (arith, h))
hex_is n i (x ∷ y ∷ xs) e h =
    group_at_is (2 + n) (suc i) (bad_hex (as_count n)) (hex_byte (hex_value (number x)) (hex_value (number y))) (2 + n, []) _ _ (omega (arith, h))
    (hex_is (2 + n) (suc (suc i)) xs e (omega (arith, h)))

pub hex_decode_is_scan : (xs : List Item) (e : End) → hex_decode xs e ≡ scan hex_decode_scan 0 (0, []) xs e
hex_decode_is_scan xs e = hex_is 0 0 xs e refl

pub hex_decode_is_run : IsRun hex_decode
hex_decode_is_run = is_run_as _ hex_decode_scan (0, []) hex_decode_is_scan

-- ---- base64

-- where these bytes of a group are held
abbrev pub base64_reply : List Item → Item → Reply (List Item)
base64_reply [] x = Go [] (x ∷ [])
base64_reply (a ∷ []) x = Go [] (a ∷ x ∷ [])
base64_reply (a ∷ b ∷ held) x = Go (elements_out (base64_three (number a) (number b) (number x))) []

-- a short group's characters
abbrev pub base64_close : List Item → List Act
base64_close [] = []
base64_close (a ∷ []) = elements_out (base64_one (number a))
base64_close (a ∷ b ∷ held) = elements_out (base64_two (number a) (number b))

abbrev pub base64_encode_scan : Scan (List Item)
base64_encode_scan = record { ready = never; step = base64_reply; close = base64_close; ending = λ s. Done Value.Unit }

padded_at_is : (n i : ℕ) (characters : List ℕ) (e : End) → n ≡ i → padded_at n characters e ≡ closed i (elements_out characters) (Done Value.Unit) e
padded_at_is n i characters Ended h = rw h
padded_at_is n i characters (Halted x) h = rw h

base64_is : (n i : ℕ) (xs : List Item) (e : End) → n ≡ i → base64_from n xs e ≡ scan base64_encode_scan i [] xs e
base64_is n i [] e h = past_at n i e h
base64_is n i (x ∷ []) e h = padded_at_is (1 + n) (suc i) (base64_one (number x)) e (omega (arith, h))
base64_is n i (x ∷ y ∷ []) e h = padded_at_is (2 + n) (suc (suc i)) (base64_two (number x) (number y)) e (omega (arith, h))
base64_is n i (x ∷ y ∷ z ∷ xs) e h =
    let k : 3 + n ≡ suc (suc (suc i)) = omega (arith, h) in
    ap (λ m. acts_at (stamp m m) (elements_out (base64_three (number x) (number y) (number z))) (base64_from (3 + n) xs e)) k
    ∙ ap (acts_at (stamp (suc (suc (suc i))) (suc (suc (suc i)))) (elements_out (base64_three (number x) (number y) (number z)))) (base64_is (3 + n) (suc (suc (suc i))) xs e k)

pub base64_encode_is_scan : (xs : List Item) (e : End) → base64_encode xs e ≡ scan base64_encode_scan 0 [] xs e
base64_encode_is_scan xs e = base64_is 0 0 xs e refl

pub base64_encode_is_run : IsRun base64_encode
base64_encode_is_run = is_run_as _ base64_encode_scan [] base64_encode_is_scan

-- how many characters stand before the group, whether a padded group came, and what is held of the group
pub record Groups : Type 0 where
  pub at : ℕ
  pub padded : Bool
  pub held : List Item

abbrev pub groups : ℕ → Bool → List Item → Groups
groups at padded held = record { at = at; padded = padded; held = held }

abbrev pub groups_reply : ℕ → Bool → List Item → Item → Reply Groups
groups_reply i padded [] u = Go [] (groups i padded (u ∷ []))
groups_reply i padded (x ∷ []) u = Go [] (groups i padded (x ∷ u ∷ []))
groups_reply i padded (x ∷ y ∷ []) u = Go [] (groups i padded (x ∷ y ∷ u ∷ []))
groups_reply i padded (x ∷ y ∷ z ∷ held) u =
    group_reply (bad_base64 (as_count i)) (groups (4 + i) (number u == padding) []) (if padded then None else base64_group (number x) (number y) (number z) (number u))

abbrev pub base64_decode_scan : Scan Groups
base64_decode_scan = record {
  ready = never;
  step = λ s x. groups_reply s.at s.padded s.held x;
  close = λ s. [];
  ending = λ s. group_ending (bad_base64 (as_count s.at)) s.held;
}

groups_is : (n i : ℕ) (padded : Bool) (xs : List Item) (e : End) → n ≡ i → base64_groups n padded xs e ≡ scan base64_decode_scan i (groups n padded []) xs e
groups_is n i padded [] e h = past_at n i e h
groups_is n i padded (x ∷ []) e h = group_rest_is (1 + n) (suc i) (bad_base64 (as_count n)) e (omega (arith, h))
groups_is n i padded (x ∷ y ∷ []) e h = group_rest_is (2 + n) (suc (suc i)) (bad_base64 (as_count n)) e (omega (arith, h))
groups_is n i padded (x ∷ y ∷ z ∷ []) e h = group_rest_is (3 + n) (suc (suc (suc i))) (bad_base64 (as_count n)) e (omega (arith, h))
groups_is n i padded (x ∷ y ∷ z ∷ u ∷ xs) e h =
    group_at_is (4 + n) (suc (suc (suc i))) (bad_base64 (as_count n)) (if padded then None else base64_group (number x) (number y) (number z) (number u))
    (groups (4 + n) (number u == padding) []) _ _ (omega (arith, h)) (groups_is (4 + n) (suc (suc (suc (suc i)))) (number u == padding) xs e (omega (arith, h)))

pub base64_decode_is_scan : (xs : List Item) (e : End) → base64_decode xs e ≡ scan base64_decode_scan 0 (groups 0 false []) xs e
base64_decode_is_scan xs e = groups_is 0 0 false xs e refl

pub base64_decode_is_run : IsRun base64_decode
base64_decode_is_run = is_run_as _ base64_decode_scan (groups 0 false []) base64_decode_is_scan
