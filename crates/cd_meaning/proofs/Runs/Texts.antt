-- UTF-8 in both directions is runs.
use Rattle.std.proofs.Common.{◌≡◌, ℕ, suc, List, [], ◌∷◌, ◌++◌, refl, ap, ◌∙◌, sym, Bool, true, false, if◌then◌else◌, Option, Some, None, encode_utf8}
use Rattle.cd_meaning.specs.Stream.{Item, Elem, Value, bad_text, Stop, End, Ended, Halted, Ending, Done, Halts, Act, Out}
use Rattle.cd_meaning.specs.Run.{stamp, Run, Then, acts_at}
use Rattle.cd_meaning.specs.RunShapes.{number, elements_out, as_count}
use Rattle.cd_meaning.specs.Text.{Range, is_in, following, first_bits, more_bits, read_on, read_byte, utf8_from, utf8, replacement, lenient_first, lenient_from, utf8_lenient, utf8_encode}
use Rattle.cd_meaning.specs.Laws.{IsRun}
use Rattle.cd_meaning.specs.Scan.{Reply, Go, Fail, Scan, replied, scan}
use Rattle.cd_meaning.proofs.Runs.Shapes.{is_run_as, never, past_closed, acts_append, each_is_run, each_scan, each_is_scan}

-- what stands behind a byte: the ranges of those that its sequence still needs, and the bits so far
abbrev pub Partial : Type 0
Partial = List Range × ℕ

-- behind these acts: the byte ends a character, or these ranges are still to come
abbrev pub read_reply : {S : Type 0} → (Partial → S) → List Act → List Range → ℕ → Reply S
read_reply next acts [] bits = Go (acts ++ Out (Elem bits) ∷ []) (next ([], 0))
read_reply next acts (r ∷ ranges) bits = Go acts (next (r ∷ ranges, bits))

read_on_is : {S : Type 0} (i : ℕ) (acts : List Act) (ranges : List Range) (bits : ℕ) (next : Partial → S) (r : List Range → ℕ → Run) (k : S → Run)
    → ((more : List Range) (now : ℕ) → r more now ≡ k (next (more, now)))
    → acts_at (stamp (suc i) (suc i)) acts (read_on (suc i) ranges bits r) ≡ replied i (read_reply next acts ranges bits) k
read_on_is i acts [] bits next r k h =
    ap (λ q. acts_at (stamp (suc i) (suc i)) acts (Then (stamp (suc i) (suc i)) (Out (Elem bits)) q)) (h [] 0)
    ∙ sym (acts_append (stamp (suc i) (suc i)) acts (Out (Elem bits) ∷ []) (k (next ([], 0))))
read_on_is i acts (a ∷ ranges) bits next r k h = ap (acts_at (stamp (suc i) (suc i)) acts) (h (a ∷ ranges) bits)

-- ---- `utf8`

-- how many bytes stand before the sequence, how many were read, and what is read of it
pub record Reading : Type 0 where
  pub at : ℕ
  pub read : ℕ
  pub partial : Partial

abbrev pub reading : ℕ → ℕ → Partial → Reading
reading at read partial = record { at = at; read = read; partial = partial }

abbrev pub byte_reply : ℕ → ℕ → Option (List Range) → ℕ → Reply Reading
byte_reply at i None bits = Fail (bad_text (as_count at))
byte_reply at i (Some ranges) bits = read_reply (reading at (suc i)) [] ranges bits

abbrev pub utf8_reply : ℕ → ℕ → List Range → ℕ → ℕ → Reply Reading
utf8_reply at i [] bits b = byte_reply i i (following b) (first_bits b)
utf8_reply at i (r ∷ ranges) bits b = byte_reply at i (if is_in r b then Some ranges else None) (more_bits bits b)

abbrev pub utf8_ending : ℕ → List Range → Ending
utf8_ending at [] = Done Value.Unit
utf8_ending at (r ∷ ranges) = Halts (Stop (bad_text (as_count at)))

abbrev pub utf8_scan : Scan Reading
utf8_scan = record {
  ready = never;
  step = λ s x. utf8_reply s.at s.read s.partial.0 s.partial.1 (number x);
  close = λ s. [];
  ending = λ s. utf8_ending s.at s.partial.0;
}

read_byte_is : (at i : ℕ) (o : Option (List Range)) (bits : ℕ) (r : List Range → ℕ → Run) (k : Reading → Run)
    → ((more : List Range) (now : ℕ) → r more now ≡ k (reading at (suc i) (more, now)))
    → read_byte at (suc i) o bits r ≡ replied i (byte_reply at i o bits) k
read_byte_is at i None bits r k h = refl
read_byte_is at i (Some ranges) bits r k h = read_on_is i [] ranges bits (reading at (suc i)) r k h

utf8_is : (at i : ℕ) (ranges : List Range) (bits : ℕ) (xs : List Item) (e : End) → utf8_from at i ranges bits xs e ≡ scan utf8_scan i (reading at i (ranges, bits)) xs e
utf8_is at i [] bits [] e = past_closed i Value.Unit e
utf8_is at i (r ∷ ranges) bits [] Ended = refl
utf8_is at i (r ∷ ranges) bits [] (Halted h) = refl
utf8_is at i [] bits (x ∷ xs) e = read_byte_is i i (following (number x)) (first_bits (number x)) _ _ (λ more now. utf8_is i (suc i) more now xs e)
utf8_is at i (r ∷ ranges) bits (x ∷ xs) e =
    read_byte_is at i (if is_in r (number x) then Some ranges else None) (more_bits bits (number x)) _ _ (λ more now. utf8_is at (suc i) more now xs e)

pub utf8_is_scan : (xs : List Item) (e : End) → utf8 xs e ≡ scan utf8_scan 0 (reading 0 0 ([], 0)) xs e
utf8_is_scan xs e = utf8_is 0 0 [] 0 xs e

pub utf8_is_run : IsRun utf8
utf8_is_run = is_run_as _ utf8_scan (reading 0 0 ([], 0)) utf8_is_scan

-- ---- `utf8Lenient`

abbrev pub itself : Partial → Partial
itself s = s

-- a first byte, behind these acts
abbrev pub first_reply : List Act → Option (List Range) → ℕ → Reply Partial
first_reply acts None bits = Go (acts ++ Out replacement ∷ []) ([], 0)
first_reply acts (Some ranges) bits = read_reply itself acts ranges bits

abbrev pub lenient_reply : List Range → ℕ → ℕ → Reply Partial
lenient_reply [] bits b = first_reply [] (following b) (first_bits b)
lenient_reply (r ∷ ranges) bits b = if is_in r b then read_reply itself [] ranges (more_bits bits b) else first_reply (Out replacement ∷ []) (following b) (first_bits b)

abbrev pub lenient_close : List Range → List Act
lenient_close [] = []
lenient_close (r ∷ ranges) = Out replacement ∷ []

abbrev pub utf8_lenient_scan : Scan Partial
utf8_lenient_scan = record {
  ready = never;
  step = λ s x. lenient_reply s.0 s.1 (number x);
  close = λ s. lenient_close s.0;
  ending = λ s. Done Value.Unit;
}

first_is : (i : ℕ) (acts : List Act) (o : Option (List Range)) (bits : ℕ) (r : List Range → ℕ → Run) (k : Partial → Run)
    → ((more : List Range) (now : ℕ) → r more now ≡ k (more, now))
    → acts_at (stamp (suc i) (suc i)) acts (lenient_first (suc i) o bits r) ≡ replied i (first_reply acts o bits) k
first_is i acts None bits r k h =
    ap (λ q. acts_at (stamp (suc i) (suc i)) acts (Then (stamp (suc i) (suc i)) (Out replacement) q)) (h [] 0)
    ∙ sym (acts_append (stamp (suc i) (suc i)) acts (Out replacement ∷ []) (k ([], 0)))
first_is i acts (Some ranges) bits r k h = read_on_is i acts ranges bits itself r k h

lenient_byte_is : (i : ℕ) (good : Bool) (ranges : List Range) (bits b : ℕ) (r : List Range → ℕ → Run) (k : Partial → Run)
    → ((more : List Range) (now : ℕ) → r more now ≡ k (more, now))
    → (if good then read_on (suc i) ranges (more_bits bits b) r else Then (stamp (suc i) (suc i)) (Out replacement) (lenient_first (suc i) (following b) (first_bits b) r))
    ≡ replied i (if good then read_reply itself [] ranges (more_bits bits b) else first_reply (Out replacement ∷ []) (following b) (first_bits b)) k
lenient_byte_is i true ranges bits b r k h = read_on_is i [] ranges (more_bits bits b) itself r k h
lenient_byte_is i false ranges bits b r k h = first_is i (Out replacement ∷ []) (following b) (first_bits b) r k h

lenient_is : (i : ℕ) (ranges : List Range) (bits : ℕ) (xs : List Item) (e : End) → lenient_from i ranges bits xs e ≡ scan utf8_lenient_scan i (ranges, bits) xs e
lenient_is i [] bits [] e = past_closed i Value.Unit e
lenient_is i (r ∷ ranges) bits [] Ended = refl
lenient_is i (r ∷ ranges) bits [] (Halted h) = refl
lenient_is i [] bits (x ∷ xs) e = first_is i [] (following (number x)) (first_bits (number x)) _ _ (λ more now. lenient_is (suc i) more now xs e)
lenient_is i (r ∷ ranges) bits (x ∷ xs) e =
    lenient_byte_is i (is_in r (number x)) ranges bits (number x) _ _ (λ more now. lenient_is (suc i) more now xs e)

pub utf8_lenient_is_scan : (xs : List Item) (e : End) → utf8_lenient xs e ≡ scan utf8_lenient_scan 0 ([], 0) xs e
utf8_lenient_is_scan xs e = lenient_is 0 [] 0 xs e

pub utf8_lenient_is_run : IsRun utf8_lenient
utf8_lenient_is_run = is_run_as _ utf8_lenient_scan ([], 0) utf8_lenient_is_scan

-- ---- `utf8Encode`

pub utf8_encode_is_scan : (xs : List Item) (e : End) → utf8_encode xs e ≡ scan (each_scan (λ x. elements_out (encode_utf8 (number x)))) 0 tt xs e
utf8_encode_is_scan = each_is_scan (λ x. elements_out (encode_utf8 (number x)))

pub utf8_encode_is_run : IsRun utf8_encode
utf8_encode_is_run = each_is_run (λ x. elements_out (encode_utf8 (number x)))
