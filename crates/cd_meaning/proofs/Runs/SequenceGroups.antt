-- Sequences, however they are grouped.
use Rattle.std.proofs.Common.{◌≡◌, ℕ, ◌+◌, max, List, [], ◌∷◌, ◌++◌, length, drop, refl, ap, sym, ◌∙◌, arith}
use Rattle.std.proofs.lemmas.List.{drop-drop, length-append}
use Rattle.cd_elem.specs.declared.script.Pipe.{Pipe}
use Rattle.cd_elem.specs.declared.script.Pipe.TheVariants as pipe
use Rattle.cd_meaning.specs.Stream.{Flow, Item, Value, End, Done, Halts}
use Rattle.cd_meaning.specs.Run.{Stamp, Run, Then, Ends, Component, restamp, follow}
use Rattle.cd_meaning.specs.RunShapes.{Seen}
use Rattle.cd_meaning.specs.Meaning.{Meaning, sequence_form}
use Rattle.cd_meaning.specs.Pipes.{pipe_meaning, sequence_is}
use Rattle.cd_meaning.specs.Sections.{behind, sequence}
use Rattle.cd_meaning.proofs.Follow.{follow_restamp}
use Rattle.cd_meaning.proofs.Restamp.{restamp_twice, restamp_same, stamp_same}

follow_twice : (r : Run) (k l : Stamp → Value → Run) → follow (follow r k) l ≡ follow r (λ s v. follow (k s v) l)
follow_twice (Then s a r) k l = ap (λ t. Then s a t) (follow_twice r k l)
follow_twice (Ends s (Done v)) k l = refl
follow_twice (Ends s (Halts h)) k l = refl

pub follow_same : (r : Run) (k l : Stamp → Value → Run) → ((s : Stamp) (v : Value) → k s v ≡ l s v) → follow r k ≡ follow r l
follow_same (Then s a r) k l h = ap (λ t. Then s a t) (follow_same r k l h)
follow_same (Ends s (Done v)) k l h = h s v
follow_same (Ends s (Halts e)) k l h = refl

behind_twice : (s t u : Stamp) → behind (behind s t) u ≡ behind s (behind t u)
behind_twice s t u =
    stamp_same (max (max s.need (s.net + t.need)) (s.net + t.net + u.need)) (max s.need (s.net + max t.need (t.net + u.need)))
    (s.net + t.net + u.net) (s.net + (t.net + u.net)) (omega arith) (omega arith)

-- the third part, behind the two before it
third_behind : (c : Component) (s t : Stamp) (xs : List Item) (e : End)
    → restamp (behind (behind s t)) (c (drop (s.net + t.net) xs) e) ≡ restamp (behind s) (restamp (behind t) (c (drop t.net (drop s.net xs)) e))
third_behind c s t xs e =
    ap (λ ys. restamp (behind (behind s t)) (c ys e)) (sym (drop-drop t.net s.net xs))
    ∙ restamp_same (behind (behind s t)) (λ u. behind s (behind t u)) (c (drop t.net (drop s.net xs)) e) (behind_twice s t)
    ∙ sym (restamp_twice (behind s) (behind t) (c (drop t.net (drop s.net xs)) e))

pub sequence_assoc : (a b c : Component) (xs : List Item) (e : End) → sequence (sequence a b) c xs e ≡ sequence a (sequence b c) xs e
sequence_assoc a b c xs e =
    let second = λ (s : Stamp) (v : Value). restamp (behind s) (b (drop s.net xs) e) in
    let third = λ (t : Stamp) (v : Value). restamp (behind t) (c (drop t.net xs) e) in
    follow_twice (a xs e) second third
    ∙ follow_same (a xs e) (λ s v. follow (second s v) third)
    (λ s v. restamp (behind s) (sequence b c (drop s.net xs) e))
    (λ s v. follow_restamp (behind s) (b (drop s.net xs) e) third (λ t w. restamp (behind t) (c (drop t.net (drop s.net xs)) e)) (λ t w. third_behind c s t xs e))

-- the third part's first site is the same
third_site : (s : ℕ) (a b : Meaning) → s + length (a.places ++ b.places) ≡ (s + length a.places) + length b.places
third_site s a b = omega (arith, length-append a.places b.places)

pub forms_grouped : (a b c : Meaning) (flow : Flow) (site : ℕ) (seen : Seen) (xs : List Item) (e : End)
    → (sequence_form (sequence_form a b) c).run flow site seen xs e ≡ (sequence_form a (sequence_form b c)).run flow site seen xs e
forms_grouped a b c flow site seen xs e =
    let first = a.run flow site seen in
    let second = b.run flow (site + length a.places) seen in
    let third = λ (n : ℕ). c.run flow n seen in
    ap (λ n. sequence (sequence first second) (third n) xs e) (third_site site a b)
    ∙ sequence_assoc first second (third (site + length a.places + length b.places)) xs e

-- two parts as a sequence
two_are : (p q : Pipe) → pipe_meaning (pipe.Sequence (p ∷ q ∷ [])) ≡ sequence_form (pipe_meaning p) (pipe_meaning q)
two_are p q = sequence_is (p ∷ q ∷ [])

pub sequence_grouped : (p q r : Pipe) (flow : Flow) (site : ℕ) (seen : Seen) (xs : List Item) (e : End)
    → (pipe_meaning (pipe.Sequence (pipe.Sequence (p ∷ q ∷ []) ∷ r ∷ []))).run flow site seen xs e
    ≡ (pipe_meaning (pipe.Sequence (p ∷ pipe.Sequence (q ∷ r ∷ []) ∷ []))).run flow site seen xs e
sequence_grouped p q r flow site seen xs e =
    let run = λ (m : Meaning). m.run flow site seen xs e in
    ap run (two_are (pipe.Sequence (p ∷ q ∷ [])) r ∙ ap (λ m. sequence_form m (pipe_meaning r)) (two_are p q))
    ∙ forms_grouped (pipe_meaning p) (pipe_meaning q) (pipe_meaning r) flow site seen xs e
    ∙ sym (ap run (two_are p (pipe.Sequence (q ∷ r ∷ [])) ∙ ap (λ m. sequence_form (pipe_meaning p) m) (two_are q r)))

pub sequence_in_a_row : (p q r : Pipe) → pipe_meaning (pipe.Sequence (p ∷ q ∷ r ∷ [])) ≡ pipe_meaning (pipe.Sequence (p ∷ pipe.Sequence (q ∷ r ∷ []) ∷ []))
sequence_in_a_row p q r =
    sequence_is (p ∷ q ∷ r ∷ [])
    ∙ sym (two_are p (pipe.Sequence (q ∷ r ∷ [])) ∙ ap (λ m. sequence_form (pipe_meaning p) m) (two_are q r))
