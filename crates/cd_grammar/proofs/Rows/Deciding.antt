-- How a row on the tokens of a text holds by computation: what is said of all places is tried at each.
use Rattle.std.proofs.Common.{◌≡◌, ℕ, zero, suc, ◌+◌, ◌-◌, ◌≤◌, ◌<◌, Bool, true, false, ◌&&◌, leb, is_none, inl, inr, List, length, take, drop, Option, Some, None, refl, ap, sym, subst, ◌∙◌, arith}
use Rattle.std.proofs.Math.ListN.{drop_of_length-le}
use Rattle.std.proofs.Math.Nat.{eq-or-lt_of_le}
use Rattle.std.proofs.lemmas.Bool.{cases_lt, leb-true}
use Rattle.std.proofs.lemmas.List.{take_all}
use Rattle.cd_elem.specs.declared.token.Lexeme.{Lexeme}
use Rattle.cd_elem.specs.declared.token.Token.{Token}
use Rattle.cd_grammar.specs.Tokens.{IsLongest, HasNoToken, whole_token}
use Rattle.cd_grammar.specs.Lexemes.{IsNext, Stops, is_glued, next_at}
use Rattle.cd_grammar.specs.Limits.{IsWithinLimits, limit_at, limit_here}
use Rattle.cd_grammar.specs.Grammar.{IsFront}
use Rattle.cd_grammar.specs.Refusals.{PassesTo}

-- each of so many numbers, from 0
abbrev pub each_below : ℕ → (ℕ → Bool) → Bool
each_below zero p = true
each_below (suc k) p = p k && each_below k p

both : (a b : Bool) → (a && b) ≡ true → (a ≡ true) × (b ≡ true)
both true b e = (refl, e)
both false b e = let f : ⊥ = cc in absurd f

holds_below : (k : ℕ) (p : ℕ → Bool) → each_below k p ≡ true → (j : ℕ) → j < k → p j ≡ true
holds_below zero p e j l = absurd (omega (arith, l))
holds_below (suc k) p e j l =
    let two = both (p k) (each_below k p) e in
    let low : j ≤ k = omega (arith, l) in
    elim (eq-or-lt_of_le low) [ inl s ↦ subst (λ i. p i ≡ true) (sym s) two.0 | inr s ↦ holds_below k p two.1 j s ]

nothing : {A : Type 0} (o : Option A) → is_none o ≡ true → o ≡ None
nothing None e = refl
nothing (Some x) e = let f : ⊥ = cc in absurd f

-- whether the front of so many bytes is no token
abbrev pub is_no_token : List ℕ → ℕ → Bool
is_no_token text m = is_none (whole_token (take m text))

pub longest : (text : List ℕ) (t : Token) (n : ℕ) → leb n (length text) ≡ true → whole_token (take n text) ≡ Some t
    → each_below (length text - n) (λ i. is_no_token text (suc n + i)) ≡ true → IsLongest text t n
longest text t n within token further = record { within = leb-true n (length text) within; token = token; longest = none } where
  none : (m : ℕ) → n < m → m ≤ length text → whole_token (take m text) ≡ None
  none m l k =
      let i : m - suc n < length text - n = omega (arith, l, k) in
      let s : suc n + (m - suc n) ≡ m = omega (arith, l) in
      subst (λ j. whole_token (take j text) ≡ None) s (nothing _ (holds_below _ (λ i. is_no_token text (suc n + i)) further (m - suc n) i))

pub has_none : (text : List ℕ) → each_below (suc (length text)) (is_no_token text) ≡ true → HasNoToken text
has_none text e m =
    elim (cases_lt (length text) m) [
      | inl l ↦ ap whole_token (take_all m text (omega (arith, l)) ∙ sym (take_all (length text) text (omega arith))) ∙ tried (length text) (omega arith)
      | inr l ↦ tried m (omega (arith, l))
    ] where
      tried : (m : ℕ) → m < suc (length text) → whole_token (take m text) ≡ None
      tried m l = nothing _ (holds_below _ (is_no_token text) e m l)

-- the next token of a text
pub next : (text : List ℕ) (at : ℕ) (behind_zero : Bool) (l : Lexeme) (size : ℕ) → l.at ≡ next_at text at → is_glued behind_zero (drop at text) ≡ false
    → leb size (length (drop l.at text)) ≡ true → whole_token (take size (drop l.at text)) ≡ Some l.token
    → each_below (length (drop l.at text) - size) (λ i. is_no_token (drop l.at text) (suc size + i)) ≡ true → IsNext text at behind_zero l size
next text at behind_zero l size place apart within token further = record { place = place; apart = apart; longest = longest (drop l.at text) l.token size within token further }

-- there is none, since the text ends, since no token begins there, or since a digit stands behind a zero
pub at_the_end : (text : List ℕ) (at : ℕ) (behind_zero : Bool) (stop : ℕ) → stop ≡ next_at text at → stop ≡ length text → Stops text at behind_zero stop true
at_the_end text at behind_zero stop place end = record { place = place; ends = λ e. end; none = λ e. let f : ⊥ = cc in absurd f }

pub at_no_token : (text : List ℕ) (at : ℕ) (behind_zero : Bool) (stop : ℕ) → stop ≡ next_at text at → leb (suc stop) (length text) ≡ true
    → each_below (suc (length (drop stop text))) (is_no_token (drop stop text)) ≡ true → Stops text at behind_zero stop false
at_no_token text at behind_zero stop place before e = record {
  place = place;
  ends = λ e. let f : ⊥ = cc in absurd f;
  none = λ _. (leb-true (suc stop) (length text) before, inr (has_none (drop stop text) e));
}

pub at_a_digit : (text : List ℕ) (at : ℕ) (stop : ℕ) → stop ≡ next_at text at → leb (suc stop) (length text) ≡ true → is_glued true (drop at text) ≡ true → Stops text at true stop false
at_a_digit text at stop place before e = record {
  place = place;
  ends = λ e. let f : ⊥ = cc in absurd f;
  none = λ _. (leb-true (suc stop) (length text) before, inl e);
}

abbrev pub passes_none : List Token → ℕ → Bool
passes_none ts i = is_none (limit_at ts i)

-- the tokens before this place are a front, and pass no limit
pub passes_to : (ts : List Token) (i : ℕ) → IsFront (take i ts) → each_below i (passes_none ts) ≡ true → PassesTo ts i
passes_to ts i front none = record { front = front; limits = λ j l. nothing _ (holds_below i (passes_none ts) none j l) }

pub within_limits : (ts : List Token) → each_below (length ts) (passes_none ts) ≡ true → IsWithinLimits ts
within_limits ts e i =
    elim (cases_lt i (length ts)) [
      | inl l ↦ nothing _ (holds_below _ (passes_none ts) e i l)
      | inr l ↦ ap (limit_here (take i ts)) (drop_of_length-le ts l)
    ]
