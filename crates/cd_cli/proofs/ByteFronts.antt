-- Fronts of lists of bytes, and what is left of a file behind one.
use Rattle.std.proofs.Common.{◌≡◌, ℕ, ◌+◌, ◌-◌, ◌≤◌, min, length, length-take, List, ◌++◌, take, drop, Bool, true, if◌then◌else◌, ◌==◌, inl, inr, sym, ◌∙◌, ap, subst, arith}
use Rattle.std.proofs.lemmas.Bool.{cases_lt}
use Rattle.std.proofs.lemmas.Bool.Decides.{nat_tests}
use Rattle.std.proofs.lemmas.List.{append-nil, take_all, take-take, take-append-le, drop-drop}
use Rattle.std.proofs.Math.Seq.{take-append-add}
use Rattle.cd_world.specs.Files.{Files, left_at, with_given}

-- a front of two lists
pub take-append : (n : ℕ) (xs ys : List ℕ) → take n (xs ++ ys) ≡ take n xs ++ take (n - length xs) ys
take-append n xs ys = elim (cases_lt (length xs) n) [
  | inl less ↦
      let at : length xs + (n - length xs) ≡ n = omega arith in
      subst (λ (m : ℕ). take m (xs ++ ys) ≡ xs ++ take (n - length xs) ys) at (take-append-add xs ys (n - length xs))
      ∙ ap (λ (l : List ℕ). l ++ take (n - length xs) ys) (sym (take_all n xs (omega arith)))
  | inr more ↦
      let none : n - length xs ≡ 0 = omega arith in
      take-append-le n xs ys more ∙ sym (append-nil (take n xs)) ∙ ap (λ (m : ℕ). take n xs ++ take m ys) (sym none)
]

-- a front of a front
pub take_least : (left k n : ℕ) (into : List ℕ) → n ≡ min left k → take left (take k into) ≡ take n into
take_least left k n into is = elim (cases_lt k left) [
  | inl less ↦ let n_is : k ≡ n = omega arith in take_all left (take k into) (omega (arith, length-take k into)) ∙ ap (λ (m : ℕ). take m into) n_is
  | inr more ↦ let n_is : left ≡ n = omega arith in take-take left k into more ∙ ap (λ (m : ℕ). take m into) n_is
]

-- a front of what a read gave and of what is left behind it
pub take-given : (left k n : ℕ) (into rest : List ℕ) → k ≤ length into → n ≡ min left k → take left (take k into ++ rest) ≡ take n into ++ take (left - n) rest
take-given left k n into rest fits is =
    let size : length (take k into) ≡ k = omega (arith, length-take k into) in
    let less : left - length (take k into) ≡ left - n = omega arith in
    take-append left (take k into) rest ∙ (λ i. take_least left k n into is i ++ take (less i) rest)

-- what is left of a file once a read gave so many bytes more of it
pub left_after_read : (d : ℕ) (name : List ℕ) (k : ℕ) (f : Files) → left_at d name (with_given d (f.given d + k) f) ≡ drop k (left_at d name f)
left_after_read d name k f =
    let same : (d == d) ≡ true = grind (arith, nat_tests) in
    ap (λ (b : Bool). drop (if b then f.given d + k else f.given d) (f.contents name)) same ∙ sym (drop-drop k (f.given d) (f.contents name))
