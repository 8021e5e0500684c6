-- In a part at which nothing fails, nothing fails at the parts in it.
use Rattle.std.proofs.Common.{◌≡◌, ℕ, ◌+◌, Bool, true, false, ◌&&◌, not, List, [], ◌∷◌, Some, None, refl, sym, ◌∙◌}
use Rattle.std.specs.List.{fold}
use Rattle.cd_elem.specs.declared.script.Join.{Join}
use Rattle.cd_elem.specs.declared.word.Word.{Word}
use Rattle.cd_elem.specs.declared.kind.Kind.{Kind}
use Rattle.cd_types.specs.declared.refusal.RefusalKind.{RefusalKind}
use Rattle.cd_types.specs.declared.refusal.RefusalKind.TheVariants.{KindMismatch, DropsRest}
use Rattle.cd_types.specs.Chains.{chain_moments, chain_part, member_fails}
use Rattle.cd_meaning.specs.Places.{Marks}
use Rattle.cd_types.specs.Conditions.{none_fails}
use Rattle.cd_types.specs.Forms.{mark_part}
use Rattle.cd_types.specs.Fitting.{Fits, FitInChain, IsOfSort, IsExactOnCuts, FitInSequence}
use Rattle.cd_types.specs.Flows.{Flow, Sort, PartType, agree, join, is_cut, kind_sort, kind_bound, kind_with, larger, same_sort}
use Rattle.cd_types.specs.Moments.{Reached, reach, begin_part, ask, AllPass}
use Rattle.cd_types.specs.Parts.{Part, is_last, word_part}
use Rattle.cd_types.specs.Sequences.{sequence_moments, sequence_part, sequence_fails}
use Rattle.cd_types.specs.WordTypes.{word_fails, word_site}
use Rattle.cd_types.proofs.Passing.{own_passes, left_false, split}

pub word_passes : (w : Word) (f : Flow) → Fits f (word_part w) → (k : RefusalKind) → word_fails w f k ≡ false
word_passes w f h = own_passes h.reached (begin_part h.statement h.number (word_fails w f) (word_site w)) h.pass.0

-- ---- chains

in_chain : (r : Reached) (s n : ℕ) (j : Join) (first : Bool) (f : Flow) (parts : List Part) → AllPass r (chain_moments s n j first f parts) → FitInChain f parts
in_chain r s n j first f [] h = tt
in_chain r s n j first f (a ∷ more) h =
    let p = split r (a.moments s n f) _ h in (
      record { reached = r; statement = s; number = n; pass = p.0 },
      in_chain (reach (fold reach r (a.moments s n f)) (ask s n (member_fails j a.invertible (a.type f) first (is_last more)))) s (n + a.size) j false (a.type f).to more p.1.1,
    )

pub chain_fits : (j : Join) (parts : List Part) (f : Flow) → Fits f (chain_part j parts) → FitInChain f parts
chain_fits j parts f h =
    in_chain h.reached h.statement (h.number + 1) j true f parts (split h.reached (chain_moments h.statement (h.number + 1) j true f parts) _ h.pass).0

-- ---- `mark`

-- the body, behind the bracket's own moment
pub mark_fits : (name : List ℕ) (a : Part) (f : Flow) → Fits f (mark_part name a) → Fits f a
mark_fits name a f h = record {
  reached = reach h.reached (begin_part h.statement h.number none_fails (Some (Marks name)));
  statement = h.statement;
  number = h.number + 1;
  pass = (split (reach h.reached (begin_part h.statement h.number none_fails (Some (Marks name)))) (a.moments h.statement (h.number + 1) f) _ h.pass.1).0;
}

-- ---- sequences

same_so : (k l : Sort) → same_sort k l ≡ true → l ≡ k
same_so Sort.Bytes Sort.Bytes e = refl
same_so Sort.Chars Sort.Chars e = refl
same_so Sort.Block Sort.Block e = refl
same_so Sort.Text Sort.Text e = refl
same_so Sort.Bytes Sort.Chars e = let no : ⊥ = cc in absurd no
same_so Sort.Bytes Sort.Block e = let no : ⊥ = cc in absurd no
same_so Sort.Bytes Sort.Text e = let no : ⊥ = cc in absurd no
same_so Sort.Chars Sort.Bytes e = let no : ⊥ = cc in absurd no
same_so Sort.Chars Sort.Block e = let no : ⊥ = cc in absurd no
same_so Sort.Chars Sort.Text e = let no : ⊥ = cc in absurd no
same_so Sort.Block Sort.Bytes e = let no : ⊥ = cc in absurd no
same_so Sort.Block Sort.Chars e = let no : ⊥ = cc in absurd no
same_so Sort.Block Sort.Text e = let no : ⊥ = cc in absurd no
same_so Sort.Text Sort.Bytes e = let no : ⊥ = cc in absurd no
same_so Sort.Text Sort.Chars e = let no : ⊥ = cc in absurd no
same_so Sort.Text Sort.Block e = let no : ⊥ = cc in absurd no

pub keeps_kind : (k : Kind) (n : ℕ) → kind_sort (kind_with k n) ≡ kind_sort k
keeps_kind Kind.Bytes n = refl
keeps_kind Kind.Chars n = refl
keeps_kind (Kind.Blocks m) n = refl
keeps_kind (Kind.Texts m) n = refl

not_false : (b : Bool) → not b ≡ false → b ≡ true
not_false true e = refl
not_false false e = let no : ⊥ = cc in absurd no

of_both : (k : Sort) (g h : Flow) → agree g h ≡ true → IsOfSort k (join g h) → IsOfSort k g × IsOfSort k h
of_both k None h e o = (tt, o)
of_both k (Some a) None e o = (o, tt)
of_both k (Some a) (Some b) e o =
    let same = sym (keeps_kind a (larger (kind_bound a) (kind_bound b))) ∙ o in
    (same, same_so (kind_sort a) (kind_sort b) e ∙ same)

cut_so : (last cut exact : Bool) → (not last && cut && not exact) ≡ false → last ≡ false → cut ≡ true → exact ≡ true
cut_so last cut true e l c = refl
cut_so false true false e l c = let no : ⊥ = cc in absurd no
cut_so true cut false e l c = let no : ⊥ = cc in absurd no
cut_so false false false e l c = let no : ⊥ = cc in absurd no

in_sequence : (r : Reached) (s n : ℕ) (g f : Flow) (parts : List Part) → AllPass r (sequence_moments s n g f parts) → (k : Sort) × IsOfSort k g × FitInSequence k f parts
in_sequence r s n None f [] h = (Sort.Bytes, tt, tt)
in_sequence r s n (Some a) f [] h = (kind_sort a, refl, tt)
in_sequence r s n g f (a ∷ more) h =
    let t = a.type f in
    let asked = ask s n (sequence_fails g f t (is_last more)) in
    let p = split r (a.moments s n f) _ h in
    let behind = fold reach r (a.moments s n f) in
    let none = own_passes behind asked p.1.0 in
    let rest = in_sequence (reach behind asked) s (n + a.size) (join g t.to) f more p.1.1 in
    let both = of_both rest.0 g t.to (not_false (agree g t.to) (none KindMismatch)) rest.1 in (
      rest.0,
      both.0,
      (
        record { reached = r; statement = s; number = n; pass = p.0 },
        both.1,
        (λ l c. cut_so (is_last more) (is_cut f) t.exact (left_false _ _ (none DropsRest)) l c),
        rest.2,
      ),
    )

pub sequence_fits : (parts : List Part) (f : Flow) → Fits f (sequence_part parts) → (k : Sort) × FitInSequence k f parts
sequence_fits parts f h =
    let x = in_sequence h.reached h.statement (h.number + 1) None f parts (split h.reached (sequence_moments h.statement (h.number + 1) None f parts) _ h.pass).0 in
    (x.0, x.2)
