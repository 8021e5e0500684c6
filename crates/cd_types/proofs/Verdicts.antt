-- Judging is finding the first moment at which a condition fails.
use Rattle.std.proofs.Common.{◌≡◌, ◌⊎◌, inl, inr, List, [], ◌∷◌, ◌++◌, Option, Some, None, refl, ap, sym, ◌∙◌}
use Rattle.std.specs.List.{fold}
use Rattle.cd_elem.specs.declared.script.Stmt.{Stmt}
use Rattle.cd_types.specs.declared.refusal.Refusal.{Refusal}
use Rattle.cd_types.specs.declared.refusal.RefusalKind.{RefusalKind}
use Rattle.cd_types.specs.Conditions.{lowest}
use Rattle.cd_types.specs.Moments.{Moment, Reached, nothing_reached, reach, fails_at, AllPass}
use Rattle.cd_types.specs.Statements.{script_moments}
use Rattle.cd_types.specs.Typing.{HasType, IsRefused, Verdict, Refused, Passed, refused_at, judged_from, judged}

not_passed : {A : Type 0} (x : Refusal) (r : Reached) → Refused x ≡ Passed r → A
not_passed x r e = let f : ⊥ = cc in absurd f

not_refused : {A : Type 0} (x : Refusal) (r : Reached) → Passed r ≡ Refused x → A
not_refused x r e = let f : ⊥ = cc in absurd f

-- where a moment passes, judging goes on
on : (r : Reached) (m : Moment) (more : List Moment) → lowest (fails_at r m) ≡ None → judged_from r (m ∷ more) ≡ judged_from (reach r m) more
on r m more e = ap (λ o. refused_at m o (judged_from (reach r m) more)) e

abbrev refusal_at : Moment → RefusalKind → Refusal
refusal_at m k = record { kind = k; statement = m.statement; part = m.part }

stop : (r : Reached) (m : Moment) (more : List Moment) (k : RefusalKind) → lowest (fails_at r m) ≡ Some k → judged_from r (m ∷ more) ≡ Refused (refusal_at m k)
stop r m more k e = ap (λ o. refused_at m o (judged_from (reach r m) more)) e

pass_first : (r t : Reached) (m : Moment) (more : List Moment) (o : Option RefusalKind) → (judged_from (reach r m) more ≡ Passed t → AllPass (reach r m) more)
    → lowest (fails_at r m) ≡ o → judged_from r (m ∷ more) ≡ Passed t → AllPass r (m ∷ more)
pass_first r t m more None next o e = (o, next (sym (on r m more o) ∙ e))
pass_first r t m more (Some k) next o e = not_passed (refusal_at m k) t (sym (stop r m more k o) ∙ e)

pub all_pass : (r t : Reached) (ms : List Moment) → judged_from r ms ≡ Passed t → AllPass r ms
all_pass r t [] e = tt
all_pass r t (m ∷ more) e = pass_first r t m more (lowest (fails_at r m)) (all_pass (reach r m) t more) refl e

pub passed_so : (r : Reached) (ms : List Moment) → AllPass r ms → judged_from r ms ≡ Passed (fold reach r ms)
passed_so r [] h = refl
passed_so r (m ∷ more) h = on r m more h.0 ∙ passed_so (reach r m) more h.1

pub reaches_so : (r t : Reached) (ms : List Moment) → judged_from r ms ≡ Passed t → fold reach r ms ≡ t
reaches_so r t ms e = let f : Passed (fold reach r ms) ≡ Passed t = sym (passed_so r ms (all_pass r t ms e)) ∙ e in cc

-- where moments are refused
record Stopped (r : Reached) (ms : List Moment) (x : Refusal) : Type 0 where
  before : List Moment
  moment : Moment
  behind : List Moment
  stand : ms ≡ before ++ moment ∷ behind
  pass : AllPass r before
  kind : lowest (fails_at (fold reach r before) moment) ≡ Some x.kind
  statement : x.statement ≡ moment.statement
  part : x.part ≡ moment.part

same_refusal : (m : Moment) (k : RefusalKind) (x : Refusal) → Refused (refusal_at m k) ≡ Refused x → refusal_at m k ≡ x
same_refusal m k x e = cc

stopped_first : (r : Reached) (m : Moment) (more : List Moment) (x : Refusal) (o : Option RefusalKind) → (judged_from (reach r m) more ≡ Refused x → Stopped (reach r m) more x)
    → lowest (fails_at r m) ≡ o → judged_from r (m ∷ more) ≡ Refused x → Stopped r (m ∷ more) x
stopped_first r m more x None next o e =
    let s = next (sym (on r m more o) ∙ e) in
    record {
      before = m ∷ s.before;
      moment = s.moment;
      behind = s.behind;
      stand = ap (λ ms. m ∷ ms) s.stand;
      pass = (o, s.pass);
      kind = s.kind;
      statement = s.statement;
      part = s.part;
    }
stopped_first r m more x (Some k) next o e =
    let same = same_refusal m k x (sym (stop r m more k o) ∙ e) in
    record {
      before = [];
      moment = m;
      behind = more;
      stand = refl;
      pass = tt;
      kind = o ∙ ap (λ y. Some y.kind) same;
      statement = ap (λ y. y.statement) (sym same);
      part = ap (λ y. y.part) (sym same);
    }

stopped : (r : Reached) (ms : List Moment) (x : Refusal) → judged_from r ms ≡ Refused x → Stopped r ms x
stopped r [] x e = not_refused x r e
stopped r (m ∷ more) x e = stopped_first r m more x (lowest (fails_at r m)) (stopped (reach r m) more x) refl e

pub refused_so : (script : List Stmt) (x : Refusal) → judged script ≡ Refused x → IsRefused script x
refused_so script x e =
    let s = stopped nothing_reached (script_moments script) x e in
    record {
      before = s.before;
      moment = s.moment;
      behind = s.behind;
      stand = s.stand;
      pass = s.pass;
      kind = s.kind;
      statement = s.statement;
      part = s.part;
    }

past : (r : Reached) (before : List Moment) (m : Moment) (behind : List Moment) (k : RefusalKind) → AllPass r before → lowest (fails_at (fold reach r before) m) ≡ Some k
    → judged_from r (before ++ m ∷ behind) ≡ Refused (refusal_at m k)
past r [] m behind k h e = stop r m behind k e
past r (b ∷ before) m behind k h e = on r b (before ++ m ∷ behind) h.0 ∙ past (reach r b) before m behind k h.1 e

pub only_so : (script : List Stmt) (x : Refusal) → IsRefused script x → judged script ≡ Refused x
only_so script x w =
    let same : refusal_at w.moment x.kind ≡ x = rw (← w.statement, ← w.part) refl in
    ap (judged_from nothing_reached) w.stand ∙ past nothing_reached w.before w.moment w.behind x.kind w.pass w.kind ∙ ap Refused same

-- ---- one or the other

pub either_so : (script : List Stmt) → HasType script ⊎ ((x : Refusal) × IsRefused script x)
either_so script = by (judged script) refl where
  by : (v : Verdict) → judged script ≡ v → HasType script ⊎ ((x : Refusal) × IsRefused script x)
  by (Passed r) e = inl (all_pass nothing_reached r (script_moments script) e)
  by (Refused x) e = inr (x, refused_so script x e)

pub never_both_so : (script : List Stmt) (x : Refusal) → HasType script → IsRefused script x → ⊥
never_both_so script x h w = not_passed x _ (sym (only_so script x w) ∙ passed_so nothing_reached (script_moments script) h)

same_answer : (x y : Refusal) → Refused x ≡ Refused y → x ≡ y
same_answer x y e = cc

pub unique_so : (script : List Stmt) (x y : Refusal) → IsRefused script x → IsRefused script y → x ≡ y
unique_so script x y v w = same_answer x y (sym (only_so script x v) ∙ only_so script y w)
