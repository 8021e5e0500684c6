-- Each moment stands at a statement of the script, and at a part of its pipe or at the statement itself.
use Rattle.std.proofs.Common.{◌≡◌, ◌≤◌, ◌<◌, ℕ, suc, ◌+◌, Bool, true, false, ◌&&◌, ◌||◌, not, nat_lt, List, [], ◌∷◌, ◌++◌, length, map, Option, Some, None, refl, sym, ◌∙◌, subst, arith}
use Rattle.std.proofs.lemmas.List.{length-append}
use Rattle.cd_elem.specs.Limits.{piece_limit}
use Rattle.cd_elem.specs.declared.word.Word.{Word}
use Rattle.cd_elem.specs.declared.script.Join.{Join}
use Rattle.cd_elem.specs.declared.script.Pipe.{Pipe, map-Pipe}
use Rattle.cd_elem.specs.declared.script.Pipe.TheOpen.{Pipe-F}
use Rattle.cd_elem.specs.declared.script.Pipe.TheViews.{roll-Pipe}
use Rattle.cd_elem.specs.declared.script.Pipe.TheFolds.{fold-roll-Pipe, ind-Pipe}
use Rattle.cd_elem.specs.declared.script.Stmt.{Stmt}
use Rattle.cd_meaning.specs.Places.{Place, Marks}
use Rattle.cd_types.specs.declared.refusal.Refusal.{Refusal}
use Rattle.cd_types.specs.declared.refusal.RefusalKind.TheVariants.{KindMismatch, SeesChunks, NeedsElements, BoundTooLarge, OpenEnd}
use Rattle.cd_types.specs.Conditions.{Fails, none_fails, fails_where}
use Rattle.cd_types.specs.Chains.{chain_moments, chain_part}
use Rattle.cd_types.specs.Flows.{Flow, PartType, is_nothing, is_cut, is_pieces, agree, join, piece_bound}
use Rattle.cd_types.specs.Forms.{form_of_one, form_of_two, input_fails, none_asked, section_type, mark_type, tee_type, tee_fails, zip_source_fails, zip_source_second_fails, zip_sink_fails, zipped, zip_source_type, zip_sink_type, zip_conduit_type}
use Rattle.cd_types.specs.Moments.{Moment, ask, end_part}
use Rattle.cd_types.specs.Parts.{Part, sizes, word_part}
use Rattle.cd_types.specs.Sequences.{sequence_moments, sequence_part}
use Rattle.cd_types.specs.Statements.{Statement, statement_of, pipe_moments, statement_moments, moments_behind, statement_types, types_behind, script_types, HasPart, seal_flow, run_fails, let_fails, feed_fails}
use Rattle.cd_types.specs.Trees.{part, part_step}
use Rattle.cd_types.specs.Typing.{IsRefused}
use Rattle.cd_types.proofs.FormFacts.{pipe_facts}

-- of this statement, and of so many parts from this one on
abbrev AllAt : ℕ → ℕ → ℕ → List Moment → Type 0
AllAt s low size [] = Unit {0}
AllAt s low size (m ∷ more) = (m.statement ≡ s) × (low ≤ m.part) × (m.part < low + size) × AllAt s low size more

both_at : (s low size : ℕ) (ms ns : List Moment) → AllAt s low size ms → AllAt s low size ns → AllAt s low size (ms ++ ns)
both_at s low size [] ns h k = k
both_at s low size (m ∷ ms) ns h k = (h.0, h.1, h.2, both_at s low size ms ns h.3 k)

wider : (s low size less more : ℕ) (ms : List Moment) → less ≤ low → low + size ≤ less + more → AllAt s low size ms → AllAt s less more ms
wider s low size less more [] a b h = tt
wider s low size less more (m ∷ ms) a b h =
    let x = h.1 in
    let y = h.2 in
    (h.0, omega arith, omega arith, wider s low size less more ms a b h.3)

record Numbered (a : Part) : Type 0 where
  some : 1 ≤ a.size
  within : (s n : ℕ) (f : Flow) → AllAt s n a.size (a.moments s n f)

abbrev AllNumbered : List Part → Type 0
AllNumbered [] = Unit {0}
AllNumbered (a ∷ parts) = Numbered a × AllNumbered parts

word_numbered : (w : Word) → Numbered (word_part w)
word_numbered w = record { some = omega arith; within = λ s n f. (refl, omega arith, omega arith, (refl, omega arith, omega arith, tt)) }

sequence_at : (s n : ℕ) (g f : Flow) (parts : List Part) → AllNumbered parts → AllAt s n (sizes parts) (sequence_moments s n g f parts)
sequence_at s n g f [] o = tt
sequence_at s n g f (a ∷ parts) o =
    let some = o.0.some in
    both_at s n (a.size + sizes parts) (a.moments s n f) _ (wider s n a.size n (a.size + sizes parts) (a.moments s n f) (omega arith) (omega arith) (o.0.within s n f)) (
      refl,
      omega arith,
      omega arith,
      wider s (n + a.size) (sizes parts) n (a.size + sizes parts) (sequence_moments s (n + a.size) (join g (a.type f).to) f parts) (omega arith) (omega arith)
          (sequence_at s (n + a.size) (join g (a.type f).to) f parts o.1),
    )

sequence_numbered : (parts : List Part) → AllNumbered parts → Numbered (sequence_part parts)
sequence_numbered parts o = record {
  some = omega arith;
  within = λ s n f.
      both_at s n (1 + sizes parts) (sequence_moments s (n + 1) None f parts) _
      (wider s (n + 1) (sizes parts) n (1 + sizes parts) (sequence_moments s (n + 1) None f parts) (omega arith) (omega arith) (sequence_at s (n + 1) None f parts o))
      (refl, omega arith, omega arith, tt);
}

chain_at : (s n : ℕ) (j : Join) (first : Bool) (f : Flow) (parts : List Part) → AllNumbered parts → AllAt s n (sizes parts) (chain_moments s n j first f parts)
chain_at s n j first f [] o = tt
chain_at s n j first f (a ∷ parts) o =
    let some = o.0.some in
    both_at s n (a.size + sizes parts) (a.moments s n f) _ (wider s n a.size n (a.size + sizes parts) (a.moments s n f) (omega arith) (omega arith) (o.0.within s n f)) (
      refl,
      omega arith,
      omega arith,
      wider s (n + a.size) (sizes parts) n (a.size + sizes parts) (chain_moments s (n + a.size) j false (a.type f).to parts) (omega arith) (omega arith)
          (chain_at s (n + a.size) j false (a.type f).to parts o.1),
    )

chain_numbered : (j : Join) (parts : List Part) → AllNumbered parts → Numbered (chain_part j parts)
chain_numbered j parts o = record {
  some = omega arith;
  within = λ s n f.
      both_at s n (1 + sizes parts) (chain_moments s (n + 1) j true f parts) _
      (wider s (n + 1) (sizes parts) n (1 + sizes parts) (chain_moments s (n + 1) j true f parts) (omega arith) (omega arith) (chain_at s (n + 1) j true f parts o))
      (refl, omega arith, omega arith, tt);
}

one_numbered : (type : Flow → PartType) (conditions : Flow → Fails) (site : Option Place) (asked : PartType → Fails) (a : Part) → Numbered a
    → Numbered (form_of_one type conditions site asked a)
one_numbered type conditions site asked a o = record {
  some = omega arith;
  within = λ s n f.
      let some = o.some in (
        refl,
        omega arith,
        omega arith,
        both_at s n (1 + a.size) (a.moments s (n + 1) f) _ (wider s (n + 1) a.size n (1 + a.size) (a.moments s (n + 1) f) (omega arith) (omega arith) (o.within s (n + 1) f))
            (refl, omega arith, omega arith, (refl, omega arith, omega arith, tt)),
      );
}

two_numbered : (type : Flow → PartType) (input : Flow → Flow) (conditions : Flow → Fails) (first : PartType → Fails) (second : PartType → PartType → Fails) (whole : Flow → Fails)
    (a b : Part) → Numbered a → Numbered b → Numbered (form_of_two type input conditions first second whole a b)
two_numbered type input conditions first second whole a b o u = record {
  some = omega arith;
  within = λ s n f.
      let some = o.some in
      let more = u.some in
      let left = a.moments s (n + 1) (input f) in
      let right = b.moments s (n + 1 + a.size) (input f) in
      let begun = ask s n (conditions f) ∷ (left ++ ask s (n + 1) (first (a.type (input f))) ∷ right) in
      let inside : AllAt s n (1 + a.size + b.size) begun = (
        refl,
        omega arith,
        omega arith,
        both_at s n (1 + a.size + b.size) left (ask s (n + 1) (first (a.type (input f))) ∷ right)
            (wider s (n + 1) a.size n (1 + a.size + b.size) left (omega arith) (omega arith) (o.within s (n + 1) (input f)))
            (refl, omega arith, omega arith, wider s (n + 1 + a.size) b.size n (1 + a.size + b.size) right (omega arith) (omega arith) (u.within s (n + 1 + a.size) (input f))),
      )
      in
      both_at s n (1 + a.size + b.size) begun
      (ask s (n + 1 + a.size) (second (a.type (input f)) (b.type (input f))) ∷ ask s n (whole f) ∷ end_part s n (type f).bound ∷ []) inside
      (refl, omega arith, omega arith, (refl, omega arith, omega arith, (refl, omega arith, omega arith, tt)));
}

-- ---- trees

abbrev P : Pipe → Type 0
P p = Numbered (part p)

abbrev Each : Type 0
Each = (p : Pipe) × P p

abbrev first_of : Each → Pipe
first_of e = e.0

parts_numbered : (parts : List Each) → AllNumbered (map part (map first_of parts))
parts_numbered [] = tt
parts_numbered (e ∷ parts) = (e.1, parts_numbered parts)

at_node : (x : Pipe-F Pipe) → Numbered (part_step (map-Pipe Pipe Part part x)) → P (roll-Pipe x)
unfolding part
at_node x o = subst (λ (a : Part). Numbered a) (sym (fold-roll-Pipe Part part_step x)) o

each : (y : Pipe-F Each) → P (roll-Pipe (map-Pipe Each Pipe first_of y))
each (Pipe-F.Word w) = at_node (Pipe-F.Word w) (word_numbered w)
each (Pipe-F.Chain j parts) = at_node (Pipe-F.Chain j (map first_of parts)) (chain_numbered j _ (parts_numbered parts))
each (Pipe-F.Sequence parts) = at_node (Pipe-F.Sequence (map first_of parts)) (sequence_numbered _ (parts_numbered parts))
each (Pipe-F.Exactly k a) = at_node (Pipe-F.Exactly k a.0) (one_numbered (section_type (part a.0)) (input_fails SeesChunks is_cut) None none_asked (part a.0) a.1)
each (Pipe-F.ExactlyE k a) = at_node (Pipe-F.ExactlyE k a.0) (one_numbered (section_type (part a.0)) (input_fails NeedsElements is_pieces) None none_asked (part a.0) a.1)
each (Pipe-F.LineE a) = at_node (Pipe-F.LineE a.0) (one_numbered (section_type (part a.0)) (input_fails NeedsElements is_pieces) None none_asked (part a.0) a.1)
each (Pipe-F.Mark name a) = at_node (Pipe-F.Mark name a.0) (one_numbered (mark_type (part a.0)) (λ f. none_fails) (Some (Marks name)) none_asked (part a.0) a.1)
each (Pipe-F.Tee a) = at_node (Pipe-F.Tee a.0) (one_numbered tee_type (input_fails SeesChunks is_cut) None tee_fails (part a.0) a.1)
each (Pipe-F.ZipSource a b literal) = at_node (Pipe-F.ZipSource a.0 b.0 literal) (two_numbered (zip_source_type (part a.0) (part b.0) literal) (λ f. None) (λ f. none_fails) zip_source_fails zip_source_second_fails
    (λ f. fails_where BoundTooLarge (nat_lt piece_limit (piece_bound (zipped (part a.0) (part b.0) literal)))) (part a.0) (part b.0) a.1 b.1)
each (Pipe-F.ZipSink a b) = at_node (Pipe-F.ZipSink a.0 b.0) (two_numbered (zip_sink_type (part a.0) (part b.0)) (λ f. f) (λ f. fails_where OpenEnd (is_nothing f)) zip_sink_fails (λ t u. zip_sink_fails u)
    (λ f. fails_where SeesChunks (is_cut f && ((part a.0).shows_cuts || (part b.0).shows_cuts || ((part a.0).has_site && (part b.0).has_site)))) (part a.0) (part b.0) a.1 b.1)
each (Pipe-F.ZipConduit a b) = at_node (Pipe-F.ZipConduit a.0 b.0) (two_numbered (zip_conduit_type (part a.0) (part b.0)) (λ f. f) (input_fails SeesChunks is_cut) none_asked
    (λ t u. fails_where KindMismatch (not (agree t.to u.to))) (λ f. none_fails) (part a.0) (part b.0) a.1 b.1)

numbered : (p : Pipe) → P p
numbered = ind-Pipe P (λ x y is. subst (λ z. P (roll-Pipe z)) is (each y))

-- ---- statements

-- of this statement, with no part past the last of these types
abbrev AllOf : ℕ → List PartType → List Moment → Type 0
AllOf s ts [] = Unit {0}
AllOf s ts (m ∷ more) = (m.statement ≡ s) × (m.part ≤ length ts) × AllOf s ts more

of_part : (s size : ℕ) (ts : List PartType) (ms ns : List Moment) → length ts ≡ size → AllAt s 1 size ms → AllOf s ts ns → AllOf s ts (ms ++ ns)
of_part s size ts [] ns e h k = k
of_part s size ts (m ∷ ms) ns e h k =
    let x = h.2 in
    (h.0, omega arith, of_part s size ts ms ns e h.3 k)

of_pipe : (p : Pipe) (s : ℕ) (f : Flow) (asked : PartType → Fails) → AllOf s ((part p).types f) (pipe_moments s f (part p) asked)
of_pipe p s f asked =
    let some = (numbered p).some in
    let size = (pipe_facts p).size f in
    of_part s (part p).size ((part p).types f) ((part p).moments s 1 f) _ size ((numbered p).within s 1 f) (refl, omega arith, tt)

of_statement : (s : Stmt) (k : ℕ) (before : List Statement) → AllOf k (statement_types before (statement_of s)) (statement_moments k before (statement_of s))
of_statement (Stmt.Run p) k before = (refl, omega arith, (refl, omega arith, of_pipe p k None run_fails))
of_statement (Stmt.Seal name p) k before = (refl, omega arith, (refl, omega arith, of_pipe p k None let_fails))
of_statement (Stmt.Feed name p) k before = (refl, omega arith, (refl, omega arith, of_pipe p k (seal_flow before name) feed_fails))
of_statement (Stmt.CloseSeal name p) k before = (refl, omega arith, (refl, omega arith, of_pipe p k (seal_flow before name) run_fails))
of_statement (Stmt.Hold name file) k before = (refl, omega arith, (refl, omega arith, tt))
of_statement (Stmt.Release name) k before = (refl, omega arith, (refl, omega arith, tt))

-- behind so many statements, of which none has these types
record Stands (k : ℕ) (types : List (List PartType)) (m : Moment) : Type 0 where
  index : ℕ
  statement : m.statement ≡ k + suc index
  part : HasPart types (suc index) m.part

abbrev AllStand : ℕ → List (List PartType) → List Moment → Type 0
AllStand k types [] = Unit {0}
AllStand k types (m ∷ more) = Stands k types m × AllStand k types more

first_stands : (k : ℕ) (ts : List PartType) (more : List (List PartType)) (ms ns : List Moment) → AllOf (k + 1) ts ms → AllStand k (ts ∷ more) ns → AllStand k (ts ∷ more) (ms ++ ns)
first_stands k ts more [] ns h l = l
first_stands k ts more (m ∷ ms) ns h l = (record { index = 0; statement = h.0; part = h.1 }, first_stands k ts more ms ns h.2 l)

later_stand : (k : ℕ) (ts : List PartType) (more : List (List PartType)) (ms : List Moment) → AllStand (k + 1) more ms → AllStand k (ts ∷ more) ms
later_stand k ts more [] h = tt
later_stand k ts more (m ∷ ms) h =
    let e = h.0.statement in
    (record { index = suc h.0.index; statement = omega arith; part = h.0.part }, later_stand k ts more ms h.1)

all_stand : (before : List Statement) (script : List Stmt)
    → AllStand (length before) (types_behind before (map statement_of script)) (moments_behind before (map statement_of script))
all_stand before [] = tt
all_stand before (s ∷ more) =
    let now = statement_of s in
    let behind = moments_behind (before ++ now ∷ []) (map statement_of more) in
    let types = types_behind (before ++ now ∷ []) (map statement_of more) in
    first_stands (length before) (statement_types before now) types (statement_moments (length before + 1) before now) behind (of_statement s (length before + 1) before)
    (later_stand (length before) (statement_types before now) types behind
    (subst (λ k. AllStand k types behind) (length-append before (now ∷ [])) (all_stand (before ++ now ∷ []) more)))

-- the one between these
stands_between : (k : ℕ) (types : List (List PartType)) (before : List Moment) (m : Moment) (behind : List Moment) → AllStand k types (before ++ m ∷ behind) → Stands k types m
stands_between k types [] m behind h = h.0
stands_between k types (b ∷ before) m behind h = stands_between k types before m behind h.1

from_none : (n : ℕ) → 0 + suc n ≡ suc n
from_none n = omega arith

pub refused_at_a_part : (script : List Stmt) (x : Refusal) → IsRefused script x → HasPart (script_types script) x.statement x.part
refused_at_a_part script x w =
    let s = stands_between 0 (script_types script) w.before w.moment w.behind (subst (AllStand 0 (script_types script)) w.stand (all_stand [] script)) in
    let e : x.statement ≡ suc s.index = w.statement ∙ s.statement ∙ from_none s.index in
    subst (λ p. HasPart (script_types script) x.statement p) (sym w.part) (subst (λ n. HasPart (script_types script) n w.moment.part) (sym e) s.part)
