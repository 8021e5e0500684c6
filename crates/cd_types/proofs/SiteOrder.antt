-- The sites of a script stand in the order of their statements and parts, each at a place of its own.
use Rattle.std.proofs.Common.{◌≡◌, ◌≤◌, ◌<◌, ℕ, zero, suc, ◌+◌, ◌==◌, Bool, true, false, ◌&&◌, ◌||◌, not, nat_lt, cond, List, [], ◌∷◌, ◌++◌, length, map, slice_get, Option, Some, None, option_map, refl, ap, sym, ◌∙◌, subst, arith}
use Rattle.std.specs.List.{position_or_len}
use Rattle.std.proofs.lemmas.Bool.{eqb-true, eq-eqb, lt-ltb}
use Rattle.std.proofs.lemmas.List.{length-append}
use Rattle.std.proofs.lemmas.Option.{slice_get_within}
use Rattle.cd_elem.specs.Limits.{piece_limit}
use Rattle.cd_elem.specs.declared.word.Word.{Word}
use Rattle.cd_elem.specs.declared.script.Join.{Join}
use Rattle.cd_elem.specs.declared.script.Pipe.{Pipe, map-Pipe}
use Rattle.cd_elem.specs.declared.script.Pipe.TheOpen.{Pipe-F}
use Rattle.cd_elem.specs.declared.script.Pipe.TheViews.{roll-Pipe}
use Rattle.cd_elem.specs.declared.script.Pipe.TheFolds.{fold-roll-Pipe, ind-Pipe}
use Rattle.cd_elem.specs.declared.script.Stmt.{Stmt}
use Rattle.cd_meaning.specs.Places.{Place, Marks}
use Rattle.cd_types.specs.declared.refusal.RefusalKind.TheVariants.{KindMismatch, SeesChunks, NeedsElements, BoundTooLarge, OpenEnd}
use Rattle.cd_types.specs.Conditions.{Fails, none_fails, fails_where}
use Rattle.cd_types.specs.Chains.{chain_moments, chain_part}
use Rattle.cd_types.specs.Flows.{Flow, PartType, is_nothing, is_cut, is_pieces, agree, join, piece_bound}
use Rattle.cd_types.specs.Forms.{form_of_one, form_of_two, input_fails, none_asked, section_type, mark_type, tee_type, tee_fails, zip_source_fails, zip_source_second_fails, zip_sink_fails, zipped, zip_source_type, zip_sink_type, zip_conduit_type}
use Rattle.cd_types.specs.Moments.{Moment, ask, end_part}
use Rattle.cd_types.specs.Numbering.{ScriptSite, site_before, moment_sites, script_sites, stands_at, site_number}
use Rattle.cd_types.specs.Parts.{Part, sizes, word_part}
use Rattle.cd_types.specs.Sequences.{sequence_moments, sequence_part}
use Rattle.cd_types.specs.Statements.{Statement, statement_of, pipe_moments, statement_moments, moments_behind, seal_flow, run_fails, let_fails, feed_fails}
use Rattle.cd_types.specs.Trees.{part, part_step}
use Rattle.cd_types.specs.WordTypes.{word_site}
use Rattle.cd_types.proofs.Numbered.{further_sites}

-- of this statement, at parts that rise from low on and stay below high
abbrev Rising : ℕ → ℕ → ℕ → List ScriptSite → Type 0
Rising s low high [] = Unit {0}
Rising s low high (x ∷ more) = (x.statement ≡ s) × (low ≤ x.part) × (x.part < high) × Rising s (x.part + 1) high more

lower : (s less low high : ℕ) (xs : List ScriptSite) → less ≤ low → Rising s low high xs → Rising s less high xs
lower s less low high [] a h = tt
lower s less low high (x ∷ more) a h = let b = h.1 in (h.0, omega arith, h.2, h.3)

higher : (s low high more : ℕ) (xs : List ScriptSite) → high ≤ more → Rising s low high xs → Rising s low more xs
higher s low high more [] a h = tt
higher s low high more (x ∷ xs) a h = let b = h.2 in (h.0, h.1, omega arith, higher s (x.part + 1) high more xs a h.3)

both_rise : (s low mid high : ℕ) (xs ys : List ScriptSite) → low ≤ mid → mid ≤ high → Rising s low mid xs → Rising s mid high ys → Rising s low high (xs ++ ys)
both_rise s low mid high [] ys a b h k = lower s low mid high ys a k
both_rise s low mid high (x ∷ xs) ys a b h k = let c = h.2 in (h.0, h.1, omega arith, both_rise s (x.part + 1) mid high xs ys (omega arith) b h.3 k)

-- the same of moments
moments_rise : (s low mid high : ℕ) (ms ns : List Moment) → low ≤ mid → mid ≤ high → Rising s low mid (moment_sites ms) → Rising s mid high (moment_sites ns) → Rising s low high (moment_sites (ms ++ ns))
moments_rise s low mid high ms ns a b h k = subst (λ l. Rising s low high l) (sym (further_sites ms ns)) (both_rise s low mid high (moment_sites ms) (moment_sites ns) a b h k)

begun_rise : (s n high : ℕ) (site : Option Place) (xs : List ScriptSite) → n < high → Rising s (n + 1) high xs → Rising s n high (site_before s n site xs)
begun_rise s n high None xs a h = lower s n (n + 1) high xs (omega arith) h
begun_rise s n high (Some p) xs a h = (refl, omega arith, a, h)

record Ordered (a : Part) : Type 0 where
  rise : (s n : ℕ) (f : Flow) → Rising s n (n + a.size) (moment_sites (a.moments s n f))

abbrev AllOrdered : List Part → Type 0
AllOrdered [] = Unit {0}
AllOrdered (a ∷ parts) = Ordered a × AllOrdered parts

word_ordered : (w : Word) → Ordered (word_part w)
word_ordered w = record { rise = λ s n f. begun_rise s n (n + 1) (word_site w) [] (omega arith) tt }

sequence_rise : (s n : ℕ) (g f : Flow) (parts : List Part) → AllOrdered parts → Rising s n (n + sizes parts) (moment_sites (sequence_moments s n g f parts))
sequence_rise s n g f [] o = tt
sequence_rise s n g f (a ∷ parts) o =
    moments_rise s n (n + a.size) (n + (a.size + sizes parts)) (a.moments s n f) _ (omega arith) (omega arith) (o.0.rise s n f)
    (higher s (n + a.size) (n + a.size + sizes parts) (n + (a.size + sizes parts)) (moment_sites (sequence_moments s (n + a.size) (join g (a.type f).to) f parts)) (omega arith)
    (sequence_rise s (n + a.size) (join g (a.type f).to) f parts o.1))

-- inside a part that is no site itself, with a last moment that is none
inside_rise : (s n size bound : ℕ) (ms : List Moment) → Rising s (n + 1) (n + 1 + size) (moment_sites ms) → Rising s n (n + (1 + size)) (moment_sites (ms ++ end_part s n bound ∷ []))
inside_rise s n size bound ms h =
    moments_rise s n (n + (1 + size)) (n + (1 + size)) ms (end_part s n bound ∷ []) (omega arith) (omega arith)
    (lower s n (n + 1) (n + (1 + size)) (moment_sites ms) (omega arith) (higher s (n + 1) (n + 1 + size) (n + (1 + size)) (moment_sites ms) (omega arith) h)) tt

sequence_ordered : (parts : List Part) → AllOrdered parts → Ordered (sequence_part parts)
sequence_ordered parts o = record { rise = λ s n f. inside_rise s n (sizes parts) 0 (sequence_moments s (n + 1) None f parts) (sequence_rise s (n + 1) None f parts o) }

chain_rise : (s n : ℕ) (j : Join) (first : Bool) (f : Flow) (parts : List Part) → AllOrdered parts → Rising s n (n + sizes parts) (moment_sites (chain_moments s n j first f parts))
chain_rise s n j first f [] o = tt
chain_rise s n j first f (a ∷ parts) o =
    moments_rise s n (n + a.size) (n + (a.size + sizes parts)) (a.moments s n f) _ (omega arith) (omega arith) (o.0.rise s n f)
    (higher s (n + a.size) (n + a.size + sizes parts) (n + (a.size + sizes parts)) (moment_sites (chain_moments s (n + a.size) j false (a.type f).to parts)) (omega arith)
    (chain_rise s (n + a.size) j false (a.type f).to parts o.1))

chain_ordered : (j : Join) (parts : List Part) → AllOrdered parts → Ordered (chain_part j parts)
chain_ordered j parts o = record { rise = λ s n f. inside_rise s n (sizes parts) _ (chain_moments s (n + 1) j true f parts) (chain_rise s (n + 1) j true f parts o) }

one_ordered : (type : Flow → PartType) (conditions : Flow → Fails) (site : Option Place) (asked : PartType → Fails) (a : Part) → Ordered a
    → Ordered (form_of_one type conditions site asked a)
one_ordered type conditions site asked a o = record {
  rise = λ s n f.
      begun_rise s n (n + (1 + a.size)) site _ (omega arith)
      (moments_rise s (n + 1) (n + (1 + a.size)) (n + (1 + a.size)) (a.moments s (n + 1) f) _ (omega arith) (omega arith)
      (higher s (n + 1) (n + 1 + a.size) (n + (1 + a.size)) (moment_sites (a.moments s (n + 1) f)) (omega arith) (o.rise s (n + 1) f)) tt);
}

two_ordered : (type : Flow → PartType) (input : Flow → Flow) (conditions : Flow → Fails) (first : PartType → Fails) (second : PartType → PartType → Fails) (whole : Flow → Fails)
    (a b : Part) → Ordered a → Ordered b → Ordered (form_of_two type input conditions first second whole a b)
two_ordered type input conditions first second whole a b o u = record {
  rise = λ s n f.
      let left = a.moments s (n + 1) (input f) in
      let right = b.moments s (n + 1 + a.size) (input f) in
      let both = left ++ ask s (n + 1) (first (a.type (input f))) ∷ right in
      let inside : Rising s (n + 1) (n + (1 + a.size + b.size)) (moment_sites both) =
      moments_rise s (n + 1) (n + 1 + a.size) (n + (1 + a.size + b.size)) left (ask s (n + 1) (first (a.type (input f))) ∷ right) (omega arith) (omega arith) (o.rise s (n + 1) (input f))
      (higher s (n + 1 + a.size) (n + 1 + a.size + b.size) (n + (1 + a.size + b.size)) (moment_sites right) (omega arith) (u.rise s (n + 1 + a.size) (input f)))
      in
      moments_rise s n (n + (1 + a.size + b.size)) (n + (1 + a.size + b.size)) (ask s n (conditions f) ∷ both)
      (ask s (n + 1 + a.size) (second (a.type (input f)) (b.type (input f))) ∷ ask s n (whole f) ∷ end_part s n (type f).bound ∷ []) (omega arith) (omega arith)
      (lower s n (n + 1) (n + (1 + a.size + b.size)) (moment_sites both) (omega arith) inside) tt;
}

-- ---- trees

abbrev P : Pipe → Type 0
P p = Ordered (part p)

abbrev Each : Type 0
Each = (p : Pipe) × P p

abbrev first_of : Each → Pipe
first_of e = e.0

parts_ordered : (parts : List Each) → AllOrdered (map part (map first_of parts))
parts_ordered [] = tt
parts_ordered (e ∷ parts) = (e.1, parts_ordered parts)

at_node : (x : Pipe-F Pipe) → Ordered (part_step (map-Pipe Pipe Part part x)) → P (roll-Pipe x)
unfolding part
at_node x o = subst (λ (a : Part). Ordered a) (sym (fold-roll-Pipe Part part_step x)) o

each : (y : Pipe-F Each) → P (roll-Pipe (map-Pipe Each Pipe first_of y))
each (Pipe-F.Word w) = at_node (Pipe-F.Word w) (word_ordered w)
each (Pipe-F.Chain j parts) = at_node (Pipe-F.Chain j (map first_of parts)) (chain_ordered j _ (parts_ordered parts))
each (Pipe-F.Sequence parts) = at_node (Pipe-F.Sequence (map first_of parts)) (sequence_ordered _ (parts_ordered parts))
each (Pipe-F.Exactly k a) = at_node (Pipe-F.Exactly k a.0) (one_ordered (section_type (part a.0)) (input_fails SeesChunks is_cut) None none_asked (part a.0) a.1)
each (Pipe-F.ExactlyE k a) = at_node (Pipe-F.ExactlyE k a.0) (one_ordered (section_type (part a.0)) (input_fails NeedsElements is_pieces) None none_asked (part a.0) a.1)
each (Pipe-F.LineE a) = at_node (Pipe-F.LineE a.0) (one_ordered (section_type (part a.0)) (input_fails NeedsElements is_pieces) None none_asked (part a.0) a.1)
each (Pipe-F.Mark name a) = at_node (Pipe-F.Mark name a.0) (one_ordered (mark_type (part a.0)) (λ f. none_fails) (Some (Marks name)) none_asked (part a.0) a.1)
each (Pipe-F.Tee a) = at_node (Pipe-F.Tee a.0) (one_ordered tee_type (input_fails SeesChunks is_cut) None tee_fails (part a.0) a.1)
each (Pipe-F.ZipSource a b literal) = at_node (Pipe-F.ZipSource a.0 b.0 literal) (two_ordered (zip_source_type (part a.0) (part b.0) literal) (λ f. None) (λ f. none_fails) zip_source_fails zip_source_second_fails
    (λ f. fails_where BoundTooLarge (nat_lt piece_limit (piece_bound (zipped (part a.0) (part b.0) literal)))) (part a.0) (part b.0) a.1 b.1)
each (Pipe-F.ZipSink a b) = at_node (Pipe-F.ZipSink a.0 b.0) (two_ordered (zip_sink_type (part a.0) (part b.0)) (λ f. f) (λ f. fails_where OpenEnd (is_nothing f)) zip_sink_fails (λ t u. zip_sink_fails u)
    (λ f. fails_where SeesChunks (is_cut f && ((part a.0).shows_cuts || (part b.0).shows_cuts || ((part a.0).has_site && (part b.0).has_site)))) (part a.0) (part b.0) a.1 b.1)
each (Pipe-F.ZipConduit a b) = at_node (Pipe-F.ZipConduit a.0 b.0) (two_ordered (zip_conduit_type (part a.0) (part b.0)) (λ f. f) (input_fails SeesChunks is_cut) none_asked
    (λ t u. fails_where KindMismatch (not (agree t.to u.to))) (λ f. none_fails) (part a.0) (part b.0) a.1 b.1)

ordered : (p : Pipe) → P p
ordered = ind-Pipe P (λ x y is. subst (λ z. P (roll-Pipe z)) is (each y))

-- ---- statements

record StatementRises (k : ℕ) (xs : List ScriptSite) : Type 0 where
  high : ℕ
  rise : Rising k 0 high xs

of_pipe : (p : Pipe) (k : ℕ) (f : Flow) (asked : PartType → Fails) → StatementRises k (moment_sites (pipe_moments k f (part p) asked))
of_pipe p k f asked = record {
  high = 1 + (part p).size;
  rise = moments_rise k 0 (1 + (part p).size) (1 + (part p).size) ((part p).moments k 1 f) _ (omega arith) (omega arith)
      (lower k 0 1 (1 + (part p).size) (moment_sites ((part p).moments k 1 f)) (omega arith) ((ordered p).rise k 1 f)) tt;
}

of_statement : (s : Stmt) (k : ℕ) (before : List Statement) → StatementRises k (moment_sites (statement_moments k before (statement_of s)))
of_statement (Stmt.Run p) k before = of_pipe p k None run_fails
of_statement (Stmt.Seal name p) k before = of_pipe p k None let_fails
of_statement (Stmt.Feed name p) k before = of_pipe p k (seal_flow before name) feed_fails
of_statement (Stmt.CloseSeal name p) k before = of_pipe p k (seal_flow before name) run_fails
of_statement (Stmt.Hold name file) k before = record { high = 1; rise = (refl, omega arith, omega arith, tt) }
of_statement (Stmt.Release name) k before = record { high = 0; rise = tt }

-- all of this statement
abbrev pub AllAt : ℕ → List ScriptSite → Type 0
AllAt k [] = Unit {0}
AllAt k (x ∷ more) = (x.statement ≡ k) × AllAt k more

all_at : (k low high : ℕ) (xs : List ScriptSite) → Rising k low high xs → AllAt k xs
all_at k low high [] h = tt
all_at k low high (x ∷ xs) h = (h.0, all_at k (x.part + 1) high xs h.3)

pub sites_at_statement : (s : Stmt) (k : ℕ) (before : List Statement) → AllAt k (moment_sites (statement_moments k before (statement_of s)))
sites_at_statement s k before = let own = of_statement s k before in all_at k 0 own.high (moment_sites (statement_moments k before (statement_of s))) own.rise

-- ---- scripts

abbrev AllFrom : ℕ → List ScriptSite → Type 0
AllFrom k [] = Unit {0}
AllFrom k (x ∷ more) = (k ≤ x.statement) × AllFrom k more

-- none of these stands where this one does
abbrev NoneAt : ScriptSite → List ScriptSite → Type 0
NoneAt x [] = Unit {0}
NoneAt x (y ∷ more) = ((x.statement ≡ y.statement) × (x.part ≡ y.part) → ⊥) × NoneAt x more

abbrev Apart : List ScriptSite → Type 0
Apart [] = Unit {0}
Apart (x ∷ more) = NoneAt x more × Apart more

none_later : (k : ℕ) (x : ScriptSite) (ys : List ScriptSite) → x.statement ≡ k → AllFrom (k + 1) ys → NoneAt x ys
none_later k x [] e h = tt
none_later k x (y ∷ ys) e h = let a = h.0 in ((λ same. let b = same.0 in absurd (omega arith)), none_later k x ys e h.1)

none_behind : (k low high : ℕ) (x : ScriptSite) (xs ys : List ScriptSite) → x.statement ≡ k → x.part < low → Rising k low high xs → AllFrom (k + 1) ys → NoneAt x (xs ++ ys)
none_behind k low high x [] ys e a h l = none_later k x ys e l
none_behind k low high x (y ∷ xs) ys e a h l =
    let b = h.1 in
    ((λ same. let c = same.1 in absurd (omega arith)), none_behind k (y.part + 1) high x xs ys e (omega arith) h.3 l)

both_apart : (k low high : ℕ) (xs ys : List ScriptSite) → Rising k low high xs → AllFrom (k + 1) ys → Apart ys → Apart (xs ++ ys)
both_apart k low high [] ys h l a = a
both_apart k low high (x ∷ xs) ys h l a = (none_behind k (x.part + 1) high x xs ys h.0 (omega arith) h.3 l, both_apart k (x.part + 1) high xs ys h.3 l a)

all_from : (k low high : ℕ) (xs ys : List ScriptSite) → Rising k low high xs → AllFrom (k + 1) ys → AllFrom k (xs ++ ys)
all_from k low high [] [] h l = tt
all_from k low high [] (y ∷ ys) h l = let a = l.0 in (omega arith, all_from k low high [] ys tt l.1)
all_from k low high (x ∷ xs) ys h l = let a = h.0 in (omega arith, all_from k (x.part + 1) high xs ys h.3 l)

record AllApart (k : ℕ) (xs : List ScriptSite) : Type 0 where
  from : AllFrom k xs
  apart : Apart xs

of_statements : (before : List Statement) (script : List Stmt) → AllApart (length before + 1) (moment_sites (moments_behind before (map statement_of script)))
of_statements before [] = record { from = tt; apart = tt }
of_statements before (s ∷ more) =
    let k = length before + 1 in
    let now = statement_of s in
    let own = of_statement s k before in
    let behind = moments_behind (before ++ now ∷ []) (map statement_of more) in
    let rest : AllApart (k + 1) (moment_sites behind) = subst (λ n. AllApart (n + 1) (moment_sites behind)) (length-append before (now ∷ [])) (of_statements (before ++ now ∷ []) more) in
    subst (λ l. AllApart k l) (sym (further_sites (statement_moments k before now) behind)) (record {
      from = all_from k 0 own.high (moment_sites (statement_moments k before now)) (moment_sites behind) own.rise rest.from;
      apart = both_apart k 0 own.high (moment_sites (statement_moments k before now)) (moment_sites behind) own.rise rest.from rest.apart;
    })

-- ---- the number of a site

both_so : (a b : Bool) → (a && b) ≡ true → (a ≡ true) × (b ≡ true)
both_so true b e = (refl, e)
both_so false b e = let no : ⊥ = cc in absurd no

stands_so : (s n : ℕ) (y : ScriptSite) → stands_at s n y ≡ true → (y.statement ≡ s) × (y.part ≡ n)
stands_so s n y e = let p = both_so (y.statement == s) (y.part == n) e in (eqb-true y.statement s p.0, eqb-true y.part n p.1)

stands_itself : (x : ScriptSite) → stands_at x.statement x.part x ≡ true
stands_itself x = ap (λ b. b && (x.part == x.part)) (eq-eqb x.statement x.statement refl) ∙ eq-eqb x.part x.part refl

false_unless : (b : Bool) → (b ≡ true → ⊥) → b ≡ false
false_unless true h = absurd (h refl)
false_unless false h = refl

not_at : (xs : List ScriptSite) (i : ℕ) (y x : ScriptSite) → NoneAt y xs → slice_get xs i ≡ Some x → stands_at x.statement x.part y ≡ false
not_at [] i y x h at = let no : ⊥ = cc in absurd no
not_at (z ∷ xs) zero y x h at =
    let same : x ≡ z = cc in
    false_unless (stands_at x.statement x.part y) (λ e.
    let p = stands_so x.statement x.part y e in
    h.0 (p.0 ∙ ap (λ (w : ScriptSite). w.statement) same, p.1 ∙ ap (λ (w : ScriptSite). w.part) same))
not_at (z ∷ xs) (suc i) y x h at = not_at xs i y x h.1 at

its_place : (xs : List ScriptSite) (i : ℕ) (x : ScriptSite) → Apart xs → slice_get xs i ≡ Some x → position_or_len (stands_at x.statement x.part) xs ≡ i
its_place [] i x a at = let no : ⊥ = cc in absurd no
its_place (y ∷ xs) zero x a at =
    let same : y ≡ x = cc in
    ap (λ b. cond (not b) (1 + position_or_len (stands_at x.statement x.part) xs) 0) (subst (λ (w : ScriptSite). stands_at w.statement w.part y ≡ true) same (stands_itself y))
its_place (y ∷ xs) (suc i) x a at =
    let rest = its_place xs i x a.1 at in
    let next : 1 + position_or_len (stands_at x.statement x.part) xs ≡ suc i = omega arith in
    ap (λ b. cond (not b) (1 + position_or_len (stands_at x.statement x.part) xs) 0) (not_at xs i y x a.0 at) ∙ next

pub own_number : (script : List Stmt) (i : ℕ) (x : ScriptSite) → slice_get (script_sites script) i ≡ Some x → site_number script x.statement x.part ≡ Some (i + 1)
own_number script i x at =
    let sites = script_sites script in
    let place = its_place sites i x (of_statements [] script).apart at in
    let within = slice_get_within sites i x at in
    ap (λ k. option_map (λ place. place + 1) (cond (nat_lt k (length sites)) (Some k) None)) place
    ∙ ap (λ b. option_map (λ place. place + 1) (cond b (Some i) None)) (lt-ltb i (length sites) within)
