-- The 257th statement and the 129th site, at each sort of statement and of site.
use Rattle.std.specs.Prelude.{List, [], ◌∷◌, ◌≡◌, ◌++◌, ℕ, codes, replicate}
use Rattle.cd_meaning.specs.Places.{Place, WritesOutput, Marks}
use Rattle.cd_meaning.specs.Rows.Trees.{Sentence}
use Rattle.cd_meaning.specs.Rows.Short.{sink_null, source_file_word, stdin_word, bytes_word, range_word, sink_file_word, stdout_word, piped, mark_form, sequence_form, run_statement, let_statement, feed_statement, close_statement, hold_statement, release_statement}
use Rattle.cd_types.specs.declared.refusal.RefusalKind.TheVariants.{NeedsElements, NameTwice, TooMany}
use Rattle.cd_types.specs.Rows.Trees.{verdict, verdict_is, refused, passed}

-- `run range 0 9 | sinkNull;`
abbrev idle : Sentence
idle = run_statement (piped (range_word 0 9 ∷ sink_null ∷ []))

-- a seal, a key and so many further statements
abbrev statements : ℕ → List Sentence
statements n = let_statement (codes "s") (range_word 0 9) ∷ hold_statement (codes "k") (codes "m") ∷ replicate n idle

-- `run bytes "x" | { stdout; stdout };` with two sites
abbrev outputs : Sentence
outputs = run_statement (piped (bytes_word (codes "x") ∷ sequence_form (stdout_word ∷ stdout_word ∷ []) ∷ []))

-- 128 sites
abbrev sites : List Sentence
sites = replicate 64 outputs

abbrev outside : List Place
outside = replicate 128 WritesOutput

-- 256 statements
abbrev statements_at_the_limit_script : List Sentence
statements_at_the_limit_script = statements 254

statements_at_the_limit : verdict statements_at_the_limit_script ≡ passed (Marks (codes "m") ∷ []) 0
statements_at_the_limit = verdict_is statements_at_the_limit_script

-- the 257th: run range 0 9 | sinkNull;
abbrev run_past_script : List Sentence
run_past_script = statements 254 ++ idle ∷ []

run_past : verdict run_past_script ≡ refused TooMany 257 0
run_past = verdict_is run_past_script

-- let s = seal range 0 9; also where the name is a seal already
abbrev let_past_script : List Sentence
let_past_script = statements 254 ++ let_statement (codes "s") (range_word 0 9) ∷ []

let_past : verdict let_past_script ≡ refused TooMany 257 0
let_past = verdict_is let_past_script

-- feed s | sinkNull;
abbrev feed_past_script : List Sentence
feed_past_script = statements 254 ++ feed_statement (codes "s") sink_null ∷ []

feed_past : verdict feed_past_script ≡ refused TooMany 257 0
feed_past = verdict_is feed_past_script

-- close s | sinkNull;
abbrev close_past_script : List Sentence
close_past_script = statements 254 ++ close_statement (codes "s") sink_null ∷ []

close_past : verdict close_past_script ≡ refused TooMany 257 0
close_past = verdict_is close_past_script

-- hold j = mark "m"; also where the name is marked already
abbrev hold_past_script : List Sentence
hold_past_script = statements 254 ++ hold_statement (codes "j") (codes "m") ∷ []

hold_past : verdict hold_past_script ≡ refused TooMany 257 0
hold_past = verdict_is hold_past_script

-- release k;
abbrev release_past_script : List Sentence
release_past_script = statements 254 ++ release_statement (codes "k") ∷ []

release_past : verdict release_past_script ≡ refused TooMany 257 0
release_past = verdict_is release_past_script

-- 128 sites
abbrev sites_at_the_limit_script : List Sentence
sites_at_the_limit_script = sites

sites_at_the_limit : verdict sites_at_the_limit_script ≡ passed outside 0
sites_at_the_limit = verdict_is sites_at_the_limit_script

-- the 129th: run sourceFile "a" | sinkNull;
abbrev source_past_script : List Sentence
source_past_script = sites ++ run_statement (piped (source_file_word (codes "a") ∷ sink_null ∷ [])) ∷ []

source_past : verdict source_past_script ≡ refused TooMany 65 2
source_past = verdict_is source_past_script

-- run stdin | sinkNull;
abbrev stdin_past_script : List Sentence
stdin_past_script = sites ++ run_statement (piped (stdin_word ∷ sink_null ∷ [])) ∷ []

stdin_past : verdict stdin_past_script ≡ refused TooMany 65 2
stdin_past = verdict_is stdin_past_script

-- run bytes "x" | sinkFile "x";
abbrev sink_past_script : List Sentence
sink_past_script = sites ++ run_statement (piped (bytes_word (codes "x") ∷ sink_file_word (codes "x") ∷ [])) ∷ []

sink_past : verdict sink_past_script ≡ refused TooMany 65 3
sink_past = verdict_is sink_past_script

-- run bytes "x" | stdout;
abbrev stdout_past_script : List Sentence
stdout_past_script = sites ++ run_statement (piped (bytes_word (codes "x") ∷ stdout_word ∷ [])) ∷ []

stdout_past : verdict stdout_past_script ≡ refused TooMany 65 3
stdout_past = verdict_is stdout_past_script

-- run mark "m" { bytes "x" } | sinkNull;
abbrev mark_past_script : List Sentence
mark_past_script = sites ++ run_statement (piped (mark_form (codes "m") (bytes_word (codes "x")) ∷ sink_null ∷ [])) ∷ []

mark_past : verdict mark_past_script ≡ refused TooMany 65 2
mark_past = verdict_is mark_past_script

-- hold k = mark "m";
abbrev held_mark_past_script : List Sentence
held_mark_past_script = sites ++ hold_statement (codes "k") (codes "m") ∷ []

held_mark_past : verdict held_mark_past_script ≡ refused TooMany 65 0
held_mark_past = verdict_is held_mark_past_script

-- run range 0 9 | stdout; where the lower number is that of the pieces
abbrev site_on_pieces_past_script : List Sentence
site_on_pieces_past_script = sites ++ run_statement (piped (range_word 0 9 ∷ stdout_word ∷ [])) ∷ []

site_on_pieces_past : verdict site_on_pieces_past_script ≡ refused NeedsElements 65 3
site_on_pieces_past = verdict_is site_on_pieces_past_script

-- 128 sites, then the name of one of them
abbrev name_past_script : List Sentence
name_past_script = replicate 63 outputs ++ run_statement (piped (bytes_word (codes "x") ∷ sequence_form (stdout_word ∷ sink_file_word (codes "x") ∷
    []) ∷ [])) ∷ run_statement (piped (source_file_word (codes "x") ∷ sink_null ∷ [])) ∷ []

name_past : verdict name_past_script ≡ refused NameTwice 65 2
name_past = verdict_is name_past_script

-- run bytes "x" | sinkNull;
abbrev no_site_past_script : List Sentence
no_site_past_script = sites ++ run_statement (piped (bytes_word (codes "x") ∷ sink_null ∷ [])) ∷ []

no_site_past : verdict no_site_past_script ≡ passed outside 0
no_site_past = verdict_is no_site_past_script
