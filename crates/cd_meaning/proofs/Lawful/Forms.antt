-- Operators and forms of lawful pipes are lawful.
use Rattle.std.proofs.Common.{Bool, ◌≡◌, ℕ, suc, ◌+◌, List, [], ◌++◌, length, None, refl, ap, ◌∙◌, subst, arith, ◌≤◌, ◌<◌}
use Rattle.std.proofs.lemmas.List.{length-append}
use Rattle.cd_meaning.specs.Stream.{Sort, Flow}
use Rattle.cd_meaning.specs.Run.{Component}
use Rattle.cd_meaning.specs.RunShapes.{Seen}
use Rattle.cd_meaning.specs.Sorts.{sort_of, join, list_of, literal_at}
use Rattle.cd_meaning.specs.Fusion.{fuse, fuse_keep, fuse_both, fuse_up, fuse_asked, fuse_return, both, first_value}
use Rattle.cd_meaning.specs.Sections.{sequence, exactly, line}
use Rattle.cd_meaning.specs.Zips.{zip_sink, zip_source, tee}
use Rattle.cd_meaning.specs.Sources.{marked}
use Rattle.cd_meaning.specs.Laws.{IsRun}
use Rattle.cd_meaning.specs.Further.{GoesOn, Further}
use Rattle.cd_meaning.specs.Places.{Place}
use Rattle.cd_meaning.specs.Lawful.{IsLawful}
use Rattle.cd_meaning.specs.Meaning.{Meaning, plain, at_site, chained, beside, piped, piped_keep, piped_return, piped_both, piped_up, piped_asked, sequence_form, exactly_form, exactly_e_form, line_e_form, mark_form, tee_form, zip_source_form, zip_sink_form, zip_conduit_form}
use Rattle.cd_meaning.proofs.Weaves.Laws.{fuse_is_run}
use Rattle.cd_meaning.proofs.Runs.Keeps.{IsMap, fuse_keep_is_run, keep_is_map, fuse_is_map}
use Rattle.cd_meaning.proofs.Runs.Results.{fuse_drained_is_run, fuse_return_is_run, fuse_asked_is_run, exactly_is_run, line_is_run}
use Rattle.cd_meaning.proofs.Runs.Sequences.{sequence_is_run, marked_is_run}
use Rattle.cd_meaning.proofs.Zips.Runs.{zip_source_is_run, zip_sink_is_run, tee_is_run}
use Rattle.cd_meaning.proofs.Begins.Laws.{goes_on_refl}
use Rattle.cd_meaning.proofs.Begins.Fused.{fuse_goes_on}
use Rattle.cd_meaning.proofs.Begins.Forms.{sequence_goes_on, marked_goes_on, fuse_drained_goes_on, fuse_return_goes_on, fuse_asked_goes_on, exactly_goes_on, line_goes_on}
use Rattle.cd_meaning.proofs.Begins.Zips.{fuse_keep_goes_on, zip_source_goes_on, zip_sink_goes_on, tee_goes_on}

-- a word with no site
pub plain_is_lawful : (gives : Flow → Flow) (run : Flow → Component) → ((f : Flow) → IsRun (run f)) → IsLawful (record { places = []; gives = gives; run = λ f s seen. run f })
plain_is_lawful gives run k = record { runs = λ f s seen. k f; local = λ f s seen seen' w. refl; goes_on = λ sites seen seen' g f s. goes_on_refl sites (run f) }

-- a word with a site, and what is known of that
pub at_site_is_lawful : (place : Place) (gives : Flow → Flow) (c : ℕ → Seen → Component) → ((s : ℕ) (seen : Seen) → IsRun (c s seen))
    → ((s : ℕ) (seen seen' : Seen) → seen s ≡ seen' s → c s seen ≡ c s seen')
    → ((sites : ℕ → Bool) (s : ℕ) (seen seen' : Seen) → Further sites seen seen' → GoesOn sites (c s seen) (c s seen')) → IsLawful (at_site place gives c)
at_site_is_lawful place gives c k l g = record {
  runs = λ f s seen. k s seen;
  local = λ f s seen seen' w. l s seen seen' (w s (omega arith) (omega arith));
  goes_on = λ sites seen seen' w f s. g sites s seen seen' w;
}

-- what is the same at all sites of two parts, is so at those of each
abbrev AreSame : ℕ → ℕ → Seen → Seen → Type 0
AreSame s n seen seen' = (k : ℕ) → s ≤ k → k < s + n → seen k ≡ seen' k

first_sites : (s : ℕ) (a b : Meaning) (seen seen' : Seen) → AreSame s (length (a.places ++ b.places)) seen seen' → AreSame s (length a.places) seen seen'
first_sites s a b seen seen' w k h j = w k h (omega (arith, j, length-append a.places b.places))

second_sites : (s : ℕ) (a b : Meaning) (seen seen' : Seen) → AreSame s (length (a.places ++ b.places)) seen seen' → AreSame (s + length a.places) (length b.places) seen seen'
second_sites s a b seen seen' w k h j = w k (omega (arith, h)) (omega (arith, j, length-append a.places b.places))

-- two parts of which the second takes what the first gives, by an operator under which both laws stand
pub chained_is_lawful : (op : Flow → Component → Component → Component)
    → ((f : Flow) (a b : Component) → IsRun a → IsRun b → IsRun (op f a b))
    → ((sites : ℕ → Bool) (f : Flow) (a a' b b' : Component) → IsRun a → IsRun b → GoesOn sites a a' → GoesOn sites b b' → GoesOn sites (op f a b) (op f a' b'))
    → (a b : Meaning) → IsLawful a → IsLawful b → IsLawful (chained op a b)
chained_is_lawful op run goes a b ka kb = record {
  runs = λ f s seen. run (a.gives f) _ _ (ka.runs f s seen) (kb.runs (a.gives f) (s + length a.places) seen);
  local = λ f s seen seen' w.
      ap (λ c. op (a.gives f) c (b.run (a.gives f) (s + length a.places) seen)) (ka.local f s seen seen' (first_sites s a b seen seen' w))
      ∙ ap (op (a.gives f) (a.run f s seen')) (kb.local (a.gives f) (s + length a.places) seen seen' (second_sites s a b seen seen' w));
  goes_on = λ sites seen seen' g f s.
      goes sites (a.gives f) _ _ _ _ (ka.runs f s seen) (kb.runs (a.gives f) (s + length a.places) seen)
      (ka.goes_on sites seen seen' g f s) (kb.goes_on sites seen seen' g (a.gives f) (s + length a.places));
}

-- two parts that take the same
pub beside_is_lawful : (op : Component → Component → Component)
    → ((a b : Component) → IsRun a → IsRun b → IsRun (op a b))
    → ((sites : ℕ → Bool) (a a' b b' : Component) → IsRun a → IsRun b → IsRun b' → GoesOn sites a a' → GoesOn sites b b' → GoesOn sites (op a b) (op a' b'))
    → (a b : Meaning) → IsLawful a → IsLawful b → IsLawful (beside op a b)
beside_is_lawful op run goes a b ka kb = record {
  runs = λ f s seen. run _ _ (ka.runs f s seen) (kb.runs f (s + length a.places) seen);
  local = λ f s seen seen' w.
      ap (λ c. op c (b.run f (s + length a.places) seen)) (ka.local f s seen seen' (first_sites s a b seen seen' w))
      ∙ ap (op (a.run f s seen')) (kb.local f (s + length a.places) seen seen' (second_sites s a b seen seen' w));
  goes_on = λ sites seen seen' g f s.
      goes sites _ _ _ _ (ka.runs f s seen) (kb.runs f (s + length a.places) seen) (kb.runs f (s + length a.places) seen')
      (ka.goes_on sites seen seen' g f s) (kb.goes_on sites seen seen' g f (s + length a.places));
}

-- ---- operators

pub piped_is_lawful : (a b : Meaning) → IsLawful a → IsLawful b → IsLawful (piped a b)
piped_is_lawful = chained_is_lawful (λ f. fuse) (λ f. fuse_is_run) (λ sites f. fuse_goes_on sites)

pub piped_return_is_lawful : (a b : Meaning) → IsLawful a → IsLawful b → IsLawful (piped_return a b)
piped_return_is_lawful =
    chained_is_lawful (λ f. fuse_return (list_of (sort_of f))) (λ f. fuse_return_is_run (list_of (sort_of f))) (λ sites f. fuse_return_goes_on sites (list_of (sort_of f)))

pub piped_both_is_lawful : (a b : Meaning) → IsLawful a → IsLawful b → IsLawful (piped_both a b)
piped_both_is_lawful = chained_is_lawful (λ f. fuse_both) (λ f. fuse_drained_is_run both) (λ sites f. fuse_drained_goes_on sites both)

pub piped_up_is_lawful : (a b : Meaning) → IsLawful a → IsLawful b → IsLawful (piped_up a b)
piped_up_is_lawful = chained_is_lawful (λ f. fuse_up) (λ f. fuse_drained_is_run first_value) (λ sites f. fuse_drained_goes_on sites first_value)

pub piped_asked_is_lawful : (a b : Meaning) → IsLawful a → IsLawful b → IsLawful (piped_asked a b)
piped_asked_is_lawful = chained_is_lawful (λ f. fuse_asked) (λ f. fuse_asked_is_run) (λ sites f. fuse_asked_goes_on sites)

-- `|=`, behind a pipe that is a map whatever comes to it and whatever was seen: of such a one nothing can change
pub record IsMapping (m : Meaning) : Type 0 where
  pub maps : (f : Flow) (s : ℕ) (seen : Seen) → IsMap (m.run f s seen)
  pub steady : (f : Flow) (s : ℕ) (seen seen' : Seen) → m.run f s seen ≡ m.run f s seen'

pub piped_keep_is_lawful : (a b : Meaning) → IsMapping a → IsLawful b → IsLawful (piped_keep a b)
piped_keep_is_lawful a b ka kb = record {
  runs = λ f s seen. fuse_keep_is_run _ _ (ka.maps f s seen) (kb.runs (a.gives f) (s + length a.places) seen);
  local = λ f s seen seen' w.
      ap (λ c. fuse_keep c (b.run (a.gives f) (s + length a.places) seen)) (ka.steady f s seen seen')
      ∙ ap (fuse_keep (a.run f s seen')) (kb.local (a.gives f) (s + length a.places) seen seen' (second_sites s a b seen seen' w));
  goes_on = λ sites seen seen' g f s.
      subst (λ c. GoesOn sites (fuse_keep (a.run f s seen) (b.run (a.gives f) (s + length a.places) seen)) (fuse_keep c (b.run (a.gives f) (s + length a.places) seen')))
      (ka.steady f s seen seen')
      (fuse_keep_goes_on sites _ _ _ (ka.maps f s seen) (kb.goes_on sites seen seen' g (a.gives f) (s + length a.places)));
}

pub piped_keep_is_mapping : (a b : Meaning) → IsMapping a → IsMapping b → IsMapping (piped_keep a b)
piped_keep_is_mapping a b ka kb = record {
  maps = λ f s seen. keep_is_map _ _ (ka.maps f s seen) (kb.maps (a.gives f) (s + length a.places) seen);
  steady = λ f s seen seen'. ap (λ c. fuse_keep c (b.run (a.gives f) (s + length a.places) seen)) (ka.steady f s seen seen')
      ∙ ap (fuse_keep (a.run f s seen')) (kb.steady (a.gives f) (s + length a.places) seen seen');
}

pub piped_is_mapping : (a b : Meaning) → IsMapping a → IsMapping b → IsMapping (piped a b)
piped_is_mapping a b ka kb = record {
  maps = λ f s seen. fuse_is_map _ _ (ka.maps f s seen) (kb.maps (a.gives f) (s + length a.places) seen);
  steady = λ f s seen seen'. ap (λ c. fuse c (b.run (a.gives f) (s + length a.places) seen)) (ka.steady f s seen seen')
      ∙ ap (fuse (a.run f s seen')) (kb.steady (a.gives f) (s + length a.places) seen seen');
}

pub plain_is_mapping : (gives : Flow → Flow) (c : Sort → Component) → ((k : Sort) → IsMap (c k)) → IsMapping (plain gives c)
plain_is_mapping gives c k = record { maps = λ f s seen. k (sort_of f); steady = λ f s seen seen'. refl }

-- ---- forms

pub sequence_form_is_lawful : (a b : Meaning) → IsLawful a → IsLawful b → IsLawful (sequence_form a b)
sequence_form_is_lawful = beside_is_lawful sequence sequence_is_run (λ sites a a' b b' ka kb kb' ga gb. sequence_goes_on sites a a' b b' kb' ga gb)

pub zip_sink_form_is_lawful : (a b : Meaning) → IsLawful a → IsLawful b → IsLawful (zip_sink_form a b)
zip_sink_form_is_lawful = beside_is_lawful zip_sink zip_sink_is_run (λ sites a a' b b' ka kb kb' ga gb. zip_sink_goes_on sites a a' b b' ka kb ga gb)

pub zip_conduit_form_is_lawful : (a b : Meaning) → IsLawful a → IsLawful b → IsLawful (zip_conduit_form a b)
zip_conduit_form_is_lawful = zip_sink_form_is_lawful

pub zip_source_form_is_lawful : (literal : List ℕ) (a b : Meaning) → IsLawful a → IsLawful b → IsLawful (zip_source_form literal a b)
zip_source_form_is_lawful literal a b ka kb = record {
  runs = λ f s seen. zip_source_is_run (literal_at (sort_of (join (a.gives None) (b.gives None))) literal) (a.run None s seen) (b.run None (s + length a.places) seen);
  local = λ f s seen seen' w.
      let separator = literal_at (sort_of (join (a.gives None) (b.gives None))) literal in
      ap (λ c. zip_source separator c (b.run None (s + length a.places) seen)) (ka.local None s seen seen' (first_sites s a b seen seen' w))
      ∙ ap (zip_source separator (a.run None s seen')) (kb.local None (s + length a.places) seen seen' (second_sites s a b seen seen' w));
  goes_on = λ sites seen seen' g f s.
      zip_source_goes_on sites _ _ _ _ _ (ka.goes_on sites seen seen' g None s) (kb.goes_on sites seen seen' g None (s + length a.places));
}

pub exactly_form_is_lawful : (n : ℕ) (a : Meaning) → IsLawful a → IsLawful (exactly_form n a)
exactly_form_is_lawful n a k = record {
  runs = λ f s seen. exactly_is_run n _ (k.runs f s seen);
  local = λ f s seen seen' w. ap (exactly n) (k.local f s seen seen' w);
  goes_on = λ sites seen seen' g f s. exactly_goes_on sites n _ _ (k.runs f s seen) (k.goes_on sites seen seen' g f s);
}

pub exactly_e_form_is_lawful : (n : ℕ) (a : Meaning) → IsLawful a → IsLawful (exactly_e_form n a)
exactly_e_form_is_lawful = exactly_form_is_lawful

pub line_e_form_is_lawful : (a : Meaning) → IsLawful a → IsLawful (line_e_form a)
line_e_form_is_lawful a k = record {
  runs = λ f s seen. line_is_run _ (k.runs f s seen);
  local = λ f s seen seen' w. ap line (k.local f s seen seen' w);
  goes_on = λ sites seen seen' g f s. line_goes_on sites _ _ (k.runs f s seen) (k.goes_on sites seen seen' g f s);
}

pub mark_form_is_lawful : (name : List ℕ) (a : Meaning) → IsLawful a → IsLawful (mark_form name a)
mark_form_is_lawful name a k = record {
  runs = λ f s seen. marked_is_run s _ (k.runs f (suc s) seen);
  local = λ f s seen seen' w. ap (marked s) (k.local f (suc s) seen seen' (λ n h j. w n (omega arith) (omega arith)));
  goes_on = λ sites seen seen' g f s. marked_goes_on sites s _ _ (k.goes_on sites seen seen' g f (suc s));
}

pub tee_form_is_lawful : (a : Meaning) → IsLawful a → IsLawful (tee_form a)
tee_form_is_lawful a k = record {
  runs = λ f s seen. tee_is_run _ (k.runs f s seen);
  local = λ f s seen seen' w. ap tee (k.local f s seen seen' w);
  goes_on = λ sites seen seen' g f s. tee_goes_on sites _ _ (k.runs f s seen) (k.goes_on sites seen seen' g f s);
}
