-- What pipes open: operators and forms of pipes that open each of their own sites once.
use Rattle.std.proofs.Common.{◌≡◌, ℕ, suc, ◌+◌, List, [], ◌∷◌, ◌++◌, length, None, ap, sym, subst, arith}
use Rattle.cd_meaning.specs.Stream.{Flow}
use Rattle.cd_meaning.specs.Run.{Component}
use Rattle.cd_meaning.specs.RunShapes.{Seen}
use Rattle.cd_meaning.specs.Sorts.{sort_of, join, list_of, literal_at}
use Rattle.cd_meaning.specs.Fusion.{fuse, fuse_keep, fuse_return, fuse_both, fuse_up, fuse_asked, both, first_value, second_value}
use Rattle.cd_meaning.specs.ElementWords.{passed, taken}
use Rattle.cd_meaning.specs.Sections.{exactly, one_line, line, sequence}
use Rattle.cd_meaning.specs.Zips.{zip_source, zip_sink, tee}
use Rattle.cd_meaning.specs.Laws.{IsRun}
use Rattle.cd_meaning.specs.Places.{Place}
use Rattle.cd_meaning.specs.Opens.{openings_at, openings_from}
use Rattle.cd_meaning.specs.Lawful.{IsLawful}
use Rattle.cd_meaning.specs.Meaning.{Meaning, at_site, chained, beside, piped, piped_keep, piped_return, piped_both, piped_up, piped_asked, sequence_form, exactly_form, line_e_form, mark_form, tee_form, zip_source_form, zip_sink_form}
use Rattle.cd_meaning.proofs.Opens.Spends.{Within, within_more}
use Rattle.cd_meaning.proofs.Opens.FormSpends.{Opens, own, fuse_opens, keep_opens, return_opens, drained_opens, asked_opens, sequence_opens, zip_source_opens, zip_sink_opens, marked_opens}
use Rattle.cd_meaning.proofs.Opens.WordSpends.{Nothing, passed_nothing, taken_nothing, one_line_nothing}

-- it opens each site as often as its own places let it, and closes it only behind that
pub record OpensOwn (m : Meaning) : Type 0 where
  pub opens : (k : ℕ) (f : Flow) (s : ℕ) (seen : Seen) → Opens k (openings_from k s m.places) 0 (m.run f s seen)

pub openings_append : (k s : ℕ) (places more : List Place) → openings_from k s (places ++ more) ≡ openings_from k s places + openings_from k (s + length places) more
openings_append k s [] more = (let g = ap (λ n. openings_from k n more) (behind s) in omega arith) where
  behind : (s : ℕ) → s + 0 ≡ s
  behind s = omega arith
openings_append k s (p ∷ places) more =
    (let h = openings_append k (suc s) places more in
    let g = ap (λ n. openings_from k n more) (next s (length places)) in omega arith) where
      next : (s n : ℕ) → suc s + n ≡ s + suc n
      next s n = omega arith

pub plain_own : (gives : Flow → Flow) (run : Flow → Component) → ((f : Flow) → Nothing (run f)) → OpensOwn (record { places = []; gives = gives; run = λ f s seen. run f })
plain_own gives run h = record { opens = λ k f s seen. (h f).within k 0 0 }

pub at_site_own : (place : Place) (gives : Flow → Flow) (c : ℕ → Seen → Component) → ((k s : ℕ) (seen : Seen) → Opens k (own k s (openings_at place)) 0 (c s seen)) → OpensOwn (at_site place gives c)
at_site_own place gives c h = record {
  opens = λ k f s seen xs e. within_more k (own k s (openings_at place)) 0 (own k s (openings_at place) + 0) 0 (c s seen xs e) (omega arith) (omega arith) (h k s seen xs e);
}

-- two parts, each at its own sites
abbrev Sum : (Component → Component → Component) → Component → Component → Type 0
Sum op a b = (k o f : ℕ) → Opens k o 0 a → Opens k f 0 b → Opens k (o + f) 0 (op a b)

both_own : (k s : ℕ) (a b : Meaning) (c : Component) → Opens k (openings_from k s a.places + openings_from k (s + length a.places) b.places) 0 c → Opens k (openings_from k s (a.places ++ b.places)) 0 c
both_own k s a b c w xs e = subst (λ n. Within k n 0 (c xs e)) (sym (openings_append k s a.places b.places)) (w xs e)

chained_own : (op : Flow → Component → Component → Component) → ((f : Flow) (a b : Component) → IsRun b → Sum (op f) a b)
    → (a b : Meaning) → OpensOwn a → OpensOwn b → IsLawful b → OpensOwn (chained op a b)
chained_own op keeps a b w u l = record {
  opens = λ k f s seen.
      let c = a.run f s seen in
      let t = s + length a.places in
      let d = b.run (a.gives f) t seen in
      both_own k s a b (op (a.gives f) c d)
      (keeps (a.gives f) c d (l.runs (a.gives f) t seen) k (openings_from k s a.places) (openings_from k t b.places) (w.opens k f s seen) (u.opens k (a.gives f) t seen));
}

beside_own : (op : Component → Component → Component) → ((a b : Component) → Sum op a b) → (a b : Meaning) → OpensOwn a → OpensOwn b → OpensOwn (beside op a b)
beside_own op keeps a b w u = record {
  opens = λ k f s seen.
      let c = a.run f s seen in
      let t = s + length a.places in
      let d = b.run f t seen in
      both_own k s a b (op c d) (keeps c d k (openings_from k s a.places) (openings_from k t b.places) (w.opens k f s seen) (u.opens k f t seen));
}

-- ---- operators

pub piped_own : (a b : Meaning) → OpensOwn a → OpensOwn b → IsLawful b → OpensOwn (piped a b)
piped_own = chained_own (λ f. fuse) (λ f a b run k o g w u. fuse_opens k o 0 g 0 a b w u run)

pub piped_keep_own : (a b : Meaning) → OpensOwn a → OpensOwn b → IsLawful b → OpensOwn (piped_keep a b)
piped_keep_own = chained_own (λ f. fuse_keep) (λ f a b run k o g w u. keep_opens k o 0 g 0 a b w u run)

pub piped_return_own : (a b : Meaning) → OpensOwn a → OpensOwn b → IsLawful b → OpensOwn (piped_return a b)
piped_return_own = chained_own (λ f. fuse_return (list_of (sort_of f))) (λ f a b run k o g w u. return_opens k o 0 g 0 a b w u (list_of (sort_of f)) run)

pub piped_both_own : (a b : Meaning) → OpensOwn a → OpensOwn b → IsLawful b → OpensOwn (piped_both a b)
piped_both_own = chained_own (λ f. fuse_both) (λ f a b run k o g w u. drained_opens k o 0 g 0 a b w u both run)

pub piped_up_own : (a b : Meaning) → OpensOwn a → OpensOwn b → IsLawful b → OpensOwn (piped_up a b)
piped_up_own = chained_own (λ f. fuse_up) (λ f a b run k o g w u. drained_opens k o 0 g 0 a b w u first_value run)

pub piped_asked_own : (a b : Meaning) → OpensOwn a → OpensOwn b → IsLawful b → OpensOwn (piped_asked a b)
piped_asked_own = chained_own (λ f. fuse_asked) (λ f a b run k o g w u. asked_opens k o 0 g 0 a b w u run)

-- ---- forms

pub sequence_form_own : (a b : Meaning) → OpensOwn a → OpensOwn b → OpensOwn (sequence_form a b)
sequence_form_own = beside_own sequence (λ a b k o g w u. sequence_opens k o 0 g 0 a b w u)

pub zip_sink_form_own : (a b : Meaning) → OpensOwn a → OpensOwn b → OpensOwn (zip_sink_form a b)
zip_sink_form_own = beside_own zip_sink (λ a b k o g w u. zip_sink_opens k o 0 g 0 a b w u)

pub zip_source_form_own : (literal : List ℕ) (a b : Meaning) → OpensOwn a → OpensOwn b → OpensOwn (zip_source_form literal a b)
zip_source_form_own literal a b w u = record {
  opens = λ k f s seen.
      let c = a.run None s seen in
      let t = s + length a.places in
      let d = b.run None t seen in
      let separator = literal_at (sort_of (join (a.gives None) (b.gives None))) literal in
      both_own k s a b (zip_source separator c d)
      (zip_source_opens k (openings_from k s a.places) 0 (openings_from k t b.places) 0 c d (w.opens k None s seen) (u.opens k None t seen) separator);
}

-- the first part opens nothing
of_second : (k o : ℕ) (c : Component) → Opens k (0 + o) 0 c → Opens k o 0 c
of_second k o c w xs e = within_more k (0 + o) 0 o 0 (c xs e) (omega arith) (omega arith) (w xs e)

pub exactly_form_own : (n : ℕ) (a : Meaning) → OpensOwn a → IsLawful a → OpensOwn (exactly_form n a)
exactly_form_own n a w l = record {
  opens = λ k f s seen. of_second k (openings_from k s a.places) (exactly n (a.run f s seen)) (drained_opens k 0 0 (openings_from k s a.places) 0 (taken n) (a.run f s seen) ((taken_nothing n).within k 0 0) (w.opens k f s seen) second_value (l.runs f s seen));
}

pub line_e_form_own : (a : Meaning) → OpensOwn a → IsLawful a → OpensOwn (line_e_form a)
line_e_form_own a w l = record {
  opens = λ k f s seen. of_second k (openings_from k s a.places) (line (a.run f s seen)) (drained_opens k 0 0 (openings_from k s a.places) 0 one_line (a.run f s seen) (one_line_nothing.within k 0 0) (w.opens k f s seen) second_value (l.runs f s seen));
}

pub mark_form_own : (name : List ℕ) (a : Meaning) → OpensOwn a → OpensOwn (mark_form name a)
mark_form_own name a w = record { opens = λ k f s seen. marked_opens k (openings_from k (suc s) a.places) s (a.run f (suc s) seen) (w.opens k f (suc s) seen) }

pub tee_form_own : (a : Meaning) → OpensOwn a → OpensOwn (tee_form a)
tee_form_own a w = record {
  opens = λ k f s seen xs e.
      within_more k (openings_from k s a.places + 0) 0 (openings_from k s a.places) 0 (tee (a.run f s seen) xs e) (omega arith) (omega arith)
      (zip_sink_opens k (openings_from k s a.places) 0 0 0 (a.run f s seen) passed (w.opens k f s seen) (passed_nothing.within k 0 0) xs e);
}
