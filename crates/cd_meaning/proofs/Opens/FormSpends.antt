-- What components may open and close of one site: operators and forms of those of their parts.
use Rattle.std.proofs.Common.{ℕ, ◌+◌, ◌==◌, if◌then◌else◌, List, [], length, drop, arith}
use Rattle.cd_meaning.specs.Stream.{Item, Value, End, Ended, Done, Do, Close}
use Rattle.cd_meaning.specs.Run.{Stamp, start, Run, Then, Ends, Component, last, restamp, follow}
use Rattle.cd_meaning.specs.Fusion.{after, fed, fuse, fuse_keep, fuse_by, returned, fuse_return, drained, fuse_drained, told, fuse_asked, place}
use Rattle.cd_meaning.specs.Sections.{behind, sequence}
use Rattle.cd_meaning.specs.Zips.{zip_source, zip_sink}
use Rattle.cd_meaning.specs.Sources.{marked}
use Rattle.cd_meaning.specs.Laws.{IsRun}
use Rattle.cd_meaning.proofs.Opens.Spends.{Whatever, Within, within_more, restamp_within, drain_within, follow_spend, woven_spend, kept_within, zip_within, merge_within}

-- on every input
abbrev pub Opens : ℕ → ℕ → ℕ → Component → Type 0
Opens k o d f = (xs : List Item) (e : End) → Within k o d (f xs e)

module _ (k o d f g : ℕ) (a b : Component) (w : Opens k o d a) (u : Opens k f g b) where
  pub fuse_opens : IsRun b → Opens k (o + f) (d + g) (fuse a b)
  fuse_opens run xs e =
      woven_spend k Whatever (λ j. place start j (a xs e)) (λ t v. Ends (place start t.need (a xs e)) (Done v)) (a xs e) 0 o d f g (fed (a xs e) b)
      (run.rising _ _) (w xs e) (u _ _) (λ v p q f' g' l. tt)

  pub keep_opens : IsRun b → Opens k (o + f) (d + g) (fuse_keep a b)
  keep_opens run xs e = kept_within k (a xs e) 0 o d f g (fed (a xs e) b) (run.rising _ _) (w xs e) (u _ _)

  pub fuse_by_opens : (finish : Run → Stamp → Value → Run) → ((r : Run) (t : Stamp) (v : Value) (p q : ℕ) → Within k p q (after t.need r) → Within k p q (finish r t v))
      → IsRun b → Opens k (o + f) (d + g) (fuse_by finish a b)
  fuse_by_opens finish ends run xs e =
      woven_spend k Whatever (λ j. place start j (a xs e)) (finish (a xs e)) (a xs e) 0 o d f g (fed (a xs e) b)
      (run.rising _ _) (w xs e) (u _ _)
      (λ v p q f' g' l. let t = last (fed (a xs e) b) in within_more k p q (p + f') (q + g') (finish (a xs e) t v) (omega arith) (omega arith) (ends (a xs e) t v p q l.1))

  pub return_opens : (list : List Item → Value) → IsRun b → Opens k (o + f) (d + g) (fuse_return list a b)
  return_opens list = fuse_by_opens (returned list) (λ r t v p q l. tt)

  pub drained_opens : (pair : Value → Value → Value) → IsRun b → Opens k (o + f) (d + g) (fuse_drained pair a b)
  drained_opens pair = fuse_by_opens (drained pair) (λ r t v p q l. drain_within k p q (λ x. pair x v) (after t.need r) l)

  pub asked_opens : IsRun b → Opens k (o + f) (d + g) (fuse_asked a b)
  asked_opens = fuse_by_opens told (λ r t v p q l. tt)

  pub sequence_opens : Opens k (o + f) (d + g) (sequence a b)
  sequence_opens xs e =
      follow_spend k Whatever Whatever f g o d (a xs e) _
      (λ p q s v l. within_more k f g (p + f) (q + g) (restamp (behind s) (b (drop s.net xs) e)) (omega arith) (omega arith) (restamp_within k f g (behind s) (b (drop s.net xs) e) (u _ _))) (w xs e)

  pub zip_source_opens : (separator : List ℕ) → Opens k (o + f) (d + g) (zip_source separator a b)
  zip_source_opens separator xs e = zip_within k separator o d f g (a [] Ended) (b [] Ended) (w _ _) (u _ _)

  pub zip_sink_opens : Opens k (o + f) (d + g) (zip_sink a b)
  zip_sink_opens xs e = merge_within k (length xs) o d f g (a xs e) (b xs e) (w xs e) (u xs e)

-- what may be opened at site s, where this may be at its place
abbrev pub own : ℕ → ℕ → ℕ → ℕ
own k s n = if s == k then n else 0

pub marked_opens : (k o s : ℕ) (a : Component) → Opens k o 0 a → Opens k (own k s 1 + o) 0 (marked s a)
marked_opens k o s a w xs e = (
  o,
  own k s 1,
  omega arith,
  omega arith,
  within_more k (o + 0) (0 + own k s 1) o (own k s 1) (follow (a xs e) ends) (omega arith) (omega arith)
      (follow_spend k Whatever Whatever 0 (own k s 1) o 0 (a xs e) ends (λ p q t v l. (p + 0, q, omega arith, omega arith, tt)) (w xs e)),
) where
  ends : Stamp → Value → Run
  ends t v = Then t (Do (Close s)) (Ends t (Done v))
