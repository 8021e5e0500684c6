-- The beginning of a word.
use Rattle.std.proofs.Common.{◌≡◌, ℕ, ◌<◌, ◌≤◌, Bool, true, false, ◌||◌, if◌then◌else◌, nat_lt, List, [], ◌∷◌, ◌++◌, subst, Option, Some, None, refl, sym, ◌∙◌, arith}
use Rattle.cd_meaning.specs.Places.{Place}
use Rattle.cd_elem.specs.declared.word.Word.{Word}
use Rattle.cd_types.specs.declared.refusal.RefusalKind.{RefusalKind}
use Rattle.cd_types.specs.declared.refusal.RefusalKind.TheVariants.{KindMismatch, SeesChunks, NeedsElements, NameTwice, BoundTooLarge, TooMany, OpenEnd}
use Rattle.cd_types.specs.Flows.{Flow, piece_bound}
use Rattle.cd_types.specs.WordTypes.{word_fails, word_site, word_gives}
use Rattle.cd_elem.specs.Limits.{piece_limit}
use Rattle.cd_types.specs.Moments.{Moment, Reached, fails_at, site_fails, begin_part}
use Rattle.cd_types.specs.Numbering.{site_before}
use Rattle.cd_types.specs.Conditions.{lowest}
use Rattle.cd_typing.specs.Spots.{Spot, reached, Passes, Stops}
use Rattle.cd_typing.specs.declared.refusal.CheckRefusal.{CheckRefusal}
use Rattle.cd_typing.specs.Lowest.{early, late}
use Rattle.cd_typing.proofs.Steps.{begins-stops, begins-passes, stands-at}

or-false : (b : Bool) → (b || false) ≡ b
or-false true = refl
or-false false = refl

abbrev rest : List Place → Option Place → Word → Flow → Option RefusalKind
rest sites o w f = if word_fails w f BoundTooLarge then Some BoundTooLarge else late (site_fails sites o TooMany) (word_fails w f OpenEnd)

lowest_at : (r : Reached) (s n : ℕ) (w : Word) (f : Flow) (o : Option Place) → lowest (fails_at r (begin_part s n (word_fails w f) o))
    ≡ early (word_fails w f KindMismatch) (word_fails w f SeesChunks) (word_fails w f NeedsElements) (site_fails r.sites o NameTwice) (rest r.sites o w f)
lowest_at r s n w f None = refl
lowest_at r s n w f (Some p) = simp or-false refl

early-some : (a b c d : Bool) (k : RefusalKind) (o : Option RefusalKind) → early a b c d None ≡ Some k → early a b c d o ≡ Some k
early-some true b c d k o e = e
early-some false true c d k o e = e
early-some false false true d k o e = e
early-some false false false true k o e = e
early-some false false false false k o e = let f : ⊥ = cc in absurd f

early-none : (a b c d : Bool) (o : Option RefusalKind) → early a b c d None ≡ None → early a b c d o ≡ o
early-none true b c d o e = let f : ⊥ = cc in absurd f
early-none false true c d o e = let f : ⊥ = cc in absurd f
early-none false false true d o e = let f : ⊥ = cc in absurd f
early-none false false false true o e = let f : ⊥ = cc in absurd f
early-none false false false false o e = refl

module _ (r : Spot) (s n : ℕ) (w : Word) (f : Flow) where
  abbrev asked : Option RefusalKind
  asked = early (word_fails w f KindMismatch) (word_fails w f SeesChunks) (word_fails w f NeedsElements) (site_fails (reached r).sites (word_site w) NameTwice) None

  abbrev begins : Moment
  begins = begin_part s n (word_fails w f) (word_site w)

  refused-as : (k : RefusalKind) (x : CheckRefusal) → x ≡ CheckRefusal.Refused (record { kind = k; statement = s; part = n }) → lowest (fails_at (reached r) begins) ≡ Some k → Stops r (begins ∷ []) x
  refused-as k x e h = subst (Stops r (begins ∷ [])) (sym e) (begins-stops r begins [] k h)

  pub word-early : (k : RefusalKind) (x : CheckRefusal) → x ≡ CheckRefusal.Refused (record { kind = k; statement = s; part = n }) → asked ≡ Some k → Stops r (begins ∷ []) x
  word-early k x same e = refused-as k x same (lowest_at (reached r) s n w f (word_site w) ∙ early-some _ _ _ _ k _ e)

  module _ (e : asked ≡ None) where
    behind : lowest (fails_at (reached r) begins) ≡ rest (reached r).sites (word_site w) w f
    behind = lowest_at (reached r) s n w f (word_site w) ∙ early-none _ _ _ _ _ e

    pub word-large : (x : CheckRefusal) → x ≡ CheckRefusal.Refused (record { kind = BoundTooLarge; statement = s; part = n }) → piece_limit < piece_bound (word_gives w f) → Stops r (begins ∷ []) x
    word-large x same h =
        let l : nat_lt piece_limit (piece_bound (word_gives w f)) ≡ true = grind arith in
        refused-as BoundTooLarge x same (behind ∙ (rw l refl))

    module _ (h : piece_bound (word_gives w f) ≤ piece_limit) where
      behind-bound : lowest (fails_at (reached r) begins) ≡ late (site_fails (reached r).sites (word_site w) TooMany) (word_fails w f OpenEnd)
      behind-bound =
          let l : nat_lt piece_limit (piece_bound (word_gives w f)) ≡ false = grind arith in
          behind ∙ (rw l refl)

      pub word-late : (k : RefusalKind) (x : CheckRefusal) → x ≡ CheckRefusal.Refused (record { kind = k; statement = s; part = n })
          → late (site_fails (reached r).sites (word_site w) TooMany) (word_fails w f OpenEnd) ≡ Some k → Stops r (begins ∷ []) x
      word-late k x same g = refused-as k x same (behind-bound ∙ g)

      pub word-passes : (new : Spot) → late (site_fails (reached r).sites (word_site w) TooMany) (word_fails w f OpenEnd) ≡ None → new.sites ≡ r.sites ++ site_before s n (word_site w) [] → new.total ≡ r.total
          → Passes r (begins ∷ []) new
      word-passes new g sites total = subst (Passes r (begins ∷ [])) (sym (stands-at r new begins sites total)) (begins-passes r begins (behind-bound ∙ g))
