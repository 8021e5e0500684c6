-- An act done is work done.
use Rattle.std.proofs.Common.{◌≡◌, ℕ, ◌+◌, List, length, refl, ap, sym, ◌∙◌}
use Rattle.cd_meaning.specs.Stream.{Act}
use Rattle.cd_meaning.proofs.Moves.Work as by
use Rattle.cd_meaning.specs.Known.{nothing_known}
use Rattle.cd_step.specs.Parts.{Part, Goes_on, rest}

-- the acts of a part before it waits, or once it was told the end before it ends, where nothing is known of its sites
abbrev pub work : Part → ℕ
work p = by.work (rest p nothing_known)

pub goes_work : (acts : List Act) (p q : Part) → Goes_on acts p q → work p ≡ length acts + work q
goes_work acts p q m =
    by.moves_work p.grade acts (rest p nothing_known) (rest q nothing_known) p.floor refl (m nothing_known)
    ∙ ap (λ f. length acts + by.work_at f (rest q nothing_known)) (sym (m nothing_known).floor)
