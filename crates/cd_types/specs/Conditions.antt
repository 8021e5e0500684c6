-- The twelve conditions that can fail where a part or a statement is typed, by the kind of refusal that each gives.
use Rattle.std.specs.Prelude.{ℕ, ◌==◌, Bool, false, ◌&&◌, ◌||◌, List, [], ◌∷◌, find, Option}
use Rattle.cd_types.specs.declared.refusal.RefusalKind.{RefusalKind}
use Rattle.cd_types.specs.declared.refusal.RefusalKind.TheVariants.{KindMismatch, SeesChunks, NeedsElements, DropsRest, NotInvertible, NameTwice, Seal, BoundTooLarge, ResultLost, TooMany, OpenEnd, Key}

-- the number of a refusal
abbrev pub number : RefusalKind → ℕ
number KindMismatch = 1
number SeesChunks = 2
number NeedsElements = 3
number DropsRest = 4
number NotInvertible = 5
number NameTwice = 6
number Seal = 7
number BoundTooLarge = 8
number ResultLost = 9
number TooMany = 10
number OpenEnd = 11
number Key = 12

-- which conditions fail
abbrev pub Fails : Type 0
Fails = RefusalKind → Bool

-- none
abbrev pub none_fails : Fails
none_fails k = false

-- this one fails where that is so
abbrev pub fails_where : RefusalKind → Bool → Fails
fails_where kind so k = (number k == number kind) && so

-- those of both
abbrev pub or_fails : Fails → Fails → Fails
or_fails f g k = f k || g k

-- in the order of their numbers
abbrev pub every_kind : List RefusalKind
every_kind =
    KindMismatch ∷ SeesChunks ∷ NeedsElements ∷ DropsRest ∷ NotInvertible ∷ NameTwice ∷ Seal ∷ BoundTooLarge ∷ ResultLost ∷ TooMany ∷ OpenEnd ∷ Key ∷ []

-- the lowest that fails
abbrev pub lowest : Fails → Option RefusalKind
lowest fails = find fails every_kind
