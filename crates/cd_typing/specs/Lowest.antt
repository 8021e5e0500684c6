-- The lowest of the conditions that can fail at a moment.
use Rattle.std.specs.Prelude.{Bool, if◌then◌else◌, Option, Some, None}
use Rattle.cd_types.specs.declared.refusal.RefusalKind.{RefusalKind}
use Rattle.cd_types.specs.declared.refusal.RefusalKind.TheVariants.{KindMismatch, SeesChunks, NeedsElements, NameTwice, TooMany, OpenEnd, Key}

-- at a word, before its bound; behind them comes the rest
abbrev pub early : Bool → Bool → Bool → Bool → Option RefusalKind → Option RefusalKind
early mismatch chunks elements twice rest =
    if mismatch then Some KindMismatch else (if chunks then Some SeesChunks else (if elements then Some NeedsElements else (if twice then Some NameTwice else rest)))

abbrev pub late : Bool → Bool → Option RefusalKind
late many open_end = if many then Some TooMany else (if open_end then Some OpenEnd else None)

-- at a marked file, which may have a key
abbrev pub at_mark : Bool → Bool → Bool → Option RefusalKind
at_mark twice many key = if twice then Some NameTwice else (if many then Some TooMany else (if key then Some Key else None))
