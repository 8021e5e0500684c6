-- Bytes that come by and by.
use Rattle.cd_elem.specs.declared.kind.Kind.TheVariants.{Bytes}
use Rattle.cd_step.specs.Parts.{IsChunk}
use Rattle.test_callers.specs.declared.given.Coming.{Coming}
use Rattle.test_callers.specs.declared.given.Coming.TheVariants as coming

abbrev pub is_coming : Coming → Type 0
is_coming (coming.Bytes c) = IsChunk Bytes c
is_coming coming.End = Unit {0}
is_coming coming.Nothing = Unit {0}
