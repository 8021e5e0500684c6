use Rattle.std.proofs.Common.{inl, refl, ◌∙◌}
use Rattle.cd_elem.specs.declared.word.Word.{Word}
use Rattle.cd_elem.specs.declared.word.SourceWord.{SourceWord}
use Rattle.cd_meaning.specs.Places.{Reads, ReadsInput}
use Rattle.cd_types.specs.Flows.{sort_in}
use Rattle.cd_build.proofs.TypedPieces.{literal_has_type}
use Rattle.cd_build.proofs.WordNodes.{source_part}
use Rattle.cd_build.proofs.words.build_source.Goals as goal

pub returns-in-SourceFile : goal.returns-in-SourceFile
returns-in-SourceFile c =
    let v = c.args.word.now in
    let f = c.args.takes in
    let name = c.in-SourceFile.field-0 in
    let e = c.source_file.ensures in
    source_part (Word.Source v) v (SourceWord.SourceFile name) f c.args.site (Reads name) c.source_file.result c.at_site.result refl c.in-SourceFile.is
    (record {
      place = refl;
      none = refl;
      well = e.well;
      unstarted = e.unstarted;
      gives = e.gives;
      takes = inl e.takes;
      idle = λ i. e.takes;
      pieces = e.pieces;
      exact = e.exact;
      sites = e.sites;
      places = λ place h. e.places place name h;
      bound = e.bound;
      means = λ z xs end. e.means name (sort_in f) z xs end;
    })
    c.at_site.ensures.node (c.at_site.ensures.gives ∙ c.requires.gives) c.at_site.ensures.next

pub returns-in-Stdin : goal.returns-in-Stdin
returns-in-Stdin c =
    let v = c.args.word.now in
    let f = c.args.takes in
    let e = c.stdin.ensures in
    source_part (Word.Source v) v (SourceWord.Stdin) f c.args.site (ReadsInput) c.stdin.result c.at_site-in-Stdin.result refl c.in-Stdin.is
    (record {
      place = refl;
      none = refl;
      well = e.well;
      unstarted = e.unstarted;
      gives = e.gives;
      takes = inl e.takes;
      idle = λ i. e.takes;
      pieces = e.pieces;
      exact = e.exact;
      sites = e.sites;
      places = λ place h. e.places place h;
      bound = e.bound;
      means = λ z xs end. e.means (sort_in f) z xs end;
    })
    c.at_site-in-Stdin.ensures.node (c.at_site-in-Stdin.ensures.gives ∙ c.requires.gives) c.at_site-in-Stdin.ensures.next

pub literal-requires : goal.literal-requires
literal-requires c = literal_has_type c.args.word.now c.args.takes (λ name e. c.in_default.not-SourceFile name e) (λ e. c.in_default.not-Stdin e) c.requires.passed
