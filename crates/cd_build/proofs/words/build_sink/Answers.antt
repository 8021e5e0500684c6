use Rattle.std.proofs.Common.{inr, refl, sym, ◌∙◌}
use Rattle.cd_elem.specs.declared.word.Word.{Word}
use Rattle.cd_elem.specs.declared.word.SinkWord.{SinkWord}
use Rattle.cd_meaning.specs.Places.{Writes, WritesOutput}
use Rattle.cd_types.specs.Flows.{sort_in}
use Rattle.cd_build.proofs.WordNodes.{sink_part}
use Rattle.cd_build.proofs.words.build_sink.Goals as goal

pub returns-in-SinkFile : goal.returns-in-SinkFile
returns-in-SinkFile c =
    let v = c.args.word.now in
    let f = c.args.takes in
    let name = c.in-SinkFile.field-0 in
    let e = c.sink_file.ensures in
    sink_part (Word.Sink v) v (SinkWord.SinkFile name) f c.args.site (Writes name) c.sink_file.result c.at_site.result refl c.in-SinkFile.is
    (record {
      place = refl;
      none = refl;
      well = e.well;
      unstarted = e.unstarted;
      gives = e.gives;
      takes = inr (e.takes ∙ sym c.requires.bytes);
      idle = λ i. let no : ⊥ = cc in absurd no;
      pieces = e.pieces;
      exact = e.exact;
      sites = e.sites;
      places = λ place h. e.places place name h;
      bound = e.bound;
      means = λ z xs end. e.means name (sort_in f) z xs end;
    })
    c.at_site.ensures.node (c.at_site.ensures.gives ∙ c.requires.gives) c.at_site.ensures.next

pub returns-in-Stdout : goal.returns-in-Stdout
returns-in-Stdout c =
    let v = c.args.word.now in
    let f = c.args.takes in
    let e = c.stdout.ensures in
    sink_part (Word.Sink v) v (SinkWord.Stdout) f c.args.site (WritesOutput) c.stdout.result c.at_site-in-Stdout.result refl c.in-Stdout.is
    (record {
      place = refl;
      none = refl;
      well = e.well;
      unstarted = e.unstarted;
      gives = e.gives;
      takes = inr (e.takes ∙ sym c.requires.bytes);
      idle = λ i. let no : ⊥ = cc in absurd no;
      pieces = e.pieces;
      exact = e.exact;
      sites = e.sites;
      places = λ place h. e.places place h;
      bound = e.bound;
      means = λ z xs end. e.means (sort_in f) z xs end;
    })
    c.at_site-in-Stdout.ensures.node (c.at_site-in-Stdout.ensures.gives ∙ c.requires.gives) c.at_site-in-Stdout.ensures.next
