use Rattle.std.proofs.Common.{IsTrue, Some, inr, refl, ap, sym, ◌∙◌, subst}
use Rattle.cd_elem.specs.declared.word.Word.{Word}
use Rattle.cd_meaning.specs.WordMeanings.{word_meaning}
use Rattle.cd_types.proofs.WordFacts.{word_place}
use Rattle.cd_build.specs.Built.{is_built_word}
use Rattle.cd_build.proofs.TypedPieces.{piece_bound_is, piece_gives, sort_is}
use Rattle.cd_build.proofs.TypedSplits.{split_bound, split_gives, split_has_type}
use Rattle.cd_build.proofs.TypedWords.{something_comes}
use Rattle.cd_build.proofs.WordNodes.{passed, sink_takes, word_so}
use Rattle.cd_build.proofs.words.build_word.Goals as goal

pub returns-in_ok-node-in-Piece : goal.returns-in_ok-node-in-Piece
returns-in_ok-node-in-Piece c =
    let w = c.args.word.now in
    let v = c.in-Piece.word in
    let f = c.args.takes in
    let k = c.input-in-Piece.result in
    let e = c.in_ok-node-in-Piece.ensures in
    word_so w (Word.Piece v) f (Some k) c.args.site c.in_ok-node-in-Piece.node c.output-gives.result c.in-Piece.is c.input-in-Piece.ensures
    (record {
      siteless = sym (word_place (Word.Piece v));
      well = e.well;
      unstarted = e.unstarted;
      gives = e.gives ∙ piece_gives v k;
      takes = inr e.takes;
      idle = λ i. let no : ⊥ = cc in absurd no;
      pieces = e.pieces;
      exact = e.exact;
      sites = e.sites;
      places = e.places;
      bound = e.bound ∙ piece_bound_is v k;
      means = λ z site told xs end. e.means z site told xs end ∙ ap (λ g. (word_meaning (Word.Piece v)).run g site told xs end) (sym (sort_is k));
    })
    c.output-gives.ensures

pub returns-in_ok-node-in-Split : goal.returns-in_ok-node-in-Split
returns-in_ok-node-in-Split c =
    let w = c.args.word.now in
    let v = c.in-Split.word in
    let f = c.args.takes in
    let k = c.input-in-Split.result in
    let e = c.in_ok-node-in-Split.ensures in
    let passes = passed w (Word.Split v) f (Some k) c.in-Split.is c.input-in-Split.ensures (c.parts_fit.ensures.words w f c.requires.typed) in
    let typed = split_has_type v k passes (subst (λ x. IsTrue (is_built_word x)) c.in-Split.is c.requires.built) in
    word_so w (Word.Split v) f (Some k) c.args.site c.in_ok-node-in-Split.node c.output-gives.result c.in-Split.is c.input-in-Split.ensures
    (record {
      siteless = sym (word_place (Word.Split v));
      well = e.well;
      unstarted = e.unstarted;
      gives = e.gives ∙ split_gives v k typed;
      takes = inr e.takes;
      idle = λ i. let no : ⊥ = cc in absurd no;
      pieces = e.pieces;
      exact = e.exact;
      sites = e.sites;
      places = e.places;
      bound = e.bound ∙ split_bound v (Some k);
      means = λ z site told xs end. e.means z site told xs end ∙ ap (λ g. (word_meaning (Word.Split v)).run g site told xs end) (sym (sort_is k));
    })
    c.output-gives.ensures

pub input-requires : goal.input-requires
input-requires c = something_comes (Word.Elem c.in-Elem.word) c.args.takes refl (passed c.args.word.now (Word.Elem c.in-Elem.word) c.args.takes c.args.takes c.in-Elem.is refl (c.parts_fit.ensures.words c.args.word.now c.args.takes c.requires.typed))

pub build_sink-requires-clause-bytes : goal.build_sink-requires-clause-bytes
build_sink-requires-clause-bytes c = sink_takes c.args.word.now c.in-Sink.word c.args.takes c.in-Sink.is (c.parts_fit.ensures.words c.args.word.now c.args.takes c.requires.typed)
