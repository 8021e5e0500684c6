use Rattle.std.proofs.Common.{Some, inr, refl, ap, sym, ◌∙◌, subst}
use Rattle.cd_elem.specs.declared.kind.Kind.{Kind}
use Rattle.cd_elem.specs.declared.kind.Sort.{Sort}
use Rattle.cd_elem.specs.declared.word.ElemWord.{ElemWord}
use Rattle.cd_elem.specs.declared.word.Word.{Word}
use Rattle.cd_meaning.specs.WordMeanings.{word_meaning}
use Rattle.cd_types.proofs.WordFacts.{word_place}
use Rattle.cd_build.specs.Builds.{IsPassed}
use Rattle.cd_build.specs.BuiltNodes.{IsWordNode}
use Rattle.cd_build.proofs.TypedPieces.{sort_is}
use Rattle.cd_build.proofs.TypedWords.{bound_so, gives_so, on_bytes, on_chars}
use Rattle.cd_build.proofs.WordNodes.{null_node, pieces_come}
use Rattle.cd_build.proofs.words.elem_node.Goals as goal

pub elem-requires : goal.elem-requires
elem-requires c =
    let w = c.args.word.now in
    on_bytes w (subst (λ (k : Kind). IsPassed (Word.Elem w) (Some k)) c.in-Bytes.is c.requires.passed) c.requires.built

pub elem-requires-in-Chars : goal.elem-requires-in-Chars
elem-requires-in-Chars c =
    let w = c.args.word.now in
    on_chars w (subst (λ (k : Kind). IsPassed (Word.Elem w) (Some k)) c.in-Chars.is c.requires.passed) c.requires.built

pub returns-in_ok-node-in-Bytes : goal.returns-in_ok-node-in-Bytes
returns-in_ok-node-in-Bytes c =
    let w = c.args.word.now in
    let n = c.in_ok-node-in-Bytes.node in
    let e = c.in_ok-node-in-Bytes.ensures in
    subst (λ (k : Kind). IsWordNode (Word.Elem w) (Some k) n) (sym c.in-Bytes.is)
    (record {
      siteless = sym (word_place (Word.Elem w));
      well = e.well;
      unstarted = e.unstarted;
      gives = e.gives ∙ gives_so w Sort.Bytes;
      takes = inr e.takes;
      idle = λ i. let no : ⊥ = cc in absurd no;
      pieces = e.pieces;
      exact = e.exact;
      sites = e.sites;
      places = e.places;
      bound = e.bound ∙ bound_so w (Some Kind.Bytes);
      means = e.means;
    })

pub returns-in_ok-node-in-Chars : goal.returns-in_ok-node-in-Chars
returns-in_ok-node-in-Chars c =
    let w = c.args.word.now in
    let n = c.in_ok-node-in-Chars.node in
    let e = c.in_ok-node-in-Chars.ensures in
    subst (λ (k : Kind). IsWordNode (Word.Elem w) (Some k) n) (sym c.in-Chars.is)
    (record {
      siteless = sym (word_place (Word.Elem w));
      well = e.well;
      unstarted = e.unstarted;
      gives = e.gives ∙ gives_so w Sort.Chars;
      takes = inr e.takes;
      idle = λ i. let no : ⊥ = cc in absurd no;
      pieces = e.pieces;
      exact = e.exact;
      sites = e.sites;
      places = e.places;
      bound = e.bound ∙ bound_so w (Some Kind.Chars);
      means = e.means;
    })

pub returns-in-Blocks : goal.returns-in-Blocks
returns-in-Blocks c =
    let e = c.sink_null.ensures in
    null_node c.args.word.now c.args.kind c.sink_null.result (pieces_come c.args.kind c.in-Blocks.is) c.requires.passed
    (record {
      siteless = refl;
      well = e.well;
      unstarted = e.unstarted;
      gives = e.gives;
      takes = inr e.takes;
      idle = λ i. let no : ⊥ = cc in absurd no;
      pieces = e.pieces;
      exact = e.exact;
      sites = e.sites;
      places = e.places;
      bound = e.bound;
      means = λ z site told xs end. e.means z site told xs end ∙ ap (λ g. (word_meaning (Word.Elem ElemWord.SinkNull)).run g site told xs end) (sym (sort_is c.args.kind));
    })
