use Rattle.std.proofs.Common.{◌<◌, ◌+◌, IfOk, IsTrue, length, map, ap, sym, ◌∙◌, subst, arith}
use Rattle.cd_build.proofs.Halving.{IsCutIn, cut_at, first_smaller, second_smaller, built_first, built_second, chain_first_fits, chain_first_room, chain_second_fits, chain_second_room, halves_beside, chain_of_halves, sequence_first_fits, sequence_first_room, sequence_second_fits, sequence_second_room, halves_in_turn, sequence_of_halves}
use Rattle.cd_types.specs.Forms.{mark_part}
use Rattle.cd_build.proofs.Marks.{mark_built, mark_so}
use Rattle.cd_build.proofs.Nodes.{typed_word, chain_is_built, chain_so, sequence_is_built, sequence_so}
use Rattle.cd_build.specs.Builds.{chain_of, sequence_of, sequence_meaning}
use Rattle.cd_build.specs.BuiltNodes.{IsBuiltPart}
use Rattle.cd_elem.specs.declared.script.Join.{Join}
use Rattle.cd_meaning.specs.Meaning.{Meaning}
use Rattle.cd_meaning.specs.Pipes.{pipe_meaning, word_is}
use Rattle.cd_types.specs.Fitting.{Fits}
use Rattle.cd_types.specs.Parts.{Part as TypedPart, word_part}
use Rattle.cd_types.specs.Trees.{part}
use Rattle.cd_build.proofs.pipes.+build.Goals as goal

-- ---- chains

pub build_chain-build_chain-requires : goal.build_chain-build_chain-requires
build_chain-build_chain-requires t c =
    let ps = c.args.members.now in
    let xs = c.split_at.result.0.now in
    let ys = c.split_at.result.1.now in
    let front = c.split_at.ensures.front_len in
    let back = c.split_at.ensures.back_len in
    let some = c.requires.some in
    let more = c.if-members-eq1.false in
    let cut : IsCutIn ps xs ys = cut_at _ ps xs ys c.split_at.ensures.front c.split_at.ensures.back (omega arith) (omega arith) in
    let f = c.args.takes in (
      (let s = first_smaller ps xs ys cut in let d = c.decreases in omega arith),
      (
        cut.first,
        (
          built_first ps xs ys cut c.requires.built,
          (chain_first_fits f c.args.site 4294967296 ps xs ys cut c.requires.built c.requires.typed c.requires.room, chain_first_room f c.args.site 4294967296 ps xs ys cut c.requires.built c.requires.typed c.requires.room),
        ),
      ),
    )

pub build_chain-build_chain-requires-2 : goal.build_chain-build_chain-requires-2
build_chain-build_chain-requires-2 t c =
    let ps = c.args.members.now in
    let xs = c.split_at.result.0.now in
    let ys = c.split_at.result.1.now in
    let front = c.split_at.ensures.front_len in
    let back = c.split_at.ensures.back_len in
    let some = c.requires.some in
    let more = c.if-members-eq1.false in
    let cut : IsCutIn ps xs ys = cut_at _ ps xs ys c.split_at.ensures.front c.split_at.ensures.back (omega arith) (omega arith) in
    let f = c.args.takes in
    let a = c.in_ok-upper.field-0 in
    let u = c.in_ok-upper.ensures in (
      (let s = second_smaller ps xs ys cut in let d = c.decreases in omega arith),
      (
        cut.second,
        (
          built_second ps xs ys cut c.requires.built,
          (chain_second_fits f c.args.site 4294967296 ps xs ys cut c.requires.built c.requires.typed c.requires.room a u, chain_second_room f c.args.site 4294967296 ps xs ys cut c.requires.built c.requires.typed c.requires.room a u),
        ),
      ),
    )

pub build_chain-fused-requires-clause-beside : goal.build_chain-fused-requires-clause-beside
build_chain-fused-requires-clause-beside t c =
    let ps = c.args.members.now in
    let xs = c.split_at.result.0.now in
    let ys = c.split_at.result.1.now in
    let front = c.split_at.ensures.front_len in
    let back = c.split_at.ensures.back_len in
    let some = c.requires.some in
    let more = c.if-members-eq1.false in
    let cut : IsCutIn ps xs ys = cut_at _ ps xs ys c.split_at.ensures.front c.split_at.ensures.back (omega arith) (omega arith) in
    let f = c.args.takes in
    halves_beside f c.args.site 4294967296 ps xs ys cut c.requires.built c.requires.typed c.requires.room c.in_ok-upper.field-0 c.in_ok-upper.ensures c.in-Ok.field-0 c.in-Ok.ensures

pub build_chain-returns-in_ok-node-in-Ok : goal.build_chain-returns-in_ok-node-in-Ok
build_chain-returns-in_ok-node-in-Ok t c =
    let ps = c.args.members.now in
    let xs = c.split_at.result.0.now in
    let ys = c.split_at.result.1.now in
    let front = c.split_at.ensures.front_len in
    let back = c.split_at.ensures.back_len in
    let some = c.requires.some in
    let more = c.if-members-eq1.false in
    let cut : IsCutIn ps xs ys = cut_at _ ps xs ys c.split_at.ensures.front c.split_at.ensures.back (omega arith) (omega arith) in
    let f = c.args.takes in
    let e = c.in_ok-node-in-Ok.ensures in
    chain_of_halves f c.args.site 4294967296 ps xs ys cut c.requires.built c.requires.typed c.requires.room c.in_ok-upper.field-0 c.in_ok-upper.ensures c.in-Ok.field-0 c.in-Ok.ensures c.in_ok-node-in-Ok.node
    (record { well = e.well; unstarted = e.unstarted; bound = e.bound; places = e.places })
    (record { gives = e.gives; takes = e.takes; pieces = e.pieces; exact = e.exact; sites = e.sites; means = e.means })

-- ---- sequences

pub build_sequence-build_sequence-requires : goal.build_sequence-build_sequence-requires
build_sequence-build_sequence-requires t c =
    let ps = c.args.parts.now in
    let xs = c.split_at.result.0.now in
    let ys = c.split_at.result.1.now in
    let front = c.split_at.ensures.front_len in
    let back = c.split_at.ensures.back_len in
    let some = c.requires.some in
    let more = c.if-parts-eq1.false in
    let cut : IsCutIn ps xs ys = cut_at _ ps xs ys c.split_at.ensures.front c.split_at.ensures.back (omega arith) (omega arith) in
    let k = c.requires.typed.0 in
    let f = c.args.takes in (
      (let s = first_smaller ps xs ys cut in let d = c.decreases in omega arith),
      (
        cut.first,
        (
          built_first ps xs ys cut c.requires.built,
          ((k, sequence_first_fits k f c.args.site 4294967296 ps xs ys cut c.requires.typed.1 c.requires.room), sequence_first_room k f c.args.site 4294967296 ps xs ys cut c.requires.typed.1 c.requires.room),
        ),
      ),
    )

pub build_sequence-build_sequence-requires-2 : goal.build_sequence-build_sequence-requires-2
build_sequence-build_sequence-requires-2 t c =
    let ps = c.args.parts.now in
    let xs = c.split_at.result.0.now in
    let ys = c.split_at.result.1.now in
    let front = c.split_at.ensures.front_len in
    let back = c.split_at.ensures.back_len in
    let some = c.requires.some in
    let more = c.if-parts-eq1.false in
    let cut : IsCutIn ps xs ys = cut_at _ ps xs ys c.split_at.ensures.front c.split_at.ensures.back (omega arith) (omega arith) in
    let k = c.requires.typed.0 in
    let f = c.args.takes in
    let a = c.in_ok-earlier.field-0 in
    let u = c.in_ok-earlier.ensures in (
      (let s = second_smaller ps xs ys cut in let d = c.decreases in omega arith),
      (
        cut.second,
        (
          built_second ps xs ys cut c.requires.built,
          ((k, sequence_second_fits k f c.args.site 4294967296 ps xs ys cut c.requires.typed.1 c.requires.room), sequence_second_room k f c.args.site 4294967296 ps xs ys cut c.requires.typed.1 c.requires.room a u),
        ),
      ),
    )

pub build_sequence-followed-requires-clause-in_turn : goal.build_sequence-followed-requires-clause-in_turn
build_sequence-followed-requires-clause-in_turn t c =
    let ps = c.args.parts.now in
    let xs = c.split_at.result.0.now in
    let ys = c.split_at.result.1.now in
    let front = c.split_at.ensures.front_len in
    let back = c.split_at.ensures.back_len in
    let some = c.requires.some in
    let more = c.if-parts-eq1.false in
    let cut : IsCutIn ps xs ys = cut_at _ ps xs ys c.split_at.ensures.front c.split_at.ensures.back (omega arith) (omega arith) in
    let k = c.requires.typed.0 in
    let f = c.args.takes in
    halves_in_turn k f c.args.site 4294967296 ps xs ys cut c.requires.typed.1 c.requires.room c.in_ok-earlier.field-0 c.in_ok-earlier.ensures c.in-Ok.field-0 c.in-Ok.ensures

pub build_sequence-returns-in_ok-node-in-Ok : goal.build_sequence-returns-in_ok-node-in-Ok
build_sequence-returns-in_ok-node-in-Ok t c =
    let ps = c.args.parts.now in
    let xs = c.split_at.result.0.now in
    let ys = c.split_at.result.1.now in
    let front = c.split_at.ensures.front_len in
    let back = c.split_at.ensures.back_len in
    let some = c.requires.some in
    let more = c.if-parts-eq1.false in
    let cut : IsCutIn ps xs ys = cut_at _ ps xs ys c.split_at.ensures.front c.split_at.ensures.back (omega arith) (omega arith) in
    let k = c.requires.typed.0 in
    let f = c.args.takes in
    let e = c.in_ok-node-in-Ok.ensures in
    let n = c.in_ok-node-in-Ok.node in
    subst (λ g. IsBuiltPart (sequence_of ps) (sequence_meaning ps) f c.args.site (record { node = n; gives = g; next = c.in-Ok.field-0.next })) (sym c.join-gives.ensures)
    (sequence_of_halves k f c.args.site 4294967296 ps xs ys cut c.requires.typed.1 c.requires.room c.in_ok-earlier.field-0 c.in_ok-earlier.ensures c.in-Ok.field-0 c.in-Ok.ensures n
    (record { well = e.well; unstarted = e.unstarted; bound = e.bound; places = e.places })
    (record { gives = e.gives; takes = e.takes; pieces = e.pieces; exact = e.exact; sites = e.sites; means = e.means }))

-- ---- trees

pub build_pipe-build_word-requires-clause-typed : goal.build_pipe-build_word-requires-clause-typed
build_pipe-build_word-requires-clause-typed t c = subst (Fits c.args.takes) (ap part c.in-Word.is ∙ typed_word c.in-Word.word) c.requires.typed

pub build_pipe-build_chain-requires : goal.build_pipe-build_chain-requires
build_pipe-build_chain-requires t c =
    let ps = c.as_slice.result.now in
    let f = c.args.takes in
    let b = chain_is_built c.args.pipe.now c.in-Chain.field-0 c.in-Chain.members ps c.in-Chain.is c.as_slice.ensures c.requires.built in
    let same = chain_so c.args.pipe.now c.in-Chain.field-0 c.in-Chain.members ps c.in-Chain.is c.as_slice.ensures b.0 in (
      (let s = ap (λ (a : TypedPart). a.size) same.0 in let d = c.decreases in omega arith),
      (
        b.1,
        (
          b.2,
          (
            c.parts_fit.ensures.chains Join.Plain (map part ps) f (subst (Fits f) same.0 c.requires.typed),
            subst (λ (m : Meaning). c.args.site + length m.places < 4294967296) same.1 c.requires.room,
          ),
        ),
      ),
    )

pub build_pipe-build_sequence-requires : goal.build_pipe-build_sequence-requires
build_pipe-build_sequence-requires t c =
    let ps = c.as_slice-in-Sequence.result.now in
    let f = c.args.takes in
    let b = sequence_is_built c.args.pipe.now c.in-Sequence.parts ps c.in-Sequence.is c.as_slice-in-Sequence.ensures c.requires.built in
    let same = sequence_so c.args.pipe.now c.in-Sequence.parts ps c.in-Sequence.is c.as_slice-in-Sequence.ensures in (
      (let s = ap (λ (a : TypedPart). a.size) same.0 in let d = c.decreases in omega arith),
      (
        b.0,
        (
          b.1,
          (
            c.parts_fit.ensures.sequences (map part ps) f (subst (Fits f) same.0 c.requires.typed),
            subst (λ (m : Meaning). c.args.site + length m.places < 4294967296) same.1 c.requires.room,
          ),
        ),
      ),
    )

pub build_pipe-returns-in-Word : goal.build_pipe-returns-in-Word
build_pipe-returns-in-Word t c =
    let w = c.in-Word.word in
    subst (λ (a : TypedPart). IfOk c.build_word.result (IsBuiltPart a (pipe_meaning c.args.pipe.now) c.args.takes c.args.site)) (sym (ap part c.in-Word.is ∙ typed_word w))
    (subst (λ (m : Meaning). IfOk c.build_word.result (IsBuiltPart (word_part w) m c.args.takes c.args.site)) (sym (ap pipe_meaning c.in-Word.is ∙ word_is w)) c.build_word.ensures)

pub build_pipe-returns-in-Chain : goal.build_pipe-returns-in-Chain
build_pipe-returns-in-Chain t c =
    let ps = c.as_slice.result.now in
    let b = chain_is_built c.args.pipe.now c.in-Chain.field-0 c.in-Chain.members ps c.in-Chain.is c.as_slice.ensures c.requires.built in
    let same = chain_so c.args.pipe.now c.in-Chain.field-0 c.in-Chain.members ps c.in-Chain.is c.as_slice.ensures b.0 in
    subst (λ (a : TypedPart). IfOk c.build_chain.result (IsBuiltPart a (pipe_meaning c.args.pipe.now) c.args.takes c.args.site)) (sym same.0)
    (subst (λ (m : Meaning). IfOk c.build_chain.result (IsBuiltPart (chain_of ps) m c.args.takes c.args.site)) (sym same.1) c.build_chain.ensures)

pub build_pipe-returns-in-Sequence : goal.build_pipe-returns-in-Sequence
build_pipe-returns-in-Sequence t c =
    let ps = c.as_slice-in-Sequence.result.now in
    let same = sequence_so c.args.pipe.now c.in-Sequence.parts ps c.in-Sequence.is c.as_slice-in-Sequence.ensures in
    subst (λ (a : TypedPart). IfOk c.build_sequence.result (IsBuiltPart a (pipe_meaning c.args.pipe.now) c.args.takes c.args.site)) (sym same.0)
    (subst (λ (m : Meaning). IfOk c.build_sequence.result (IsBuiltPart (sequence_of ps) m c.args.takes c.args.site)) (sym same.1) c.build_sequence.ensures)

-- ---- `mark`

pub build_mark-returns : goal.build_mark-returns
build_mark-returns t c name =
    let e = c.in_ok-node-2.ensures in
    mark_built name (part c.args.body.now) (pipe_meaning c.args.body.now) c.args.takes c.args.site c.in_ok-node.field-0 c.in_ok-node-2.node c.in_ok-node.ensures
    (record {
      well = e.well;
      unstarted = e.unstarted;
      gives = e.gives;
      takes = e.takes;
      pieces = e.pieces;
      exact = e.exact;
      sites = e.sites;
      places = e.places;
      bound = e.bound;
      means = e.means;
    })

pub build_pipe-build_mark-requires : goal.build_pipe-build_mark-requires
build_pipe-build_mark-requires t c =
    let q = c.get.result.now in
    let f = c.args.takes in
    let same = mark_so c.args.pipe.now c.in-Mark.field-0 c.in-Mark.body q c.in-Mark.is c.get.ensures in
    let r = subst (λ (m : Meaning). c.args.site + length m.places < 4294967296) same.1 c.requires.room in (
      (let s = ap (λ (a : TypedPart). a.size) same.0 in let d = c.decreases in omega arith),
      (
        subst IsTrue same.2 c.requires.built,
        (c.parts_fit.ensures.marks c.in-Mark.field-0 (part q) f (subst (Fits f) same.0 c.requires.typed), omega (arith, r)),
      ),
    )

pub build_pipe-returns-in-Mark : goal.build_pipe-returns-in-Mark
build_pipe-returns-in-Mark t c =
    let q = c.get.result.now in
    let name = c.in-Mark.field-0 in
    let same = mark_so c.args.pipe.now name c.in-Mark.body q c.in-Mark.is c.get.ensures in
    subst (λ (a : TypedPart). IfOk c.build_mark.result (IsBuiltPart a (pipe_meaning c.args.pipe.now) c.args.takes c.args.site)) (sym same.0)
    (subst (λ (m : Meaning). IfOk c.build_mark.result (IsBuiltPart (mark_part name (part q)) m c.args.takes c.args.site)) (sym same.1) (c.build_mark.ensures name))
