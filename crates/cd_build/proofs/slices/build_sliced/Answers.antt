use Rattle.std.proofs.Common.{◌≡◌, ◌++◌, ◌∷◌, [], IfSome, subst}
use Rattle.cd_build.proofs.SlicedChains.{members_are, sieve_pipes, sliced_built, splitter_has_range}
use Rattle.cd_build.proofs.slices.build_sliced.Goals as goal

pub slices-node-requires-clause-range : goal.slices-node-requires-clause-range
slices-node-requires-clause-range c =
    let between = c.in-Some.between.now in
    let last = c.in-Some.last.now in
    splitter_has_range c.args.members.now (between ++ last ∷ []) c.in-Some.first.now c.in-Some-Some.word c.args.takes c.in-Some.ensures c.in-Some-Some.ensures.0
    (c.are_bytes.ensures c.if-not-are_bytes.false) c.parts_fit.ensures.words c.requires.built c.requires.typed c.in-Some-Some.ensures.1

pub returns-in-Some-2 : goal.returns-in-Some-2
returns-in-Some-2 c =
    let e = c.slices-node.ensures in
    let ws = c.in-Some-2.sieves.items in
    let sifts = subst (λ o. IfSome o (λ sieves. c.in-Some.between.now ≡ sieve_pipes sieves.items)) c.in-Some-2.is c.in_ok-sieves.ensures in
    let members = members_are c.args.members.now c.in-Some.first.now c.in-Some.last.now c.in-Some.between.now c.in-Some-Some.word ws c.in-Some-Some.end c.in-Some.ensures
    c.in-Some-Some.ensures.0 sifts c.in-Some-Some.ensures'.0 in
    sliced_built c.args.members.now c.args.takes c.in-Some-Some.word ws c.in-Some-Some.end c.args.site c.slices-node.result c.given_by.result members
    (c.are_bytes.ensures c.if-not-are_bytes.false)
    (record {
      cutter = c.in-Some-Some.ensures.1;
      well = e.well;
      unstarted = e.unstarted;
      gives = e.gives;
      takes = e.takes;
      pieces = e.pieces;
      exact = e.exact;
      sites = e.sites;
      places = e.places;
      bound = e.bound;
      means = e.means;
    })
    c.given_by.ensures
