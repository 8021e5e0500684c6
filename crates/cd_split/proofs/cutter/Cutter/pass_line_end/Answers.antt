use Rattle.std.proofs.Common.{◌∙◌}
use Rattle.cd_split.proofs.CutReads.{silent_end}
use Rattle.cd_split.proofs.CutterLaws.{no_numbers, of_sort, passes_end, passes_none, sort_is_cut}
use Rattle.cd_split.specs.Cutting.{numbers, sort_of}
use Rattle.cd_step.proofs.CutChunks.{size_of}
use Rattle.cd_split.proofs.cutter.Cutter.pass_line_end.Goals as goal

pub returns-then-self-clause-law : goal.returns-then-self-clause-law
returns-then-self-clause-law c = passes_none c.args.self.now c.args.chunk

pub returns-then-before_end-eq1-clause-law : goal.returns-then-before_end-eq1-clause-law
returns-then-before_end-eq1-clause-law c = passes_none c.args.self.now c.args.chunk

pub returns-clause-law : goal.returns-clause-law
returns-clause-law c =
    let e = c.args.self.now in
    let len = c.len-len in
    let size = size_of (sort_of e.piece) c.args.chunk len.result (sort_is_cut e.piece) (of_sort (sort_of e.piece) c.args.chunk c.requires.chunk) len.ensures.value len.ensures.size in
    passes_end e c.args.chunk c.behind.result c.requires.told c.if-self.false (no_numbers (numbers e.piece) c.len.result c.len.ensures c.if-len-ne0.false) c.requires.chunk
    (silent_end e.rule c.args.chunk.1 size.0 (λ h. c.if-before_end-eq1.false (c.before_end.ensures.value ∙ h))) c.behind.ensures
