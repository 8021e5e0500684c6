use Rattle.std.proofs.Common.{◌∙◌, ap, length, arith}
use Rattle.std.proofs.Math.Seq.{take-length}
use Rattle.std.specs.List.{position_or_len}
use Rattle.cd_split.proofs.Searches.{found_first, found_none, no_end}
use Rattle.cd_split.specs.Cutting.{is_end}
use Rattle.cd_slices.proofs.cut.before_end.Goals as goal

pub returns-in-None-clause-value : goal.returns-in-None-clause-value
returns-in-None-clause-value c =
    let xs = c.args.bytes.now in
    no_end c.args.separator (length xs) xs c.in-None.is (omega arith) ∙ ap (position_or_len (is_end c.args.separator)) (take-length xs)

pub returns-in-Some-memchr-clause-value : goal.returns-in-Some-memchr-clause-value
returns-in-Some-memchr-clause-value c = rw c.in-Some.is (found_first c.in-Some.byte c.args.bytes.now c.memchr.result c.in-Some-memchr.place c.memchr.ensures c.in-Some-memchr.is)

pub returns-in-None-memchr-clause-value : goal.returns-in-None-memchr-clause-value
returns-in-None-memchr-clause-value c = rw c.in-Some.is (found_none c.in-Some.byte c.args.bytes.now c.memchr.result c.memchr.ensures c.in-None-memchr.is)
