use Rattle.cd_meaning.specs.Classes.{is_in_class}
use Rattle.cd_meaning.specs.Stream.{Sort}
use Rattle.cd_elemwise.specs.declared.state.Gathered.TheVariants.{Bytes, Chars}
use Rattle.cd_elemwise.proofs.PlanLaws.{filtered_fits, owned_is}
use Rattle.cd_elemwise.proofs.chunks.passing_of.Goals as goal

pub some_chunk-requires : goal.some_chunk-requires
some_chunk-requires c = filtered_fits (is_in_class c.args.table.now) c.in-Bytes.bytes c.passing.result c.args.chunk Sort.Bytes c.len-some.result (owned_is c.args.chunk c.owned_of.result (Bytes c.in-Bytes.bytes) c.in-Bytes.is c.owned_of.ensures.list c.owned_of.ensures.sort) c.len-some.ensures.value (c.len-some.ensures.size.cut c.requires) c.passing.ensures

pub some_chunk-requires-in-Chars : goal.some_chunk-requires-in-Chars
some_chunk-requires-in-Chars c = filtered_fits (is_in_class c.args.table.now) c.in-Chars.chars c.passing-in-Chars.result c.args.chunk Sort.Chars c.len-some.result (owned_is c.args.chunk c.owned_of.result (Chars c.in-Chars.chars) c.in-Chars.is c.owned_of.ensures.list c.owned_of.ensures.sort) c.len-some.ensures.value (c.len-some.ensures.size.cut c.requires) c.passing-in-Chars.ensures
