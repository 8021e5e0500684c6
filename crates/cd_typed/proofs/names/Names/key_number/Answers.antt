use Rattle.std.proofs.Common.{◌≡◌, ◌∙◌, ap, sym, Some, length, position, bytes_eq, string_bytes, arith}
use Rattle.std.proofs.lemmas.List.{length-map}
use Rattle.indexmap.specs.IndexMap.{keys}
use Rattle.cd_types.specs.Numbering.{held_in}
use Rattle.cd_typed.proofs.Positions.{position_mapped}
use Rattle.cd_typed.proofs.names.Names.key_number.Goals as goal

pub returns-in-Some : goal.returns-in-Some
returns-in-Some c before known few =
    let m = c.args.self.now.keys in
    let count : length m.entries ≡ length (held_in before) = sym (length-map (keys m) string_bytes ∙ length-map m.entries _) ∙ ap length known.key_order in
    let within = c.in-Some.ensures.within in
    ap Some (c.counted.ensures (omega arith))
    ∙ c.in-Some.ensures.index
    ∙ sym (position_mapped string_bytes (bytes_eq c.args.name.now) (keys m))
    ∙ ap (position (bytes_eq c.args.name.now)) known.key_order

pub returns-in-None : goal.returns-in-None
returns-in-None c before known few =
    c.in-None.ensures.index
    ∙ sym (position_mapped string_bytes (bytes_eq c.args.name.now) (keys c.args.self.now.keys))
    ∙ ap (position (bytes_eq c.args.name.now)) known.key_order
