use Rattle.std.proofs.Common.{ap, sym, ◌∙◌, ◌++◌, map-id, string_bytes, encode_utf8, flat_map}
use Rattle.std.proofs.lemmas.Iterator.{YieldsList-from_chars}
use Rattle.std.proofs.lemmas.Iterator.Consumers.{YieldsList-end}
use Rattle.cd_grammar.specs.Spelling.{escaped}
use Rattle.cd_lex.proofs.Escapes.{all_bytes}
use Rattle.cd_lex.proofs.spelling.push_inside.Goals as goal

pub returns : goal.returns
returns c =
    let end = YieldsList-end (YieldsList-from_chars c.args.value.now c.utf8.value cc) c.loop-scalar.yielded _ c.loop-scalar.yielded_by _ _ c.in-None.is c.next.ensures.steps in
    c.loop-scalar.invariant ∙ ap (λ bs. string_bytes c.args.text.now ++ bs)
    (ap (flat_map (λ k. flat_map escaped (encode_utf8 k))) (sym (map-id c.loop-scalar.yielded) ∙ end.0) ∙ all_bytes c.args.value.now c.utf8.value)
