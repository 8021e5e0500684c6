use Rattle.std.proofs.Common.{◌≡◌, true, false, sym, ◌∙◌, subst}
use Rattle.std.specs.Str.{IsUtf8}
use Rattle.cd_lex.proofs.Utf8.{is_text}
use Rattle.cd_lex.proofs.literal.read_literal.Goals as goal

pub unreachable-requires : goal.unreachable-requires
unreachable-requires c =
    let e : false ≡ true = c.in-Err.ensures.succeeds (subst IsUtf8 (sym c.into_vec.ensures) (is_text c.args.text.now (c.in-Some.bytes, c.in-Some.size) c.requires (sym c.in_ok-read_quoted.ensures.value ∙ c.in-Some.is))) in
    let f : ⊥ = cc in f
