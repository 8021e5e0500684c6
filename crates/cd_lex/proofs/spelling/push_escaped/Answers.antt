use Rattle.std.proofs.Common.{◌++◌, ◌∙◌, ap, arith, string_bytes, sym}
use Rattle.cd_lex.proofs.Escapes.{IsLong, control, other}
use Rattle.cd_lex.proofs.spelling.push_escaped.Goals as goal

pub returns-in_ok-push_by_digits-in_default : goal.returns-in_ok-push_by_digits-in_default
returns-in_ok-push_by_digits-in_default c =
    let long : IsLong c.args.scalar = record { no_backslash = λ e. omega arith; no_quote = λ e. omega arith; no_newline = λ e. omega arith; no_return = λ e. omega arith; no_tab = λ e. omega arith } in
    c.in_ok-push_by_digits-in_default.ensures ∙ ap (λ bs. string_bytes c.args.text.now ++ bs) (control c.args.scalar (sym c.if-is_ascii_control.ensures.value) long)

pub returns-in_ok-push-in_default-2 : goal.returns-in_ok-push-in_default-2
returns-in_ok-push-in_default-2 c =
    let long : IsLong c.args.scalar = record { no_backslash = λ e. omega arith; no_quote = λ e. omega arith; no_newline = λ e. omega arith; no_return = λ e. omega arith; no_tab = λ e. omega arith } in
    c.in_ok-push-in_default-2.ensures.bytes ∙ ap (λ bs. string_bytes c.args.text.now ++ bs) (other c.args.scalar (sym c.if-is_ascii_control.ensures.value) long)
