use Rattle.std.proofs.Common.{rules, IfOk, subst, ◌∙◌, ◌≡◌}
use Rattle.cd_lex.specs.LongestToken.{FoundToken}
use Rattle.cd_lex.proofs.Finds.{name-is, number-is}
use Rattle.cd_lex.proofs.TextFronts.{name_ascii, quoted_rest}
use Rattle.cd_lex.proofs.longest_token.find_token.Goals as goal

pub returns-then-is_ascii_alphabetic : goal.returns-then-is_ascii_alphabetic
returns-then-is_ascii_alphabetic c =
    let P : FoundToken → Type 0 = λ x. IfOk c.find_name.result (λ found. found ≡ x) in
    subst P (name-is c.args.text.now c.count_alphanumerics.result c.in-len1-up.len_at_least c.if-is_ascii_alphabetic.ensures.value c.count_alphanumerics.ensures.value) c.find_name.ensures

pub returns-in_default-2 : goal.returns-in_default-2
returns-in_default-2 c =
    c.find_number.ensures ∙ number-is c.args.text.now c.count_digits.result c.in-len1-up.len_at_least c.if-is_ascii_alphabetic.ensures.value (search rules)
    c.if-is_ascii_digit.ensures.value c.count_digits.ensures.value

pub find_name-requires-clause-ascii : goal.find_name-requires-clause-ascii
find_name-requires-clause-ascii c =
    name_ascii c.args.text.now c.count_alphanumerics.result c.in-len1-up.len_at_least c.if-is_ascii_alphabetic.ensures.value c.count_alphanumerics.ensures.value

pub read_literal-requires : goal.read_literal-requires
read_literal-requires c = quoted_rest c.args.text.now c.in-len1-up.len_at_least c.in-34.is (c.requires c.in-34.is)
