use Rattle.cd_lex.proofs.Longest.{scans_ok}
use Rattle.cd_lex.proofs.longest_token.longest_token.Goals as goal

pub returns : goal.returns
returns c = scans_ok c.args.text.now c.find_token.result c.find_token.ensures
