use Rattle.std.proofs.Common.{rules}
use Rattle.std.proofs.lemmas.Str.{chars_from_encodes}
use Rattle.cd_pieces.proofs.literal_pieces.chars_of.Goals as goal

pub returns : goal.returns
returns c = search (rules, chars_from_encodes)
