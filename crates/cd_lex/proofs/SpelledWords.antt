-- The reserved words and the signs are read as they are written. One case is named in each lemma, so that the wildcard stands for each of the others.
use Rattle.std.proofs.Common.{◌≡◌, Some, refl}
use Rattle.cd_elem.specs.declared.script.Join.{Join}
use Rattle.cd_elem.specs.declared.script.Join.TheVariants as join
use Rattle.cd_elem.specs.declared.token.Opening.{Opening}
use Rattle.cd_elem.specs.declared.token.Opening.TheVariants as opening
use Rattle.cd_elem.specs.declared.token.Section.{Section}
use Rattle.cd_elem.specs.declared.token.Section.TheVariants as section
use Rattle.cd_elem.specs.declared.token.Zip.{Zip}
use Rattle.cd_elem.specs.declared.token.Zip.TheVariants as zip
use Rattle.cd_elem.specs.declared.token.PlainWord.{PlainWord}
use Rattle.cd_elem.specs.declared.token.PlainWord.TheVariants as plain
use Rattle.cd_elem.specs.declared.token.CountedWord.{CountedWord}
use Rattle.cd_elem.specs.declared.token.CountedWord.TheVariants as counted
use Rattle.cd_elem.specs.declared.token.ClassedWord.{ClassedWord}
use Rattle.cd_elem.specs.declared.token.ClassedWord.TheVariants as classed
use Rattle.cd_elem.specs.declared.token.TestedWord.{TestedWord}
use Rattle.cd_elem.specs.declared.token.TestedWord.TheVariants as tested
use Rattle.cd_elem.specs.declared.token.LiteralWord.{LiteralWord}
use Rattle.cd_elem.specs.declared.token.LiteralWord.TheVariants as literal
use Rattle.cd_elem.specs.declared.token.FileWord.{FileWord}
use Rattle.cd_elem.specs.declared.token.FileWord.TheVariants as file
use Rattle.cd_elem.specs.declared.token.ListWord.{ListWord}
use Rattle.cd_elem.specs.declared.token.ListWord.TheVariants as list
use Rattle.cd_elem.specs.declared.token.PlainClass.{PlainClass}
use Rattle.cd_elem.specs.declared.token.PlainClass.TheVariants as class
use Rattle.cd_elem.specs.declared.token.EndTest.{EndTest}
use Rattle.cd_elem.specs.declared.token.EndTest.TheVariants as end_test
use Rattle.cd_elem.specs.declared.token.NumberMap.{NumberMap}
use Rattle.cd_elem.specs.declared.token.NumberMap.TheVariants as number_map
use Rattle.cd_elem.specs.declared.token.EndMap.{EndMap}
use Rattle.cd_elem.specs.declared.token.EndMap.TheVariants as end_map
use Rattle.cd_elem.specs.declared.token.Keyword.{Keyword}
use Rattle.cd_elem.specs.declared.token.Keyword.TheVariants as keyword
use Rattle.cd_elem.specs.declared.token.Sign.{Sign}
use Rattle.cd_elem.specs.declared.token.Sign.TheVariants as sign
use Rattle.cd_elem.specs.declared.token.Token.{Token}
use Rattle.cd_elem.specs.declared.token.Token.TheVariants as token
use Rattle.cd_grammar.specs.Spelling.{spelled}
use Rattle.cd_grammar.specs.Tokens.{whole_token}

-- a token that is read as it is written
pub record IsWritten (t : Token) : Type 0 where
  pub whole : whole_token (spelled t) ≡ Some t

opening_is : (w : Opening) → IsWritten (token.Word (keyword.Opening w))
opening_is opening.Let = record { whole = refl }
opening_is _ = record { whole = refl }

section_is : (w : Section) → IsWritten (token.Word (keyword.Section w))
section_is section.Exactly = record { whole = refl }
section_is _ = record { whole = refl }

zip_is : (w : Zip) → IsWritten (token.Word (keyword.Zip w))
zip_is zip.Source = record { whole = refl }
zip_is _ = record { whole = refl }

plain_word_is : (w : PlainWord) → IsWritten (token.Word (keyword.Plain w))
plain_word_is plain.PassE = record { whole = refl }
plain_word_is _ = record { whole = refl }

counted_word_is : (w : CountedWord) → IsWritten (token.Word (keyword.Counted w))
counted_word_is counted.TakeE = record { whole = refl }
counted_word_is _ = record { whole = refl }

classed_word_is : (w : ClassedWord) → IsWritten (token.Word (keyword.Classed w))
classed_word_is classed.TakeWhileE = record { whole = refl }
classed_word_is _ = record { whole = refl }

tested_word_is : (w : TestedWord) → IsWritten (token.Word (keyword.Tested w))
tested_word_is tested.TakeWhile = record { whole = refl }
tested_word_is _ = record { whole = refl }

literal_word_is : (w : LiteralWord) → IsWritten (token.Word (keyword.Literal w))
literal_word_is literal.Intersperse = record { whole = refl }
literal_word_is _ = record { whole = refl }

file_word_is : (w : FileWord) → IsWritten (token.Word (keyword.File w))
file_word_is file.SourceFile = record { whole = refl }
file_word_is _ = record { whole = refl }

list_word_is : (w : ListWord) → IsWritten (token.Word (keyword.List w))
list_word_is list.Blocks = record { whole = refl }
list_word_is _ = record { whole = refl }

plain_class_is : (w : PlainClass) → IsWritten (token.Word (keyword.Class w))
plain_class_is class.Digit = record { whole = refl }
plain_class_is _ = record { whole = refl }

end_test_is : (w : EndTest) → IsWritten (token.Word (keyword.EndTest w))
end_test_is end_test.Begins = record { whole = refl }
end_test_is _ = record { whole = refl }

number_map_is : (w : NumberMap) → IsWritten (token.Word (keyword.NumberMap w))
number_map_is number_map.Xor = record { whole = refl }
number_map_is _ = record { whole = refl }

end_map_is : (w : EndMap) → IsWritten (token.Word (keyword.EndMap w))
end_map_is end_map.Prefix = record { whole = refl }
end_map_is _ = record { whole = refl }

pub word_is : (k : Keyword) → IsWritten (token.Word k)
word_is (keyword.Opening w) = opening_is w
word_is (keyword.Section w) = section_is w
word_is (keyword.Zip w) = zip_is w
word_is (keyword.Plain w) = plain_word_is w
word_is (keyword.Counted w) = counted_word_is w
word_is (keyword.Classed w) = classed_word_is w
word_is (keyword.Tested w) = tested_word_is w
word_is (keyword.Literal w) = literal_word_is w
word_is (keyword.File w) = file_word_is w
word_is (keyword.List w) = list_word_is w
word_is (keyword.Class w) = plain_class_is w
word_is (keyword.EndTest w) = end_test_is w
word_is (keyword.NumberMap w) = number_map_is w
word_is (keyword.EndMap w) = end_map_is w
word_is _ = record { whole = refl }

operator_is : (j : Join) → IsWritten (token.Sign (sign.Operator j))
operator_is join.Plain = record { whole = refl }
operator_is _ = record { whole = refl }

pub sign_is : (s : Sign) → IsWritten (token.Sign s)
sign_is (sign.Operator j) = operator_is j
sign_is _ = record { whole = refl }
