-- The canonical tokens of a word pass no limit where those that spell it pass none.
use Rattle.std.proofs.Common.{◌≡◌, ℕ, ◌≤◌, Bool, true, false, if◌then◌else◌, List, [], ◌∷◌, ◌++◌, Option, Some, None, length, refl, ap, sym, ◌∙◌, arith, append_assoc, append-nil}
use Rattle.std.specs.Prelude.{nat_lt, encode_utf8}
use Rattle.std.proofs.lemmas.Bool.{le-ltb}
use Rattle.std.proofs.lemmas.Str.{length-encode, len_utf8_bounds}
use Rattle.std.proofs.lemmas.Grind.{flat_map-append}
use Rattle.cd_elem.specs.declared.token.PlainWord.{PlainWord}
use Rattle.cd_elem.specs.declared.token.PlainWord.TheVariants as plain
use Rattle.cd_elem.specs.declared.token.CountedWord.{CountedWord}
use Rattle.cd_elem.specs.declared.token.CountedWord.TheVariants as counted
use Rattle.cd_elem.specs.declared.token.ClassedWord.{ClassedWord}
use Rattle.cd_elem.specs.declared.token.ClassedWord.TheVariants as classed
use Rattle.cd_elem.specs.declared.token.TestedWord.{TestedWord}
use Rattle.cd_elem.specs.declared.token.TestedWord.TheVariants as tested
use Rattle.cd_elem.specs.declared.token.LiteralWord.{LiteralWord}
use Rattle.cd_elem.specs.declared.token.LiteralWord.TheVariants as literal
use Rattle.cd_elem.specs.declared.token.FileWord.{FileWord}
use Rattle.cd_elem.specs.declared.token.FileWord.TheVariants as file
use Rattle.cd_elem.specs.declared.token.ListWord.{ListWord}
use Rattle.cd_elem.specs.declared.token.ListWord.TheVariants as list
use Rattle.cd_elem.specs.declared.token.PlainClass.{PlainClass}
use Rattle.cd_elem.specs.declared.token.PlainClass.TheVariants as class
use Rattle.cd_elem.specs.declared.token.EndTest.{EndTest}
use Rattle.cd_elem.specs.declared.token.EndTest.TheVariants as end_test
use Rattle.cd_elem.specs.declared.token.NumberMap.{NumberMap}
use Rattle.cd_elem.specs.declared.token.NumberMap.TheVariants as number_map
use Rattle.cd_elem.specs.declared.token.EndMap.{EndMap}
use Rattle.cd_elem.specs.declared.token.EndMap.TheVariants as end_map
use Rattle.cd_elem.specs.declared.token.Keyword.{Keyword}
use Rattle.cd_elem.specs.declared.token.Keyword.TheVariants as keyword
use Rattle.cd_elem.specs.declared.token.Sign.TheVariants as sign
use Rattle.cd_elem.specs.declared.token.Token.{Token}
use Rattle.cd_elem.specs.declared.token.Token.TheVariants as token
use Rattle.cd_elem.specs.declared.word.Class.{Class}
use Rattle.cd_elem.specs.declared.word.PieceTest.{PieceTest}
use Rattle.cd_grammar.specs.Limits.{literal_limit, Bounds, bounds_behind, every_number, byte_bounds, keyword_bounds, is_outside}
use Rattle.cd_grammar.specs.WordTrees as tree
use Rattle.cd_grammar.specs.Grammar as g
use Rattle.cd_grammar.specs.CanonicalWords as canonical
use Rattle.cd_grammar.specs.CanonicalWords.{behind_each, separated, canonical_texts}
use Rattle.cd_script.proofs.LimitWalk.{Passes, fewer_passes}
use Rattle.cd_script.proofs.WithinLimits.{Under, Anywhere, same_as, word, text, comma, none, more, one, both, squares, bracketed}

-- Numbers, and texts of one character.
value_passes : (c c' o o' : ℕ) (b : Bounds) (n : Option ℕ) → c' ≤ c → o' ≤ o → Passes c o b (token.Number n) → Passes c' o' b (token.Number (Some (tree.number_of n)))
value_passes c c' o o' b (Some n) h k p = fewer_passes c c' o o' b (token.Number (Some n)) h k p
value_passes c c' o o' b None h k p = let e : true ≡ false = p.number in let f : ⊥ = cc in absurd f

pub number : (b : Bounds) (n : Option ℕ) → Under b b (token.Number (Some (tree.number_of n))) (token.Number n)
number b n = record { passes = λ c c' o o' h k p. value_passes c c' o o' b n h k p; level = λ _. refl; level_other = λ _. refl }

byte_within : (below : Bool) (n : ℕ) → is_outside byte_bounds (token.Number (Some n)) ≡ false → is_outside byte_bounds (token.Number (Some (if below then n else 0))) ≡ false
byte_within true n e = e
byte_within false n e = refl

byte_passes : (c c' o o' : ℕ) (n : Option ℕ) → c' ≤ c → o' ≤ o → Passes c o byte_bounds (token.Number n) → Passes c' o' byte_bounds (token.Number (Some (tree.byte_of n)))
byte_passes c c' o o' (Some n) h k p =
    let q = fewer_passes c c' o o' byte_bounds (token.Number (Some n)) h k p in
    record { tokens = q.tokens; depth = q.depth; literal = refl; number = byte_within (nat_lt n 256) n q.number }
byte_passes c c' o o' None h k p = let e : true ≡ false = p.number in let f : ⊥ = cc in absurd f

byte : (n : Option ℕ) → Under byte_bounds byte_bounds (token.Number (Some (tree.byte_of n))) (token.Number n)
byte n = record { passes = λ c c' o o' h k p. byte_passes c c' o o' n h k p; level = λ _. refl; level_other = λ _. refl }

short_scalar : (most c : ℕ) → 4 ≤ most → nat_lt most (length (encode_utf8 c)) ≡ false
short_scalar most c h =
    let e = length-encode c in
    let k = (len_utf8_bounds c).1 in
    le-ltb most (length (encode_utf8 c)) (omega (arith, e, k, h))

scalar : (b b' : Bounds) (s : List ℕ) (c : ℕ) → Under b b' (token.Text (encode_utf8 c)) (token.Text s)
scalar b b' s c = record {
  passes = λ m m' o o' h k p.
      let q = fewer_passes m m' o o' b (token.Text s) h k p in
      record { tokens = q.tokens; depth = q.depth; literal = short_scalar literal_limit c (omega arith); number = refl };
  level = λ _. refl;
  level_other = λ _. refl;
}

-- A word alone, and one with a number or a text behind it.
alone : (k : Keyword) → Anywhere (token.Word k ∷ []) (token.Word k ∷ [])
alone k b b' = one b b' (token.Word k) (token.Word k) (word b b' k)

with_number : (k : Keyword) (n : Option ℕ) → Anywhere (token.Word k ∷ token.Number (Some (tree.number_of n)) ∷ []) (token.Word k ∷ token.Number n ∷ [])
with_number k n b b' = more b b' (token.Word k) (token.Word k) _ _ (word b b' k) (one _ _ _ _ (number (keyword_bounds k) n))

with_text : (k : Keyword) (s : List ℕ) → Anywhere (token.Word k ∷ token.Text s ∷ []) (token.Word k ∷ token.Text s ∷ [])
with_text k s b b' = more b b' (token.Word k) (token.Word k) _ _ (word b b' k) (one _ _ _ _ (text (keyword_bounds k) (keyword_bounds k) s))

pub behind_word : (k : Keyword) (xs ys : List Token) → Anywhere xs ys → Anywhere (token.Word k ∷ xs) (token.Word k ∷ ys)
behind_word k xs ys l b b' = more b b' (token.Word k) (token.Word k) xs ys (word b b' k) (l (keyword_bounds k) (keyword_bounds k))

-- Classes, tests and maps.
negation : (negated : Bool) → Anywhere (g.not_tokens negated) (g.not_tokens negated)
negation true = alone keyword.Not
negation false = none

negated_or_not : (negated : Bool) (xs ys : List Token) → Anywhere xs ys → Anywhere (g.not_tokens negated ++ xs) (g.not_tokens negated ++ ys)
negated_or_not negated xs ys l b b' = both b b' (g.not_tokens negated) xs (g.not_tokens negated) ys (negation negated b b') l

plain_class-tokens : (c : PlainClass) → canonical.canonical_class_name (tree.plain_class c) ≡ token.Word (keyword.Class c) ∷ []
plain_class-tokens class.Digit = refl
plain_class-tokens _ = refl

class_form : (c : g.ClassForm) → Anywhere (canonical.canonical_class_name (g.class_name c)) (g.class_tokens c)
class_form (g.Simple c) = same_as _ _ _ (plain_class-tokens c) (alone (keyword.Class c))
class_form (g.Is c) = λ b b'. more b b' (token.Word keyword.Is) (token.Word keyword.Is) _ _ (word b b' keyword.Is) (one _ _ _ _ (scalar every_number every_number c.text c.scalar))
class_form (g.Below n) = with_number keyword.Below n

end_test-tokens : (t : EndTest) (s : List ℕ) → canonical.canonical_test_name (tree.test_of_end t s) ≡ token.Word (keyword.EndTest t) ∷ token.Text s ∷ []
end_test-tokens end_test.Begins s = refl
end_test-tokens _ s = refl

test_form : (t : g.TestForm) → Anywhere (canonical.canonical_test_name (g.test_name t)) (g.test_tokens t)
test_form g.Empty = alone keyword.Empty
test_form (g.AtEnd t s) = same_as _ _ _ (end_test-tokens t s) (with_text (keyword.EndTest t) s)
test_form (g.Shorter n) = with_number keyword.Shorter n

number_map-tokens : (m : NumberMap) (k : ℕ) → canonical.canonical_element_map (tree.map_by_number m k) ≡ token.Word (keyword.NumberMap m) ∷ token.Number (Some k) ∷ []
number_map-tokens number_map.Xor k = refl
number_map-tokens number_map.Add k = refl

element_map : (m : g.ElementMapForm) → Anywhere (canonical.canonical_element_map (g.element_map m)) (g.element_map_tokens m)
element_map (g.ByNumber m n) = same_as _ _ _ (number_map-tokens m (tree.byte_of n)) (λ b b'. more b b' (token.Word (keyword.NumberMap m)) (token.Word (keyword.NumberMap m)) _ _ (word b b' (keyword.NumberMap m)) (one _ _ _ _ (byte n)))
element_map g.Rot13 = alone keyword.Rot13

end_map-tokens : (m : EndMap) (s : List ℕ) → canonical.canonical_piece_map (tree.map_by_text m s) ≡ token.Word (keyword.EndMap m) ∷ token.Text s ∷ []
end_map-tokens end_map.Prefix s = refl
end_map-tokens end_map.Suffix s = refl

piece_map : (m : g.PieceMapForm) → Anywhere (canonical.canonical_piece_map (g.piece_map m)) (g.piece_map_tokens m)
piece_map (g.ByText m s) = same_as _ _ _ (end_map-tokens m s) (with_text (keyword.EndMap m) s)
piece_map g.Reverse = alone keyword.Reverse

-- Lists of literals.
pub no_end : {A : Type 0} (xs : List A) (y : A) → xs ++ y ∷ [] ≡ [] → ⊥
no_end [] y e = cc
no_end (x ∷ xs) y e = cc

-- one more behind those that are separated
pub separated_more : (t : Token) (xs : List (List Token)) (y : List Token) → (xs ≡ [] → ⊥) → separated t (xs ++ y ∷ []) ≡ separated t xs ++ t ∷ y
separated_more t [] y h = absurd (h refl)
separated_more t (x ∷ xs) y h =
    ap (λ ts. x ++ ts) (flat_map-append (λ z. t ∷ z) xs (y ∷ []) ∙ ap (λ ts. behind_each t xs ++ t ∷ ts) (append-nil y))
    ∙ sym (append_assoc x (behind_each t xs) (t ∷ y))

texts-more : (ss : List (List ℕ)) (s : List ℕ) → canonical_texts (ss ++ s ∷ []) ≡ canonical_texts ss ++ (token.Text s ∷ []) ∷ []
texts-more [] s = refl
texts-more (r ∷ ss) s = ap (λ ts. (token.Text r ∷ []) ∷ ts) (texts-more ss s)

some_texts : (l : g.LiteralsForm) → canonical_texts (g.literals l) ≡ [] → ⊥
some_texts (g.OneLiteral s) e = cc
some_texts (g.AndLiteral l s) e = no_end _ _ (sym (texts-more (g.literals l) s) ∙ e)

literals_tokens : (l : g.LiteralsForm) → separated (token.Sign sign.Comma) (canonical_texts (g.literals l)) ≡ g.literals_tokens l
literals_tokens (g.OneLiteral s) = refl
literals_tokens (g.AndLiteral l s) =
    ap (separated (token.Sign sign.Comma)) (texts-more (g.literals l) s)
    ∙ separated_more (token.Sign sign.Comma) (canonical_texts (g.literals l)) (token.Text s ∷ []) (some_texts l)
    ∙ ap (λ ts. ts ++ token.Sign sign.Comma ∷ token.Text s ∷ []) (literals_tokens l)

literals : (l : g.LiteralsForm) → Anywhere (g.literals_tokens l) (g.literals_tokens l)
literals (g.OneLiteral s) b b' = one b b' _ _ (text b b' s)
literals (g.AndLiteral l s) b b' = both b b' _ _ _ _ (literals l b b') (λ d d'. more d d' _ _ _ _ (comma d d') (one _ _ _ _ (text every_number every_number s)))

list_tokens : (l : g.ListForm) → canonical.canonical_list (g.members l) ≡ g.list_tokens l
list_tokens g.Nothing = refl
list_tokens (g.All l) = ap (λ ts. token.Sign sign.OpenSquare ∷ ts ++ token.Sign sign.CloseSquare ∷ []) (literals_tokens l)

list_form : (l : g.ListForm) → Anywhere (g.list_tokens l) (g.list_tokens l)
list_form g.Nothing = bracketed sign.OpenSquare sign.CloseSquare squares [] [] none
list_form (g.All l) = bracketed sign.OpenSquare sign.CloseSquare squares _ _ (literals l)

-- Words.
plain_word-tokens : (w : PlainWord) → canonical.canonical_word (tree.plain_word w) ≡ token.Word (keyword.Plain w) ∷ []
plain_word-tokens plain.PassE = refl
plain_word-tokens _ = refl

counted_word-tokens : (w : CountedWord) (n : ℕ) → canonical.canonical_word (tree.counted_word w n) ≡ token.Word (keyword.Counted w) ∷ token.Number (Some n) ∷ []
counted_word-tokens counted.TakeE n = refl
counted_word-tokens _ n = refl

classed_word-tokens : (w : ClassedWord) (c : Class) → canonical.canonical_word (tree.classed_word w c) ≡ token.Word (keyword.Classed w) ∷ canonical.canonical_class c
classed_word-tokens classed.AllE c = refl
classed_word-tokens _ c = refl

tested_word-tokens : (w : TestedWord) (t : PieceTest) → canonical.canonical_word (tree.tested_word w t) ≡ token.Word (keyword.Tested w) ∷ canonical.canonical_test t
tested_word-tokens tested.Filter t = refl
tested_word-tokens _ t = refl

literal_word-tokens : (w : LiteralWord) (s : List ℕ) → canonical.canonical_word (tree.literal_word w s) ≡ token.Word (keyword.Literal w) ∷ token.Text s ∷ []
literal_word-tokens literal.Bytes s = refl
literal_word-tokens _ s = refl

file_word-tokens : (w : FileWord) (s : List ℕ) → canonical.canonical_word (tree.file_word w s) ≡ token.Word (keyword.File w) ∷ token.Text s ∷ []
file_word-tokens file.SourceFile s = refl
file_word-tokens _ s = refl

list_word-tokens : (w : ListWord) (ss : List (List ℕ)) → canonical.canonical_word (tree.list_word w ss) ≡ token.Word (keyword.List w) ∷ canonical.canonical_list ss
list_word-tokens list.Blocks ss = refl
list_word-tokens _ ss = refl

pub word_form : (w : g.WordForm) → Anywhere (canonical.canonical_word (g.word_tree w)) (g.word_tokens w)
word_form (g.Plain w) = same_as _ _ _ (plain_word-tokens w) (alone (keyword.Plain w))
word_form (g.Counted w n) = same_as _ _ _ (counted_word-tokens w (tree.number_of n)) (with_number (keyword.Counted w) n)
word_form (g.Classed w negated c) = same_as _ _ _ (classed_word-tokens w _) (behind_word (keyword.Classed w) _ _ (negated_or_not negated _ _ (class_form c)))
word_form (g.Tested w negated t) = same_as _ _ _ (tested_word-tokens w _) (behind_word (keyword.Tested w) _ _ (negated_or_not negated _ _ (test_form t)))
word_form (g.MapE m) = behind_word keyword.MapE _ _ (element_map m)
word_form (g.Map m) = behind_word keyword.Map _ _ (piece_map m)
word_form (g.Literal w s) = same_as _ _ _ (literal_word-tokens w s) (with_text (keyword.Literal w) s)
word_form (g.OfFile w f) = same_as _ _ _ (file_word-tokens w (g.file_name_text f)) (with_text (keyword.File w) (g.file_name_text f))
word_form (g.Split c n) = λ b b'.
    more b b' _ _ _ _ (word b b' keyword.Split) (more _ _ _ _ _ _ (scalar every_number every_number c.text c.scalar) (one _ _ _ _ (number (bounds_behind (token.Text c.text)) n)))
word_form (g.OfList w l) = same_as _ _ _ (list_word-tokens w (g.members l)) (behind_word (keyword.List w) _ _ (same_as _ _ _ (list_tokens l) (list_form l)))
word_form (g.Replicate n s) = λ b b'.
    more b b' _ _ _ _ (word b b' keyword.Replicate) (more _ _ _ _ _ _ (number (keyword_bounds keyword.Replicate) n) (one _ _ _ _ (text every_number every_number s)))
word_form (g.Range m n) = λ b b'.
    more b b' _ _ _ _ (word b b' keyword.Range) (more _ _ _ _ _ _ (number every_number m) (one _ _ _ _ (number every_number n)))
