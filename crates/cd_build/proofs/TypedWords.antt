-- What the typing of a word says to those who make its node.
use Rattle.std.proofs.Common.{◌≡◌, Bool, true, false, ◌&&◌, not, IsTrue, Some, None, refl, subst}
use Rattle.std.proofs.lemmas.Bool.{ltb-false, leb-true}
use Rattle.cd_elem.specs.Limits.{repeat_limit, collect_limit}
use Rattle.cd_elem.specs.declared.kind.Kind.{Kind}
use Rattle.cd_elem.specs.declared.word.Word.{Word}
use Rattle.cd_elem.specs.declared.word.ElemWord.{ElemWord}
use Rattle.cd_elem.specs.declared.word.SinkWord.{SinkWord}
use Rattle.cd_elem.specs.declared.word.ByteMap.{ByteMap}
use Rattle.cd_elem.specs.declared.word.Class.{Class}
use Rattle.cd_elem.specs.declared.word.ClassName.{ClassName}
use Rattle.cd_elemwise.specs.Carried.{HasType, ClassFits, NameFits, bound_of as bound_of_word, first_state, gives_of, kind_of}
use Rattle.cd_step.specs.Parts.{pieces_at}
use Rattle.cd_types.specs.declared.refusal.RefusalKind.TheVariants.{KindMismatch, NeedsElements, OpenEnd}
use Rattle.cd_types.specs.Flows.{Flow, Sort, is_nothing}
use Rattle.cd_types.specs.WordTypes.{word_gives, word_bound, class_past_ascii, is_source}
use Rattle.cd_build.specs.Built.{is_in_range}
use Rattle.cd_build.specs.Builds.{IsPassed}

-- ---- element words

name_fits : (name : ClassName) → class_past_ascii name ≡ false → NameFits name Sort.Bytes
name_fits (ClassName.Is c) e = ltb-false 127 c e
name_fits ClassName.Digit e = refl
name_fits ClassName.Upper e = refl
name_fits ClassName.Lower e = refl
name_fits ClassName.Alpha e = refl
name_fits ClassName.Alnum e = refl
name_fits ClassName.Hexdigit e = refl
name_fits ClassName.Space e = refl
name_fits ClassName.Newline e = refl
name_fits (ClassName.Below n) e = refl

char_fits : (name : ClassName) → NameFits name Sort.Chars
char_fits (ClassName.Is c) = refl
char_fits ClassName.Digit = refl
char_fits ClassName.Upper = refl
char_fits ClassName.Lower = refl
char_fits ClassName.Alpha = refl
char_fits ClassName.Alnum = refl
char_fits ClassName.Hexdigit = refl
char_fits ClassName.Space = refl
char_fits ClassName.Newline = refl
char_fits (ClassName.Below n) = refl

pub of_and : (b : Bool) → (b && true) ≡ false → b ≡ false
of_and true e = e
of_and false e = refl

class_fits : (c : Class) → (class_past_ascii c.what && true) ≡ false → ClassFits c Sort.Bytes
class_fits c e = (refl, name_fits c.what (of_and (class_past_ascii c.what) e))

pub on_bytes : (w : ElemWord) → IsPassed (Word.Elem w) (Some Kind.Bytes) → IsTrue (is_in_range w) → HasType w Sort.Bytes
on_bytes ElemWord.PassE h r = refl
on_bytes (ElemWord.TakeE n) h r = refl
on_bytes (ElemWord.TakeWhileE c) h r = class_fits c (h KindMismatch)
on_bytes (ElemWord.FilterE c) h r = class_fits c (h KindMismatch)
on_bytes (ElemWord.MapE by) h r = tt
on_bytes (ElemWord.RepeatE n) h r = (refl, leb-true n repeat_limit r)
on_bytes (ElemWord.DropE n) h r = refl
on_bytes (ElemWord.DropWhileE c) h r = class_fits c (h KindMismatch)
on_bytes ElemWord.HeadE h r = refl
on_bytes ElemWord.PeekE h r = refl
on_bytes ElemWord.LastE h r = refl
on_bytes ElemWord.LengthE h r = refl
on_bytes ElemWord.SumE h r = refl
on_bytes (ElemWord.AllE c) h r = class_fits c (h KindMismatch)
on_bytes (ElemWord.AnyE c) h r = class_fits c (h KindMismatch)
on_bytes ElemWord.NullE h r = refl
on_bytes (ElemWord.CollectE n) h r = (refl, leb-true n collect_limit r)
on_bytes ElemWord.SinkNull h r = tt

pub on_chars : (w : ElemWord) → IsPassed (Word.Elem w) (Some Kind.Chars) → IsTrue (is_in_range w) → HasType w Sort.Chars
on_chars ElemWord.PassE h r = refl
on_chars (ElemWord.TakeE n) h r = refl
on_chars (ElemWord.TakeWhileE c) h r = (refl, char_fits c.what)
on_chars (ElemWord.FilterE c) h r = (refl, char_fits c.what)
on_chars (ElemWord.MapE (ByteMap.Xor k)) h r = let e = h KindMismatch in let no : ⊥ = cc in absurd no
on_chars (ElemWord.MapE (ByteMap.Add k)) h r = let e = h KindMismatch in let no : ⊥ = cc in absurd no
on_chars (ElemWord.MapE ByteMap.Rot13) h r = tt
on_chars (ElemWord.RepeatE n) h r = (refl, leb-true n repeat_limit r)
on_chars (ElemWord.DropE n) h r = refl
on_chars (ElemWord.DropWhileE c) h r = (refl, char_fits c.what)
on_chars ElemWord.HeadE h r = refl
on_chars ElemWord.PeekE h r = refl
on_chars ElemWord.LastE h r = refl
on_chars ElemWord.LengthE h r = refl
on_chars ElemWord.SumE h r = let e = h KindMismatch in let no : ⊥ = cc in absurd no
on_chars (ElemWord.AllE c) h r = (refl, char_fits c.what)
on_chars (ElemWord.AnyE c) h r = (refl, char_fits c.what)
on_chars ElemWord.NullE h r = refl
on_chars (ElemWord.CollectE n) h r = (refl, leb-true n collect_limit r)
on_chars ElemWord.SinkNull h r = tt

pub gives_so : (w : ElemWord) (k : Sort) → gives_of (first_state w) k ≡ word_gives (Word.Elem w) (Some (kind_of k))
gives_so ElemWord.PassE k = refl
gives_so (ElemWord.TakeE n) k = refl
gives_so (ElemWord.TakeWhileE c) k = refl
gives_so (ElemWord.FilterE c) k = refl
gives_so (ElemWord.MapE by) k = refl
gives_so (ElemWord.RepeatE n) k = refl
gives_so _ k = refl

pub bound_so : (w : ElemWord) (f : Flow) → bound_of_word w ≡ word_bound (Word.Elem w) f
bound_so ElemWord.LastE f = refl
bound_so (ElemWord.CollectE n) f = refl
bound_so _ f = refl

-- pieces come to no element word but `sinkNull`
pub only_sink_null : (w : ElemWord) (k : Kind) → pieces_at k ≡ true → IsPassed (Word.Elem w) (Some k) → w ≡ ElemWord.SinkNull
only_sink_null w Kind.Bytes e h = let no : ⊥ = cc in absurd no
only_sink_null w Kind.Chars e h = let no : ⊥ = cc in absurd no
only_sink_null ElemWord.SinkNull (Kind.Blocks m) e h = refl
only_sink_null ElemWord.SinkNull (Kind.Texts m) e h = refl
only_sink_null _ (Kind.Blocks m) e h = let f = h NeedsElements in let no : ⊥ = cc in absurd no
only_sink_null _ (Kind.Texts m) e h = let f = h NeedsElements in let no : ⊥ = cc in absurd no

-- ---- what comes to a word that reads

-- something comes to a word that is no source
pub something_comes : (w : Word) (f : Flow) → is_source w ≡ false → IsPassed w f → is_nothing f ≡ false
something_comes w f s h = subst (λ (b : Bool). (not b && is_nothing f) ≡ false) s (h OpenEnd)

-- bytes come to a sink
pub bytes_come : (w : SinkWord) (f : Flow) → IsPassed (Word.Sink w) f → f ≡ Some Kind.Bytes
bytes_come w None h = let e = h OpenEnd in let no : ⊥ = cc in absurd no
bytes_come w (Some Kind.Bytes) h = refl
bytes_come w (Some Kind.Chars) h = let e = h KindMismatch in let no : ⊥ = cc in absurd no
bytes_come w (Some (Kind.Blocks m)) h = let e = h NeedsElements in let no : ⊥ = cc in absurd no
bytes_come w (Some (Kind.Texts m)) h = let e = h NeedsElements in let no : ⊥ = cc in absurd no
