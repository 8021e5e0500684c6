-- UTF-8 by characters: those of a text of each length, and what is refused.
use Rattle.std.specs.Prelude.{◌≡◌, refl, [], ◌∷◌}
use lib.Utf8.{encode}
use Rattle.cd_meaning.specs.Stream.{Ended, bad_text}
use Rattle.cd_meaning.specs.Run.{stamp}
use Rattle.cd_meaning.specs.PlainText.{plain_text, refused_behind}
use Rattle.cd_meaning.specs.Rows.Given.{at_end, gives_elem, stops_at, waiting, waits_past}

text_empty : plain_text [] Ended ≡ at_end 0
text_empty = refl

text_sizes : plain_text (97 ∷ 233 ∷ 8364 ∷ 128512 ∷ []) Ended ≡ gives_elem 1 97 (gives_elem 3 233 (gives_elem 6 8364 (gives_elem 10 128512 (at_end 10))))
unfolding encode
text_sizes = refl

text_waits : plain_text (233 ∷ []) waiting ≡ gives_elem 2 233 (waits_past 2)
unfolding encode
text_waits = refl

-- the offset is that of the sequence, and not of the byte
text_refused : refused_behind (8364 ∷ []) (stamp 5 5) ≡ gives_elem 3 8364 (stops_at 5 5 (bad_text 3))
unfolding encode
text_refused = refl
