-- Literals as chunks.
use Rattle.std.proofs.Common.{◌≡◌, ℕ, zero, suc, ◌<◌, ◌≤◌, List, [], ◌∷◌, ◌++◌, length, map, get_or, refl, ap, sym, ◌∙◌, subst, arith}
use Rattle.std.proofs.lemmas.Bool.Decides.{nat_tests}
use Rattle.std.proofs.lemmas.List.{append-nil, append_assoc, length-map, map-append}
use Rattle.std.proofs.lemmas.List.Concat.{flat_map-append}
use Rattle.std.specs.List.{flat_map, fold}
use Rattle.std.specs.Str.{chars}
use Rattle.cd_elem.specs.Limits.{chunk_limit}
use Rattle.cd_elem.specs.declared.kind.Kind.{Kind}
use Rattle.cd_elem.specs.declared.kind.Kind.TheVariants.{Bytes, Chars, Blocks, Texts}
use Rattle.cd_meaning.specs.Stream.{Sort, Item, Elem, Piece}
use Rattle.cd_meaning.specs.Sorts.{pieces_at}
use Rattle.cd_step.specs.Parts.{Chunk, IsChunk, items}
use Rattle.cd_pieces.specs.Literals.{AreChunks, block_of, greatest, larger, text_of}

-- ---- elements in chunks

pub is_bytes : (front : List ℕ) → 0 < length front → length front ≤ chunk_limit → IsChunk Bytes (Sort.Bytes, front)
is_bytes front a b = (subst (λ n. 0 < n) (sym (length-map front Elem)) a, refl, b)

pub is_chars : (front : List ℕ) → 0 < length front → length front ≤ chunk_limit → IsChunk Chars (Sort.Chars, front)
is_chars front a b = (subst (λ n. 0 < n) (sym (length-map front Elem)) a, refl, b)

more_chunks : (k : Kind) (cs : List Chunk) (c : Chunk) → AreChunks k cs → IsChunk k c → AreChunks k (cs ++ c ∷ [])
more_chunks k [] c h i = (i, tt)
more_chunks k (d ∷ cs) c h i = (h.0, more_chunks k cs c h.1 i)

-- one more chunk behind others, of the first values of those that are left
more_items : (cs : List Chunk) (c : Chunk) (front behind : List ℕ) (all : List Item) → items c ≡ map Elem front → flat_map items cs ++ map Elem (front ++ behind) ≡ all
    → flat_map items (cs ++ c ∷ []) ++ map Elem behind ≡ all
more_items cs c front behind all i h =
    ap (λ l. l ++ map Elem behind) (flat_map-append items cs (c ∷ []) ∙ ap (λ l. flat_map items cs ++ l) (append-nil (items c)))
    ∙ append_assoc (flat_map items cs) (items c) (map Elem behind)
    ∙ ap (λ l. flat_map items cs ++ (l ++ map Elem behind)) i
    ∙ ap (λ l. flat_map items cs ++ l) (sym (map-append Elem front behind))
    ∙ h

pub chunk_added : (k : Kind) (cs new : List Chunk) (c : Chunk) (front behind rest : List ℕ) (all : List Item) → new ≡ cs ++ c ∷ [] → items c ≡ map Elem front → IsChunk k c → front ++ behind ≡ rest
    → (flat_map items cs ++ map Elem rest ≡ all) × AreChunks k cs → (flat_map items new ++ map Elem behind ≡ all) × AreChunks k new
chunk_added k cs new c front behind rest all n i o r h =
    rw n (more_items cs c front behind all i (ap (λ l. flat_map items cs ++ map Elem l) r ∙ h.0), more_chunks k cs c h.1 o)

-- ---- lengths

larger_left : (m n : ℕ) → m ≤ larger m n
larger_left m n = grind (arith, nat_tests)

larger_right : (m n : ℕ) → n ≤ larger m n
larger_right m n = grind (arith, nat_tests)

fold_above : (a : ℕ) (ns : List ℕ) → a ≤ fold larger a ns
fold_above a [] = omega arith
fold_above a (n ∷ ns) = let h = fold_above (larger a n) ns in let k = larger_left a n in omega (arith, h, k)

-- the length of one of them
pub length_below : (f : List ℕ → ℕ) (a : ℕ) (ls : List (List ℕ)) (i : ℕ) (x : List ℕ) → i < length ls → x ≡ get_or ls i x → f x ≤ fold larger a (map f ls)
length_below f a [] i x h e = absurd (omega (arith, h))
length_below f a (l ∷ ls) zero x h e =
    let j = larger_right a (f l) in
    let k = fold_above (larger a (f l)) (map f ls) in
    subst (λ y. f y ≤ fold larger (larger a (f l)) (map f ls)) (sym e) (omega (arith, j, k))
length_below f a (l ∷ ls) (suc i) x h e = length_below f (larger a (f l)) ls i x (omega (arith, h)) e

blocks_from : (m a : ℕ) (ls : List (List ℕ)) → fold larger a (map length ls) ≤ m → AreChunks (Blocks m) (map block_of ls)
blocks_from m a [] h = tt
blocks_from m a (l ∷ ls) h =
    let j = larger_right a (length l) in
    let k = fold_above (larger a (length l)) (map length ls) in
    ((omega arith, refl, omega (arith, h, j, k)), blocks_from m (larger a (length l)) ls h)

texts_from : (m a : ℕ) (ls : List (List ℕ)) → fold larger a (map (λ l. length (chars l)) ls) ≤ m → AreChunks (Texts m) (map text_of ls)
texts_from m a [] h = tt
texts_from m a (l ∷ ls) h =
    let j = larger_right a (length (chars l)) in
    let k = fold_above (larger a (length (chars l))) (map (λ l. length (chars l)) ls) in
    ((omega arith, refl, omega (arith, h, j, k)), texts_from m (larger a (length (chars l))) ls h)

block_lengths : (ls : List (List ℕ)) → map (λ c. length c.1) (map block_of ls) ≡ map length ls
block_lengths [] = refl
block_lengths (l ∷ ls) = ap (λ ns. length l ∷ ns) (block_lengths ls)

text_lengths : (ls : List (List ℕ)) → map (λ c. length c.1) (map text_of ls) ≡ map (λ l. length (chars l)) ls
text_lengths [] = refl
text_lengths (l ∷ ls) = ap (λ ns. length (chars l) ∷ ns) (text_lengths ls)

pub block_items : (ls : List (List ℕ)) → flat_map items (map block_of ls) ≡ pieces_at Sort.Block ls
block_items [] = refl
block_items (l ∷ ls) = ap (λ xs. Piece l ∷ xs) (block_items ls)

pub text_items : (ls : List (List ℕ)) → flat_map items (map text_of ls) ≡ pieces_at Sort.Text ls
text_items [] = refl
text_items (l ∷ ls) = ap (λ xs. Piece (chars l) ∷ xs) (text_items ls)

-- ---- pieces

pub blocks_fit : (ls : List (List ℕ)) (pieces : List Chunk) (n : ℕ) → pieces ≡ map block_of ls → n ≡ greatest (map (λ c. length c.1) pieces) → AreChunks (Blocks n) pieces
blocks_fit ls pieces n e l =
    let k : greatest (map length ls) ≡ n = sym (l ∙ ap (λ cs. greatest (map (λ c. length c.1) cs)) e ∙ ap greatest (block_lengths ls)) in
    rw e (blocks_from n 0 ls (omega (arith, k)))

pub texts_fit : (ls : List (List ℕ)) (pieces : List Chunk) (n : ℕ) → pieces ≡ map text_of ls → n ≡ greatest (map (λ c. length c.1) pieces) → AreChunks (Texts n) pieces
texts_fit ls pieces n e l =
    let k : greatest (map (λ l. length (chars l)) ls) ≡ n = sym (l ∙ ap (λ cs. greatest (map (λ c. length c.1) cs)) e ∙ ap greatest (text_lengths ls)) in
    rw e (texts_from n 0 ls (omega (arith, k)))
