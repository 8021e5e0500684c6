-- Chunks that are pieces.
use Rattle.std.proofs.Common.{◌≡◌, ℕ, ◌+◌, ◌≤◌, ◌<◌, Bool, true, false, List, [], ◌∷◌, length, Some, refl, ap, sym, ◌∙◌, subst, arith}
use Rattle.cd_elem.specs.Chunks.{is_cut}
use Rattle.cd_elem.specs.declared.kind.Kind.{Kind}
use Rattle.cd_elem.specs.declared.kind.Kind.TheVariants.{Bytes, Chars, Blocks, Texts}
use Rattle.cd_meaning.specs.Stream.{Sort, Piece}
use Rattle.cd_step.specs.Parts.{Chunk, items, items_at, weight, weight_at, chunk_at, sort_at, pieces_at, bound_at, IsChunk}

-- ---- kinds

pub piece_sort : (k : Kind) → pieces_at k ≡ true → is_cut (sort_at k) ≡ false
piece_sort Bytes h = cc
piece_sort Chars h = cc
piece_sort (Blocks m) h = refl
piece_sort (Texts m) h = refl

pub piece_room : (k : Kind) → pieces_at k ≡ true → chunk_at k ≡ bound_at k + 1
piece_room Bytes h = cc
piece_room Chars h = cc
piece_room (Blocks m) h = refl
piece_room (Texts m) h = refl

-- ---- chunks

pub piece_weight : (s : Sort) (n : ℕ) → is_cut s ≡ false → weight_at s n ≡ n + 1
piece_weight Sort.Bytes n h = cc
piece_weight Sort.Chars n h = cc
piece_weight Sort.Block n h = refl
piece_weight Sort.Text n h = refl

piece_at : (s : Sort) (numbers : List ℕ) → is_cut s ≡ false → items_at s numbers ≡ Piece numbers ∷ []
piece_at Sort.Bytes numbers h = cc
piece_at Sort.Chars numbers h = cc
piece_at Sort.Block numbers h = refl
piece_at Sort.Text numbers h = refl

-- a chunk of pieces is a piece
pub chunk_piece : (k : Kind) (c : Chunk) → pieces_at k ≡ true → IsChunk k c → is_cut c.0 ≡ false
chunk_piece k c h i = ap is_cut i.1 ∙ piece_sort k h

-- it is one value
pub piece_items : (c : Chunk) → is_cut c.0 ≡ false → items c ≡ Piece c.1 ∷ []
piece_items c h = piece_at c.0 c.1 h

-- it has no more elements than a piece of the kind may have
pub piece_within : (k : Kind) (c : Chunk) → pieces_at k ≡ true → IsChunk k c → length c.1 ≤ bound_at k
piece_within k c h i =
    let w = piece_weight c.0 (length c.1) (chunk_piece k c h i) in
    let r = piece_room k h in
    let i2 = i.2 in
    omega (arith, w, r, i2)

-- a piece of this sort with no more elements
pub piece_chunk : (k : Kind) (c : Chunk) → pieces_at k ≡ true → c.0 ≡ sort_at k → length c.1 ≤ bound_at k → IsChunk k c
piece_chunk k c h s l =
    let p = ap is_cut s ∙ piece_sort k h in
    let w = piece_weight c.0 (length c.1) p in
    let r = piece_room k h in
    (subst (λ xs. 0 < length xs) (sym (piece_items c p)) (omega arith), s, omega (arith, w, r, l))
