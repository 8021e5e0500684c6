-- Chunks of cut streams: their values, and how they are cut.
use Rattle.std.proofs.Common.{◌≡◌, ℕ, ◌≤◌, ◌<◌, List, [], ◌∷◌, ◌++◌, length, take, drop, refl, ap, sym, ◌∙◌, subst, Option, Some, None, IsTrue, arith}
use Rattle.std.proofs.lemmas.List.{length-map, take-append-drop}
use Rattle.cd_elem.specs.Limits.{chunk_limit}
use Rattle.cd_elem.specs.Chunks.{is_cut, HasSize}
use Rattle.cd_meaning.specs.Stream.{Sort, Elem}
use Rattle.cd_step.specs.Parts.{Chunk, items, items_at, rest_items, weight_any, chunk_at, sort_at, IsChunk, IsGiven}
use Rattle.cd_step.specs.CutChunks.{elems, kind_of, IsChunkOf}

pub items_of_cut : (k : Sort) (numbers : List ℕ) → IsTrue (is_cut k) → items_at k numbers ≡ elems numbers
items_of_cut Sort.Bytes numbers h = refl
items_of_cut Sort.Chars numbers h = refl
items_of_cut Sort.Block numbers h = cc
items_of_cut Sort.Text numbers h = cc

pub cut_items : (k : Sort) (c : Chunk) → IsTrue (is_cut k) → c.0 ≡ k → items c ≡ elems c.1
cut_items k c h e = ap (λ s. items_at s c.1) e ∙ items_of_cut k c.1 h

pub chunk_of_cut : (k : Sort) (numbers : List ℕ) → IsTrue (is_cut k) → 0 < length numbers → length numbers ≤ chunk_limit → IsChunk (kind_of k) (k, numbers)
chunk_of_cut Sort.Bytes numbers h f m = (subst (λ n. 0 < n) (sym (length-map numbers Elem)) f, refl, m)
chunk_of_cut Sort.Chars numbers h f m = (subst (λ n. 0 < n) (sym (length-map numbers Elem)) f, refl, m)
chunk_of_cut Sort.Block numbers h f m = cc
chunk_of_cut Sort.Text numbers h f m = cc

pub cut_is : (k : Sort) (c : Chunk) → IsTrue (is_cut k) → c.0 ≡ k → 0 < length c.1 → length c.1 ≤ chunk_limit → IsChunk (kind_of k) c
cut_is k c h e f m = subst (λ s. IsChunk (kind_of k) (s, c.1)) (sym e) (chunk_of_cut k c.1 h f m)

pub cut_rest : (k : Sort) (numbers : List ℕ) (r : Option Chunk) → IsTrue (is_cut k) → IsChunkOf k numbers r → rest_items r ≡ elems numbers
cut_rest k numbers None h e = ap elems (sym e)
cut_rest k numbers (Some c) h e = cut_items k c h (ap (λ x. x.0) e.0) ∙ ap (λ x. elems x.1) e.0

pub cut_given : (k : Sort) (numbers : List ℕ) (r : Option Chunk) → IsTrue (is_cut k) → IsChunkOf k numbers r → IsGiven (Some (kind_of k)) r
cut_given k numbers None h e = tt
cut_given k numbers (Some c) h e = subst (IsChunk (kind_of k)) (sym e.0) (chunk_of_cut k numbers h e.1 e.2)

pub given_weight : (k : Sort) (r : Option Chunk) → IsGiven (Some (kind_of k)) r → weight_any r ≤ chunk_at (kind_of k)
given_weight k None h = omega arith
given_weight k (Some c) h = h.2

pub elems_append : (u v : List ℕ) → elems (u ++ v) ≡ elems u ++ elems v
elems_append [] v = refl
elems_append (x ∷ u) v = ap (λ l. Elem x ∷ l) (elems_append u v)

pub elems_split : (n : ℕ) (numbers : List ℕ) → elems (take n numbers) ++ elems (drop n numbers) ≡ elems numbers
elems_split n numbers = sym (elems_append (take n numbers) (drop n numbers)) ∙ ap elems (take-append-drop n numbers)

-- the size of a chunk of a cut stream
pub size_of : (k : Sort) (c : Chunk) (len : ℕ) → IsTrue (is_cut k) → c.0 ≡ k → len ≡ length c.1 → HasSize c.0 len → (0 < length c.1) × (length c.1 ≤ chunk_limit)
size_of k c len h i e z =
    let f = z.some (subst (λ s. IsTrue (is_cut s)) (sym i) h) in
    let m = z.cut (subst (λ s. IsTrue (is_cut s)) (sym i) h) in
    (omega (arith, f, e), omega (arith, m, e))

pub sort_of_kind : (k : Sort) → sort_at (kind_of k) ≡ k
sort_of_kind Sort.Bytes = refl
sort_of_kind Sort.Chars = refl
sort_of_kind Sort.Block = refl
sort_of_kind Sort.Text = refl
