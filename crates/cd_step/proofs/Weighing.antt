-- What chunks and unread values count.
use Rattle.std.proofs.Common.{◌≡◌, ℕ, ◌+◌, List, [], ◌∷◌, ◌++◌, length, map, Option, Some, None, refl, arith}
use Rattle.cd_meaning.specs.Stream.{Sort, Item, Elem}
use Rattle.cd_step.specs.Parts.{Chunk, items, items_at, rest_items, weight, weight_at, weight_any, weigh}

pub weigh_elems : (numbers : List ℕ) → weigh (map Elem numbers) ≡ length numbers
weigh_elems [] = refl
weigh_elems (x ∷ numbers) = let h = weigh_elems numbers in omega (arith, h)

pub weigh_append : (u v : List Item) → weigh (u ++ v) ≡ weigh u + weigh v
weigh_append [] v = omega arith
weigh_append (x ∷ u) v = let h = weigh_append u v in omega (arith, h)

weigh_items : (s : Sort) (numbers : List ℕ) → weigh (items_at s numbers) ≡ weight_at s (length numbers)
weigh_items Sort.Bytes numbers = weigh_elems numbers
weigh_items Sort.Chars numbers = weigh_elems numbers
weigh_items Sort.Block numbers = omega arith
weigh_items Sort.Text numbers = omega arith

pub weigh_chunk : (c : Chunk) → weigh (items c) ≡ weight c
weigh_chunk c = weigh_items c.0 c.1

pub weigh_back : (r : Option Chunk) → weigh (rest_items r) ≡ weight_any r
weigh_back None = refl
weigh_back (Some c) = weigh_chunk c
