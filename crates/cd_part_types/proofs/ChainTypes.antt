-- The types of chains.
use Rattle.std.proofs.Common.{◌≡◌, suc, ◌+◌, ◌-◌, List, [], ◌∷◌, ◌++◌, length, map, refl, ap, ◌∙◌, arith, zero-add, Some, slice_get}
use Rattle.std.proofs.lemmas.List.{map-append}
use Rattle.cd_elem.specs.declared.script.Join.{Join}
use Rattle.cd_types.specs.Flows.{Flow, ResultKind, PartType as PartTypeOf}
use Rattle.cd_types.specs.Chains.{chain_result, joined_result, held_piece, held_pieces, last_type, last_output}
use Rattle.cd_part_types.specs.Chains.{in_front, held_behind}
use Rattle.cd_part_types.specs.declared.part_type.PartType.{PartType}
use Rattle.cd_part_types.specs.Types.{type_of}

snoc_result : (j : Join) (ts : List PartTypeOf) (t : PartTypeOf) → chain_result j (ts ++ t ∷ []) ≡ in_front j ts t.result
snoc_result j [] t = refl
snoc_result j (a ∷ []) t = refl
snoc_result j (a ∷ b ∷ ts) t = ap (joined_result j a) (snoc_result j (b ∷ ts) t)

snoc_front : (j : Join) (ts : List PartTypeOf) (t : PartTypeOf) (s : ResultKind) → in_front j (ts ++ t ∷ []) s ≡ in_front j ts (joined_result j t s)
snoc_front j [] t s = refl
snoc_front j (a ∷ ts) t s = ap (joined_result j a) (snoc_front j ts t s)

-- the same of the program's types
pub last_taken : (j : Join) (all ts : List PartType) (t : PartType) → all ≡ ts ++ t ∷ [] → chain_result j (map type_of all) ≡ in_front j (map type_of ts) (type_of t).result
last_taken j all ts t e = ap (λ us. chain_result j (map type_of us)) e ∙ ap (chain_result j) (map-append type_of ts (t ∷ [])) ∙ snoc_result j (map type_of ts) (type_of t)

pub next_taken : (j : Join) (all ts : List PartType) (t : PartType) (s : ResultKind) → all ≡ ts ++ t ∷ [] → in_front j (map type_of all) s ≡ in_front j (map type_of ts) (joined_result j (type_of t) s)
next_taken j all ts t s e = ap (λ us. in_front j (map type_of us) s) e ∙ ap (λ us. in_front j us s) (map-append type_of ts (t ∷ [])) ∙ snoc_front j (map type_of ts) (type_of t) s

pub ruleset taken = (last_taken, next_taken)

-- what is held between members, from the first one on
held_behind_first : (t : PartTypeOf) (ts : List PartTypeOf) → held_behind (held_piece t.to) ts ≡ held_pieces (t ∷ ts)
held_behind_first t [] = refl
held_behind_first t (u ∷ ts) = ap (λ n. held_piece t.to + n) (held_behind_first u ts)

pub held_behind_none : (ts : List PartTypeOf) → held_behind 0 ts ≡ held_pieces ts
held_behind_none [] = refl
held_behind_none (t ∷ ts) = zero-add _ ∙ held_behind_first t ts

-- the last member
pub last_is : (ts : List PartType) (t : PartType) → Some t ≡ slice_get ts (length ts - 1) → last_type (map type_of ts) ≡ type_of t
last_is [] t h = let f : ⊥ = cc in absurd f
last_is (a ∷ []) t h = let e : a ≡ t = cc in ap type_of e
last_is (a ∷ b ∷ ts) t h =
    let k : length (a ∷ b ∷ ts) - 1 ≡ suc (length (b ∷ ts) - 1) = omega arith in
    last_is (b ∷ ts) t (h ∙ ap (slice_get (a ∷ b ∷ ts)) k)

pub last_gives : (f : Flow) (ts : List PartType) (t : PartType) → Some t ≡ slice_get ts (length ts - 1) → last_output f (map type_of ts) ≡ t.to
last_gives f [] t h = let g : ⊥ = cc in absurd g
last_gives f (a ∷ []) t h = let e : a ≡ t = cc in ap (λ u. u.to) e
last_gives f (a ∷ b ∷ ts) t h =
    let k : length (a ∷ b ∷ ts) - 1 ≡ suc (length (b ∷ ts) - 1) = omega arith in
    last_gives a.to (b ∷ ts) t (h ∙ ap (slice_get (a ∷ b ∷ ts)) k)
