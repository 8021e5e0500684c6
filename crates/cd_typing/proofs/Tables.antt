-- Lists of types as parts begin and end.
use Rattle.std.proofs.Common.{◌≡◌, ℕ, ◌+◌, ◌-◌, ◌≤◌, None, false, List, [], ◌∷◌, ◌++◌, length, map, slice_set, ap, sym, ◌∙◌, arith, append_assoc, length-append}
use Rattle.std.proofs.Math.Seq.{set-append_seam}
use Rattle.std.proofs.lemmas.List.{map-append, map-set, length-map}
use Rattle.cd_types.specs.Chains.{no_type}
use Rattle.cd_types.specs.Flows.{PartType as PartTypeOf}
use Rattle.cd_part_types.specs.declared.part_type.PartType.{PartType}
use Rattle.cd_part_types.specs.declared.part_type.ResultKind.TheVariants as kind
use Rattle.cd_part_types.specs.Results.{unit_is}
use Rattle.cd_part_types.specs.Types.{type_of}

abbrev unknown : PartType
unknown = record { from = None; to = None; result = kind.Unit; exact = false; idle = false; bound = 0 }

unknown_is : type_of unknown ≡ no_type
unknown_is = ap (λ r. record { from = None; to = None; result = r; exact = false; idle = false; bound = 0 }) unit_is

pub put_unknown : (xs ys : List PartType) → ys ≡ xs ++ unknown ∷ [] → map type_of ys ≡ map type_of xs ++ no_type ∷ []
put_unknown xs ys e = ap (map type_of) e ∙ map-append type_of xs (unknown ∷ []) ∙ ap (λ t. map type_of xs ++ t ∷ []) unknown_is

pub set_typed : (xs : List PartType) (i : ℕ) (t u : PartType) → t ≡ u → map type_of (slice_set xs i t) ≡ slice_set (map type_of xs) i (type_of u)
set_typed xs i t u e = map-set type_of xs i t ∙ ap (λ v. slice_set (map type_of xs) i (type_of v)) e

-- a part's place is written behind the parts in it
pub write_in_front : (before inner : List PartTypeOf) (t u : PartTypeOf) (n : ℕ) → n ≡ length before + 1 → slice_set ((before ++ u ∷ []) ++ inner) (n - 1) t ≡ before ++ t ∷ inner
write_in_front before inner t u n e =
    let i : n - 1 ≡ length before = omega arith in
    ap (λ k. slice_set ((before ++ u ∷ []) ++ inner) k t) i ∙ ap (λ xs. slice_set xs (length before) t) (append_assoc before (u ∷ []) inner) ∙ set-append_seam before u inner t

pub stands : (xs : List PartType) (before inner : List PartTypeOf) (u : PartTypeOf) (n : ℕ) → map type_of xs ≡ (before ++ u ∷ []) ++ inner → n ≡ length before + 1 → n ≤ length xs
stands xs before inner u n e h =
    let a : length xs ≡ length ((before ++ u ∷ []) ++ inner) = sym (length-map xs type_of) ∙ ap length e in
    let b : length ((before ++ u ∷ []) ++ inner) ≡ length (before ++ u ∷ []) + length inner = length-append (before ++ u ∷ []) inner in
    let d : length (before ++ u ∷ []) ≡ length before + 1 = length-append before (u ∷ []) in
    omega (arith, a, b, d, h)
