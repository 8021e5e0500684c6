-- What is known of names behind statements.
use Rattle.std.specs.Prelude.{◌≡◌, ℕ, false, not, if◌then◌else◌, List, map, Option, Some, None, string_bytes}
use Rattle.indexmap.specs.IndexMap.{keys as in_order, get_by_text}
use Rattle.cd_types.specs.Statements.{Statement, is_seal, is_closed, seal_flow, is_key, is_released}
use Rattle.cd_types.specs.Numbering.{sealed_in, held_in}
use Rattle.cd_typed.specs.declared.names.Seal.{Seal}
use Rattle.cd_typed.specs.declared.names.Key.{Key}
use Rattle.cd_typed.specs.declared.names.Names.{Names}

-- the seal of this name, where one was defined
abbrev pub known_seal : List Statement → List ℕ → Option Seal
known_seal before name = if is_seal before name then Some (record { flow = seal_flow before name; is_open = not (is_closed before name) }) else None

-- and the key
abbrev pub known_key : List Statement → List ℕ → Option Key
known_key before name = if is_key before name then Some (record { is_held = not (is_released before name) }) else None

-- The names are those that the statements defined, in their order. No seal was closed, and no key released, that was not defined.
pub record KnowsNames (before : List Statement) (names : Names) : Type 0 where
  pub seals : (name : List ℕ) → get_by_text names.seals name ≡ known_seal before name
  pub closed : (name : List ℕ) → is_seal before name ≡ false → is_closed before name ≡ false
  pub seal_order : map string_bytes (in_order names.seals) ≡ sealed_in before
  pub keys : (name : List ℕ) → get_by_text names.keys name ≡ known_key before name
  pub released : (name : List ℕ) → is_key before name ≡ false → is_released before name ≡ false
  pub key_order : map string_bytes (in_order names.keys) ≡ held_in before
