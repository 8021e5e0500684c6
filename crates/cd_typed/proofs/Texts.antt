-- Maps with text keys: what a look-up by bytes finds behind a change, and in which order the texts stand.
use Rattle.std.proofs.Common.{◌≡◌, ℕ, ◌<◌, ◌≤◌, true, cond, List, [], ◌∷◌, ◌++◌, map, length, slice_get, get_or, bytes_eq, Some, None, option_map, ap, sym, ◌∙◌, subst, arith, ◌⊎◌, inl, inr, string_bytes, String, Global}
use Rattle.std.proofs.lemmas.List.{map-append}
use Rattle.std.proofs.lemmas.List.Quantifiers.{position-Some}
use Rattle.std.proofs.lemmas.Map.Text.{hash_map_updates_text}
use Rattle.std.proofs.lemmas.Option.{slice_get-map, slice_get-get_or, slice_get_cases}
use Rattle.std.proofs.lemmas.Slice.Eq.{bytes_eq-Decides}
use Rattle.std.specs.HashMap.{HashMap}
use Rattle.std.specs.Map.{keys_of}
use Rattle.std.specs.String.{string_eq, string_eq_equiv}
use Rattle.indexmap.proofs.CallerLemmas.{insert_entry-new, keys-with_value_at, updates-with_value_at}
use Rattle.indexmap.specs.IndexMap.{keys, get, get_by_text, index_of_by, with_value_at, insert_entry, IsUnique, Updates}

module _ {X S : Type 0} (m : HashMap (String Global) X S) where
  -- a look-up by bytes behind the write of a value
  pub text_updated : (name : List ℕ) (n : HashMap (String Global) X S) (k : String Global) (w : X) → bytes_eq name (string_bytes k) ≡ true → Updates string_eq m n k (Some w)
      → (other : List ℕ) → get_by_text n other ≡ cond (bytes_eq name other) (Some w) (get_by_text m other)
  text_updated name n k w same updates other =
      hash_map_updates_text (string_bytes k) m n (Some w) updates other
      ∙ ap (λ bytes. cond (bytes_eq bytes other) (Some w) (get_by_text m other)) (sym ((bytes_eq-Decides name (string_bytes k)).0 same))

  -- the key at a place that was found
  pub found_key : (name : List ℕ) (i : ℕ) → i < length m.entries → index_of_by (λ k. bytes_eq name (string_bytes k)) m ≡ Some i
      → (k : String Global) × (v : X) × (slice_get m.entries i ≡ Some (k, v)) × (bytes_eq name (string_bytes k) ≡ true)
  found_key name i within at = by (slice_get_cases m.entries i).1 where
    by : ((e : String Global × X) × (i < length m.entries) × (slice_get m.entries i ≡ Some e) × (get_or m.entries i e ≡ e)) ⊎ ((length m.entries ≤ i) × (slice_get m.entries i ≡ None))
        → (k : String Global) × (v : X) × (slice_get m.entries i ≡ Some (k, v)) × (bytes_eq name (string_bytes k) ≡ true)
    by (inr past) = absurd (omega arith)
    by (inl got) =
        let passes = position-Some (λ k. bytes_eq name (string_bytes k)) (keys m) i got.0.0 at in
        let key : slice_get (keys m) i ≡ Some got.0.0 = slice_get-map (λ e. e.0) m.entries i ∙ ap (option_map (λ e. e.0)) got.2 in
        let read = slice_get-get_or (keys m) i got.0.0 passes.0 in
        let same : get_or (keys m) i got.0.0 ≡ got.0.0 = cc in
        (got.0.0, got.0.1, got.2, subst (λ k. bytes_eq name (string_bytes k) ≡ true) same passes.1)

  pub text_changed : (name : List ℕ) (i : ℕ) (w : X) → IsUnique string_eq m → i < length m.entries → index_of_by (λ k. bytes_eq name (string_bytes k)) m ≡ Some i
      → (other : List ℕ) → get_by_text (with_value_at m i w) other ≡ cond (bytes_eq name other) (Some w) (get_by_text m other)
  text_changed name i w unique within at other =
      let f = found_key name i within at in
      text_updated name (with_value_at m i w) f.0 w f.3 (updates-with_value_at m i w string_eq_equiv unique f.0 f.1 f.2) other

  pub texts_stay : (i : ℕ) (w : X) → map string_bytes (keys (with_value_at m i w)) ≡ map string_bytes (keys m)
  texts_stay i w = ap (map string_bytes) (keys-with_value_at m i w)

  -- a new key goes last
  pub text_added : (n : HashMap (String Global) X S) (k : String Global) (w : X) → get string_eq m k ≡ None → n.entries ≡ insert_entry string_eq m.entries k w
      → map string_bytes (keys n) ≡ map string_bytes (keys m) ++ string_bytes k ∷ []
  text_added n k w absent is =
      ap (λ es. map string_bytes (keys_of es)) (is ∙ insert_entry-new string_eq m k w absent)
      ∙ ap (map string_bytes) (map-append (λ e. e.0) m.entries ((k, w) ∷ []))
      ∙ map-append string_bytes (keys m) (k ∷ [])
