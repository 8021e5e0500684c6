use Rattle.std.proofs.Common.{◌≡◌, ap, sym, refl, ◌∙◌, ◌++◌, ◌∷◌, [], cond, bytes_eq, string_bytes, Some, None, true}
use Rattle.std.proofs.lemmas.List.{append-nil}
use Rattle.std.proofs.lemmas.Slice.Eq.{bytes_eq-Decides}
use Rattle.std.specs.String.{string_eq}
use Rattle.indexmap.specs.IndexMap.{get}
use Rattle.cd_types.specs.Statements.{Hold, seals_as, closes_as, holds_as, releases_as}
use Rattle.cd_types.specs.Numbering.{held_in}
use Rattle.cd_typed.specs.Knowing.{known_key}
use Rattle.cd_typed.proofs.Texts.{text_updated, text_added}
use Rattle.cd_typed.proofs.KnownNames.{key_made, unknown_key, seal_stays, ended_more, no_true, sealed_more, held_more}
use Rattle.cd_typed.proofs.names.Names.hold.Goals as goal

pub returns-clause-known : goal.returns-clause-known
returns-clause-known c before file known free =
    let name = c.args.name.now in
    let key = c.in_ok-key.key in
    let same : string_bytes key ≡ name = c.in_ok-key.ensures.ok in
    let absent : get string_eq c.args.self.now.keys key ≡ None = known.keys (string_bytes key) ∙ ap (known_key before) same ∙ unknown_key before name free in
    record {
      seals = λ n. known.seals n ∙ sym (seal_stays before (Hold name file) n refl refl);
      closed = λ n. ended_more (seals_as n) (closes_as n) before (Hold name file) (known.closed n) no_true;
      seal_order = known.seal_order ∙ sym (sealed_more before (Hold name file) ∙ append-nil _);
      keys = λ n. text_updated c.args.self.now.keys name c.insert.new.self key _ ((bytes_eq-Decides name (string_bytes key)).1 (sym same)) c.in_ok-insert.ensures.updates n
          ∙ ap (λ o. cond (bytes_eq name n) (Some (record { is_held = true })) o) (known.keys n)
          ∙ key_made before name file n free (known.released name free);
      released = λ n. ended_more (holds_as n) (releases_as n) before (Hold name file) (known.released n) no_true;
      key_order = text_added c.args.self.now.keys c.insert.new.self key _ absent c.in_ok-insert.ensures.entries
          ∙ ap (λ names. names ++ string_bytes key ∷ []) known.key_order
          ∙ ap (λ bytes. held_in before ++ bytes ∷ []) same
          ∙ sym (held_more before (Hold name file));
    }
