use Rattle.std.proofs.Common.{◌≡◌, ap, sym, refl, ◌∙◌, ◌++◌, ◌∷◌, [], cond, bytes_eq, string_bytes, Some, None, true}
use Rattle.std.proofs.lemmas.List.{append-nil}
use Rattle.std.proofs.lemmas.Slice.Eq.{bytes_eq-Decides}
use Rattle.std.specs.String.{string_eq}
use Rattle.indexmap.specs.IndexMap.{get, get_by_text}
use Rattle.cd_types.specs.Statements.{Let, seals_as, closes_as, holds_as, releases_as}
use Rattle.cd_types.specs.Numbering.{sealed_in}
use Rattle.cd_typed.specs.Knowing.{known_seal}
use Rattle.cd_typed.proofs.Texts.{text_updated, text_added}
use Rattle.cd_typed.proofs.KnownNames.{seal_made, unknown_seal, key_stays, ended_more, no_true, sealed_more, held_more}
use Rattle.cd_typed.proofs.names.Names.seal.Goals as goal

pub returns-clause-known : goal.returns-clause-known
returns-clause-known c before a known free flow =
    let name = c.args.name.now in
    let key = c.in_ok-key.key in
    let same : string_bytes key ≡ name = c.in_ok-key.ensures.ok in
    let absent : get string_eq c.args.self.now.seals key ≡ None = known.seals (string_bytes key) ∙ ap (known_seal before) same ∙ unknown_seal before name free in
    record {
      seals = λ n. text_updated c.args.self.now.seals name c.insert.new.self key _ ((bytes_eq-Decides name (string_bytes key)).1 (sym same)) c.in_ok-insert.ensures.updates n
          ∙ ap (λ f. cond (bytes_eq name n) (Some (record { flow = f; is_open = true })) (get_by_text c.args.self.now.seals n)) flow
          ∙ ap (λ o. cond (bytes_eq name n) (Some (record { flow = (a.type None).to; is_open = true })) o) (known.seals n)
          ∙ seal_made before name a n free (known.closed name free);
      closed = λ n. ended_more (seals_as n) (closes_as n) before (Let name a) (known.closed n) no_true;
      seal_order = text_added c.args.self.now.seals c.insert.new.self key _ absent c.in_ok-insert.ensures.entries
          ∙ ap (λ names. names ++ string_bytes key ∷ []) known.seal_order
          ∙ ap (λ bytes. sealed_in before ++ bytes ∷ []) same
          ∙ sym (sealed_more before (Let name a));
      keys = λ n. known.keys n ∙ sym (key_stays before (Let name a) n refl refl);
      released = λ n. ended_more (holds_as n) (releases_as n) before (Let name a) (known.released n) no_true;
      key_order = known.key_order ∙ sym (held_more before (Let name a) ∙ append-nil _);
    }
