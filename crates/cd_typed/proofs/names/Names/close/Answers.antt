use Rattle.std.proofs.Common.{ap, sym, refl, ◌∙◌, cond, bytes_eq, Some, true, false, is_some}
use Rattle.std.proofs.lemmas.List.{append-nil}
use Rattle.cd_types.specs.Statements.{CloseSeal, seals_as, closes_as, holds_as, releases_as, is_seal}
use Rattle.cd_typed.specs.Knowing.{known_seal}
use Rattle.cd_typed.proofs.Texts.{text_changed, texts_stay}
use Rattle.cd_typed.proofs.KnownNames.{seal_closed, found_seal_flow, is_known_seal, key_stays, ended_more, no_true, of_name, sealed_more, held_more}
use Rattle.cd_typed.proofs.names.Names.close.Goals as goal

pub returns-in-Some : goal.returns-in-Some
returns-in-Some c before a known there =
    let name = c.args.name.now in
    let flow = found_seal_flow before name c.index_mut.result.now (sym (sym c.index_mut.ensures.value ∙ c.in-Some.ensures.value ∙ known.seals name)) in
    record {
      seals = λ n. text_changed c.args.self.now.seals name c.in-Some.place _ c.get_index_of.ensures.unique c.in-Some.ensures.within (sym c.in-Some.ensures.index) n
          ∙ ap (λ o. cond (bytes_eq name n) (Some (record { flow = c.index_mut.result.now.flow; is_open = false })) o) (known.seals n)
          ∙ ap (λ f. cond (bytes_eq name n) (Some (record { flow = f; is_open = false })) (known_seal before n)) flow
          ∙ seal_closed before name a n there;
      closed = λ n. ended_more (seals_as n) (closes_as n) before (CloseSeal name a) (known.closed n) (λ e. of_name (is_seal before) name n true e there);
      seal_order = texts_stay c.args.self.now.seals c.in-Some.place _ ∙ known.seal_order ∙ sym (sealed_more before (CloseSeal name a) ∙ append-nil _);
      keys = λ n. known.keys n ∙ sym (key_stays before (CloseSeal name a) n refl refl);
      released = λ n. ended_more (holds_as n) (releases_as n) before (CloseSeal name a) (known.released n) no_true;
      key_order = known.key_order ∙ sym (held_more before (CloseSeal name a) ∙ append-nil _);
    }

pub returns-in_default : goal.returns-in_default
returns-in_default c before a known there =
    let name = c.args.name.now in
    no_true (c.in_default.ensures.found ∙ ap is_some (known.seals name) ∙ is_known_seal before name ∙ there)
