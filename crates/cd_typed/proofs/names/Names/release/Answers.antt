use Rattle.std.proofs.Common.{ap, sym, refl, ◌∙◌, cond, bytes_eq, Some, true, false, is_some}
use Rattle.std.proofs.lemmas.List.{append-nil}
use Rattle.cd_types.specs.Statements.{Release, seals_as, closes_as, holds_as, releases_as, is_key}
use Rattle.cd_typed.proofs.Texts.{text_changed, texts_stay}
use Rattle.cd_typed.proofs.KnownNames.{key_released, is_known_key, seal_stays, ended_more, no_true, of_name, sealed_more, held_more}
use Rattle.cd_typed.proofs.names.Names.release.Goals as goal

pub returns-in-Some : goal.returns-in-Some
returns-in-Some c before known there =
    let name = c.args.name.now in
    record {
      seals = λ n. known.seals n ∙ sym (seal_stays before (Release name) n refl refl);
      closed = λ n. ended_more (seals_as n) (closes_as n) before (Release name) (known.closed n) no_true;
      seal_order = known.seal_order ∙ sym (sealed_more before (Release name) ∙ append-nil _);
      keys = λ n. text_changed c.args.self.now.keys name c.in-Some.place _ c.get_index_of.ensures.unique c.in-Some.ensures.within (sym c.in-Some.ensures.index) n
          ∙ ap (λ o. cond (bytes_eq name n) (Some (record { is_held = false })) o) (known.keys n)
          ∙ key_released before name n there;
      released = λ n. ended_more (holds_as n) (releases_as n) before (Release name) (known.released n) (λ e. of_name (is_key before) name n true e there);
      key_order = texts_stay c.args.self.now.keys c.in-Some.place _ ∙ known.key_order ∙ sym (held_more before (Release name) ∙ append-nil _);
    }

pub returns-in_default : goal.returns-in_default
returns-in_default c before known there =
    let name = c.args.name.now in
    no_true (c.in_default.ensures.found ∙ ap is_some (known.keys name) ∙ is_known_key before name ∙ there)
