use Rattle.std.proofs.Common.{refl, sym, ◌∙◌}
use Rattle.std.proofs.lemmas.List.{append-nil}
use Rattle.cd_types.specs.Statements.{Run, Feed, seals_as, closes_as, holds_as, releases_as}
use Rattle.cd_typed.proofs.KnownNames.{seal_stays, key_stays, ended_more, no_true, sealed_more, held_more}
use Rattle.cd_typed.proofs.names.names_stay.Goals as goal

pub returns-clause-run : goal.returns-clause-run
returns-clause-run c before names a known = record {
  seals = λ n. known.seals n ∙ sym (seal_stays before (Run a) n refl refl);
  closed = λ n. ended_more (seals_as n) (closes_as n) before (Run a) (known.closed n) no_true;
  seal_order = known.seal_order ∙ sym (sealed_more before (Run a) ∙ append-nil _);
  keys = λ n. known.keys n ∙ sym (key_stays before (Run a) n refl refl);
  released = λ n. ended_more (holds_as n) (releases_as n) before (Run a) (known.released n) no_true;
  key_order = known.key_order ∙ sym (held_more before (Run a) ∙ append-nil _);
}

pub returns-clause-feed : goal.returns-clause-feed
returns-clause-feed c before names name a known = record {
  seals = λ n. known.seals n ∙ sym (seal_stays before (Feed name a) n refl refl);
  closed = λ n. ended_more (seals_as n) (closes_as n) before (Feed name a) (known.closed n) no_true;
  seal_order = known.seal_order ∙ sym (sealed_more before (Feed name a) ∙ append-nil _);
  keys = λ n. known.keys n ∙ sym (key_stays before (Feed name a) n refl refl);
  released = λ n. ended_more (holds_as n) (releases_as n) before (Feed name a) (known.released n) no_true;
  key_order = known.key_order ∙ sym (held_more before (Feed name a) ∙ append-nil _);
}
