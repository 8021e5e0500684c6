use Rattle.std.proofs.Common.{◌∙◌, ap, sym, map}
use Rattle.std.proofs.lemmas.Simd.{map-map}
use Rattle.cd_types.specs.Numbering.{ScriptSite}
use Rattle.cd_typed.specs.Sites.{site_of}
use Rattle.cd_typed.proofs.typed.Typed.sites.Goals as goal

pub returns-clause-places : goal.returns-clause-places
returns-clause-places c script typed =
    sym (map-map (λ (site : ScriptSite). site.place) site_of c.args.self.now.sites) ∙ ap (map (λ (site : ScriptSite). site.place)) typed.sites ∙ c.numbering.ensures.places script
