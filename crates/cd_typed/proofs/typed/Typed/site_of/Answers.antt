use Rattle.std.proofs.Common.{◌≡◌, ◌≤◌, ◌+◌, ◌∙◌, ap, sym, Some, length, map, option_map, position, arith}
use Rattle.std.proofs.lemmas.List.{length-map}
use Rattle.cd_meaning.specs.Scripts.{script_places}
use Rattle.cd_types.specs.Limits.{site_limit}
use Rattle.cd_types.specs.Numbering.{stands_at, script_sites}
use Rattle.cd_typed.specs.Sites.{site_of}
use Rattle.cd_typed.proofs.Positions.{position_mapped}
use Rattle.cd_typed.proofs.typed.Typed.site_of.Goals as goal

pub returns-in-Some : goal.returns-in-Some
returns-in-Some c script typed =
    let stand : length (script_places script) ≡ length c.args.self.now.sites =
    sym (ap length (c.numbering.ensures.places script)) ∙ length-map (script_sites script) _ ∙ sym (ap length typed.sites) ∙ length-map c.args.self.now.sites site_of in
    let few : length (script_places script) ≤ site_limit = c.typed_scripts.ensures.few_sites script typed.has_type in
    let within = c.in-Some.ensures.within in
    let slice = ap length c.as_slice.ensures in
    ap Some (c.counted.ensures (omega arith))
    ∙ ap (option_map (λ place. place + 1)) (sym c.in-Some.is ∙ c.site_place.ensures.place ∙ sym (position_mapped site_of (stands_at c.args.statement c.args.part) c.as_slice.result.now) ∙ ap (λ sites. position (stands_at c.args.statement c.args.part) (map site_of sites)) c.as_slice.ensures ∙ ap (position (stands_at c.args.statement c.args.part)) typed.sites)

pub returns-in-None : goal.returns-in-None
returns-in-None c script typed =
    ap (option_map (λ place. place + 1)) (sym c.in-None.is ∙ c.site_place.ensures.place ∙ sym (position_mapped site_of (stands_at c.args.statement c.args.part) c.as_slice.result.now) ∙ ap (λ sites. position (stands_at c.args.statement c.args.part) (map site_of sites)) c.as_slice.ensures ∙ ap (position (stands_at c.args.statement c.args.part)) typed.sites)
