use Rattle.std.proofs.Common.{◌≡◌, ◌≤◌, ◌+◌, ℕ, ◌∙◌, ap, sym, length, arith}
use Rattle.std.specs.List.{count_by}
use Rattle.std.proofs.lemmas.List.{length-map}
use Rattle.cd_meaning.specs.Scripts.{script_places}
use Rattle.cd_types.specs.Limits.{site_limit}
use Rattle.cd_types.specs.Numbering.{is_before, script_sites}
use Rattle.cd_typed.specs.Sites.{site_of}
use Rattle.cd_typed.proofs.Positions.{count_mapped}
use Rattle.cd_typed.proofs.typed.Typed.first_site.Goals as goal

pub returns : goal.returns
returns c script typed =
    let stand : length (script_places script) ≡ length c.args.self.now.sites =
    sym (ap length (c.numbering.ensures.places script)) ∙ length-map (script_sites script) _ ∙ sym (ap length typed.sites) ∙ length-map c.args.self.now.sites site_of in
    let few : length (script_places script) ≤ site_limit = c.typed_scripts.ensures.few_sites script typed.has_type in
    let within = c.sites_before-before.ensures.within in
    let slice = ap length c.as_slice.ensures in
    let s = c.args.statement in
    c.counted.ensures (omega arith)
    ∙ ap (λ (n : ℕ). n + 1)
    (c.sites_before-before.ensures.count ∙ ap (count_by (λ site. is_before s (site_of site))) c.as_slice.ensures
    ∙ sym (count_mapped site_of (is_before s) c.args.self.now.sites) ∙ ap (count_by (is_before s)) typed.sites)
    ∙ c.numbering.ensures.first script s
