-- What stays of the files.
use Rattle.std.proofs.Common.{◌≡◌, sym, ◌∙◌, ap, subst}
use Rattle.cd_world.specs.Files.{Files}
use Rattle.cd_cli.specs.Streams.{KeepsRest}

pub keeps_on : (f f1 f2 : Files) → KeepsRest f f1 → KeepsRest f1 f2 → KeepsRest f f2
keeps_on f f1 f2 first second = second ∙ ap (λ (g : Files). record g { output = f2.output; given = f2.given }) first

-- what is equal to files that keep the rest keeps it
pub keeps_by : (f f' g : Files) → f' ≡ g → KeepsRest f g → KeepsRest f f'
keeps_by f f' g is keeps = subst (λ (h : Files). KeepsRest f h) (sym is) keeps

-- what is read stays
pub sources_kept : (f f' : Files) → KeepsRest f f' → (f'.contents ≡ f.contents) × (f'.input ≡ f.input)
sources_kept f f' keeps = (ap (λ (g : Files). g.contents) keeps, ap (λ (g : Files). g.input) keeps)

pub contents_kept : (f f' : Files) → KeepsRest f f' → f'.contents ≡ f.contents
contents_kept f f' keeps = ap (λ (g : Files). g.contents) keeps
