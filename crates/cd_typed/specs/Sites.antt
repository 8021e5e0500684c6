-- The program's sites as sites of the rules.
use Rattle.std.specs.Prelude.{ℕ, List}
use Rattle.cd_meaning.specs.Places.{Place, Reads, ReadsInput, Writes, WritesOutput, Marks}
use Rattle.cd_types.specs.Numbering.{ScriptSite}
use Rattle.cd_typed.specs.declared.site.SiteUse.{SiteUse}
use Rattle.cd_typed.specs.declared.site.SiteInfo.{SiteInfo}

-- what a site of this use does, with this name
abbrev pub use_place : SiteUse → List ℕ → Place
use_place SiteUse.Reading name = Reads name
use_place SiteUse.Writing name = Writes name
use_place SiteUse.Marking name = Marks name
use_place SiteUse.Stdin name = ReadsInput
use_place SiteUse.Stdout name = WritesOutput

abbrev pub place_of : SiteInfo → Place
place_of info = use_place info.use_of info.name

-- with where it stands
abbrev pub site_of : SiteInfo → ScriptSite
site_of info = record { statement = info.statement; part = info.part; place = place_of info }
