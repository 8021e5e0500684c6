use Rattle.cd_run.proofs.Infos.{info_at}
use Rattle.cd_run.proofs.calls.info_of.Goals as goal

pub returns : goal.returns
returns c = info_at c.args.sites.now c.args.site.0 c.index-sites-site.result c.requires c.index-sites-site.is
