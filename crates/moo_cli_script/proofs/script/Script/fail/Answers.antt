use Rattle.std.proofs.Common.{◌∙◌}
use Rattle.moo_disk.specs.FailAt.{inner_of}
use Rattle.moo_cli_script.proofs.Crashing.{follows_same_disk}
use Rattle.moo_cli_script.proofs.script.Script.fail.Goals as goal

pub returns-clause-fits : goal.returns-clause-fits
returns-clause-fits g c =
    let l = g.S.Application.layer in
    let server = c.args.self.server in
    let within = (c.a_failing_disk_goes_on.ensures server c.args.self.disk).1 c.requires.follows in
    record {
      follows = (c.a_failing_disk_goes_on.ensures server c.new.result).0
          (follows_same_disk l _ server (inner_of c.args.self.disk) (inner_of c.new.result) (c.new.ensures.inner ∙ c.into_inner.ensures) within);
      alive = c.requires.alive;
      moment_is = c.requires.moment_is;
      top_fits = c.requires.top_fits;
    }
