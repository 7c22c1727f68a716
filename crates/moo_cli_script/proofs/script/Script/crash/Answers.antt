use Rattle.std.proofs.Common.{ℕ, subst}
use Rattle.moo_cli_script.specs.Script.{OpensServer}
use Rattle.moo_cli_script.proofs.Crashing.{crashed}
use Rattle.moo_cli_script.proofs.script.Script.crash.Goals as goal

pub returns-in-Ok-open-clause-crashes : goal.returns-in-Ok-open-clause-crashes
returns-in-Ok-open-clause-crashes g c = record {
  left = c.new.result;
  crashed = crashed c.args.i c.args.self.disk c.new.result c.into_inner.result c.in-Ok.left c.into_inner.ensures c.new.ensures.inner c.in-Ok.ensures.image c.in-Ok.ensures.alone c.in-Ok.ensures.left
      c.new.ensures.left;
  opens = subst (λ (t : ℕ). OpensServer g.S.Application.layer c.new.result t c.in-Ok-open.script) c.requires.moment_is c.in-Ok-open.ensures.opens;
}

pub returns-in-Ok-clause-refused : goal.returns-in-Ok-clause-refused
returns-in-Ok-clause-refused g c = (
  c.new.result,
  crashed c.args.i c.args.self.disk c.new.result c.into_inner.result c.in-Ok.left c.into_inner.ensures c.new.ensures.inner c.in-Ok.ensures.image c.in-Ok.ensures.alone c.in-Ok.ensures.left c.new.ensures.left,
  c.in-Err-open.ensures.refused,
)
