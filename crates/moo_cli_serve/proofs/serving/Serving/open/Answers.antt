use Rattle.std.proofs.Common.{refl, sym, ◌∙◌, ap}
use Rattle.std.proofs.lemmas.Result.{err_from_is_err_and}
use Rattle.moo_cli_serve.specs.Console.{new_console}
use Rattle.moo_cli_serve.specs.declared.console.Console.{Console}
use Rattle.moo_cli_serve.proofs.Serviced.{not_started}
use Rattle.moo_cli_serve.proofs.serving.Serving.open.Goals as goal

pub returns-in_err-server-clause-refused : goal.returns-in_err-server-clause-refused
returns-in_err-server-clause-refused g c =
    let p = err_from_is_err_and c.from_residual.result c.from_residual.ensures.1 in rw (p.1, p.2) (not_started g.S.Application.layer g.D.Disk.kind _ c.args.disk c.begin.new.disk c.in_err-server.ensures.refused)

pub returns-in_err-sockets-clause-refused : goal.returns-in_err-sockets-clause-refused
returns-in_err-sockets-clause-refused g c = let p = err_from_is_err_and c.from_residual-in_err-sockets.result c.from_residual-in_err-sockets.ensures.1 in
    rw (p.1, p.2) (_, _, _, c.in_ok-server.ensures.begun)

pub returns-clause-begun : goal.returns-clause-begun
returns-clause-begun g c = record {
  from = c.in_ok-server.ensures.begun;
  none = c.in_ok-sockets.ensures.none;
  most_is = refl;
  idle_is = c.new-silence.ensures;
  logins_are = c.new.ensures;
  console_is = c.new-3.ensures ∙ ap new_console (sym (ap (λ (console : Console). console.is_on) c.new-3.ensures));
}
