use Rattle.moo_cli_serve.proofs.program.run_serve.Goals as goal

pub returns : goal.returns
returns g c = (c.serve_watched.new.watch, c.serve_watched.ensures)
