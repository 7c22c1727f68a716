use Rattle.moo_cli_web_frames.proofs.Accepting.{call_append}
use Rattle.moo_cli_web_frames.proofs.endpoint.Endpoint.close.Goals as goal

pub returns-clause-appends : goal.returns-clause-appends
returns-clause-appends c =
    call_append c.close.result _ c.close.new.self c.args.output.now.items c.close.new.output.items c.close.ensures.ok c.close.ensures.err_output
