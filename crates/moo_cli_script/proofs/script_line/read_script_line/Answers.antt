use Rattle.moo_cli_script.specs.ScriptLines.{Asks, step}
use Rattle.moo_cli_script.proofs.Forms.{match_more, no_line, none_of}
use Rattle.moo_cli_script.proofs.script_line.read_script_line.Goals as goal

pub returns : goal.returns
returns c =
    let one = none_of (λ asked. Asks c.args.line.now (step asked)) c.in_ok-found.field-0 c.in_default.is c.in_ok-found.ensures in
    match_more c.read_disk_line.result (λ other. no_line c.args.line.now one other) (λ x a. a) c.read_disk_line.ensures
