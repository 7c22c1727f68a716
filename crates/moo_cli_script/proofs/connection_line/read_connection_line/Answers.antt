use Rattle.moo_cli_script.specs.ScriptLines.{IsHex}
use Rattle.moo_cli_script.proofs.Forms.{no_connection_line, no_bytes}
use Rattle.moo_cli_script.proofs.connection_line.read_connection_line.Goals as goal

pub returns-in_default-addressed_after-2 : goal.returns-in_default-addressed_after-2
returns-in_default-addressed_after-2 c =
    no_connection_line c.args.line.now c.in_default.ensures c.in_default-connection_after.ensures c.in_default-addressed_after.ensures
    (λ rest d bytes e a. c.in_default-addressed_after-2.ensures rest d a.0 e a.1)

pub returns-in-None : goal.returns-in-None
returns-in-None c =
    let found = c.in-Some-addressed_after-2.ensures in
    no_connection_line c.args.line.now c.in_default.ensures c.in_default-connection_after.ensures c.in_default-addressed_after.ensures
    (no_bytes (λ bytes. IsHex c.in-Some-addressed_after-2.digits.now bytes.items) c.args.line.now found.0 c.in-Some-addressed_after-2.c c.in-Some-addressed_after-2.digits.now c.in_ok-bytes.field-0 found.1 found.2 c.in-None.is c.in_ok-bytes.ensures)
