use Rattle.std.proofs.Common.{◌≡◌, ◌+◌, ◌≤◌, drop}
use Rattle.websocket.specs.Headers.{fields_of}
use Rattle.moo_cli_web_request.specs.Requests.{count_named}
use Rattle.moo_cli_web_request.proofs.reading.count_named.Given as goal

abbrev pub invariant-loop-field : goal.invariant-loop-field
invariant-loop-field l =
    (l.count ≤ l.field-index) × (l.count + count_named (fields_of l.bytes (drop l.field-index l.fields)) l.name ≡ count_named (fields_of l.bytes l.fields) l.name)
