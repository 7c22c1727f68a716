use Rattle.std.proofs.Common.{◌≡◌, ◌++◌, suc, ◌-◌, length}
use Rattle.moo_cli_web_frames.proofs.Reading.{Progress}
use Rattle.moo_cli_web_frames.proofs.endpoint.Endpoint.receive.Given as goal

abbrev pub invariant-loop-made : goal.invariant-loop-made
invariant-loop-made l =
    (l.rounds ≡ suc (length (l.fn.self.input.items ++ l.bytes)))
    × Progress l.rounds l.fn.self.context (l.fn.self.input.items ++ l.bytes) l.fn.payload.items l.fn.output.items (l.rounds - l._made) l.self.context l.self.input.items l.payload.items l.output.items
