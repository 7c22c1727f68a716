use Rattle.std.proofs.Common.{map}
use Rattle.moo_cli_web_listener.specs.Names.{AllowsNames}
use Rattle.moo_cli_web_listener.proofs.names.allowed_names.Given as goal

abbrev pub invariant-loop-origin : goal.invariant-loop-origin
invariant-loop-origin l = AllowsNames l.fn.address (map (λ origin. origin.now) l.origins) l.allowed
