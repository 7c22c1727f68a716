use Rattle.std.proofs.Common.{length}
use Rattle.moo_value.specs.Size.{IsString}
use Rattle.moo_syntax_token.specs.Passing.{place, Passes}
use Rattle.moo_syntax_token.proofs.lexer.pass_line.Given as goal

abbrev pub invariant-loop-rest : goal.invariant-loop-rest
invariant-loop-rest l = Passes l.number (place l.initial.opened) l.line l.initial.spots.items (place l.opened) l.rest l.spots.items × IsString l.rest

abbrev pub decreases-loop-rest : goal.decreases-loop-rest
decreases-loop-rest l = length l.rest
