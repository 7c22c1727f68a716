-- The number with what is left in front of it is that of all.
use Rattle.std.proofs.Common.{◌≡◌, length}
use Rattle.moo_syntax_ast.specs.Spelling.{spelling}
use Rattle.moo_syntax_ast.proofs.Spelled.{spelling_before}
use Rattle.moo_syntax_ast.proofs.name.small_number_of.Given as goal

abbrev pub invariant-loop-last : goal.invariant-loop-last
invariant-loop-last l = spelling_before l.number l.rest ≡ spelling l.text

abbrev pub decreases-loop-last : goal.decreases-loop-last
decreases-loop-last l = length l.rest
